-- The first step of an attempt.
use Rattle.std.proofs.Common.{◌≡◌, ℕ, ◌+◌, ◌^◌, ◌<◌, inl, [], length, refl, sym, ap, ◌∙◌, subst, arith, true}
use Rattle.std.specs.Prelude.{Some, None, IfSome}
use Rattle.rx_shape.specs.declared.homes.Home.{Home}
use Rattle.rx_shape.specs.Words.{tag_of, low_of}
use Rattle.rx_shape.specs.Forms.{stock_size, InRange, IsVersion}
use Rattle.rx_shape.specs.Layout.{Layout, home}
use Rattle.rx_shape.proofs.Local.{root_in}
use Rattle.rx_port.specs.declared.views.Core.{Core}
use Rattle.rx_port.specs.declared.views.View.{View}
use Rattle.rx_port.specs.Core.{new_attempt}
use Rattle.rx_port.specs.Events.{Begun}
use Rattle.rx_machine.specs.declared.steps.Step.TheVariants.{Going, Spent}
use Rattle.rx_machine.specs.declared.machine_states.Stage.TheVariants.{Reading}
use Rattle.rx_machine.specs.declared.machine_states.MachineState.{MachineState}
use Rattle.rx_machine.specs.declared.any_shape.AnyShape.{AnyShape}
use Rattle.rx_machine.specs.AnyShapes.{any_taken, any_home, any_asked}
use Rattle.rx_seq.specs.Table.{attempt_steps}
use Rattle.rx_machine.specs.Operations.{Unsettled, position, goes_on, over, begun, IsBusy, Follows}
use Rattle.rx_machine.specs.MachineStates.{operation_of, IsMachineState, HasStepped}
use Rattle.rx_seq.proofs.Attempts.{few_steps}
use Rattle.rx_machine.proofs.Working.{open_is, shut_is}

-- the state after a root with the last tag, and after any other root
abbrev pub spent : MachineState → ℕ → MachineState
spent state root = record state { root = root; ended = true }

abbrev pub loaded : MachineState → ℕ → AnyShape → MachineState
loaded state root shape = record state { made = 1; root = root; shape = shape; stage = Reading }

module _ {P S : Type 0} (l : Layout) (stands : P → S → Core → Type 0) (view : P → S → View) (port : P) (seat : S) (port' : P) (seat' : S) (state : MachineState) (h : IsMachineState state) (first : state.made ≡ 0) (f : Follows l (view port seat) (operation_of state)) (root : ℕ)
    (event : Begun l (stands port seat) (stands port' seat') (view port seat) (view port' seat') state.object state.call root) where
  pub spent_steps : tag_of root + 1 ≡ 2 ^ 40 → HasStepped l stands view port seat port' seat' state (spent state root) (Spent (tag_of root))
  spent_steps last =
      let old : (operation_of state).progress ≡ None = ap (λ x. x.progress) (shut_is state first) in
      let next : operation_of (spent state root) ≡ over (operation_of state) = shut_is (spent state root) first in
      record {
        tells = record { first = old; root = root; event = event; last = last; tag_is = refl; next = next };
        turns = record { first = old; new_is = next };
        follows = subst (λ x. Follows l (view port' seat') x) (sym next) (record { exists = f.exists; place_is = f.place_is; fits = f.fits; under_way = tt });
        work_is = record { part = h.part; fits = h.fits; places = h.places; steps = h.steps; running = λ many. absurd (let e = first in omega arith) };
      }

  module _ (more : tag_of root + 1 < 2 ^ 40) (shape : AnyShape) (taken : any_taken shape root ≡ []) (home_is : any_home shape ≡ state.home) (call_is : any_asked shape ≡ state.call) where
    two : 1 < attempt_steps state.home.part
    two = let few = few_steps state.home.part h.part in omega (arith, few.0)

    here : 0 < stock_size state.home.part → InRange state.home (low_of root)
    here =
        let version : IsVersion (home l state.object) root event.core.words = subst (λ r. IsVersion (home l state.object) r event.core.words) (sym event.root_is) (event.found.lawful.versions state.object f.exists) in
        subst (λ (x : Home). 0 < stock_size x.part → InRange x (low_of root)) (sym f.place_is) (root_in (home l state.object) root event.core.words version)

    next_is : operation_of (loaded state root shape) ≡ goes_on (operation_of state) (begun root) Unsettled
    next_is = open_is (loaded state root shape) (omega arith) ∙ ap (λ rs. goes_on (operation_of state) (record (begun root) { reads = rs }) Unsettled) taken

    pub loaded_steps : HasStepped l stands view port seat port' seat' state (loaded state root shape) Going
    loaded_steps =
        let old : (operation_of state).progress ≡ None = ap (λ x. x.progress) (shut_is state first) in
        record {
          tells = inl (record { first = old; root = root; event = event; more = more; next = next_is });
          turns = record {
            next = begun root;
            outlook = Unsettled;
            new_is = next_is;
            one = let p : position (operation_of state) ≡ 0 = ap position (shut_is state first) in omega arith;
            early = two;
            busy = subst (λ x. IfSome x IsBusy) (sym old) tt;
            still = omega arith;
          };
          follows = subst (λ x. Follows l (view port' seat') x) (sym (open_is (loaded state root shape) (omega arith))) (record {
            exists = f.exists;
            place_is = f.place_is;
            fits = f.fits;
            under_way = record {
              is_open = ap (λ x. x.attempt) event.view_is ∙ ap (λ rs. Some (record (new_attempt state.object state.call root) { reads = rs })) (sym taken);
              shown = refl;
            };
          });
          work_is = record {
            part = h.part;
            fits = h.fits;
            places = h.places;
            steps = h.steps;
            running = λ _. record {
              shape_home = home_is;
              shape_call = call_is;
              room = more;
              here = here;
              early = two;
              few = let n : length (any_taken shape root) ≡ 0 = ap length taken in omega arith;
              counted = let n : length (any_taken shape root) ≡ 0 = ap length taken in omega arith;
              trade = tt;
            };
          };
        }
