-- A step that reads.
use Rattle.std.proofs.Common.{◌≡◌, ℕ, ◌+◌, ◌*◌, ◌<◌, ◌≤◌, inl, inr, List, [], ◌∷◌, ◌++◌, length, refl, sym, ap, ◌∙◌, subst, arith}
use Rattle.std.specs.Prelude.{Some, IfSome}
use Rattle.rx_shape.specs.declared.plans.Taken.{Taken}
use Rattle.rx_shape.specs.Forms.{form_of, stock_as, stock_size, InRange}
use Rattle.rx_shape.specs.Layout.{Layout, home}
use Rattle.rx_port.proofs.Seating.{length-end}
use Rattle.rx_port.specs.declared.views.Attempt.{Attempt}
use Rattle.rx_port.specs.declared.views.Core.{Core}
use Rattle.rx_port.specs.declared.views.View.{View}
use Rattle.rx_port.specs.Core.{own_of, read_view}
use Rattle.rx_port.specs.Events.{DidRead, IsOpen}
use Rattle.rx_machine.specs.declared.steps.Step.TheVariants.{Going}
use Rattle.rx_machine.specs.declared.machine_states.MachineState.{MachineState}
use Rattle.rx_machine.specs.declared.any_shape.AnyShape.{AnyShape}
use Rattle.rx_machine.specs.AnyShapes.{any_taken, any_home, any_asked}
use Rattle.rx_seq.specs.declared.kinds.Kind.{Kind}
use Rattle.rx_seq.specs.declared.kinds.Kind.TheVariants.{Cell, Queue, Registers, List as Ordered}
use Rattle.rx_seq.specs.Table.{attempt_by, attempt_steps}
use Rattle.rx_machine.specs.Operations.{Unsettled, position, goes_on, IsBusy, attempt_for, IsShown, Follows}
use Rattle.rx_machine.specs.Turns.{Turns}
use Rattle.rx_machine.specs.MachineStates.{intent_of, outlook_by, writes_by, progress_of, operation_of, IsCounted, IsIdleTrade, IsMachineState, IsGoing, IsNextPlace, HasStepped}
use Rattle.rx_machine.proofs.Working.{opened, open_is, going_running, going_follows, going_under, going_part}

-- an object with a place has steps for all words before the last one
fits_by : (kind : Kind) (cap seats first place r : ℕ) → first ≤ place → place < first + stock_as (form_of kind) cap * (seats + 1) → r < cap + 2 → 1 + r + 1 < attempt_by kind cap
fits_by Cell cap seats first place r from below few = absurd (omega arith)
fits_by Queue cap seats first place r from below few = omega arith
fits_by Ordered cap seats first place r from below few = omega arith
fits_by Registers cap seats first place r from below few = omega arith

-- the state after it
abbrev pub did_read : MachineState → AnyShape → MachineState
did_read state shape = record state { made = state.made + 1; shape = shape }

module _ (l : Layout) (v : View) (state : MachineState) (h : IsGoing l v state) (place word : ℕ) (next : IsNextPlace state place) where
  taken : List Taken
  taken = any_taken state.shape state.root

  pub in_home : InRange (home l state.object) place
  in_home = subst (λ x. InRange x place) (going_follows l v state h).place_is next.range

  counted : state.made ≡ 1 + length (any_taken state.shape state.root)
  counted = subst (λ st. IsCounted st state.made (length (any_taken state.shape state.root)) state.written (length state.plan.writes.items)) next.stage (going_running l v state h).counted

  no_writes : (progress_of state).writes ≡ []
  no_writes = ap (λ st. writes_by st state.written state.plan.writes.items) next.stage

  busy : IsBusy (progress_of state)
  busy = let c = counted in let n = ap length no_writes in omega arith

  early : state.made + 1 < attempt_steps state.home.part
  early =
      let r = in_home in
      let below : place < (home l state.object).first + stock_size (home l state.object).part * (l.seats + 1) = r.below in
      let f : 1 + length (any_taken state.shape state.root) + 1 < attempt_steps (home l state.object).part =
      fits_by (home l state.object).part.kind (home l state.object).part.cap l.seats (home l state.object).first place (length (any_taken state.shape state.root)) r.from below (subst (λ part. length (any_taken state.shape state.root) < part.cap + 2) (going_part l v state h) next.few) in
      let c = counted in
      subst (λ part. state.made + 1 < attempt_steps part) (sym (going_part l v state h)) (omega arith)

  pub can_read : IsOpen l v state.object
  can_read = record {
    attempt = attempt_for (opened state) (progress_of state);
    is = (going_under l v state h).is_open;
    on = refl;
    few = subst (λ part. length (any_taken state.shape state.root) < part.cap + 2) (going_part l v state h) next.few;
  }

  module _ (shape : AnyShape) (more : any_taken shape state.root ≡ any_taken state.shape state.root ++ (record { place = place; word = word }) ∷ []) (home_is : any_home shape ≡ any_home state.shape) (call_is : any_asked shape ≡ any_asked state.shape) where
    longer : length (any_taken shape state.root) ≡ length (any_taken state.shape state.root) + 1
    longer = ap length more ∙ length-end (any_taken state.shape state.root) (record { place = place; word = word })

    read_work : IsMachineState (did_read state shape)
    read_work =
        let r = going_running l v state h in
        record {
          part = h.work_is.part;
          fits = h.work_is.fits;
          places = h.work_is.places;
          steps = h.work_is.steps;
          running = λ _. record {
            shape_home = home_is ∙ r.shape_home;
            shape_call = call_is ∙ r.shape_call;
            room = r.room;
            here = r.here;
            early = early;
            few = let n = longer in let b = next.few in omega arith;
            counted = subst (λ st. IsCounted st (state.made + 1) (length (any_taken shape state.root)) state.written (length state.plan.writes.items)) (sym next.stage) (let n = longer in let c = counted in omega arith);
            trade = subst (λ st. IsIdleTrade st (did_read state shape)) (sym next.stage) tt;
          };
        }

    read_next : operation_of (did_read state shape) ≡ goes_on (operation_of state) (record (progress_of state) { made = state.made + 1; reads = (progress_of state).reads ++ (record { place = place; word = word }) ∷ [] }) Unsettled
    read_next =
        open_is (did_read state shape) (omega arith)
        ∙ ap (λ rs. goes_on (operation_of state) (record (progress_of state) { made = state.made + 1; reads = rs }) (outlook_by state.stage (intent_of state))) more
        ∙ ap (λ st. goes_on (operation_of state) (record (progress_of state) { made = state.made + 1; reads = (progress_of state).reads ++ (record { place = place; word = word }) ∷ [] }) (outlook_by st (intent_of state))) next.stage

    read_turns : Turns (operation_of state) Going (operation_of (did_read state shape))
    read_turns = record {
      next = record (progress_of state) { made = state.made + 1; reads = (progress_of state).reads ++ (record { place = place; word = word }) ∷ [] };
      outlook = Unsettled;
      new_is = read_next;
      one = ap (λ x. position x + 1) (sym (open_is state h.many));
      early = early;
      busy = subst (λ x. IfSome x.progress IsBusy) (sym (open_is state h.many)) busy;
      still = let b = busy in let e = length-end (any_taken state.shape state.root) (record { place = place; word = word }) in omega arith;
    }

    read_follows : (u : View) → u ≡ read_view v (attempt_for (opened state) (progress_of state)) (record { place = place; word = word }) → Follows l u (operation_of (did_read state shape))
    read_follows u is =
        let f = going_follows l v state h in
        subst (λ x. Follows l u x) (sym (open_is (did_read state shape) (omega arith))) (record {
          exists = f.exists;
          place_is = f.place_is;
          fits = f.fits;
          under_way = record {
            is_open = ap (λ x. x.attempt) is ∙ ap (λ rs. Some (record (attempt_for (opened state) (progress_of state)) { reads = rs })) (sym more);
            shown = subst (λ st. IsShown state.home state.call (progress_of (did_read state shape)) (own_of u state.object) (outlook_by st (intent_of state))) (sym next.stage) no_writes;
          };
        })

module _ {P S : Type 0} (l : Layout) (stands : P → S → Core → Type 0) (view : P → S → View) (port : P) (seat : S) (port' : P) (seat' : S) (state : MachineState) (h : IsGoing l (view port seat) state) (place word : ℕ) (next : IsNextPlace state place)
    (event : (a : Attempt) → (view port seat).attempt ≡ Some a → DidRead l (stands port seat) (stands port' seat') (view port seat) (view port' seat') a place word)
    (shape : AnyShape) (more : any_taken shape state.root ≡ any_taken state.shape state.root ++ (record { place = place; word = word }) ∷ []) (home_is : any_home shape ≡ any_home state.shape) (call_is : any_asked shape ≡ any_asked state.shape) where
  pub read_steps : HasStepped l stands view port seat port' seat' state (did_read state shape) Going
  read_steps =
      let v : View = view port seat in
      let under = going_under l v state h in
      let d : DidRead l (stands port seat) (stands port' seat') v (view port' seat') (attempt_for (opened state) (progress_of state)) place word = event (attempt_for (opened state) (progress_of state)) under.is_open in
      record {
        tells = inr (inl (record {
          progress = progress_of state;
          amid = record { is = ap (λ x. x.progress) (open_is state h.many); is_open = under.is_open; early = early l v state h place word next; busy = busy l v state h place word next };
          blank = no_writes l v state h place word next;
          place = place;
          word = word;
          range = in_home l v state h place word next;
          event = d;
          next = read_next l v state h place word next shape more home_is call_is;
        }));
        turns = read_turns l v state h place word next shape more home_is call_is;
        follows = read_follows l v state h place word next shape more home_is call_is (view port' seat') d.view_is;
        work_is = read_work l v state h place word next shape more home_is call_is;
      }
