-- A step that makes no event.
use Rattle.std.proofs.Common.{◌≡◌, ℕ, ◌+◌, ◌<◌, ◌≤◌, ◌≢◌, List, length, refl, sym, ap, ◌∙◌, subst, arith}
use Rattle.std.specs.Prelude.{Some}
use Rattle.std.proofs.lemmas.List.{length-take-le}
use Rattle.rx_seq.specs.declared.calls.Call.{Call}
use Rattle.rx_shape.specs.declared.homes.Home.{Home}
use Rattle.rx_shape.specs.Layout.{Layout}
use Rattle.rx_port.specs.declared.views.Core.{Core}
use Rattle.rx_port.specs.declared.views.View.{View}
use Rattle.rx_port.specs.Core.{own_of}
use Rattle.rx_machine.specs.declared.steps.Step.TheVariants.{Idle}
use Rattle.rx_machine.specs.declared.machine_states.Stage.{Stage}
use Rattle.rx_machine.specs.declared.machine_states.Stage.TheVariants.{Writing, Waiting}
use Rattle.rx_machine.specs.declared.machine_states.MachineState.{MachineState}
use Rattle.rx_machine.specs.AnyShapes.{any_taken}
use Rattle.rx_seq.specs.Table.{attempt_steps}
use Rattle.rx_machine.specs.Operations.{Unsettled, Settled, Outdated, Outlook, Progress, IsShown, IsUnderWay, Follows}
use Rattle.rx_machine.specs.MachineStates.{intent_of, outlook_by, writes_by, progress_of, operation_of, IsCounted, IsIdleTrade, IsMachineState, IsGoing, HasNoWrite, HasStepped}
use Rattle.rx_machine.proofs.Working.{by_stage, opened, open_is, going_running, going_under}

pub shown_later : (place : Home) (call : Call) (progress : Progress) (made : ℕ) (own : List ℕ) (outlook : Outlook) → IsShown place call progress own outlook → IsShown place call (record progress { made = made }) own outlook
shown_later place call progress made own Unsettled h = h
shown_later place call progress made own (Settled plan) h = h
shown_later place call progress made own Outdated h = h

-- the state with so many steps made
abbrev pub raised : MachineState → ℕ → MachineState
raised state made = record state { made = made }

-- where no write is left, the steps up to the last one raise the number of steps alone
module _ (state : MachineState) (h : IsMachineState state) (many : 0 < state.made) (none : HasNoWrite state) where
  counted_as : (stage : Stage) → state.stage ≡ stage → IsCounted stage state.made (length (any_taken state.shape state.root)) state.written (length state.plan.writes.items)
  counted_as stage e = subst (λ st. IsCounted st state.made (length (any_taken state.shape state.root)) state.written (length state.plan.writes.items)) e (h.running many).counted

  pub busy : 1 + length (progress_of state).reads + length (progress_of state).writes ≤ state.made
  busy = by_stage state.stage (λ e. absurd (none.stage e))
      (λ e. let c = counted_as Writing e in
      let n : length (progress_of state).writes ≡ state.written = ap (λ st. length (writes_by st state.written state.plan.writes.items)) e ∙ length-take-le state.written state.plan.writes.items c.0 in omega arith)
      (λ e. let c = counted_as Waiting e in let n : length (progress_of state).writes ≡ 0 = ap (λ st. length (writes_by st state.written state.plan.writes.items)) e in omega arith)

  module _ (made : ℕ) (later : state.made ≤ made) where
    counted_later : IsCounted state.stage made (length (any_taken state.shape state.root)) state.written (length state.plan.writes.items)
    counted_later = by_stage state.stage (λ e. absurd (none.stage e))
        (λ e. let c = counted_as Writing e in let a = none.all e in
        subst (λ st. IsCounted st made (length (any_taken state.shape state.root)) state.written (length state.plan.writes.items)) (sym e) (c.0, omega arith, λ less. absurd (omega arith)))
        (λ e. let c = counted_as Waiting e in subst (λ st. IsCounted st made (length (any_taken state.shape state.root)) state.written (length state.plan.writes.items)) (sym e) (omega arith))

    pub raised_work : made < attempt_steps state.home.part → IsMachineState (raised state made)
    raised_work early =
        let r = h.running many in
        record {
          part = h.part;
          fits = h.fits;
          places = h.places;
          steps = h.steps;
          running = λ _. record {
            shape_home = r.shape_home;
            shape_call = r.shape_call;
            room = r.room;
            here = r.here;
            early = early;
            few = r.few;
            counted = counted_later;
            trade = by_stage state.stage (λ e. absurd (none.stage e)) (λ e. subst (λ st. IsIdleTrade st (raised state made)) (sym e) tt)
                (λ e. subst (λ st. IsIdleTrade st (raised state made)) (sym e) (let t : IsIdleTrade Waiting state = subst (λ st. IsIdleTrade st state) e r.trade in t));
          };
        }

    pub raised_is : operation_of (raised state made) ≡ opened (raised state made)
    raised_is = open_is (raised state made) (omega arith)

    pub raised_follows : (l : Layout) (v : View) → Follows l v (operation_of state) → Follows l v (operation_of (raised state made))
    raised_follows l v follows =
        let f : Follows l v (opened state) = subst (λ x. Follows l v x) (open_is state many) follows in
        let u : IsUnderWay v (opened state) (progress_of state) = f.under_way in
        subst (λ x. Follows l v x) (sym raised_is) (record {
          exists = f.exists;
          place_is = f.place_is;
          fits = f.fits;
          under_way = record { is_open = u.is_open; shown = shown_later state.home state.call (progress_of state) made (own_of v state.object) (outlook_by state.stage (intent_of state)) u.shown };
        })

module _ {P S : Type 0} (l : Layout) (stands : P → S → Core → Type 0) (view : P → S → View) (port : P) (seat : S) (state : MachineState) (h : IsGoing l (view port seat) state) (none : HasNoWrite state) (more : state.made + 1 ≢ state.steps) where
  early : state.made + 1 < attempt_steps state.home.part
  early = let e = (going_running l (view port seat) state h).early in let s = h.work_is.steps in omega arith

  pub idle_steps : HasStepped l stands view port seat port seat state (raised state (state.made + 1)) Idle
  idle_steps =
      let is : (operation_of state).progress ≡ Some (progress_of state) = ap (λ x. x.progress) (open_is state h.many) in
      let later : state.made ≤ state.made + 1 = omega arith in
      let next = raised_is state h.work_is h.many none (state.made + 1) later in
      record {
        tells = record {
          progress = progress_of state;
          is = is;
          is_open = (going_under l (view port seat) state h).is_open;
          early = early;
          port_is = refl;
          seat_is = refl;
          outlook = outlook_by state.stage (intent_of state);
          next = next;
        };
        turns = record {
          progress = progress_of state;
          is = is;
          next = record (progress_of state) { made = state.made + 1 };
          outlook = outlook_by state.stage (intent_of state);
          new_is = next;
          one = refl;
          early = early;
          idle = let b = busy state h.work_is h.many none in omega arith;
        };
        follows = raised_follows state h.work_is h.many none (state.made + 1) later l (view port seat) h.follows;
        work_is = raised_work state h.work_is h.many none (state.made + 1) later early;
      }
