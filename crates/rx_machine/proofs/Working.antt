-- What an open attempt and its seat have in common.
use Rattle.std.proofs.Common.{◌≡◌, ℕ, zero, suc, ◌<◌, refl, ap, subst, arith, take}
use Rattle.std.specs.Prelude.{Some, None}
use Rattle.rx_shape.specs.Asks.{IsPlanned}
use Rattle.rx_shape.specs.Versions.{IsStale}
use Rattle.rx_shape.specs.Layout.{Layout, home}
use Rattle.rx_port.specs.declared.views.View.{View}
use Rattle.rx_port.specs.Core.{own_of}
use Rattle.rx_machine.specs.declared.machine_states.Stage.{Stage}
use Rattle.rx_machine.specs.declared.machine_states.Stage.TheVariants.{Reading, Writing, Waiting}
use Rattle.rx_machine.specs.declared.machine_states.MachineState.{MachineState}
use Rattle.rx_machine.specs.AnyShapes.{any_taken}
use Rattle.rx_machine.specs.Operations.{Unsettled, Operation, IsShown, IsUnderWay, Follows}
use Rattle.rx_machine.specs.MachineStates.{intent_of, outlook_by, writes_by, progress_of, progress_if, outlook_if, operation_of, IsRunning, IsGoing}

pub by_stage : {A : Type 0} (stage : Stage) → (stage ≡ Reading → A) → (stage ≡ Writing → A) → (stage ≡ Waiting → A) → A
by_stage Reading f g h = f refl
by_stage Writing f g h = g refl
by_stage Waiting f g h = h refl

-- the operation of an open attempt
abbrev pub opened : MachineState → Operation
opened state = record {
  place = state.home;
  object = state.object;
  call = state.call;
  ended = state.ended;
  progress = Some (progress_of state);
  outlook = outlook_by state.stage (intent_of state);
}

-- the operation where none is open
abbrev pub shut : MachineState → Operation
shut state = record { place = state.home; object = state.object; call = state.call; ended = state.ended; progress = None; outlook = Unsettled }

abbrev at : MachineState → ℕ → Operation
at state n = record {
  place = state.home;
  object = state.object;
  call = state.call;
  ended = state.ended;
  progress = progress_if n (progress_of state);
  outlook = outlook_if n (outlook_by state.stage (intent_of state));
}

at_open : (state : MachineState) (n : ℕ) → 0 < n → at state n ≡ opened state
at_open state zero h = absurd (omega arith)
at_open state (suc n) h = refl

pub open_is : (state : MachineState) → 0 < state.made → operation_of state ≡ opened state
open_is state many = at_open state state.made many

pub shut_is : (state : MachineState) → state.made ≡ 0 → operation_of state ≡ shut state
shut_is state e = ap (at state) e

module _ (l : Layout) (v : View) (state : MachineState) (h : IsGoing l v state) where
  pub going_running : IsRunning state
  going_running = h.work_is.running h.many

  pub going_follows : Follows l v (opened state)
  going_follows = subst (λ x. Follows l v x) (open_is state h.many) h.follows

  pub going_under : IsUnderWay v (opened state) (progress_of state)
  going_under = going_follows.under_way

  pub going_part : state.home.part ≡ (home l state.object).part
  going_part = ap (λ x. x.part) going_follows.place_is

  pub going_planned : state.stage ≡ Writing
      → IsPlanned state.home state.call state.root (any_taken state.shape state.root) (own_of v state.object) state.plan.root state.plan.writes.items state.plan.trade.pairs.items state.reply
  going_planned e =
      let s : IsShown state.home state.call (progress_of state) (own_of v state.object) (outlook_by Writing (intent_of state)) = subst (λ st. IsShown state.home state.call (progress_of state) (own_of v state.object) (outlook_by st (intent_of state))) e going_under.shown in
      s.0

  pub going_stale : state.stage ≡ Waiting → IsStale state.home state.root (any_taken state.shape state.root)
  going_stale e =
      let s : IsShown state.home state.call (progress_of state) (own_of v state.object) (outlook_by Waiting (intent_of state)) = subst (λ st. IsShown state.home state.call (progress_of state) (own_of v state.object) (outlook_by st (intent_of state))) e going_under.shown in
      s.0

  pub going_writes : state.stage ≡ Writing → (progress_of state).writes ≡ take state.written state.plan.writes.items
  going_writes e = ap (λ st. writes_by st state.written state.plan.writes.items) e
