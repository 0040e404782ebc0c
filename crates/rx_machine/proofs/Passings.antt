-- Idle steps that are passed over.
use Rattle.std.proofs.Common.{◌≡◌, ◌≢◌, ℕ, zero, suc, ◌+◌, ◌<◌, ◌≤◌, ◌-◌, List, length, inl, refl, sym, ap, ◌∙◌, subst, arith}
use Rattle.std.specs.Prelude.{replicate}
use Rattle.std.proofs.lemmas.List.{length-take-le}
use Rattle.rx_shape.specs.declared.plans.Taken.{Taken}
use Rattle.rx_machine.specs.declared.steps.Step.TheVariants.{Idle}
use Rattle.rx_machine.specs.declared.machine_states.Stage.{Stage}
use Rattle.rx_machine.specs.declared.machine_states.Stage.TheVariants.{Reading, Writing, Waiting}
use Rattle.rx_machine.specs.declared.machine_states.MachineState.{MachineState}
use Rattle.rx_machine.specs.AnyShapes.{any_taken}
use Rattle.rx_seq.specs.Table.{attempt_steps}
use Rattle.rx_machine.specs.Operations.{Intent, Outlook, Progress, Operation, goes_on}
use Rattle.rx_machine.specs.Turns.{IsRun, IsIdleRun, IsThrough, Passes}
use Rattle.rx_machine.specs.MachineStates.{intent_of, outlook_by, writes_by, progress_of, operation_of, IsMachineState, HasNoWrite, HasPassed}
use Rattle.rx_machine.proofs.Idlings.{raised, busy, raised_work, raised_is, raised_follows}
use Rattle.rx_machine.proofs.Working.{opened, open_is}

-- a machine whose attempt has made so many steps
abbrev at : Operation → Progress → Outlook → ℕ → Operation
at machine progress outlook made = goes_on machine (record progress { made = made }) outlook

-- idle steps raise the number of steps alone
idle_run : (machine : Operation) (progress : Progress) (outlook : Outlook) (count made : ℕ) → 1 + length progress.reads + length progress.writes ≤ made → made + count < attempt_steps machine.place.part
    → IsRun (at machine progress outlook made) (replicate count Idle) (at machine progress outlook (made + count))
idle_run machine progress outlook zero made many few = ap (at machine progress outlook) (let e : made + 0 ≡ made = omega arith in e)
idle_run machine progress outlook (suc count) made many few =
    let e : made + 1 + count ≡ made + suc count = omega arith in (
      at machine progress outlook (made + 1),
      record {
        progress = record progress { made = made };
        is = refl;
        next = record progress { made = made + 1 };
        outlook = outlook;
        new_is = refl;
        one = refl;
        early = omega arith;
        idle = omega arith;
      },
      subst (λ n. IsRun (at machine progress outlook (made + 1)) (replicate count Idle) (at machine progress outlook n)) e (idle_run machine progress outlook count (made + 1) (omega arith) (omega arith)),
    )

through_by : (stage : Stage) (made root : ℕ) (reads : List Taken) (written : ℕ) (plan : Intent) → stage ≢ Reading → (stage ≡ Writing → written ≡ length plan.writes)
    → IsThrough (record { made = made; expected = root; reads = reads; writes = writes_by stage written plan.writes }) (outlook_by stage plan)
through_by Reading made root reads written plan apart all = absurd (apart refl)
through_by Writing made root reads written plan apart all = let a = all refl in length-take-le written plan.writes (omega arith) ∙ a
through_by Waiting made root reads written plan apart all = tt

module _ (state : MachineState) (h : IsMachineState state) (many : 0 < state.made) (none : HasNoWrite state) where
  some_steps : 1 ≤ state.steps
  some_steps = let s = h.steps in let e = (h.running many).early in omega arith

  last : state.steps - 1 + 1 ≡ attempt_steps state.home.part
  last = let s = h.steps in let e = some_steps in omega arith

  later : state.made ≤ state.steps - 1
  later = let s = h.steps in let e = (h.running many).early in omega arith

  abbrev passed : MachineState
  passed = raised state (state.steps - 1)

  old_is : operation_of state ≡ opened state
  old_is = open_is state many

  new_is : operation_of passed ≡ opened passed
  new_is = raised_is state h many none (state.steps - 1) later

  through : IsThrough (progress_of state) (outlook_by state.stage (intent_of state))
  through = through_by state.stage state.made state.root (any_taken state.shape state.root) state.written (intent_of state) none.stage none.all

  passes : Passes (opened state) (opened passed)
  passes = inl (record {
    progress = progress_of state;
    is = refl;
    through = through;
    made = state.steps - 1;
    new_is = refl;
    later = later;
    last = last;
  })

  idle : IsIdleRun (opened state) (opened passed)
  idle =
      let count = state.steps - 1 - state.made in
      let m = later in
      let n = last in
      let e : state.made + count ≡ state.steps - 1 = omega arith in (
        count,
        subst (λ x. IsRun (opened state) (replicate count Idle) (at (opened state) (progress_of state) (outlook_by state.stage (intent_of state)) x)) e
            (idle_run (opened state) (progress_of state) (outlook_by state.stage (intent_of state)) count state.made (busy state h many none) (omega arith)),
      )

  pub passed_on : HasPassed state (raised state (state.steps - 1))
  passed_on = record {
    passes = subst (λ (x : Operation × Operation). Passes x.0 x.1) (λ k. (sym old_is k, sym new_is k)) passes;
    idle = subst (λ (x : Operation × Operation). IsIdleRun x.0 x.1) (λ k. (sym old_is k, sym new_is k)) idle;
    follows = raised_follows state h many none (state.steps - 1) later;
    work_is = raised_work state h many none (state.steps - 1) later (let n = last in omega arith);
  }
