-- The steps of an attempt, one after the other.
use Rattle.std.proofs.Common.{◌≡◌, ℕ, suc, ◌+◌, ◌<◌, List, [], ◌∷◌, ◌++◌, length, refl, sym, ap, ◌∙◌, subst, arith}
use Rattle.std.specs.Prelude.{Option, Some, None, IfSome, replicate}
use Rattle.rx_shape.specs.declared.homes.Home.{Home}
use Rattle.rx_machine.specs.declared.steps.Step.{Step}
use Rattle.rx_machine.specs.declared.steps.Step.TheVariants.{Going, Idle, Won, Lost, Spent}
use Rattle.rx_seq.specs.Table.{attempt_steps}
use Rattle.rx_machine.specs.Operations.{Progress, Operation, position, made_of, IsBusy}
use Rattle.rx_machine.specs.Turns.{Goes, Waits, Ends, Turns, IsRun, GoesOn, AllGoOn, IsDecided, IsInOrder}

-- where an attempt stands after a step that does not end it
pub record Moved (old new : Operation) (count : ℕ) : Type 0 where
  pub position_is : position new ≡ position old + count
  pub place_is : new.place ≡ old.place

step_moved : (old new : Operation) (step : Step) → GoesOn step → Turns old step new → Moved old new 1
step_moved old new Going on t = record { position_is = ap position t.new_is ∙ t.one; place_is = ap (λ x. x.place) t.new_is }
step_moved old new Idle on t = record { position_is = ap position t.new_is ∙ t.one ∙ ap (λ p. made_of p + 1) (sym t.is); place_is = ap (λ x. x.place) t.new_is }
step_moved old new (Won reply tag) on t = absurd on
step_moved old new (Lost expected found) on t = absurd on
step_moved old new (Spent tag) on t = absurd on

pub run_moved : (old new : Operation) (steps : List Step) → AllGoOn steps → IsRun old steps new → Moved old new (length steps)
run_moved old new [] on run = record { position_is = let e : position new ≡ position old = ap position run in omega arith; place_is = ap (λ x. x.place) run }
run_moved old new (step ∷ steps) on run =
    let one = step_moved old run.0 step on.0 run.1 in
    let more = run_moved run.0 new steps on.1 run.2 in
    record { position_is = let a = one.position_is in let b = more.position_is in omega arith; place_is = more.place_is ∙ one.place_is }

run_split : (old new : Operation) (steps more : List Step) → IsRun old (steps ++ more) new → (middle : Operation) × IsRun old steps middle × IsRun middle more new
run_split old new [] more run = (old, refl, run)
run_split old new (step ∷ steps) more run = let r = run_split run.0 new steps more run.2 in (r.0, (run.0, run.1, r.1), r.2)

ended_after : (old new now : Operation) → Ends old new now → position old + 1 ≡ attempt_steps old.place.part
ended_after old new now e = let p : position old ≡ e.progress.made = ap made_of e.is in let l = e.last in omega arith

decided_after : (old new : Operation) (last : Step) → IsDecided last → Turns old last new → position old + 1 ≡ attempt_steps old.place.part
decided_after old new Going d t = absurd d
decided_after old new Idle d t = absurd d
decided_after old new (Won reply tag) d t = ended_after old new _ t
decided_after old new (Lost expected found) d t = ended_after old new _ t
decided_after old new (Spent tag) d t = absurd d

pub run_steps : (old new : Operation) (steps : List Step) (last : Step) → old.progress ≡ None → AllGoOn steps → IsDecided last → IsRun old (steps ++ last ∷ []) new → length steps + 1 ≡ attempt_steps old.place.part
run_steps old new steps last none on decided run =
    let s = run_split old new steps (last ∷ []) run in
    let m = run_moved old s.0 steps on s.1 in
    let start : position old ≡ 0 = ap made_of none in
    let many : position s.0 + 1 ≡ attempt_steps old.place.part = decided_after s.0 s.2.0 last decided s.2.1 ∙ ap (λ (x : Home). attempt_steps x.part) m.place_is in
    let at = m.position_is in
    omega arith

-- an attempt one of whose steps was idle
record IsIdling (machine : Operation) : Type 0 where
  progress : Progress
  is : machine.progress ≡ Some progress
  idle : 1 + length progress.reads + length progress.writes < progress.made

busy_of : (o : Option Progress) (p : Progress) → o ≡ Some p → IfSome o IsBusy → IsBusy p
busy_of o p e h = let b : IfSome (Some p) IsBusy = subst (λ x. IfSome x IsBusy) e h in b

goes_not_idling : (old new : Operation) → IsIdling old → Goes old new → ⊥
goes_not_idling old new h t = let b = busy_of old.progress h.progress h.is t.busy in let i = h.idle in omega arith

waits_idling : (old new : Operation) → Waits old new → IsIdling new
waits_idling old new t = record { progress = t.next; is = ap (λ x. x.progress) t.new_is; idle = t.idle }

idling_run : (old new : Operation) (steps : List Step) → IsIdling old → AllGoOn steps → IsRun old steps new → steps ≡ replicate (length steps) Idle
idling_run old new [] h on run = refl
idling_run old new (Going ∷ steps) h on run = absurd (goes_not_idling old run.0 h run.1)
idling_run old new (Idle ∷ steps) h on run = ap (λ xs. Idle ∷ xs) (idling_run run.0 new steps (waits_idling old run.0 run.1) on.1 run.2)
idling_run old new (Won reply tag ∷ steps) h on run = absurd on.0
idling_run old new (Lost expected found ∷ steps) h on run = absurd on.0
idling_run old new (Spent tag ∷ steps) h on run = absurd on.0

pub run_order : (old new : Operation) (steps : List Step) → AllGoOn steps → IsRun old steps new → IsInOrder steps
run_order old new [] on run = record { going = 0; idle = 0; steps_are = refl }
run_order old new (Going ∷ steps) on run = let r = run_order run.0 new steps on.1 run.2 in record { going = suc r.going; idle = r.idle; steps_are = ap (λ xs. Going ∷ xs) r.steps_are }
run_order old new (Idle ∷ steps) on run = record { going = 0; idle = suc (length steps); steps_are = ap (λ xs. Idle ∷ xs) (idling_run run.0 new steps (waits_idling old run.0 run.1) on.1 run.2) }
run_order old new (Won reply tag ∷ steps) on run = absurd on.0
run_order old new (Lost expected found ∷ steps) on run = absurd on.0
run_order old new (Spent tag ∷ steps) on run = absurd on.0
