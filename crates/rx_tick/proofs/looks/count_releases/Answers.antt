use Rattle.std.proofs.Common.{slice_set, min, ◌≡◌, ◌≤◌, ◌<◌, ◌+◌, ◌∙◌, ap, sym, refl, subst, append-nil, arith, List, ◌++◌, length, Option}
use Rattle.std.specs.Option.{ForSome}
use Rattle.rx_set.specs.declared.jobs.Job.{Job}
use Rattle.rx_set.specs.Valid.{IsJob}
use Rattle.rx_ledger.specs.declared.events.Event.{Event}
use Rattle.rx_slots.specs.Schedule.{slots}
use Rattle.rx_tick.specs.declared.states.State.{State}
use Rattle.rx_tick.specs.States.{AreBeforeDue, AreOffers, best_of, in_hand, state_at, with_offer}
use Rattle.rx_tick.proofs.Told.{AreBetween, releases_more, releases_all, append_more, between_more, between_few, due_write, next_write, hands_write}
use Rattle.rx_tick.proofs.Chosen.{best_known}
use Rattle.rx_tick.proofs.Joins.{best_with}
use Rattle.rx_tick.proofs.looks.count_releases.Goals as goal

pub loop-task-init : goal.loop-task-init
loop-task-init c = record {
  states = record {
    count = c.requires.states.count;
    done = λ task below. absurd (omega arith);
    rest = λ task above inside. c.requires.states.each task inside;
  };
  told = sym (append-nil _);
  best = c.requires.best;
  dues = c.requires.dues;
  next = λ task below. absurd (omega arith);
  same = λ task. refl;
  last = refl;
  few = omega arith;
}

pub look_at_release-requires-clause-valid : goal.look_at_release-requires-clause-valid
look_at_release-requires-clause-valid c = c.requires.states.valid

pub look_at_release-requires-clause-known : goal.look_at_release-requires-clause-known
look_at_release-requires-clause-known c = omega (arith, c.requires.states.count)

pub look_at_release-requires-clause-state : goal.look_at_release-requires-clause-state
look_at_release-requires-clause-state c = c.loop-task.invariant.states.rest c.loop-task.task (omega arith) (omega (arith, c.requires.states.count))

pub look_at_release-requires-clause-room : goal.look_at_release-requires-clause-room
look_at_release-requires-clause-room c = omega (arith, c.loop-task.invariant.few, c.requires.states.count, c.requires.states.valid.some_tasks.1)

pub loop-task-preserved : goal.loop-task-preserved
loop-task-preserved c =
    let system = c.args.set.now in
    let task = c.loop-task.task in
    let old = c.loop-task.states in
    let now_states = c.look_at_release.new.states in
    let new = state_at now_states task in
    let inside : task < length old = omega (arith, c.loop-task.invariant.states.count, c.requires.states.count) in
    let write : slice_set old task new ≡ now_states = sym c.look_at_release.ensures.write in record {
      states = subst (AreBetween system (slots system c.args.now) c.args.now (task + 1)) write
          (between_more system (slots system c.args.now) c.args.now task old new c.loop-task.invariant.states (omega (arith, c.requires.states.count)) c.look_at_release.ensures.state);
      told = append_more _ _ _ _ _ c.loop-task.invariant.told c.look_at_release.ensures.told
          ∙ ap (λ (es : List Event). c.args.events.now.items ++ es) (sym (releases_more system c.args.now task));
      best =
          c.look_at_release.ensures.best
          ∙ ap (λ (b : Option Job). with_offer system b task (state_at old task) new) c.loop-task.invariant.best
          ∙ sym (best_with system old task new inside (omega (arith, c.requires.states.count)) (ap (λ (s : State). s.finished) c.look_at_release.ensures.same) c.look_at_release.ensures.released)
          ∙ ap (best_of system (length system.tasks)) write;
      dues = subst (AreBeforeDue system (c.args.now + 1) c.look_at_release.new.turn.next_due) write
          (due_write system (c.args.now + 1) c.loop-task.turn.next_due _ old task new inside c.loop-task.invariant.dues c.look_at_release.ensures.sooner c.look_at_release.ensures.due);
      next = λ other below.
          let there = next_write old task c.loop-task.next new inside c.loop-task.invariant.next other below in
          let here = subst (λ (xs : List State). min c.loop-task.next new.next ≤ (state_at xs other).next) write there in
          omega (arith, here);
      same = λ other.
          ap (λ (xs : List State). in_hand (state_at xs other)) (sym write) ∙ hands_write old task new other inside c.look_at_release.ensures.same ∙ c.loop-task.invariant.same other;
      last = c.look_at_release.ensures.last ∙ c.loop-task.invariant.last;
      few = omega (arith, c.loop-task.invariant.few, c.look_at_release.ensures.few);
    }

pub look_at_release-requires-clause-due : goal.look_at_release-requires-clause-due
look_at_release-requires-clause-due c = c.loop-task.invariant.dues.each c.loop-task.task (omega (arith, c.requires.states.count))

pub look_at_release-requires-clause-best : goal.look_at_release-requires-clause-best
look_at_release-requires-clause-best c =
    let offers : AreOffers c.args.set.now c.loop-task.states = record {
      valid = c.requires.states.valid;
      count = c.loop-task.invariant.states.count;
      few = λ task known. omega (arith, between_few c.args.set.now (slots c.args.set.now c.args.now) c.args.now c.loop-task.task c.loop-task.states c.loop-task.invariant.states c.requires.states.valid task known, c.requires.now);
    } in
    subst (λ (o : Option Job). ForSome o (IsJob c.args.set.now)) (sym c.loop-task.invariant.best)
    (best_known c.args.set.now c.loop-task.states (length c.args.set.now.tasks) offers (omega (arith, c.loop-task.invariant.states.count)))

pub returns-clause-best : goal.returns-clause-best
returns-clause-best c = c.loop-task.invariant.best

pub returns-clause-dues : goal.returns-clause-dues
returns-clause-dues c = c.loop-task.invariant.dues

pub returns-clause-releases : goal.returns-clause-releases
returns-clause-releases c = record { each = λ task known. c.loop-task.invariant.next task (omega (arith, c.requires.states.count)) }

pub returns-clause-last : goal.returns-clause-last
returns-clause-last c = c.loop-task.invariant.last

pub returns-clause-states : goal.returns-clause-states
returns-clause-states c = record {
  valid = c.requires.states.valid;
  count = c.loop-task.invariant.states.count;
  each = λ task known. c.loop-task.invariant.states.done task (omega (arith, c.requires.states.count));
}

pub returns-clause-told : goal.returns-clause-told
returns-clause-told c =
    c.loop-task.invariant.told
    ∙ ap (λ (es : List Event). c.args.events.now.items ++ es) (releases_all c.args.set.now c.args.now c.loop-task.task (omega (arith, c.requires.states.count)))

pub returns-clause-few : goal.returns-clause-few
returns-clause-few c = omega (arith, c.loop-task.invariant.few, c.requires.states.count, c.requires.states.valid.some_tasks.1)
