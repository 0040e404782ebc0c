-- Worked totals, of events of each kind.
use Rattle.std.specs.Prelude.{◌≡◌, refl, [], ◌∷◌, fold}
use Rattle.rx_seq.specs.declared.replies.Reply.TheVariants.{Empty}
use Rattle.rx_set.specs.declared.jobs.Job.{Job}
use Rattle.rx_ledger.specs.declared.events.Event.TheVariants.{Miss, Release, Preempt, Reply, Retry, Finish}
use Rattle.rx_ledger.specs.declared.totals.Totals.{Totals}
use Rattle.rx_ledger.specs.Counts.{counted, zeros}

abbrev first : Job
first = record { task = 0; number = 1 }

abbrev second : Job
second = record { task = 1; number = 1 }

-- some events of each kind, of one kind more than of another
abbrev pub some_of_each : Totals
some_of_each = record { ticks = 0; idle = 0; released = 6; finished = 5; replies = 4; retries = 3; preempted = 2; missed = 1 }

pub each_kind_is_counted :
    fold counted zeros (
    Release 0 first ∷ Release 0 second ∷ Release 1 first ∷ Release 1 second ∷ Release 2 first ∷ Release 2 second
    ∷ Finish 3 first ∷ Finish 3 first ∷ Finish 3 first ∷ Finish 3 first ∷ Finish 3 second
    ∷ Reply 4 3 first 1 Empty 1 ∷ Reply 4 3 first 1 Empty 2 ∷ Reply 5 4 second 2 Empty 3 ∷ Reply 6 5 second 2 Empty 4
    ∷ Retry 7 6 first 1 4 5 ∷ Retry 7 6 first 1 4 6 ∷ Retry 8 6 second 2 4 5
    ∷ Preempt 9 first second ∷ Preempt 10 second first ∷ Miss 11 first ∷ []
    ) ≡ some_of_each
each_kind_is_counted = refl
