-- The bank of a run: its exchanges against the replies and the retries that are told.
use Rattle.std.proofs.Common.{ℕ, ◌≡◌, ◌+◌, cond, List, [], ◌∷◌, length, map, count_by, Option, Some, None, refl, ◌∙◌, ap, arith}
use Rattle.std.proofs.lemmas.List.Sums.{sum_by-append}
use Rattle.rx_set.specs.declared.jobs.Job.{Job}
use Rattle.rx_set.specs.System.{System}
use Rattle.rx_port.specs.declared.views.Counts.{Counts}
use Rattle.rx_port.specs.Plain.{Whole}
use Rattle.rx_ledger.specs.declared.events.Event.{Event}
use Rattle.rx_ledger.specs.declared.events.Event.TheVariants.{Miss}
use Rattle.rx_ledger.specs.Counts.{is_reply, is_retry}
use Rattle.rx_slots.specs.Schedule.{slots}
use Rattle.rx_slots.specs.Events.{jobs_where, is_missed, misses, events}
use Rattle.rx_tick.specs.Banks.{IsBankOf}
use Rattle.rx_tick.specs.Executive.{Moment, moment}
use Rattle.rx_tick.specs.Sums.{AreSums}
use Rattle.rx_slots.specs.AttemptSlots.{decided_slots}
use Rattle.rx_trace.specs.Report.{run_totals}
use Rattle.rx_trace.specs.RunBanks.{AreReported, IsBankLeft}

-- a miss is neither a reply nor a retry
no_replies : (at : ℕ) (jobs : List Job) → count_by is_reply (map (Miss at) jobs) ≡ 0
no_replies at [] = refl
no_replies at (job ∷ jobs) = no_replies at jobs

no_retries : (at : ℕ) (jobs : List Job) → count_by is_retry (map (Miss at) jobs) ≡ 0
no_retries at [] = refl
no_retries at (job ∷ jobs) = no_retries at jobs

-- as many attempts are decided as replies and retries are told, by that law of the slots' own events
decided_told : (system : System) (n : ℕ) → count_by is_reply (events system n) + count_by is_retry (events system n) ≡ decided_slots (slots system n)
    → decided_slots (slots system n) ≡ (run_totals system n).replies + (run_totals system n).retries
decided_told system n law =
    let late = misses system (slots system n) in
    let jobs = jobs_where system (length (slots system n)) (is_missed system (slots system n)) in
    let replies : (run_totals system n).replies ≡ count_by is_reply (events system n) + count_by is_reply late = sum_by-append (λ (e : Event). cond (is_reply e) 1 0) (events system n) late in
    let retries : (run_totals system n).retries ≡ count_by is_retry (events system n) + count_by is_retry late = sum_by-append (λ (e : Event). cond (is_retry e) 1 0) (events system n) late in
    omega (arith, law, replies, retries, no_replies (length (slots system n)) jobs, no_retries (length (slots system n)) jobs)

are_reported : (system : System) (n : ℕ) (counts : Option Counts) → decided_slots (slots system n) ≡ (run_totals system n).replies + (run_totals system n).retries
    → AreSums system (slots system n) counts → AreReported system n counts
are_reported system n None told sums = tt
are_reported system n (Some counts) told sums = sums.exchanges ∙ told

-- the bank of an executive after so many slots
pub bank_left : (system : System) (ticks : ℕ) (end : Moment) (bank : Whole) → end ≡ moment system ticks end.bank
    → count_by is_reply (events system ticks) + count_by is_retry (events system ticks) ≡ decided_slots (slots system ticks)
    → IsBankOf end.system (slots end.system end.time) bank → AreSums end.system (slots end.system end.time) bank.core.counts → IsBankLeft system ticks bank
bank_left system ticks end bank is law stands sums =
    let by : end.system ≡ system = ap (λ (m : Moment). m.system) is in
    let at_end : end.time ≡ ticks = ap (λ (m : Moment). m.time) is in
    let these : AreSums system (slots system ticks) bank.core.counts = rw (by, at_end) at sums in record {
      history = rw (by, at_end) at stands;
      sums = these;
      told = are_reported system ticks bank.core.counts (decided_told system ticks law) these;
    }
