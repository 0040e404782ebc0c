-- Worked reports of lanes.
use Rattle.std.specs.Prelude.{ℕ, ◌≡◌, refl, [], ◌∷◌, codes}
use Rattle.std.specs.List.{concat}
use Rattle.std.specs.Fmt.{digits}
use Rattle.rx_seq.specs.declared.calls.Call.{Call}
use Rattle.rx_seq.specs.declared.calls.Call.TheVariants.{Add}
use Rattle.rx_seq.specs.declared.replies.Reply.TheVariants.{Done}
use Rattle.rx_seq.specs.declared.entries.Entry.{Entry}
use Rattle.rx_trace.specs.ReportRows.{overload, retried}
use Rattle.rx_top.specs.LaneReport.{lanes_report}

-- what lanes write of a history in which the first task's two jobs came before those of the second, and of one without operations
abbrev made : ℕ → ℕ → Call → ℕ → ℕ → Entry
made caller index call value tag = record { caller = caller; index = index; object = 0; call = call; reply = Done value; tag = tag }

pub retried_shared : concat (lanes_report retried 1 2 (made 1 2 (Add 5) 12 4 ∷ made 1 1 (Add 5) 7 3 ∷ made 0 2 (Add 1) 2 2 ∷ made 0 1 (Add 1) 1 1 ∷ [])) ≡
    codes "lanes 1 jobs 2\na 1 1 add c 1 -> done 1 tag 1\na 2 1 add c 1 -> done 2 tag 2\nb 1 2 add c 5 -> done 7 tag 3\nb 2 2 add c 5 -> done 12 tag 4\nobject c cell tag 4 state 12\ntotal calls 4\n"
unfolding digits
retried_shared = refl

pub overload_shared : concat (lanes_report overload 2 3 []) ≡ codes "lanes 2 jobs 3\ntotal calls 0\n"
unfolding digits
overload_shared = refl
