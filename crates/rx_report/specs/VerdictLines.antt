-- The lines of the test for fixed priorities, byte by byte.
use Rattle.std.specs.Prelude.{ℕ, List, ◌++◌, codes, Option, Some, None}
use Rattle.rx_set.specs.System.{System, TaskRow, task_at}
use Rattle.rx_set.specs.Admission.{ranked_task}
use Rattle.rx_fixed.specs.declared.verdicts.Verdict.{Verdict}
use Rattle.rx_fixed.specs.declared.verdicts.Verdict.TheVariants.{Yes, No}
use Rattle.rx_report.specs.Lines.{spaced}

-- what the test answers: `test yes`, or `test no rank` and the rank
abbrev pub verdict_text : Verdict → List ℕ
verdict_text Yes = codes "test yes"
verdict_text (No rank) = codes "test no rank" ++ spaced rank

-- the line of what the test answers
abbrev pub fixed_line : Verdict → List ℕ
fixed_line verdict = verdict_text verdict ++ codes "\n"

-- the task that has a rank
abbrev pub task_ranked : System → ℕ → TaskRow
task_ranked system rank = task_at system (ranked_task system rank)

-- the least time, or `fails`
abbrev pub time_text : Option ℕ → List ℕ
time_text (Some least) = codes " least" ++ spaced least
time_text None = codes " fails"

-- the line of a rank: its number, the name of its task, its least time or `fails`, and its task's deadline
abbrev pub rank_line : System → ℕ → Option ℕ → List ℕ
rank_line system rank least =
    codes "rank" ++ spaced rank ++ codes " " ++ (task_ranked system rank).name ++ time_text least
    ++ codes " deadline" ++ spaced (task_ranked system rank).deadline ++ codes "\n"
