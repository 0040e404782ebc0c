-- The lines of the test for earliest deadlines first, and of the counts of an interval, byte by byte.
use Rattle.std.specs.Prelude.{ℕ, List, ◌++◌, codes}
use Rattle.rx_edf.specs.declared.verdicts.EdfVerdict.{EdfVerdict}
use Rattle.rx_edf.specs.declared.verdicts.EdfVerdict.TheVariants.{Yes, No, Wide, Long}
use Rattle.rx_report.specs.Lines.{spaced}

-- the words of what the test answers
abbrev pub verdict_text : EdfVerdict → List ℕ
verdict_text Yes = codes " yes"
verdict_text (No t need) = codes " no t" ++ spaced t ++ codes " need" ++ spaced need
verdict_text Wide = codes " wide"
verdict_text (Long points) = codes " long" ++ spaced points

-- the line of what the test answers: `test yes`, `test no t` with the time and what is due in it, `test wide`, or `test
-- long` with the number of jobs
abbrev pub edf_line : EdfVerdict → List ℕ
edf_line verdict = codes "test" ++ verdict_text verdict ++ codes "\n"

-- the line of an interval: its ends, and how many retries and preemptions there are in it
abbrev pub window_line : ℕ → ℕ → ℕ → ℕ → List ℕ
window_line a b retries preemptions =
    codes "window" ++ spaced a ++ spaced b ++ codes " retries" ++ spaced retries ++ codes " preemptions" ++ spaced preemptions ++ codes "\n"
