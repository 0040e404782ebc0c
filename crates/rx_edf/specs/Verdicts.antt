-- What the test for earliest deadlines first answers.
use Rattle.std.specs.Prelude.{ℕ, ◌-◌, ◌/◌, ◌^◌, ◌==◌, nat_le, nat_lt, min, Bool, if◌then◌else◌, List, Option, Some, None}
use Rattle.rx_set.specs.System.{System}
use Rattle.rx_set.specs.Admission.{first_to, due_need}
use Rattle.rx_edf.specs.declared.charged_tasks.ChargedTask.{ChargedTask}
use Rattle.rx_edf.specs.declared.verdicts.EdfVerdict.{EdfVerdict}
use Rattle.rx_edf.specs.declared.verdicts.EdfVerdict.TheVariants.{Yes, No, Wide, Long}
use Rattle.rx_edf.specs.ChargedTasks.{charged_tasks_of, cycle_of, work_of, shortening_of, weighted_shortening_of, points_up_to}

-- the last time that has to be looked at: if any time fails, one of at most this does. It is the cycle where no tick of
-- it is spare, and else the lesser of the cycle and of the weighted shortening, less one, over the spare ticks
abbrev pub last_by : ℕ → ℕ → ℕ → ℕ
last_by whole spare weighted = if spare == 0 then whole else min whole ((weighted - 1) / spare)

abbrev pub last_point : List ChargedTask → ℕ
last_point charged = last_by (cycle_of charged) (cycle_of charged - work_of charged (cycle_of charged)) (weighted_shortening_of charged (cycle_of charged))

-- of a system: its cycle, the work in it, the last time that has to be looked at, and how many jobs are due up to it
abbrev pub cycle : System → ℕ
cycle system = cycle_of (charged_tasks_of system)

abbrev pub work : System → ℕ
work system = work_of (charged_tasks_of system) (cycle system)

abbrev pub last_time : System → ℕ
last_time system = last_point (charged_tasks_of system)

abbrev pub points : System → ℕ
points system = points_up_to (charged_tasks_of system) (last_time system)

-- more is due in t ticks than fits into them
abbrev pub fails : System → ℕ → Bool
fails system t = nat_lt t (due_need system t)

-- no at a time that fails, with what is due in it, and yes where there is none
abbrev pub told : System → Option ℕ → EdfVerdict
told system None = Yes
told system (Some t) = No t (due_need system t)

-- `Long` where more than 1,000,000 jobs are due up to the last time; else `No` at the least time up to it that fails,
-- and `Yes` where none does
abbrev pub verdict_to : System → ℕ → EdfVerdict
verdict_to system last =
    if nat_lt 1000000 (points_up_to (charged_tasks_of system) last) then Long (points_up_to (charged_tasks_of system) last)
    else told system (first_to (fails system) last)

-- `No` at the cycle where the work in it is above it; `Yes` where no deadline is short; else what the times up to the
-- last one say
abbrev pub verdict_in : System → ℕ → EdfVerdict
verdict_in system whole =
    if nat_lt whole (work_of (charged_tasks_of system) whole) then No whole (work_of (charged_tasks_of system) whole)
    else if shortening_of (charged_tasks_of system) == 0 then Yes
    else verdict_to system (last_point (charged_tasks_of system))

-- the answer for a system: `Wide` where the cycle is 2^96 or more, and else what the cycle says
abbrev pub verdict_of : System → EdfVerdict
verdict_of system = if nat_le (2 ^ 96) (cycle system) then Wide else verdict_in system (cycle system)
