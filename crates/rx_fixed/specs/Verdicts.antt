-- What the test for fixed priorities answers.
use Rattle.std.specs.Prelude.{ℕ, ◌≤◌, ◌<◌, length, Option, Some, None}
use Rattle.rx_set.specs.System.{System, rank}
use Rattle.rx_set.specs.Admission.{Serves, ranked_task, unserved}
use Rattle.rx_fixed.specs.declared.verdicts.Verdict.{Verdict}
use Rattle.rx_fixed.specs.declared.verdicts.Verdict.TheVariants.{Yes, No}

-- yes where no rank is unserved, and else no with the least rank that no t serves
abbrev pub verdict_by : Option ℕ → Verdict
verdict_by None = Yes
verdict_by (Some place) = No place

abbrev pub verdict_of : System → Verdict
verdict_of system = verdict_by (unserved system)

-- no t serves the task of this rank, and each task of a lower rank is served
pub record IsLeastUnserved (system : System) (place : ℕ) : Type 0 where
  pub known : (1 ≤ place) × (place ≤ length system.tasks)
  pub fails : (t : ℕ) → ¬ Serves system (ranked_task system place) t
  pub lower : (task : ℕ) → task < length system.tasks → rank system task < place → (t : ℕ) × Serves system task t
