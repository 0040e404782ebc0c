-- What is written of the admission test of a set.
use Rattle.std.specs.Prelude.{ℕ, ◌+◌, List, [], ◌∷◌, map, length}
use Rattle.rx_set.specs.declared.policies.Policy.{Policy}
use Rattle.rx_set.specs.declared.policies.Policy.TheVariants.{Rm, Dm, Edf}
use Rattle.rx_set.specs.System.{System, numbers}
use Rattle.rx_set.specs.Admission.{least_time}
use Rattle.rx_fixed.specs.Verdicts.{verdict_of}
use Rattle.rx_edf.specs.Verdicts.{verdict_of as edf_verdict_of}
use Rattle.rx_report.specs.VerdictLines.{fixed_line, rank_line}
use Rattle.rx_report.specs.SpanLines.{edf_line}

-- the line of the test of the set's policy
abbrev pub test_line_by : Policy → System → List ℕ
test_line_by Rm system = fixed_line (verdict_of system)
test_line_by Dm system = fixed_line (verdict_of system)
test_line_by Edf system = edf_line (edf_verdict_of system)

abbrev pub test_line : System → List ℕ
test_line system = test_line_by system.policy system

-- the line of the rank after so many: the least time that serves it, if one does
abbrev pub rank_line_after : System → ℕ → List ℕ
rank_line_after system place = rank_line system (place + 1) (least_time system (place + 1))

-- the lines of the first ranks
abbrev pub first_ranks : System → ℕ → List (List ℕ)
first_ranks system count = map (rank_line_after system) (numbers count)

-- the lines that are written of the test for fixed priorities: its own, and one for each rank
abbrev pub fixed_report : System → List (List ℕ)
fixed_report system = fixed_line (verdict_of system) ∷ first_ranks system (length system.tasks)

-- the lines that are written of the test of the set's policy; under earliest deadlines first its own alone
abbrev pub admit_report_by : Policy → System → List (List ℕ)
admit_report_by Rm system = fixed_report system
admit_report_by Dm system = fixed_report system
admit_report_by Edf system = edf_line (edf_verdict_of system) ∷ []

abbrev pub admit_report : System → List (List ℕ)
admit_report system = admit_report_by system.policy system
