-- Worked lines of the test for fixed priorities.
use Rattle.std.specs.Prelude.{ℕ, ◌≡◌, refl, List, [], ◌∷◌, codes}
use Rattle.std.specs.Fmt.{digits}
use Rattle.rx_seq.specs.declared.kinds.Kind.TheVariants.{Cell}
use Rattle.rx_seq.specs.declared.calls.Call.TheVariants.{Add}
use Rattle.rx_set.specs.declared.policies.Policy.TheVariants.{Rm}
use Rattle.rx_set.specs.declared.items.Item.{Item}
use Rattle.rx_set.specs.declared.items.Item.TheVariants.{Work, Op}
use Rattle.rx_set.specs.System.{System, TaskRow}
use Rattle.rx_set.specs.Admission.{least_time}
use Rattle.rx_fixed.specs.Verdicts.{verdict_of}
use Rattle.rx_report.specs.VerdictLines.{fixed_line, rank_line}

abbrev task : List ℕ → ℕ → ℕ → List Item → TaskRow
task name period deadline items = record { name = name; period = period; deadline = deadline; offset = 0; items = items }

-- two tasks add to one cell; the longer one, whose deadline is given, stands first
abbrev two : ℕ → System
two deadline = record {
  policy = Rm;
  objects = record { name = codes "c"; part = record { kind = Cell; cap = 1 } } ∷ [];
  tasks = task (codes "b") 20 deadline (Work 1 ∷ Op 0 (Add 5) ∷ Work 1 ∷ []) ∷ task (codes "a") 10 10 (Op 0 (Add 1) ∷ []) ∷ [];
  demands = [];
}

pub first_rank : rank_line (two 7) 1 (least_time (two 7) 1) ≡ codes "rank 1 a least 2 deadline 10\n"
unfolding digits
first_rank = refl

pub second_rank : rank_line (two 8) 2 (least_time (two 8) 2) ≡ codes "rank 2 b least 8 deadline 8\n"
unfolding digits
second_rank = refl

pub unserved_rank : rank_line (two 7) 2 (least_time (two 7) 2) ≡ codes "rank 2 b fails deadline 7\n"
unfolding digits
unserved_rank = refl

pub served : fixed_line (verdict_of (two 8)) ≡ codes "test yes\n"
served = refl

pub not_served : fixed_line (verdict_of (two 7)) ≡ codes "test no rank 2\n"
unfolding digits
not_served = refl
