-- The counts of the worked rows, as the definitions say of them.
use Rattle.std.proofs.Common.{ℕ, zero, suc, ◌≡◌, ◌<◌, ◌≤◌, ◌+◌, [], ◌∷◌, refl, arith, slice_index}
use Rattle.rx_merge.specs.MergeState.{AreCounts, AreStarts, count_waiting, louds_in, start_at}
use Rattle.rx_merge.specs.Rows.{looked_lists}

starts : AreStarts looked_lists 2 (0 ∷ 2 ∷ [])
starts = record { many = refl; at = by }
  where
    by : (object : ℕ) → object < 2 → slice_index (0 ∷ 2 ∷ []) object ≡ start_at looked_lists object
    by zero inside = refl
    by (suc zero) inside = refl
    by (suc (suc object)) inside = absurd (omega arith)

-- of the quiet entries one is left: the look at the first cell, at tag 0
counts : AreCounts looked_lists 2 (count_waiting looked_lists []) (1 ∷ 0 ∷ 0 ∷ 0 ∷ [])
counts = record { many = refl; at = by }
  where
    by : (object tag : ℕ) → object < 2 → tag ≤ louds_in looked_lists object → slice_index (1 ∷ 0 ∷ 0 ∷ 0 ∷ []) (start_at looked_lists object + tag) ≡ count_waiting looked_lists [] object tag
    by zero zero inside few = refl
    by zero (suc zero) inside few = refl
    by zero (suc (suc tag)) inside few = absurd (omega arith)
    by (suc zero) zero inside few = refl
    by (suc zero) (suc zero) inside few = refl
    by (suc zero) (suc (suc tag)) inside few = absurd (omega arith)
    by (suc (suc object)) tag inside few = absurd (omega arith)
