-- Two histories of one cell with the same ends: between two adds its looks stand in another order, and are of other callers.
use Rattle.std.proofs.Common.{ℕ, zero, suc, ◌≡◌, ◌==◌, false, List, [], ◌∷◌, refl, arith}
use Rattle.std.proofs.lemmas.Bool.Decides.{nat_tests}
use Rattle.rx_seq.specs.declared.calls.Call.{Call}
use Rattle.rx_seq.specs.declared.calls.Call.TheVariants.{Get, Add, Swap}
use Rattle.rx_seq.specs.declared.replies.Reply.{Reply}
use Rattle.rx_seq.specs.declared.replies.Reply.TheVariants.{Done, Differs}
use Rattle.rx_seq.specs.declared.entries.Entry.{Entry}
use Rattle.rx_seq.specs.History.{replay, tag_of}
use Rattle.rx_set.specs.System.{parts_of}
use Rattle.rx_lanes.specs.Histories.{HaveSameEnds}
use Rattle.rx_lanes.specs.Rows.{three}

abbrev made : ℕ → ℕ → Call → Reply → ℕ → Entry
made caller index call reply tag = record { caller = caller; index = index; object = 0; call = call; reply = reply; tag = tag }

abbrev one : List Entry
one = made 2 1 (Add 5) (Done 6) 2 ∷ made 0 2 Get (Done 1) 1 ∷ made 1 1 (Swap 3 4) (Differs 1) 1 ∷ made 0 1 (Add 1) (Done 1) 1 ∷ []

abbrev other : List Entry
other = made 0 3 (Add 5) (Done 6) 2 ∷ made 1 1 (Swap 3 4) (Differs 1) 1 ∷ made 0 2 Get (Done 1) 1 ∷ made 0 1 (Add 1) (Done 1) 1 ∷ []

same_ends : HaveSameEnds (parts_of three) one other
same_ends zero = (refl, refl)
same_ends (suc object) = let apart : (suc object == 0) ≡ false = grind (arith, nat_tests) in (rw (apart) refl, rw (apart) refl)

-- the cell has 6 at tag 2
state_at_end : replay (parts_of three) 0 one ≡ 6 ∷ []
state_at_end = refl

tag_at_end : tag_of 0 one ≡ 2
tag_at_end = refl
