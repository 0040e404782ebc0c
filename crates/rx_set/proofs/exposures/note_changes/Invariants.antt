use Rattle.std.proofs.Common.{ℕ, ◌≡◌, ◌<◌, ◌&&◌, ◌||◌, get_or, nat_lt, take}
use Rattle.std.specs.List.{list_any}
use Rattle.rx_set.specs.Charges.{changes}
use Rattle.rx_set.proofs.exposures.note_changes.Given as goal

abbrev pub invariant-loop-item : goal.invariant-loop-item
invariant-loop-item l = (object above : ℕ) → object < 16 → nat_lt (get_or l.lowest object 0) above ≡ (nat_lt (get_or l.fn.lowest object 0) above || (nat_lt l.most above && list_any (changes object) (take l.item-index l.items)))
