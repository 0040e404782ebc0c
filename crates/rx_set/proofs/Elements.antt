-- Elements of lists by their places.
use Rattle.std.proofs.Common.{ℕ, ◌≡◌, List, All, Some}
use Rattle.std.specs.Prelude.{slice_get}
use Rattle.std.proofs.lemmas.Option.{get_or_from_slice_get, slice_get_within}

-- what is so of each is so of the one at a place
pub at_place : {X : Type 0} (P : X → Type 0) (xs : List X) (place : ℕ) (x : X) → All P xs → slice_get xs place ≡ Some x → P x
at_place P xs place x all e = rw (get_or_from_slice_get xs place x x e) at (all place x (slice_get_within xs place x e))
