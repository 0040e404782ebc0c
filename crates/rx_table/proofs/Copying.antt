-- Words that are copied one after the other.
use Rattle.std.proofs.Common.{◌≡◌, ℕ, zero, suc, ◌+◌, ◌<◌, List, [], ◌∷◌, length, sym, ap, ◌∙◌, arith}
use Rattle.std.specs.Prelude.{slice_index, slice_set}
use Rattle.std.proofs.lemmas.List.{get_or-set_same, get_or-set_other}
use mathlib.Core.Option.{some, some-injective, some-ne-none}
use mathlib.Core.Logic.{dite}
use native.Mathlib.Decide.{ℕ_discrete}
use lib.ListN.{get_elem?}

word_is : (xs : List ℕ) (k x : ℕ) → get_elem? xs k ≡ some x → slice_index xs k ≡ x
word_is [] k x at = absurd (some-ne-none x (sym at))
word_is (y ∷ xs) zero x at = some-injective y x at
word_is (y ∷ xs) (suc k) x at = word_is xs k x at

pub one_more : (out items : List ℕ) (n x : ℕ) → n < length out → get_elem? items n ≡ some x → ((k : ℕ) → k < n → slice_index out k ≡ slice_index items k)
    → (k : ℕ) → k < n + 1 → slice_index (slice_set out n x) k ≡ slice_index items k
one_more out items n x below at done k few = dite (ℕ_discrete k n)
    (λ same. ap (slice_index (slice_set out n x)) same ∙ get_or-set_same out n x 0 below ∙ sym (word_is items n x at) ∙ ap (slice_index items) (sym same))
    (λ other. get_or-set_other out n k x 0 other ∙ done k (omega arith))
