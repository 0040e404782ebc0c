-- Lists that are written at one place, and options.
use Rattle.std.proofs.Common.{◌≡◌, ◌≢◌, ℕ, zero, suc, ◌<◌, List, [], ◌∷◌, length, set, refl, sym, ap, ◌⊎◌, inl, inr, ⊎_elim, arith}
use Rattle.std.specs.Prelude.{Option, Some, None, IfSome, slice_index_or}
use mathlib.Core.Option.{some, some-ne-none, some-injective}
use lib.ListN.{get_elem?}

module _ {A : Type 0} where
  pub at_set : (xs : List A) (i j : ℕ) (w u : A) → get_elem? (set xs i w) j ≡ some u → ((j ≡ i) × (w ≡ u)) ⊎ ((j ≢ i) × (get_elem? xs j ≡ some u))
  at_set [] i j w u e = absurd (some-ne-none u (sym e))
  at_set (x ∷ xs) zero zero w u e = inl (refl, some-injective w u e)
  at_set (x ∷ xs) zero (suc j) w u e = inr ((λ d. absurd (omega arith)), e)
  at_set (x ∷ xs) (suc i) zero w u e = inr ((λ d. absurd (omega arith)), e)
  at_set (x ∷ xs) (suc i) (suc j) w u e =
      ⊎_elim (λ (p : (j ≡ i) × (w ≡ u)). inl (ap suc p.0, p.1)) (λ (p : (j ≢ i) × (get_elem? xs j ≡ some u)). inr ((λ d. p.0 (let q : suc j ≡ suc i = d in omega arith)), p.1)) (at_set xs i j w u e)

  pub inside_list : (xs : List A) (i : ℕ) (x : A) → get_elem? xs i ≡ some x → i < length xs
  inside_list [] i x e = absurd (some-ne-none x (sym e))
  inside_list (y ∷ xs) zero x e = omega arith
  inside_list (y ∷ xs) (suc i) x e = let h = inside_list xs i x e in omega arith

  pub here_or : (xs : List A) (i : ℕ) (d : A) → i < length xs → get_elem? xs i ≡ some (slice_index_or xs i d)
  here_or [] i d h = absurd (omega arith)
  here_or (x ∷ xs) zero d h = refl
  here_or (x ∷ xs) (suc i) d h = here_or xs i d (omega arith)

pub some_here : {A : Type 0} (P : A → Type 0) (o : Option A) (x : A) → o ≡ Some x → IfSome o P → P x
some_here P o x e h = rw e at h

pub if_some : {A : Type 0} (P Q : A → Type 0) (o : Option A) → ((x : A) → o ≡ Some x → P x → Q x) → IfSome o P → IfSome o Q
if_some P Q None f h = tt
if_some P Q (Some x) f h = f x refl h
