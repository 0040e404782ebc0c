-- The first number that passes a test, and the task of a rank.
use Rattle.std.proofs.Common.{ℕ, zero, suc, ◌≡◌, ◌≤◌, ◌<◌, ◌≢◌, ◌==◌, Bool, true, false, cond, refl, sym, ◌∙◌, ap, arith, subst, List, [], ◌∷◌, filter, ◌++◌, get_or, length, Option, Some, None}
use Rattle.std.proofs.Math.Decide.{dec_le}
use Rattle.std.proofs.lemmas.Bool.{false≢true}
use Rattle.std.proofs.lemmas.Bool.Decides.{nat_tests}
use Rattle.std.proofs.lemmas.List.Elements.{filter-append}
use Rattle.rx_set.specs.System.{System, numbers, rank}
use Rattle.rx_set.specs.Admission.{or_this, first_to, ranked_task}
use Rattle.rx_set.proofs.Ranks.{rank_same}

-- one number alone of those below n passes
filter_none : (p : ℕ → Bool) (n : ℕ) → ((k : ℕ) → k < n → p k ≡ false) → filter p (numbers n) ≡ []
filter_none p zero none = refl
filter_none p (suc n) none =
    filter-append p (numbers n) (n ∷ [])
    ∙ ap (λ (ks : List ℕ). ks ++ filter p (n ∷ [])) (filter_none p n (λ k h. none k (omega (arith, h))))
    ∙ last (p n) refl
  where
    last : (b : Bool) → p n ≡ b → filter p (n ∷ []) ≡ []
    last true e = absurd (false≢true (sym (none n (omega arith)) ∙ e))
    last false e = ap (λ (b : Bool). cond b (n ∷ []) []) e

filter_one : (p : ℕ → Bool) (n x : ℕ) → x < n → p x ≡ true → ((k : ℕ) → k < n → p k ≡ true → k ≡ x) → filter p (numbers n) ≡ x ∷ []
filter_one p zero x h is only = absurd (omega (arith, h))
filter_one p (suc n) x h is only =
    filter-append p (numbers n) (n ∷ []) ∙ by_place (p n) refl (λ below. filter_one p n x below is (λ k b. only k (omega (arith, b))))
  where
    others : (b : Bool) (k : ℕ) → k < n → k ≢ x → p k ≡ b → p k ≡ false
    others true k below apart e = absurd (apart (only k (omega (arith, below)) e))
    others false k below apart e = e

    by_place : (b : Bool) → p n ≡ b → (x < n → filter p (numbers n) ≡ x ∷ []) → filter p (numbers n) ++ filter p (n ∷ []) ≡ x ∷ []
    by_place true e earlier =
        let same : n ≡ x = only n (omega arith) e in
        let here : filter p (n ∷ []) ≡ n ∷ [] = ap (λ (b : Bool). cond b (n ∷ []) []) e in
        ap (λ (ks : List ℕ). ks ++ filter p (n ∷ [])) (filter_none p n (λ k below. others (p k) k below (λ f. absurd (omega (arith, below, f, same))) refl))
        ∙ here ∙ ap (λ (k : ℕ). k ∷ []) same
    by_place false e earlier =
        let apart : x ≢ n = λ f. false≢true (sym e ∙ ap p (sym f) ∙ is) in
        let here : filter p (n ∷ []) ≡ [] = ap (λ (b : Bool). cond b (n ∷ []) []) e in
        ap (λ (ks : List ℕ). ks ++ filter p (n ∷ [])) (earlier (omega (arith, h, apart)))
        ∙ ap (λ (ks : List ℕ). (x ∷ []) ++ ks) here

-- the task that has a task's rank is that task
pub ranked_is : (system : System) (task place : ℕ) → task < length system.tasks → rank system task ≡ place → ranked_task system place ≡ task
ranked_is system task place known is =
    ap (λ (ks : List ℕ). get_or ks 0 0)
    (filter_one (λ k. rank system k == place) (length system.tasks) task known (grind (arith, nat_tests))
    (λ k below passes. rank_same system k task below known (grind (arith, nat_tests))))

-- what is found passes, and no earlier number does
pub record IsFirst (test : ℕ → Bool) (n found : ℕ) : Type 0 where
  pub some : 1 ≤ found
  pub within : found ≤ n
  pub passes : test found ≡ true
  pub least : (k : ℕ) → 1 ≤ k → k < found → test k ≡ false

some_is : (a b : ℕ) → Some a ≡ Some b → a ≡ b
some_is a b e = cc

not_none : (a : ℕ) → None ≡ Some a → ⊥
not_none a e = cc

pub first_none : (test : ℕ → Bool) (n : ℕ) → first_to test n ≡ None → (k : ℕ) → 1 ≤ k → k ≤ n → test k ≡ false
first_none test zero none k some within = absurd (omega (arith, some, within))
first_none test (suc n) none k some within =
    by_earlier (first_to test n) refl (test (suc n)) refl (λ e before. first_none test n e k some before)
  where
    by_earlier : (o : Option ℕ) → first_to test n ≡ o → (b : Bool) → test (suc n) ≡ b → (first_to test n ≡ None → k ≤ n → test k ≡ false) → test k ≡ false
    by_earlier (Some a) e b t earlier = absurd (not_none a (sym none ∙ ap (λ (x : Option ℕ). or_this x (test (suc n)) (suc n)) e))
    by_earlier None e true t earlier = absurd (not_none (suc n) (sym none ∙ ap (λ (x : Option ℕ). or_this x (test (suc n)) (suc n)) e ∙ ap (λ (x : Bool). or_this None x (suc n)) t))
    by_earlier None e false t earlier = elim (dec_le k n) [
      | yes before ↦ earlier e before
      | no last ↦ ap test (omega (arith, within, last)) ∙ t
    ]

pub first_some : (test : ℕ → Bool) (n found : ℕ) → first_to test n ≡ Some found → IsFirst test n found
first_some test zero found e = absurd (not_none found e)
first_some test (suc n) found is = by_earlier (first_to test n) refl (test (suc n)) refl (λ a e. first_some test n a e)
  where
    wider : (a : ℕ) → a ≡ found → IsFirst test n a → IsFirst test (suc n) found
    wider a same h = subst (λ (x : ℕ). IsFirst test (suc n) x) same (record { some = h.some; within = omega (arith, h.within); passes = h.passes; least = h.least })

    by_earlier : (o : Option ℕ) → first_to test n ≡ o → (b : Bool) → test (suc n) ≡ b → ((a : ℕ) → first_to test n ≡ Some a → IsFirst test n a) → IsFirst test (suc n) found
    by_earlier (Some a) e b t earlier = wider a (some_is a found (sym (ap (λ (x : Option ℕ). or_this x (test (suc n)) (suc n)) e) ∙ is)) (earlier a e)
    by_earlier None e true t earlier =
        let same : suc n ≡ found = some_is (suc n) found (sym (ap (λ (x : Option ℕ). or_this x (test (suc n)) (suc n)) e ∙ ap (λ (x : Bool). or_this None x (suc n)) t) ∙ is) in
        subst (λ (x : ℕ). IsFirst test (suc n) x) same
        (record { some = omega arith; within = omega arith; passes = t; least = λ k some below. first_none test n e k some (omega (arith, below)) })
    by_earlier None e false t earlier =
        absurd (not_none found (sym (ap (λ (x : Option ℕ). or_this x (test (suc n)) (suc n)) e ∙ ap (λ (x : Bool). or_this None x (suc n)) t) ∙ is))

-- and a number that passes where no earlier one does is found
pub first_found : (test : ℕ → Bool) (n found : ℕ) → IsFirst test n found → first_to test n ≡ Some found
first_found test n found h = by_found (first_to test n) refl
  where
    by_found : (o : Option ℕ) → first_to test n ≡ o → first_to test n ≡ Some found
    by_found None e = absurd (false≢true (sym (first_none test n e found h.some h.within) ∙ h.passes))
    by_found (Some a) e =
        let other = first_some test n a e in
        elim (dec_le a found) [
          | yes low ↦ elim (dec_le found a) [
            | yes high ↦ e ∙ ap (λ (x : ℕ). Some x) (omega (arith, low, high))
            | no less ↦ absurd (false≢true (sym (h.least a other.some (omega (arith, low, less))) ∙ other.passes))
          ]
          | no more ↦ absurd (false≢true (sym (other.least found h.some (omega (arith, more))) ∙ h.passes))
        ]

pub first_missing : (test : ℕ → Bool) (n : ℕ) → ((k : ℕ) → 1 ≤ k → k ≤ n → test k ≡ false) → first_to test n ≡ None
first_missing test n none = by_found (first_to test n) refl
  where
    by_found : (o : Option ℕ) → first_to test n ≡ o → first_to test n ≡ None
    by_found None e = e
    by_found (Some a) e = let found = first_some test n a e in absurd (false≢true (sym (none a found.some found.within) ∙ found.passes))
