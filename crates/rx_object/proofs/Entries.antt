-- Entries that were added to a history.
use Rattle.std.proofs.Common.{◌≡◌, ℕ, ◌+◌, Bool, true, false, List, [], ◌∷◌, ◌++◌, length, refl, sym, ap, ◌∙◌, arith, append_assoc}
use Rattle.std.specs.Prelude.{◌==◌, if◌then◌else◌}
use Rattle.std.proofs.lemmas.Bool.{eq-eqb}
use Rattle.rx_seq.specs.declared.entries.Entry.{Entry}
use Rattle.rx_seq.specs.History.{tag_of as count_loud}
use Rattle.rx_seq.specs.Legal.{entries_of}
use Rattle.rx_port.specs.Lawful.{IsOlder}

entries_step : (caller : ℕ) (b : Bool) (entry : Entry) (xs ys zs : List Entry) → zs ≡ xs ++ ys → (if b then entry ∷ zs else zs) ≡ (if b then entry ∷ xs else xs) ++ ys
entries_step caller true entry xs ys zs e = ap (λ (l : List Entry). entry ∷ l) e
entries_step caller false entry xs ys zs e = e

pub entries-append : (caller : ℕ) (xs ys : List Entry) → entries_of caller (xs ++ ys) ≡ entries_of caller xs ++ entries_of caller ys
entries-append caller [] ys = refl
entries-append caller (x ∷ xs) ys = entries_step caller (caller == x.caller) x (entries_of caller xs) (entries_of caller ys) (entries_of caller (xs ++ ys)) (entries-append caller xs ys)

pub count-append : (object : ℕ) (xs ys : List Entry) → count_loud object (xs ++ ys) ≡ count_loud object xs + count_loud object ys
count-append object [] ys = omega arith
count-append object (x ∷ xs) ys = let r = count-append object xs ys in omega arith

length-append : (xs ys : List Entry) → length (xs ++ ys) ≡ length xs + length ys
length-append [] ys = omega arith
length-append (x ∷ xs) ys = let r = length-append xs ys in omega arith

none_added : (xs ys : List Entry) → xs ++ ys ≡ ys → xs ≡ []
none_added [] ys e = refl
none_added (x ∷ xs) ys e = absurd (let n = length-append (x ∷ xs) ys in let m = ap length e in omega arith)

-- where a caller has no more entries than before, none of those that were added is its own
pub none_between : (caller : ℕ) (between before : List Entry) → entries_of caller (between ++ before) ≡ entries_of caller before → entries_of caller between ≡ []
none_between caller between before e = none_added (entries_of caller between) (entries_of caller before) (sym (entries-append caller between before) ∙ e)

pub older_trans : (a b c : List Entry) → IsOlder a b → IsOlder b c → IsOlder a c
older_trans a b c h k = (k.0 ++ h.0, k.1 ∙ ap (λ (l : List Entry). k.0 ++ l) h.1 ∙ sym (append_assoc k.0 h.0 a))

none_front : (xs ys : List Entry) → xs ++ ys ≡ [] → xs ≡ []
none_front [] ys e = refl
none_front (x ∷ xs) ys e = absurd (let m = ap length e in omega arith)

-- where a caller has no entries, it has none among the newer ones
pub none_newer : (caller : ℕ) (newer older : List Entry) → entries_of caller (newer ++ older) ≡ [] → entries_of caller newer ≡ []
none_newer caller newer older e = none_front (entries_of caller newer) (entries_of caller older) (sym (entries-append caller newer older) ∙ e)

own_first : (x : Entry) (xs : List Entry) (b : Bool) → b ≡ true → (if b then x ∷ entries_of x.caller xs else entries_of x.caller xs) ≡ [] → ⊥
own_first x xs true is e = let n = ap length e in omega arith
own_first x xs false is e = cc

-- where no caller has entries, there are none
pub none_of_any : (xs : List Entry) → ((caller : ℕ) → entries_of caller xs ≡ []) → xs ≡ []
none_of_any [] h = refl
none_of_any (x ∷ xs) h = absurd (own_first x xs (x.caller == x.caller) (eq-eqb x.caller x.caller refl) (h x.caller))
