-- What the least times say of the test.
use Rattle.std.proofs.Common.{ℕ, ◌≡◌, ◌≤◌, ◌<◌, ◌+◌, Bool, true, false, not, IfSome, IfNone, Option, Some, None, length, refl, sym, ap, ◌∙◌, arith}
use Rattle.std.proofs.lemmas.Bool.{false≢true}
use Rattle.std.specs.Option.{is_some}
use Rattle.rx_set.specs.System.{System}
use Rattle.rx_set.specs.Admission.{is_none, least_time, unserved}
use Rattle.rx_fixed.specs.declared.verdicts.Verdict.TheVariants.{Yes, No}
use Rattle.rx_set.proofs.Firsts.{first_found, first_missing}

pub if_some : (o : Option ℕ) (P : ℕ → Type 0) → ((t : ℕ) → o ≡ Some t → P t) → IfSome o P
if_some None P h = tt
if_some (Some t) P h = h t refl

pub if_none : (o : Option ℕ) (P : Type 0) → (o ≡ None → P) → IfNone o P
if_none None P h = h refl
if_none (Some t) P h = tt

-- each rank up to this one has a least time
abbrev pub AreServed : System → ℕ → Type 0
AreServed system served = (place : ℕ) → 1 ≤ place → place ≤ served → is_none (least_time system place) ≡ false

pub unserved_found : (system : System) (served : ℕ) → served < length system.tasks → AreServed system served → is_none (least_time system (served + 1)) ≡ true → unserved system ≡ Some (served + 1)
unserved_found system served within lower fails =
    first_found (λ place. is_none (least_time system place)) (length system.tasks) (served + 1)
    (record { some = omega arith; within = omega (arith, within); passes = fails; least = λ k some below. lower k some (omega (arith, below)) })

pub unserved_missing : (system : System) (served : ℕ) → length system.tasks ≤ served → AreServed system served → unserved system ≡ None
unserved_missing system served all each = first_missing (λ place. is_none (least_time system place)) (length system.tasks) (λ k some within. each k some (omega (arith, within, all)))

-- there is none where the code finds none
pub none_told : (o : Option ℕ) (b : Bool) → is_some o ≡ not b → b ≡ true → is_none o ≡ true
none_told None b e is = refl
none_told (Some t) b e is = absurd (false≢true (sym (e ∙ ap not is)))

-- the answer tells one rank
pub rank_told : (a b : ℕ) → No a ≡ No b → a ≡ b
rank_told a b e = cc

pub not_both : (a : ℕ) → No a ≡ Yes → ⊥
not_both a e = cc

some_unserved : (a : ℕ) → Some a ≡ None → ⊥
some_unserved a e = cc

pub not_all : (system : System) (place : ℕ) → unserved system ≡ Some place → unserved system ≡ None → ⊥
not_all system place some none = some_unserved place (sym some ∙ none)
