-- Calls, one after the other, and the pieces that they hand in.
use Rattle.std.proofs.Common.{◌≡◌, ◌≤◌, ◌<◌, ◌+◌, ◌-◌, ℕ, List, [], ◌∷◌, ◌++◌, inl, inr, refl, sym, ap, ◌∙◌, append_assoc, length, subst, arith}
use Rattle.std.proofs.lemmas.Bool.{cases_lt, lt-ltb, le-ltb}
use Rattle.std.proofs.lemmas.List.{length-append}
use Rattle.std.specs.List.{concat}
use Rattle.rx_io.specs.States.{Transfer, AreCalled, moved_in}
use Rattle.rx_io.specs.Causes.{ArePieces, EndRefused, rest_of_piece}

-- no calls
pub calls_none : (a : List Transfer → Type 0) (P : List Transfer → Type 0) → P [] → AreCalled a a P
calls_none a P p = λ past told. ([], p, told)

-- one call more
pub calls_more : (a b c P Q : List Transfer → Type 0) (call : Transfer) → AreCalled a b P → ((past : List Transfer) → b past → c (call ∷ past))
    → ((calls : List Transfer) → P calls → Q (call ∷ calls)) → AreCalled a c Q
calls_more a b c P Q call first next holds = λ past told.
    let calls = first past told in
    (call ∷ calls.0, holds calls.0 calls.1, next (calls.0 ++ past) calls.2)

-- calls after calls
pub calls_after : (a b c P Q R : List Transfer → Type 0) → AreCalled a b P → AreCalled b c Q
    → ((first next : List Transfer) → P first → Q next → R (next ++ first)) → AreCalled a c R
calls_after a b c P Q R first next holds = λ past told.
    let before = first past told in
    let after = next (before.0 ++ past) before.2 in
    (after.0 ++ before.0, holds before.0 after.0 before.1 after.1, subst c (sym (append_assoc after.0 before.0 past)) after.2)

-- less is said of the same calls
pub calls_weaker : (a b P Q : List Transfer → Type 0) → AreCalled a b P → ((calls : List Transfer) → P calls → Q calls) → AreCalled a b Q
calls_weaker a b P Q first holds = λ past told.
    let calls = first past told in
    (calls.0, holds calls.0 calls.1, calls.2)

-- what all of some calls moved
pub moved-append : (next first : List Transfer) → moved_in (next ++ first) ≡ moved_in next + moved_in first
moved-append [] first = omega arith
moved-append (call ∷ next) first = omega (arith, moved-append next first)

-- ---- where pieces are cut

-- in the first piece, and behind it
pub rest_inside : (piece : List ℕ) (pieces : List (List ℕ)) (at : ℕ) → at < length piece → rest_of_piece (piece ∷ pieces) at ≡ length piece - at
rest_inside piece pieces at h = rw (lt-ltb at (length piece) h) refl

rest_behind : (piece : List ℕ) (pieces : List (List ℕ)) (at : ℕ) → length piece ≤ at → rest_of_piece (piece ∷ pieces) at ≡ rest_of_piece pieces (at - length piece)
rest_behind piece pieces at h = rw (le-ltb at (length piece) h) refl

-- where something is left of a piece, not all pieces are over
within : (pieces : List (List ℕ)) (at : ℕ) → 0 < rest_of_piece pieces at → at < length (concat pieces)
within [] at some = absurd (omega (arith, some))
within (piece ∷ pieces) at some = elim (cases_lt at (length piece)) [
  | inl inside ↦ omega (arith, inside, length-append piece (concat pieces))
  | inr behind ↦
      let more = within pieces (at - length piece) (rw (rest_behind piece pieces at behind) at some) in
      omega (arith, behind, more, length-append piece (concat pieces))
]

-- pieces before more pieces, and pieces behind others
rest_before : (xs ys : List (List ℕ)) (at : ℕ) → at < length (concat xs) → rest_of_piece (xs ++ ys) at ≡ rest_of_piece xs at
rest_before [] ys at h = absurd (omega (arith, h))
rest_before (x ∷ xs) ys at h = elim (cases_lt at (length x)) [
  | inl inside ↦ rest_inside x (xs ++ ys) at inside ∙ sym (rest_inside x xs at inside)
  | inr behind ↦
      rest_behind x (xs ++ ys) at behind
      ∙ rest_before xs ys (at - length x) (omega (arith, h, behind, length-append x (concat xs)))
      ∙ sym (rest_behind x xs at behind)
]

pub rest_after : (xs ys : List (List ℕ)) (at : ℕ) → rest_of_piece (xs ++ ys) (at + length (concat xs)) ≡ rest_of_piece ys at
rest_after [] ys at = ap (rest_of_piece ys) (omega arith)
rest_after (x ∷ xs) ys at =
    let long = length-append x (concat xs) in
    rest_behind x (xs ++ ys) (at + length (x ++ concat xs)) (omega (arith, long))
    ∙ ap (rest_of_piece (xs ++ ys)) (omega (arith, long))
    ∙ rest_after xs ys at

-- where pieces are cut stays the same before more pieces
pub cut_before : (xs ys : List (List ℕ)) (at n : ℕ) → 0 < n → n ≡ rest_of_piece xs at → n ≡ rest_of_piece (xs ++ ys) at
cut_before xs ys at n some is = is ∙ sym (rest_before xs ys at (within xs at (omega (arith, some, is))))

pub pieces_before : (xs ys : List (List ℕ)) (calls : List Transfer) → ArePieces xs calls → ArePieces (xs ++ ys) calls
pieces_before xs ys [] are = tt
pieces_before xs ys (call ∷ past) are = (are.0, are.1, cut_before xs ys (moved_in past) call.asked (omega (arith, are.0, are.1)) are.2, pieces_before xs ys past are.3)

pub pieces_after : (xs ys : List (List ℕ)) (first next : List Transfer) → ArePieces xs first → moved_in first ≡ length (concat xs) → ArePieces ys next → ArePieces (xs ++ ys) (next ++ first)
pieces_after xs ys first [] before all are = pieces_before xs ys first before
pieces_after xs ys first (call ∷ past) before all are = (
  are.0,
  are.1,
  are.2 ∙ sym (rest_after xs ys (moved_in past)) ∙ ap (rest_of_piece (xs ++ ys)) (omega (arith, all, moved-append past first)),
  pieces_after xs ys first past before all are.3,
)

-- the same where the last call was refused
pub refused_before : (xs ys : List (List ℕ)) (taken refused : ℕ) (calls : List Transfer) → EndRefused xs taken refused calls → EndRefused (xs ++ ys) taken refused calls
refused_before xs ys taken refused [] are = absurd are
refused_before xs ys taken refused (call ∷ past) are = (are.0, are.1, pieces_before xs ys past are.2, are.3)

pub refused_after : (xs ys : List (List ℕ)) (taken refused : ℕ) (first next : List Transfer) → ArePieces xs first → moved_in first ≡ length (concat xs) → EndRefused ys taken refused next
    → EndRefused (xs ++ ys) (length (concat xs) + taken) refused (next ++ first)
refused_after xs ys taken refused first [] before all are = absurd are
refused_after xs ys taken refused first (call ∷ past) before all are = (
  are.0,
  are.1,
  pieces_after xs ys first past before all are.2,
  omega (arith, all, are.3, moved-append past first),
)
