-- The list of the ends of the places of objects, as it grows.
use Rattle.std.proofs.Common.{◌≡◌, ℕ, suc, ◌+◌, ◌<◌, ◌≤◌, List, [], ◌∷◌, ◌++◌, length, get_or, refl, ap, ◌∙◌, subst, arith}
use Rattle.std.proofs.Math.ListN.{get_or-append}
use Rattle.std.proofs.Math.Seq.{get_or-append_seam}
use Rattle.std.proofs.lemmas.List.{length-append}
use mathlib.Core.Logic.{dite}
use native.Mathlib.Decide.{dec_le}
use Rattle.rx_seq.specs.declared.kinds.Part.{Part}
use Rattle.rx_shape.specs.Layout.{end_after, places_of}
use Rattle.rx_shape.proofs.Numbering.{one_more}

-- the ends of the first so many objects, the last of which is told beside the list
pub record Grown (seats : ℕ) (parts : List Part) (objects last : ℕ) (ends : List ℕ) : Type 0 where
  pub all : length ends ≡ objects + 1
  pub each : (n : ℕ) → n ≤ objects → get_or ends n 0 ≡ end_after seats parts n
  pub place : last ≡ end_after seats parts objects

pub first_end : (seats : ℕ) (parts : List Part) → Grown seats parts 0 (length parts + 1) ((length parts + 1) ∷ [])
first_end seats parts = record {
  all = refl;
  each = λ n h. let none : n ≡ 0 = omega arith in rw (none) (omega arith);
  place = omega arith;
}

each_more : (seats : ℕ) (parts : List Part) (objects last next : ℕ) (ends : List ℕ) → Grown seats parts objects last ends → next ≡ end_after seats parts (suc objects)
    → (n : ℕ) → n ≤ suc objects → get_or (ends ++ next ∷ []) n 0 ≡ end_after seats parts n
each_more seats parts objects last next ends grown is n h =
    dite (dec_le n objects)
    (λ old. let all = grown.all in get_or-append ends (next ∷ []) 0 n (omega arith) ∙ grown.each n old)
    (λ new. let all = grown.all in let place : length ends ≡ n = omega arith in let same : suc objects ≡ n = omega arith in
    (rw (← place) (get_or-append_seam ends next [] 0)) ∙ is ∙ ap (end_after seats parts) same)

pub next_end : (seats : ℕ) (parts : List Part) (objects last added : ℕ) (ends : List ℕ) (other : Part) → objects < length parts → added ≡ places_of seats (get_or parts objects other)
    → Grown seats parts objects last ends → Grown seats parts (objects + 1) (last + added) (ends ++ (last + added) ∷ [])
next_end seats parts objects last added ends other there is grown =
    let more = one_more seats parts objects other there in
    let before = grown.place in
    let next : last + added ≡ end_after seats parts (suc objects) = omega arith in
    let all = grown.all in
    let both = length-append ends ((last + added) ∷ []) in
    let one : suc objects ≡ objects + 1 = omega arith in
    subst (λ (n : ℕ). Grown seats parts n (last + added) (ends ++ (last + added) ∷ [])) one (record {
      all = omega arith;
      each = each_more seats parts objects last (last + added) ends grown next;
      place = next;
    })
