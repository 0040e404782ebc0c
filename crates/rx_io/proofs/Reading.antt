-- What a read from memory gives and leaves.
use Rattle.std.proofs.Common.{◌≡◌, ◌≤◌, ◌<◌, ◌+◌, ◌-◌, ℕ, List, [], ◌∷◌, ◌++◌, min, sym, ap, ◌∙◌, subst, length, take, drop, Result, Ok, Err, take-append-drop, arith}
use Rattle.std.proofs.lemmas.List.{drop-drop, nil_from_length, length-append, length-drop}
use Rattle.std.proofs.lemmas.Grind.{common_steps}
use Rattle.std.specs.Result.{IfErr, IsErrAnd}
use Rattle.std.specs.Io.KnownBytes.{Consumes}
use Rattle.std.proofs.KnownBytes.{Consumes-trans}
use Rattle.rx_io.specs.States.{Transfer, SourceState, AreCalled, moved_in}
use Rattle.rx_io.specs.Causes.{AllMove, AreSteps, GotPiece}

-- a front of what was left, and the rest
pub gives_front : (bytes : List ℕ) (at n : ℕ) → drop at bytes ≡ take n (drop at bytes) ++ drop (at + n) bytes
gives_front bytes at n = sym (take-append-drop n (drop at bytes)) ∙ ap (λ r. take n (drop at bytes) ++ r) (drop-drop n at bytes)

-- a read that gives none of what is left is at the end
pub gives_end : (bytes : List ℕ) (at n step room : ℕ) → 1 ≤ step → n ≡ min step (min room (length (drop at bytes))) → n ≡ 0 → 0 < room → drop (at + n) bytes ≡ []
gives_end bytes at n step room s e z r =
    let none : length (drop at bytes) ≡ 0 = omega arith in
    nil_from_length _ (ap length (sym (drop-drop n at bytes)) ∙ length-drop n (drop at bytes) ∙ omega arith)

-- the front of a buffer that begins with a piece of so many bytes
pub front_of_piece : (left piece tail : List ℕ) (n : ℕ) → n ≤ length left → piece ≡ take n left → take n (piece ++ tail) ≡ take n left
front_of_piece left piece tail n h e = grind (arith, common_steps)

-- what a read moves into a buffer is what it consumed
pub gives_piece : (bytes left piece tail : List ℕ) (at n : ℕ) → n ≤ length bytes - at → drop at bytes ≡ left → piece ≡ take (at + n - at) (drop at bytes)
    → left ≡ take n (piece ++ tail) ++ drop (at + n) bytes
gives_piece bytes left piece tail at n h e copied =
    let same : at + n - at ≡ n = omega arith in
    let fits : n ≤ length (drop at bytes) = omega (arith, length-drop at bytes) in
    let front = front_of_piece (drop at bytes) piece tail n fits (copied ∙ ap (λ k. take k (drop at bytes)) same) in
    sym e ∙ gives_front bytes at n ∙ ap (λ r. r ++ drop (at + n) bytes) (sym front)

-- one call more asks for a step, or for what is left up to the limit
module _ (a b c : SourceState) (step limit at asked : ℕ) (some : 0 < asked) (is : asked ≡ min step (limit - at)) (before : AreCalled a.calls b.calls (λ calls. AreSteps step limit calls × AllMove calls × (moved_in calls ≡ at))) where
  step_asks : (calls : List Transfer) (moved : ℕ) → AreSteps step limit calls → AllMove calls → moved_in calls ≡ at → AreSteps step limit (record { asked = asked; moved = moved } ∷ calls)
  step_asks calls moved are move come = (some, is ∙ ap (λ n. min step (limit - n)) (sym come), move, are)

  pub steps_told : ((past : List Transfer) → b.calls past → (moved : ℕ) × c.calls (record { asked = asked; moved = moved } ∷ past) × Unit {0}) → AreCalled a.calls c.calls (AreSteps step limit)
  steps_told next = λ past told.
      let calls = before past told in
      let more = next (calls.0 ++ past) calls.2 in
      (record { asked = asked; moved = more.0 } ∷ calls.0, step_asks calls.0 more.0 calls.1.0 calls.1.1 calls.1.2, more.1)

  -- where the last one told how many bytes it moved
  module _ (count after : ℕ) (next : (past : List Transfer) → b.calls past → (moved : ℕ) × c.calls (record { asked = asked; moved = moved } ∷ past) × (moved ≡ count)) (sum : after ≡ at + count) where
    pub steps_known : AreCalled a.calls c.calls (λ calls. AreSteps step limit calls × (moved_in calls ≡ after))
    steps_known = λ past told.
        let calls = before past told in
        let more = next (calls.0 ++ past) calls.2 in
        (record { asked = asked; moved = more.0 } ∷ calls.0, (step_asks calls.0 more.0 calls.1.0 calls.1.1 calls.1.2, omega (arith, sum, more.2, calls.1.2)), more.1)

    -- and it moved some
    pub steps_go_on : 0 < count → AreCalled a.calls c.calls (λ calls. AreSteps step limit calls × AllMove calls × (moved_in calls ≡ after))
    steps_go_on more_than_none = λ past told.
        let calls = before past told in
        let more = next (calls.0 ++ past) calls.2 in (
          record { asked = asked; moved = more.0 } ∷ calls.0,
          (step_asks calls.0 more.0 calls.1.0 calls.1.1 calls.1.2, (omega (arith, more.2, more_than_none), calls.1.1), omega (arith, sum, more.2, calls.1.2)),
          more.1,
        )

-- one piece more was consumed
pub piece_consumed : (a b c : SourceState) (before after : List ℕ) (count : ℕ) → Consumes a.left b.left before → GotPiece b.left c.left before after count → Consumes a.left c.left after
piece_consumed a b c before after count first got = subst (Consumes a.left c.left) (sym got.appended) (Consumes-trans a.left b.left c.left before got.piece first got.taken)

-- and so many bytes are there
pub piece_longer : (a b : SourceState) (before after : List ℕ) (count : ℕ) → GotPiece a.left b.left before after count → length after ≡ length before + count
piece_longer a b before after count got = omega (arith, ap length got.appended, length-append before got.piece, got.long)

-- what holds of an error holds of the answer that hands it on
pub handed_on : {T E : Type 0} (r : Result T E) (error : E) (P : E → Type 0) → IsErrAnd r (λ e. e ≡ error) → P error → IfErr r P
handed_on (Ok x) error P is holds = tt
handed_on (Err e) error P is holds = subst P (sym is) holds
