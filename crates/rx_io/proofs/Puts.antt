-- Runs of writes, one after the other.
use Rattle.std.proofs.Common.{◌≡◌, ◌≤◌, ◌<◌, ◌+◌, ◌-◌, ℕ, List, [], ◌∷◌, ◌++◌, Result, Ok, Err, true≢false, refl, sym, ap, ◌∙◌, append_assoc, append-nil, length, take, drop, subst, take-append-drop, arith}
use Rattle.std.proofs.Math.Seq.{take-add}
use Rattle.std.proofs.lemmas.List.{take_all, take_rest, length-append, length-drop, length-take-le}
use Rattle.std.proofs.lemmas.List.Folds.{concat-append}
use Rattle.std.specs.List.{concat}
use Rattle.std.specs.Io.KnownBytes.{Appends, Keeps}
use Rattle.std.proofs.KnownBytes.{Appends-nil, Appends-trans, Appends-kept}
use Rattle.std.specs.Result.{IsErr}
use Rattle.rx_io.specs.States.{Transfer, Failures, MayBeCalled, SinkState, AreCalled, moved_in}
use Rattle.rx_io.specs.Causes.{ArePieces, EndRefused, HasFailed, Puts, Takes, TakesFront, rest_of_piece}
use Rattle.rx_io.proofs.Calls.{calls_after, calls_more, calls_none, calls_weaker, cut_before, moved-append, pieces_after, refused_after, refused_before, rest_after, rest_inside}

-- nothing is taken of no pieces
pub takes_nothing : (a : SinkState) → Takes a a []
takes_nothing a = record { bytes = Appends-nil a.taken; calls = calls_none a.calls _ (tt, refl); kept = refl }

pub takes_same_nothing : (a : SinkState) (pieces : List (List ℕ)) → pieces ≡ [] → Takes a a pieces
takes_same_nothing a pieces none = subst (Takes a a) (sym none) (takes_nothing a)

-- a sink that took pieces may be called again
pub still_up : (a b : SinkState) (pieces : List (List ℕ)) → Takes a b pieces → MayBeCalled a.failures → MayBeCalled b.failures
still_up a b pieces taken up = subst MayBeCalled (sym taken.kept) up

-- pieces, and then more of them
pub takes_after : (a b c : SinkState) (xs ys : List (List ℕ)) → Takes a b xs → Takes b c ys → Takes a c (xs ++ ys)
takes_after a b c xs ys first next = record {
  bytes = subst (Appends a.taken c.taken) (sym (concat-append xs ys)) (Appends-trans a.taken b.taken c.taken (concat xs) (concat ys) first.bytes next.bytes);
  calls = calls_after a.calls b.calls c.calls _ _ _ first.calls next.calls (λ before after are more. (
    pieces_after xs ys before after are.0 are.1 more.0,
    omega (arith, are.1, more.1, moved-append after before, ap length (concat-append xs ys), length-append (concat xs) (concat ys)),
  ));
  kept = next.kept ∙ first.kept;
}

-- the same in other words
pub takes_next : (a b c : SinkState) (xs ys all : List (List ℕ)) → Takes a b xs → Takes b c ys → all ≡ xs ++ ys → Takes a c all
takes_next a b c xs ys all first next e = subst (Takes a c) (sym e) (takes_after a b c xs ys first next)

-- pieces, and then a front of more
pub front_after : (a b c : SinkState) (xs ys : List (List ℕ)) → Takes a b xs → TakesFront b c ys → TakesFront a c (xs ++ ys)
front_after a b c xs ys first part =
    let long = length-append (concat xs) part.front in record {
      front = concat xs ++ part.front;
      refused = part.refused;
      rest = part.rest;
      parts = concat-append xs ys ∙ ap (λ r. concat xs ++ r) part.parts ∙ sym (append_assoc (concat xs) part.front (part.refused ++ part.rest));
      some = part.some;
      cut = part.cut ∙ sym (rest_after xs ys (length part.front)) ∙ ap (rest_of_piece (xs ++ ys)) (omega (arith, long));
      bytes = Appends-trans a.taken b.taken c.taken (concat xs) part.front first.bytes part.bytes;
      calls = subst (λ n. AreCalled a.calls c.calls (EndRefused (xs ++ ys) n (length part.refused))) (sym long)
          (calls_after a.calls b.calls c.calls _ _ _ first.calls part.calls (λ before after are more. refused_after xs ys (length part.front) (length part.refused) before after are.0 are.1 more));
      refuses = part.refuses;
      failed = subst (λ (f : Failures). HasFailed f c.failures) first.kept part.failed;
    }

-- a front of the first of more pieces
pub front_before : (a b : SinkState) (xs ys : List (List ℕ)) → TakesFront a b xs → TakesFront a b (xs ++ ys)
front_before a b xs ys part = record {
  front = part.front;
  refused = part.refused;
  rest = part.rest ++ concat ys;
  parts = concat-append xs ys ∙ ap (λ r. r ++ concat ys) part.parts ∙ append_assoc part.front (part.refused ++ part.rest) (concat ys)
      ∙ ap (λ r. part.front ++ r) (append_assoc part.refused part.rest (concat ys));
  some = part.some;
  cut = cut_before xs ys (length part.front) (length part.refused) part.some part.cut;
  bytes = part.bytes;
  calls = calls_weaker a.calls b.calls _ _ part.calls (λ calls are. refused_before xs ys (length part.front) (length part.refused) calls are);
  refuses = part.refuses;
  failed = part.failed;
}

-- a run of writes after another
pub puts_after : {T E : Type 0} (a b c : SinkState) (r : Result T E) (xs ys : List (List ℕ)) → Takes a b xs → Puts b c r ys → Puts a c r (xs ++ ys)
puts_after a b c (Ok x) xs ys first next = takes_after a b c xs ys first next
puts_after a b c (Err e) xs ys first next = front_after a b c xs ys first next

-- what was to be taken, in other words
pub puts_same : {T E : Type 0} (a b : SinkState) (r : Result T E) (xs all : List (List ℕ)) → all ≡ xs → Puts a b r xs → Puts a b r all
puts_same {T} {E} a b r xs all e puts = subst (Puts {T = T} {E = E} a b r) (sym e) puts

-- a front of the pieces was taken by a call that answers an error
pub puts_failed : {T E : Type 0} (a b : SinkState) (r : Result T E) (pieces : List (List ℕ)) → IsErr r → TakesFront a b pieces → Puts a b r pieces
puts_failed a b (Ok x) pieces err part = absurd (true≢false (sym err))
puts_failed a b (Err e) pieces err part = part

-- a part failed, after those before it
pub puts_cut : {T E : Type 0} (a b c : SinkState) (r : Result T E) (xs ys zs all : List (List ℕ)) → IsErr r → Takes a b xs → TakesFront b c ys → all ≡ xs ++ (ys ++ zs) → Puts a c r all
puts_cut a b c r xs ys zs all err first part e = puts_failed a c r all err (subst (TakesFront a c) (sym e) (front_after a b c xs (ys ++ zs) first (front_before b c ys zs part)))

-- the first part failed
pub puts_cut_first : {T E : Type 0} (a b : SinkState) (r : Result T E) (xs ys all : List (List ℕ)) → IsErr r → TakesFront a b xs → all ≡ xs ++ ys → Puts a b r all
puts_cut_first a b r xs ys all err part e = puts_failed a b r all err (subst (TakesFront a b) (sym e) (front_before a b xs ys part))

-- ---- a piece, call by call

module _ (a b c : SinkState) (at asked : ℕ) (piece : List ℕ) (inside : at < length piece) (is : asked ≡ length (take (length piece - at) (drop at piece))) where
  long : asked ≡ length piece - at
  long = is ∙ ap length (take_rest piece at) ∙ length-drop at piece

  -- one call more is for all that is left of the piece
  call_asks : (calls : List Transfer) (moved : ℕ) → 0 < moved → moved ≤ asked → ArePieces (piece ∷ []) calls → moved_in calls ≡ at → ArePieces (piece ∷ []) (record { asked = asked; moved = moved } ∷ calls)
  call_asks calls moved some most are come = (some, most, long ∙ sym (rest_inside piece [] at inside) ∙ ap (rest_of_piece (piece ∷ [])) (sym come), are)

  pub put_calls : (moved : ℕ) → 0 < moved → moved ≤ asked → AreCalled a.calls b.calls (λ calls. ArePieces (piece ∷ []) calls × (moved_in calls ≡ at))
      → ((past : List Transfer) → b.calls past → c.calls (record { asked = asked; moved = moved } ∷ past))
      → AreCalled a.calls c.calls (λ calls. ArePieces (piece ∷ []) calls × (moved_in calls ≡ at + moved))
  put_calls moved some most before next = calls_more a.calls b.calls c.calls _ _ _ before next (λ calls are. (call_asks calls moved some most are.0 are.1, omega (arith, are.1)))

  -- the sink refused all that is left of the piece
  pub put_refused : Appends a.taken b.taken (take at piece) → Keeps b.taken c.taken
      → AreCalled a.calls b.calls (λ calls. ArePieces (piece ∷ []) calls × (moved_in calls ≡ at))
      → ((past : List Transfer) → b.calls past → c.calls (record { asked = asked; moved = 0 } ∷ past))
      → b.failures ≡ a.failures → c.refuses (take (length piece - at) (drop at piece)) → HasFailed b.failures c.failures → TakesFront a c (piece ∷ [])
  put_refused bytes stay before next kept refuses failed =
      let come : length (take at piece) ≡ at = length-take-le at piece (omega (arith, inside)) in record {
        front = take at piece;
        refused = drop at piece;
        rest = [];
        parts = append-nil piece ∙ sym (take-append-drop at piece) ∙ ap (λ r. take at piece ++ r) (sym (append-nil (drop at piece)));
        some = omega (arith, inside, length-drop at piece);
        cut = length-drop at piece ∙ sym (rest_inside piece [] at inside) ∙ ap (rest_of_piece (piece ∷ [])) (sym come);
        bytes = Appends-kept a.taken b.taken c.taken (take at piece) bytes stay;
        calls = calls_more a.calls b.calls c.calls _ _ _ before next (λ calls are. (long ∙ sym (length-drop at piece), refl, are.0, are.1 ∙ sym come));
        refuses = subst c.refuses (take_rest piece at) refuses;
        failed = subst (λ (f : Failures). HasFailed f c.failures) kept failed;
      }

  -- more of it was taken
  pub put_more : (moved : ℕ) → Appends a.taken b.taken (take at piece) → Appends b.taken c.taken (take moved (take (length piece - at) (drop at piece))) → Appends a.taken c.taken (take (at + moved) piece)
  put_more moved first next =
      subst (Appends a.taken c.taken) (ap (λ r. take at piece ++ take moved r) (take_rest piece at) ∙ sym (take-add at moved piece)) (Appends-trans a.taken b.taken c.taken _ _ first next)

-- there is a rest
pub slice_some : (at : ℕ) (piece : List ℕ) → at < length piece → 0 < length (take (length piece - at) (drop at piece))
slice_some at piece inside = omega (arith, inside, ap length (take_rest piece at), length-drop at piece)

-- a write of the rest ends within the piece
pub put_within : (at moved : ℕ) (piece : List ℕ) → at ≤ length piece → moved ≤ length (take (length piece - at) (drop at piece)) → at + moved ≤ length piece
put_within at moved piece h bound = omega (arith, ap length (take_rest piece at), length-drop at piece)

-- all of it was taken
pub put_whole : (a b : SinkState) (at : ℕ) (piece : List ℕ) → at ≤ length piece → length piece ≤ at → Appends a.taken b.taken (take at piece)
    → AreCalled a.calls b.calls (λ calls. ArePieces (piece ∷ []) calls × (moved_in calls ≡ at)) → b.failures ≡ a.failures → Takes a b (piece ∷ [])
put_whole a b at piece within all bytes calls kept = record {
  bytes = subst (Appends a.taken b.taken) (take_all at piece all ∙ sym (append-nil piece)) bytes;
  calls = calls_weaker a.calls b.calls _ _ calls (λ made are. (are.0, omega (arith, are.1, within, all, ap length (append-nil piece))));
  kept = kept;
}
