-- Bytes that are placed one after the other.
use Rattle.std.proofs.Common.{◌≡◌, ℕ, ◌+◌, ◌-◌, ◌≤◌, ◌<◌, List, [], ◌∷◌, ◌++◌, length, take, drop, set, refl, ap, sym, ◌∙◌, arith, append_assoc, append-nil, length-append, length-take-le, length-drop, length-set, take-take, take_all, take-append-drop}
use Rattle.std.proofs.Math.Seq.{take-append-add}
use Rattle.std.proofs.lemmas.List.{take_more_set}
use Rattle.rx_text.specs.Places.{IsPlaced}

-- nothing is placed
pub placed_none : (bytes : List ℕ) (at : ℕ) → IsPlaced bytes bytes at [] at
placed_none bytes at = record { front = sym (append-nil (take at bytes)); moved = omega arith; long = refl }

-- one text and then another
pub placed_then : {a b c first second : List ℕ} {at next end : ℕ} → IsPlaced a b at first next → IsPlaced b c next second end → IsPlaced a c at (first ++ second) end
placed_then {a} {b} {c} {first} {second} {at} p q = record {
  front = q.front ∙ ap (λ l. l ++ second) p.front ∙ append_assoc (take at a) first second;
  moved = omega (arith, p.moved, q.moved, length-append first second);
  long = q.long ∙ p.long;
}

-- one byte
pub placed_byte : (bytes : List ℕ) (at byte : ℕ) → at < length bytes → IsPlaced bytes (set bytes at byte) at (byte ∷ []) (at + 1)
placed_byte bytes at byte inside = record {
  front = take_more_set bytes at byte inside;
  moved = omega arith;
  long = length-set bytes at byte;
}

-- so many bytes of a text, where more of it were placed
pub placed_part : {a b : List ℕ} {at many end : ℕ} (text : List ℕ) (len : ℕ) → len ≤ many → many ≤ length text → at ≤ length a → IsPlaced a b at (take many text) end → IsPlaced a b at (take len text) (at + len)
placed_part {a} {b} {at} {many} {end} text len few within inside p =
    let long : length (take at a) ≡ at = length-take-le at a inside in
    let whole : length (take many text) ≡ many = length-take-le many text within in
    let seam : take (at + len) (take at a ++ take many text) ≡ take at a ++ take len (take many text) = rw long at (take-append-add (take at a) (take many text) len) in
    record {
      front = sym (take-take (at + len) end b (omega (arith, p.moved, whole))) ∙ ap (take (at + len)) p.front ∙ seam ∙ ap (λ l. take at a ++ l) (take-take len many text few);
      moved = omega (arith, length-take-le len text (omega arith));
      long = p.long;
    }

-- the first and the last `half` bytes of a text, which may overlap, are the text
pub placed_ends : {a b c : List ℕ} {at next end : ℕ} (text : List ℕ) (half : ℕ) → at ≤ length a → half ≤ length text → length text ≤ half + half
    → IsPlaced a b at (take half text) next → IsPlaced b c (at + (length text - half)) (take half (drop (length text - half) text)) end → IsPlaced a c at text end
placed_ends {a} {b} {c} {at} {next} {end} text half inside many few p q =
    let rest = length text - half in
    let long : length (take at a) ≡ at = length-take-le at a inside in
    let halves : length (take half text) ≡ half = length-take-le half text many in
    let tail : length (drop rest text) ≡ half = omega (arith, length-drop rest text) in
    let last : take half (drop rest text) ≡ drop rest text = take_all half (drop rest text) (omega (arith, tail)) in
    let seam : take (at + rest) (take at a ++ take half text) ≡ take at a ++ take rest (take half text) = rw long at (take-append-add (take at a) (take half text) rest) in
    let start : take (at + rest) b ≡ take at a ++ take rest text =
    sym (take-take (at + rest) next b (omega (arith, p.moved, halves))) ∙ ap (take (at + rest)) p.front ∙ seam ∙ ap (λ l. take at a ++ l) (take-take rest half text (omega arith)) in
    record {
      front = q.front ∙ ap (λ l. take (at + rest) b ++ l) last ∙ ap (λ l. l ++ drop rest text) start ∙ append_assoc (take at a) (take rest text) (drop rest text)
          ∙ ap (λ l. take at a ++ l) (take-append-drop rest text);
      moved = omega (arith, q.moved, ap length last, tail);
      long = q.long ∙ p.long;
    }
