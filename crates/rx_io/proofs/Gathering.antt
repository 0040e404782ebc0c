-- Gathered bytes that are handed to a writer.
use Rattle.std.proofs.Common.{◌≡◌, ◌≤◌, ◌+◌, ◌-◌, ℕ, List, [], ◌++◌, Option, sym, ap, ◌∙◌, subst, take, drop, take-append-drop, arith, length-take}
use Rattle.std.proofs.Math.ListN.{drop_of_length-le}
use Rattle.std.proofs.lemmas.List.{drop-drop, drop-take}
use Rattle.std.specs.Io.KnownBytes.{Appends, Keeps, append_known}
use Rattle.std.proofs.KnownBytes.{append_known-moved}

-- the bytes of a page from one place to another
part_of : (xs : List ℕ) (at len : ℕ) → at ≤ len → drop at (take len xs) ≡ take (len - at) (drop at xs)
part_of xs at len h =
    let whole : len ≡ at + (len - at) = omega (arith, h) in
    ap (λ k. drop at (take k xs)) whole ∙ drop-take at (len - at) xs

-- a writer took so many of the bytes that are gathered
module _ (a b : Option (List ℕ)) (bytes xs : List ℕ) (at len n : ℕ) (h : at ≤ len) (same : xs ≡ bytes) (took : Appends a b (take n (take (len - at) (drop at xs)))) where
  -- the rest stays gathered
  pub handed_part : Keeps (append_known a (drop at (take len bytes))) (append_known b (drop (at + n) (take len bytes)))
  handed_part =
      let rest = drop at (take len bytes) in
      let part : take (len - at) (drop at xs) ≡ rest = ap (λ l. take (len - at) (drop at l)) same ∙ sym (part_of bytes at len h) in
      append_known-moved a b (take n rest) (drop (at + n) (take len bytes)) rest (subst (λ l. Appends a b (take n l)) part took)
      (sym (take-append-drop n rest) ∙ ap (λ l. take n rest ++ l) (drop-drop n at (take len bytes)))

  -- where that was all, nothing is left
  pub handed_all : len ≤ at + n → Keeps (append_known a (drop at (take len bytes))) (append_known b [])
  handed_all all =
      let none : drop (at + n) (take len bytes) ≡ [] = drop_of_length-le (take len bytes) (omega (arith, all, length-take len bytes)) in
      subst (λ l. Keeps (append_known a (drop at (take len bytes))) (append_known b l)) none handed_part
