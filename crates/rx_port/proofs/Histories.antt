-- What one more entry does to a history.
use Rattle.std.proofs.Common.{◌≡◌, ◌≢◌, ℕ, ◌+◌, Bool, cond, List, [], ◌∷◌, refl, ap, ◌∙◌, arith}
use Rattle.std.specs.Prelude.{◌==◌, ◌&&◌}
use Rattle.std.proofs.lemmas.Bool.{cond-true, cond-false, eq-eqb, ne_eqb}
use Rattle.rx_seq.specs.declared.calls.Call.{Call}
use Rattle.rx_seq.specs.declared.entries.Entry.{Entry}
use Rattle.rx_seq.specs.Table.{effect}
use Rattle.rx_seq.specs.Quiet.{raised}
use Rattle.rx_seq.specs.History.{part_at, replay, is_loud, tag_of as count_loud}
use Rattle.rx_seq.specs.Legal.{IsLegal, entries_of}
use Rattle.rx_shape.specs.Layout.{Layout}
use Rattle.rx_port.specs.Core.{entry_for}
use Rattle.rx_port.specs.Lawful.{IsOlder}

pub older-refl : (xs : List Entry) → IsOlder xs xs
older-refl xs = ([], refl)

pub older-more : (xs ys : List Entry) (e : Entry) → IsOlder xs ys → IsOlder xs (e ∷ ys)
older-more xs ys e h = (e ∷ h.0, ap (λ (l : List Entry). e ∷ l) h.1)

module _ (l : Layout) (es : List Entry) (i o : ℕ) (call : Call) where
  pub count_here : count_loud o (entry_for l es i o call ∷ es) ≡ count_loud o es + raised call (effect (part_at l.parts o) (replay l.parts o es) call).reply
  count_here = ap (λ (b : Bool). cond (b && is_loud (entry_for l es i o call)) 1 0 + count_loud o es) (eq-eqb o o refl) ∙ omega arith

  pub count_there : (p : ℕ) → p ≢ o → count_loud p (entry_for l es i o call ∷ es) ≡ count_loud p es
  count_there p ne = ap (λ (b : Bool). cond (b && is_loud (entry_for l es i o call)) 1 0 + count_loud p es) (ne_eqb p o ne) ∙ omega arith

  pub state_here : replay l.parts o (entry_for l es i o call ∷ es) ≡ (effect (part_at l.parts o) (replay l.parts o es) call).state
  state_here = cond-true (o == o) (effect (part_at l.parts o) (replay l.parts o es) call).state (replay l.parts o es) (eq-eqb o o refl)

  pub state_there : (p : ℕ) → p ≢ o → replay l.parts p (entry_for l es i o call ∷ es) ≡ replay l.parts p es
  state_there p ne = cond-false (p == o) (effect (part_at l.parts p) (replay l.parts p es) call).state (replay l.parts p es) (ne_eqb p o ne)

  pub mine_here : entries_of i (entry_for l es i o call ∷ es) ≡ entry_for l es i o call ∷ entries_of i es
  mine_here = cond-true (i == i) (entry_for l es i o call ∷ entries_of i es) (entries_of i es) (eq-eqb i i refl)

  pub mine_there : (j : ℕ) → j ≢ i → entries_of j (entry_for l es i o call ∷ es) ≡ entries_of j es
  mine_there j ne = cond-false (j == i) (entry_for l es i o call ∷ entries_of j es) (entries_of j es) (ne_eqb j i ne)

  pub legal_more : IsLegal l.parts l.first es → IsLegal l.parts l.first (entry_for l es i o call ∷ es)
  legal_more h = ((let e = count_here in omega arith), refl, h)
