use Rattle.std.proofs.Common.{◌≡◌, ◌<◌, ◌≤◌, ◌+◌, ◌*◌, ℕ, suc, List, sym, ap, ◌∙◌, subst, arith}
use Rattle.rx_seq.specs.declared.kinds.Part.{Part}
use Rattle.rx_shape.specs.declared.homes.Home.{Home}
use Rattle.rx_shape.specs.Forms.{block, form_of, InRange, IsStock}
use Rattle.rx_shape.specs.Places.{run, times}
use Rattle.rx_shape.proofs.Times.{run_inside, run_once}
use Rattle.rx_shape.proofs.BlockForm.{block_is_stock, size_block}
use Rattle.rx_shape.proofs.tests.attempt.Goals as goal

-- the own block of the attempt
own_stock : (home : Home) (form : form_of home.part.kind ≡ block) (first size : ℕ) (places : List ℕ) → size ≡ suc home.part.cap → places ≡ run first size → IsStock home places
own_stock home form first size places size_is is = subst (λ (ps : List ℕ). IsStock home ps) (sym (is ∙ ap (run first) size_is)) (block_is_stock home form first)

own_ranges : (part : Part) (size : ℕ) (places : List ℕ) → places ≡ run (10 + size) size → (place : ℕ) → 0 < times place places → InRange (record { part = part; first = 10; count = 2 * size }) place
own_ranges part size places is place more =
    let inside = run_inside place (10 + size) size (subst (λ (ps : List ℕ). 0 < times place ps) is more) in record { from = omega arith; below = omega arith }

pub plan-requires-clause-stock : goal.plan-requires-clause-stock
plan-requires-clause-stock c =
    let here = c.loop-n.invariant ∙ c.start-shape.ensures.home in
    let size = c.stock-size.ensures.value ∙ size_block (record { part = c.args.part; first = 0; count = 0 }) c.requires.form in
    own_stock c.loop-n.shape.home c.loop-n.shape.form (10 + c.stock-size.result) c.stock-size.result c.places-own.result.items
    (size ∙ sym (ap (λ (h : Home). suc h.part.cap) here)) c.places-own.ensures

pub plan-requires-clause-ranges : goal.plan-requires-clause-ranges
plan-requires-clause-ranges c place more =
    let here = c.loop-n.invariant ∙ c.start-shape.ensures.home in
    subst (λ (h : Home). InRange h place) (sym here) (own_ranges c.args.part c.stock-size.result c.places-own.result.items c.places-own.ensures place more)

pub plan-requires-clause-once : goal.plan-requires-clause-once
plan-requires-clause-once c place = subst (λ (ps : List ℕ). times place ps ≤ 1) (sym c.places-own.ensures) (run_once place (10 + c.stock-size.result) c.stock-size.result)
