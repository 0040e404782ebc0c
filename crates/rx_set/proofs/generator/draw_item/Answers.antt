use Rattle.std.proofs.Common.{ℕ, ◌≡◌, ◌+◌, refl, ap, arith}
use Rattle.rx_seq.specs.declared.calls.Call.TheVariants.{Add, Put, Take, Insert, Remove}
use Rattle.rx_set.specs.declared.items.Item.TheVariants.{Work, Op}
use Rattle.rx_set.specs.Generator.{transaction, with_none}
use Rattle.rx_set.proofs.Draws.{as_drawn, numbered, work_first}
use Rattle.rx_set.proofs.generator.draw_item.Goals as goal

pub returns-in-0 : goal.returns-in-0
returns-in-0 c =
    let way = c.draw-way.result in
    let here = c.draw-way.new.rng in
    let drawn = numbered _ _ _ _ way 5 _ (λ n. Work (1 + n)) (Work c.from.result) c.draw-way.ensures.value c.draw-way.ensures.after refl (work_first way here (omega arith)) c.draw.ensures.value c.draw.ensures.after (ap (λ (n : ℕ). Work n) c.from.ensures) in
    record { value = drawn.0; after = drawn.1 }

pub returns-in-2 : goal.returns-in-2
returns-in-2 c =
    let drawn = numbered _ _ _ _ 2 9 _ (λ n. Op 0 (Add (1 + n))) _ c.draw-way.ensures.value c.draw-way.ensures.after c.in-2.is refl c.draw-v.ensures.value c.draw-v.ensures.after c.on.ensures in
    record { value = drawn.0; after = drawn.1 }

pub returns-in-3 : goal.returns-in-3
returns-in-3 c =
    let drawn = numbered _ _ _ _ 3 100 _ (λ n. Op 1 (Put n)) _ c.draw-way.ensures.value c.draw-way.ensures.after c.in-3.is refl c.draw-v-in-3.ensures.value c.draw-v-in-3.ensures.after c.on-in-3.ensures in
    record { value = drawn.0; after = drawn.1 }

pub returns-in-4 : goal.returns-in-4
returns-in-4 c =
    let drawn = as_drawn _ _ _ _ 4 (with_none (Op 1 Take) c.draw-way.new.rng) _ c.draw-way.ensures.value c.draw-way.ensures.after c.in-4.is refl c.on-in-4.ensures refl in
    record { value = drawn.0; after = drawn.1 }

pub returns-in-5 : goal.returns-in-5
returns-in-5 c =
    let drawn = numbered _ _ _ _ 5 16 _ (λ n. Op 2 (Insert n)) _ c.draw-way.ensures.value c.draw-way.ensures.after c.in-5.is refl c.draw-k.ensures.value c.draw-k.ensures.after c.on-in-5.ensures in
    record { value = drawn.0; after = drawn.1 }

pub returns-in-6 : goal.returns-in-6
returns-in-6 c =
    let drawn = numbered _ _ _ _ 6 16 _ (λ n. Op 2 (Remove n)) _ c.draw-way.ensures.value c.draw-way.ensures.after c.in-6.is refl c.draw-k-in-6.ensures.value c.draw-k-in-6.ensures.after c.on-in-6.ensures in
    record { value = drawn.0; after = drawn.1 }

pub returns-in_default : goal.returns-in_default
returns-in_default c =
    let here = c.draw-way.new.rng in
    let last : c.draw-way.result ≡ 7 = omega (arith, c.draw-way.ensures.below) in
    let drawn = as_drawn _ _ _ _ 7 (transaction here) _ c.draw-way.ensures.value c.draw-way.ensures.after last refl c.draw_transaction.ensures.value c.draw_transaction.ensures.after in
    record { value = drawn.0; after = drawn.1 }
