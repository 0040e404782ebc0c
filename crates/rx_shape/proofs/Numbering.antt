-- The numbers of words: bounds, and places of different objects.
use Rattle.std.proofs.Common.{◌≡◌, ℕ, zero, suc, ◌+◌, ◌*◌, ◌<◌, ◌≤◌, List, [], ◌∷◌, length, get_or, take, refl, sym, ap, ◌∙◌, arith, add-one, mul-le-mul_right}
use Rattle.std.specs.List.{All}
use mathlib.Core.Logic.{dite}
use native.Mathlib.Decide.{ℕ_discrete, dec_le}
use Rattle.rx_seq.specs.declared.kinds.Kind.{Kind}
use Rattle.rx_seq.specs.declared.kinds.Kind.TheVariants.{Cell, Queue, Registers, List as Ordered}
use Rattle.rx_seq.specs.declared.kinds.Part.{Part}
use Rattle.rx_seq.specs.Table.{IsCap, IsPart}
use Rattle.rx_seq.specs.History.{no_part, part_at}
use Rattle.rx_shape.specs.Forms.{Form, inline, block, node, form_of, stock_as, stock_size, InRange}
use Rattle.rx_shape.specs.Layout.{Layout, IsLayout, places_of, all_places, words_of, end_after, place_after, first_as, home}

pub stock_few : (kind : Kind) (cap : ℕ) → IsCap kind cap → stock_as (form_of kind) cap ≤ 65
stock_few Cell cap h = omega arith
stock_few Queue cap h = omega arith
stock_few Ordered cap h = omega arith
stock_few Registers cap h = omega arith

pub places_few : (seats : ℕ) (part : Part) → IsPart part → seats ≤ 64 → places_of seats part ≤ 4225
places_few seats part h few =
    let s : stock_size part ≤ 65 = stock_few part.kind part.cap h in
    let m : stock_size part * (seats + 1) ≤ 65 * (seats + 1) = mul-le-mul_right (seats + 1) s in omega arith

all_few : (seats : ℕ) (parts : List Part) (object : ℕ) → All IsPart parts → seats ≤ 64 → all_places seats (take object parts) ≤ length parts * 4225
all_few seats parts zero h few = omega arith
all_few seats [] (suc object) h few = omega arith
all_few seats (part ∷ parts) (suc object) h few = let a = places_few seats part (h 0 no_part (omega arith)) few in let r = all_few seats parts object (λ k other below. h (suc k) other (omega arith)) few in omega arith

pub end_few : (seats : ℕ) (parts : List Part) (objects : ℕ) → length parts ≤ 16 → All IsPart parts → seats ≤ 64 → end_after seats parts objects ≤ 67617
end_few seats parts objects few good h = let a = all_few seats parts objects good h in omega arith

pub place_few : (layout : Layout) (object : ℕ) → IsLayout layout → place_after layout object ≤ 67617
place_few layout object h = end_few layout.seats layout.parts object h.few h.parts h.seats

-- the places of one more object
pub one_more : (seats : ℕ) (parts : List Part) (object : ℕ) (other : Part) → object < length parts → all_places seats (take (suc object) parts) ≡ all_places seats (take object parts) + places_of seats (get_or parts object other)
one_more seats [] object other h = absurd (omega arith)
one_more seats (part ∷ parts) zero other h = omega arith
one_more seats (part ∷ parts) (suc object) other h = let r = one_more seats parts object other (omega arith) in omega arith

rises : (seats : ℕ) (parts : List Part) (a b : ℕ) → a ≤ b → all_places seats (take a parts) ≤ all_places seats (take b parts)
rises seats parts zero b h = omega arith
rises seats parts (suc a) zero h = absurd (omega arith)
rises seats [] (suc a) (suc b) h = omega arith
rises seats (part ∷ parts) (suc a) (suc b) h = let r = rises seats parts a b (omega arith) in omega arith

pub all_of : (seats : ℕ) (parts : List Part) → all_places seats (take (length parts) parts) ≡ all_places seats parts
all_of seats [] = refl
all_of seats (part ∷ parts) = ap (λ (n : ℕ). places_of seats part + n) (all_of seats parts)

pub words_are : (layout : Layout) → place_after layout (length layout.parts) ≡ words_of layout
words_are layout = ap (λ (n : ℕ). length layout.parts + 1 + n) (all_of layout.seats layout.parts)

-- where an object ends, the next one begins
pub next_after : (layout : Layout) (object other : ℕ) → object < length layout.parts → object < other → place_after layout object + places_of layout.seats (part_at layout.parts object) ≤ place_after layout other
next_after layout object other there h =
    let a = one_more layout.seats layout.parts object no_part there in
    let b = rises layout.seats layout.parts (suc object) other h in omega arith

range_as : (form : Form) (after cap seats place : ℕ) → first_as form after ≤ place → place < first_as form after + stock_as form cap * seats → (after ≤ place) × (place < after + stock_as form cap * seats)
range_as inline after cap seats place from below = absurd (omega arith)
range_as block after cap seats place from below = (from, below)
range_as node after cap seats place from below = (from, below)

-- the places of an object follow those of the objects before it
pub range_is : (layout : Layout) (object place : ℕ) → InRange (home layout object) place
    → (place_after layout object ≤ place) × (place < place_after layout object + places_of layout.seats (part_at layout.parts object))
range_is layout object place h = range_as (form_of (part_at layout.parts object).kind) (place_after layout object) (part_at layout.parts object).cap (layout.seats + 1) place h.from h.below

apart : (layout : Layout) (object other place : ℕ) → object < length layout.parts → InRange (home layout object) place → InRange (home layout other) place → object < other → ⊥
apart layout object other place there a b h =
    let r = range_is layout object place a in let s = range_is layout other place b in
    let n = next_after layout object other there h in absurd (omega arith)

-- no place is one of two objects
pub one_range : (layout : Layout) (object other place : ℕ) → object < length layout.parts → other < length layout.parts → InRange (home layout object) place → InRange (home layout other) place → object ≡ other
one_range layout object other place there here a b = dite (ℕ_discrete object other) (λ e. e)
    (λ ne. dite (dec_le object other) (λ le. absurd (apart layout object other place there a b (omega arith))) (λ gt. absurd (apart layout other object place here b a (omega arith))))

-- no place is a root
pub not_root : (layout : Layout) (object other place : ℕ) → object < length layout.parts → InRange (home layout other) place → place ≡ object + 1 → ⊥
not_root layout object other place there h e = let r = range_is layout other place h in absurd (omega arith)

-- a place is one of the words
pub in_words : (layout : Layout) (object place : ℕ) → object < length layout.parts → InRange (home layout object) place → place < words_of layout
in_words layout object place there h =
    let r = range_is layout object place h in
    let n = next_after layout object (length layout.parts) there there in
    let w = words_are layout in omega arith

-- so is a root
pub root_in_words : (layout : Layout) (object : ℕ) → object < length layout.parts → object + 1 < words_of layout
root_in_words layout object there = omega arith

-- one more part of a sum over the first ones
pub sum_more : (layout : Layout) (object : ℕ) (part : Part) → object < length layout.parts → part ≡ get_or layout.parts object part → place_after layout object + places_of layout.seats part ≡ place_after layout (object + 1)
sum_more layout object part there e =
    let a : all_places layout.seats (take (suc object) layout.parts) ≡ all_places layout.seats (take object layout.parts) + places_of layout.seats part =
    one_more layout.seats layout.parts object part there ∙ ap (λ (x : Part). all_places layout.seats (take object layout.parts) + places_of layout.seats x) (sym e) in
    let b : all_places layout.seats (take (object + 1) layout.parts) ≡ all_places layout.seats (take (suc object) layout.parts) = ap (λ (n : ℕ). all_places layout.seats (take n layout.parts)) (add-one object) in omega arith
