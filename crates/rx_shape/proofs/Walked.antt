-- Words of a block that are read in order.
use Rattle.std.proofs.Common.{◌≡◌, ◌≢◌, ℕ, suc, ◌+◌, ◌-◌, ◌<◌, ◌≤◌, false, ltb, List, length, get_or, refl, ◌∙◌, subst, arith}
use Rattle.std.specs.Prelude.{slice_index}
use Rattle.std.specs.List.{All}
use Rattle.std.proofs.lemmas.Bool.{le-ltb}
use Rattle.std.proofs.lemmas.List.{set-get_or}
use Rattle.rx_seq.specs.declared.kinds.Kind.{Kind}
use Rattle.rx_seq.specs.declared.kinds.Kind.TheVariants.{Cell, Queue, Registers, List as Ordered}
use Rattle.rx_seq.specs.declared.kinds.Part.{Part}
use Rattle.rx_seq.specs.declared.replies.Reply.TheVariants.{Done}
use Rattle.rx_seq.specs.Table.{IsCap, answers, most_value, shifted}
use Rattle.rx_seq.specs.States.{IsValue, IsStateBy}
use Rattle.rx_shape.specs.Forms.{block, form_of}
use Rattle.rx_shape.specs.Walks.{IsBounded, Begins, IsWithin, HaveNone}

-- a state of a kind in block form
pub record IsListing (cap : ℕ) (state : List ℕ) : Type 0 where
  pub all : length state ≡ cap
  pub values : All IsValue state

pub listing_by : (kind : Kind) (cap : ℕ) (state : List ℕ) → form_of kind ≡ block → IsStateBy kind cap state → IsListing cap state
listing_by Cell cap state form is = cc
listing_by Queue cap state form is = cc
listing_by Ordered cap state form is = cc
listing_by Registers cap state form is = record { all = is.count; values = is.values }

pub state_by : (kind : Kind) (cap : ℕ) (state : List ℕ) → form_of kind ≡ block → IsListing cap state → IsStateBy kind cap state
state_by Cell cap state form is = cc
state_by Queue cap state form is = cc
state_by Ordered cap state form is = cc
state_by Registers cap state form is = record { count = is.all; values = is.values }

-- the limits of a part in block form
pub bounded_by : (kind : Kind) (cap : ℕ) → form_of kind ≡ block → IsCap kind cap → IsBounded (record { kind = kind; cap = cap })
bounded_by Cell cap form is = cc
bounded_by Queue cap form is = cc
bounded_by Ordered cap form is = cc
bounded_by Registers cap form is = record { least = is.0; most = is.1 }

pub cap_by : (kind : Kind) (cap : ℕ) → form_of kind ≡ block → IsBounded (record { kind = kind; cap = cap }) → IsCap kind cap
cap_by Cell cap form is = cc
cap_by Queue cap form is = cc
cap_by Ordered cap form is = cc
cap_by Registers cap form is = (is.least, is.most)

-- a number that was read stands in the state
pub stands : (words state : List ℕ) → Begins words state → IsWithin (length words) words → (n : ℕ) → suc n < length words → (n < length state) × (slice_index words (suc n) ≡ slice_index state n)
stands words state begins within n below =
    let w = within (omega arith) in let f = begins.first (omega arith) in
    let there : n < length state = omega arith in (there, begins.numbers n below there)

-- the length is not the capacity
pub none_short : (part : Part) (words : List ℕ) → form_of part.kind ≡ block → 0 < length words → slice_index words 0 ≢ part.cap → HaveNone part words
none_short part words form some other state is begins = other (begins.first some ∙ (listing_by part.kind part.cap state form is).all)

-- the last number is too great
pub none_great : (part : Part) (words : List ℕ) → form_of part.kind ≡ block → IsWithin (length words) words → 1 < length words → most_value < slice_index words (length words - 1) → HaveNone part words
none_great part words form within some great state is begins =
    let n : ℕ = length words - 2 in
    let at : suc n ≡ length words - 1 = omega arith in
    let s = stands words state begins within n (omega arith) in
    let value : slice_index state n ≤ most_value = (listing_by part.kind part.cap state form is).values n 0 s.0 in
    let same : slice_index words (length words - 1) ≡ slice_index state n = subst (λ (i : ℕ). slice_index words i ≡ slice_index state n) at s.1 in omega arith

-- a shift of nothing
shift_zero : (state : List ℕ) (from to : ℕ) → slice_index state to ≤ most_value → shifted state from to 0 ≡ answers state (Done (slice_index state to))
shift_zero state from to few =
    let plenty : ltb (get_or state from 0) 0 ≡ false = le-ltb (get_or state from 0) 0 (omega arith) in
    let all : get_or state from 0 - 0 ≡ get_or state from 0 = omega arith in
    let sum : get_or state to 0 + 0 ≡ get_or state to 0 = omega arith in
    let room : ltb most_value (get_or state to 0) ≡ false = le-ltb most_value (get_or state to 0) few in
    rw (plenty, all, sum, room, set-get_or state from 0, set-get_or state to 0) refl

pub shift_nothing : (state : List ℕ) (from to n v : ℕ) → n ≡ 0 → v ≡ slice_index state to → v ≤ most_value → shifted state from to n ≡ answers state (Done v)
shift_nothing state from to n v none there few = rw (none, there) (shift_zero state from to (rw (← there) few))
