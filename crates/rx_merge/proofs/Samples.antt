-- The worked lists are those of a legal history on two cells.
use Rattle.std.proofs.Common.{ℕ, zero, suc, ◌≡◌, ◌<◌, List, [], ◌∷◌, reverse, refl, arith}
use Rattle.std.specs.List.{All}
use Rattle.std.proofs.lemmas.List.Elements.{All-from_recursion}
use Rattle.rx_seq.specs.declared.kinds.Kind.TheVariants.{Cell}
use Rattle.rx_seq.specs.declared.kinds.Part.{Part}
use Rattle.rx_seq.specs.declared.entries.Entry.{Entry}
use Rattle.rx_seq.specs.Table.{IsPart}
use Rattle.rx_seq.specs.Legal.{entries_of}
use Rattle.rx_seq.specs.States.{IsFitting}
use Rattle.rx_merge.specs.Merged.{AreOf, list_at}
use Rattle.rx_merge.specs.Rows.{late, early, zero_writes, one_writes, one_reads, two_writes, two_reads, three_lists, zero_sets, one_adds, one_looks, zero_looks, one_looks_first, one_adds_then}

abbrev cell : Part
cell = record { kind = Cell; cap = 1 }

abbrev pub cells : List Part
cells = cell ∷ cell ∷ []

two_cells : All IsPart cells
two_cells = All-from_recursion (λ part. IsPart part) cells (refl, (refl, tt))

-- the third caller does nothing
abbrev pub short_history : List Entry
short_history = late ∷ early ∷ []

abbrev pub short_lists : List (List Entry)
short_lists = (late ∷ []) ∷ (early ∷ []) ∷ [] ∷ []

short_own : (caller : ℕ) → caller < 3 → list_at short_lists caller ≡ reverse (entries_of caller short_history)
short_own zero h = refl
short_own (suc zero) h = refl
short_own (suc (suc zero)) h = refl
short_own (suc (suc (suc n))) h = absurd (omega arith)

pub short_are : AreOf cells 2 short_lists short_history
short_are = record {
  legal = (refl, refl, (refl, refl, tt));
  limits = two_cells;
  fitting = All-from_recursion (IsFitting cells) short_history (record { exists = omega arith; fits = refl }, (record { exists = omega arith; fits = refl }, tt));
  own = short_own;
  callers = (omega arith, (omega arith, tt));
  known = (omega arith, (omega arith, tt));
}

-- an order in which it happened, which is not the merged one
abbrev pub long_history : List Entry
long_history = two_reads ∷ one_reads ∷ zero_writes ∷ one_writes ∷ two_writes ∷ []

long_own : (caller : ℕ) → caller < 3 → list_at three_lists caller ≡ reverse (entries_of caller long_history)
long_own zero h = refl
long_own (suc zero) h = refl
long_own (suc (suc zero)) h = refl
long_own (suc (suc (suc n))) h = absurd (omega arith)

pub long_are : AreOf cells 2 three_lists long_history
long_are = record {
  legal = (refl, refl, (refl, refl, (refl, refl, (refl, refl, (refl, refl, tt)))));
  limits = two_cells;
  fitting = All-from_recursion (IsFitting cells) long_history (record { exists = omega arith; fits = refl }, (record { exists = omega arith; fits = refl }, (record { exists = omega arith; fits = refl }, (record { exists = omega arith; fits = refl }, (record { exists = omega arith; fits = refl }, tt)))));
  own = long_own;
  callers = (omega arith, (omega arith, (omega arith, (omega arith, (omega arith, tt)))));
  known = (omega arith, (omega arith, (omega arith, (omega arith, (omega arith, tt)))));
}

-- a caller looks at a cell before the other writes it
abbrev pub look_history : List Entry
look_history = zero_sets ∷ one_looks ∷ one_adds ∷ []

abbrev pub look_lists : List (List Entry)
look_lists = (zero_sets ∷ []) ∷ (one_adds ∷ one_looks ∷ []) ∷ [] ∷ []

look_own : (caller : ℕ) → caller < 3 → list_at look_lists caller ≡ reverse (entries_of caller look_history)
look_own zero h = refl
look_own (suc zero) h = refl
look_own (suc (suc zero)) h = refl
look_own (suc (suc (suc n))) h = absurd (omega arith)

pub look_are : AreOf cells 2 look_lists look_history
look_are = record {
  legal = (refl, refl, (refl, refl, (refl, refl, tt)));
  limits = two_cells;
  fitting = All-from_recursion (IsFitting cells) look_history (record { exists = omega arith; fits = refl }, (record { exists = omega arith; fits = refl }, (record { exists = omega arith; fits = refl }, tt)));
  own = look_own;
  callers = (omega arith, (omega arith, (omega arith, tt)));
  known = (omega arith, (omega arith, (omega arith, tt)));
}

-- an add between two looks
abbrev pub add_history : List Entry
add_history = zero_looks ∷ one_adds_then ∷ one_looks_first ∷ []

abbrev pub add_lists : List (List Entry)
add_lists = (zero_looks ∷ []) ∷ (one_looks_first ∷ one_adds_then ∷ []) ∷ [] ∷ []

add_own : (caller : ℕ) → caller < 3 → list_at add_lists caller ≡ reverse (entries_of caller add_history)
add_own zero h = refl
add_own (suc zero) h = refl
add_own (suc (suc zero)) h = refl
add_own (suc (suc (suc n))) h = absurd (omega arith)

pub add_are : AreOf cells 2 add_lists add_history
add_are = record {
  legal = (refl, refl, (refl, refl, (refl, refl, tt)));
  limits = two_cells;
  fitting = All-from_recursion (IsFitting cells) add_history (record { exists = omega arith; fits = refl }, (record { exists = omega arith; fits = refl }, (record { exists = omega arith; fits = refl }, tt)));
  own = add_own;
  callers = (omega arith, (omega arith, (omega arith, tt)));
  known = (omega arith, (omega arith, (omega arith, tt)));
}
