-- A seat of two on one cell, which has lost one attempt to an add of the other seat, while a look of it came too.
use Rattle.std.proofs.Common.{ℕ, ◌≡◌, ◌≤◌, List, [], ◌∷◌, ◌==◌, true, false, Some, None, refl, arith}
use Rattle.std.proofs.lemmas.Bool.Decides.{nat_tests}
use Rattle.rx_seq.specs.declared.kinds.Kind.TheVariants.{Cell}
use Rattle.rx_seq.specs.declared.calls.Call.{Call}
use Rattle.rx_seq.specs.declared.calls.Call.TheVariants.{Get, Add}
use Rattle.rx_seq.specs.declared.replies.Reply.TheVariants.{Done}
use Rattle.rx_seq.specs.declared.entries.Entry.{Entry}
use Rattle.rx_seq.specs.Legal.{entries_of}
use Rattle.rx_shape.specs.Layout.{Layout}
use Rattle.rx_port.specs.declared.views.Known.{Known}
use Rattle.rx_port.specs.declared.views.View.{View}
use Rattle.rx_object.specs.Calls.{HasSeenMore}

abbrev layout : Layout
layout = record { parts = record { kind = Cell; cap = 1 } ∷ []; seats = 2; first = 0 }

abbrev made : ℕ → ℕ → Call → ℕ → ℕ → Entry
made caller index call value tag = record { caller = caller; index = index; object = 0; call = call; reply = Done value; tag = tag }

abbrev between : List Entry
between = made 1 2 (Add 5) 6 2 ∷ made 1 1 Get 1 1 ∷ []

abbrev seen : List Entry
seen = made 0 1 (Add 1) 1 1 ∷ []

abbrev knew : Known
knew = record { seen = seen; mine = seen; begins = 1; exchanges = 1; latest = None }

abbrev knows : Known
knows = record { seen = made 1 2 (Add 5) 6 2 ∷ made 1 1 Get 1 1 ∷ seen; mine = seen; begins = 2; exchanges = 2; latest = None }

abbrev view : Known → View
view known = record { number = 0; next = None; live = true; attempt = None; own = [] ∷ []; joined = []; known = Some known }

-- the add counts, and the look does not
lost_one : HasSeenMore layout (view knew) (view knows) 0 1
lost_one = record {
  known = knew;
  is = refl;
  after = knows;
  after_is = refl;
  between = between;
  history = knows.seen;
  history_is = refl;
  others = refl;
  seated = none;
  many = omega arith;
  number = refl;
}
  where
    none : (seat : ℕ) → 2 ≤ seat → entries_of seat between ≡ []
    none seat above =
        let other : (seat == 1) ≡ false = grind (arith, nat_tests) in
        rw (other) refl
