-- The seats of the start.
use Rattle.std.specs.Prelude.{ℕ, zero, suc, true, List, [], ◌∷◌, ◌++◌, Option, None}
use Rattle.rx_seq.specs.declared.kinds.Part.{Part}
use Rattle.rx_shape.specs.Forms.{start_own}
use Rattle.rx_shape.specs.Layout.{Layout, home}
use Rattle.rx_port.specs.declared.views.Counts.{Counts}
use Rattle.rx_port.specs.declared.views.Known.{Known}
use Rattle.rx_port.specs.declared.views.View.{View}

-- the places of the start of a seat, for the objects from a number on
abbrev pub starts : Layout → ℕ → ℕ → List Part → List (List ℕ)
starts layout seat object [] = []
starts layout seat object (part ∷ parts) = start_own (home layout object) seat ∷ starts layout seat (suc object) parts

-- a new seat has the places of the start of its number
abbrev pub newcomer : Layout → Option Known → ℕ → Option ℕ → View
newcomer layout known seat next =
    record { number = seat; next = next; live = true; attempt = None; own = starts layout seat 0 layout.parts; joined = []; known = known }

-- the seats of a bank at the start: so many that keep no histories
abbrev pub seated : Layout → ℕ → List View
seated layout zero = []
seated layout (suc count) = seated layout count ++ newcomer layout None count None ∷ []

-- the counts at the start
abbrev pub no_counts : Counts
no_counts = record { loads = 0; stores = 0; exchanges = 0 }
