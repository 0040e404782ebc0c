-- Words and seats, and what the four events make of them. Histories are newest first. The types are in
-- `src/views.rt`: `Core` (all words and seats), `View` (a seat), `Attempt` (what a seat has open), `Known` (what it
-- has seen and made) and `Joined` (what it keeps of a seat that was joined into it).
use Rattle.std.specs.Prelude.{ℕ, ◌+◌, Bool, true, false, List, [], ◌∷◌, ◌++◌, slice_index_or, slice_set, Some, None, option_map}
use Rattle.rx_seq.specs.declared.calls.Call.{Call}
use Rattle.rx_seq.specs.declared.entries.Entry.{Entry}
use Rattle.rx_seq.specs.History.{tag_of as count_loud, entry_after}
use Rattle.rx_shape.specs.declared.plans.Taken.{Taken}
use Rattle.rx_shape.specs.declared.plans.Write.{Write}
use Rattle.rx_shape.specs.declared.plans.Pair.{Pair}
use Rattle.rx_shape.specs.Layout.{Layout}
use Rattle.rx_shape.specs.Versions.{traded}
use Rattle.rx_port.specs.declared.views.Counts.{Counts}
use Rattle.rx_port.specs.declared.views.Attempt.{Attempt}
use Rattle.rx_port.specs.declared.views.Exchange.{Exchange}
use Rattle.rx_port.specs.declared.views.Known.{Known}
use Rattle.rx_port.specs.declared.views.View.{View}
use Rattle.rx_port.specs.declared.views.Core.{Core}

-- the tag of an object after a history: the tag at the start, and one for each loud entry on the object
abbrev pub tag_after : Layout → List Entry → ℕ → ℕ
tag_after layout history object = layout.first + count_loud object history

-- what a seat owns of an object
abbrev pub own_of : View → ℕ → List ℕ
own_of view object = slice_index_or view.own object []

-- the counts with one more event
abbrev pub one_load : Counts → Counts
one_load counts = record counts { loads = counts.loads + 1 }

abbrev pub one_store : Counts → Counts
one_store counts = record counts { stores = counts.stores + 1 }

abbrev pub one_exchange : Counts → Counts
one_exchange counts = record counts { exchanges = counts.exchanges + 1 }

-- the words, seats and counts after a load, which leaves the words as they are, and after a store, which changes one
abbrev pub loaded : Core → ℕ → View → Core
loaded core seat view = record { words = core.words; views = slice_set core.views seat view; counts = option_map one_load core.counts }

abbrev pub stored : Core → ℕ → ℕ → ℕ → View → Core
stored core place word seat view = record { words = slice_set core.words place word; views = slice_set core.views seat view; counts = option_map one_store core.counts }

-- the same after an exchange, which puts a word in place of the root: the new root, or the one that it found
abbrev pub exchanged : Core → ℕ → ℕ → ℕ → View → Core
exchanged core object word seat view = record { words = slice_set core.words (object + 1) word; views = slice_set core.views seat view; counts = option_map one_exchange core.counts }

-- begin: what the seat knows, its attempt and the seat itself are after it. The attempt is new, and the history that
-- the seat has seen is the present one
abbrev pub begun_known : List Entry → Known → Known
begun_known history known = record known { seen = history; begins = known.begins + 1 }

abbrev pub new_attempt : ℕ → Call → ℕ → Attempt
new_attempt object call root = record { object = object; call = call; expected = root; reads = []; writes = [] }

abbrev pub begun_view : List Entry → View → ℕ → Call → ℕ → View
begun_view history view object call root = record view { attempt = Some (new_attempt object call root); known = option_map (begun_known history) view.known }

-- read and write: the attempt has one more word, and so has that of the seat
abbrev pub with_read : Taken → Attempt → Attempt
with_read taken attempt = record attempt { reads = attempt.reads ++ taken ∷ [] }

abbrev pub with_write : Write → Attempt → Attempt
with_write write attempt = record attempt { writes = attempt.writes ++ write ∷ [] }

abbrev pub read_view : View → Attempt → Taken → View
read_view view attempt taken = record view { attempt = Some (with_read taken attempt) }

abbrev pub written_view : View → Attempt → Write → View
written_view view attempt write = record view { attempt = Some (with_write write attempt) }

-- the entry that an exchange adds, and the history with it where the exchange found the expected root
abbrev pub entry_for : Layout → List Entry → ℕ → ℕ → Call → Entry
entry_for layout history caller object call =
    let entry : Entry = entry_after layout.parts history caller object call in record entry { tag = layout.first + entry.tag }

abbrev pub history_after : Bool → Entry → List Entry → List Entry
history_after true entry history = entry ∷ history
history_after false entry history = history

-- decide: what the seat knows, its own places, the exchange and the seat itself are after it. Where it wins, the seat
-- has its entry and the own places are traded; no attempt is open
abbrev pub decided_known : Bool → List Entry → Entry → Exchange → Known → Known
decided_known won history entry exchange known =
    record { seen = history_after won entry history; mine = history_after won entry known.mine; begins = known.begins; exchanges = known.exchanges + 1; latest = Some exchange }

abbrev pub traded_own : Bool → List (List ℕ) → ℕ → List Pair → List (List ℕ)
traded_own true own object pairs = slice_set own object (traded (slice_index_or own object []) pairs)
traded_own false own object pairs = own

abbrev pub exchange_of : Attempt → ℕ → Exchange
exchange_of attempt found = record { object = attempt.object; expected = attempt.expected; found = found }

abbrev pub decided_view : Bool → List Entry → Entry → View → Attempt → ℕ → List Pair → View
decided_view won history entry view attempt found pairs =
    record view { attempt = None; own = traded_own won view.own attempt.object pairs; known = option_map (decided_known won history entry (exchange_of attempt found)) view.known }
