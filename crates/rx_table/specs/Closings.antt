-- What a closed table tells.
use Rattle.std.specs.Prelude.{ℕ, ◌≡◌, ◌<◌, ◌≤◌, List, [], length, slice_index, Some}
use Rattle.std.specs.List.{All}
use mathlib.Core.Option.{some}
use lib.ListN.{get_elem?}
use Rattle.rx_seq.specs.declared.entries.Entry.{Entry}
use Rattle.rx_seq.specs.History.{replay}
use Rattle.rx_seq.specs.Legal.{IsLegal, entries_of}
use Rattle.rx_seq.specs.States.{IsFitting}
use Rattle.rx_shape.specs.Words.{tag_of}
use Rattle.rx_shape.specs.Forms.{decoded, IsVersion}
use Rattle.rx_shape.specs.Layout.{Layout, IsLayout, home, root_of, words_of}
use Rattle.rx_port.specs.declared.views.Known.{Known}
use Rattle.rx_port.specs.declared.views.Joined.{Joined}
use Rattle.rx_port.specs.declared.views.View.{View}
use Rattle.rx_port.specs.Core.{tag_after}
use Rattle.rx_port.specs.Lawful.{IsOlder}
use Rattle.rx_table.specs.Seats.{carries}

-- a closed table as clauses see it: its layout, its last words, and the history of all calls that were completed,
-- newest first
pub record Ending : Type 0 where
  pub layout : Layout
  pub words : List ℕ
  pub history : List Entry

-- the history is legal, its calls fit, and each of its entries is of one of the seats; the tags and the states of the
-- words are those of the history
pub record HasEnded (ending : Ending) : Type 0 where
  pub limits : IsLayout ending.layout
  pub size : length ending.words ≡ words_of ending.layout
  pub unused : slice_index ending.words 0 ≡ 0
  pub legal : IsLegal ending.layout.parts ending.layout.first ending.history
  pub fitting : All (IsFitting ending.layout.parts) ending.history
  pub tags : (object : ℕ) → object < length ending.layout.parts → tag_of (root_of ending.words object) ≡ tag_after ending.layout ending.history object
  pub versions : (object : ℕ) → object < length ending.layout.parts → IsVersion (home ending.layout object) (root_of ending.words object) ending.words
  pub states : (object : ℕ) → object < length ending.layout.parts → decoded (home ending.layout object) (root_of ending.words object) ending.words ≡ replay ending.layout.parts object ending.history
  pub callers : (seat : ℕ) → ending.layout.seats ≤ seat → entries_of seat ending.history ≡ []

-- what a seat has seen is a beginning of the history, and its own entries are those of its number
pub record HasSeen (history : List Entry) (view : View) : Type 0 where
  pub known : Known
  pub is : view.known ≡ Some known
  pub seen : IsOlder known.seen history
  pub mine : known.mine ≡ entries_of view.number history

-- the same of what a seat kept of one that was joined into it
pub record Carried (history : List Entry) (joined : Joined) : Type 0 where
  pub seen : IsOlder joined.seen history
  pub mine : joined.mine ≡ entries_of joined.number history

-- what the last words and the last seat tell of the history: it has ended so, and carries all that were joined
pub record Closing (layout : Layout) (words : List ℕ) (view : View) (history : List Entry) : Type 0 where
  pub ended : HasEnded (record { layout = layout; words = words; history = history })
  pub carried : (number : ℕ) (joined : Joined) → get_elem? (carries view) number ≡ some joined → Carried history joined
