-- What holds of words and seats at every moment, for some history.
use Rattle.std.specs.Prelude.{ℕ, zero, suc, ◌≡◌, ◌+◌, ◌-◌, ◌<◌, ◌≤◌, ◌^◌, ◌==◌, if◌then◌else◌, true, false, List, [], ◌++◌, length, slice_index_or, None, IfSome}
use Rattle.std.specs.List.{All}
use mathlib.Core.Option.{some}
use lib.ListN.{get_elem?}
use Rattle.rx_seq.specs.declared.entries.Entry.{Entry}
use Rattle.rx_seq.specs.Table.{fits_part}
use Rattle.rx_seq.specs.History.{part_at, replay}
use Rattle.rx_seq.specs.Legal.{IsLegal, entries_of}
use Rattle.rx_seq.specs.States.{IsFitting}
use Rattle.rx_shape.specs.declared.homes.Home.{Home}
use Rattle.rx_shape.specs.Words.{tag_of}
use Rattle.rx_shape.specs.Places.{times, total}
use Rattle.rx_shape.specs.Forms.{start_own, InRange, live, decoded, IsVersion, IsStock}
use Rattle.rx_shape.specs.Layout.{Layout, home, root_of, words_of}
use Rattle.rx_shape.specs.Versions.{HasRead, HasWritten}
use Rattle.rx_port.specs.declared.views.Attempt.{Attempt}
use Rattle.rx_port.specs.declared.views.Known.{Known}
use Rattle.rx_port.specs.declared.views.Joined.{Joined}
use Rattle.rx_port.specs.declared.views.View.{View}
use Rattle.rx_port.specs.Core.{tag_after, own_of}

-- a history, and one that some entries were added to
abbrev pub IsOlder : List Entry → List Entry → Type 0
IsOlder older now = (newer : List Entry) × (now ≡ newer ++ older)

-- how often a place stands in what is held for a joined seat
abbrev pub left_of : ℕ → ℕ → Joined → ℕ
left_of object place joined = times place (slice_index_or joined.own object [])

-- how often a place stands among what a seat owns and holds
abbrev pub holds_of : ℕ → ℕ → View → ℕ
holds_of object place view = times place (own_of view object) + total (left_of object place) view.joined

-- how often a place stands in the places of the start of so many seats, from a number on
abbrev pub unmade : Home → ℕ → ℕ → ℕ → ℕ
unmade here place zero seat = 0
unmade here place (suc count) seat = times place (start_own here seat) + unmade here place count (suc seat)

-- how often a place stands among what all seats own and hold, made or not
abbrev pub placed : Layout → ℕ → ℕ → List View → ℕ
placed layout object place views = total (holds_of object place) views + unmade (home layout object) place (layout.seats - length views) (length views)

-- what holds of an open attempt: its call fits an object that is there, its expected tag is at most the present one,
-- its root is the present one where the tags are equal, the words that it read then stand where they are live, and what
-- it wrote stands in its own places
pub record IsAttempt (layout : Layout) (words : List ℕ) (history : List Entry) (own : List (List ℕ)) (attempt : Attempt) : Type 0 where
  pub exists : attempt.object < length layout.parts
  pub fits : fits_part (part_at layout.parts attempt.object) attempt.call ≡ true
  pub at_most : tag_of attempt.expected ≤ tag_after layout history attempt.object
  pub same : tag_of attempt.expected ≡ tag_after layout history attempt.object → attempt.expected ≡ root_of words attempt.object
  pub fresh : attempt.expected ≡ root_of words attempt.object → HasRead (live (home layout attempt.object) attempt.expected words) words attempt.reads
  pub stands : HasWritten words (slice_index_or own attempt.object []) attempt.writes

-- a seat that keeps histories has seen the beginning of this one, and its own entries are those of its number
pub record IsKnown (history : List Entry) (seat : ℕ) (known : Known) : Type 0 where
  pub seen : IsOlder known.seen history
  pub mine : known.mine ≡ entries_of seat history

-- a seat owns a stock of each object
pub record OwnsAll (layout : Layout) (own : List (List ℕ)) : Type 0 where
  pub many : length own ≡ length layout.parts
  pub stocks : (object : ℕ) → object < length layout.parts → IsStock (home layout object) (slice_index_or own object [])

-- a seat that was joined into another owns nothing, holds nothing and has no open attempt
pub record IsSpent (view : View) : Type 0 where
  pub own : view.own ≡ []
  pub joined : view.joined ≡ []
  pub attempt : view.attempt ≡ None

-- what holds of a seat: a live one has its number and owns a stock of each object; one that was joined into another is
-- spent; its open attempt and what it knows are so
pub record IsView (layout : Layout) (words : List ℕ) (history : List Entry) (seat : ℕ) (view : View) : Type 0 where
  pub numbered : view.live ≡ true → view.number ≡ seat
  pub owns : view.live ≡ true → OwnsAll layout view.own
  pub spent : view.live ≡ false → IsSpent view
  pub attempt : IfSome view.attempt (λ attempt. IsAttempt layout words history view.own attempt)
  pub known : IfSome view.known (λ known. IsKnown history seat known)
  pub both : IfSome view.attempt (λ attempt. IfSome view.known (λ known. tag_of attempt.expected ≤ tag_after layout known.seen attempt.object))

-- what holds of what a seat keeps of one that was joined into it: that one is live no more, what it saw is a beginning
-- of the history, its entries are those of its number, and a stock of each object was its own
pub record IsJoined (layout : Layout) (views : List View) (history : List Entry) (joined : Joined) : Type 0 where
  pub made : joined.number < length views
  pub dead : (view : View) → get_elem? views joined.number ≡ some view → view.live ≡ false
  pub seen : IsOlder joined.seen history
  pub mine : joined.mine ≡ entries_of joined.number history
  pub owns : OwnsAll layout joined.own

-- how often a seat is among those that were joined into a seat
abbrev pub is_of : ℕ → Joined → ℕ
is_of seat joined = if joined.number == seat then 1 else 0

abbrev pub joined_in : ℕ → View → ℕ
joined_in seat view = total (is_of seat) view.joined

-- no entry is of a seat that is not made yet
abbrev pub NoneUnmade : List View → List Entry → Type 0
NoneUnmade views history = (seat : ℕ) → length views ≤ seat → entries_of seat history ≡ []

-- the words and seats stand for this history: it is legal, each of its calls fits an object that is there, and each of
-- its callers is a seat that was made; the roots have its tags and stand for its states; no place is live or owned
-- twice; each seat that was joined into another is kept by one seat, once
pub record Lawful (layout : Layout) (words : List ℕ) (views : List View) (history : List Entry) : Type 0 where
  pub legal : IsLegal layout.parts layout.first history
  pub fitting : All (IsFitting layout.parts) history
  pub size : length words ≡ words_of layout
  pub tags : (object : ℕ) → object < length layout.parts → tag_of (root_of words object) ≡ tag_after layout history object
  pub below : (object : ℕ) → object < length layout.parts → tag_after layout history object < 2 ^ 40
  pub versions : (object : ℕ) → object < length layout.parts → IsVersion (home layout object) (root_of words object) words
  pub states : (object : ℕ) → object < length layout.parts → decoded (home layout object) (root_of words object) words ≡ replay layout.parts object history
  pub places : (object place : ℕ) → object < length layout.parts → times place (live (home layout object) (root_of words object) words) + placed layout object place views ≤ 1
  pub inside : (object place : ℕ) → object < length layout.parts → 0 < placed layout object place views → InRange (home layout object) place
  pub few : length views ≤ layout.seats
  pub seats : (seat : ℕ) (view : View) → get_elem? views seat ≡ some view → IsView layout words history seat view
  pub joins : (seat : ℕ) (view : View) → get_elem? views seat ≡ some view → (n : ℕ) (joined : Joined) → get_elem? view.joined n ≡ some joined → IsJoined layout views history joined
  pub kept : (seat : ℕ) (view : View) → get_elem? views seat ≡ some view → view.live ≡ false → total (joined_in seat) views ≡ 1
  pub made : NoneUnmade views history
