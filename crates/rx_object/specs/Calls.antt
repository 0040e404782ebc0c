-- What a call on a shared table tells of its seat. Histories are newest first.
use Rattle.std.specs.Prelude.{ℕ, ◌≡◌, ◌≢◌, ◌+◌, ◌<◌, ◌≤◌, ◌^◌, List, [], ◌∷◌, ◌++◌, Some, None}
use Rattle.rx_seq.specs.declared.calls.Call.{Call}
use Rattle.rx_seq.specs.declared.entries.Entry.{Entry}
use Rattle.rx_seq.specs.declared.replies.Reply.{Reply}
use Rattle.rx_seq.specs.History.{tag_of as count_loud}
use Rattle.rx_seq.specs.Legal.{IsLegal, entries_of}
use Rattle.rx_shape.specs.Layout.{Layout}
use Rattle.rx_shape.specs.Words.{tag_of}
use Rattle.rx_port.specs.declared.views.Exchange.{Exchange}
use Rattle.rx_port.specs.declared.views.Known.{Known}
use Rattle.rx_port.specs.declared.views.View.{View}
use Rattle.rx_port.specs.Core.{tag_after, entry_for, new_attempt}
use Rattle.rx_object.specs.declared.calls.Try.{Try}
use Rattle.rx_object.specs.declared.calls.Try.TheVariants.{Done, Lost, Spent}
use Rattle.rx_object.specs.declared.calls.Outcome.{Outcome}
use Rattle.rx_object.specs.declared.calls.Outcome.TheVariants.{Done as AllDone, Spent as AllSpent}

-- an exchange on an object, with the root that it expected and the one that it found
abbrev pub exchange : ℕ → ℕ → ℕ → Exchange
exchange object expected found = record { object = object; expected = expected; found = found }

module _ (layout : Layout) (before now : View) (object : ℕ) where
  -- what the seat knew and what it now knows, after so many lost attempts: the history that it found begins with what
  -- it had seen and goes on with entries of other seats of the table, at least one loud one on the object for each lost
  -- attempt. It keeps its number
  pub record HasSeenMore (lost : ℕ) : Type 0 where
    pub known : Known
    pub is : before.known ≡ Some known
    pub after : Known
    pub after_is : now.known ≡ Some after
    pub between : List Entry
    pub history : List Entry
    pub history_is : history ≡ between ++ known.seen
    pub others : entries_of before.number between ≡ []
    pub seated : (seat : ℕ) → layout.seats ≤ seat → entries_of seat between ≡ []
    pub many : lost ≤ count_loud object between
    pub number : now.number ≡ before.number

  -- the call was made after so many lost attempts. What the seat has seen is legal: it begins with what it had seen,
  -- goes on with entries of other seats of the table, at least one loud one on the object for each lost attempt, and
  -- ends with the entry of this call, whose reply and tag are answered. Its own entries are those before and this one.
  -- Its begins and its exchanges rose by the lost attempts and one, the latest exchange found the root that it expected,
  -- and no attempt is open. The root that was loaded did not have the last tag
  pub record IsDone (call : Call) (reply : Reply) (tag lost : ℕ) : Type 0 where
    pub more : HasSeenMore lost
    pub seen : more.after.seen ≡ entry_for layout more.history before.number object call ∷ more.history
    pub reply_is : reply ≡ (entry_for layout more.history before.number object call).reply
    pub tag_is : tag ≡ (entry_for layout more.history before.number object call).tag
    pub legal : IsLegal layout.parts layout.first more.after.seen
    pub mine : more.after.mine ≡ entry_for layout more.history before.number object call ∷ more.known.mine
    pub all_mine : more.after.mine ≡ entries_of before.number more.after.seen
    pub begins : more.after.begins ≡ more.known.begins + lost + 1
    pub exchanges : more.after.exchanges ≡ more.known.exchanges + lost + 1
    pub root : ℕ
    pub latest : more.after.latest ≡ Some (exchange object root root)
    pub room : tag_of root + 1 < 2 ^ 40
    pub closed : now.attempt ≡ None

  -- so many attempts were lost, fewer than 2^40: the seat has seen at least one loud entry of other seats on the
  -- object for each, made none, and owns the same places; its begins and its exchanges rose by as many
  pub record HasWaited (lost : ℕ) : Type 0 where
    pub more : HasSeenMore lost
    pub seen : more.after.seen ≡ more.history
    pub few : lost < 2 ^ 40
    pub mine : more.after.mine ≡ more.known.mine
    pub begins : more.after.begins ≡ more.known.begins + lost
    pub exchanges : more.after.exchanges ≡ more.known.exchanges + lost
    pub own : now.own ≡ before.own

  -- an attempt was lost: the latest exchange found another root than it expected, the expected one did not have the
  -- last tag, no attempt is open, and what the seat has seen is legal
  pub record IsLost (expected found : ℕ) : Type 0 where
    pub waited : HasWaited 1
    pub legal : IsLegal layout.parts layout.first waited.more.after.seen
    pub below : tag_after layout waited.more.after.seen object < 2 ^ 40
    pub latest : waited.more.after.latest ≡ Some (exchange object expected found)
    pub room : tag_of expected + 1 < 2 ^ 40
    pub apart : found ≢ expected
    pub closed : now.attempt ≡ None

  -- after so many lost attempts the root that was loaded has the last tag, which is that of the history that the seat
  -- has seen. Its begins rose by one more than its exchanges; it owns the same places and made no entry. The attempt
  -- that loaded the root is still open, and has neither read nor written
  pub record IsSpent (call : Call) (tag lost : ℕ) : Type 0 where
    pub more : HasSeenMore lost
    pub seen : more.after.seen ≡ more.history
    pub legal : IsLegal layout.parts layout.first more.after.seen
    pub mine : more.after.mine ≡ more.known.mine
    pub begins : more.after.begins ≡ more.known.begins + lost + 1
    pub exchanges : more.after.exchanges ≡ more.known.exchanges + lost
    pub tag_is : tag ≡ tag_after layout more.after.seen object
    pub last : tag + 1 ≡ 2 ^ 40
    pub root : ℕ
    pub root_is : tag ≡ tag_of root
    pub opened : now.attempt ≡ Some (new_attempt object call root)
    pub own : now.own ≡ before.own

  -- what each answer of an attempt tells: one of these
  abbrev pub Tells : Call → Try → Type 0
  Tells call (Done reply tag) = IsDone call reply tag 0
  Tells call (Lost expected found) = IsLost expected found
  Tells call (Spent tag) = IsSpent call tag 0

  -- what each answer of a whole call tells
  abbrev pub TellsAll : Call → Outcome → Type 0
  TellsAll call (AllDone reply tag retries) = IsDone call reply tag retries
  TellsAll call (AllSpent tag) = (lost : ℕ) × IsSpent call tag lost
