-- Which answer a call gives.
use Rattle.std.specs.Prelude.{ℕ, ◌≡◌, ◌+◌, Bool, true, false, List, drop, Option, Some}
use Rattle.rx_io.specs.declared.status.Status.{Status}
use Rattle.rx_seq.specs.declared.entries.Entry.{Entry}
use Rattle.rx_top.specs.declared.words.Command.{Command}
use Rattle.rx_top.specs.declared.left.Left.{Left}
use Rattle.rx_top.specs.Words.{reads_input, uses_threads}
use Rattle.rx_top.specs.Stops.{is_answered}
use Rattle.rx_top.specs.Outcome.{Ends, IsUnread, WritesAll, answer, most_input}

-- what holds of some history where threads have a part in the answer, and of every one where they have none
abbrev pub SomeOrEach : Bool → (List Entry → Type 0) → Type 0
SomeOrEach true P = (history : List Entry) × P history
SomeOrEach false P = (history : List Entry) → P history

-- A command that reads its input: the answer to the words and the input is given, and for lanes that to a history that they can make. What is left of the input is behind the limit.
abbrev pub Determined : Option Command → Ends → Ends → Left → Status → Type 0
Determined command before after left result =
    (input : List ℕ) → before.source.left ≡ Some input → reads_input command ≡ true → is_answered result ≡ true
    → (after.source.left ≡ Some (drop (most_input + 1) input)) × SomeOrEach (uses_threads command) (λ history. WritesAll (answer command history input) before.sink after.sink left result)

-- Words of no shape, and a command that reads nothing: the same, whatever the input and the history, and the source is not called.
abbrev pub Unread : Option Command → Ends → Ends → Left → Status → Type 0
Unread command before after left result =
    (history : List Entry) (input : List ℕ) → reads_input command ≡ false → is_answered result ≡ true
    → IsUnread before.source after.source × WritesAll (answer command history input) before.sink after.sink left result
