-- Quiet calls: those of which call and reply tell that nothing changed. They raise no tag and make no other attempt repeat.
use Rattle.std.specs.Prelude.{ℕ, ◌==◌, ◌||◌, not, Bool, true, false, if◌then◌else◌, take}
use Rattle.std.specs.List.{list_all}
use Rattle.rx_seq.specs.declared.calls.Row.{Row}
use Rattle.rx_seq.specs.declared.calls.Call.{Call}
use Rattle.rx_seq.specs.declared.calls.Call.TheVariants.{Get, Set, Add, Swap, Put, Take, Insert, Remove, Has, Read, Shift, Multi}
use Rattle.rx_seq.specs.declared.replies.Reply.{Reply}
use Rattle.rx_seq.specs.declared.replies.Reply.TheVariants.{Done, Added, Removed}

-- a row whose new value is its old one
abbrev pub keeps_value : Row → Bool
keeps_value row = row.old == row.new

-- whether a call changes nothing, whatever state it meets: it looks, adds or shifts 0, or writes what must be there.
-- A set is none of these, even of the value that is there: whether it changes something is not told by call and reply
abbrev pub is_still : Call → Bool
is_still Get = true
is_still (Set v) = false
is_still (Add v) = v == 0
is_still (Swap old new) = old == new
is_still (Put v) = false
is_still Take = false
is_still (Insert k) = false
is_still (Remove k) = false
is_still (Has k) = true
is_still (Read i) = true
is_still (Shift from to n) = n == 0
is_still (Multi count rows) = list_all keeps_value (take count rows)

-- a reply that tells of a change, if the call is one that can change something; each other reply tells of none
abbrev pub tells_change : Reply → Bool
tells_change (Done n) = true
tells_change Added = true
tells_change Removed = true
tells_change _ = false

-- a call and its reply are quiet if the call changes nothing on any state, or the reply tells of no change
abbrev pub is_quiet : Call → Reply → Bool
is_quiet call reply = is_still call || not (tells_change reply)

-- by how much a call with this reply raises the tag of its object
abbrev pub raised : Call → Reply → ℕ
raised call reply = if not (is_quiet call reply) then 1 else 0
