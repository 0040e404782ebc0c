-- Legal histories: each entry's tag is the first one plus the loud entries of its object up to it, and each reply is the
-- table's.
use Rattle.std.specs.Prelude.{ℕ, ◌≡◌, ◌+◌, ◌==◌, if◌then◌else◌, List, [], ◌∷◌}
use Rattle.rx_seq.specs.declared.kinds.Part.{Part}
use Rattle.rx_seq.specs.declared.entries.Entry.{Entry}
use Rattle.rx_seq.specs.Table.{effect}
use Rattle.rx_seq.specs.History.{part_at, replay, tag_of}

-- each entry has the tag that it makes of those before it, and the reply of its call on what they leave; linearizability (Herlihy and Wing, 1990) asks for a legal history that also keeps the order of calls in real time, which is not stated here
abbrev pub IsLegal : List Part → ℕ → List Entry → Type 0
IsLegal parts first [] = Unit {0}
IsLegal parts first (entry ∷ before) =
    (entry.tag ≡ first + tag_of entry.object (entry ∷ before))
    × (entry.reply ≡ (effect (part_at parts entry.object) (replay parts entry.object before) entry.call).reply)
    × IsLegal parts first before

-- the entries of one caller
abbrev pub entries_of : ℕ → List Entry → List Entry
entries_of caller [] = []
entries_of caller (entry ∷ before) = if caller == entry.caller then entry ∷ entries_of caller before else entries_of caller before
