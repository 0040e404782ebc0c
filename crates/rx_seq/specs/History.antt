-- Histories of calls. A list of entries is newest first, so an entry stands before those that came before it.
use Rattle.std.specs.Prelude.{ℕ, ◌+◌, ◌==◌, ◌&&◌, Bool, not, if◌then◌else◌, List, [], ◌∷◌, get_or}
use Rattle.rx_seq.specs.declared.kinds.Kind.TheVariants.{Cell}
use Rattle.rx_seq.specs.declared.kinds.Part.{Part}
use Rattle.rx_seq.specs.declared.calls.Call.{Call}
use Rattle.rx_seq.specs.declared.entries.Entry.{Entry}
use Rattle.rx_seq.specs.Table.{start_of, effect}
use Rattle.rx_seq.specs.Quiet.{is_quiet}

-- a part that stands where there is no object
abbrev pub no_part : Part
no_part = record { kind = Cell; cap = 1 }

-- the part of an object, by its number from 0
abbrev pub part_at : List Part → ℕ → Part
part_at parts object = get_or parts object no_part

-- whether an entry raises the tag of its object, by one: each one does that is not quiet
abbrev pub is_loud : Entry → Bool
is_loud entry = not (is_quiet entry.call entry.reply)

-- the state of an object after some entries: its first state, with the effect of each entry's call on it in turn
abbrev pub replay : List Part → ℕ → List Entry → List ℕ
replay parts object [] = start_of (part_at parts object)
replay parts object (entry ∷ before) =
    if object == entry.object then (effect (part_at parts object) (replay parts object before) entry.call).state else replay parts object before

-- the tag of an object: how many entries raised it
abbrev pub tag_of : ℕ → List Entry → ℕ
tag_of object [] = 0
tag_of object (entry ∷ before) = (if (object == entry.object) && is_loud entry then 1 else 0) + tag_of object before

-- how many entries of a caller there are
abbrev pub calls_of : ℕ → List Entry → ℕ
calls_of caller [] = 0
calls_of caller (entry ∷ before) = (if caller == entry.caller then 1 else 0) + calls_of caller before

-- the entry of a call that comes after these: the caller's next index, the reply that the replay of the entries before
-- gives, and the object's tag after it
abbrev pub entry_after : List Part → List Entry → ℕ → ℕ → Call → Entry
entry_after parts before caller object call =
    let untagged : Entry = record {
      caller = caller;
      index = calls_of caller before + 1;
      object = object;
      call = call;
      reply = (effect (part_at parts object) (replay parts object before) call).reply;
      tag = 0;
    } in
    record untagged { tag = tag_of object before + (if is_loud untagged then 1 else 0) }
