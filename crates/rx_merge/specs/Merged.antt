-- One order of the entries of several callers. A caller's list is oldest first; the merged order is newest first, as histories are.
use Rattle.std.specs.Prelude.{ℕ, zero, suc, ◌≡◌, ◌+◌, ◌<◌, ◌==◌, ◌&&◌, not, Bool, true, if◌then◌else◌, List, [], ◌∷◌, length, reverse, drop, map, filter, sum_by, slice_get, slice_index_or, Option, Some, None, Vec}
use Rattle.std.specs.List.{All, AllByRecursion, list_all}
use Rattle.std.specs.declared.alloc.Global.{Global}
use Rattle.rx_seq.specs.declared.kinds.Part.{Part}
use Rattle.rx_seq.specs.declared.entries.Entry.{Entry}
use Rattle.rx_seq.specs.Table.{IsPart}
use Rattle.rx_seq.specs.History.{is_loud, tag_of, calls_of}
use Rattle.rx_seq.specs.Legal.{IsLegal, entries_of}
use Rattle.rx_seq.specs.States.{IsFitting}

-- the entries of each caller, oldest first
abbrev pub lists_of : List (Vec Entry Global) → List (List Entry)
lists_of lists = map (λ (list : Vec Entry Global). list.items) lists

-- the list of a caller
abbrev pub list_at : List (List Entry) → ℕ → List Entry
list_at lists caller = slice_index_or lists caller []

-- how many entries there are in all
abbrev pub count_of : List (List Entry) → ℕ
count_of lists = sum_by (λ list. length list) lists

-- an entry is on an object
abbrev pub is_on : ℕ → Entry → Bool
is_on object entry = object == entry.object

-- the entries on one object, in their order
abbrev pub entries_on : ℕ → List Entry → List Entry
entries_on object entries = filter (is_on object) entries

-- the loud ones among them
abbrev pub louds_on : ℕ → List Entry → List Entry
louds_on object entries = filter is_loud (entries_on object entries)

-- the lists are those of callers 0, 1 and so on of one legal history: its tags begin at 0, its objects are within their
-- limits and its calls fit them, each list has its caller's entries in their order, no entry is of another caller, and
-- each is on one of so many objects
pub record AreOf (parts : List Part) (objects : ℕ) (lists : List (List Entry)) (history : List Entry) : Type 0 where
  pub legal : IsLegal parts 0 history
  pub limits : All IsPart parts
  pub fitting : All (IsFitting parts) history
  pub own : (caller : ℕ) → caller < length lists → list_at lists caller ≡ reverse (entries_of caller history)
  pub callers : AllByRecursion (λ entry. entry.caller < length lists) history
  pub known : AllByRecursion (λ entry. entry.object < objects) history

-- the entry that a caller has next, after those taken
abbrev pub next_of : List (List Entry) → List Entry → ℕ → Option Entry
next_of lists taken caller = slice_get (list_at lists caller) (calls_of caller taken)

-- all entries that a caller has left, after those taken
abbrev pub left_of : List (List Entry) → List Entry → ℕ → List Entry
left_of lists taken caller = drop (calls_of caller taken) (list_at lists caller)

-- a quiet entry on an object, of this tag
abbrev pub is_quiet_at : ℕ → ℕ → Entry → Bool
is_quiet_at object tag entry = is_on object entry && not (is_loud entry) && (entry.tag == tag)

-- none of so many first callers has a quiet entry on the object and of this tag left, be it the next one or a later one
abbrev pub none_waits : List (List Entry) → List Entry → ℕ → ℕ → ℕ → Bool
none_waits lists taken object tag zero = true
none_waits lists taken object tag (suc n) =
    none_waits lists taken object tag n && list_all (λ entry. not (is_quiet_at object tag entry)) (left_of lists taken n)

-- a quiet entry is ready if it has the tag of its object. A loud one is ready if it has the next tag, and no quiet entry
-- of the tag before is left
abbrev pub is_ready : List (List Entry) → List Entry → Entry → Bool
is_ready lists taken entry =
    let tag = tag_of entry.object taken in
    if is_loud entry then (entry.tag == tag + 1) && none_waits lists taken entry.object tag (length lists) else entry.tag == tag

-- what is there, if it is ready
abbrev pub if_ready : List (List Entry) → List Entry → Option Entry → Option Entry
if_ready lists taken None = None
if_ready lists taken (Some entry) = if is_ready lists taken entry then Some entry else None

-- the next entry of a caller, if it is ready
abbrev pub ready_of : List (List Entry) → List Entry → ℕ → Option Entry
ready_of lists taken caller = if_ready lists taken (next_of lists taken caller)

-- the first of two that is there
abbrev pub or_else : Option Entry → Option Entry → Option Entry
or_else (Some entry) other = Some entry
or_else None other = other

-- the first of so many that is there
abbrev pub first_below : (ℕ → Option Entry) → ℕ → Option Entry
first_below entry_at zero = None
first_below entry_at (suc n) = or_else (first_below entry_at n) (entry_at n)

-- the ready next entry of the smallest caller that has one
abbrev pub first_ready : List (List Entry) → List Entry → Option Entry
first_ready lists taken = first_below (ready_of lists taken) (length lists)

-- what is taken, with what is there
abbrev pub with_next : Option Entry → List Entry → List Entry
with_next None taken = taken
with_next (Some entry) taken = entry ∷ taken

-- the merged order after so many steps, each of which takes the first ready entry
abbrev pub merged_to : List (List Entry) → ℕ → List Entry
merged_to lists zero = []
merged_to lists (suc n) = let taken = merged_to lists n in with_next (first_ready lists taken) taken

-- the merged order of all entries, after a step for each
abbrev pub merged : List (List Entry) → List Entry
merged lists = merged_to lists (count_of lists)
