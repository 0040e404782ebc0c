-- Where names are found, and which items of jobs are named.
use Rattle.std.specs.Prelude.{ℕ, ◌≡◌, ◌==◌, ◌&&◌, Bool, List, Option}
use Rattle.std.specs.BTreeSet.{BTreeSet, contains_by}
use Rattle.std.specs.List.{list_any}
use Rattle.std.specs.BTreeMap.{get_by}
use Rattle.std.specs.Cmp.Lexicographic.{slice_cmp}
use Rattle.std.specs.Ordering.{nat_cmp, ordering_then}
use Rattle.std.specs.declared.cmp.Ordering.{Ordering}
use Rattle.rx_set.specs.declared.demands.Demand.{Demand}
use Rattle.rx_file.specs.declared.names.NameIndex.{NameIndex}
use Rattle.rx_file.specs.declared.demands.Named.{Named}
use Rattle.rx_file.specs.Fields.{place_of}

-- what an index has at a name
abbrev pub found : NameIndex → List ℕ → Option ℕ
found index name = get_by (λ key. slice_cmp nat_cmp name key.now) index.places

-- the index has each of these names at its place, and no other name
abbrev pub IsIndex : NameIndex → List (List ℕ) → Type 0
IsIndex index names = (name : List ℕ) → found index name ≡ place_of names name

-- the order of items of jobs: by task, then by job, then by item
abbrev pub named_cmp : Named → Named → Ordering
named_cmp a b = ordering_then (nat_cmp a.task b.task) (ordering_then (nat_cmp a.job b.job) (nat_cmp a.item b.item))

-- a demand row names this item of this job
abbrev pub names : Named → Demand → Bool
names named row = (named.task == row.task) && (named.job == row.job) && (named.item == row.item)

-- the set has the items of jobs that these rows name, and no others
abbrev pub AreNamed : BTreeSet Named → List Demand → Type 0
AreNamed set rows = (named : Named) → contains_by (named_cmp named) set ≡ list_any (names named) rows
