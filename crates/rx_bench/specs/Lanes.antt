-- What a thread did with its seat.
use Rattle.std.specs.Prelude.{ℕ, ◌≡◌, ◌+◌, ◌≤◌, List, [], ◌∷◌, ◌++◌, length, Some}
use Rattle.std.specs.List.{All}
use Rattle.rx_seq.specs.declared.kinds.Part.{Part}
use Rattle.rx_seq.specs.declared.entries.Entry.{Entry}
use Rattle.rx_port.specs.declared.views.Known.{Known}
use Rattle.rx_port.specs.declared.views.View.{View}
use Rattle.rx_table.specs.Tables.{SharedTable, IsSeatOf}
use Rattle.rx_bench.specs.declared.lanes.Lane.{Lane}
use Rattle.rx_bench.specs.Scripts.{IsMeasured}

-- each lane has a seat of the table
abbrev pub AreLanes : SharedTable → List Lane → Type 0
AreLanes shared lanes = All (λ lane. IsSeatOf shared lane.seat) lanes

-- the table has this object alone, and it is measured
abbrev pub HasOne : SharedTable → Part → Type 0
HasOne shared part = (shared.layout.parts ≡ part ∷ []) × IsMeasured part

-- the seat has so many entries more, and made at least an exchange for each of them and for each lost attempt
pub record HasMade (before now : View) (made retries : ℕ) : Type 0 where
  pub known : Known
  pub is : before.known ≡ Some known
  pub after : Known
  pub after_is : now.known ≡ Some after
  pub entries : List Entry
  pub mine : after.mine ≡ entries ++ known.mine
  pub many : length entries ≡ made
  pub exchanges : known.exchanges + made + retries ≤ after.exchanges
