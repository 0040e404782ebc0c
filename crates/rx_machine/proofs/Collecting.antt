-- The own places of a seat.
use Rattle.std.proofs.Common.{◌≡◌, ℕ, ◌<◌, length}
use Rattle.std.specs.Prelude.{Result, Ok, Err, IsOk, OnOk}
use Rattle.rx_seq.specs.History.{part_at}
use Rattle.rx_shape.specs.Forms.{stock_size}
use Rattle.rx_shape.specs.Layout.{Layout, home}
use Rattle.rx_shape.proofs.Local.{stock_many}
use Rattle.rx_port.specs.declared.views.View.{View}
use Rattle.rx_port.specs.Core.{own_of}
use Rattle.rx_port.specs.Events.{OwnsWell}

pub own_many : (l : Layout) (v : View) (object : ℕ) → OwnsWell l v → object < length l.parts → length (own_of v object) ≡ stock_size (part_at l.parts object)
own_many l v object owns there = stock_many (home l object) (own_of v object) (owns.owns.stocks object there)

-- what holds of a success, where there is one
pub when_ok : {T E : Type 0} (r : Result T E) (P : Type 0) → IsOk r → OnOk r P → P
when_ok (Ok x) P ok h = h
when_ok (Err e) P ok h = cc
