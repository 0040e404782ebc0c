-- The objects of a layout that a walk over blocks serves.
use Rattle.std.proofs.Common.{◌≡◌, ℕ, ◌≤◌, ◌<◌, true, length, arith}
use Rattle.rx_seq.specs.declared.calls.Call.{Call}
use Rattle.rx_seq.specs.Table.{fits_part}
use Rattle.rx_seq.specs.History.{no_part, part_at}
use Rattle.rx_shape.specs.Forms.{Form, inline, block, node, form_of}
use Rattle.rx_shape.specs.Layout.{Layout, IsLayout, first_as, home, place_after}
use Rattle.rx_shape.specs.Walks.{ServesBlocks}
use Rattle.rx_shape.proofs.Numbering.{place_few, places_few}

first_few : (form : Form) (place : ℕ) → first_as form place ≤ place
first_few inline place = omega arith
first_few block place = omega arith
first_few node place = omega arith

pub blocks_served : (layout : Layout) (object : ℕ) (call : Call) → IsLayout layout → object < length layout.parts → form_of (part_at layout.parts object).kind ≡ block → fits_part (part_at layout.parts object) call ≡ true → ServesBlocks (home layout object) call
blocks_served layout object call limits there form fits =
    let part = limits.parts object no_part there in
    let first = first_few (form_of (part_at layout.parts object).kind) (place_after layout object) in
    let after = place_few layout object limits in
    let many = places_few layout.seats (part_at layout.parts object) part limits.seats in
    record { form = form; part = part; places = omega arith; fits = fits }
