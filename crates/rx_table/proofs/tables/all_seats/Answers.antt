use Rattle.std.proofs.Common.{ℕ, ◌+◌, length, ap, sym, ◌∙◌, arith}
use Rattle.std.proofs.lemmas.List.{length-set}
use Rattle.rx_shape.specs.Layout.{Layout}
use Rattle.rx_port.specs.Seats.{starts}
use Rattle.rx_port.proofs.Seating.{length-end}
use Rattle.rx_table.specs.Seats.{next_of, made}
use Rattle.rx_table.specs.Tables.{SharedTable}
use Rattle.rx_table.proofs.NewSeats.{may_make, is_next, is_live, ours, new_more}
use Rattle.rx_table.proofs.tables.all_seats.Goals as goal

pub another-seat-requires-clause-table : goal.another-seat-requires-clause-table
another-seat-requires-clause-table c =
    let shared : SharedTable = record { layout = c.args.layout.now; table = c.args.words.now.table_id } in
    let some_there = c.loop-number.invariant.some in
    let many = c.loop-number.invariant.many in
    let seat = c.index_mut.result.now in (ours shared c.loop-number.seats.items seat seat seat (omega arith) c.index_mut.ensures.value c.loop-number.invariant.new, c.requires.words.1)

pub another-seat-requires-clause-next : goal.another-seat-requires-clause-next
another-seat-requires-clause-next c =
    let shared : SharedTable = record { layout = c.args.layout.now; table = c.args.words.now.table_id } in
    let some_there = c.loop-number.invariant.some in
    let many = c.loop-number.invariant.many in
    let seat = c.index_mut.result.now in
    rw (c.requires.words.0) (
      may_make shared c.loop-number.seats.items seat seat seat (omega arith) c.index_mut.ensures.value c.loop-number.invariant.new (omega arith),
      is_live shared c.loop-number.seats.items seat seat seat (omega arith) c.index_mut.ensures.value c.loop-number.invariant.new,
    )

pub another-seat-requires-clause-own : goal.another-seat-requires-clause-own
another-seat-requires-clause-own c =
    let shared : SharedTable = record { layout = c.args.layout.now; table = c.args.words.now.table_id } in
    let some_there = c.loop-number.invariant.some in
    let many = c.loop-number.invariant.many in
    let seat = c.index_mut.result.now in
    let next = is_next shared c.loop-number.seats.items seat seat seat (omega arith) c.index_mut.ensures.value c.loop-number.invariant.new ∙ many in
    c.in_ok-own.ensures ∙ ap (λ (n : ℕ). starts c.args.layout.now n 0 c.args.layout.now.parts) (sym next)
    ∙ ap (λ (layout : Layout). starts layout (next_of seat.view.next) 0 layout.parts) (sym c.requires.words.0)

pub loop-number-preserved : goal.loop-number-preserved
loop-number-preserved c =
    let shared : SharedTable = record { layout = c.args.layout.now; table = c.args.words.now.table_id } in
    let some_there = c.loop-number.invariant.some in
    let many = c.loop-number.invariant.many in
    let seat = c.index_mut.result.now in
    let made_is = c.another-seat.ensures.made ∙ ap (λ (layout : Layout). record { view = made layout seat.view; table = c.args.words.now.table_id }) c.requires.words.0 in
    let new = new_more shared c.loop-number.seats.items seat c.another-seat.new.seat c.another-seat.result (omega arith) c.index_mut.ensures.value c.loop-number.invariant.new c.another-seat.ensures.maker made_is in
    record {
      some = omega arith;
      many = ap length c.in-Ok-push.ensures.items ∙ length-end _ c.another-seat.result ∙ ap (λ (n : ℕ). n + 1) (length-set c.loop-number.seats.items 0 c.another-seat.new.seat ∙ many);
      new = rw (c.in-Ok-push.ensures.items) new;
    }
