use Rattle.std.proofs.Common.{◌≡◌, ◌∙◌, List, length, ℕ, ap, sym, subst, arith}
use Rattle.std.specs.Prelude.{Vec, vec_capacity}
use Rattle.std.specs.declared.alloc.Global.{Global}
use Rattle.std.proofs.lemmas.List.{length-set}
use Rattle.rx_seq.specs.declared.entries.Entry.{Entry}
use Rattle.rx_merge.specs.Merged.{lists_of, merged_to}
use Rattle.rx_merge.specs.MergeState.{AreKnown}
use Rattle.rx_merge.proofs.Tallies.{are_known, are_low}
use Rattle.rx_merge.proofs.MergeStates.{state_merged, some_ready, next_taken, order_length, order_more, taken_within, state_more}
use Rattle.rx_merge.proofs.orders.merge.Goals as goal

pub begin-requires-clause-known : goal.begin-requires-clause-known
begin-requires-clause-known c = are_known c.requires.0 c.args.objects (lists_of c.args.lists.now) c.requires.1 c.requires.2

pub begin-requires-clause-low : goal.begin-requires-clause-low
begin-requires-clause-low c = are_low c.requires.0 c.args.objects (lists_of c.args.lists.now) c.requires.1 c.requires.2

pub next_entry-entry-requires-clause-known : goal.next_entry-entry-requires-clause-known
next_entry-entry-requires-clause-known c =
    let passed = c.pass_ended.new.self in
    let tags : length passed.tags.items ≡ c.args.objects = ap (λ (tags : Vec ℕ Global). length tags.items) c.pass_ended.ensures.tags ∙ c.loop.invariant.tags in
    subst (λ n. AreKnown n (lists_of c.args.lists.now)) (sym tags) (are_known c.requires.0 c.args.objects (lists_of c.args.lists.now) c.requires.1 c.requires.2)

pub next_entry-entry-requires-clause-some : goal.next_entry-entry-requires-clause-some
next_entry-entry-requires-clause-some c =
    let passed = c.pass_ended.new.self in
    let order = ap (λ (order : Vec Entry Global). order.items) c.pass_ended.ensures.order ∙ c.loop.invariant.order in
    some_ready c.quiet_calls_stay.ensures.quiet c.states_are_kept.ensures.replayed c.requires.0 c.args.objects (lists_of c.args.lists.now) c.requires.1 c.requires.2 c.loop.counter (omega (arith, c.loop-test.true, c.in-Some.ensures)) passed.order.items order

pub take-requires-clause-caller : goal.take-requires-clause-caller
take-requires-clause-caller c =
    let passed = c.pass_ended.new.self in
    let order = ap (λ (order : Vec Entry Global). order.items) c.pass_ended.ensures.order ∙ c.loop.invariant.order in
    let next = next_taken c.quiet_calls_stay.ensures.quiet c.states_are_kept.ensures.replayed c.requires.0 c.args.objects (lists_of c.args.lists.now) c.requires.1 c.requires.2 c.loop.counter (omega (arith, c.loop-test.true, c.in-Some.ensures)) passed.order.items order c.next_entry-entry.result c.next_entry-entry.ensures in
    omega (arith, next.caller, c.pass_ended.ensures.state.callers)

pub take-requires-clause-object : goal.take-requires-clause-object
take-requires-clause-object c =
    let passed = c.pass_ended.new.self in
    let order = ap (λ (order : Vec Entry Global). order.items) c.pass_ended.ensures.order ∙ c.loop.invariant.order in
    let next = next_taken c.quiet_calls_stay.ensures.quiet c.states_are_kept.ensures.replayed c.requires.0 c.args.objects (lists_of c.args.lists.now) c.requires.1 c.requires.2 c.loop.counter (omega (arith, c.loop-test.true, c.in-Some.ensures)) passed.order.items order c.next_entry-entry.result c.next_entry-entry.ensures in
    let tags : length passed.tags.items ≡ c.args.objects = ap (λ (tags : Vec ℕ Global). length tags.items) c.pass_ended.ensures.tags ∙ c.loop.invariant.tags in
    omega (arith, next.object, tags)

pub take-requires-clause-starts : goal.take-requires-clause-starts
take-requires-clause-starts c = c.pass_ended.ensures.state.start.many

pub take-requires-clause-waits : goal.take-requires-clause-waits
take-requires-clause-waits c =
    let passed = c.pass_ended.new.self in
    let order = ap (λ (order : Vec Entry Global). order.items) c.pass_ended.ensures.order ∙ c.loop.invariant.order in
    let next = next_taken c.quiet_calls_stay.ensures.quiet c.states_are_kept.ensures.replayed c.requires.0 c.args.objects (lists_of c.args.lists.now) c.requires.1 c.requires.2 c.loop.counter (omega (arith, c.loop-test.true, c.in-Some.ensures)) passed.order.items order c.next_entry-entry.result c.next_entry-entry.ensures in
    let tags : length passed.tags.items ≡ c.args.objects = ap (λ (tags : Vec ℕ Global). length tags.items) c.pass_ended.ensures.tags ∙ c.loop.invariant.tags in
    let state = state_merged c.quiet_calls_stay.ensures.quiet c.states_are_kept.ensures.replayed c.requires.0 c.args.objects (lists_of c.args.lists.now) c.requires.1 c.requires.2 c.loop.counter (omega (arith, c.loop-test.true, c.in-Some.ensures)) passed.order.items order passed.places.items passed.tags.items passed.starts.items passed.waiting.items passed.ended c.pass_ended.ensures.state in
    taken_within (lists_of c.args.lists.now) (merged_to (lists_of c.args.lists.now) c.loop.counter) passed.places.items passed.tags.items passed.starts.items passed.waiting.items passed.ended c.next_entry-entry.result state next.caller (omega (arith, next.object, tags)) next.tag next.next

pub take-requires-clause-room : goal.take-requires-clause-room
take-requires-clause-room c =
    let passed = c.pass_ended.new.self in
    let order = ap (λ (order : Vec Entry Global). order.items) c.pass_ended.ensures.order ∙ c.loop.invariant.order in
    let taken = order_length c.quiet_calls_stay.ensures.quiet c.states_are_kept.ensures.replayed c.requires.0 c.args.objects (lists_of c.args.lists.now) c.requires.1 c.requires.2 c.loop.counter (omega (arith, c.loop-test.true, c.in-Some.ensures)) passed.order.items order in
    let room = ap (λ (order : Vec Entry Global). vec_capacity order) c.pass_ended.ensures.order in
    omega (arith, taken, passed.order.ok.0, c.loop-test.true, c.loop.invariant.room, room)

pub take-requires-clause-fits : goal.take-requires-clause-fits
take-requires-clause-fits c =
    let passed = c.pass_ended.new.self in
    let order = ap (λ (order : Vec Entry Global). order.items) c.pass_ended.ensures.order ∙ c.loop.invariant.order in
    let next = next_taken c.quiet_calls_stay.ensures.quiet c.states_are_kept.ensures.replayed c.requires.0 c.args.objects (lists_of c.args.lists.now) c.requires.1 c.requires.2 c.loop.counter (omega (arith, c.loop-test.true, c.in-Some.ensures)) passed.order.items order c.next_entry-entry.result c.next_entry-entry.ensures in
    let state = state_merged c.quiet_calls_stay.ensures.quiet c.states_are_kept.ensures.replayed c.requires.0 c.args.objects (lists_of c.args.lists.now) c.requires.1 c.requires.2 c.loop.counter (omega (arith, c.loop-test.true, c.in-Some.ensures)) passed.order.items order passed.places.items passed.tags.items passed.starts.items passed.waiting.items passed.ended c.pass_ended.ensures.state in
    let place = state.place c.next_entry-entry.result.caller next.caller in
    let few = next.few in
    let small = passed.order.small in
    let room = ap (λ (order : Vec Entry Global). vec_capacity order) c.pass_ended.ensures.order in
    omega (arith, place, few, c.loop-test.true, c.loop.invariant.room, room)

pub loop-preserved : goal.loop-preserved
loop-preserved c =
    let passed = c.pass_ended.new.self in
    let order = ap (λ (order : Vec Entry Global). order.items) c.pass_ended.ensures.order ∙ c.loop.invariant.order in
    let next = next_taken c.quiet_calls_stay.ensures.quiet c.states_are_kept.ensures.replayed c.requires.0 c.args.objects (lists_of c.args.lists.now) c.requires.1 c.requires.2 c.loop.counter (omega (arith, c.loop-test.true, c.in-Some.ensures)) passed.order.items order c.next_entry-entry.result c.next_entry-entry.ensures in
    let tags : length passed.tags.items ≡ c.args.objects = ap (λ (tags : Vec ℕ Global). length tags.items) c.pass_ended.ensures.tags ∙ c.loop.invariant.tags in
    let room = ap (λ (order : Vec Entry Global). vec_capacity order) c.pass_ended.ensures.order in
    let state = state_merged c.quiet_calls_stay.ensures.quiet c.states_are_kept.ensures.replayed c.requires.0 c.args.objects (lists_of c.args.lists.now) c.requires.1 c.requires.2 c.loop.counter (omega (arith, c.loop-test.true, c.in-Some.ensures)) passed.order.items order passed.places.items passed.tags.items passed.starts.items passed.waiting.items passed.ended c.pass_ended.ensures.state in
    let more = state_more (lists_of c.args.lists.now) (merged_to (lists_of c.args.lists.now) c.loop.counter) passed.places.items passed.tags.items passed.starts.items passed.waiting.items passed.ended c.next_entry-entry.result state next.caller (omega (arith, next.object, tags)) next.tag next.next in
    record {
      order = c.take.ensures.order ∙ order_more c.quiet_calls_stay.ensures.quiet c.states_are_kept.ensures.replayed c.requires.0 c.args.objects (lists_of c.args.lists.now) c.requires.1 c.requires.2 c.loop.counter (omega (arith, c.loop-test.true, c.in-Some.ensures)) passed.order.items order c.next_entry-entry.result next;
      room = omega (arith, c.take.ensures.room, c.loop.invariant.room, room);
      tags = ap (λ (ts : List ℕ). length ts) c.take.ensures.tags ∙ length-set passed.tags.items c.next_entry-entry.result.object c.next_entry-entry.result.tag ∙ tags;
      state = rw (next.longer, c.take.ensures.places, c.take.ensures.tags, c.take.ensures.starts, c.take.ensures.waiting, c.take.ensures.ended) more;
    }
