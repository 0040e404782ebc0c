use Rattle.std.proofs.Common.{sym, ap, ◌∙◌, cond, reverse}
use Rattle.std.specs.Prelude.{Some, None, get_or}
use Rattle.rx_merge.proofs.Tallies.{no_entry}
use Rattle.rx_merge.proofs.MergeStates.{read_known, read_within, read_ready}
use Rattle.rx_merge.proofs.merge_state.MergeState.ready_entry.Goals as goal

pub is_ready-requires-clause-object : goal.is_ready-requires-clause-object
is_ready-requires-clause-object c =
    read_known c.args.lists.now (reverse c.args.self.now.order.items) c.args.self.now.places.items c.args.self.now.tags.items c.args.self.now.starts.items c.args.self.now.waiting.items c.args.self.now.ended c.args.caller c.index-lists-caller.result c.as_slice-list.result.now c.index-place.result.now no_entry
    c.requires.known c.requires.state c.requires.some c.index-lists-caller.is c.as_slice-list.ensures.value c.index-place.ensures c.if-place-list.false

pub is_ready-requires-clause-starts : goal.is_ready-requires-clause-starts
is_ready-requires-clause-starts c = c.requires.state.start.many

pub is_ready-requires-clause-place : goal.is_ready-requires-clause-place
is_ready-requires-clause-place c =
    read_within c.args.lists.now (reverse c.args.self.now.order.items) c.args.self.now.places.items c.args.self.now.tags.items c.args.self.now.starts.items c.args.self.now.waiting.items c.args.self.now.ended c.args.caller c.index-lists-caller.result c.as_slice-list.result.now c.index-place.result.now no_entry
    c.requires.known c.requires.state c.requires.some c.index-lists-caller.is c.as_slice-list.ensures.value c.index-place.ensures c.if-place-list.false

pub returns-then-is_ready : goal.returns-then-is_ready
returns-then-is_ready c =
    let e = get_or c.as_slice-list.result.now c.index-place.result.now no_entry in
    sym (ap (λ b. cond b (Some e) None) c.if-is_ready.true) ∙ read_ready c.args.lists.now (reverse c.args.self.now.order.items) c.args.self.now.places.items c.args.self.now.tags.items c.args.self.now.starts.items c.args.self.now.waiting.items c.args.self.now.ended c.args.caller c.index-lists-caller.result c.as_slice-list.result.now c.index-place.result.now no_entry
    c.requires.known c.requires.state c.requires.some c.index-lists-caller.is c.as_slice-list.ensures.value c.index-place.ensures c.if-place-list.false c.is_ready.result c.is_ready.ensures

pub returns-else-is_ready : goal.returns-else-is_ready
returns-else-is_ready c =
    let e = get_or c.as_slice-list.result.now c.index-place.result.now no_entry in
    sym (ap (λ b. cond b (Some e) None) c.if-is_ready.false) ∙ read_ready c.args.lists.now (reverse c.args.self.now.order.items) c.args.self.now.places.items c.args.self.now.tags.items c.args.self.now.starts.items c.args.self.now.waiting.items c.args.self.now.ended c.args.caller c.index-lists-caller.result c.as_slice-list.result.now c.index-place.result.now no_entry
    c.requires.known c.requires.state c.requires.some c.index-lists-caller.is c.as_slice-list.ensures.value c.index-place.ensures c.if-place-list.false c.is_ready.result c.is_ready.ensures
