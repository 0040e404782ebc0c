use Rattle.std.proofs.Common.{length, reverse, arith}
use Rattle.rx_merge.specs.Merged.{ready_of, lists_of}
use Rattle.rx_merge.proofs.Tallies.{length_lists}
use Rattle.rx_merge.proofs.MergeStates.{ended_unready, first_found}
use Rattle.rx_merge.proofs.merge_state.MergeState.next_entry.Goals as goal

pub loop-caller-init : goal.loop-caller-init
loop-caller-init c =
    ended_unready (lists_of c.args.lists.now) (reverse c.args.self.now.order.items) c.args.self.now.places.items c.args.self.now.tags.items c.args.self.now.starts.items c.args.self.now.waiting.items c.args.self.now.ended c.requires.state

pub returns-in-Some : goal.returns-in-Some
returns-in-Some c =
    let entry_at = ready_of (lists_of c.args.lists.now) (reverse c.args.self.now.order.items) in
    first_found entry_at (length (lists_of c.args.lists.now)) c.loop-caller.caller c.in-Some.entry (omega (arith, length_lists c.args.lists.now)) c.loop-caller.invariant c.in-Some.ensures
