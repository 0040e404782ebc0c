use Rattle.std.proofs.Common.{◌≡◌, ◌+◌, ◌-◌, ◌<◌, ℕ, length, take, sym, arith}
use Rattle.std.proofs.lemmas.List.{length-take-le}
use Rattle.std.specs.Prelude.{slice_index}
use Rattle.rx_shape.proofs.Quiet.{no_set}
use Rattle.rx_shape.proofs.Staying.{stay_planned, quiet_stay}
use Rattle.rx_shape.proofs.NodeForm.{stock_node}
use Rattle.rx_nodes.specs.Chains.{read_nodes}
use Rattle.rx_nodes.proofs.Additions.{added_planned}
use Rattle.rx_nodes.proofs.Removals.{removed_planned}
use Rattle.rx_nodes.proofs.Planned.{own_few, take_at, added_few, removed_few}
use Rattle.rx_nodes.proofs.Stepping.{no_cell}
use Rattle.rx_nodes.proofs.Wanting.{kept_stays, last_apart}
use Rattle.rx_nodes.proofs.nodes.NodesShape.plan.Goals as goal

pub slice_bounds-add_node-end : goal.slice_bounds-add_node-end
slice_bounds-add_node-end c =
    let s = c.args.self.now in
    let told = s.says.adding c.in-Adding.before c.in-Adding.kept c.in-Adding.word c.in-Adding.is in
    rw (c.as_slice-nodes.ensures.value) (sym (length-take-le c.in-Adding.before s.nodes.items told.1.among))

pub add_node-requires-clause-room : goal.add_node-requires-clause-room
add_node-requires-clause-room c =
    let s = c.args.self.now in
    let told = s.says.adding c.in-Adding.before c.in-Adding.kept c.in-Adding.word c.in-Adding.is in
    let long = length-take-le c.in-Adding.before s.nodes.items told.1.among in
    let room = told.1.room in
    let many = stock_node s.home s.form c.args.own.now.items c.requires.stock in
    rw (c.as_slice-nodes.ensures.value, c.as_slice.ensures.value) (omega arith)

pub add_node-requires-clause-own : goal.add_node-requires-clause-own
add_node-requires-clause-own c =
    let s = c.args.self.now in
    rw (c.as_slice.ensures.value) (own_few s.home s.places c.args.own.now.items c.requires.ranges)

pub add_node-requires-clause-head : goal.add_node-requires-clause-head
add_node-requires-clause-head c =
    let s = c.args.self.now in
    (s.says.adding c.in-Adding.before c.in-Adding.kept c.in-Adding.word c.in-Adding.is).0.header

pub add_node-requires-clause-nodes : goal.add_node-requires-clause-nodes
add_node-requires-clause-nodes c =
    let s = c.args.self.now in
    let told = s.says.adding c.in-Adding.before c.in-Adding.kept c.in-Adding.word c.in-Adding.is in
    rw (c.as_slice-nodes.ensures.value) (take_at (λ (w : ℕ). w < 72057594037927936) c.in-Adding.before s.nodes.items told.1.among told.0.small)

pub add_node-requires-clause-kept : goal.add_node-requires-clause-kept
add_node-requires-clause-kept c =
    let s = c.args.self.now in
    (s.says.adding c.in-Adding.before c.in-Adding.kept c.in-Adding.word c.in-Adding.is).1.small

pub added_reply-requires : goal.added_reply-requires
added_reply-requires c =
    let s = c.args.self.now in
    let room = (s.says.adding c.in-Adding.before c.in-Adding.kept c.in-Adding.word c.in-Adding.is).1.room in
    let most = s.limits.most in omega arith

pub remove_node-requires-clause-room : goal.remove_node-requires-clause-room
remove_node-requires-clause-room c =
    let s = c.args.self.now in
    let few = (s.says.removing c.in-Removing.is).1.few in
    let many = stock_node s.home s.form c.args.own.now.items c.requires.stock in
    rw (c.as_slice-nodes.ensures.value, c.as_slice-in-Removing.ensures.value) (omega arith)

pub remove_node-requires-clause-own : goal.remove_node-requires-clause-own
remove_node-requires-clause-own c =
    let s = c.args.self.now in
    rw (c.as_slice-in-Removing.ensures.value) (own_few s.home s.places c.args.own.now.items c.requires.ranges)

pub returns-in-Adding-clause-planned : goal.returns-in-Adding-clause-planned
returns-in-Adding-clause-planned c =
    let s = c.args.self.now in
    let told = s.says.adding c.in-Adding.before c.in-Adding.kept c.in-Adding.word c.in-Adding.is in
    let long = length-take-le c.in-Adding.before s.nodes.items told.1.among in
    rw (c.in-Adding.is, c.add_node.ensures.root, c.add_node.ensures.writes, c.add_node.ensures.pairs, c.added_reply.ensures, c.added_value.ensures, c.as_slice-nodes.ensures.value, c.as_slice.ensures.value, long)
    (rw long at (added_planned s.home s.form s.places s.call s.fits c.args.root s.head s.nodes.items told.0.inside c.in-Adding.before c.in-Adding.kept c.in-Adding.word told.1 told.1.small told.2 told.1.loud c.args.own.now.items c.requires.stock c.requires.ranges))

pub returns-in-Removing-clause-planned : goal.returns-in-Removing-clause-planned
returns-in-Removing-clause-planned c =
    let s = c.args.self.now in
    let told = s.says.removing c.in-Removing.is in
    let some = told.1.some in
    let long = length-take-le (length s.nodes.items - 1) s.nodes.items (omega arith) in
    let same : length (take (length s.nodes.items - 1) s.nodes.items) + 1 ≡ length s.nodes.items = omega arith in
    rw (c.in-Removing.is, c.remove_node.ensures.root, c.remove_node.ensures.writes, c.remove_node.ensures.pairs, c.removed_reply.ensures, c.as_slice-nodes.ensures.value, c.as_slice-in-Removing.ensures.value, same)
    (rw same at (removed_planned s.home s.form s.places s.call s.fits c.args.root s.head s.nodes.items told.0.inside (take (length s.nodes.items - 1) s.nodes.items) (slice_index s.nodes.items (length s.nodes.items - 1)) (last_apart s.nodes.items some) told.1 told.1.loud c.args.own.now.items c.requires.stock c.requires.ranges))

pub returns-in-Kept-clause-planned : goal.returns-in-Kept-clause-planned
returns-in-Kept-clause-planned c =
    let s = c.args.self.now in
    let told = s.says.kept c.in-Kept.reply c.in-Kept.is in
    let stays = kept_stays s.home s.form s.places s.call s.fits c.args.root s.head s.nodes.items told.0.inside c.in-Kept.reply told.1 in
    rw (c.in-Kept.is, c.stay.ensures.writes, c.stay.ensures.pairs)
    (stay_planned s.home s.call c.args.root (read_nodes c.args.root s.head s.nodes.items) c.args.own.now.items c.stay.new.self.root c.in-Kept.reply c.requires.stock c.stay.ensures.root stays
    (quiet_stay s.home s.call c.args.root (read_nodes c.args.root s.head s.nodes.items) c.in-Kept.reply stays c.quiet_calls_stay.ensures.only s.fits (no_set s.home.part.kind s.home.part.cap s.call (no_cell s.home.part.kind s.form) s.fits)))

pub returns-in-Adding-clause-few : goal.returns-in-Adding-clause-few
returns-in-Adding-clause-few c =
    let s = c.args.self.now in
    let told = s.says.adding c.in-Adding.before c.in-Adding.kept c.in-Adding.word c.in-Adding.is in
    rw (c.in-Adding.is, c.add_node.ensures.writes, c.as_slice-nodes.ensures.value)
    (added_few s.home s.form s.places s.call c.args.root s.head s.nodes.items told.0.inside _ c.in-Adding.before c.in-Adding.kept c.in-Adding.word _ 0 _ told.1)

pub returns-in-Removing-clause-few : goal.returns-in-Removing-clause-few
returns-in-Removing-clause-few c =
    let s = c.args.self.now in
    let told = s.says.removing c.in-Removing.is in
    rw (c.in-Removing.is, c.remove_node.ensures.writes, c.as_slice-nodes.ensures.value)
    (removed_few s.home s.form s.places s.call c.args.root s.head s.nodes.items told.0.inside _ _ 0 _ told.1)
