use Rattle.std.proofs.Common.{ℕ, ◌≡◌, ◌<◌, ◌+◌, ◌∙◌, ◌++◌, ◌∷◌, [], List, length, take, get_or, ap, sym, subst, refl, arith, append_assoc, append-nil, length-append}
use Rattle.rx_set.specs.declared.items.Item.TheVariants.{Work, Op}
use Rattle.rx_seq.specs.declared.replies.Reply.TheVariants.{Done}
use Rattle.rx_lanes.specs.declared.answers.Answer.{Answer}
use Rattle.rx_lanes.specs.Lists.{IsTold}
use Rattle.rx_set.specs.Operations.{Asked, asked, operations_of}
use Rattle.rx_lanes.proofs.Parts.{operations_more, count_more, count_up}
use Rattle.rx_lanes.proofs.Listing.{told_more}
use Rattle.rx_lanes.proofs.lists.add_job.Goals.{in-Work, in-Op}
use Rattle.rx_lanes.proofs.lists.add_job.Goals as goal

pub offset_bounds-answers-len : goal.offset_bounds-answers-len
offset_bounds-answers-len c =
    let below : c.len.result < length c.args.answers.now = omega (
      arith,
      c.len.ensures,
      c.loop-item.list.ok.0,
      c.loop-item.invariant.many,
      c.requires.answers,
      count_more c.args.items.now c.loop-item.item-index (Work 0) (Op c.in-Op.object c.in-Op.call) c.loop-item-test.true c.in-Op.is,
      count_up c.args.items.now (c.loop-item.item-index + 1),
    ) in
    record { fits = omega (arith, below, c.requires.few) }

pub bounds-answers-len : goal.bounds-answers-len
bounds-answers-len c =
    omega (
      arith,
      c.len.ensures,
      c.loop-item.list.ok.0,
      c.loop-item.invariant.many,
      c.requires.answers,
      count_more c.args.items.now c.loop-item.item-index (Work 0) (Op c.in-Op.object c.in-Op.call) c.loop-item-test.true c.in-Op.is,
      count_up c.args.items.now (c.loop-item.item-index + 1),
    )

pub bounds-answers-len-in-Op : goal.bounds-answers-len-in-Op
bounds-answers-len-in-Op c =
    omega (
      arith,
      c.len.ensures,
      c.loop-item.list.ok.0,
      c.loop-item.invariant.many,
      c.requires.answers,
      count_more c.args.items.now c.loop-item.item-index (Work 0) (Op c.in-Op.object c.in-Op.call) c.loop-item-test.true c.in-Op.is,
      count_up c.args.items.now (c.loop-item.item-index + 1),
    )

pub push_reserved-requires : goal.push_reserved-requires
push_reserved-requires c =
    omega (
      arith,
      c.len.ensures,
      c.loop-item.list.ok.0,
      c.loop-item.invariant.many,
      c.loop-item.invariant.room,
      c.requires.answers,
      c.requires.room,
      count_more c.args.items.now c.loop-item.item-index (Work 0) (Op c.in-Op.object c.in-Op.call) c.loop-item-test.true c.in-Op.is,
      count_up c.args.items.now (c.loop-item.item-index + 1),
    )

pub loop-item-preserved : goal.loop-item-preserved
loop-item-preserved c =
    let so_far = c.loop-item.invariant in
    elim c.match-item.branch [
      | in-Work w ↦
          let same = operations_more c.args.items.now c.loop-item.item-index (Work 0) (Work w.in-Work.n) c.loop-item-test.true w.in-Work.is ∙ append-nil (operations_of (take c.loop-item.item-index c.args.items.now)) in
          rw w.list-is (record {
            many = so_far.many ∙ ap (λ (xs : List Asked). length c.args.list.now.items + length xs) (sym same);
            room = so_far.room;
            told = λ script h. subst (λ (xs : List Asked). IsTold c.args.caller (script ++ xs) (take (length c.loop-item.list.items) c.args.answers.now) c.loop-item.list.items) (sym same) (so_far.told script h);
          })
      | in-Op w ↦
          let is = w.push_reserved.ensures.items in
          let d : Answer = record { reply = Done 0; tag = 0 } in
          let ops = operations_of (take c.loop-item.item-index c.args.items.now) in
          let step = operations_more c.args.items.now c.loop-item.item-index (Work 0) (Op w.in-Op.object w.in-Op.call) c.loop-item-test.true w.in-Op.is in
          let count = count_more c.args.items.now c.loop-item.item-index (Work 0) (Op w.in-Op.object w.in-Op.call) c.loop-item-test.true w.in-Op.is in
          let all = count_up c.args.items.now (c.loop-item.item-index + 1) in
          let place : w.len.result ≡ length c.loop-item.list.items = omega (arith, w.len.ensures, c.loop-item.list.ok.0) in
          let number : w.len-in-Op.result ≡ length c.loop-item.list.items = omega (arith, w.len-in-Op.ensures, c.loop-item.list.ok.0) in
          let inside : length c.loop-item.list.items < length c.args.answers.now = omega (arith, so_far.many, c.requires.answers, count, all) in
          let one : length w.push_reserved.new.self.items ≡ length c.loop-item.list.items + 1 = ap length is ∙ length-append c.loop-item.list.items _ in
          rw w.list-is (record {
            many = omega (arith, one, so_far.many, count);
            room = w.push_reserved.ensures.capacity ∙ so_far.room;
            told = λ script h. subst (λ (xs : List Asked). IsTold c.args.caller xs (take (length w.push_reserved.new.self.items) c.args.answers.now) w.push_reserved.new.self.items)
                (append_assoc script ops (asked w.in-Op.object w.in-Op.call ∷ []) ∙ ap (λ (ys : List Asked). script ++ ys) (sym step))
                (told_more c.args.caller (script ++ ops) c.args.answers.now c.loop-item.list.items w.push_reserved.new.self.items _ d (so_far.told script h) is inside
                (ap (λ (k : ℕ). get_or c.args.answers.now k d) place) refl (ap (λ (n : ℕ). n + 1) number));
          })
    ]
