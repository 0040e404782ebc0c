use Rattle.std.proofs.Common.{ℕ, ◌≡◌, ◌+◌, ◌∙◌, length, get_or, take, sym, ap, arith, true, false, List}
use Rattle.std.specs.Prelude.{count_by, Vec}
use Rattle.std.specs.declared.alloc.Global.{Global}
use Rattle.std.proofs.lemmas.List.{take_all}
use Rattle.std.proofs.lemmas.Bool.{not_from_true, not_from_false}
use Rattle.rx_seq.specs.declared.entries.Entry.{Entry}
use Rattle.rx_seq.specs.History.{is_loud}
use Rattle.rx_merge.specs.Merged.{lists_of, list_at, is_quiet_at}
use Rattle.rx_merge.proofs.Tallies.{no_entry, list_read, read_known, read_place, read_quiet, read_loud, counts_same}
use Rattle.rx_merge.proofs.counts.add_quiets.Goals.{then-quiet+in_ok-add_one, else-quiet}
use Rattle.rx_merge.proofs.counts.add_quiets.Goals as goal

pub bounds-starts-entry : goal.bounds-starts-entry
bounds-starts-entry c =
    read_known c.args.lists.now c.args.caller c.index-lists-caller.result c.deref-entry-items.result.now c.loop-entry.entry-index no_entry c.args.starts.now c.loop-entry.counts.items
    c.requires.known c.requires.low c.requires.caller c.index-lists-caller.is c.deref-entry-items.ensures.value c.loop-entry-test.true c.requires.starts (c.loop-entry.invariant.many ∙ c.requires.many)

pub overflow_add-starts : goal.overflow_add-starts
overflow_add-starts c =
    let below = read_place c.args.lists.now c.args.caller c.index-lists-caller.result c.deref-entry-items.result.now c.loop-entry.entry-index no_entry c.args.starts.now c.loop-entry.counts.items
    c.requires.known c.requires.low c.requires.caller c.index-lists-caller.is c.deref-entry-items.ensures.value c.loop-entry-test.true c.requires.starts (c.loop-entry.invariant.many ∙ c.requires.many) in
    omega (arith, below, c.loop-entry.counts.small)

pub add_one-requires : goal.add_one-requires
add_one-requires c =
    read_place c.args.lists.now c.args.caller c.index-lists-caller.result c.deref-entry-items.result.now c.loop-entry.entry-index no_entry c.args.starts.now c.loop-entry.counts.items
    c.requires.known c.requires.low c.requires.caller c.index-lists-caller.is c.deref-entry-items.ensures.value c.loop-entry-test.true c.requires.starts (c.loop-entry.invariant.many ∙ c.requires.many)

pub loop-entry-preserved : goal.loop-entry-preserved
loop-entry-preserved c = elim c.if-quiet.branch [
  | then-quiet+in_ok-add_one w ↦ record {
    many = ap (λ (v : Vec ℕ Global). length v.items) w.counts-is ∙ w.in_ok-add_one.ensures.many ∙ c.loop-entry.invariant.many;
    counts = λ count before.
        let quiet : is_loud (get_or c.deref-entry-items.result.now c.loop-entry.entry-index no_entry) ≡ false = not_from_true _ (sym c.quiet.ensures ∙ w.if-quiet.true) in
        rw (w.counts-is, w.in_ok-add_one.ensures.more) (read_quiet c.args.lists.now c.args.caller c.index-lists-caller.result c.deref-entry-items.result.now c.loop-entry.entry-index no_entry c.args.starts.now c.loop-entry.counts.items
        c.requires.known c.requires.low c.requires.caller c.index-lists-caller.is c.deref-entry-items.ensures.value c.loop-entry-test.true c.requires.starts (c.loop-entry.invariant.many ∙ c.requires.many) count quiet (c.loop-entry.invariant.counts count before));
  }
  | else-quiet w ↦ record {
    many = ap (λ (v : Vec ℕ Global). length v.items) w.counts-is ∙ c.loop-entry.invariant.many;
    counts = λ count before.
        let loud : is_loud (get_or c.deref-entry-items.result.now c.loop-entry.entry-index no_entry) ≡ true = not_from_false _ (sym c.quiet.ensures ∙ w.if-quiet.false) in
        rw w.counts-is (read_loud c.args.lists.now c.args.caller c.index-lists-caller.result c.deref-entry-items.result.now c.loop-entry.entry-index no_entry c.args.starts.now c.loop-entry.counts.items
        c.requires.known c.requires.low c.requires.caller c.index-lists-caller.is c.deref-entry-items.ensures.value c.loop-entry-test.true c.requires.starts (c.loop-entry.invariant.many ∙ c.requires.many) count loud (c.loop-entry.invariant.counts count before));
  }
]

pub returns-clause-counts : goal.returns-clause-counts
returns-clause-counts c = λ count before.
    let list : List Entry = list_at (lists_of c.args.lists.now) c.args.caller in
    let read : list ≡ c.deref-entry-items.result.now = list_read c.args.lists.now c.args.caller c.index-lists-caller.result c.requires.caller c.index-lists-caller.is ∙ sym c.deref-entry-items.ensures.value in
    let whole : take c.loop-entry.entry-index list ≡ list = take_all c.loop-entry.entry-index list (omega (arith, c.loop-entry-test.false, ap (λ es. length es) read)) in
    counts_same (lists_of c.args.lists.now) (length c.args.starts.now) _ _ c.loop-entry.counts.items (λ object tag. ap (λ es. count object tag + count_by (is_quiet_at object tag) es) whole) (c.loop-entry.invariant.counts count before)
