use Rattle.std.proofs.Common.{ℕ, ◌≡◌, ◌&&◌, ◌||◌, Bool, nat_lt, take, length, get_or, ap, ◌∙◌, sym, arith}
use Rattle.std.specs.List.{list_any}
use Rattle.std.proofs.lemmas.Option.{slice_get-get_or}
use Rattle.std.proofs.lemmas.List.{take_all}
use Rattle.std.proofs.lemmas.List.Folds.{list_any_more}
use Rattle.rx_set.specs.declared.items.Item.TheVariants.{Work}
use Rattle.rx_set.specs.Charges.{changes}
use Rattle.rx_set.proofs.Exposed.{one_more, none_yet}
use Rattle.rx_set.proofs.exposures.note_changes.Goals as goal

pub note_change-requires : goal.note_change-requires
note_change-requires c =
    c.requires c.loop-item.item-index (get_or c.args.items.now c.loop-item.item-index (Work 0)) (slice_get-get_or c.args.items.now c.loop-item.item-index (Work 0) c.loop-item-test.true)

pub loop-item-init : goal.loop-item-init
loop-item-init c object above inside = none_yet (nat_lt (get_or c.args.lowest.now object 0) above) (nat_lt c.args.most above)

pub loop-item-preserved : goal.loop-item-preserved
loop-item-preserved c object above inside =
    let items = c.args.items.now in
    let place = c.loop-item.item-index in
    let before = list_any (changes object) (take place items) in
    let here = changes object (get_or items place (Work 0)) in
    c.note_change.ensures object above inside
    ∙ ap (λ (x : Bool). x || (nat_lt c.args.most above && here)) (c.loop-item.invariant object above inside)
    ∙ one_more (nat_lt (get_or c.args.lowest.now object 0) above) (nat_lt c.args.most above) before here
    ∙ ap (λ (x : Bool). nat_lt (get_or c.args.lowest.now object 0) above || (nat_lt c.args.most above && x)) (sym (list_any_more (changes object) items place (Work 0) c.loop-item-test.true))

pub returns : goal.returns
returns c object above inside =
    let all : c.loop-item.item-index ≡ length c.args.items.now = omega (arith, c.loop-item-test.false, c.loop-item.auto.item-index-end) in
    c.loop-item.invariant object above inside
    ∙ ap (λ (n : ℕ). nat_lt (get_or c.args.lowest.now object 0) above || (nat_lt c.args.most above && list_any (changes object) (take n c.args.items.now))) all
    ∙ ap (λ xs. nat_lt (get_or c.args.lowest.now object 0) above || (nat_lt c.args.most above && list_any (changes object) xs)) (take_all (length c.args.items.now) c.args.items.now (omega arith))
