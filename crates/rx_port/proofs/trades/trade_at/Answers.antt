use Rattle.std.proofs.Common.{◌≡◌, ℕ, List, [], set, sym, ap, ◌∙◌, arith}
use Rattle.std.specs.Prelude.{Vec, slice_index_or}
use Rattle.std.specs.declared.alloc.Global.{Global}
use Rattle.std.proofs.lemmas.List.{map-set, get_or-map, length-map}
use Rattle.rx_shape.specs.Versions.{traded}
use Rattle.rx_port.specs.Plain.{lists}
use Rattle.rx_port.proofs.trades.trade_at.Goals as goal

pub returns : goal.returns
returns c =
    let many = length-map c.args.own.now.items (λ (places : Vec ℕ Global). places.items) in
    let there = c.requires.object in
    let items : c.index_mut.result.now.items ≡ slice_index_or (lists c.args.own.now.items) c.args.object [] =
    ap (λ (places : Vec ℕ Global). places.items) c.index_mut.ensures.value ∙ sym (get_or-map (λ (places : Vec ℕ Global). places.items) c.args.own.now.items c.args.object c.index_mut.result.now [] (omega arith)) in
    map-set (λ (places : Vec ℕ Global). places.items) c.args.own.now.items c.args.object c.trade.new.own
    ∙ ap (λ (places : List ℕ). set (lists c.args.own.now.items) c.args.object places) (c.trade.ensures ∙ ap (λ (places : List ℕ). traded places c.args.pairs.now) items)
