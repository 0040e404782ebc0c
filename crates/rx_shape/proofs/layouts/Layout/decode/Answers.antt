use Rattle.std.proofs.Common.{sym, ap, ◌∙◌}
use Rattle.std.proofs.lemmas.List.{get_or_read}
use Rattle.rx_seq.specs.declared.kinds.Part.{Part}
use Rattle.rx_seq.specs.History.{no_part}
use Rattle.rx_shape.specs.Forms.{form_of}
use Rattle.rx_shape.specs.Layout.{home, root_of}
use Rattle.rx_shape.proofs.InlinePlans.{decoded_inline}
use Rattle.rx_shape.proofs.BlockForm.{is_block, decoded_block, block_from}
use Rattle.rx_shape.proofs.NodeForm.{decoded_node, nodes_from, is_node}
use Rattle.rx_shape.proofs.layouts.Layout.decode.Goals as goal

pub read_nodes-requires : goal.read_nodes-requires
read_nodes-requires c =
    let object = rw (← c.self.view_is) at c.requires.object in
    let words = rw (← c.self.view_is) at c.requires.words in
    let version = rw (← c.self.view_is) at c.requires.version in
    let part = get_or_read c.self.inside.parts.items c.args.object c.index-part.result.now object c.index-part.ensures no_part in
    record {
      empty = c.clear.ensures;
      nodes = rw (c.low_of-low.ensures.value, part)
          (nodes_from (record { parts = c.self.inside.parts.items; seats = c.self.inside.seats; first = c.self.inside.first }) c.args.object (root_of c.args.words.now c.args.object) c.args.words.now c.self.invariant.0 object words
          (sym (ap (λ (x : Part). form_of x.kind) part) ∙ is_node _ c.in-Queue.is) version);
    }

pub read_block-requires : goal.read_block-requires
read_block-requires c =
    let object = rw (← c.self.view_is) at c.requires.object in
    let words = rw (← c.self.view_is) at c.requires.words in
    let version = rw (← c.self.view_is) at c.requires.version in
    let part = get_or_read c.self.inside.parts.items c.args.object c.index-part.result.now object c.index-part.ensures no_part in
    record {
      empty = c.clear.ensures;
      block = rw (c.low_of-low.ensures.value)
          (block_from (record { parts = c.self.inside.parts.items; seats = c.self.inside.seats; first = c.self.inside.first }) c.args.object (root_of c.args.words.now c.args.object) c.args.words.now c.self.invariant.0 object words
          (is_block _ (sym (ap (λ (x : Part). x.kind) part) ∙ c.in-Registers.is)) version);
    }

pub returns-in-Cell : goal.returns-in-Cell
returns-in-Cell c = rw (← c.self.view_is)
    (let object = rw (← c.self.view_is) at c.requires.object in
    let part = get_or_read c.self.inside.parts.items c.args.object c.index-part.result.now object c.index-part.ensures no_part in
    rw (c.push.ensures.items, c.clear.ensures, c.low_of-low.ensures.value)
    (sym (decoded_inline (home (record { parts = c.self.inside.parts.items; seats = c.self.inside.seats; first = c.self.inside.first }) c.args.object) (sym (ap (λ (x : Part). x.kind) part) ∙ c.in-Cell.is) (root_of c.args.words.now c.args.object) c.args.words.now)))

pub returns-in-Registers : goal.returns-in-Registers
returns-in-Registers c = rw (← c.self.view_is)
    (let object = rw (← c.self.view_is) at c.requires.object in
    let part = get_or_read c.self.inside.parts.items c.args.object c.index-part.result.now object c.index-part.ensures no_part in
    rw (c.read_block.ensures, c.low_of-low.ensures.value)
    (sym (decoded_block (home (record { parts = c.self.inside.parts.items; seats = c.self.inside.seats; first = c.self.inside.first }) c.args.object) (is_block _ (sym (ap (λ (x : Part). x.kind) part) ∙ c.in-Registers.is)) (root_of c.args.words.now c.args.object) c.args.words.now)))

pub returns-in-Queue : goal.returns-in-Queue
returns-in-Queue c = rw (← c.self.view_is)
    (let object = rw (← c.self.view_is) at c.requires.object in
    let part = get_or_read c.self.inside.parts.items c.args.object c.index-part.result.now object c.index-part.ensures no_part in
    rw (c.read_nodes.ensures, c.low_of-low.ensures.value, part)
    (sym (decoded_node (home (record { parts = c.self.inside.parts.items; seats = c.self.inside.seats; first = c.self.inside.first }) c.args.object) (sym (ap (λ (x : Part). form_of x.kind) part) ∙ is_node _ c.in-Queue.is) (root_of c.args.words.now c.args.object) c.args.words.now)))
