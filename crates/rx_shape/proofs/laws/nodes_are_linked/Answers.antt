use Rattle.std.proofs.Common.{ap, ◌∙◌, length, suc}
use Rattle.std.proofs.lemmas.List.{length-append}
use Rattle.rx_shape.specs.Forms.{nodes_of, spares_of}
use Rattle.rx_shape.proofs.NodeForm.{live_node, decoded_node, formed_node}
use Rattle.rx_shape.proofs.laws.nodes_are_linked.Goals as goal

pub returns-clause-live : goal.returns-clause-live
returns-clause-live c home root words form = live_node home form root words

pub returns-clause-all : goal.returns-clause-all
returns-clause-all c home root words form version = ap length (live_node home form root words) ∙ ap suc (length-append (nodes_of home.part.cap root words) (spares_of home.part.cap root words) ∙ (formed_node home form root words version.formed).all)

pub returns-clause-state : goal.returns-clause-state
returns-clause-state c home root words form = decoded_node home form root words
