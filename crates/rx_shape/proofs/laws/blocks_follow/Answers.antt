use Rattle.rx_shape.proofs.BlockForm.{live_block, stock_block}
use Rattle.rx_shape.proofs.laws.blocks_follow.Goals as goal

pub returns-clause-live : goal.returns-clause-live
returns-clause-live c home root words form = live_block home form root words

pub returns-clause-stock : goal.returns-clause-stock
returns-clause-stock c home places form h = stock_block home form places h
