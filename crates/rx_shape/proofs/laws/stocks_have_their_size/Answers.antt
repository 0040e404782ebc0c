use Rattle.rx_shape.proofs.Local.{stock_many, start_stock}
use Rattle.rx_shape.proofs.laws.stocks_have_their_size.Goals as goal

pub returns-clause-size : goal.returns-clause-size
returns-clause-size c home places h = stock_many home places h

pub returns-clause-start : goal.returns-clause-start
returns-clause-start c home seat = start_stock home seat
