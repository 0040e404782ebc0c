use Rattle.std.proofs.Common.{◌∙◌, arith}
use Rattle.std.proofs.lemmas.List.{length-set, ext_get_or}
use Rattle.rx_table.proofs.Copying.{one_more}
use Rattle.rx_table.proofs.closings.copy_words.Goals as goal

pub loop-word-preserved : goal.loop-word-preserved
loop-word-preserved c = record {
  many = length-set c.loop-word.words.items c.loop-word.word c.word.result ∙ c.loop-word.invariant.many;
  done = one_more c.loop-word.words.items _ c.loop-word.word c.word.result (omega arith) c.word.ensures c.loop-word.invariant.done;
}

pub returns : goal.returns
returns c = ext_get_or 0 c.loop-word.words.items _ c.loop-word.invariant.many (λ k below. c.loop-word.invariant.done k (omega arith))
