use Rattle.std.proofs.Common.{ap, arith, ◌∙◌, ◌+◌, ◌-◌, length, take, drop, length-append, length-drop}
use Rattle.std.proofs.lemmas.List.{length-take-le}
use Rattle.rx_io.proofs.Reading.{gives_piece, gives_end}
use Rattle.rx_io.proofs.memory.MemorySourceSource.read.Goals as goal

pub returns-clause-bytes : goal.returns-clause-bytes
returns-clause-bytes c =
    let bytes = c.self.inside.bytes.items in
    let at = c.self.inside.at in
    let n = c.min-count.result in
    let buf = c.args.buf.now in
    let short = c.min.ensures in
    let shorter = c.min-count.ensures in
    let copied = c.copy_from_slice.ensures.after ∙ ap (λ b. take (at + n - at) (drop at b)) c.deref-2.ensures.value in
    let same_length = c.copy_from_slice.auto.self in (
      gives_piece bytes _ _ _ at n (omega (arith, short, shorter)) (ap (λ s. s.left) c.self.view_is) copied,
      λ none some. gives_end bytes at n c.self.inside.step (length buf) c.self.invariant.1 (omega (arith, short, shorter, length-drop at bytes)) none (omega (arith, some, same_length, none, length-append c.copy_from_slice.new.self (drop n buf), length-drop n buf, length-take-le n buf)),
    )
