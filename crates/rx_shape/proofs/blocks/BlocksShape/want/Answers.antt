use Rattle.std.proofs.Common.{arith, inl, inr}
use Rattle.rx_seq.proofs.Kept.{state_kept}
use Rattle.rx_shape.specs.Words.{low_of as low_in}
use Rattle.rx_shape.specs.Walks.{numbers_of}
use Rattle.rx_shape.proofs.Quiet.{no_set}
use Rattle.rx_shape.proofs.Staying.{settled_stay, quiet_stay}
use Rattle.rx_shape.proofs.BlockForm.{no_cell, size_block}
use Rattle.rx_shape.proofs.BlockPlans.{settled_by_whole}
use Rattle.rx_shape.proofs.BlockWants.{length-at_run, stale_none, stale_far, stays_kept, state_whole, open_few}
use Rattle.rx_shape.proofs.blocks.BlocksShape.want.Goals as goal

pub returns-then-low-self-clause-wants : goal.returns-then-low-self-clause-wants
returns-then-low-self-clause-wants c =
    let low = c.low_of-low.ensures.value in
    stale_far c.args.self.now.home c.args.self.now.form c.args.root c.args.self.now.words.items (rw (← low) c.if-low-self.true)

pub returns-in-Open-clause-wants : goal.returns-in-Open-clause-wants
returns-in-Open-clause-wants c =
    let low = c.low_of-low.ensures.value in
    let size = size_block c.args.self.now.home c.args.self.now.form in
    let from = (c.requires (omega arith)).from in
    let open_words = c.args.self.now.says.waits c.in-Open.is in
    let taken = length-at_run (low_in c.args.root) c.args.self.now.words.items in
    let few = open_few c.args.self.now.home.part c.args.self.now.words.items open_words in
    let many = c.len.ensures.value in
    let fits = c.if-low-self.false in (record { from = omega arith; below = omega arith }, omega arith)

pub returns-in-Broken-clause-wants : goal.returns-in-Broken-clause-wants
returns-in-Broken-clause-wants c = stale_none c.args.self.now.home c.args.self.now.form c.args.root c.args.self.now.words.items (c.args.self.now.says.broken c.in-Broken.is)

pub returns-in-Kept-clause-wants : goal.returns-in-Kept-clause-wants
returns-in-Kept-clause-wants c =
    let home = c.args.self.now.home in let words = c.args.self.now.words.items in let call = c.args.self.now.call in let form = c.args.self.now.form in
    elim c.in-Kept.is [
      | inl kept ↦
          let stays = stays_kept home form c.args.root words call kept.0 (c.args.self.now.says.kept kept.0 kept.1) in
          settled_stay home call c.args.root _ kept.0 stays (quiet_stay home call c.args.root _ kept.0 stays c.quiet_calls_stay.ensures.only c.args.self.now.fits (no_set home.part.kind home.part.cap call (no_cell home.part.kind form) c.args.self.now.fits))
      | inr all ↦
          let whole = c.args.self.now.says.whole all in
          let state = state_whole home.part form words whole in
          settled_by_whole home form c.args.self.now.limits c.args.self.now.places c.args.root words call whole
          (state_kept home.part (numbers_of words) call state c.args.self.now.fits)
          (c.quiet_calls_stay.ensures.quiet home.part (numbers_of words) call state c.args.self.now.fits)
    ]
