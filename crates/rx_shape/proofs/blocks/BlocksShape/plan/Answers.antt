use Rattle.std.proofs.Common.{◌≡◌, List, ℕ, length, true, sym, ap, ◌∙◌, subst, arith}
use Rattle.rx_seq.specs.declared.replies.Reply.{Reply}
use Rattle.rx_seq.specs.Table.{Effect}
use Rattle.rx_seq.specs.Quiet.{is_quiet}
use Rattle.rx_seq.specs.States.{IsState}
use Rattle.rx_shape.specs.Walks.{numbers_of}
use Rattle.rx_shape.specs.Words.{low_of as low_in}
use Rattle.rx_shape.proofs.Quiet.{no_set}
use Rattle.rx_shape.proofs.Walked.{listing_by, cap_by}
use Rattle.rx_shape.proofs.BlockWants.{stays_kept, whole_ready, state_whole, answers_whole, stays_whole}
use Rattle.rx_shape.proofs.BlockForm.{no_cell}
use Rattle.rx_shape.proofs.Staying.{stay_planned, quiet_stay}
use Rattle.rx_shape.proofs.Moving.{move_planned, own_fits}
use Rattle.rx_shape.proofs.blocks.BlocksShape.plan.Goals as goal

pub returns-in-Kept : goal.returns-in-Kept
returns-in-Kept c =
    let home = c.args.self.now.home in let call = c.args.self.now.call in
    let stays = stays_kept home c.args.self.now.form c.args.root c.args.self.now.words.items call c.in-Kept.reply (c.args.self.now.says.kept c.in-Kept.reply c.in-Kept.is) in
    rw (c.stay.ensures.writes, c.stay.ensures.pairs)
    (stay_planned home call c.args.root _ c.args.own.now.items c.stay.new.self.root c.in-Kept.reply c.requires.stock c.stay.ensures.root stays
    (quiet_stay home call c.args.root _ c.in-Kept.reply stays c.quiet_calls_stay.ensures.only c.args.self.now.fits (no_set home.part.kind home.part.cap call (no_cell home.part.kind c.args.self.now.form) c.args.self.now.fits)))

pub apply-reply-requires : goal.apply-reply-requires
apply-reply-requires c =
    let home = c.args.self.now.home in let words = c.args.self.now.words.items in
    let whole = whole_ready home c.args.self.now.call words c.args.self.now.step (low_in c.args.root) (length words) c.args.self.now.says c.requires.ready c.in_default.not-Kept in
    record {
      part = cap_by home.part.kind home.part.cap c.args.self.now.form c.args.self.now.limits;
      state = subst (λ (state : List ℕ). IsState home.part state) (sym (c.read_block.ensures ∙ ap numbers_of c.as_slice-words.ensures.value)) (state_whole home.part c.args.self.now.form words whole);
      fits = c.args.self.now.fits;
    }

pub move_block-requires : goal.move_block-requires
move_block-requires c =
    let home = c.args.self.now.home in
    let most = c.args.self.now.limits.most in
    let own = own_fits home c.args.self.now.form c.args.own.now.items c.requires.stock c.requires.ranges (omega arith) c.args.self.now.places in
    let room = (listing_by home.part.kind home.part.cap c.apply-reply.new.state.items c.args.self.now.form c.apply-reply.ensures.again).all in
    rw (c.as_slice.ensures.value, c.as_slice-else-quiet.ensures.value)
    (record { tag = c.requires.tag; some = own.0; few = own.1; place = own.2; state = omega arith })

pub returns-then-quiet : goal.returns-then-quiet
returns-then-quiet c =
    let home = c.args.self.now.home in let words = c.args.self.now.words.items in let call = c.args.self.now.call in
    let whole = whole_ready home call words c.args.self.now.step (low_in c.args.root) (length words) c.args.self.now.says c.requires.ready c.in_default.not-Kept in
    let is : c.read_block.new.state.items ≡ numbers_of words = c.read_block.ensures ∙ ap numbers_of c.as_slice-words.ensures.value in
    let quiet : is_quiet call c.apply-reply.result ≡ true = sym c.quiet.ensures ∙ c.if-quiet.true in
    let same = c.quiet_calls_stay.ensures.quiet home.part c.read_block.new.state.items call (subst (λ (state : List ℕ). IsState home.part state) (sym is) (state_whole home.part c.args.self.now.form words whole)) c.args.self.now.fits
    (subst (λ (reply : Reply). is_quiet call reply ≡ true) c.apply-reply.ensures.reply quiet) in
    let stays = stays_whole home c.args.self.now.form c.args.root words call whole c.read_block.new.state.items c.apply-reply.new.state.items c.apply-reply.result is c.apply-reply.ensures.state c.apply-reply.ensures.reply same in
    rw (c.stay-then-quiet.ensures.writes, c.stay-then-quiet.ensures.pairs)
    (stay_planned home call c.args.root _ c.args.own.now.items c.stay-then-quiet.new.self.root c.apply-reply.result c.requires.stock c.stay-then-quiet.ensures.root stays
    (λ memory has. subst (λ (reply : Reply). is_quiet call reply ≡ true) (sym (ap (λ (e : Effect). e.reply) (stays memory has))) quiet))

pub returns-else-quiet : goal.returns-else-quiet
returns-else-quiet c =
    let home = c.args.self.now.home in let words = c.args.self.now.words.items in
    let whole = whole_ready home c.args.self.now.call words c.args.self.now.step (low_in c.args.root) (length words) c.args.self.now.says c.requires.ready c.in_default.not-Kept in
    let all = (listing_by home.part.kind home.part.cap c.apply-reply.new.state.items c.args.self.now.form c.apply-reply.ensures.again).all in
    let own_is = c.as_slice.ensures.value in
    rw (c.move_block.ensures.writes, c.move_block.ensures.pairs, c.as_slice-else-quiet.ensures.value, own_is)
    (move_planned home c.args.self.now.form c.args.own.now.items c.requires.stock c.requires.ranges c.args.self.now.call c.args.root _ c.move_block.new.out.root c.apply-reply.new.state.items c.apply-reply.result
    c.args.self.now.places (omega arith) c.apply-reply.ensures.again (rw own_is at c.move_block.ensures.root)
    (answers_whole home c.args.self.now.form c.args.root words c.args.self.now.call whole c.read_block.new.state.items c.apply-reply.new.state.items c.apply-reply.result
    (c.read_block.ensures ∙ ap numbers_of c.as_slice-words.ensures.value) c.apply-reply.ensures.state c.apply-reply.ensures.reply)
    (sym c.quiet.ensures ∙ c.if-quiet.false))
