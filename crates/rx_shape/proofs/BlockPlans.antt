-- Calls that the words of a block settle.
use Rattle.std.proofs.Common.{◌≡◌, ℕ, ◌+◌, ◌≤◌, List, true, refl, sym, ap, subst, arith, inl, inr, length}
use Rattle.std.specs.Prelude.{slice_index}
use Rattle.std.proofs.lemmas.Bool.{cases_Bool}
use Rattle.rx_seq.specs.declared.calls.Call.{Call}
use Rattle.rx_seq.specs.declared.replies.Reply.{Reply}
use Rattle.rx_seq.specs.Table.{Effect, effect}
use Rattle.rx_seq.specs.Quiet.{is_quiet}
use Rattle.rx_seq.specs.States.{IsState}
use Rattle.rx_shape.specs.declared.homes.Home.{Home}
use Rattle.rx_shape.specs.Words.{pack, tag_of, low_of}
use Rattle.rx_shape.specs.Forms.{block, form_of}
use Rattle.rx_shape.specs.Asks.{IsSettled}
use Rattle.rx_shape.specs.Moves.{block_writes, block_pairs}
use Rattle.rx_shape.specs.Walks.{IsBounded, IsWhole, numbers_of, at_run}
use Rattle.rx_shape.proofs.Walked.{listing_by}
use Rattle.rx_shape.proofs.BlockWants.{settled_whole, stays_whole}
use Rattle.rx_shape.proofs.Staying.{settled_stay}
use Rattle.rx_shape.proofs.Moving.{move_planned}

module _ (home : Home) (form : form_of home.part.kind ≡ block) (limits : IsBounded home.part) (places : home.first + home.count ≤ 16777216) (root : ℕ) (words : List ℕ) (call : Call) (whole : IsWhole home.part words)
    (kept : IsState home.part (effect home.part (numbers_of words) call).state)
    (stays : is_quiet call (effect home.part (numbers_of words) call).reply ≡ true → (effect home.part (numbers_of words) call).state ≡ numbers_of words) where
  abbrev after : Effect
  after = effect home.part (numbers_of words) call

  -- words that are read whole settle each call
  pub settled_by_whole : IsSettled home call root (at_run (low_of root) words)
  settled_by_whole = elim (cases_Bool (is_quiet call after.reply)) [
    | inl quiet ↦
        let same = stays_whole home form root words call whole (numbers_of words) after.state after.reply refl refl refl (stays quiet) in
        settled_stay home call root (at_run (low_of root) words) after.reply same (λ memory has. subst (λ (reply : Reply). is_quiet call reply ≡ true) (sym (ap (λ (e : Effect). e.reply) (same memory has))) quiet)
    | inr loud ↦ record {
      reply = after.reply;
      says = λ memory has. sym (ap (λ (e : Effect). e.reply) (settled_whole home form root words call whole memory has));
      plan = λ tag own stock ranges once. record {
        new = pack (tag_of root + 1) (slice_index own 0);
        writes = block_writes after.state;
        pairs = block_pairs 0 (low_of root) (length own);
        planned = move_planned home form own stock ranges call root (at_run (low_of root) words) (pack (tag_of root + 1) (slice_index own 0)) after.state after.reply places
            (let all = (listing_by home.part.kind home.part.cap after.state form kept).all in omega arith) kept refl (settled_whole home form root words call whole) loud;
      };
    }
  ]
