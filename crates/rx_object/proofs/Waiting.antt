-- A call that goes on after lost attempts.
use Rattle.std.proofs.Common.{◌≡◌, ℕ, ◌+◌, ◌<◌, ◌^◌, List, [], ◌∷◌, ◌++◌, refl, sym, ap, ◌∙◌, arith, append_assoc}
use Rattle.std.specs.Prelude.{Option}
use Rattle.std.proofs.lemmas.Option.{same_Some}
use Rattle.rx_seq.specs.declared.calls.Call.{Call}
use Rattle.rx_seq.specs.declared.entries.Entry.{Entry}
use Rattle.rx_seq.specs.declared.replies.Reply.{Reply}
use Rattle.rx_seq.specs.History.{tag_of as count_loud}
use Rattle.rx_seq.specs.Legal.{entries_of}
use Rattle.rx_shape.specs.Layout.{Layout}
use Rattle.rx_port.specs.declared.views.Known.{Known}
use Rattle.rx_port.specs.declared.views.View.{View}
use Rattle.rx_port.specs.Core.{tag_after, entry_for}
use Rattle.rx_table.specs.Seats.{Keeps, seen_of}
use Rattle.rx_object.specs.Calls.{HasSeenMore, IsDone, HasWaited, IsLost, IsSpent}
use Rattle.rx_object.proofs.Entries.{entries-append, count-append}

-- no attempt was lost yet
pub not_waited : (l : Layout) (before : View) (object : ℕ) → Keeps before → HasWaited l before before object 0
not_waited l before object h = record {
  more = record {
    known = h.known;
    is = h.is;
    after = h.known;
    after_is = h.is;
    between = [];
    history = h.known.seen;
    history_is = refl;
    others = refl;
    seated = λ seat past. refl;
    many = omega arith;
    number = refl;
  };
  seen = refl;
  few = omega arith;
  mine = refl;
  begins = omega arith;
  exchanges = omega arith;
  own = refl;
}

none_both : (caller : ℕ) (xs ys : List Entry) → entries_of caller xs ≡ [] → entries_of caller ys ≡ [] → entries_of caller (xs ++ ys) ≡ []
none_both caller xs ys e f = entries-append caller xs ys ∙ (λ k. e k ++ f k)

module _ (l : Layout) (before middle now : View) (object lost : ℕ) (w : HasWaited l before middle object lost) where
  -- what the seat has seen goes on
  known_on : (n : ℕ) (h : HasSeenMore l middle now object n) → h.known ≡ w.more.after
  known_on n h = same_Some h.known w.more.after (sym h.is ∙ w.more.after_is)

  history_on : (n : ℕ) (h : HasSeenMore l middle now object n) → h.history ≡ (h.between ++ w.more.between) ++ w.more.known.seen
  history_on n h =
      h.history_is ∙ ap (λ (x : Known). h.between ++ x.seen) (known_on n h) ∙ ap (λ (xs : List Entry). h.between ++ xs) (w.seen ∙ w.more.history_is)
      ∙ sym (append_assoc h.between w.more.between w.more.known.seen)

  abbrev seen_on : (n all : ℕ) → all ≡ lost + n → HasSeenMore l middle now object n → HasSeenMore l before now object all
  seen_on n all sum h = record {
    known = w.more.known;
    is = w.more.is;
    after = h.after;
    after_is = h.after_is;
    between = h.between ++ w.more.between;
    history = h.history;
    history_is = history_on n h;
    others = none_both before.number h.between w.more.between (ap (λ (n : ℕ). entries_of n h.between) (sym w.more.number) ∙ h.others) w.more.others;
    seated = λ seat past. none_both seat h.between w.more.between (h.seated seat past) (w.more.seated seat past);
    many = let two = count-append object h.between w.more.between in let some = h.many in let past = w.more.many in omega arith;
    number = h.number ∙ w.more.number;
  }

  -- one more was lost
  pub waited_more : (expected found : ℕ) → IsLost l middle now object expected found → HasWaited l before now object (lost + 1)
  waited_more expected found h =
      let more : HasSeenMore l before now object (lost + 1) = seen_on 1 (lost + 1) refl h.waited.more in
      let k : h.waited.more.known ≡ w.more.after = known_on 1 h.waited.more in
      let counted : count_loud object h.waited.more.after.seen ≡ count_loud object more.between + count_loud object w.more.known.seen =
      ap (count_loud object) (h.waited.seen ∙ more.history_is) ∙ count-append object more.between w.more.known.seen in
      let all = more.many in
      let below = h.below in
      record {
        more = more;
        seen = h.waited.seen;
        few = omega arith;
        mine = h.waited.mine ∙ ap (λ (x : Known). x.mine) k ∙ w.mine;
        begins = let a = h.waited.begins in let b = ap (λ (x : Known). x.begins) k in let c = w.begins in omega arith;
        exchanges = let a = h.waited.exchanges in let b = ap (λ (x : Known). x.exchanges) k in let c = w.exchanges in omega arith;
        own = h.waited.own ∙ w.own;
      }

  -- the call is made
  pub done_after : (call : Call) (reply : Reply) (tag : ℕ) → IsDone l middle now object call reply tag 0 → IsDone l before now object call reply tag lost
  done_after call reply tag h =
      let k : h.more.known ≡ w.more.after = known_on 0 h.more in
      let entry : entry_for l h.more.history middle.number object call ≡ entry_for l h.more.history before.number object call = ap (λ (n : ℕ). entry_for l h.more.history n object call) w.more.number in
      record {
        more = seen_on 0 lost (omega arith) h.more;
        seen = h.seen ∙ ap (λ (x : Entry). x ∷ h.more.history) entry;
        reply_is = h.reply_is ∙ ap (λ (x : Entry). x.reply) entry;
        tag_is = h.tag_is ∙ ap (λ (x : Entry). x.tag) entry;
        legal = h.legal;
        mine = h.mine ∙ (λ i. entry i ∷ (k i).mine) ∙ ap (λ (xs : List Entry). entry_for l h.more.history before.number object call ∷ xs) w.mine;
        all_mine = h.all_mine ∙ ap (λ (n : ℕ). entries_of n h.more.after.seen) w.more.number;
        begins = let a = h.begins in let b = ap (λ (x : Known). x.begins) k in let c = w.begins in omega arith;
        exchanges = let a = h.exchanges in let b = ap (λ (x : Known). x.exchanges) k in let c = w.exchanges in omega arith;
        root = h.root;
        latest = h.latest;
        room = h.room;
        closed = h.closed;
      }

  -- the tags are spent
  pub spent_after : (call : Call) (tag : ℕ) → IsSpent l middle now object call tag 0 → IsSpent l before now object call tag lost
  spent_after call tag h =
      let k : h.more.known ≡ w.more.after = known_on 0 h.more in
      record {
        more = seen_on 0 lost (omega arith) h.more;
        seen = h.seen;
        legal = h.legal;
        mine = h.mine ∙ ap (λ (x : Known). x.mine) k ∙ w.mine;
        begins = let a = h.begins in let b = ap (λ (x : Known). x.begins) k in let c = w.begins in omega arith;
        exchanges = let a = h.exchanges in let b = ap (λ (x : Known). x.exchanges) k in let c = w.exchanges in omega arith;
        tag_is = h.tag_is;
        last = h.last;
        root = h.root;
        root_is = h.root_is;
        opened = h.opened;
        own = h.own ∙ w.own;
      }

-- a lost attempt raises the tag that the seat has seen
pub rises : (l : Layout) (middle now : View) (object expected found : ℕ) → IsLost l middle now object expected found → (tag_after l (seen_of middle.known) object < tag_after l (seen_of now.known) object) × (tag_after l (seen_of now.known) object < 2 ^ 40)
rises l middle now object expected found h =
    let more = h.waited.more in
    let old : tag_after l (seen_of middle.known) object ≡ tag_after l more.known.seen object = ap (λ (x : Option Known). tag_after l (seen_of x) object) more.is in
    let new : tag_after l (seen_of now.known) object ≡ tag_after l more.after.seen object = ap (λ (x : Option Known). tag_after l (seen_of x) object) more.after_is in
    let counted : count_loud object more.after.seen ≡ count_loud object more.between + count_loud object more.known.seen = ap (count_loud object) (h.waited.seen ∙ more.history_is) ∙ count-append object more.between more.known.seen in
    let many = more.many in
    let below = h.below in (omega arith, omega arith)
