-- Each event from a lawful core gives a lawful core.
use Rattle.std.proofs.Common.{◌≡◌, ◌≢◌, ◌⊎◌, inl, inr, ℕ, ◌+◌, ◌<◌, ◌≤◌, ◌^◌, Bool, true, false, cond, List, [], ◌∷◌, length, set, refl, sym, ap, ◌∙◌, subst, ⊎_elim, arith}
use Rattle.std.specs.Prelude.{not, ◌==◌, slice_index, Option, Some, None, IfSome, option_map}
use Rattle.std.proofs.lemmas.Bool.{cases_Bool, eqb-true}
use Rattle.std.proofs.lemmas.List.{set-get_or, get_or-set_same, get_or-set_other, length-set}
use mathlib.Core.Option.{some}
use mathlib.Core.Logic.{dite}
use native.Mathlib.Decide.{ℕ_discrete}
use lib.ListN.{get_elem?}
use Rattle.rx_seq.specs.declared.calls.Call.{Call}
use Rattle.rx_seq.specs.declared.entries.Entry.{Entry}
use Rattle.rx_seq.specs.declared.replies.Reply.{Reply}
use Rattle.rx_seq.specs.Quiet.{is_quiet, raised}
use Rattle.std.proofs.lemmas.List.Elements.{All-cons}
use Rattle.rx_seq.specs.Table.{fits_part, effect}
use Rattle.rx_seq.specs.History.{part_at, replay, tag_of as count_loud}
use Rattle.rx_seq.specs.Legal.{entries_of}
use Rattle.rx_seq.specs.States.{IsFitting}
use Rattle.rx_shape.specs.declared.plans.Taken.{Taken}
use Rattle.rx_shape.specs.declared.plans.Write.{Write}
use Rattle.rx_shape.specs.declared.plans.Pair.{Pair}
use Rattle.rx_shape.specs.Words.{tag_of}
use Rattle.rx_shape.specs.Places.{times, total}
use Rattle.rx_shape.specs.Forms.{stock_size, InRange, live, decoded, IsVersion, IsStock}
use Rattle.rx_shape.specs.Layout.{Layout, home, root_of}
use Rattle.rx_shape.specs.Versions.{HasRead, NotWritten, traded, Makes, Plans, IsStale, Same}
use Rattle.rx_shape.proofs.Times.{times_at, sum_set}
use Rattle.rx_shape.proofs.Numbering.{one_range, not_root, in_words, root_in_words}
use Rattle.rx_shape.proofs.Local.{local, stock_many, read_kept, read_more, written_kept, written_more}
use Rattle.rx_port.specs.declared.views.Attempt.{Attempt}
use Rattle.rx_port.specs.declared.views.Exchange.{Exchange}
use Rattle.rx_port.specs.declared.views.Known.{Known}
use Rattle.rx_port.specs.declared.views.Joined.{Joined}
use Rattle.rx_port.specs.declared.views.View.{View}
use Rattle.rx_port.specs.Core.{tag_after, own_of, begun_known, begun_view, read_view, written_view, entry_for, history_after, decided_known, decided_view, exchange_of}
use Rattle.rx_port.specs.Lawful.{IsOlder, placed, IsAttempt, IsKnown, IsView, IsJoined, is_of, joined_in, NoneUnmade, Lawful}
use Rattle.rx_port.specs.Events.{IsPlanOf, IsHopeless, IsDecision}
use Rattle.rx_port.proofs.Lists.{at_set, inside_list, some_here, if_some}
use Rattle.rx_port.proofs.Histories.{older-refl, older-more, count_here, count_there, state_here, state_there, mine_here, mine_there, legal_more}
use Rattle.rx_port.proofs.Placing.{placed_at, placed_two, placed_set, placed_same}

pub both_lives : (v : View) → v.live ≡ true → v.live ≡ false → ⊥
both_lives v yes_live no_live = let e : true ≡ false = sym yes_live ∙ no_live in cc

seats_set : (l : Layout) (words : List ℕ) (es : List Entry) (views : List View) (i : ℕ) (w : View) → ((j : ℕ) (u : View) → j ≢ i → get_elem? views j ≡ some u → IsView l words es j u) → IsView l words es i w → (j : ℕ) (u : View) → get_elem? (set views i w) j ≡ some u → IsView l words es j u
seats_set l words es views i w others mine j u e =
    ⊎_elim
    (λ (x : (j ≡ i) × (w ≡ u)). subst (λ (y : ℕ × View). IsView l words es y.0 y.1) (λ k. (sym x.0 k, x.1 k)) mine)
    (λ (x : (j ≢ i) × (get_elem? views j ≡ some u)). others j u x.0 x.1)
    (at_set views i j w u e)

-- a live seat that stays what it is, but for its attempt, its own places and what it knows
pub record Stays (v w : View) : Type 0 where
  pub alive : v.live ≡ true
  pub lives : w.live ≡ v.live
  pub joined : w.joined ≡ v.joined

module _ (l : Layout) (words : List ℕ) (views : List View) (es fs : List Entry) (i : ℕ) (v w : View) (h : Lawful l words views es) (at : get_elem? views i ≡ some v) (k : Stays v w) where
  pub few_set : length (set views i w) ≤ l.seats
  few_set = let e = length-set views i w in let f = h.few in omega arith

  -- each seat that was joined is kept where it was
  pub kept_set : (j : ℕ) (u : View) → get_elem? (set views i w) j ≡ some u → u.live ≡ false → total (joined_in j) (set views i w) ≡ 1
  kept_set j u there dead = ⊎_elim
      (λ (y : (j ≡ i) × (w ≡ u)). absurd (both_lives v k.alive (sym k.lives ∙ ap (λ (z : View). z.live) y.1 ∙ dead)))
      (λ (y : (j ≢ i) × (get_elem? views j ≡ some u)).
      let s : total (joined_in j) (set views i w) + joined_in j v ≡ total (joined_in j) views + joined_in j w = sum_set (joined_in j) views i v w at in
      let same : joined_in j w ≡ joined_in j v = ap (total (is_of j)) k.joined in
      let one = h.kept j u y.1 dead in omega arith)
      (at_set views i j w u there)

  module _ (longer : (xs : List Entry) → IsOlder xs es → IsOlder xs fs) (mine : (j : ℕ) → j ≢ i → entries_of j fs ≡ entries_of j es) where
    -- a seat that was joined is another one
    joined_set : (x : Joined) → IsJoined l views es x → IsJoined l (set views i w) fs x
    joined_set x ok =
        let other : x.number ≢ i = λ e. both_lives v k.alive (ok.dead v (subst (λ (n : ℕ). get_elem? views n ≡ some v) (sym e) at)) in
        record {
          made = let e = length-set views i w in let m = ok.made in omega arith;
          dead = λ u there. ⊎_elim (λ (y : (x.number ≡ i) × (w ≡ u)). absurd (other y.0)) (λ (y : (x.number ≢ i) × (get_elem? views x.number ≡ some u)). ok.dead u y.1) (at_set views i x.number w u there);
          seen = longer x.seen ok.seen;
          mine = ok.mine ∙ sym (mine x.number other);
          owns = ok.owns;
        }

    pub joins_set : (j : ℕ) (u : View) → get_elem? (set views i w) j ≡ some u → (n : ℕ) (x : Joined) → get_elem? u.joined n ≡ some x → IsJoined l (set views i w) fs x
    joins_set j u there n x is = ⊎_elim
        (λ (y : (j ≡ i) × (w ≡ u)). joined_set x (h.joins i v at n x (subst (λ (xs : List Joined). get_elem? xs n ≡ some x) (sym (ap (λ (z : View). z.joined) y.1) ∙ k.joined) is)))
        (λ (y : (j ≢ i) × (get_elem? views j ≡ some u)). joined_set x (h.joins j u y.1 n x is))
        (at_set views i j w u there)

    -- no entry is of a seat that is not made
    pub made_set : NoneUnmade (set views i w) fs
    made_set j past =
        let k = length-set views i w in let r = inside_list views i v at in mine j (λ (d : j ≡ i). absurd (omega arith)) ∙ h.made j (omega arith)

pub view_lawful : (l : Layout) (words : List ℕ) (views : List View) (es : List Entry) (i : ℕ) (v w : View) → Lawful l words views es → get_elem? views i ≡ some v → Stays v w → w.own ≡ v.own → IsView l words es i w → Lawful l words (set views i w) es
view_lawful l words views es i v w h at k same ok = record {
  legal = h.legal;
  fitting = h.fitting;
  size = h.size;
  tags = h.tags;
  below = h.below;
  versions = h.versions;
  states = h.states;
  places = λ o p there. let e = placed_same l o p views i v w at k.joined same in let q = h.places o p there in omega arith;
  inside = λ o p there more. h.inside o p there (let e = placed_same l o p views i v w at k.joined same in omega arith);
  few = few_set l words views es es i v w h at k;
  seats = seats_set l words es views i w (λ j u _ e. h.seats j u e) ok;
  joins = joins_set l words views es es i v w h at k (λ xs x. x) (λ j ne. refl);
  kept = kept_set l words views es es i v w h at k;
  made = made_set l words views es es i v w h at k (λ xs x. x) (λ j ne. refl);
}

known_begun : (es : List Entry) (i : ℕ) (k : Option Known) → IfSome k (λ x. IsKnown es i x) → IfSome (option_map (begun_known es) k) (λ x. IsKnown es i x)
known_begun es i None h = tt
known_begun es i (Some k) h = record { seen = older-refl es; mine = h.mine }

both_begun : (l : Layout) (es : List Entry) (root o : ℕ) (k : Option Known) → tag_of root ≤ tag_after l es o → IfSome (option_map (begun_known es) k) (λ x. tag_of root ≤ tag_after l x.seen o)
both_begun l es root o None h = tt
both_begun l es root o (Some k) h = h

-- begin
pub begun_lawful : (l : Layout) (words : List ℕ) (views : List View) (es : List Entry) (i : ℕ) (v : View) (o : ℕ) (call : Call) (root : ℕ) → Lawful l words views es → get_elem? views i ≡ some v → v.live ≡ true → o < length l.parts → fits_part (part_at l.parts o) call ≡ true → root ≡ root_of words o → Lawful l words (set views i (begun_view es v o call root)) es
begun_lawful l words views es i v o call root h at alive there fits is =
    let s = h.seats i v at in
    let tag : tag_of root ≡ tag_after l es o = ap tag_of is ∙ h.tags o there in
    let most : tag_of root ≤ tag_after l es o = omega arith in
    view_lawful l words views es i v (begun_view es v o call root) h at (record { alive = alive; lives = refl; joined = refl }) refl (record {
      numbered = s.numbered;
      owns = s.owns;
      spent = λ dead. absurd (both_lives v alive dead);
      attempt = record { exists = there; fits = fits; at_most = most; same = λ _. is; fresh = λ _. tt; stands = tt };
      known = known_begun es i v.known s.known;
      both = both_begun l es root o v.known most;
    })

pub attempt_here : (l : Layout) (words : List ℕ) (views : List View) (es : List Entry) (i : ℕ) (v : View) (a : Attempt) → Lawful l words views es → get_elem? views i ≡ some v → v.attempt ≡ Some a → IsAttempt l words es v.own a
attempt_here l words views es i v a h at is = some_here (λ x. IsAttempt l words es v.own x) v.attempt a is (h.seats i v at).attempt

-- read
pub read_lawful : (l : Layout) (words : List ℕ) (views : List View) (es : List Entry) (i : ℕ) (v : View) (a : Attempt) (r : Taken) → Lawful l words views es → get_elem? views i ≡ some v → v.live ≡ true → v.attempt ≡ Some a → r.word ≡ slice_index words r.place → Lawful l words (set views i (read_view v a r)) es
read_lawful l words views es i v a r h at alive is_open is =
    let s = h.seats i v at in
    let t = attempt_here l words views es i v a h at is_open in
    view_lawful l words views es i v (read_view v a r) h at (record { alive = alive; lives = refl; joined = refl }) refl (record {
      numbered = s.numbered;
      owns = s.owns;
      spent = λ dead. absurd (both_lives v alive dead);
      attempt = record { exists = t.exists; fits = t.fits; at_most = t.at_most; same = t.same; fresh = λ e. read_more (live (home l a.object) a.expected words) words a.reads r (t.fresh e) (sym is); stands = t.stands };
      known = s.known;
      both = some_here (λ x. IfSome v.known (λ k. tag_of x.expected ≤ tag_after l k.seen x.object)) v.attempt a is_open s.both;
    })

-- words that change where no live place, no root and no own place of this view is
pub record Still (l : Layout) (words words' : List ℕ) : Type 0 where
  pub roots : (o : ℕ) → o < length l.parts → root_of words' o ≡ root_of words o
  pub live_words : (o : ℕ) → o < length l.parts → (p : ℕ) → 0 < times p (live (home l o) (root_of words o) words) → slice_index words' p ≡ slice_index words p

still_same : (l : Layout) (words words' : List ℕ) (o : ℕ) → Still l words words' → o < length l.parts → IsVersion (home l o) (root_of words o) words → Same (home l o) (root_of words o) words words'
still_same l words words' o k there ok = local (home l o) (root_of words o) words words' ok (k.live_words o there)

fresh_still : (l : Layout) (words words' : List ℕ) (a : Attempt) → Still l words words' → a.object < length l.parts → IsVersion (home l a.object) (root_of words a.object) words
    → (a.expected ≡ root_of words a.object → HasRead (live (home l a.object) a.expected words) words a.reads) → a.expected ≡ root_of words' a.object → HasRead (live (home l a.object) a.expected words') words' a.reads
fresh_still l words words' a k there ok fresh e =
    let e' : a.expected ≡ root_of words a.object = e ∙ k.roots a.object there in
    let s = still_same l words words' a.object k there ok in
    let live_is : live (home l a.object) a.expected words' ≡ live (home l a.object) a.expected words = subst (λ (r : ℕ). live (home l a.object) r words' ≡ live (home l a.object) r words) (sym e') s.live_is in
    rw live_is (read_kept (live (home l a.object) a.expected words) words words' a.reads (λ p at. k.live_words a.object there p (subst (λ (r : ℕ). 0 < times p (live (home l a.object) r words)) e' at)) (fresh e'))

view_still : (l : Layout) (words words' : List ℕ) (es : List Entry) (j : ℕ) (u : View) → Still l words words' → ((o : ℕ) → o < length l.parts → IsVersion (home l o) (root_of words o) words)
    → ((o p : ℕ) → o < length l.parts → 0 < times p (own_of u o) → slice_index words' p ≡ slice_index words p) → IsView l words es j u → IsView l words' es j u
view_still l words words' es j u k ok own s = record {
  numbered = s.numbered;
  owns = s.owns;
  spent = s.spent;
  attempt = if_some (λ a. IsAttempt l words es u.own a) (λ a. IsAttempt l words' es u.own a) u.attempt (λ a _ t. record {
    exists = t.exists;
    fits = t.fits;
    at_most = t.at_most;
    same = λ e. t.same e ∙ sym (k.roots a.object t.exists);
    fresh = fresh_still l words words' a k t.exists (ok a.object t.exists) t.fresh;
    stands = written_kept words words' (own_of u a.object) a.writes (λ p at. own a.object p t.exists at) t.stands;
  }) s.attempt;
  known = s.known;
  both = s.both;
}

-- write
module _ (l : Layout) (words : List ℕ) (views : List View) (es : List Entry) (i : ℕ) (v : View) (a : Attempt) (w : Write) (h : Lawful l words views es) (at : get_elem? views i ≡ some v) (alive : v.live ≡ true) (is_open : v.attempt ≡ Some a) (below : w.own < stock_size (part_at l.parts a.object)) (new : NotWritten w.own a.writes) where
  place : ℕ
  place = slice_index (own_of v a.object) w.own

  mine : IsAttempt l words es v.own a
  mine = attempt_here l words views es i v a h at is_open

  in_own : w.own < length (own_of v a.object)
  in_own = let e = stock_many (home l a.object) (own_of v a.object) (((h.seats i v at).owns alive).stocks a.object mine.exists) in omega arith

  once : 0 < times place (own_of v a.object)
  unfolding place
  once = times_at (own_of v a.object) w.own in_own

  in_range : InRange (home l a.object) place
  in_range = let o1 = once in let s = placed_at l a.object place views i v at in h.inside a.object place mine.exists (omega arith)

  -- it is no live place of any object
  not_live : (o : ℕ) → o < length l.parts → (p : ℕ) → 0 < times p (live (home l o) (root_of words o) words) → p ≢ place
  not_live o there p in_live e =
      let in_live' : 0 < times place (live (home l o) (root_of words o) words) = subst (λ (q : ℕ). 0 < times q (live (home l o) (root_of words o) words)) e in_live in
      let same : o ≡ a.object = one_range l o a.object place there mine.exists ((h.versions o there).inside place in_live') in_range in
      let here : 0 < times place (live (home l a.object) (root_of words a.object) words) = subst (λ (q : ℕ). 0 < times place (live (home l q) (root_of words q) words)) same in_live' in
      let o1 = once in
      let s = placed_at l a.object place views i v at in
      let p1 = h.places a.object place mine.exists in
      absurd (omega arith)

  now : List ℕ
  now = set words place w.value

  still : Still l words now
  unfolding now
  still = record {
    roots = λ o there. get_or-set_other words place (o + 1) w.value 0 (λ e. not_root l o a.object place there in_range (sym e));
    live_words = λ o there p in_live. get_or-set_other words place p w.value 0 (not_live o there p in_live);
  }

  clash : (j : ℕ) (u : View) → j ≢ i → get_elem? views j ≡ some u → (o : ℕ) → o < length l.parts → 0 < times place (own_of u o) → ⊥
  clash j u ne there o below_o m =
      let s = placed_at l o place views j u there in
      let r : InRange (home l o) place = h.inside o place below_o (omega arith) in
      let same : o ≡ a.object = one_range l o a.object place below_o mine.exists r in_range in
      let m' : 0 < times place (own_of u a.object) = subst (λ (q : ℕ). 0 < times place (own_of u q)) same m in
      let o1 = once in
      let t = placed_two l a.object place views j i u v ne there at in
      let p1 = h.places a.object place mine.exists in
      absurd (omega arith)

  -- nor an own place of another seat
  others_own : (j : ℕ) (u : View) → j ≢ i → get_elem? views j ≡ some u → (o p : ℕ) → o < length l.parts → 0 < times p (own_of u o) → slice_index now p ≡ slice_index words p
  unfolding now
  others_own j u ne there o p below_o more = get_or-set_other words place p w.value 0 (λ e. clash j u ne there o below_o (subst (λ (q : ℕ). 0 < times q (own_of u o)) e more))

  still_at : (o : ℕ) → o < length l.parts → Same (home l o) (root_of words o) words now
  still_at o there = still_same l words now o still there (h.versions o there)

  own_once : (p : ℕ) → times p (own_of v a.object) ≤ 1
  own_once p = let s = placed_at l a.object p views i v at in let p1 = h.places a.object p mine.exists in omega arith

  written_ok : IsView l now es i (written_view v a w)
  unfolding now place
  written_ok = let s = h.seats i v at in record {
    numbered = s.numbered;
    owns = s.owns;
    spent = λ dead. absurd (both_lives v alive dead);
    attempt = record {
      exists = mine.exists;
      fits = mine.fits;
      at_most = mine.at_most;
      same = λ e. mine.same e ∙ sym (still.roots a.object mine.exists);
      fresh = fresh_still l words now a still mine.exists (h.versions a.object mine.exists) mine.fresh;
      stands = written_more words (own_of v a.object) a.writes w in_own new own_once (let r = in_words l a.object place mine.exists in_range in let z = h.size in omega arith) mine.stands;
    };
    known = s.known;
    both = some_here (λ x. IfSome v.known (λ k. tag_of x.expected ≤ tag_after l k.seen x.object)) v.attempt a is_open s.both;
  }

  pub write_lawful : Lawful l (set words (slice_index (own_of v a.object) w.own) w.value) (set views i (written_view v a w)) es
  unfolding now place
  write_lawful = record {
    legal = h.legal;
    fitting = h.fitting;
    size = length-set words place w.value ∙ h.size;
    tags = λ o there. ap tag_of (still.roots o there) ∙ h.tags o there;
    below = h.below;
    versions = λ o there. subst (λ (r : ℕ). IsVersion (home l o) r now) (sym (still.roots o there)) (still_at o there).version;
    states = λ o there. ap (λ (r : ℕ). decoded (home l o) r now) (still.roots o there) ∙ (still_at o there).decoded_is ∙ h.states o there;
    places = λ o p there.
        let e : live (home l o) (root_of now o) now ≡ live (home l o) (root_of words o) words = ap (λ (r : ℕ). live (home l o) r now) (still.roots o there) ∙ (still_at o there).live_is in
        let f = ap (times p) e in let g = placed_same l o p views i v (written_view v a w) at refl refl in let q = h.places o p there in omega arith;
    inside = λ o p there more. h.inside o p there (let g = placed_same l o p views i v (written_view v a w) at refl refl in omega arith);
    few = few_set l words views es es i v (written_view v a w) h at (record { alive = alive; lives = refl; joined = refl });
    seats = seats_set l now es views i (written_view v a w) (λ j u ne e. view_still l words now es j u still h.versions (others_own j u ne e) (h.seats j u e)) written_ok;
    joins = joins_set l words views es es i v (written_view v a w) h at (record { alive = alive; lives = refl; joined = refl }) (λ xs x. x) (λ j ne. refl);
    kept = kept_set l words views es es i v (written_view v a w) h at (record { alive = alive; lives = refl; joined = refl });
    made = made_set l words views es es i v (written_view v a w) h at (record { alive = alive; lives = refl; joined = refl }) (λ xs x. x) (λ j ne. refl);
  }

-- decide, where another root stands
known_lost : (es : List Entry) (e : Entry) (x : Exchange) (i : ℕ) (k : Option Known) → IfSome k (λ y. IsKnown es i y) → IfSome (option_map (decided_known false es e x) k) (λ y. IsKnown es i y)
known_lost es e x i None h = tt
known_lost es e x i (Some k) h = record { seen = older-refl es; mine = h.mine }

decided_lost : (l : Layout) (words : List ℕ) (views : List View) (es : List Entry) (i : ℕ) (v : View) (a : Attempt) (e : Entry) (found : ℕ) (pairs : List Pair) → Lawful l words views es → get_elem? views i ≡ some v → v.live ≡ true → Lawful l (set words (a.object + 1) (root_of words a.object)) (set views i (decided_view false es e v a found pairs)) es
decided_lost l words views es i v a e found pairs h at alive =
    let s = h.seats i v at in
    subst (λ (now : List ℕ). Lawful l now (set views i (decided_view false es e v a found pairs)) es) (sym (set-get_or words (a.object + 1) 0))
    (view_lawful l words views es i v (decided_view false es e v a found pairs) h at (record { alive = alive; lives = refl; joined = refl }) refl (record { numbered = s.numbered; owns = s.owns; spent = λ dead. absurd (both_lives v alive dead); attempt = tt; known = known_lost es e (exchange_of a found) i v.known s.known; both = tt }))

-- decide, where the expected root stands
module _ (l : Layout) (words : List ℕ) (views : List View) (es : List Entry) (i : ℕ) (v : View) (a : Attempt) (new found : ℕ) (pairs : List Pair) (h : Lawful l words views es) (at : get_elem? views i ≡ some v) (alive : v.live ≡ true) (t : IsAttempt l words es v.own a) (is : root_of words a.object ≡ a.expected)
    (plan : Plans (home l a.object) a.call a.expected a.reads (own_of v a.object) a.writes new pairs) (room : tag_of a.expected + 1 < 2 ^ 40) where
  abbrev e : Entry
  e = entry_for l es i a.object a.call

  abbrev after_words : List ℕ
  after_words = set words (a.object + 1) new

  abbrev w : View
  w = decided_view true es (entry_for l es i a.object a.call) v a found pairs

  own_once_at : (p : ℕ) → times p (live (home l a.object) a.expected words) + times p (own_of v a.object) ≤ 1
  own_once_at p = subst (λ (r : ℕ). times p (live (home l a.object) r words) + times p (own_of v a.object) ≤ 1) is (let s = placed_at l a.object p views i v at in let p1 = h.places a.object p t.exists in omega arith)

  old_version : IsVersion (home l a.object) a.expected words
  old_version = subst (λ (r : ℕ). IsVersion (home l a.object) r words) is (h.versions a.object t.exists)

  makes : Makes (home l a.object) a.call a.expected (own_of v a.object) new pairs words
  makes = plan.works words old_version (t.fresh (sym is)) own_once_at t.stands

  reply : Reply
  reply = (effect (part_at l.parts a.object) (replay l.parts a.object es) a.call).reply

  reply_is : (effect (part_at l.parts a.object) (decoded (home l a.object) a.expected words) a.call).reply ≡ reply
  unfolding reply
  reply_is = ap (λ (r : ℕ). (effect (part_at l.parts a.object) (decoded (home l a.object) r words) a.call).reply) (sym is) ∙ ap (λ (state : List ℕ). (effect (part_at l.parts a.object) state a.call).reply) (h.states a.object t.exists)

  tag_is : tag_of a.expected ≡ tag_after l es a.object
  tag_is = sym (ap tag_of is) ∙ h.tags a.object t.exists

  -- the tag is the next one or, where the call is quiet, the words are as before
  counted : count_loud a.object (e ∷ es) ≡ count_loud a.object es + raised a.call reply
  unfolding reply
  counted = count_here l es i a.object a.call

  tag_more : tag_of new ≡ tag_of a.expected + raised a.call reply
  tag_more = makes.tag ∙ ap (λ (x : Reply). tag_of a.expected + raised a.call x) reply_is

  next_or_still : (raised a.call reply ≡ 1) ⊎ ((raised a.call reply ≡ 0) × (after_words ≡ words))
  next_or_still = elim (cases_Bool (is_quiet a.call reply)) [
    | inl quiet ↦
        let same : new ≡ root_of words a.object = (makes.quiet (ap (is_quiet a.call) reply_is ∙ quiet)).0 ∙ sym is in
        inr (ap (λ (b : Bool). cond (not b) 1 0) quiet, ap (set words (a.object + 1)) same ∙ set-get_or words (a.object + 1) 0)
    | inr loud ↦ inl (ap (λ (b : Bool). cond (not b) 1 0) loud)
  ]

  at_most_one : raised a.call reply ≤ 1
  at_most_one = ⊎_elim (λ (loud : raised a.call reply ≡ 1). omega arith) (λ (still : (raised a.call reply ≡ 0) × (after_words ≡ words)). let z = still.0 in omega arith) next_or_still

  -- a word that is no root of the object is as before
  same_word : (p : ℕ) → p ≢ a.object + 1 → slice_index after_words p ≡ slice_index words p
  same_word p ne = get_or-set_other words (a.object + 1) p new 0 ne

  new_root : root_of after_words a.object ≡ new
  new_root = get_or-set_same words (a.object + 1) new 0 (let z = h.size in let x = root_in_words l a.object t.exists in omega arith)

  other_root : (q : ℕ) → q ≢ a.object → root_of after_words q ≡ root_of words q
  other_root q ne = same_word (q + 1) (λ d. ne (omega arith))

  new_same : Same (home l a.object) new words after_words
  new_same = local (home l a.object) new words after_words makes.version (λ p in_live. same_word p (λ d. not_root l a.object a.object p t.exists (makes.version.inside p in_live) d))

  other_same : (q : ℕ) → q < length l.parts → Same (home l q) (root_of words q) words after_words
  other_same q there = local (home l q) (root_of words q) words after_words (h.versions q there) (λ p in_live. same_word p (λ d. not_root l a.object q p t.exists ((h.versions q there).inside p in_live) d))

  one_tag : (q : ℕ) → q < length l.parts → Dec (q ≡ a.object) → (tag_of (root_of after_words q) ≡ tag_after l (e ∷ es) q) × (tag_after l (e ∷ es) q < 2 ^ 40)
  one_tag q there (yes d) = subst (λ (x : ℕ). (tag_of (root_of after_words x) ≡ tag_after l (e ∷ es) x) × (tag_after l (e ∷ es) x < 2 ^ 40)) (sym d)
      (let more = counted in let n = ap tag_of new_root in let g = tag_more in let k = tag_is in let one = at_most_one in (omega arith, omega arith))
  one_tag q there (no ne) = let more = count_there l es i a.object a.call q ne in let r = ap tag_of (other_root q ne) in let s = h.tags q there in let b = h.below q there in (omega arith, omega arith)

  one_state : (q : ℕ) → q < length l.parts → Dec (q ≡ a.object) → IsVersion (home l q) (root_of after_words q) after_words × (decoded (home l q) (root_of after_words q) after_words ≡ replay l.parts q (e ∷ es))
  one_state q there (yes d) = subst (λ (x : ℕ). IsVersion (home l x) (root_of after_words x) after_words × (decoded (home l x) (root_of after_words x) after_words ≡ replay l.parts x (e ∷ es))) (sym d)
      (subst (λ (r : ℕ). IsVersion (home l a.object) r after_words × (decoded (home l a.object) r after_words ≡ replay l.parts a.object (e ∷ es))) (sym new_root)
      (new_same.version, new_same.decoded_is ∙ makes.state ∙ ap (λ (r : ℕ). (effect (part_at l.parts a.object) (decoded (home l a.object) r words) a.call).state) (sym is) ∙ ap (λ (state : List ℕ). (effect (part_at l.parts a.object) state a.call).state) (h.states a.object t.exists) ∙ sym (state_here l es i a.object a.call)))
  one_state q there (no ne) = subst (λ (r : ℕ). IsVersion (home l q) r after_words × (decoded (home l q) r after_words ≡ replay l.parts q (e ∷ es))) (sym (other_root q ne))
      ((other_same q there).version, (other_same q there).decoded_is ∙ h.states q there ∙ sym (state_there l es i a.object a.call q ne))

  own_here : own_of w a.object ≡ traded (own_of v a.object) pairs
  own_here = get_or-set_same v.own a.object (traded (own_of v a.object) pairs) [] (let m = ((h.seats i v at).owns alive).many in let x = t.exists in omega arith)

  own_there : (q : ℕ) → q ≢ a.object → own_of w q ≡ own_of v q
  own_there q ne = get_or-set_other v.own a.object q (traded (own_of v a.object) pairs) [] ne

  -- what the places of all seats and the live ones are together is as before
  sum_here : (p : ℕ) → placed l a.object p (set views i w) + times p (own_of v a.object) ≡ placed l a.object p views + times p (traded (own_of v a.object) pairs)
  sum_here p = subst (λ (z : List ℕ). placed l a.object p (set views i w) + times p (own_of v a.object) ≡ placed l a.object p views + times p z) own_here (placed_set l a.object p views i v w at refl)

  sum_there : (q p : ℕ) → q ≢ a.object → placed l q p (set views i w) ≡ placed l q p views
  sum_there q p ne = let s = placed_set l q p views i v w at refl in let f : times p (own_of w q) ≡ times p (own_of v q) = ap (times p) (own_there q ne) in omega arith

  live_here : (p : ℕ) → times p (live (home l a.object) (root_of after_words a.object) after_words) ≡ times p (live (home l a.object) new words)
  live_here p = ap (λ (r : ℕ). times p (live (home l a.object) r after_words)) new_root ∙ ap (times p) new_same.live_is

  place_here : (p : ℕ) → (times p (live (home l a.object) (root_of after_words a.object) after_words) + placed l a.object p (set views i w) ≤ 1) × (0 < placed l a.object p (set views i w) → InRange (home l a.object) p)
  place_here p =
      let s = sum_here p in let lv = live_here p in let m = makes.places p in
      let old : times p (live (home l a.object) a.expected words) + placed l a.object p views ≤ 1 = subst (λ (r : ℕ). times p (live (home l a.object) r words) + placed l a.object p views ≤ 1) is (h.places a.object p t.exists) in
      let one = placed_at l a.object p views i v at in (
        omega arith,
        λ more. dite (ℕ_discrete (placed l a.object p views) 0)
            (λ z. old_version.inside p (omega arith))
            (λ nz. h.inside a.object p t.exists (omega arith)),
      )

  one_place : (q p : ℕ) → q < length l.parts → Dec (q ≡ a.object) → (times p (live (home l q) (root_of after_words q) after_words) + placed l q p (set views i w) ≤ 1) × (0 < placed l q p (set views i w) → InRange (home l q) p)
  one_place q p there (yes d) = subst (λ (x : ℕ). (times p (live (home l x) (root_of after_words x) after_words) + placed l x p (set views i w) ≤ 1) × (0 < placed l x p (set views i w) → InRange (home l x) p)) (sym d) (place_here p)
  one_place q p there (no ne) =
      let lv : live (home l q) (root_of after_words q) after_words ≡ live (home l q) (root_of words q) words = ap (λ (r : ℕ). live (home l q) r after_words) (other_root q ne) ∙ (other_same q there).live_is in
      let lt = ap (times p) lv in let s = sum_there q p ne in let old = h.places q p there in (omega arith, λ more. h.inside q p there (omega arith))

  own_in : (u : View) (j : ℕ) → get_elem? views j ≡ some u → (z p : ℕ) → z < length l.parts → 0 < times p (own_of u z) → InRange (home l z) p
  own_in u j there z p below more = h.inside z p below (let k = placed_at l z p views j u there in omega arith)

  -- another seat's open attempt
  other_attempt : (u : View) (b : Attempt) → ((z p : ℕ) → z < length l.parts → 0 < times p (own_of u z) → InRange (home l z) p) → IsAttempt l words es u.own b → Dec (b.object ≡ a.object) → IsAttempt l after_words (e ∷ es) u.own b
  other_attempt u b own s (yes d) =
      let more : count_loud b.object (e ∷ es) ≡ count_loud b.object es + raised a.call reply = subst (λ (x : ℕ). count_loud x (e ∷ es) ≡ count_loud x es + raised a.call reply) (sym d) counted in
      let most = s.at_most in
      let late : tag_of (root_of after_words b.object) ≡ tag_after l (e ∷ es) b.object = (one_tag b.object s.exists (yes d)).0 in
      record {
        exists = s.exists;
        fits = s.fits;
        at_most = omega arith;
        same = λ q. ⊎_elim
            (λ (loud : raised a.call reply ≡ 1). absurd (omega arith))
            (λ (still : (raised a.call reply ≡ 0) × (after_words ≡ words)). s.same (let z = still.0 in omega arith) ∙ ap (λ (xs : List ℕ). root_of xs b.object) (sym still.1))
            next_or_still;
        fresh = λ q. ⊎_elim
            (λ (loud : raised a.call reply ≡ 1). let q' = ap tag_of q in absurd (omega arith))
            (λ (still : (raised a.call reply ≡ 0) × (after_words ≡ words)). subst (λ (xs : List ℕ). HasRead (live (home l b.object) b.expected xs) xs b.reads) (sym still.1) (s.fresh (q ∙ ap (λ (xs : List ℕ). root_of xs b.object) still.1)))
            next_or_still;
        stands = written_kept words after_words (own_of u b.object) b.writes (λ p in_own. same_word p (λ x. not_root l a.object b.object p t.exists (own b.object p s.exists in_own) x)) s.stands;
      }
  other_attempt u b own s (no ne) = let more = count_there l es i a.object a.call b.object ne in record {
    exists = s.exists;
    fits = s.fits;
    at_most = let m = s.at_most in omega arith;
    same = λ q. s.same (omega arith) ∙ sym (other_root b.object ne);
    fresh = λ q.
        let q' : b.expected ≡ root_of words b.object = q ∙ other_root b.object ne in
        let k = other_same b.object s.exists in
        let live_is : live (home l b.object) b.expected after_words ≡ live (home l b.object) b.expected words = subst (λ (r : ℕ). live (home l b.object) r after_words ≡ live (home l b.object) r words) (sym q') k.live_is in
        rw live_is (read_kept (live (home l b.object) b.expected words) words after_words b.reads
        (λ p in_live. same_word p (λ x. not_root l a.object b.object p t.exists ((h.versions b.object s.exists).inside p (subst (λ (r : ℕ). 0 < times p (live (home l b.object) r words)) q' in_live)) x)) (s.fresh q'));
    stands = written_kept words after_words (own_of u b.object) b.writes (λ p in_own. same_word p (λ x. not_root l a.object b.object p t.exists (own b.object p s.exists in_own) x)) s.stands;
  }

  other_view : (j : ℕ) (u : View) → j ≢ i → get_elem? views j ≡ some u → IsView l after_words (e ∷ es) j u
  other_view j u ne there = let s = h.seats j u there in record {
    numbered = s.numbered;
    owns = s.owns;
    spent = s.spent;
    attempt = if_some (λ b. IsAttempt l words es u.own b) (λ b. IsAttempt l after_words (e ∷ es) u.own b) u.attempt
        (λ b _ x. other_attempt u b (own_in u j there) x (ℕ_discrete b.object a.object)) s.attempt;
    known = if_some (λ k. IsKnown es j k) (λ k. IsKnown (e ∷ es) j k) u.known (λ k _ x. record { seen = older-more k.seen es e x.seen; mine = x.mine ∙ sym (mine_there l es i a.object a.call j ne) }) s.known;
    both = s.both;
  }

  known_won : (k : Option Known) → IfSome k (λ y. IsKnown es i y) → IfSome (option_map (decided_known true es e (exchange_of a found)) k) (λ y. IsKnown (e ∷ es) i y)
  known_won None x = tt
  known_won (Some k) x = record { seen = older-refl (e ∷ es); mine = ap (λ (m : List Entry). e ∷ m) x.mine ∙ sym (mine_here l es i a.object a.call) }

  one_stock : (q : ℕ) → q < length l.parts → Dec (q ≡ a.object) → IsStock (home l q) (own_of w q)
  one_stock q there (yes d) = subst (λ (x : ℕ). IsStock (home l x) (own_of w x)) (sym d) (subst (λ (xs : List ℕ). IsStock (home l a.object) xs) (sym own_here) makes.stock)
  one_stock q there (no ne) = subst (λ (xs : List ℕ). IsStock (home l q) xs) (sym (own_there q ne)) (((h.seats i v at).owns alive).stocks q there)

  won_view : IsView l after_words (e ∷ es) i w
  won_view = let s = h.seats i v at in record {
    numbered = s.numbered;
    owns = λ _. record { many = length-set v.own a.object (traded (own_of v a.object) pairs) ∙ (s.owns alive).many; stocks = λ q there. one_stock q there (ℕ_discrete q a.object) };
    spent = λ dead. absurd (both_lives v alive dead);
    attempt = tt;
    known = known_won v.known s.known;
    both = tt;
  }

  decided_won : Lawful l after_words (set views i w) (e ∷ es)
  decided_won = record {
    legal = legal_more l es i a.object a.call h.legal;
    fitting = All-cons (IsFitting l.parts) e es (record { exists = t.exists; fits = t.fits }) h.fitting;
    size = length-set words (a.object + 1) new ∙ h.size;
    tags = λ q there. (one_tag q there (ℕ_discrete q a.object)).0;
    below = λ q there. (one_tag q there (ℕ_discrete q a.object)).1;
    versions = λ q there. (one_state q there (ℕ_discrete q a.object)).0;
    states = λ q there. (one_state q there (ℕ_discrete q a.object)).1;
    places = λ q p there. (one_place q p there (ℕ_discrete q a.object)).0;
    inside = λ q p there. (one_place q p there (ℕ_discrete q a.object)).1;
    few = few_set l words views es (e ∷ es) i v w h at (record { alive = alive; lives = refl; joined = refl });
    seats = seats_set l after_words (e ∷ es) views i w other_view won_view;
    joins = joins_set l words views es (e ∷ es) i v w h at (record { alive = alive; lives = refl; joined = refl }) (λ xs x. older-more xs es e x) (λ j ne. mine_there l es i a.object a.call j ne);
    kept = kept_set l words views es (e ∷ es) i v w h at (record { alive = alive; lives = refl; joined = refl });
    made = made_set l words views es (e ∷ es) i v w h at (record { alive = alive; lives = refl; joined = refl }) (λ xs x. older-more xs es e x) (λ j ne. mine_there l es i a.object a.call j ne);
  }

-- decide: where the exchange finds the expected root, the entry follows; where it does not, nothing changes
pub decided_lawful : (l : Layout) (words : List ℕ) (views : List View) (es : List Entry) (i : ℕ) (v : View) (a : Attempt) (new found : ℕ) (pairs : List Pair) → Lawful l words views es → get_elem? views i ≡ some v → v.live ≡ true → found ≡ root_of words a.object → IsDecision l v a new pairs
    → Lawful l (set words (a.object + 1) (cond (found == a.expected) new found)) (set views i (decided_view (found == a.expected) es (entry_for l es i a.object a.call) v a found pairs)) (history_after (found == a.expected) (entry_for l es i a.object a.call) es)
decided_lawful l words views es i v a new found pairs h at alive is d = go (found == a.expected) refl
  where
    t : IsAttempt l words es v.own a
    t = attempt_here l words views es i v a h at d.is_open

    stale : found ≡ a.expected → IsStale (home l a.object) a.expected a.reads → ⊥
    stale e s = let r : root_of words a.object ≡ a.expected = sym is ∙ e in s words (subst (λ (r : ℕ). IsVersion (home l a.object) r words) r (h.versions a.object t.exists)) (t.fresh (sym r))

    go : (b : Bool) → (found == a.expected) ≡ b → Lawful l (set words (a.object + 1) (cond b new found)) (set views i (decided_view b es (entry_for l es i a.object a.call) v a found pairs)) (history_after b (entry_for l es i a.object a.call) es)
    go true e = let e' = eqb-true found a.expected e in ⊎_elim (λ (p : IsPlanOf l v a new pairs). decided_won l words views es i v a new found pairs h at alive t (sym is ∙ e') p.plans p.room) (λ (s : IsHopeless l a pairs). absurd (stale e' s.stale)) d.case
    go false e = subst (λ (n : ℕ). Lawful l (set words (a.object + 1) n) (set views i (decided_view false es (entry_for l es i a.object a.call) v a found pairs)) es) (sym is) (decided_lost l words views es i v a (entry_for l es i a.object a.call) found pairs h at alive)
