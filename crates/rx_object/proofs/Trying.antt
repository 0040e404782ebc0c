-- What the steps of an attempt make of the seat.
use Rattle.std.proofs.Common.{◌≡◌, ◌≢◌, ℕ, ◌+◌, ◌<◌, ◌≤◌, ◌^◌, Bool, true, false, List, [], ◌∷◌, length, refl, sym, ap, ◌∙◌, subst, ◌⊎◌, ⊎_elim, arith}
use Rattle.std.specs.Prelude.{◌==◌, Option, Some, None, option_map}
use Rattle.std.proofs.lemmas.Bool.{eq-eqb, ne_eqb}
use Rattle.rx_seq.specs.declared.calls.Call.{Call}
use Rattle.rx_seq.specs.declared.entries.Entry.{Entry}
use Rattle.rx_seq.specs.declared.replies.Reply.{Reply}
use Rattle.rx_seq.specs.History.{tag_of as count_loud}
use Rattle.rx_seq.specs.Legal.{IsLegal, entries_of}
use Rattle.rx_shape.specs.declared.plans.Pair.{Pair}
use Rattle.rx_shape.specs.Words.{tag_of}
use Rattle.rx_shape.specs.Layout.{Layout}
use Rattle.rx_port.specs.declared.views.Attempt.{Attempt}
use Rattle.rx_port.specs.declared.views.Exchange.{Exchange}
use Rattle.rx_port.specs.declared.views.Known.{Known}
use Rattle.rx_port.specs.declared.views.View.{View}
use Rattle.rx_port.specs.declared.views.Core.{Core}
use Rattle.rx_port.specs.Core.{tag_after, begun_known, new_attempt, decided_known, entry_for, exchange_of, traded_own}
use Rattle.rx_port.specs.Lawful.{IsOlder, IsKnown}
use Rattle.rx_port.specs.Events.{Found, Begun, Decided}
use Rattle.rx_port.proofs.Lists.{some_here}
use Rattle.rx_port.proofs.Histories.{mine_here, legal_more}
use Rattle.rx_table.specs.Tables.{SharedTable, SeatView, IsSeatOf}
use Rattle.rx_table.specs.Seats.{Keeps}
use Rattle.rx_machine.specs.Operations.{Progress, Operation, attempt_for, lost}
use Rattle.rx_machine.specs.Steps.{Loads, Spends, Reads, Writes, Wins, Loses}
use Rattle.rx_object.specs.Calls.{exchange, HasSeenMore, IsDone, IsLost, IsSpent}
use Rattle.rx_object.proofs.Entries.{none_between, none_newer, count-append, older_trans}

-- an attempt was begun: the seat has seen a longer history, and nothing else it has changed
pub record Opened (layout : Layout) (object : ℕ) (before now : View) (expected : ℕ) : Type 0 where
  pub known : Known
  pub is : before.known ≡ Some known
  pub history : List Entry
  pub now_is : now.known ≡ Some (begun_known history known)
  pub seen : IsOlder known.seen history
  pub mine : known.mine ≡ entries_of before.number history
  pub all_mine : known.mine ≡ entries_of before.number known.seen
  pub legal : IsLegal layout.parts layout.first history
  pub seated : (seat : ℕ) → layout.seats ≤ seat → entries_of seat history ≡ []
  pub tag : tag_of expected ≡ tag_after layout history object
  pub own : now.own ≡ before.own
  pub number : now.number ≡ before.number

-- what the rule says of what a seat knows
known_found : (l : Layout) (stood : Core → Type 0) (v : View) (core : Core) (es : List Entry) (k : Known) → Found l stood v core es → v.known ≡ Some k → IsKnown es v.number k
known_found l stood v core es k h is = some_here (λ (x : Known). IsKnown es v.number x) v.known k is (h.lawful.seats v.number v h.here).known

-- no entry is of a seat that the table has not
none_past : (l : Layout) (stood : Core → Type 0) (v : View) (core : Core) (es : List Entry) → Found l stood v core es → (seat : ℕ) → l.seats ≤ seat → entries_of seat es ≡ []
none_past l stood v core es h seat past = let few = h.lawful.few in h.lawful.made seat (omega arith)

-- the seat has seen a longer history, in which it made nothing since
abbrev seen_since : (l : Layout) (object : ℕ) (before v w : View) (root : ℕ) (h : Opened l object before v root) (history : List Entry) (after : Known) (lost : ℕ) (older : IsOlder h.known.seen history) → h.known.mine ≡ entries_of before.number history
    → ((seat : ℕ) → l.seats ≤ seat → entries_of seat history ≡ []) → w.known ≡ Some after → w.number ≡ v.number → lost ≤ count_loud object older.0 → HasSeenMore l before w object lost
seen_since l object before v w root h history after lost older mine past after_is number many = record {
  known = h.known;
  is = h.is;
  after = after;
  after_is = after_is;
  between = older.0;
  history = history;
  history_is = older.1;
  others = none_between before.number older.0 h.known.seen (ap (entries_of before.number) (sym older.1) ∙ sym mine ∙ h.all_mine);
  seated = λ seat beyond. none_newer seat older.0 h.known.seen (ap (entries_of seat) (sym older.1) ∙ past seat beyond);
  many = many;
  number = number ∙ h.number;
}

module _ (l : Layout) (stood stands : Core → Type 0) where
  pub opened_from : (v w : View) (object : ℕ) (call : Call) (root : ℕ) → object < length l.parts → Keeps v → Begun l stood stands v w object call root → Opened l object v w root
  opened_from v w object call root there keeps e =
      let k = known_found l stood v e.core e.history keeps.known e.found keeps.is in record {
        known = keeps.known;
        is = keeps.is;
        history = e.history;
        now_is = ap (λ (x : View). x.known) e.view_is ∙ ap (option_map (begun_known e.history)) keeps.is;
        seen = k.seen;
        mine = k.mine;
        all_mine = keeps.all_mine;
        legal = e.found.lawful.legal;
        seated = none_past l stood v e.core e.history e.found;
        tag = ap tag_of e.root_is ∙ e.found.lawful.tags object there;
        own = ap (λ (x : View). x.own) e.view_is;
        number = ap (λ (x : View). x.number) e.view_is;
      }

  pub opened_kept : (object : ℕ) (before v w : View) (root : ℕ) → Opened l object before v root → w.known ≡ v.known → w.own ≡ v.own → w.number ≡ v.number → Opened l object before w root
  opened_kept object before v w root h known own number = record {
    known = h.known;
    is = h.is;
    history = h.history;
    now_is = known ∙ h.now_is;
    seen = h.seen;
    mine = h.mine;
    all_mine = h.all_mine;
    legal = h.legal;
    seated = h.seated;
    tag = h.tag;
    own = own ∙ h.own;
    number = number ∙ h.number;
  }

  -- a decide that follows: the seat had seen the beginning of the history that it finds, in which it made nothing since
  grown_from : (object : ℕ) (before v : View) (root : ℕ) (h : Opened l object before v root) (core : Core) (es : List Entry) → Found l stood v core es → IsOlder h.known.seen es × (h.known.mine ≡ entries_of before.number es)
  grown_from object before v root h core es f =
      let k = known_found l stood v core es (begun_known h.history h.known) f h.now_is in (older_trans h.known.seen h.history es h.seen k.seen, k.mine ∙ ap (λ (n : ℕ). entries_of n es) h.number)

  -- the exchange found the expected root
  pub done_from : (object : ℕ) (call : Call) (before v w : View) (a : Attempt) (new found : ℕ) (pairs : List Pair) (reply : Reply) (tag : ℕ) (h : Opened l object before v a.expected) → tag_of a.expected + 1 < 2 ^ 40
      → (e : Decided l stood stands v w a new pairs found) → a.object ≡ object → a.call ≡ call → found ≡ a.expected
      → reply ≡ (entry_for l e.history v.number object call).reply → tag ≡ (entry_for l e.history v.number object call).tag → IsDone l before w object call reply tag 0
  done_from object call before v w a new found pairs reply tag h room e on asked same reply_is tag_is =
      let g = grown_from object before v a.expected h e.core e.history e.found in
      let won : (found == a.expected) ≡ true = eq-eqb found a.expected same in
      let entry : Entry = entry_for l e.history before.number object call in
      let x : Entry = entry_for l e.history v.number a.object a.call in
      let x_is : x ≡ entry = (λ k. entry_for l e.history (h.number k) (on k) (asked k)) in
      let z : Exchange = exchange_of a found in
      let known_is : w.known ≡ Some (decided_known true e.history x z (begun_known h.history h.known)) =
      ap (λ (y : View). y.known) e.view_is ∙ ap (λ (b : Bool). option_map (decided_known b e.history x z) v.known) won ∙ ap (option_map (decided_known true e.history x z)) h.now_is in
      record {
        more = seen_since l object before v w a.expected h e.history (decided_known true e.history x z (begun_known h.history h.known)) 0 g.0 g.1 (none_past l stood v e.core e.history e.found) known_is (ap (λ (y : View). y.number) e.view_is) (omega arith);
        seen = ap (λ (y : Entry). y ∷ e.history) x_is;
        reply_is = reply_is ∙ ap (λ (n : ℕ). (entry_for l e.history n object call).reply) h.number;
        tag_is = tag_is ∙ ap (λ (n : ℕ). (entry_for l e.history n object call).tag) h.number;
        legal = legal_more l e.history v.number a.object a.call e.found.lawful.legal;
        mine = ap (λ (y : Entry). y ∷ h.known.mine) x_is;
        all_mine = ap (λ (y : Entry). y ∷ h.known.mine) x_is ∙ ap (λ (ys : List Entry). entry ∷ ys) g.1 ∙ sym (mine_here l e.history before.number object call)
            ∙ ap (λ (y : Entry). entries_of before.number (y ∷ e.history)) (sym x_is);
        begins = omega arith;
        exchanges = omega arith;
        root = a.expected;
        latest = ap (λ (n : ℕ). Some (exchange n a.expected found)) on ∙ ap (λ (n : ℕ). Some (exchange object a.expected n)) same;
        room = room;
        closed = ap (λ (y : View). y.attempt) e.view_is;
      }

  -- it found another one
  pub lost_from : (object : ℕ) (before v w : View) (a : Attempt) (new found : ℕ) (pairs : List Pair) (h : Opened l object before v a.expected) → tag_of a.expected + 1 < 2 ^ 40
      → (e : Decided l stood stands v w a new pairs found) → a.object ≡ object → object < length l.parts → found ≢ a.expected → tag_of a.expected < tag_of found → tag_of found ≡ tag_after l e.history object
      → IsLost l before w object a.expected found
  lost_from object before v w a new found pairs h room e on there apart higher tag =
      let g = grown_from object before v a.expected h e.core e.history e.found in
      let lose : (found == a.expected) ≡ false = ne_eqb found a.expected apart in
      let x : Entry = entry_for l e.history v.number a.object a.call in
      let z : Exchange = exchange_of a found in
      let known_is : w.known ≡ Some (decided_known false e.history x z (begun_known h.history h.known)) =
      ap (λ (y : View). y.known) e.view_is ∙ ap (λ (b : Bool). option_map (decided_known b e.history x z) v.known) lose ∙ ap (option_map (decided_known false e.history x z)) h.now_is in
      let counts : count_loud object e.history ≡ count_loud object g.0.0 + count_loud object h.known.seen = ap (count_loud object) g.0.1 ∙ count-append object g.0.0 h.known.seen in
      let earlier : count_loud object h.history ≡ count_loud object h.seen.0 + count_loud object h.known.seen = ap (count_loud object) h.seen.1 ∙ count-append object h.seen.0 h.known.seen in
      let first = h.tag in
      let own : w.own ≡ v.own = ap (λ (y : View). y.own) e.view_is ∙ ap (λ (b : Bool). traded_own b v.own a.object pairs) lose in
      record {
        waited = record {
          more = seen_since l object before v w a.expected h e.history (decided_known false e.history x z (begun_known h.history h.known)) 1 g.0 g.1 (none_past l stood v e.core e.history e.found) known_is (ap (λ (y : View). y.number) e.view_is) (omega arith);
          seen = refl;
          few = omega arith;
          mine = refl;
          begins = refl;
          exchanges = refl;
          own = own ∙ h.own;
        };
        legal = e.found.lawful.legal;
        below = e.found.lawful.below object there;
        latest = ap (λ (n : ℕ). Some (exchange n a.expected found)) on;
        room = room;
        apart = apart;
        closed = ap (λ (y : View). y.attempt) e.view_is;
      }

-- the root that was loaded has the last tag
pub spent_from : (l : Layout) (object : ℕ) (call : Call) (before w : View) (root tag : ℕ) → Opened l object before w root → w.attempt ≡ Some (new_attempt object call root) → tag ≡ tag_of root → tag_of root + 1 ≡ 2 ^ 40
    → IsSpent l before w object call tag 0
spent_from l object call before w root tag h opened is last = record {
  more = seen_since l object before w w root h h.history (begun_known h.history h.known) 0 h.seen h.mine h.seated h.now_is refl (omega arith);
  seen = refl;
  legal = h.legal;
  mine = refl;
  begins = omega arith;
  exchanges = omega arith;
  tag_is = is ∙ h.tag;
  last = ap (λ (n : ℕ). n + 1) is ∙ last;
  root = root;
  root_is = is;
  opened = opened;
  own = h.own;
}

-- between the steps of an attempt: nothing has happened yet, or it was begun
abbrev pub IsInAttempt : Layout → ℕ → View → View → Option Progress → Type 0
IsInAttempt layout object before now None = now ≡ before
IsInAttempt layout object before now (Some progress) = Opened layout object before now progress.expected × (tag_of progress.expected + 1 < 2 ^ 40)

module _ (l : Layout) (stood stands : Core → Type 0) (before v w : View) (old new : Operation) where
  loads_on : Loads l stood stands v w old new → IsInAttempt l old.object before v old.progress → Keeps before → old.object < length l.parts → IsInAttempt l old.object before w new.progress
  loads_on s h keeps there =
      let same : v ≡ before = rw (s.first) at h in
      let e : Begun l stood stands before w old.object old.call s.root = subst (λ (x : View). Begun l stood stands x w old.object old.call s.root) same s.event in
      subst (IsInAttempt l old.object before w) (sym (ap (λ (m : Operation). m.progress) s.next)) (opened_from l stood stands before w old.object old.call s.root there keeps e, s.more)

  reads_on : Reads l stood stands v w old new → IsInAttempt l old.object before v old.progress → IsInAttempt l old.object before w new.progress
  reads_on s h =
      let o : Opened l old.object before v s.progress.expected × (tag_of s.progress.expected + 1 < 2 ^ 40) = rw (s.amid.is) at h in
      let i = s.event.view_is in
      subst (IsInAttempt l old.object before w) (sym (ap (λ (m : Operation). m.progress) s.next))
      (opened_kept l stood stands old.object before v w s.progress.expected o.0 (ap (λ (x : View). x.known) i) (ap (λ (x : View). x.own) i) (ap (λ (x : View). x.number) i), o.1)

  writes_on : Writes l stood stands v w old new → IsInAttempt l old.object before v old.progress → IsInAttempt l old.object before w new.progress
  writes_on s h =
      let o : Opened l old.object before v s.progress.expected × (tag_of s.progress.expected + 1 < 2 ^ 40) = rw (s.amid.is) at h in
      let i = s.event.view_is in
      subst (IsInAttempt l old.object before w) (sym (ap (λ (m : Operation). m.progress) s.next))
      (opened_kept l stood stands old.object before v w s.progress.expected o.0 (ap (λ (x : View). x.known) i) (ap (λ (x : View). x.own) i) (ap (λ (x : View). x.number) i), o.1)

  -- a step that makes an event and goes on
  pub going_on : Loads l stood stands v w old new ⊎ (Reads l stood stands v w old new ⊎ Writes l stood stands v w old new)
      → IsInAttempt l old.object before v old.progress → Keeps before → old.object < length l.parts → IsInAttempt l old.object before w new.progress
  going_on s h keeps there = ⊎_elim
      (λ (x : Loads l stood stands v w old new). loads_on x h keeps there)
      (λ (x : Reads l stood stands v w old new ⊎ Writes l stood stands v w old new). ⊎_elim
      (λ (y : Reads l stood stands v w old new). reads_on y h)
      (λ (y : Writes l stood stands v w old new). writes_on y h) x) s

  pub goes_next : Loads l stood stands v w old new ⊎ (Reads l stood stands v w old new ⊎ Writes l stood stands v w old new) → lost new ≡ lost old
  goes_next s = ⊎_elim
      (λ (x : Loads l stood stands v w old new). ap lost x.next)
      (λ (x : Reads l stood stands v w old new ⊎ Writes l stood stands v w old new). ⊎_elim
      (λ (y : Reads l stood stands v w old new). ap lost y.next)
      (λ (y : Writes l stood stands v w old new). ap lost y.next) x) s

  -- the last step
  pub won_so : (reply : Reply) (tag : ℕ) → Wins l stood stands v w old new reply tag → IsInAttempt l old.object before v old.progress → IsDone l before w old.object old.call reply tag 0
  won_so reply tag s h =
      let o : Opened l old.object before v s.decides.progress.expected × (tag_of s.decides.progress.expected + 1 < 2 ^ 40) = rw (s.decides.is) at h in
      done_from l stood stands old.object old.call before v w (attempt_for old s.decides.progress) s.decides.root s.found s.decides.pairs reply tag o.0 o.1 s.decides.event refl refl s.same s.reply_is s.tag_is

  pub lost_so : (expected found : ℕ) → Loses l stood stands v w old new expected found → IsInAttempt l old.object before v old.progress → old.object < length l.parts → IsLost l before w old.object expected found
  lost_so expected found s h there =
      let o : Opened l old.object before v s.decides.progress.expected × (tag_of s.decides.progress.expected + 1 < 2 ^ 40) = rw (s.decides.is) at h in
      let is = s.expected_is in
      subst (λ (n : ℕ). IsLost l before w old.object n found) (sym is)
      (lost_from l stood stands old.object before v w (attempt_for old s.decides.progress) s.decides.root found s.decides.pairs o.0 o.1 s.decides.event refl there
      (subst (λ (n : ℕ). found ≢ n) is s.apart) (subst (λ (n : ℕ). tag_of n < tag_of found) is s.higher) s.tag_is)

  pub spent_so : (tag : ℕ) → Spends l stood stands v w old new tag → IsInAttempt l old.object before v old.progress → Keeps before → old.object < length l.parts → IsSpent l before w old.object old.call tag 0
  spent_so tag s h keeps there =
      let same : v ≡ before = rw (s.first) at h in
      let e : Begun l stood stands before w old.object old.call s.root = subst (λ (x : View). Begun l stood stands x w old.object old.call s.root) same s.event in
      spent_from l old.object old.call before w s.root tag (opened_from l stood stands before w old.object old.call s.root there keeps e) (ap (λ (y : View). y.attempt) e.view_is) s.tag_is s.last

-- a port of the same layout that has the same seat is the same port
pub same_port : (p q : SharedTable) (seat : SeatView) → q.layout ≡ p.layout → IsSeatOf p seat → IsSeatOf q seat → q ≡ p
same_port p q seat layout h h' = (λ k. record { layout = layout k; table = (sym h'.same ∙ h.same) k })
