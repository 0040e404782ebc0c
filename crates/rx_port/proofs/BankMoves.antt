-- What an event of a bank does for every history that the bank stands for.
use Rattle.std.proofs.Common.{◌≡◌, ℕ, zero, suc, ◌+◌, ◌<◌, true, Bool, List, [], ◌∷◌, length, set, refl, sym, ap, ◌∙◌, subst, cond}
use Rattle.std.specs.Prelude.{◌==◌, slice_index, slice_index_or, Option, Some, None, option_map}
use Rattle.std.proofs.lemmas.List.{get_or-set_same, get_or-set_other, length-set}
use mathlib.Core.Option.{some}
use lib.ListN.{get_elem?}
use Rattle.rx_seq.specs.declared.calls.Call.{Call}
use Rattle.rx_seq.specs.declared.entries.Entry.{Entry}
use Rattle.rx_seq.specs.Table.{fits_part}
use Rattle.rx_seq.specs.History.{part_at}
use Rattle.rx_shape.specs.declared.plans.Pair.{Pair}
use Rattle.rx_shape.specs.Forms.{stock_size}
use Rattle.rx_shape.specs.Layout.{Layout, root_of}
use Rattle.rx_shape.specs.Versions.{NotWritten}
use Rattle.rx_port.specs.declared.views.Attempt.{Attempt}
use Rattle.rx_port.specs.declared.views.Core.{Core}
use Rattle.rx_port.specs.declared.views.Known.{Known}
use Rattle.rx_port.specs.declared.views.View.{View}
use Rattle.rx_port.specs.Core.{own_of, loaded, stored, exchanged, begun_known, begun_view, entry_for, history_after, decided_known, decided_view, exchange_of}
use Rattle.rx_port.specs.Lawful.{IsAttempt, Lawful}
use Rattle.rx_port.specs.Events.{Begun, DidRead, DidWrite, Decided, IsDecision}
use Rattle.rx_port.specs.Plain.{nobody, view_at, IsPlain, Moves}
use Rattle.rx_port.proofs.Lists.{inside_list}
use Rattle.rx_port.proofs.Lawfully.{begun_lawful, read_lawful, write_lawful, decided_lawful, attempt_here}

-- a seat that keeps no histories is the same whatever the history
same_known : (f g : Known → Known) (k : Option Known) → k ≡ None → option_map f k ≡ option_map g k
same_known f g k e = ap (option_map f) e ∙ sym (ap (option_map g) e)

same_begun : (es fs : List Entry) (v : View) (o : ℕ) (call : Call) (root : ℕ) → v.known ≡ None → begun_view es v o call root ≡ begun_view fs v o call root
same_begun es fs v o call root e = ap (λ (k : Option Known). record (begun_view es v o call root) { known = k }) (same_known (begun_known es) (begun_known fs) v.known e)

same_decided : (won : Bool) (es fs : List Entry) (x y : Entry) (v : View) (a : Attempt) (found : ℕ) (pairs : List Pair) → v.known ≡ None → decided_view won es x v a found pairs ≡ decided_view won fs y v a found pairs
same_decided won es fs x y v a found pairs e =
    ap (λ (k : Option Known). record (decided_view won es x v a found pairs) { known = k }) (same_known (decided_known won es x (exchange_of a found)) (decided_known won fs y (exchange_of a found)) v.known e)

moves_from : (l : Layout) (old now : Core) (i : ℕ) (before after : View) (f : List Entry → List Entry) → get_elem? old.views i ≡ some before → now.views ≡ set old.views i after
    → ((es : List Entry) → Lawful l old.words old.views es → Lawful l now.words now.views (f es)) → Moves l old now i after f
moves_from l old now i before after f at e h = record {
  lawful = h;
  many = ap length e ∙ length-set old.views i after;
  moved = ap (λ (vs : List View). slice_index_or vs i nobody) e ∙ get_or-set_same old.views i after nobody (inside_list old.views i before at);
  others = λ other ne. ap (λ (vs : List View). slice_index_or vs other nobody) e ∙ get_or-set_other old.views i other after nobody ne;
}

module _ (l : Layout) (old now : Core) (before after : View) (plain : IsPlain old) where
  here_now : (core : Core) → core ≡ old → get_elem? core.views before.number ≡ some before → get_elem? old.views before.number ≡ some before
  here_now core e at = subst (λ (c : Core). get_elem? c.views before.number ≡ some before) e at

  pub begun_moves : (o : ℕ) (call : Call) (root : ℕ) → o < length l.parts → fits_part (part_at l.parts o) call ≡ true → Begun l (λ c. c ≡ old) (λ c. c ≡ now) before after o call root → Moves l old now before.number after (λ es. es)
  begun_moves o call root there fits r =
      let at : get_elem? old.views before.number ≡ some before = here_now r.core r.found.stands r.found.here in
      let is : loaded old before.number after ≡ now = ap (λ (c : Core). loaded c before.number after) (sym r.found.stands) ∙ r.after in
      let root_is : root ≡ root_of old.words o = r.root_is ∙ ap (λ (c : Core). root_of c.words o) r.found.stands in
      moves_from l old now before.number before after (λ es. es) at (sym (ap (λ (c : Core). c.views) is))
      (λ es h. subst (λ (c : Core). Lawful l c.words c.views es) is (subst (λ (w : View). Lawful l old.words (set old.views before.number w) es)
      (same_begun es r.history before o call root (plain before.number before at).known ∙ sym r.view_is)
      (begun_lawful l old.words old.views es before.number before o call root h at r.found.alive there fits root_is)))

  pub read_moves : (a : Attempt) (place word : ℕ) → before.attempt ≡ Some a → DidRead l (λ c. c ≡ old) (λ c. c ≡ now) before after a place word → Moves l old now before.number after (λ es. es)
  read_moves a place word is_open r =
      let at : get_elem? old.views before.number ≡ some before = here_now r.core r.found.stands r.found.here in
      let is : loaded old before.number after ≡ now = ap (λ (c : Core). loaded c before.number after) (sym r.found.stands) ∙ r.after in
      let word_is : word ≡ slice_index old.words place = r.word_is ∙ ap (λ (c : Core). slice_index c.words place) r.found.stands in
      moves_from l old now before.number before after (λ es. es) at (sym (ap (λ (c : Core). c.views) is))
      (λ es h. subst (λ (c : Core). Lawful l c.words c.views es) is (subst (λ (w : View). Lawful l old.words (set old.views before.number w) es) (sym r.view_is)
      (read_lawful l old.words old.views es before.number before a (record { place = place; word = word }) h at r.found.alive is_open word_is)))

  pub wrote_moves : (a : Attempt) (own value : ℕ) → before.attempt ≡ Some a → own < stock_size (part_at l.parts a.object) → NotWritten own a.writes → DidWrite l (λ c. c ≡ old) (λ c. c ≡ now) before after a own value → Moves l old now before.number after (λ es. es)
  wrote_moves a own value is_open below new r =
      let at : get_elem? old.views before.number ≡ some before = here_now r.core r.found.stands r.found.here in
      let place : ℕ = slice_index (own_of before a.object) own in
      let is : stored old place value before.number after ≡ now = ap (λ (c : Core). stored c place value before.number after) (sym r.found.stands) ∙ r.after in
      moves_from l old now before.number before after (λ es. es) at (sym (ap (λ (c : Core). c.views) is))
      (λ es h. subst (λ (c : Core). Lawful l c.words c.views es) is (subst (λ (w : View). Lawful l (set old.words place value) (set old.views before.number w) es) (sym r.view_is)
      (write_lawful l old.words old.views es before.number before a (record { own = own; value = value }) h at r.found.alive is_open below new)))

  pub decided_moves : (a : Attempt) (new word : ℕ) (pairs : List Pair) → IsDecision l before a new pairs → Decided l (λ c. c ≡ old) (λ c. c ≡ now) before after a new pairs word
      → Moves l old now before.number after (λ es. history_after (word == a.expected) (entry_for l es before.number a.object a.call) es)
  decided_moves a new word pairs decision r =
      let at : get_elem? old.views before.number ≡ some before = here_now r.core r.found.stands r.found.here in
      let root : ℕ = cond (word == a.expected) new word in
      let is : exchanged old a.object root before.number after ≡ now = ap (λ (c : Core). exchanged c a.object root before.number after) (sym r.found.stands) ∙ r.after in
      let word_is : word ≡ root_of old.words a.object = r.word_is ∙ ap (λ (c : Core). root_of c.words a.object) r.found.stands in
      moves_from l old now before.number before after (λ es. history_after (word == a.expected) (entry_for l es before.number a.object a.call) es) at (sym (ap (λ (c : Core). c.views) is))
      (λ es h. subst (λ (c : Core). Lawful l c.words c.views (history_after (word == a.expected) (entry_for l es before.number a.object a.call) es)) is
      (subst (λ (w : View). Lawful l (set old.words (a.object + 1) root) (set old.views before.number w) (history_after (word == a.expected) (entry_for l es before.number a.object a.call) es))
      (same_decided (word == a.expected) es r.history (entry_for l es before.number a.object a.call) (entry_for l r.history before.number a.object a.call) before a word pairs (plain before.number before at).known ∙ sym r.view_is)
      (decided_lawful l old.words old.views es before.number before a new word pairs h at r.found.alive word_is decision)))

-- an open attempt is one of a seat that is there
open_here : (views : List View) (i : ℕ) (a : Attempt) → (slice_index_or views i nobody).attempt ≡ Some a → get_elem? views i ≡ some (slice_index_or views i nobody)
open_here [] i a e = absurd (let q : None ≡ Some a = e in cc)
open_here (v ∷ views) zero a e = refl
open_here (v ∷ views) (suc i) a e = open_here views i a e

pub attempt_at : (l : Layout) (core : Core) (es : List Entry) (i : ℕ) (a : Attempt) → Lawful l core.words core.views es → (view_at core i).attempt ≡ Some a → IsAttempt l core.words es (view_at core i).own a
attempt_at l core es i a h is_open = attempt_here l core.words core.views es i (view_at core i) a h (open_here core.views i a is_open) is_open
