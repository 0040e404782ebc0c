-- What an event on a bank does to it.
use Rattle.std.proofs.Common.{ℕ, suc, ◌≡◌, ◌≢◌, ◌<◌, ◌+◌, ◌==◌, if◌then◌else◌, List, length, Option, Some, None, refl, sym, ◌∙◌, ap, subst}
use Rattle.std.specs.Prelude.{slice_index, slice_set, option_map}
use Rattle.rx_seq.specs.declared.calls.Call.{Call}
use Rattle.rx_seq.specs.declared.entries.Entry.{Entry}
use Rattle.rx_seq.specs.History.{part_at}
use Rattle.rx_set.specs.declared.jobs.Job.{Job}
use Rattle.rx_shape.specs.declared.homes.Home.{Home}
use Rattle.rx_shape.specs.declared.plans.Pair.{Pair}
use Rattle.rx_shape.specs.Forms.{stock_size}
use Rattle.rx_shape.specs.Layout.{Layout, home}
use Rattle.rx_shape.proofs.Local.{stock_many}
use Rattle.rx_port.specs.Events.{Begun, DidRead, DidWrite, Decided, OwnsWell}
use Rattle.rx_port.specs.declared.views.Attempt.{Attempt}
use Rattle.rx_port.specs.declared.views.Counts.{Counts}
use Rattle.rx_port.specs.declared.views.Core.{Core}
use Rattle.rx_port.specs.declared.views.View.{View}
use Rattle.rx_port.specs.Core.{own_of, one_load, one_store, one_exchange}
use Rattle.rx_port.specs.Lawful.{Lawful}
use Rattle.rx_port.specs.Plain.{Whole, Moves, view_at}
use Rattle.rx_slots.specs.Schedule.{Slot, Decide, job_in}
use Rattle.rx_tick.specs.Banks.{Touch, Nothing, Load, Store, Exchange, WordsAfter, touched}

-- what an event on a bank does, for the histories before it and after it
pub record Does (slot : Slot) (touch : Touch) (seat : ℕ) (after : List Entry) (old new : Whole) : Type 0 where
  pub layout : new.layout ≡ old.layout
  pub rise : new.core.counts ≡ option_map (touched touch) old.core.counts
  pub quiet : touch ≡ Nothing → new ≡ old
  pub words : WordsAfter slot touch old.core new.core
  pub others : (other : ℕ) → other ≢ seat → view_at new.core other ≡ view_at old.core other
  pub lawful : Lawful new.layout new.core.words new.core.views after

touch_nothing : (touch : Touch) → touch ≡ Load → touch ≡ Nothing → ⊥
touch_nothing touch e f = cc

module _ (slot : Slot) (old new : Whole) (seat : ℕ) (before after : View) (past : List Entry) (layout : new.layout ≡ old.layout) where
  lawful_as : (next : List Entry) → Lawful old.layout new.core.words new.core.views next → Lawful new.layout new.core.words new.core.views next
  lawful_as next h = subst (λ (l : Layout). Lawful l new.core.words new.core.views next) (sym layout) h

  pub begin_does : (object : ℕ) (call : Call) (root : ℕ) → Begun old.layout (λ (core : Core). core ≡ old.core) (λ (core : Core). core ≡ new.core) before after object call root
      → Moves old.layout old.core new.core seat after (λ h. h) → Lawful old.layout old.core.words old.core.views past → Does slot Load seat past old new
  begin_does object call root event moves lawful = record {
    layout = layout;
    rise = sym (ap (λ (core : Core). core.counts) event.after) ∙ ap (λ (core : Core). option_map one_load core.counts) event.found.stands;
    quiet = λ e. absurd (touch_nothing Load refl e);
    words = sym (ap (λ (core : Core). core.words) event.after) ∙ ap (λ (core : Core). core.words) event.found.stands;
    others = moves.others;
    lawful = lawful_as past (moves.lawful past lawful);
  }

  pub read_does : (attempt : Attempt) (place word : ℕ) → DidRead old.layout (λ (core : Core). core ≡ old.core) (λ (core : Core). core ≡ new.core) before after attempt place word
      → Moves old.layout old.core new.core seat after (λ h. h) → Lawful old.layout old.core.words old.core.views past → Does slot Load seat past old new
  read_does attempt place word event moves lawful = record {
    layout = layout;
    rise = sym (ap (λ (core : Core). core.counts) event.after) ∙ ap (λ (core : Core). option_map one_load core.counts) event.found.stands;
    quiet = λ e. absurd (touch_nothing Load refl e);
    words = sym (ap (λ (core : Core). core.words) event.after) ∙ ap (λ (core : Core). core.words) event.found.stands;
    others = moves.others;
    lawful = lawful_as past (moves.lawful past lawful);
  }

  store_nothing : Store ≡ Nothing → ⊥
  store_nothing e = cc

  pub write_does : (mine : Job) (attempt : Attempt) (own value : ℕ) → job_in slot ≡ Some mine → seat ≡ mine.task → before ≡ view_at old.core seat → OwnsWell old.layout before
      → attempt.object < length old.layout.parts → own < stock_size (part_at old.layout.parts attempt.object)
      → DidWrite old.layout (λ (core : Core). core ≡ old.core) (λ (core : Core). core ≡ new.core) before after attempt own value
      → Moves old.layout old.core new.core seat after (λ h. h) → Lawful old.layout old.core.words old.core.views past → Does slot Store seat past old new
  write_does mine attempt own value has seat_is before_is owns exists below event moves lawful =
      let view_is : before ≡ view_at old.core mine.task = before_is ∙ ap (view_at old.core) seat_is in
      let long = stock_many (home old.layout attempt.object) (own_of before attempt.object) (owns.owns.stocks attempt.object exists) in
      record {
        layout = layout;
        rise = sym (ap (λ (core : Core). core.counts) event.after) ∙ ap (λ (core : Core). option_map one_store core.counts) event.found.stands;
        quiet = λ e. absurd (store_nothing e);
        words = record {
          mine = mine;
          has = has;
          object = attempt.object;
          own = own;
          below = subst (λ (v : View). own < length (own_of v attempt.object)) view_is (subst (λ (n : ℕ). own < n) (sym long) below);
          value = value;
          words = sym (ap (λ (core : Core). core.words) event.after) ∙ ap (λ (core : Core). slice_set core.words (slice_index (own_of before attempt.object) own) value) event.found.stands
              ∙ ap (λ (v : View). slice_set old.core.words (slice_index (own_of v attempt.object) own) value) view_is;
        };
        others = moves.others;
        lawful = lawful_as past (moves.lawful past lawful);
      }

  exchange_nothing : Exchange ≡ Nothing → ⊥
  exchange_nothing e = cc

  pub decide_does : (mine : Job) (outcome : Option Entry) (attempt : Attempt) (root found : ℕ) (pairs : List Pair) (made_of : List Entry → List Entry) → slot ≡ Decide mine attempt.object outcome
      → Decided old.layout (λ (core : Core). core ≡ old.core) (λ (core : Core). core ≡ new.core) before after attempt root pairs found
      → Moves old.layout old.core new.core seat after made_of → Lawful old.layout old.core.words old.core.views past → Does slot Exchange seat (made_of past) old new
  decide_does mine outcome attempt root found pairs made_of is event moves lawful = record {
    layout = layout;
    rise = sym (ap (λ (core : Core). core.counts) event.after) ∙ ap (λ (core : Core). option_map one_exchange core.counts) event.found.stands;
    quiet = λ e. absurd (exchange_nothing e);
    words = record {
      mine = mine;
      object = attempt.object;
      outcome = outcome;
      decides = is;
      root = if found == attempt.expected then root else found;
      words = sym (ap (λ (core : Core). core.words) event.after) ∙ ap (λ (core : Core). slice_set core.words (attempt.object + 1) (if found == attempt.expected then root else found)) event.found.stands;
    };
    others = moves.others;
    lawful = lawful_as (made_of past) (moves.lawful past lawful);
  }

-- no event
untouched : (counts : Option Counts) → counts ≡ option_map (touched Nothing) counts
untouched None = refl
untouched (Some counts) = refl

pub idle_does : (slot : Slot) (seat : ℕ) (past : List Entry) (old new : Whole) → new ≡ old → Lawful old.layout old.core.words old.core.views past → Does slot Nothing seat past old new
idle_does slot seat past old new same lawful = record {
  layout = ap (λ (w : Whole). w.layout) same;
  rise = ap (λ (w : Whole). w.core.counts) same ∙ untouched old.core.counts;
  quiet = λ e. same;
  words = ap (λ (w : Whole). w.core.words) same;
  others = λ other apart. ap (λ (w : Whole). view_at w.core other) same;
  lawful = subst (λ (w : Whole). Lawful w.layout w.core.words w.core.views past) (sym same) lawful;
}
