-- Plans of a cell.
use Rattle.std.proofs.Common.{◌≡◌, ℕ, ◌+◌, ◌<◌, List, [], ◌∷◌, length, true, false, refl, sym, ap, ◌∙◌, subst, inl, inr, arith}
use Rattle.std.specs.Prelude.{slice_index}
use Rattle.std.proofs.lemmas.Bool.{cases_Bool}
use Rattle.rx_seq.specs.declared.kinds.Kind.{Kind}
use Rattle.rx_seq.specs.declared.kinds.Part.{Part}
use Rattle.rx_seq.specs.declared.kinds.Kind.TheVariants.{Cell}
use Rattle.rx_seq.specs.declared.calls.Call.{Call}
use Rattle.rx_seq.specs.declared.replies.Reply.{Reply}
use Rattle.rx_seq.specs.Table.{Effect, answers, effect, fits_by, fits_cell, fits_part}
use Rattle.rx_seq.specs.Quiet.{is_quiet, raised}
use Rattle.rx_seq.specs.States.{IsCell, IsState, IsStateBy}
use Rattle.rx_seq.proofs.Kept.{cell_kept}
use Rattle.rx_shape.specs.declared.homes.Home.{Home}
use Rattle.rx_shape.specs.declared.plans.Taken.{Taken}
use Rattle.rx_shape.specs.Words.{pack, tag_of, low_of}
use Rattle.rx_shape.specs.Places.{times}
use Rattle.rx_shape.specs.Forms.{form_of, live_as, decoded_as, IsFormedAs, IsStockAs, live, decoded, IsFormed, IsStock, IsVersion}
use Rattle.rx_shape.specs.Settled.{Answers}
use Rattle.rx_shape.specs.Asks.{IsPlanned, IsSettled}
use Rattle.rx_shape.proofs.Quiet.{raised_quiet, raised_loud}

module _ (home : Home) (kind : home.part.kind ≡ Cell) where
  pub live_inline : (root : ℕ) (words : List ℕ) → live home root words ≡ []
  unfolding live
  live_inline root words = ap (λ (k : Kind). live_as (form_of k) home root words) kind

  pub decoded_inline : (root : ℕ) (words : List ℕ) → decoded home root words ≡ low_of root ∷ []
  unfolding decoded
  decoded_inline root words = ap (λ (k : Kind). decoded_as (form_of k) home root words) kind

  pub formed_inline : (root : ℕ) (words : List ℕ) → IsFormed home root words
  unfolding IsFormed
  formed_inline root words = subst (λ (k : Kind). IsFormedAs (form_of k) home root words) (sym kind) tt

  -- a seat owns nothing of a cell
  pub stock_inline : IsStock home []
  unfolding IsStock
  stock_inline = subst (λ (k : Kind). IsStockAs (form_of k) home []) (sym kind) refl

  -- each value of 24 bits is a state
  pub state_inline : (root : ℕ) → IsState home.part (low_of root ∷ [])
  state_inline root = subst (λ (k : Kind). IsStateBy k home.part.cap (low_of root ∷ [])) (sym kind) (record { one = refl; value = omega arith })

  -- each root with a value of 24 bits is a version
  pub version_inline : (root : ℕ) (words : List ℕ) → IsVersion home root words
  version_inline root words = record {
    inside = λ p more. absurd (let e = ap (times p) (live_inline root words) in omega arith);
    once = λ p. let e = ap (times p) (live_inline root words) in omega arith;
    formed = formed_inline root words;
    state = subst (λ (state : List ℕ). IsState home.part state) (sym (decoded_inline root words)) (state_inline root);
  }

  pub fits_inline : (call : Call) → fits_cell call ≡ true → fits_part home.part call ≡ true
  fits_inline call fits = subst (λ (k : Kind). fits_by k home.part.cap call ≡ true) (sym kind) fits

  pub answers_inline : (call : Call) (root : ℕ) (taken : List Taken) → Answers home call root taken (effect home.part (low_of root ∷ []) call)
  answers_inline call root taken words has = ap (λ (state : List ℕ). effect home.part state call) (decoded_inline root words)

  module _ (call : Call) (root : ℕ) (own : List ℕ) (low : ℕ) (reply : Reply) (stock : IsStock home own) (answer : effect home.part (low_of root ∷ []) call ≡ answers (low ∷ []) reply) where
    -- a plan of a root that has the value after the call, and the tag by the reply
    planned_as : (new : ℕ) → low_of new ≡ low → tag_of new ≡ tag_of root + raised call reply → (is_quiet call reply ≡ true → new ≡ root) → IsPlanned home call root [] own new [] [] reply
    planned_as new low_is tag_is same =
        let answer_at : (words : List ℕ) → effect home.part (decoded home root words) call ≡ answers (low ∷ []) reply = λ words. ap (λ (state : List ℕ). effect home.part state call) (decoded_inline root words) ∙ answer in
        let reply_at : (words : List ℕ) → reply ≡ (effect home.part (decoded home root words) call).reply = λ words. sym (ap (λ (e : Effect). e.reply) (answer_at words)) in
        record {
          plans = record {
            works = λ words v read apart written. record {
              version = version_inline new words;
              state = decoded_inline new words ∙ ap (λ (n : ℕ). n ∷ []) low_is ∙ sym (ap (λ (e : Effect). e.state) (answer_at words));
              tag = tag_is ∙ ap (λ (r : Reply). tag_of root + raised call r) (reply_at words);
              quiet = λ quiet. (same (subst (λ (r : Reply). is_quiet call r ≡ true) (sym (reply_at words)) quiet), refl);
              places = λ p. ap (λ (ys : List ℕ). times p ys + times p own) (live_inline new words ∙ sym (live_inline root words));
              stock = stock;
            };
          };
          once = tt;
          below = tt;
          says = λ words v read. reply_at words;
          quiet = λ quiet. (same quiet, refl, refl);
        }

    -- the plan of a quiet call, which leaves the value equal
    pub planned_quiet : (new : ℕ) → new ≡ root → is_quiet call reply ≡ true → (effect home.part (low_of root ∷ []) call).state ≡ low_of root ∷ [] → IsPlanned home call root [] own new [] [] reply
    planned_quiet new is quiet stays =
        let value : low_of root ≡ low = ap (λ (state : List ℕ). slice_index state 0) (sym stays ∙ ap (λ (e : Effect). e.state) (answer)) in
        let still = raised_quiet call reply quiet in
        planned_as new (ap low_of is ∙ value) (ap tag_of is ∙ omega arith) (λ _. is)

    pub planned_loud : (new : ℕ) → low < 16777216 → new ≡ pack (tag_of root + 1) low → is_quiet call reply ≡ false → IsPlanned home call root [] own new [] [] reply
    planned_loud new few is loud =
        let more = raised_loud call reply loud in
        planned_as new (ap low_of is ∙ omega arith) (ap tag_of is ∙ omega arith) (λ quiet. cc)

one_list : (xs : List ℕ) → length xs ≡ 1 → xs ≡ slice_index xs 0 ∷ []
one_list [] h = absurd (omega arith)
one_list (x ∷ []) h = refl
one_list (x ∷ y ∷ xs) h = absurd (omega arith)

-- the root settles each call
module _ (home : Home) (kind : home.part.kind ≡ Cell) (call : Call) (fits : fits_cell call ≡ true) (root : ℕ)
    (stays : (part : Part) (state : List ℕ) (call : Call) → IsState part state → fits_part part call ≡ true → is_quiet call (effect part state call).reply ≡ true → (effect part state call).state ≡ state) where
  abbrev after : Effect
  after = effect home.part (low_of root ∷ []) call

  one_number : IsCell after.state
  one_number = cell_kept home.part.cap (low_of root ∷ []) call (record { one = refl; value = omega arith }) fits

  quiet_answer : is_quiet call after.reply ≡ true → after ≡ answers (low_of root ∷ []) after.reply
  quiet_answer quiet = ap (λ (state : List ℕ). answers state after.reply) (stays home.part (low_of root ∷ []) call (state_inline home kind root) (fits_inline home kind call fits) quiet)

  loud_answer : after ≡ answers (slice_index after.state 0 ∷ []) after.reply
  loud_answer = ap (λ (state : List ℕ). answers state after.reply) (one_list after.state one_number.one)

  pub settled_inline : IsSettled home call root []
  settled_inline = record {
    reply = after.reply;
    says = λ words has. sym (ap (λ (e : Effect). e.reply) (answers_inline home kind call root [] words has));
    plan = λ tag own stock ranges once. elim (cases_Bool (is_quiet call after.reply)) [
      | inl quiet ↦ record {
        new = root;
        writes = [];
        pairs = [];
        planned = planned_quiet home kind call root own (low_of root) after.reply stock (quiet_answer quiet) root refl quiet (ap (λ (e : Effect). e.state) (quiet_answer quiet));
      }
      | inr loud ↦ record {
        new = pack (tag_of root + 1) (slice_index after.state 0);
        writes = [];
        pairs = [];
        planned = planned_loud home kind call root own (slice_index after.state 0) after.reply stock loud_answer (pack (tag_of root + 1) (slice_index after.state 0)) (let v = one_number.value in omega arith) refl loud;
      }
    ];
  }
