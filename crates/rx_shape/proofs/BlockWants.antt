-- What the words taken of a block say of its versions.
use Rattle.std.proofs.Common.{◌≡◌, ℕ, zero, suc, ◌+◌, ◌<◌, ◌≤◌, Bool, true, false, cond, ltb, List, [], ◌∷◌, ◌++◌, length, get_or, refl, sym, ap, ◌∙◌, subst, arith}
use Rattle.std.specs.Prelude.{slice_index}
use Rattle.std.proofs.lemmas.Grind.{same_number_lists, get_or_default_zero}
use mathlib.Core.Logic.{dite}
use native.Mathlib.Decide.{ℕ_discrete}
use Rattle.rx_seq.specs.declared.kinds.Part.{Part}
use Rattle.rx_seq.specs.declared.calls.Call.{Call}
use Rattle.rx_seq.specs.declared.replies.Reply.{Reply}
use Rattle.rx_seq.specs.Table.{answers, effect, most_value}
use Rattle.rx_seq.specs.States.{IsState}
use Rattle.rx_shape.specs.declared.homes.Home.{Home}
use Rattle.rx_shape.specs.declared.plans.Taken.{Taken}
use Rattle.rx_shape.specs.declared.plans.Want.TheVariants.{Read, Ready, Stale}
use Rattle.rx_shape.specs.declared.steps.Step.{Step}
use Rattle.rx_shape.specs.declared.steps.Step.TheVariants.{Open, Broken, Kept, Whole}
use Rattle.rx_shape.specs.Words.{low_of}
use Rattle.rx_shape.specs.Places.{times, read_run}
use Rattle.rx_shape.specs.Forms.{block, form_of, live, decoded, IsVersion, IsBlock}
use Rattle.rx_shape.specs.Versions.{HasRead, IsStale}
use Rattle.rx_shape.specs.Settled.{Answers, Stays}
use Rattle.rx_shape.specs.Walks.{Begins, HaveNone, IsKept, IsOpen, IsWhole, IsStep, numbers_of, at_run, want_as, next_want}
use Rattle.rx_shape.proofs.Times.{times_run, length-read_run}
use Rattle.rx_shape.proofs.BlockForm.{live_block, decoded_block, formed_block, run_at}
use Rattle.rx_shape.proofs.Walked.{state_by}

pub length-at_run : (place : ℕ) (words : List ℕ) → length (at_run place words) ≡ length words
length-at_run place [] = refl
length-at_run place (word ∷ words) = ap suc (length-at_run (place + 1) words)

-- one more word
pub at_more : (place : ℕ) (words : List ℕ) (word : ℕ) → at_run place (words ++ word ∷ []) ≡ at_run place words ++ record { place = place + length words; word = word } ∷ []
at_more place [] word = ap (λ (p : ℕ). record { place = p; word = word } ∷ []) (let e : place ≡ place + 0 = omega arith in e)
at_more place (other ∷ words) word =
    ap (λ (xs : List Taken). record { place = place; word = other } ∷ xs) (at_more (place + 1) words word)
    ∙ ap (λ (p : ℕ). record { place = place; word = other } ∷ at_run (place + 1) words ++ record { place = p; word = word } ∷ []) (let e : place + 1 + length words ≡ place + suc (length words) = omega arith in e)

read_at : (places memory : List ℕ) (place : ℕ) (words : List ℕ) → HasRead places memory (at_run place words) → (n : ℕ) → n < length words → 0 < times (place + n) places → slice_index memory (place + n) ≡ slice_index words n
read_at places memory place [] read n below at = absurd (omega arith)
read_at places memory place (word ∷ words) read zero below at =
    let e : place + 0 ≡ place = omega arith in
    ap (slice_index memory) e ∙ read.0 (subst (λ (p : ℕ). 0 < times p places) e at)
read_at places memory place (word ∷ words) read (suc n) below at =
    let e : place + suc n ≡ place + 1 + n = omega arith in
    ap (slice_index memory) e ∙ read_at places memory (place + 1) words read.1 n (omega arith) (subst (λ (p : ℕ). 0 < times p places) e at)

module _ (home : Home) (form : form_of home.part.kind ≡ block) (root : ℕ) (words : List ℕ) where
  -- the words taken begin the block of each version that has them
  pub begins : (memory : List ℕ) → IsVersion home root memory → HasRead (live home root memory) memory (at_run (low_of root) words) → Begins words (decoded home root memory)
  begins memory version read =
      let low : ℕ = low_of root in
      let few : slice_index memory low ≤ home.part.cap = formed_block home form root memory version.formed in
      let is : decoded home root memory ≡ read_run memory (low + 1) (slice_index memory low) = decoded_block home form root memory in
      let many : length (decoded home root memory) ≡ slice_index memory low = ap length is ∙ length-read_run memory (low + 1) (slice_index memory low) in
      let at : (n : ℕ) → n ≤ home.part.cap → 0 < times (low + n) (live home root memory) = λ n below. subst (λ (ps : List ℕ). 0 < times (low + n) ps) (sym (live_block home form root memory)) (times_run low (suc home.part.cap) (low + n) (omega arith) (omega arith)) in
      record {
        first = λ some.
            let e : low ≡ low + 0 = omega arith in
            sym (many ∙ ap (slice_index memory) e ∙ read_at (live home root memory) memory low words read 0 some (at 0 (omega arith)));
        numbers = λ n below there.
            let e : low + 1 + n ≡ low + suc n = omega arith in
            sym (ap (λ (xs : List ℕ). get_or xs n 0) is ∙ run_at memory (low + 1) (slice_index memory low) n 0 (omega arith) ∙ ap (slice_index memory) e
            ∙ read_at (live home root memory) memory low words read (suc n) below (at (suc n) (omega arith)));
      }

  pub stale_none : HaveNone home.part words → IsStale home root (at_run (low_of root) words)
  stale_none none memory version read = none (decoded home root memory) version.state (begins memory version read)

  -- a block that does not fit the object's places
  pub stale_far : home.first + home.count ≤ low_of root + home.part.cap → IsStale home root (at_run (low_of root) words)
  stale_far far memory version read =
      let last : ℕ = low_of root + home.part.cap in
      let at : 0 < times last (live home root memory) = subst (λ (ps : List ℕ). 0 < times last ps) (sym (live_block home form root memory)) (times_run (low_of root) (suc home.part.cap) last (omega arith) (omega arith)) in
      let below = (version.inside last at).below in absurd (omega arith)

  pub stays_kept : (call : Call) (reply : Reply) → IsKept home.part call words reply → Stays home call root (at_run (low_of root) words) reply
  stays_kept call reply kept memory has = kept (decoded home root memory) has.version.state (begins memory has.version has.read)

-- the numbers of words that are read whole
pub number_at : (words : List ℕ) (count n : ℕ) → n < count → slice_index (read_run words 1 count) n ≡ slice_index words (suc n)
number_at words count n below = run_at words 1 count n 0 below ∙ ap (slice_index words) (let e : 1 + n ≡ suc n = omega arith in e)

-- the state of words that are read whole
pub whole_is : (part : Part) (words state : List ℕ) → IsWhole part words → Begins words state → state ≡ numbers_of words
whole_is part words state whole begins =
    let all = whole.all in
    let first : slice_index words 0 ≡ length state = begins.first (omega arith) in
    let many : length (numbers_of words) ≡ slice_index words 0 = length-read_run words 1 (slice_index words 0) in
    same_number_lists state (numbers_of words) (omega arith)
    (λ n below. sym (begins.numbers n (omega arith) below) ∙ sym (number_at words (slice_index words 0) n (omega arith)))

pub settled_whole : (home : Home) (form : form_of home.part.kind ≡ block) (root : ℕ) (words : List ℕ) (call : Call) → IsWhole home.part words → Answers home call root (at_run (low_of root) words) (effect home.part (numbers_of words) call)
settled_whole home form root words call whole memory has =
    ap (λ (state : List ℕ). effect home.part state call) (whole_is home.part words (decoded home root memory) whole (begins home form root words memory has.version has.read))

pub state_whole : (part : Part) (form : form_of part.kind ≡ block) (words : List ℕ) → IsWhole part words → IsState part (numbers_of words)
state_whole part form words whole =
    let all = whole.all in
    let count : ℕ = slice_index words 0 in
    let some : 0 < length words = omega arith in
    let many : length (numbers_of words) ≡ count = length-read_run words 1 count in
    let all_is : count ≡ part.cap = whole.lined.all some in
    let at : (n : ℕ) → n < count → slice_index (numbers_of words) n ≡ slice_index words (suc n) = λ n below. number_at words count n below in
    state_by part.kind part.cap (numbers_of words) form (record {
      all = omega arith;
      values = λ n d below.
          let same = get_or_default_zero (numbers_of words) n d below in
          let value = whole.lined.values n (omega arith) in
          let here = at n (omega arith) in omega arith;
    })

-- words that are read whole are a block at the first of them
pub block_whole : (part : Part) (words : List ℕ) → part.cap ≤ 64 → IsWhole part words → IsBlock words 0
block_whole part words few whole =
    let all = whole.all in
    let most = whole.lined.all (omega arith) in
    record { few = omega arith; inside = omega arith; values = λ n below. let e : 0 + 1 + n ≡ suc n = omega arith in subst (λ (i : ℕ). slice_index words i ≤ most_value) (sym e) (whole.lined.values n (omega arith)) }

-- what a step wants
next_as : (step : Step) (test : Bool) (here place : ℕ) → cond test (want_as step here) Stale ≡ Read place → place ≡ here
next_as Open true here place is = cc
next_as Broken true here place is = cc
next_as (Kept reply) true here place is = cc
next_as Whole true here place is = cc
next_as step false here place is = cc

pub next_place : (home : Home) (step : Step) (low count place : ℕ) → next_want home step low count ≡ Read place → place ≡ low + count
next_place home step low count place is = next_as step (ltb (low + home.part.cap) (home.first + home.count)) (low + count) place is

ready_as : (step : Step) (test : Bool) (here : ℕ) → cond test (want_as step here) Stale ≡ Ready → want_as step here ≡ Ready
ready_as step true here is = is
ready_as step false here is = cc

whole_as : (part : Part) (call : Call) (words : List ℕ) (step : Step) (here : ℕ) → IsStep part call words step → want_as step here ≡ Ready → ((reply : Reply) → step ≡ Kept reply → ⊥) → IsWhole part words
whole_as part call words Open here says ready other = cc
whole_as part call words Broken here says ready other = cc
whole_as part call words (Kept reply) here says ready other = absurd (other reply refl)
whole_as part call words Whole here says ready other = says.whole refl

-- a walk that is ready, and whose state does not stay for sure, has read all words
pub whole_ready : (home : Home) (call : Call) (words : List ℕ) (step : Step) (low count : ℕ) → IsStep home.part call words step → next_want home step low count ≡ Ready → ((reply : Reply) → step ≡ Kept reply → ⊥) → IsWhole home.part words
whole_ready home call words step low count says ready other =
    whole_as home.part call words step (low + count) says (ready_as step (ltb (low + home.part.cap) (home.first + home.count)) (low + count) ready) other

-- one more word is taken
pub took : (home : Home) (step : Step) (low place word : ℕ) (words now : List ℕ) → now ≡ words ++ word ∷ [] → next_want home step low (length words) ≡ Read place → at_run low now ≡ at_run low words ++ record { place = place; word = word } ∷ []
took home step low place word words now is next =
    ap (at_run low) is ∙ at_more low words word ∙ ap (λ (p : ℕ). at_run low words ++ record { place = p; word = word } ∷ []) (sym (next_place home step low (length words) place next))

-- an open walk has room for one more word
pub open_few : (part : Part) (words : List ℕ) → IsOpen part words → length words ≤ part.cap
open_few part words is = dite (ℕ_discrete (length words) 0)
    (λ e. omega arith)
    (λ ne. let some : 0 < length words = omega arith in let more = is.more some in let most = is.lined.all some in omega arith)

-- what the call makes of the state of words that are read whole
module _ (home : Home) (form : form_of home.part.kind ≡ block) (root : ℕ) (words : List ℕ) (call : Call) (whole : IsWhole home.part words) (state now : List ℕ) (reply : Reply)
    (is : state ≡ numbers_of words) (makes : now ≡ (effect home.part state call).state) (says : reply ≡ (effect home.part state call).reply) where
  made : effect home.part state call ≡ answers now reply
  made = ap (λ (s : List ℕ). answers s (effect home.part state call).reply) (sym makes) ∙ ap (λ (r : Reply). answers now r) (sym says)

  pub answers_whole : Answers home call root (at_run (low_of root) words) (answers now reply)
  answers_whole memory has = settled_whole home form root words call whole memory has ∙ ap (λ (s : List ℕ). effect home.part s call) (sym is) ∙ made

  pub stays_whole : (effect home.part state call).state ≡ state → Stays home call root (at_run (low_of root) words) reply
  stays_whole same memory has =
      answers_whole memory has ∙ ap (λ (s : List ℕ). answers s reply) (makes ∙ same ∙ is ∙ sym (whole_is home.part words (decoded home root memory) whole (begins home form root words memory has.version has.read)))
