-- Plans of a block.
use Rattle.std.proofs.Common.{◌≡◌, ◌≢◌, ℕ, zero, suc, ◌+◌, ◌<◌, ◌≤◌, List, [], ◌∷◌, ◌++◌, length, set, take, false, refl, sym, ap, ◌∙◌, subst, arith}
use Rattle.std.specs.Prelude.{slice_index}
use Rattle.rx_seq.specs.declared.calls.Call.{Call}
use Rattle.rx_seq.specs.declared.replies.Reply.{Reply}
use Rattle.rx_seq.specs.Table.{Effect, answers, effect}
use Rattle.rx_seq.specs.Quiet.{is_quiet, raised}
use Rattle.rx_seq.specs.States.{IsState}
use Rattle.rx_shape.specs.declared.homes.Home.{Home}
use Rattle.rx_shape.specs.declared.plans.Taken.{Taken}
use Rattle.rx_shape.specs.declared.plans.Write.{Write}
use Rattle.rx_shape.specs.declared.plans.Pair.{Pair}
use Rattle.rx_shape.specs.Words.{pack, tag_of, low_of}
use Rattle.rx_shape.specs.Places.{times, run, read_run}
use Rattle.rx_shape.specs.Forms.{block, form_of, stock_size, InRange, live, decoded, IsStock, IsVersion}
use Rattle.rx_shape.specs.Versions.{HasRead, HasWritten, NotWritten, traded}
use Rattle.rx_shape.specs.Settled.{Answers}
use Rattle.rx_shape.specs.Asks.{WritesOnce, EachBelow, IsPlanned}
use Rattle.rx_shape.specs.Moves.{number_writes, block_writes, block_pairs}
use Rattle.rx_shape.proofs.Times.{times_at, length-run, run_once}
use Rattle.rx_shape.proofs.BlockForm.{live_block, decoded_block, block_is_formed, block_is_stock, stock_block, size_block}
use Rattle.rx_shape.proofs.Quiet.{raised_loud}

-- what is written
pub writes_more : (own : ℕ) (numbers : List ℕ) (n : ℕ) → n < length numbers → number_writes own (take (n + 1) numbers) ≡ number_writes own (take n numbers) ++ record { own = own + n; value = slice_index numbers n } ∷ []
writes_more own [] n below = absurd (omega arith)
writes_more own (number ∷ numbers) zero below = ap (λ (k : ℕ). record { own = k; value = number } ∷ []) (let e : own ≡ own + 0 = omega arith in e)
writes_more own (number ∷ numbers) (suc n) below =
    ap (λ (k : ℕ). number_writes own (take k (number ∷ numbers))) (let e : suc n + 1 ≡ suc (n + 1) = omega arith in e)
    ∙ ap (λ (ws : List Write). record { own = own; value = number } ∷ ws) (writes_more (own + 1) numbers n (omega arith))
    ∙ ap (λ (k : ℕ). record { own = own; value = number } ∷ number_writes (own + 1) (take n numbers) ++ record { own = k; value = slice_index numbers n } ∷ []) (let e : own + 1 + n ≡ own + suc n = omega arith in e)

pub length-writes : (own : ℕ) (numbers : List ℕ) → length (number_writes own numbers) ≡ length numbers
length-writes own [] = refl
length-writes own (number ∷ numbers) = ap suc (length-writes (own + 1) numbers)

not_more : (own : ℕ) (writes : List Write) (write : Write) → NotWritten own writes → write.own ≢ own → NotWritten own (writes ++ write ∷ [])
not_more own [] write none other = (other, tt)
not_more own (first ∷ writes) write none other = (none.0, not_more own writes write none.1 other)

once_from : (count own : ℕ) (done : List Write) (numbers : List ℕ) → own + length numbers ≤ count → ((later : ℕ) → own ≤ later → NotWritten later done) → WritesOnce count done (number_writes own numbers)
once_from count own done [] few none = tt
once_from count own done (number ∷ numbers) few none = (
  omega arith,
  none own (omega arith),
  once_from count (own + 1) (done ++ record { own = own; value = number } ∷ []) numbers (omega arith) (λ later from. not_more later done (record { own = own; value = number }) (none later (omega arith)) (λ e. omega arith)),
)

pub writes_once : (count : ℕ) (state : List ℕ) → length state < count → WritesOnce count [] (block_writes state)
writes_once count state few = (omega arith, tt, once_from count 1 (record { own = 0; value = length state } ∷ []) state (omega arith) (λ later from. ((λ e. omega arith), tt)))

written_run : (memory own : List ℕ) (base first : ℕ) (numbers : List ℕ) → ((n : ℕ) → n < length own → slice_index own n ≡ base + n) → HasWritten memory own (number_writes first numbers) → read_run memory (base + first) (length numbers) ≡ numbers
written_run memory own base first [] at written = refl
written_run memory own base first (number ∷ numbers) at written =
    let here : slice_index memory (base + first) ≡ number = ap (slice_index memory) (sym (at first written.0)) ∙ written.1 in
    let e : base + first + 1 ≡ base + (first + 1) = omega arith in
    let rest : read_run memory (base + first + 1) (length numbers) ≡ numbers = ap (λ (p : ℕ). read_run memory p (length numbers)) e ∙ written_run memory own base (first + 1) numbers at written.2 in
    ap (λ (n : ℕ). n ∷ read_run memory (base + first + 1) (length numbers)) here ∙ ap (λ (ns : List ℕ). number ∷ ns) rest

-- what is traded
pub pairs_more : (own place count : ℕ) → block_pairs own place (count + 1) ≡ block_pairs own place count ++ record { own = own + count; place = place + count } ∷ []
pairs_more own place zero = ap (λ (p : Pair). p ∷ []) (let e : own ≡ own + 0 = omega arith in let f : place ≡ place + 0 = omega arith in ap (λ (k : ℕ). record { own = k; place = place }) e ∙ ap (λ (k : ℕ). record { own = own + 0; place = k }) f)
pairs_more own place (suc count) =
    ap (block_pairs own place) (let e : suc count + 1 ≡ suc (count + 1) = omega arith in e)
    ∙ ap (λ (ps : List Pair). record { own = own; place = place } ∷ ps) (pairs_more (own + 1) (place + 1) count)
    ∙ ap (λ (k : ℕ). record { own = own; place = place } ∷ block_pairs (own + 1) (place + 1) count ++ record { own = k; place = place + 1 + count } ∷ []) (let e : own + 1 + count ≡ own + suc count = omega arith in e)
    ∙ ap (λ (k : ℕ). record { own = own; place = place } ∷ block_pairs (own + 1) (place + 1) count ++ record { own = own + suc count; place = k } ∷ []) (let e : place + 1 + count ≡ place + suc count = omega arith in e)

pub length-pairs : (own place count : ℕ) → length (block_pairs own place count) ≡ count
length-pairs own place zero = refl
length-pairs own place (suc count) = ap suc (length-pairs (own + 1) (place + 1) count)

pub pairs_below : (most own place count : ℕ) → own + count ≤ most → EachBelow most (block_pairs own place count)
pairs_below most own place zero few = tt
pairs_below most own place (suc count) few = (omega arith, pairs_below most (own + 1) (place + 1) count (omega arith))

set_here : (done rest : List ℕ) (old new : ℕ) → set (done ++ old ∷ rest) (length done) new ≡ done ++ new ∷ rest
set_here [] rest old new = refl
set_here (x ∷ done) rest old new = ap (λ (xs : List ℕ). x ∷ xs) (set_here done rest old new)

one_more : (done rest : List ℕ) (x : ℕ) → done ++ x ∷ rest ≡ (done ++ x ∷ []) ++ rest
one_more [] rest x = refl
one_more (y ∷ done) rest x = ap (λ (xs : List ℕ). y ∷ xs) (one_more done rest x)

length_more : (done : List ℕ) (x : ℕ) → length done + 1 ≡ length (done ++ x ∷ [])
length_more [] x = refl
length_more (y ∷ done) x = let e : suc (length done) + 1 ≡ suc (length done + 1) = omega arith in e ∙ ap suc (length_more done x)

traded_from : (done rest : List ℕ) (place : ℕ) → traded (done ++ rest) (block_pairs (length done) place (length rest)) ≡ done ++ run place (length rest)
traded_from done [] place = refl
traded_from done (x ∷ rest) place =
    ap (λ (xs : List ℕ). traded xs (block_pairs (length done + 1) (place + 1) (length rest))) (set_here done rest x place ∙ one_more done rest place)
    ∙ ap (λ (k : ℕ). traded ((done ++ place ∷ []) ++ rest) (block_pairs k (place + 1) (length rest))) (length_more done place)
    ∙ traded_from (done ++ place ∷ []) rest (place + 1)
    ∙ sym (one_more done (run (place + 1) (length rest)) place)

pub traded_block : (own : List ℕ) (place : ℕ) → traded own (block_pairs 0 place (length own)) ≡ run place (length own)
traded_block own place = traded_from [] own place

run_index : (first count n : ℕ) → n < count → slice_index (run first count) n ≡ first + n
run_index first zero n below = absurd (omega arith)
run_index first (suc count) zero below = omega arith
run_index first (suc count) (suc n) below = let r = run_index (first + 1) count n (omega arith) in omega arith

module _ (home : Home) (form : form_of home.part.kind ≡ block) (own : List ℕ) (stock : IsStock home own) (ranges : (place : ℕ) → 0 < times place own → InRange home place) where
  pub own_run : own ≡ run (slice_index own 0) (suc home.part.cap)
  own_run = stock_block home form own stock

  pub own_many : length own ≡ suc home.part.cap
  own_many = ap length own_run ∙ length-run (slice_index own 0) (suc home.part.cap)

  -- the first own place
  pub own_first : home.first + home.count ≤ 16777216 → slice_index own 0 < 16777216
  own_first few = let many = own_many in let range = (ranges (slice_index own 0) (times_at own 0 (omega arith))).below in omega arith

  own_at : (n : ℕ) → n < length own → slice_index own n ≡ slice_index own 0 + n
  own_at n below = let many = own_many in ap (λ (ps : List ℕ). slice_index ps n) own_run ∙ run_index (slice_index own 0) (suc home.part.cap) n (omega arith)

  -- the own block with the state is a version
  module _ (new : ℕ) (low : low_of new ≡ slice_index own 0) (state memory : List ℕ) (few : length state ≤ home.part.cap) (written : HasWritten memory own (block_writes state)) where
    live_new : live home new memory ≡ own
    live_new = live_block home form new memory ∙ ap (λ (p : ℕ). run p (suc home.part.cap)) low ∙ sym own_run

    length_new : slice_index memory (low_of new) ≡ length state
    length_new = ap (slice_index memory) low ∙ written.1

    decoded_new : decoded home new memory ≡ state
    decoded_new =
        decoded_block home form new memory
        ∙ ap (λ (p : ℕ). read_run memory (p + 1) (slice_index memory p)) low
        ∙ ap (λ (n : ℕ). read_run memory (slice_index own 0 + 1) n) written.1
        ∙ written_run memory own (slice_index own 0) 1 state own_at written.2

    version_new : IsState home.part state → IsVersion home new memory
    version_new is = record {
      inside = λ p more. ranges p (subst (λ (ps : List ℕ). 0 < times p ps) live_new more);
      once = λ p. let once = run_once p (slice_index own 0) (suc home.part.cap) in let same = ap (times p) (live_new ∙ own_run) in omega arith;
      formed = block_is_formed home form new memory (let e = length_new in omega arith);
      state = subst (λ (numbers : List ℕ). IsState home.part numbers) (sym decoded_new) is;
    }

  -- a plan that moves the state into the own block
  pub move_planned : (call : Call) (root : ℕ) (taken : List Taken) (new : ℕ) (state : List ℕ) (reply : Reply) → home.first + home.count ≤ 16777216 → length state ≤ home.part.cap → IsState home.part state → new ≡ pack (tag_of root + 1) (slice_index own 0) → Answers home call root taken (answers state reply) → is_quiet call reply ≡ false → IsPlanned home call root taken own new (block_writes state) (block_pairs 0 (low_of root) (length own)) reply
  move_planned call root taken new state reply places few is root_is answer loud =
      let base = own_first places in
      let low : low_of new ≡ slice_index own 0 = ap low_of root_is ∙ omega arith in
      let size = size_block home form in
      let many = own_many in
      let swapped : traded own (block_pairs 0 (low_of root) (length own)) ≡ run (low_of root) (suc home.part.cap) = traded_block own (low_of root) ∙ ap (run (low_of root)) many in
      let at : (words : List ℕ) → IsVersion home root words → HasRead (live home root words) words taken → effect home.part (decoded home root words) call ≡ answers state reply =
      λ words version read. answer words (record { version = version; read = read }) in
      let reply_at : (words : List ℕ) → IsVersion home root words → HasRead (live home root words) words taken → reply ≡ (effect home.part (decoded home root words) call).reply =
      λ words version read. sym (ap (λ (e : Effect). e.reply) (at words version read)) in
      let more = raised_loud call reply loud in
      let tag : tag_of new ≡ tag_of root + raised call reply = ap tag_of root_is ∙ omega arith in
      record {
        plans = record {
          works = λ words version read apart written. record {
            version = version_new new low state words few written is;
            state = decoded_new new low state words few written ∙ sym (ap (λ (e : Effect). e.state) (at words version read));
            tag = tag ∙ ap (λ (r : Reply). tag_of root + raised call r) (reply_at words version read);
            quiet = λ quiet. let same = ap (is_quiet call) (reply_at words version read) in cc;
            places = λ p.
                let a = ap (times p) (live_new new low state words few written) in
                let b = ap (times p) (swapped ∙ sym (live_block home form root words)) in omega arith;
            stock = subst (λ (ps : List ℕ). IsStock home ps) (sym swapped) (block_is_stock home form (low_of root));
          };
        };
        once = writes_once (stock_size home.part) state (omega arith);
        below = pairs_below (stock_size home.part) 0 (low_of root) (length own) (omega arith);
        says = reply_at;
        quiet = λ quiet. cc;
      }

length-take_few : (n : ℕ) (numbers : List ℕ) → length (take n numbers) ≤ n
length-take_few zero numbers = omega arith
length-take_few (suc n) [] = omega arith
length-take_few (suc n) (number ∷ numbers) = let r = length-take_few n numbers in omega arith

-- one more number is written
pub writes_few : (n : ℕ) (numbers : List ℕ) → length (number_writes 1 (take n numbers)) ≤ n
writes_few n numbers = let many = length-writes 1 (take n numbers) in let some = length-take_few n numbers in omega arith

pub writes_grow : (numbers : List ℕ) (n value : ℕ) (writes now : List Write) → n < length numbers → value ≡ slice_index numbers n → writes ≡ record { own = 0; value = length numbers } ∷ number_writes 1 (take n numbers)
    → now ≡ writes ++ record { own = n + 1; value = value } ∷ [] → now ≡ record { own = 0; value = length numbers } ∷ number_writes 1 (take (n + 1) numbers)
writes_grow numbers n value writes now below is so_far new =
    let e : n + 1 ≡ 1 + n = omega arith in
    new ∙ ap (λ (ws : List Write). ws ++ record { own = n + 1; value = value } ∷ []) so_far
    ∙ ap (λ (v : ℕ). record { own = 0; value = length numbers } ∷ number_writes 1 (take n numbers) ++ record { own = n + 1; value = v } ∷ []) is
    ∙ ap (λ (k : ℕ). record { own = 0; value = length numbers } ∷ number_writes 1 (take n numbers) ++ record { own = k; value = slice_index numbers n } ∷ []) e
    ∙ sym (ap (λ (ws : List Write). record { own = 0; value = length numbers } ∷ ws) (writes_more 1 numbers n below))

-- the own block has room, and can be named by a root
pub own_fits : (home : Home) (form : form_of home.part.kind ≡ block) (own : List ℕ) → IsStock home own → ((place : ℕ) → 0 < times place own → InRange home place) → home.part.cap ≤ 64 → home.first + home.count ≤ 16777216 → (0 < length own) × (length own ≤ 65) × (slice_index own 0 < 16777216)
own_fits home form own stock ranges few places = let many = own_many home form own stock ranges in (omega arith, omega arith, own_first home form own stock ranges places)
