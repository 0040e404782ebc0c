-- Which answer a call gives.
use Rattle.std.proofs.Common.{ℕ, ◌≡◌, ◌≤◌, ◌<◌, ◌+◌, inl, inr, Bool, true, false, List, [], ◌++◌, length, drop, Option, Some, None, refl, sym, ap, ◌∙◌, subst, append-nil, true≢false, arith}
use Rattle.std.proofs.Math.Seq.{drop-append_seam}
use Rattle.std.proofs.Math.ListN.{drop_of_length-le}
use Rattle.std.proofs.lemmas.Bool.{cases_lt}
use Rattle.std.proofs.lemmas.List.{length-append}
use Rattle.std.specs.Io.KnownBytes.{Consumes, IsAtEnd}
use Rattle.rx_io.specs.declared.status.Status.{Status}
use Rattle.rx_io.specs.Causes.{IsInput}
use Rattle.rx_seq.specs.declared.entries.Entry.{Entry}
use Rattle.rx_top.specs.declared.left.Left.{Left}
use Rattle.rx_top.specs.declared.words.Command.{Command}
use Rattle.rx_top.specs.declared.words.Command.TheVariants.{Ask, Draw}
use Rattle.rx_top.specs.declared.words.Query.TheVariants.{Run, Admit, Lanes}
use Rattle.rx_top.specs.Words.{reads_input, uses_threads}
use Rattle.rx_top.specs.Outcome.{Ends, Answer, Answered, WritesAll, answer, most_input, set_answer}
use Rattle.rx_top.specs.Determined.{SomeOrEach, Determined, Unread}
use Rattle.rx_top.proofs.Endings.{too_large}

-- whatever a command makes of a set
same_when_large : (command : Option Command) (history : List Entry) (a b : List ℕ) → reads_input command ≡ true → most_input < length a → most_input < length b → answer command history a ≡ answer command history b
same_when_large None history a b reads first second = absurd (true≢false (sym reads))
same_when_large (Some (Ask query)) history a b reads first second = too_large (set_answer query history) a first ∙ sym (too_large (set_answer query history) b second)
same_when_large (Some (Draw number)) history a b reads first second = refl

-- what is not read has no part in the answer, and no history has
same_unread : (command : Option Command) (history other : List Entry) (a b : List ℕ) → reads_input command ≡ false → answer command history a ≡ answer command other b
same_unread None history other a b unread = refl
same_unread (Some (Ask query)) history other a b unread = absurd (true≢false unread)
same_unread (Some (Draw number)) history other a b unread = refl

-- nor has one where threads have no part
same_without_threads : (command : Option Command) (history other : List Entry) (input : List ℕ) → uses_threads command ≡ false → answer command history input ≡ answer command other input
same_without_threads None history other input alone = refl
same_without_threads (Some (Ask (Run ticks))) history other input alone = refl
same_without_threads (Some (Ask Admit)) history other input alone = refl
same_without_threads (Some (Ask (Lanes workers jobs))) history other input alone = absurd (true≢false alone)
same_without_threads (Some (Draw number)) history other input alone = refl

-- what holds of one history, and what of all
some_or_each : (b : Bool) (P : List Entry → Type 0) → ((history : List Entry) × P history) → ((history other : List Entry) → b ≡ false → P history → P other) → SomeOrEach b P
some_or_each true P found same = found
some_or_each false P found same = λ other. same found.0 other refl found.1

pub some_of : (b : Bool) (P : List Entry → Type 0) → b ≡ true → SomeOrEach b P → (history : List Entry) × P history
some_of true P threads told = told
some_of false P threads told = absurd (true≢false (sym threads))

pub all_of : (b : Bool) (P : List Entry → Type 0) → b ≡ false → SomeOrEach b P → (history : List Entry) → P history
all_of true P alone told = absurd (true≢false alone)
all_of false P alone told = told

-- The answer to what was read is the answer to the whole input, of which all is left that was not read.
record IsWhole (command : Option Command) (history : List Entry) (input given : List ℕ) (new : Option (List ℕ)) : Type 0 where
  same : answer command history given ≡ answer command history input
  rest : new ≡ Some (drop (most_input + 1) input)

-- the end was reached
read_small : (command : Option Command) (history : List Entry) (input given rest : List ℕ) → input ≡ given ++ rest → length given ≤ most_input → rest ≡ [] → IsWhole command history input given (Some rest)
read_small command history input given rest e few end =
    let all : given ≡ input = sym (append-nil given) ∙ ap (λ r. given ++ r) (sym end) ∙ sym e in record {
      same = ap (answer command history) all;
      rest = ap (λ (r : List ℕ). Some r) (end ∙ sym (drop_of_length-le input {i = most_input + 1} (omega (arith, few, ap length all))));
    }

-- it was not
read_large : (command : Option Command) (history : List Entry) (input given rest : List ℕ) → reads_input command ≡ true → input ≡ given ++ rest → length given ≡ most_input + 1 → IsWhole command history input given (Some rest)
read_large command history input given rest reads e full = record {
  same = same_when_large command history given input reads (omega arith) (omega (arith, ap length e, length-append given rest));
  rest = ap (λ (r : List ℕ). Some r) (sym (ap (drop (most_input + 1)) e ∙ ap (λ n. drop n (given ++ rest)) (sym full) ∙ drop-append_seam given rest));
}

read_whole : (command : Option Command) (history : List Entry) (input given : List ℕ) (new : Option (List ℕ)) → reads_input command ≡ true → Consumes (Some input) new given → length given ≤ most_input + 1
    → (length given ≤ most_input → IsAtEnd new) → IsWhole command history input given new
read_whole command history input given None reads taken few end = absurd taken
read_whole command history input given (Some rest) reads taken few end =
    elim (cases_lt most_input (length given)) [
      | inl more ↦ read_large command history input given rest reads taken (omega (arith, more, few))
      | inr fewer ↦ read_small command history input given rest taken fewer (end fewer)
    ]

module _ (command : Option Command) (before after : Ends) (left : Left) (result : Status) (told : Answered command before after left result) where
  -- an answer to what was read is the answer to the whole input
  answered_read : (input : List ℕ) → before.source.left ≡ Some input → reads_input command ≡ true → IsWhole command told.history input told.input after.source.left
  answered_read input known reads =
      let read : IsInput most_input before.source after.source told.input = rw reads at told.read in
      read_whole command told.history input told.input after.source.left reads (subst (λ (left : Option (List ℕ)). Consumes left after.source.left told.input) known read.taken) read.few read.end

  pub determined : Determined command before after left result
  determined input known reads answers =
      let whole = answered_read input known reads in (
        whole.rest,
        some_or_each (uses_threads command) _
            (told.history, subst (λ (a : Answer). WritesAll a before.sink after.sink left result) whole.same told.gives)
            (λ history other alone given. subst (λ (a : Answer). WritesAll a before.sink after.sink left result) (same_without_threads command history other input alone) given),
      )

  -- what is not read stays, and has no part in the answer
  pub unread : Unread command before after left result
  unread history input none answers = (
    rw none at told.read,
    subst (λ (a : Answer). WritesAll a before.sink after.sink left result) (same_unread command told.history history told.input input none) told.gives,
  )
