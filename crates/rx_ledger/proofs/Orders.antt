-- Events in the order of their times.
use Rattle.std.proofs.Common.{ℕ, ◌≡◌, ◌≤◌, ◌<◌, ◌+◌, ◌-◌, ◌*◌, ◌++◌, List, [], ◌∷◌, length, get_or, take, drop, Bool, true, false, cond, if◌then◌else◌, refl, ◌∙◌, sym, ap, arith}
use Rattle.std.specs.Prelude.{count_by, slice_range}
use Rattle.std.proofs.Math.Decide.{dec_le}
use Rattle.std.proofs.lemmas.Bool.{false≢true}
use Rattle.std.proofs.lemmas.Option.{slice_get-get_or}
use Rattle.std.proofs.lemmas.List.{length-take, length-drop, get_or-take, get_or-drop}
use Rattle.std.proofs.lemmas.List.Sums.{sum_by-le, sum_by-take-drop}
use Rattle.std.proofs.lemmas.List.Sorted.{IsNonDecreasingBy-push}
use Rattle.rx_ledger.specs.declared.events.Event.{Event}
use Rattle.rx_ledger.specs.declared.events.Event.TheVariants.{Miss}
use Rattle.rx_ledger.specs.Ledgers.{time_of, InOrder, IsWithin, MayFollow}

pub pushed : (events : List Event) (event : Event) → InOrder events → MayFollow events event → InOrder (events ++ event ∷ [])
pushed events event order may =
    IsNonDecreasingBy-push time_of events event order (λ d some. may (get_or events (length events - 1) d) (slice_get-get_or events (length events - 1) d (omega (arith, some))))

pub pushed_or_not : (events : List Event) (event : Event) (b : Bool) → InOrder events → MayFollow events event → InOrder (if b then events ++ event ∷ [] else events)
pushed_or_not events event true order may = pushed events event order may
pushed_or_not events event false order may = order

-- a list of which no event passes
abbrev counted : (Event → Bool) → Event → ℕ
counted test event = cond (test event) 1 0

none_pass : (test : Event → Bool) (events : List Event) → ((k : ℕ) (d : Event) → k < length events → test (get_or events k d) ≡ false) → count_by test events ≡ 0
none_pass test events none =
    let few : count_by test events ≤ length events * 0 = sum_by-le (counted test) 0 events (λ k d inside. by_test (test (get_or events k d)) (none k d inside)) in
    omega (arith, few)
  where
    by_test : (b : Bool) → b ≡ false → cond b 1 0 ≤ 0
    by_test true e = absurd (false≢true (sym e))
    by_test false e = omega arith

-- a part of the events outside of which none passes
pub counts_between : (test : Event → Bool) (events : List Event) (start end : ℕ) → start ≤ end → end ≤ length events
    → ((k : ℕ) (d : Event) → k < start → test (get_or events k d) ≡ false)
    → ((k : ℕ) (d : Event) → end ≤ k → k < length events → test (get_or events k d) ≡ false)
    → count_by test (slice_range events start end) ≡ count_by test events
counts_between test events start end order inside before after =
    let rest : List Event = drop start events in
    let first : count_by test (take start events) + count_by test rest ≡ count_by test events = sum_by-take-drop (counted test) events start in
    let second : count_by test (take (end - start) rest) + count_by test (drop (end - start) rest) ≡ count_by test rest = sum_by-take-drop (counted test) rest (end - start) in
    omega (arith, first, second, none_pass test (take start events) front, none_pass test (drop (end - start) rest) back)
  where
    front : (k : ℕ) (d : Event) → k < length (take start events) → test (get_or (take start events) k d) ≡ false
    front k d within =
        let below : k < start = omega (arith, within, length-take start events) in
        ap test (get_or-take start events k d below) ∙ before k d below

    back : (k : ℕ) (d : Event) → k < length (drop (end - start) (drop start events)) → test (get_or (drop (end - start) (drop start events)) k d) ≡ false
    back k d within =
        let long = length-drop (end - start) (drop start events) in
        let longer = length-drop start events in
        ap test (get_or-drop (end - start) (drop start events) k d ∙ get_or-drop start events (end - start + k) d)
        ∙ after (start + (end - start + k)) d (omega (arith, order)) (omega (arith, within, long, longer, order))

-- events outside of the times do not pass
pub before_fails : (test : Event → Bool) (a b : ℕ) (event : Event) → IsWithin test a b → time_of event < a → test event ≡ false
before_fails test a b event within early = by_test (test event) refl
  where
    by_test : (t : Bool) → test event ≡ t → test event ≡ false
    by_test true e = absurd (omega (arith, early, (within event e).0))
    by_test false e = e

pub after_fails : (test : Event → Bool) (a b : ℕ) (event : Event) → IsWithin test a b → b ≤ time_of event → test event ≡ false
after_fails test a b event within late = by_test (test event) refl
  where
    by_test : (t : Bool) → test event ≡ t → test event ≡ false
    by_test true e = absurd (omega (arith, late, (within event e).1))
    by_test false e = e

no_event : Event
no_event = Miss 0 (record { task = 0; number = 0 })

-- fewer events are before an earlier time
pub starts_first : (events : List Event) (a b start end : ℕ) → a ≤ b → start ≤ length events
    → ((k : ℕ) (d : Event) → k < start → time_of (get_or events k d) < a)
    → ((k : ℕ) (d : Event) → end ≤ k → k < length events → b ≤ time_of (get_or events k d))
    → start ≤ end
starts_first events a b start end order inside before after = elim (dec_le start end) [
  | yes first ↦ first
  | no late ↦
      let early = before end no_event (omega (arith, late)) in
      let later = after end no_event (omega arith) (omega (arith, late, inside)) in
      absurd (omega (arith, order, early, later))
]
