-- One more entry of a history.
use Rattle.std.proofs.Common.{ℕ, ◌≡◌, ◌≢◌, ◌+◌, cond, List, ◌∷◌, refl, arith}
use Rattle.std.proofs.lemmas.Bool.{eq-eqb, ne_eqb}
use Rattle.rx_seq.specs.declared.kinds.Part.{Part}
use Rattle.rx_seq.specs.declared.calls.Call.{Call}
use Rattle.rx_seq.specs.declared.entries.Entry.{Entry}
use Rattle.rx_seq.specs.Table.{effect}
use Rattle.rx_seq.specs.History.{part_at, is_loud, replay, tag_of, calls_of, entry_after}

-- an entry of the object, and one of another
pub replay_own : (parts : List Part) (object : ℕ) (entry : Entry) (before : List Entry) → object ≡ entry.object → replay parts object (entry ∷ before) ≡ (effect (part_at parts object) (replay parts object before) entry.call).state
replay_own parts object entry before same = rw (eq-eqb object entry.object same) refl

pub replay_other : (parts : List Part) (object : ℕ) (entry : Entry) (before : List Entry) → object ≢ entry.object → replay parts object (entry ∷ before) ≡ replay parts object before
replay_other parts object entry before other = rw (ne_eqb object entry.object other) refl

pub tag_of_own : (object : ℕ) (entry : Entry) (before : List Entry) → object ≡ entry.object → tag_of object (entry ∷ before) ≡ tag_of object before + cond (is_loud entry) 1 0
tag_of_own object entry before same = rw (eq-eqb object entry.object same) (omega arith)

pub tag_of_other : (object : ℕ) (entry : Entry) (before : List Entry) → object ≢ entry.object → tag_of object (entry ∷ before) ≡ tag_of object before
tag_of_other object entry before other = rw (ne_eqb object entry.object other) (omega arith)

pub calls_of_own : (caller : ℕ) (entry : Entry) (before : List Entry) → caller ≡ entry.caller → calls_of caller (entry ∷ before) ≡ calls_of caller before + 1
calls_of_own caller entry before same = rw (eq-eqb caller entry.caller same) (omega arith)

pub calls_of_other : (caller : ℕ) (entry : Entry) (before : List Entry) → caller ≢ entry.caller → calls_of caller (entry ∷ before) ≡ calls_of caller before
calls_of_other caller entry before other = rw (ne_eqb caller entry.caller other) (omega arith)

-- what stands in the entry of a call
module _ (parts : List Part) (before : List Entry) (caller object : ℕ) (call : Call) where
  pub entry_after-caller : (entry_after parts before caller object call).caller ≡ caller
  entry_after-caller = refl

  pub entry_after-index : (entry_after parts before caller object call).index ≡ calls_of caller before + 1
  entry_after-index = refl

  pub entry_after-object : (entry_after parts before caller object call).object ≡ object
  entry_after-object = refl

  pub entry_after-call : (entry_after parts before caller object call).call ≡ call
  entry_after-call = refl

  pub entry_after-reply : (entry_after parts before caller object call).reply ≡ (effect (part_at parts object) (replay parts object before) call).reply
  entry_after-reply = refl

  pub entry_after-tag : (entry_after parts before caller object call).tag ≡ tag_of object before + cond (is_loud (entry_after parts before caller object call)) 1 0
  entry_after-tag = refl

  -- and what the history with it says
  pub replay-entry_after : replay parts object (entry_after parts before caller object call ∷ before) ≡ (effect (part_at parts object) (replay parts object before) call).state
  replay-entry_after = replay_own parts object (entry_after parts before caller object call) before refl

  pub tag_of-entry_after : tag_of object (entry_after parts before caller object call ∷ before) ≡ (entry_after parts before caller object call).tag
  tag_of-entry_after = tag_of_own object (entry_after parts before caller object call) before refl

  pub calls_of-entry_after : calls_of caller (entry_after parts before caller object call ∷ before) ≡ (entry_after parts before caller object call).index
  calls_of-entry_after = calls_of_own caller (entry_after parts before caller object call) before refl
