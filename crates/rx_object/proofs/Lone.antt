-- The only seat of a table.
use Rattle.std.proofs.Common.{◌≡◌, ℕ, zero, suc, [], sym, ap, ◌∙◌, arith}
use Rattle.rx_seq.specs.declared.calls.Call.{Call}
use Rattle.rx_seq.specs.declared.replies.Reply.{Reply}
use Rattle.rx_seq.specs.History.{tag_of as count_loud}
use Rattle.rx_seq.specs.Legal.{entries_of}
use Rattle.rx_shape.specs.Layout.{Layout}
use Rattle.rx_port.specs.declared.views.View.{View}
use Rattle.rx_object.specs.Calls.{HasSeenMore, IsDone, IsLost, IsSpent}
use Rattle.rx_object.proofs.Entries.{none_of_any}

-- no entry of any seat came in between, so no attempt was lost
none_lost : (l : Layout) (before now : View) (object lost : ℕ) → l.seats ≡ 1 → before.number ≡ 0 → HasSeenMore l before now object lost → lost ≡ 0
none_lost l before now object lost one first h =
    let none = ap (count_loud object) (none_of_any h.between of_caller) in
    let many = h.many in omega arith
  where
    of_caller : (caller : ℕ) → entries_of caller h.between ≡ []
    of_caller zero = ap (λ (n : ℕ). entries_of n h.between) (sym first) ∙ h.others
    of_caller (suc n) = h.seated (suc n) (omega arith)

pub lone_done : (l : Layout) (before now : View) (object : ℕ) (call : Call) (reply : Reply) (tag lost : ℕ) → l.seats ≡ 1 → before.number ≡ 0 → IsDone l before now object call reply tag lost → lost ≡ 0
lone_done l before now object call reply tag lost one first h = none_lost l before now object lost one first h.more

pub lone_lost : (l : Layout) (before now : View) (object expected found : ℕ) → l.seats ≡ 1 → before.number ≡ 0 → IsLost l before now object expected found → ⊥
lone_lost l before now object expected found one first h = let none = none_lost l before now object 1 one first h.waited.more in omega arith

pub lone_spent : (l : Layout) (before now : View) (object : ℕ) (call : Call) (tag lost : ℕ) → l.seats ≡ 1 → before.number ≡ 0 → IsSpent l before now object call tag lost → lost ≡ 0
lone_spent l before now object call tag lost one first h = none_lost l before now object lost one first h.more
