-- What the words taken tell of a call.
use Rattle.std.specs.Prelude.{ℕ, ◌≡◌, List}
use Rattle.rx_seq.specs.declared.calls.Call.{Call}
use Rattle.rx_seq.specs.declared.replies.Reply.{Reply}
use Rattle.rx_seq.specs.Table.{Effect, answers, effect}
use Rattle.rx_shape.specs.declared.homes.Home.{Home}
use Rattle.rx_shape.specs.declared.plans.Taken.{Taken}
use Rattle.rx_shape.specs.Forms.{live, decoded, IsVersion}
use Rattle.rx_shape.specs.Versions.{HasRead}

-- with these words the root stands for a version that has the words taken
pub record HasTaken (home : Home) (root : ℕ) (taken : List Taken) (words : List ℕ) : Type 0 where
  pub version : IsVersion home root words
  pub read : HasRead (live home root words) words taken

-- whatever version has the words taken, the call makes this of its state, and has this reply
abbrev pub Answers : Home → Call → ℕ → List Taken → Effect → Type 0
Answers home call root taken answer =
    (words : List ℕ) → HasTaken home root taken words → effect home.part (decoded home root words) call ≡ answer

-- whatever version has the words taken, the call leaves its state equal, and has this reply
abbrev pub Stays : Home → Call → ℕ → List Taken → Reply → Type 0
Stays home call root taken reply =
    (words : List ℕ) → HasTaken home root taken words → effect home.part (decoded home root words) call ≡ answers (decoded home root words) reply
