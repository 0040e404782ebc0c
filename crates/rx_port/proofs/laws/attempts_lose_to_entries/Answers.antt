use Rattle.std.proofs.Common.{◌≡◌, ℕ, ap, ◌∙◌, sym, subst}
use Rattle.rx_seq.specs.History.{replay}
use Rattle.rx_shape.specs.Words.{tag_of}
use Rattle.rx_shape.specs.Forms.{decoded, IsVersion}
use Rattle.rx_shape.specs.Layout.{home}
use Rattle.rx_port.proofs.BankMoves.{attempt_at}
use Rattle.rx_port.proofs.laws.attempts_lose_to_entries.Goals as goal

pub returns-clause-tag : goal.returns-clause-tag
returns-clause-tag c layout core history object h there = h.tags object there

pub returns-clause-attempt : goal.returns-clause-attempt
returns-clause-attempt c layout core history seat attempt h is_open = attempt_at layout core history seat attempt h is_open

pub returns-clause-wins : goal.returns-clause-wins
returns-clause-wins c layout core history seat attempt h is_open =
    let a = attempt_at layout core history seat attempt h is_open in ((λ e. ap tag_of e ∙ h.tags attempt.object a.exists), a.same)

pub returns-clause-state : goal.returns-clause-state
returns-clause-state c layout core history seat attempt h is_open e =
    let a = attempt_at layout core history seat attempt h is_open in
    subst (λ (root : ℕ). decoded (home layout attempt.object) root core.words ≡ replay layout.parts attempt.object history) (sym e) (h.states attempt.object a.exists)

pub returns-clause-hopeless : goal.returns-clause-hopeless
returns-clause-hopeless c layout core history seat attempt pairs h is_open none = λ e.
    let a = attempt_at layout core history seat attempt h is_open in
    none.stale core.words (subst (λ (root : ℕ). IsVersion (home layout attempt.object) root core.words) (sym e) (h.versions attempt.object a.exists)) (a.fresh e)
