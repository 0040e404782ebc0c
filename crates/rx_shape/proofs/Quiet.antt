-- Quiet and loud calls, and the tags that they raise.
use Rattle.std.proofs.Common.{◌≡◌, ◌≢◌, ℕ, Bool, true, false, not, cond, refl, ap}
use Rattle.rx_seq.specs.declared.kinds.Kind.{Kind}
use Rattle.rx_seq.specs.declared.kinds.Kind.TheVariants.{Cell, Queue, Registers, List as Ordered}
use Rattle.rx_seq.specs.declared.calls.Call.{Call}
use Rattle.rx_seq.specs.declared.calls.Call.TheVariants.{Set}
use Rattle.rx_seq.specs.declared.replies.Reply.{Reply}
use Rattle.rx_seq.specs.Table.{fits_by}
use Rattle.rx_seq.specs.Quiet.{is_quiet, raised}

pub raised_quiet : (call : Call) (reply : Reply) → is_quiet call reply ≡ true → raised call reply ≡ 0
raised_quiet call reply quiet = ap (λ (b : Bool). cond (not b) 1 0) quiet

pub raised_loud : (call : Call) (reply : Reply) → is_quiet call reply ≡ false → raised call reply ≡ 1
raised_loud call reply loud = ap (λ (b : Bool). cond (not b) 1 0) loud

-- a set of one value is a call of a cell alone
pub no_set : (kind : Kind) (cap : ℕ) (call : Call) → (kind ≡ Cell → ⊥) → fits_by kind cap call ≡ true → (v : ℕ) → call ≢ Set v
no_set Cell cap call other fits v is = absurd (other refl)
no_set Queue cap call other fits v is = let e = ap (fits_by Queue cap) is in cc
no_set Ordered cap call other fits v is = let e = ap (fits_by Ordered cap) is in cc
no_set Registers cap call other fits v is = let e = ap (fits_by Registers cap) is in cc
