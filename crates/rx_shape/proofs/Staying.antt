-- Plans of quiet calls, in any form.
use Rattle.std.proofs.Common.{◌≡◌, ◌≢◌, ℕ, ◌+◌, List, [], true, refl, sym, ap, ◌∙◌, arith}
use Rattle.rx_seq.specs.declared.calls.Call.{Call}
use Rattle.rx_seq.specs.declared.calls.Call.TheVariants.{Set}
use Rattle.rx_seq.specs.declared.kinds.Part.{Part}
use Rattle.rx_seq.specs.declared.replies.Reply.{Reply}
use Rattle.rx_seq.specs.Table.{Effect, answers, effect, fits_part}
use Rattle.rx_seq.specs.Quiet.{is_quiet}
use Rattle.rx_seq.specs.States.{IsState}
use Rattle.rx_shape.specs.declared.homes.Home.{Home}
use Rattle.rx_shape.specs.declared.plans.Taken.{Taken}
use Rattle.rx_shape.specs.Words.{tag_of, low_of}
use Rattle.rx_shape.specs.Places.{times}
use Rattle.rx_shape.specs.Forms.{live, decoded, IsStock, IsVersion}
use Rattle.rx_shape.specs.Versions.{HasRead}
use Rattle.rx_shape.specs.Settled.{HasTaken, Stays}
use Rattle.rx_shape.specs.Asks.{IsPlanned, IsSettled}
use Rattle.rx_shape.proofs.Local.{same_form}
use Rattle.rx_shape.proofs.Quiet.{raised_quiet}

-- a plan that leaves the object as it is, of a call that is quiet where there is a version
pub stay_planned : (home : Home) (call : Call) (root : ℕ) (taken : List Taken) (own : List ℕ) (new : ℕ) (reply : Reply) → IsStock home own → new ≡ root → Stays home call root taken reply → ((words : List ℕ) → HasTaken home root taken words → is_quiet call (effect home.part (decoded home root words) call).reply ≡ true) → IsPlanned home call root taken own new [] [] reply
stay_planned home call root taken own new reply stock is stays quiet =
    let at : (words : List ℕ) → IsVersion home root words → HasRead (live home root words) words taken → effect home.part (decoded home root words) call ≡ answers (decoded home root words) reply =
    λ words version read. stays words (record { version = version; read = read }) in
    record {
      plans = record {
        works = λ words version read apart written.
            let same = same_form home root new words (ap low_of is) in
            let none = raised_quiet call (effect home.part (decoded home root words) call).reply (quiet words (record { version = version; read = read })) in record {
              version = same.2 version;
              state = same.1 ∙ sym (ap (λ (e : Effect). e.state) (at words version read));
              tag = ap tag_of is ∙ omega arith;
              quiet = λ _. (is, refl);
              places = λ p. ap (λ (ps : List ℕ). times p ps + times p own) same.0;
              stock = stock;
            };
      };
      once = tt;
      below = tt;
      says = λ words version read. sym (ap (λ (e : Effect). e.reply) (at words version read));
      quiet = λ _. (is, refl, refl);
    }

-- a call that leaves each state equal that has the words taken is settled by them
module _ (home : Home) (call : Call) (root : ℕ) (taken : List Taken) (reply : Reply) (stays : Stays home call root taken reply) where
  pub settled_stay : ((words : List ℕ) → HasTaken home root taken words → is_quiet call (effect home.part (decoded home root words) call).reply ≡ true) → IsSettled home call root taken
  settled_stay quiet = record {
    reply = reply;
    says = λ words has. sym (ap (λ (e : Effect). e.reply) (stays words has));
    plan = λ tag own stock ranges once. record { new = root; writes = []; pairs = []; planned = stay_planned home call root taken own root reply stock refl stays quiet };
  }

  -- it is quiet, if it is no set
  pub quiet_stay : ((part : Part) (state : List ℕ) (call : Call) → IsState part state → fits_part part call ≡ true → (effect part state call).state ≡ state → ((v : ℕ) → call ≢ Set v) → is_quiet call (effect part state call).reply ≡ true)
      → fits_part home.part call ≡ true → ((v : ℕ) → call ≢ Set v) → (words : List ℕ) → HasTaken home root taken words → is_quiet call (effect home.part (decoded home root words) call).reply ≡ true
  quiet_stay only fits no_set words has = only home.part (decoded home root words) call has.version.state fits (ap (λ (e : Effect). e.state) (stays words has)) no_set
