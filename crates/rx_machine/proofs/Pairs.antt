-- Two machines on one bank.
use Rattle.std.proofs.Common.{◌≡◌, ℕ, ◌<◌, true, [], ◌∷◌, refl, sym, ap, ◌∙◌, subst, arith}
use Rattle.rx_seq.specs.declared.kinds.Part.{Part}
use Rattle.rx_seq.specs.declared.calls.Call.{Call}
use Rattle.rx_seq.specs.Table.{fits_part}
use Rattle.rx_shape.specs.Layout.{Layout, home}
use Rattle.rx_port.specs.declared.views.View.{View}
use Rattle.rx_port.specs.Plain.{Whole, view_at, IsSeatOf}
use Rattle.rx_machine.specs.Operations.{Operation, fresh, Follows}
use Rattle.rx_machine.specs.Pairs.{AreTwo}

abbrev pub one_object : Part → ℕ → Layout
one_object part tag = record { parts = part ∷ []; seats = 2; first = tag }

follows_new : (part : Part) (tag : ℕ) (view : View) (call : Call) (machine : Operation) → fits_part part call ≡ true → machine ≡ fresh (home (one_object part tag) 0) 0 call → Follows (one_object part tag) view machine
follows_new part tag view call machine fits is =
    subst (λ x. Follows (one_object part tag) view x) (sym is) (record { exists = omega arith; place_is = refl; fits = fits; under_way = tt })

pub two_on : (l : Layout) (bank : Whole) (part : Part) (tag : ℕ) (a b : Call) (x y : Operation) → l ≡ one_object part tag → bank.layout ≡ l → ((seat : ℕ) → seat < l.seats → IsSeatOf bank seat) → fits_part part a ≡ true → fits_part part b ≡ true
    → x ≡ fresh (home l 0) 0 a → y ≡ fresh (home l 0) 0 b → AreTwo bank x y
two_on l bank part tag a b x y is same ours fits_a fits_b x_is y_is =
    let whole : bank.layout ≡ one_object part tag = same ∙ is in
    let seats : l.seats ≡ 2 = ap (λ z. z.seats) is in
    record {
      seat_0 = ours 0 (omega arith);
      seat_1 = ours 1 (omega arith);
      follows_0 = subst (λ z. Follows z (view_at bank.core 0) x) (sym whole) (follows_new part tag (view_at bank.core 0) a x fits_a (x_is ∙ ap (λ z. fresh (home z 0) 0 a) is));
      follows_1 = subst (λ z. Follows z (view_at bank.core 1) y) (sym whole) (follows_new part tag (view_at bank.core 1) b y fits_b (y_is ∙ ap (λ z. fresh (home z 0) 0 b) is));
    }
