-- A plan for the cell of the worked rows is one that a decide may be asked for.
use Rattle.std.proofs.Common.{◌≡◌, ℕ, ◌<◌, ◌≤◌, List, [], ◌∷◌, length, refl, sym, subst, inl, arith}
use Rattle.std.specs.Prelude.{Some}
use Rattle.rx_seq.specs.declared.kinds.Kind.TheVariants.{Cell}
use Rattle.rx_seq.specs.declared.calls.Call.{Call}
use Rattle.rx_seq.specs.declared.replies.Reply.{Reply}
use Rattle.rx_shape.specs.declared.homes.Home.{Home}
use Rattle.rx_shape.specs.declared.plans.Write.{Write}
use Rattle.rx_shape.specs.declared.plans.Pair.{Pair}
use Rattle.rx_shape.specs.Words.{tag_of}
use Rattle.rx_shape.specs.Layout.{Layout, home}
use Rattle.rx_shape.specs.Asks.{WritesOnce, IsPlanned}
use Rattle.rx_shape.proofs.Local.{stock_many}
use Rattle.rx_port.specs.declared.views.View.{View}
use Rattle.rx_port.specs.Core.{own_of, new_attempt}
use Rattle.rx_port.specs.Events.{OwnsWell, IsReady}
use Rattle.rx_port.specs.Rows.{small, add_one}

none_of : (xs : List ℕ) → length xs ≡ 0 → xs ≡ []
none_of [] e = refl
none_of (x ∷ xs) e = absurd (omega arith)

none_written : (writes : List Write) → WritesOnce 0 [] writes → writes ≡ []
none_written [] h = refl
none_written (w ∷ ws) h = absurd (let b : w.own < 0 = h.0 in omega arith)

ready_small : (v : View) (root new : ℕ) (pairs : List Pair) (writes : List Write) (reply : Reply) → OwnsWell small v → v.attempt ≡ Some (new_attempt 0 add_one root) → tag_of root ≤ 1 → IsPlanned (home small 0) add_one root [] [] new writes pairs reply → IsReady small v 0 root new pairs
ready_small v root new pairs writes reply owns is_open low h =
    let own : own_of v 0 ≡ [] = none_of (own_of v 0) (stock_many (home small 0) (own_of v 0) (owns.owns.stocks 0 (omega arith))) in
    let none : writes ≡ [] = none_written writes h.once in
    record {
      attempt = new_attempt 0 add_one root;
      on = refl;
      root = refl;
      decision = record { is_open = is_open; case = inl (record { room = omega arith; plans = rw (own, ← none) h.plans; below = h.below }) };
    }

pub ready_cell : (l : Layout) (v : View) (here : Home) (call : Call) (root new : ℕ) (own : List ℕ) (writes : List Write) (pairs : List Pair) (reply : Reply) → l ≡ small → OwnsWell l v → v.attempt ≡ Some (new_attempt 0 add_one root) → tag_of root ≤ 1
    → here ≡ record { part = record { kind = Cell; cap = 1 }; first = 0; count = 0 } → call ≡ add_one → own ≡ [] → IsPlanned here call root [] own new writes pairs reply → IsReady l v 0 root new pairs
ready_cell l v here call root new own writes pairs reply e owns is_open low is asked none h =
    let planned : IsPlanned (home small 0) add_one root [] [] new writes pairs reply = subst (λ (x : Home × Call × List ℕ). IsPlanned x.0 x.1 root [] x.2 new writes pairs reply) (λ k. (is k, asked k, none k)) h in
    subst (λ (l : Layout). IsReady l v 0 root new pairs) (sym e) (ready_small v root new pairs writes reply (subst (λ (l : Layout). OwnsWell l v) e owns) is_open low planned)
