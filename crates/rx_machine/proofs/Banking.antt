-- A step of a machine on a bank.
use Rattle.std.proofs.Common.{◌≡◌, ℕ, ◌+◌, ◌<◌, ◌⊎◌, inl, inr, ⊎_elim, Bool, true, false, List, length, refl, sym, ap, ◌∙◌, subst, arith}
use Rattle.std.specs.Prelude.{Option, Some, None, option_map, ◌==◌}
use Rattle.std.proofs.lemmas.Bool.{eq-eqb, ne_eqb}
use Rattle.rx_seq.specs.declared.calls.Call.{Call}
use Rattle.rx_seq.specs.declared.entries.Entry.{Entry}
use Rattle.rx_seq.specs.declared.replies.Reply.{Reply}
use Rattle.rx_seq.specs.Quiet.{raised}
use Rattle.rx_seq.specs.History.{part_at, replay, tag_of as count_loud}
use Rattle.rx_seq.specs.Table.{effect}
use Rattle.rx_shape.specs.Words.{tag_of}
use Rattle.rx_shape.specs.Layout.{Layout, root_of}
use Rattle.rx_port.specs.declared.views.Core.{Core}
use Rattle.rx_port.specs.declared.views.Counts.{Counts}
use Rattle.rx_port.specs.Core.{tag_after, entry_for, history_after, one_load, one_store, one_exchange}
use Rattle.rx_port.specs.Lawful.{Lawful}
use Rattle.rx_port.specs.Plain.{Whole, view_at, Moves, IsSeatOf}
use Rattle.rx_port.proofs.BankMoves.{begun_moves, read_moves, wrote_moves, decided_moves}
use Rattle.rx_machine.specs.declared.steps.Step.{Step}
use Rattle.rx_machine.specs.declared.steps.Step.TheVariants.{Going, Idle, Won, Lost, Spent}
use Rattle.rx_machine.specs.Operations.{Operation, Progress, begun, attempt_for, Follows}
use Rattle.rx_machine.specs.Steps.{Loads, Spends, Reads, Writes, Decides, Wins, Loses, Idles}
use Rattle.rx_machine.specs.OnBanks.{bank_stands, bank_view, TellsOf, AmidCounts, Loaded, Stepped}

-- what a history says of an object follows from the words
same_entry : (l : Layout) (core : Core) (object : ℕ) → object < length l.parts → (es fs : List Entry) → Lawful l core.words core.views es → Lawful l core.words core.views fs → (number seat : ℕ) (call : Call) → ((entry_for l es number object call).reply ≡ (entry_for l fs seat object call).reply) × ((entry_for l es number object call).tag ≡ (entry_for l fs seat object call).tag)
same_entry l core object there es fs h k number seat call =
    let state : replay l.parts object es ≡ replay l.parts object fs = sym (h.states object there) ∙ k.states object there in
    let tag : tag_after l es object ≡ tag_after l fs object = sym (h.tags object there) ∙ k.tags object there in
    let reply : (entry_for l es number object call).reply ≡ (entry_for l fs seat object call).reply = ap (λ s. (effect (part_at l.parts object) s call).reply) state in
    let raise : ℕ = raised call (entry_for l fs seat object call).reply in
    let next : l.first + (count_loud object es + raise) ≡ l.first + (count_loud object fs + raise) = omega (arith, tag) in
    (reply, ap (λ (r : Reply). l.first + (count_loud object es + raised call r)) reply ∙ next)

none_amid : (o : Option Progress) (old now : Option Counts) → o ≡ None → now ≡ option_map one_load old → AmidCounts o old now
none_amid o old now e h = subst (λ x. AmidCounts x old now) (sym e) h

some_amid : (o : Option Progress) (p : Progress) (old now : Option Counts) → o ≡ Some p → (now ≡ option_map one_load old) ⊎ (now ≡ option_map one_store old) → AmidCounts o old now
some_amid o p old now e h = subst (λ x. AmidCounts x old now) (sym e) h

none_loaded : (o : Option Progress) (core : Core) (object : ℕ) (after : Option Progress) → o ≡ None → after ≡ Some (begun (root_of core.words object)) → Loaded o core object after
none_loaded o core object after e h = subst (λ x. Loaded x core object after) (sym e) h

some_loaded : (o : Option Progress) (p : Progress) (core : Core) (object : ℕ) (after : Option Progress) → o ≡ Some p → Loaded o core object after
some_loaded o p core object after e = subst (λ x. Loaded x core object after) (sym e) tt

module _ (old now : Whole) (seat other : ℕ) (machine after : Operation) (is : IsSeatOf old seat) (f : Follows old.layout (view_at old.core seat) machine) where
  at_seat : (made_of : List Entry → List Entry) → Moves old.layout old.core now.core (view_at old.core seat).number (view_at now.core other) made_of → Moves old.layout old.core now.core seat (view_at now.core other) made_of
  at_seat made_of m = subst (λ i. Moves old.layout old.core now.core i (view_at now.core other) made_of) is.number m

  loads_on : Loads old.layout (λ core. core ≡ old.core) (λ core. core ≡ now.core) (view_at old.core seat) (view_at now.core other) machine after → Stepped old.layout old.core now.core seat (view_at now.core other) machine after Going
  loads_on t =
      let r = t.event in
      record {
        moves = at_seat (λ es. es) (begun_moves old.layout old.core now.core (view_at old.core seat) (view_at now.core other) is.plain machine.object machine.call t.root f.exists f.fits r);
        counts = none_amid machine.progress old.core.counts now.core.counts t.first (sym (ap (λ c. c.counts) r.after) ∙ ap (λ (c : Core). option_map one_load c.counts) r.found.stands);
        says = none_loaded machine.progress old.core machine.object after.progress t.first (ap (λ x. x.progress) t.next ∙ ap (λ root. Some (begun root)) (r.root_is ∙ ap (λ (c : Core). root_of c.words machine.object) r.found.stands));
      }

  spends_on : (tag : ℕ) → Spends old.layout (λ core. core ≡ old.core) (λ core. core ≡ now.core) (view_at old.core seat) (view_at now.core other) machine after tag → Stepped old.layout old.core now.core seat (view_at now.core other) machine after (Spent tag)
  spends_on tag t =
      let r = t.event in
      record {
        moves = at_seat (λ es. es) (begun_moves old.layout old.core now.core (view_at old.core seat) (view_at now.core other) is.plain machine.object machine.call t.root f.exists f.fits r);
        counts = sym (ap (λ c. c.counts) r.after) ∙ ap (λ (c : Core). option_map one_load c.counts) r.found.stands;
        says = t.tag_is ∙ ap tag_of (r.root_is ∙ ap (λ (c : Core). root_of c.words machine.object) r.found.stands);
      }

  reads_on : Reads old.layout (λ core. core ≡ old.core) (λ core. core ≡ now.core) (view_at old.core seat) (view_at now.core other) machine after → Stepped old.layout old.core now.core seat (view_at now.core other) machine after Going
  reads_on t =
      let r = t.event in
      record {
        moves = at_seat (λ es. es) (read_moves old.layout old.core now.core (view_at old.core seat) (view_at now.core other) is.plain (attempt_for machine t.progress) t.place t.word t.amid.is_open r);
        counts = some_amid machine.progress t.progress old.core.counts now.core.counts t.amid.is (inl (sym (ap (λ c. c.counts) r.after) ∙ ap (λ (c : Core). option_map one_load c.counts) r.found.stands));
        says = some_loaded machine.progress t.progress old.core machine.object after.progress t.amid.is;
      }

  writes_on : Writes old.layout (λ core. core ≡ old.core) (λ core. core ≡ now.core) (view_at old.core seat) (view_at now.core other) machine after → Stepped old.layout old.core now.core seat (view_at now.core other) machine after Going
  writes_on t =
      let r = t.event in
      record {
        moves = at_seat (λ es. es) (wrote_moves old.layout old.core now.core (view_at old.core seat) (view_at now.core other) is.plain (attempt_for machine t.progress) t.own t.value t.amid.is_open t.below t.blank r);
        counts = some_amid machine.progress t.progress old.core.counts now.core.counts t.amid.is (inr (sym (ap (λ c. c.counts) r.after) ∙ ap (λ (c : Core). option_map one_store c.counts) r.found.stands));
        says = some_loaded machine.progress t.progress old.core machine.object after.progress t.amid.is;
      }

  decides_moves : (found : ℕ) (t : Decides old.layout (λ core. core ≡ old.core) (λ core. core ≡ now.core) (view_at old.core seat) (view_at now.core other) machine after found) (won : Bool) → (found == t.progress.expected) ≡ won
      → Moves old.layout old.core now.core seat (view_at now.core other) (λ es. history_after won (entry_for old.layout es seat machine.object machine.call) es)
  decides_moves found t won e =
      let m = decided_moves old.layout old.core now.core (view_at old.core seat) (view_at now.core other) is.plain (attempt_for machine t.progress) t.root found t.pairs t.decision t.event in
      let n : Moves old.layout old.core now.core (view_at old.core seat).number (view_at now.core other) (λ es. history_after won (entry_for old.layout es (view_at old.core seat).number machine.object machine.call) es) =
      subst (λ b. Moves old.layout old.core now.core (view_at old.core seat).number (view_at now.core other) (λ es. history_after b (entry_for old.layout es (view_at old.core seat).number machine.object machine.call) es)) e m in
      at_seat (λ es. history_after won (entry_for old.layout es seat machine.object machine.call) es)
      (subst (λ i. Moves old.layout old.core now.core (view_at old.core seat).number (view_at now.core other) (λ es. history_after won (entry_for old.layout es i machine.object machine.call) es)) is.number n)

  wins_on : (reply : Reply) (tag : ℕ) → Wins old.layout (λ core. core ≡ old.core) (λ core. core ≡ now.core) (view_at old.core seat) (view_at now.core other) machine after reply tag → Stepped old.layout old.core now.core seat (view_at now.core other) machine after (Won reply tag)
  wins_on reply tag t =
      let d = t.decides in
      let r = d.event in
      record {
        moves = decides_moves t.found d true (eq-eqb t.found d.progress.expected t.same);
        counts = sym (ap (λ c. c.counts) r.after) ∙ ap (λ (c : Core). option_map one_exchange c.counts) r.found.stands;
        says = λ history h.
            let k : Lawful old.layout r.core.words r.core.views history = subst (λ (c : Core). Lawful old.layout c.words c.views history) (sym r.found.stands) h in
            let e = same_entry old.layout r.core machine.object f.exists r.history history r.found.lawful k (view_at old.core seat).number seat machine.call in
            (t.reply_is ∙ e.0, t.tag_is ∙ e.1);
      }

  loses_on : (expected found : ℕ) → Loses old.layout (λ core. core ≡ old.core) (λ core. core ≡ now.core) (view_at old.core seat) (view_at now.core other) machine after expected found → Stepped old.layout old.core now.core seat (view_at now.core other) machine after (Lost expected found)
  loses_on expected found t =
      let d = t.decides in
      let r = d.event in
      record {
        moves = decides_moves found d false (ne_eqb found d.progress.expected (λ e. t.apart (e ∙ sym t.expected_is)));
        counts = sym (ap (λ c. c.counts) r.after) ∙ ap (λ (c : Core). option_map one_exchange c.counts) r.found.stands;
        says = (r.word_is ∙ ap (λ (c : Core). root_of c.words machine.object) r.found.stands, sym (ap (λ c. c.words) r.after) ∙ t.unchanged ∙ ap (λ (c : Core). c.words) r.found.stands);
      }

  idles_on : Idles old.layout bank_stands bank_view old seat now other machine after → Stepped old.layout old.core now.core seat (view_at now.core other) machine after Idle
  idles_on t =
      let e : now.core ≡ old.core = ap (λ (x : Whole). x.core) t.port_is in
      record {
        moves = subst (λ (c : Core). Moves old.layout old.core c seat (view_at c other) (λ es. es)) (sym e) (record { lawful = λ es h. h; many = refl; moved = ap (view_at old.core) (sym t.seat_is); others = λ i ne. refl });
        counts = ap (λ (c : Core). c.counts) e;
        says = e;
      }

  pub step_on : (step : Step) → TellsOf old seat now other machine after step → Stepped old.layout old.core now.core seat (view_at now.core other) machine after step
  step_on Going t =
      ⊎_elim (λ (x : Loads old.layout (bank_stands old seat) (bank_stands now other) (bank_view old seat) (bank_view now other) machine after). loads_on x)
      (λ (y : Reads old.layout (bank_stands old seat) (bank_stands now other) (bank_view old seat) (bank_view now other) machine after ⊎ Writes old.layout (bank_stands old seat) (bank_stands now other) (bank_view old seat) (bank_view now other) machine after).
      ⊎_elim (λ (x : Reads old.layout (bank_stands old seat) (bank_stands now other) (bank_view old seat) (bank_view now other) machine after). reads_on x)
      (λ (x : Writes old.layout (bank_stands old seat) (bank_stands now other) (bank_view old seat) (bank_view now other) machine after). writes_on x) y) t
  step_on Idle t = idles_on t
  step_on (Won reply tag) t = wins_on reply tag t
  step_on (Lost expected found) t = loses_on expected found t
  step_on (Spent tag) t = spends_on tag t
