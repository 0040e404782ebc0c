-- What a step of a machine tells. Its event on the port, if it makes one, and what becomes of the machine.
use Rattle.std.specs.Prelude.{ℕ, ◌≡◌, ◌≢◌, ◌+◌, ◌<◌, ◌^◌, ◌⊎◌, ◌==◌, if◌then◌else◌, List, [], ◌∷◌, ◌++◌, Some, None}
use Rattle.rx_seq.specs.declared.replies.Reply.{Reply}
use Rattle.rx_seq.specs.History.{part_at, replay}
use Rattle.rx_seq.specs.Table.{attempt_steps, effect}
use Rattle.rx_shape.specs.declared.plans.Pair.{Pair}
use Rattle.rx_shape.specs.Words.{tag_of}
use Rattle.rx_shape.specs.Forms.{stock_size, InRange, live}
use Rattle.rx_shape.specs.Layout.{Layout, home}
use Rattle.rx_shape.specs.Versions.{HasRead, NotWritten}
use Rattle.rx_port.specs.declared.views.View.{View}
use Rattle.rx_port.specs.declared.views.Core.{Core}
use Rattle.rx_port.specs.Core.{tag_after, exchanged, entry_for}
use Rattle.rx_port.specs.Events.{Begun, DidRead, DidWrite, Decided, IsDecision}
use Rattle.rx_machine.specs.declared.steps.Step.{Step}
use Rattle.rx_machine.specs.declared.steps.Step.TheVariants.{Going, Idle, Won, Lost, Spent}
use Rattle.rx_machine.specs.Operations.{Intent, Outlook, Unsettled, Settled, Progress, Operation, goes_on, lost, over, begun, IsBusy, attempt_for}

module _ (layout : Layout) (stood stands : Core → Type 0) (before now : View) (old new : Operation) where
  -- the first step loads the root, and the tag has room for one more
  pub record Loads : Type 0 where
    pub first : old.progress ≡ None
    pub root : ℕ
    pub event : Begun layout stood stands before now old.object old.call root
    pub more : tag_of root + 1 < 2 ^ 40
    pub next : new ≡ goes_on old (begun root) Unsettled

  -- the first step loads a root with the last tag, which it tells
  pub record Spends (tag : ℕ) : Type 0 where
    pub first : old.progress ≡ None
    pub root : ℕ
    pub event : Begun layout stood stands before now old.object old.call root
    pub last : tag_of root + 1 ≡ 2 ^ 40
    pub tag_is : tag ≡ tag_of root
    pub next : new ≡ over old

  -- a step before the last one, and no step of its attempt was idle so far
  pub record IsAmid (progress : Progress) : Type 0 where
    pub is : old.progress ≡ Some progress
    pub is_open : before.attempt ≡ Some (attempt_for old progress)
    pub early : progress.made + 1 < attempt_steps old.place.part
    pub busy : IsBusy progress

  -- the step reads a place of the object, before anything is written
  pub record Reads : Type 0 where
    pub progress : Progress
    pub amid : IsAmid progress
    pub blank : progress.writes ≡ []
    pub place : ℕ
    pub word : ℕ
    pub range : InRange (home layout old.object) place
    pub event : DidRead layout stood stands before now (attempt_for old progress) place word
    pub next : new ≡ goes_on old (record progress { made = progress.made + 1; reads = progress.reads ++ (record { place = place; word = word }) ∷ [] }) Unsettled

  -- the step writes into an own place that it has not written yet
  pub record Writes : Type 0 where
    pub progress : Progress
    pub amid : IsAmid progress
    pub own : ℕ
    pub value : ℕ
    pub below : own < stock_size (part_at layout.parts old.object)
    pub blank : NotWritten own progress.writes
    pub event : DidWrite layout stood stands before now (attempt_for old progress) own value
    pub plan : Intent
    pub next : new ≡ goes_on old (record progress { made = progress.made + 1; writes = progress.writes ++ (record { own = own; value = value }) ∷ [] }) (Settled plan)

  -- the last step of an attempt, which exchanges the root that it loaded for a new one and finds a word
  pub record Decides (found : ℕ) : Type 0 where
    pub progress : Progress
    pub is : old.progress ≡ Some progress
    pub last : progress.made + 1 ≡ attempt_steps old.place.part
    pub root : ℕ
    pub pairs : List Pair
    pub decision : IsDecision layout before (attempt_for old progress) root pairs
    pub event : Decided layout stood stands before now (attempt_for old progress) root pairs found

  -- the exchange found the expected root. Each word that the attempt read from a live place stood there, the reply is
  -- that of the call on the state that stood there, and the tag is that of the new entry
  pub record Wins (reply : Reply) (tag : ℕ) : Type 0 where
    pub found : ℕ
    pub decides : Decides found
    pub same : found ≡ decides.progress.expected
    pub fresh : HasRead (live (home layout old.object) found decides.event.core.words) decides.event.core.words decides.progress.reads
    pub reply_is : reply ≡ (effect (part_at layout.parts old.object) (replay layout.parts old.object decides.event.history) old.call).reply
    pub tag_is : tag ≡ (entry_for layout decides.event.history before.number old.object old.call).tag
    pub root_is : tag ≡ tag_of decides.root
    pub next : new ≡ over old

  -- the exchange found another word, whose tag is higher, and the words stay as they were
  pub record Loses (expected found : ℕ) : Type 0 where
    pub decides : Decides found
    pub expected_is : expected ≡ decides.progress.expected
    pub apart : found ≢ expected
    pub higher : tag_of expected < tag_of found
    pub tag_is : tag_of found ≡ tag_after layout decides.event.history old.object
    pub unchanged : (exchanged decides.event.core old.object (if found == decides.progress.expected then decides.root else found) before.number now).words ≡ decides.event.core.words
    pub next : new ≡ lost old

module _ {P S : Type 0} (layout : Layout) (stands : P → S → Core → Type 0) (view : P → S → View) (port : P) (seat : S) (port' : P) (seat' : S) (old new : Operation) where
  -- the step makes no event: all is as it was, and the attempt has made one step more
  pub record Idles : Type 0 where
    pub progress : Progress
    pub is : old.progress ≡ Some progress
    pub is_open : (view port seat).attempt ≡ Some (attempt_for old progress)
    pub early : progress.made + 1 < attempt_steps old.place.part
    pub port_is : port' ≡ port
    pub seat_is : seat' ≡ seat
    pub outlook : Outlook
    pub next : new ≡ goes_on old (record progress { made = progress.made + 1 }) outlook

  -- what each answer of a step tells: one of these
  abbrev pub Tells : Step → Type 0
  Tells Going = Loads layout (stands port seat) (stands port' seat') (view port seat) (view port' seat') old new
      ⊎ (Reads layout (stands port seat) (stands port' seat') (view port seat) (view port' seat') old new
      ⊎ Writes layout (stands port seat) (stands port' seat') (view port seat) (view port' seat') old new)
  Tells Idle = Idles
  Tells (Won reply tag) = Wins layout (stands port seat) (stands port' seat') (view port seat) (view port' seat') old new reply tag
  Tells (Lost expected found) = Loses layout (stands port seat) (stands port' seat') (view port seat) (view port' seat') old new expected found
  Tells (Spent tag) = Spends layout (stands port seat) (stands port' seat') (view port seat) (view port' seat') old new tag
