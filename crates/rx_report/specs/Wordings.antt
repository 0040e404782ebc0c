-- Texts of lines that stay the same for a whole run.
use Rattle.std.specs.Prelude.{ℕ, ◌≡◌, ◌≤◌, ◌+◌, List, ◌++◌, codes, slice_get, take, length, Some}
use Rattle.rx_set.specs.declared.jobs.Job.{Job}
use Rattle.rx_set.specs.System.{System, task_at}
use Rattle.rx_report.specs.declared.wordings.Long.{Long}
use Rattle.rx_report.specs.declared.wordings.TaskWords.{TaskWords}
use Rattle.rx_report.specs.declared.wordings.Wording.{Wording}
use Rattle.rx_report.specs.Lines.{item_of, item_text, spaced}

-- the number of an item of a job, what it asks for, and the arrow before its reply
abbrev pub request_text : System → Job → ℕ → List ℕ
request_text system job item = spaced item ++ codes " " ++ item_text system (item_of system job item) ++ codes " -> "

-- So many bytes at the front are this text, which has at most 32 of them, or at most 192.
pub record IsText (most : ℕ) (bytes : List ℕ) (len : ℕ) (text : List ℕ) : Type 0 where
  pub front : take len bytes ≡ text
  pub few : len ≤ most
  pub long : length bytes ≡ most

-- the words of the item after so many of a task
pub record IsRequest (system : System) (task place : ℕ) (kept : Long) : Type 0 where
  pub text : IsText 192 kept.bytes kept.len (request_text system (record { task = task; number = 0 }) (place + 1))
  pub few : kept.len ≤ 181

-- the words of some of the first items of a task
abbrev pub AreRequests : System → ℕ → List Long → Type 0
AreRequests system task requests = (place : ℕ) (text : Long) → slice_get requests place ≡ Some text → IsRequest system task place text

-- the words of a task: its name with a space behind it, and those of some of its first items
pub record AreWordsOf (system : System) (task : ℕ) (words : TaskWords) : Type 0 where
  pub name : IsText 32 words.name.bytes words.name.len ((task_at system task).name ++ codes " ")
  pub short : words.name.len ≤ 17
  pub requests : AreRequests system task words.requests.items

-- the words of some of the first tasks
abbrev pub AreWords : System → List TaskWords → Type 0
AreWords system words = (task : ℕ) (one : TaskWords) → slice_get words task ≡ Some one → AreWordsOf system task one

-- a wording has words of this system
abbrev pub IsWordingOf : System → Wording → Type 0
IsWordingOf system wording = AreWords system wording.tasks.items
