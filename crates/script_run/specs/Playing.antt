-- What becomes of a script.
use Rattle.std.specs.Prelude.{◌≡◌, ◌⊎◌, ℕ, ◌≤◌, List, [], length, Option, Some, None, IsSome, IsSomeAnd, Result, Ok, Err}
use Rattle.board_core.specs.Causes.{Rose}
use Rattle.pef_engine.specs.declared.entry.Entry.{Entry}
use Rattle.pef_engine.specs.declared.script.Script.{Script}
use Rattle.pef_engine.specs.Rules.{Lawful}
use Rattle.pef_engine.specs.Scripts.{script_of}
use Rattle.script_text.specs.Lines.{behind_line}
use Rattle.script_text.specs.Script.{bad_line}
use Rattle.script_run.specs.declared.stop.StepStop.{StepStop}
use Rattle.script_run.specs.declared.stop.LineStop.{LineStop}
use Rattle.script_run.specs.declared.stop.LineStop.TheVariants.{Step, Line, Input as InputFailed}
use Rattle.script_run.specs.declared.stop.ScriptStop.{ScriptStop}
use Rattle.script_run.specs.declared.stop.ScriptStop.TheVariants.{Lines, Unfinished}
use Rattle.script_run.specs.Items.{IsOther, text_says, items_after}
use Rattle.script_run.specs.Going.{Kind, World, Goes}
use Rattle.script_run.specs.Lines.{Input, Unread, IsGiven, FailsBefore, HasRead, IsRead, lines_read}

-- the answer for its lines
abbrev pub widen : Result ℕ LineStop → Result ℕ ScriptStop
widen (Ok n) = Ok n
widen (Err stop) = Err (Lines stop)

-- the step that stopped it
abbrev pub script_step : Result ℕ ScriptStop → Option StepStop
script_step (Err (Lines (Step stop))) = Some stop
script_step other = None

-- line 1 could not be read
abbrev pub IsUnread : Result ℕ ScriptStop → Type 0
IsUnread result = result ≡ Err (Lines InputFailed)

-- it names the script that is unfinished
abbrev pub NamesOther : Option Script → Result ℕ ScriptStop → Type 0
NamesOther script result = IsSomeAnd script (λ s. result ≡ Err (Unfinished s.id s.count))

-- A script was run over a machine at which this one was opened last.
pub record Played {I M : Type 0} (k : Kind I M) (old new : World I M) (to : Input) (script : Option Script) (text : List ℕ) (so_far : List I) (result : Result ℕ ScriptStop) : Type 0 where
  -- where another script is unfinished no item is taken, and that one is named, unless line 1 could not be read
  pub refused : IsOther script (text_says k.scripts text) → (so_far ≡ []) × (IsUnread result ⊎ NamesOther script result)
  pub other : (id count : ℕ) → result ≡ Err (Unfinished id count) → IsOther script (text_says k.scripts text)
  -- and then line 1 alone was read
  pub other_read : (id count : ℕ) → result ≡ Err (Unfinished id count) → Unread to (behind_line text)
  pub other_unread : IsOther script (text_says k.scripts text) → IsUnread result → FailsBefore 1 text to.left
  -- where line 1 is no head that line is named, unless it could not be read
  pub headless : text_says k.scripts text ≡ None → (IsUnread result ⊎ (result ≡ Err (Lines (Line 1))))
  -- where a read failed, neither a bad line nor all lines were handed out before
  pub unread : IsUnread result → FailsBefore (lines_read (text_says k.scripts text)) text to.left
  -- else its lines were run
  pub ran : (IsOther script (text_says k.scripts text) → ⊥) → (lines : Result ℕ LineStop) × (result ≡ widen lines)
      × IsGiven so_far (items_after k.scripts script (text_says k.scripts text)) (bad_line (text_says k.scripts text)) lines × HasRead (lines_read (text_says k.scripts text)) text to lines
      × (IsSome (text_says k.scripts text) → IsRead lines → (k.view new.engine.machine).due ≡ None)

-- The script that the source gives was run.
pub record Plays {I M : Type 0} (k : Kind I M) (old new : World I M) (from to : Input) (result : Result ℕ ScriptStop) : Type 0 where
  pub so_far : List I
  pub goes : Goes k old new so_far (script_step result)
  pub later : from.faults ≤ to.faults
  pub failed : IsUnread result → Rose from.faults to.faults
  pub same : (IsUnread result → ⊥) → to.faults ≡ from.faults
  pub held : length to.held ≤ 256
  pub played : (Z : List ℕ) (H : List (Entry I)) → Lawful k.rules Z H → (k.view old.engine.machine).shows Z H → (text : List ℕ) → Unread from text → Played k old new to (script_of k.scripts H) text so_far result
