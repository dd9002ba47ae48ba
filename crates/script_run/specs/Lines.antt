-- What becomes of a script's lines.
use Rattle.std.specs.Prelude.{◌≡◌, ⊤, ℕ, ◌+◌, ◌-◌, ◌<◌, ◌≤◌, List, [], ◌∷◌, ◌++◌, length, Option, Some, None, Result, Ok, Err, IfOk}
use Rattle.board_core.specs.Causes.{Rose}
use Rattle.pef_engine.specs.declared.entry.Entry.{Entry}
use Rattle.pef_engine.specs.Rules.{Rules, Lawful}
use Rattle.pef_engine.specs.MachineView.{MachineView}
use Rattle.pef_engine.specs.Scripts.{ScriptRules, script_of, Awaits}
use Rattle.script_text.specs.Lines.{lines_of, behind_line, behind_lines, ends}
use Rattle.script_text.specs.Reading.{HasLeft, FailsWithin}
use Rattle.script_text.specs.Script.{Said, given, give_item, bad_at, bad_line, lines_in, said_of}
use Rattle.script_text.specs.declared.head.Head.{Head}
use Rattle.script_run.specs.declared.stop.StepStop.{StepStop}
use Rattle.script_run.specs.declared.stop.LineStop.{LineStop}
use Rattle.script_run.specs.declared.stop.LineStop.TheVariants.{Step, Line, Input as InputFailed}
use Rattle.script_run.specs.Items.{rest_of}
use Rattle.script_run.specs.Going.{Kind, World, Goes}

-- where the input stands: the octets that the reader holds, those that the source has left where it tells them, and its count of failures
pub record Input : Type 0 where
  pub held : List ℕ
  pub left : Option (List ℕ)
  pub faults : ℕ

abbrev pub input : List ℕ → Option (List ℕ) → ℕ → Input
input held left faults = record { held = held; left = left; faults = faults }

-- this is the text from here on
abbrev pub Unread : Input → List ℕ → Type 0
Unread at text = HasLeft at.held at.left text

-- the step that stopped it: none where the text stopped it, or nothing did
abbrev pub step_in : {A : Type 0} → Result A LineStop → Option StepStop
step_in (Err (Step stop)) = Some stop
step_in other = None

-- what it answers of the first bad line: at Ok there is none; it stops at it
abbrev pub Answers : {A : Type 0} → Option ℕ → Result A LineStop → Type 0
Answers bad (Ok x) = bad ≡ None
Answers bad (Err (Line number)) = bad ≡ Some number
Answers bad other = ⊤

-- it came to its end, or to a bad line
abbrev pub IsRead : {A : Type 0} → Result A LineStop → Type 0
IsRead (Ok x) = ⊤
IsRead (Err (Line number)) = ⊤
IsRead other = ⊥

-- a read failed before so many lines of the text were handed out
pub record FailsBefore (lines : ℕ) (text : List ℕ) (source : Option (List ℕ)) : Type 0 where
  pub left : List ℕ
  pub unread : source ≡ Some left
  pub front : List ℕ
  pub whole : text ≡ front ++ left
  pub few : ends front < lines

-- how many of these lines are read: up to the first bad one, or all
abbrev pub up_to : Option ℕ → ℕ → ℕ
up_to None lines = lines
up_to (Some number) lines = number

-- how many lines of a script are read
abbrev pub lines_read : {I : Type 0} → Option (Said I) → ℕ
lines_read said = up_to (bad_line said) (lines_in said)

-- the same behind line 1, where the lines are counted from line 1 on
abbrev pub up_to_behind : Option ℕ → ℕ → ℕ
up_to_behind None lines = lines
up_to_behind (Some number) lines = number - 1

-- How far the input was read, where so many lines were to come: at Ok behind the last of them; where a read failed not as far.
abbrev pub HasRead : {A : Type 0} → ℕ → List ℕ → Input → Result A LineStop → Type 0
HasRead lines text at (Ok x) = Unread at (behind_lines lines text)
HasRead lines text at (Err InputFailed) = FailsBefore lines text at.left
HasRead lines text at other = ⊤

-- Of all items that a text gives the first were taken, as far as it came, and where it was read to its end or to its first bad line all.
pub record IsGiven {I : Type 0} (so_far all : List I) (bad : Option ℕ) (result : Result ℕ LineStop) : Type 0 where
  pub more : List I
  pub split : so_far ++ more ≡ all
  pub read : IsRead result → more ≡ []
  pub answers : Answers bad result
  pub number : IfOk result (λ n. n ≡ length all)

-- what becomes of the source: a failure has raised its count, and else that is what it was; the reader holds at most 256 octets
pub record Reads {A : Type 0} (from to : Input) (result : Result A LineStop) : Type 0 where
  pub later : from.faults ≤ to.faults
  pub failed : result ≡ Err InputFailed → Rose from.faults to.faults
  pub same : (result ≡ Err InputFailed → ⊥) → to.faults ≡ from.faults
  pub held : length to.held ≤ 256

-- Lines that give these items of each text, and have this first bad line, were run.
pub record Ran {I M : Type 0} (k : Kind I M) (old new : World I M) (from to : Input) (lines : ℕ) (all : List ℕ → List I) (bad : List ℕ → Option ℕ) (result : Result ℕ LineStop) : Type 0 where
  pub so_far : List I
  pub goes : Goes k old new so_far (step_in result)
  pub idle : IsRead result → (k.view new.engine.machine).due ≡ None
  pub reads : Reads from to result
  pub given : (text : List ℕ) → Unread from text → IsGiven so_far (all text) (bad text) result
  pub far : (text : List ℕ) → Unread from text → HasRead (up_to_behind (bad text) lines) text to result

-- what a line gives where so many items are still to come and this is its number, whatever lines come behind it
abbrev pub LineGives : {I : Type 0} → (List ℕ → Option I) → List ℕ → ℕ → ℕ → Result (Option I) LineStop → Type 0
LineGives item_of line left number (Ok (Some item)) = (lines : List (List ℕ)) → given item_of (line ∷ lines) left number ≡ give_item item (given item_of lines (left - 1) (number + 1))
LineGives item_of line left number (Ok None) = (lines : List (List ℕ)) → given item_of (line ∷ lines) left number ≡ record { items = []; bad = None }
LineGives item_of line left number (Err (Line bad)) = (bad ≡ number) × ((lines : List (List ℕ)) → given item_of (line ∷ lines) left number ≡ bad_at number)
LineGives item_of line left number (Err InputFailed) = ⊥
LineGives item_of line left number (Err (Step stop)) = ⊥

-- the same of the next line of a text, with what is left behind it
abbrev pub GivesItem : {I : Type 0} → (List ℕ → Option I) → List ℕ → ℕ → ℕ → Input → Result (Option I) LineStop → Type 0
GivesItem item_of text left number at (Ok (Some item)) =
    Unread at (behind_line text) × (given item_of (lines_of text) left number ≡ give_item item (given item_of (lines_of (behind_line text)) (left - 1) (number + 1)))
GivesItem item_of text left number at (Ok None) = Unread at (behind_line text) × (given item_of (lines_of text) left number ≡ record { items = []; bad = None })
GivesItem item_of text left number at (Err (Line bad)) = (bad ≡ number) × (given item_of (lines_of text) left number ≡ bad_at number)
GivesItem item_of text left number at (Err InputFailed) = FailsWithin text at.left
GivesItem item_of text left number at (Err (Step stop)) = ⊥

-- line 1 of a text: its head, with what is left behind it, or a bad line
abbrev pub GivesHead : {I : Type 0} → ScriptRules I → List ℕ → Input → Result Head LineStop → Type 0
GivesHead scripts text at (Ok head) = Unread at (behind_line text)
    × (said_of scripts.word scripts.item_of text ≡ Some (record { id = head.id; count = head.count; given = given scripts.item_of (lines_of (behind_line text)) head.count 2 }))
GivesHead scripts text at (Err (Line number)) = (number ≡ 1) × (said_of scripts.word scripts.item_of text ≡ None)
GivesHead scripts text at (Err InputFailed) = FailsWithin text at.left
GivesHead scripts text at (Err (Step stop)) = ⊥

-- nothing is due, and of the script that is unfinished so many items of this count were taken
pub record IsReadyFor {I : Type 0} (rules : Rules I) (scripts : ScriptRules I) (view : MachineView I) (count taken : ℕ) : Type 0 where
  pub settings : List ℕ
  pub history : List (Entry I)
  pub lawful : Lawful rules settings history
  pub shows : view.shows settings history
  pub idle : view.due ≡ None
  pub awaits : Awaits (script_of scripts history) count taken

-- how far the lines of a text were read: so many of them, all good
pub record Passes {I : Type 0} (scripts : ScriptRules I) (text : List ℕ) (count : ℕ) (at : Input) (left number : ℕ) : Type 0 where
  pub rest : List ℕ
  pub unread : Unread at rest
  pub lines : ℕ
  pub counted : lines + left ≡ count
  pub numbered : number ≡ lines + 2
  pub behind : (more : ℕ) → behind_lines more rest ≡ behind_lines (lines + more) text
  pub front : List ℕ
  pub whole : text ≡ front ++ rest
  pub few : ends front ≤ lines
  pub bad : (given scripts.item_of (lines_of rest) left number).bad ≡ (given scripts.item_of (lines_of text) count 2).bad

-- and the rest of them gives the items that are still to be taken
pub record Stands {I : Type 0} (scripts : ScriptRules I) (text : List ℕ) (count taken : ℕ) (at : Input) (skip left number : ℕ) (so_far : List I) : Type 0 where
  pub passes : Passes scripts text count at left number
  pub split : so_far ++ rest_of scripts skip (given scripts.item_of (lines_of passes.rest) left number) ≡ rest_of scripts taken (given scripts.item_of (lines_of text) count 2)

-- so far these items of a text were taken; the rest of its lines give the others
pub record Takes {I M : Type 0} (k : Kind I M) (old now : World I M) (from at : Input) (count taken skip left number items : ℕ) : Type 0 where
  pub so_far : List I
  pub goes : Goes k old now so_far None
  pub same : at.faults ≡ from.faults
  pub counted : items ≡ length so_far
  pub stands : (text : List ℕ) → Unread from text → Stands k.scripts text count taken at skip left number so_far
