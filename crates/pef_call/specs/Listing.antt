-- What `list` and `show` do and answer: they show what a file holds, the rows of a console's or the page of a controller's, and change
-- nothing.
use Rattle.std.specs.Prelude.{◌≡◌, ◌≢◌, ◌⊎◌, ⊤, ℕ, ◌≤◌, List, ◌++◌, length, Option, Some, None, IsTrue}
use Rattle.board_core.specs.Causes.{Rose}
use Rattle.board_core.specs.Board.{BoardView, IsFileRun}
use Rattle.pef_engine.specs.declared.entry.Entry.{Entry}
use Rattle.pef_engine.specs.Rules.{Lawful, Stands, StandsForNone, WasOver}
use Rattle.report_line.specs.declared.ending.Ending.{Ending}
use Rattle.report_line.specs.declared.ending.Ending.TheVariants.{Done, Unformatted, Disk, Output, Full, Memory}
use Rattle.report_line.specs.Ending.{last_line}
use Rattle.report_line.specs.Finishing.{IsPrefixOf}
use Rattle.script_run.specs.Top.{Outside, outside, EndsWith, IsUntouched, MayRefuse}
use Rattle.trap_console.specs.declared.item.Item.{Item}
use Rattle.trap_console.specs.Heard.{rows_of}
use Rattle.trap_console.specs.Listing.{listed}
use Rattle.pef_core.specs.declared.controller.Controller.{Controller}
use Rattle.pef_core.specs.declared.item.Item as core
use Rattle.pef_core.specs.Histories.{controller_rules}
use Rattle.pef_core.specs.Report.{controller_scripts}
use Rattle.pef_core.specs.Shown.{shown_page}
use Rattle.pef_core.specs.View as core_view
use Rattle.script_run.specs.Going.{Kind, kind}
use Rattle.trap_console.specs.declared.console.Console.{Console}
use Rattle.pef_call.specs.Receiving.{console_kind}

-- the outside of a call that reads no other file
abbrev pub sourceless : BoardView → Option (List ℕ) → ℕ → Outside
sourceless board written writes = outside board None 0 written writes

-- how `list` may end: it showed all rows, or a write of them failed, or it showed none
abbrev pub IsRowless : Ending → Type 0
IsRowless Unformatted = ⊤
IsRowless Disk = ⊤
IsRowless Full = ⊤
IsRowless Memory = ⊤
IsRowless other = ⊥

abbrev pub IsShownEnd : Ending → Type 0
IsShownEnd (Done count) = ⊤
IsShownEnd Output = ⊤
IsShownEnd other = ⊥

abbrev pub IsListEnd : Ending → Type 0
IsListEnd end = IsShownEnd end ⊎ IsRowless end

-- what the sink was given: these octets, or a first part of them
abbrev pub Wrote : List ℕ → Option (List ℕ) → Option (List ℕ) → Type 0
Wrote lines before after = (text : List ℕ) → before ≡ Some text → after ≡ Some (text ++ lines)

abbrev pub WrotePart : List ℕ → Option (List ℕ) → Option (List ℕ) → Type 0
WrotePart lines before after = (text : List ℕ) → before ≡ Some text → (part : List ℕ) × IsPrefixOf part lines × (after ≡ Some (text ++ part))

-- What a form shows of a machine's file: the lines of a history, and the number in its last line. `rules` are the machine's, and `kind` is
-- with its scripts.
pub record Page (I : Type 0) (M : Type 0) : Type 1 where
  pub kind : Kind I M
  pub lines : List ℕ → List (Entry I) → List ℕ
  pub count : List ℕ → List (Entry I) → ℕ

-- a ledger's rows
abbrev pub ledger : Page Item Console
ledger = record { kind = console_kind; lines = λ Z H. listed (rows_of H); count = λ Z H. length (rows_of H) }

-- a controller's page
abbrev pub controller_page : Page core.Item Controller
controller_page = record { kind = kind controller_rules core_view.view_of controller_scripts; lines = λ Z H. shown_page Z H; count = λ Z H. 0 }

module _ {I M : Type 0} (p : Page I M) where
  -- what may be answered of a file that holds the history H
  abbrev pub MayAnswer : List ℕ → List (Entry I) → Ending → Type 0
  MayAnswer Z H (Done count) = count ≡ p.count Z H
  MayAnswer Z H Output = ⊤
  MayAnswer Z H Disk = ⊤
  MayAnswer Z H Memory = ⊤
  MayAnswer Z H Full = WasOver p.kind.rules Z H
  MayAnswer Z H other = ⊥

  -- All that such a form does but its last line.
  pub record Shows (old new : Outside) (end : Ending) : Type 0 where
    pub is_end : IsListEnd end
    pub run : IsFileRun old.board new.board
    pub untouched : IsTrue new.board.tells → IsUntouched old.board new.board
    pub answers : IsTrue new.board.tells → (Z : List ℕ) (H : List (Entry I)) → Lawful p.kind.rules Z H → Stands p.kind.rules Z H old.board.octets → MayAnswer Z H end
    pub rows : (count : ℕ) → end ≡ Done count → IsTrue new.board.tells → (Z : List ℕ) (H : List (Entry I)) → Lawful p.kind.rules Z H → Stands p.kind.rules Z H old.board.octets
        → Wrote (p.lines Z H) old.written new.written
    pub cut : end ≡ Output → IsTrue new.board.tells → (Z : List ℕ) (H : List (Entry I)) → Lawful p.kind.rules Z H → Stands p.kind.rules Z H old.board.octets
        → WrotePart (p.lines Z H) old.written new.written
    pub none : IsRowless end → new.written ≡ old.written
    pub unformatted : end ≡ Unformatted → IsTrue new.board.tells → StandsForNone p.kind.rules old.board.octets
    pub is_unformatted : IsTrue new.board.tells → StandsForNone p.kind.rules old.board.octets → MayRefuse p.kind old.board.octets end
    pub disk : end ≡ Disk → Rose old.board.disk_faults new.board.disk_faults
    pub disk_same : end ≢ Disk → new.board.disk_faults ≡ old.board.disk_faults
    pub output : end ≡ Output → Rose old.writes new.writes
    pub output_same : end ≢ Output → new.writes ≡ old.writes
    pub writes_later : old.writes ≤ new.writes

  -- A call of it, and its status.
  pub record Lists (old new : Outside) (status : ℕ) : Type 0 where
    pub end : Ending
    pub part : List ℕ
    pub ends : EndsWith end part old.writes new.writes status
    pub is_end : IsListEnd end
    -- the file is as it was at each moment, and nothing is issued
    pub untouched : IsTrue new.board.tells → IsUntouched old.board new.board
    -- at status 0 the lines are those of the file's history, and then the last line
    pub shown : status ≡ 0 → IsTrue new.board.tells → (Z : List ℕ) (H : List (Entry I)) → Lawful p.kind.rules Z H → Stands p.kind.rules Z H old.board.octets
        → Wrote (p.lines Z H ++ last_line (Done (p.count Z H))) old.written new.written
    -- where the sink failed, the lines are cut; at any other end there is none of them
    pub cut : end ≡ Output → IsTrue new.board.tells → (Z : List ℕ) (H : List (Entry I)) → Lawful p.kind.rules Z H → Stands p.kind.rules Z H old.board.octets
        → WrotePart (p.lines Z H) old.written new.written
    pub none : IsRowless end → Wrote part old.written new.written
    -- each end has its cause
    pub answers : IsTrue new.board.tells → (Z : List ℕ) (H : List (Entry I)) → Lawful p.kind.rules Z H → Stands p.kind.rules Z H old.board.octets → MayAnswer Z H end
    pub unformatted : end ≡ Unformatted → IsTrue new.board.tells → StandsForNone p.kind.rules old.board.octets
    pub is_unformatted : IsTrue new.board.tells → StandsForNone p.kind.rules old.board.octets → MayRefuse p.kind old.board.octets end
    pub disk : end ≡ Disk → Rose old.board.disk_faults new.board.disk_faults
    pub disk_same : end ≢ Disk → new.board.disk_faults ≡ old.board.disk_faults
    pub output : end ≡ Output → Rose old.writes new.writes
    -- at status 0 no count of failures rose
    pub calm : status ≡ 0 → (new.board.disk_faults ≡ old.board.disk_faults) × (new.writes ≡ old.writes)
    pub tells : IsTrue new.board.tells → IsTrue old.board.tells
    pub goes_on : IsTrue old.board.tells → IsTrue new.board.tells
    -- where the file is valid, no row was one too many and nothing fails, it ends with 0 or out of memory
    pub complete : IsTrue new.board.tells → (Z : List ℕ) (H : List (Entry I)) → Lawful p.kind.rules Z H → Stands p.kind.rules Z H old.board.octets → (WasOver p.kind.rules Z H → ⊥)
        → (status ≡ 0) ⊎ ((status ≡ 10) ⊎ (Rose old.board.disk_faults new.board.disk_faults ⊎ Rose old.writes new.writes))
