-- What a run leaves, writes and answers.
use Rattle.std.specs.Prelude.{◌≡◌, ◌≢◌, ◌⊎◌, ⊤, ℕ, ◌≤◌, List, [], ◌++◌, length, Option, Some, None, IsSome, IfSome, IsTrue}
use Rattle.board_core.specs.declared.step.Told.{Told}
use Rattle.board_core.specs.Causes.{Rose}
use Rattle.board_core.specs.Board.{Only, SyncsFirst, BoardView, CrashState, NeverSynced, steps_of, tolds_of}
use Rattle.pef_journal.specs.Journal.{LeavesAsRead}
use Rattle.pef_engine.specs.declared.entry.Entry.{Entry}
use Rattle.pef_engine.specs.Rules.{Rules, LawfulFrom, Lawful, Stands, StandsForNone, WasOver, HasOver}
use Rattle.pef_engine.specs.CrashFree.{crash_free_run, LeavesPrefix, entry_items, entry_tolds, IsPrefixOf}
use Rattle.pef_engine.specs.Scripts.{script_of}
use Rattle.script_text.specs.Lines.{behind_lines}
use Rattle.script_text.specs.Script.{bad_line, lines_in}
use Rattle.report_line.specs.declared.ending.Ending.{Ending}
use Rattle.report_line.specs.declared.ending.Ending.TheVariants.{Done, Usage, Unformatted, Line, Settings, Unfinished, Input, Disk, Output, Full, Memory, Formatted}
use Rattle.report_line.specs.Ending.{status_of, last_line}
use Rattle.report_line.specs.Finishing.{status_unsaid}
use Rattle.script_run.specs.Items.{IsOther, text_says, items_of_text}
use Rattle.script_run.specs.Room.{HadRoom, LacksRoom}
use Rattle.script_run.specs.Going.{Kind, report, LacksNext, IsCut}
use Rattle.script_run.specs.Lines.{FailsBefore, lines_read}

-- the outside of a call at one moment: the board, what is left of the source, what the sink was given, and their counts of failures
pub record Outside : Type 1 where
  pub board : BoardView
  pub unread : Option (List ℕ)
  pub reads : ℕ
  pub written : Option (List ℕ)
  pub writes : ℕ

abbrev pub outside : BoardView → Option (List ℕ) → ℕ → Option (List ℕ) → ℕ → Outside
outside board unread reads written writes = record { board = board; unread = unread; reads = reads; written = written; writes = writes }

-- what the file stands for at the return, as a read gives it
abbrev pub ReturnLeft : BoardView → CrashState
ReturnLeft v = record { image = v.octets; issued = steps_of v.sent; told = tolds_of v.sent }

-- Until the first sync the call writes and issues nothing. From then on each crash leaves one prefix of the run without a crash,
-- with the steps that it prescribes, or these and the one that is due. At the return what a read gives is such a prefix. Where all of
-- the file was on the disk at the start, as it is behind a crash, each crash of the call leaves such a prefix.
pub record RunKeeps {I : Type 0} (rules : Rules I) (Z : List ℕ) (H : List (Entry I)) (items : List I) (old new : BoardView) : Type 0 where
  pub moments : NeverSynced old new ⊎ SyncsFirst old new (LeavesPrefix rules Z H old.sent items)
  pub returned : LeavesPrefix rules Z H old.sent items (ReturnLeft new)
  pub whole_call : Only old.octets old.images → (c : CrashState) → new.left_since old.moment c → LeavesPrefix rules Z H old.sent items c

-- Nothing is written at any moment: until the first sync a crash leaves what it could before, and from then on what a read gave.
abbrev pub WritesNothing : BoardView → BoardView → Type 0
WritesNothing old new = NeverSynced old new ⊎ SyncsFirst old new (LeavesAsRead old)

-- nothing was written at any moment, and nothing issued
pub record IsUntouched (old new : BoardView) : Type 0 where
  pub octets : new.octets ≡ old.octets
  pub sent : new.sent ≡ old.sent
  pub moments : WritesNothing old new

-- it answers of the text: all that the text gives was taken
abbrev pub IsOfText : Ending → Type 0
IsOfText (Done count) = ⊤
IsOfText (Line number) = ⊤
IsOfText (Unfinished id count) = ⊤
IsOfText other = ⊥

-- it came to the end of the text, or to a bad line
abbrev pub IsReadOut : Ending → Type 0
IsReadOut (Done count) = ⊤
IsReadOut (Line number) = ⊤
IsReadOut other = ⊥

-- something failed, or there was no room or memory
abbrev pub IsFailure : Ending → Type 0
IsFailure Input = ⊤
IsFailure Disk = ⊤
IsFailure Output = ⊤
IsFailure Full = ⊤
IsFailure Memory = ⊤
IsFailure other = ⊥

-- What was stored behind H, and reported. At a failed disk each crash leaves these entries, perhaps with the next one; else it leaves
-- them alone.
pub record RunStores {I M : Type 0} (k : Kind I M) (Z : List ℕ) (H : List (Entry I)) (items : List I) (old new : Outside) (end : Ending) (part : List ℕ) : Type 0 where
  pub entries : List (Entry I)
  pub rest : List I
  -- they are the run without a crash: its first items, and all that was told
  pub taken : entry_items entries ++ rest ≡ items
  pub is_run : IsPrefixOf entries (crash_free_run k.rules Z H items (entry_tolds entries))
  pub lawful : LawfulFrom k.rules Z H entries
  pub room : HadRoom k.rules Z H entries
  pub told : end ≢ Disk → tolds_of new.board.sent ≡ tolds_of old.board.sent ++ entry_tolds entries
  pub stands : end ≢ Disk → Stands k.rules Z (H ++ entries) new.board.octets
  pub lasting : end ≢ Disk → IsUntouched old.board new.board ⊎ ((c : List ℕ) → new.board.images c → Stands k.rules Z (H ++ entries) c)
  pub torn : end ≡ Disk → ((entries ≡ []) × IsUntouched old.board new.board) ⊎ ((c : List ℕ) → new.board.images c → (next : List (Entry I)) × (length next ≤ 1) × Stands k.rules Z (H ++ (entries ++ next)) c)
  -- all items are among them where it answers of the text
  pub all : IsOfText end → rest ≡ []
  -- the report of these entries was written, and then this part of the last line; where the sink failed it may be cut
  pub said : List ℕ
  pub written : (text : List ℕ) → old.written ≡ Some text → new.written ≡ Some (text ++ (said ++ part))
  pub whole : end ≢ Output → said ≡ report k Z H entries
  pub cut : end ≡ Output → IsCut k Z H entries said
  -- behind them the next entry has no room, or there was none for one in the file
  pub full : end ≡ Full → LacksNext k Z (H ++ entries) rest ⊎ WasOver k.rules Z H

-- the source was read up to the end of so many lines, and at most 256 octets beyond
pub record ReadsTo (lines : ℕ) (text : List ℕ) (source : Option (List ℕ)) : Type 0 where
  pub left : List ℕ
  pub unread : source ≡ Some left
  pub beyond : List ℕ
  pub behind : behind_lines lines text ≡ beyond ++ left
  pub few : length beyond ≤ 256

-- what may end a run over H before it answers of line 1
abbrev pub MayEndAtOnce : {I M : Type 0} → Kind I M → List ℕ → List (Entry I) → Ending → Type 0
MayEndAtOnce k Z H Input = ⊤
MayEndAtOnce k Z H Disk = ⊤
MayEndAtOnce k Z H Memory = ⊤
MayEndAtOnce k Z H Full = WasOver k.rules Z H
MayEndAtOnce k Z H other = ⊥

-- A run over a file that stands for the lawful history H, with this text, and how it ends.
pub record RunAnswers {I M : Type 0} (k : Kind I M) (Z : List ℕ) (H : List (Entry I)) (text : List ℕ) (old new : Outside) (end : Ending) (part : List ℕ) : Type 0 where
  -- from the first sync on the file stands for a prefix of the run without a crash, with its steps
  pub headline : RunKeeps k.rules Z H (items_of_text k.scripts text H) old.board new.board
  -- what is stored is reported, and nothing else
  pub stores : RunStores k Z H (items_of_text k.scripts text H) old new end part
  -- where line 1 is good and the text was read out, nothing is pending
  pub idle : IsReadOut end → IsSome (text_says k.scripts text) → k.rules.pending Z (H ++ stores.entries) ≡ None
  -- it is done only where no line is bad and no other script is unfinished, and so many items were taken
  pub done : (count : ℕ) → end ≡ Done count → (bad_line (text_says k.scripts text) ≡ None) × (IsOther (script_of k.scripts H) (text_says k.scripts text) → ⊥) × (count ≡ length (items_of_text k.scripts text H))
  -- a line is named only where it is the first bad one, and no other script is unfinished
  pub bad : (number : ℕ) → end ≡ Line number → (bad_line (text_says k.scripts text) ≡ Some number) × (IsOther (script_of k.scripts H) (text_says k.scripts text) → ⊥)
  -- a script is named only where it is another one and unfinished; and then, unless something failed before
  pub other : (id count : ℕ) → end ≡ Unfinished id count → IsOther (script_of k.scripts H) (text_says k.scripts text) × IfSome (script_of k.scripts H) (λ s. (s.id ≡ id) × (s.count ≡ count))
  pub is_other : IsOther (script_of k.scripts H) (text_says k.scripts text) → MayEndAtOnce k Z H end ⊎ ((id : ℕ) × (count : ℕ) × (end ≡ Unfinished id count))
  -- where line 1 is no head it is named, unless something failed before
  pub headless : text_says k.scripts text ≡ None → MayEndAtOnce k Z H end ⊎ (end ≡ Line 1)
  -- where another script is unfinished, or line 1 is no head, nothing is written and nothing issued
  pub untouched : IsOther (script_of k.scripts H) (text_says k.scripts text) ⊎ (text_says k.scripts text ≡ None) → IsUntouched old.board new.board
  pub formatted : end ≢ Unformatted
  -- where an entry of the run without a crash has no room, it isn't done
  pub is_full : IsSome (text_says k.scripts text) → (IsOther (script_of k.scripts H) (text_says k.scripts text) → ⊥) → (more : List Told)
      → LacksRoom k.rules Z H (items_of_text k.scripts text H) (entry_tolds stores.entries ++ more) → IsFailure end
  -- how far the source was read: to the end of the last line, and where a read failed neither behind a bad line nor as far as that
  pub far : (count : ℕ) → end ≡ Done count → ReadsTo (lines_in (text_says k.scripts text)) text new.unread
  pub not_far : end ≡ Input → FailsBefore (lines_read (text_says k.scripts text)) text new.unread
  -- and where another script is unfinished, line 1 alone
  pub other_far : (id count : ℕ) → end ≡ Unfinished id count → ReadsTo 1 text new.unread
  pub other_not_far : IsOther (script_of k.scripts H) (text_says k.scripts text) → end ≡ Input → FailsBefore 1 text new.unread

-- the status, and the part of the last line that was written: all of it unless the sink failed
abbrev pub EndsWith : Ending → List ℕ → ℕ → ℕ → ℕ → Type 0
EndsWith end part writes_before writes_after status =
    ((part ≡ last_line end) × (status ≡ status_of end))
    ⊎ (IsPrefixOf part (last_line end) × Rose writes_before writes_after × (status ≡ status_unsaid end))

-- a run of a file that isn't valid may end so: it says so, unless opening it fails
abbrev pub MayRefuse : {I M : Type 0} → Kind I M → List ℕ → Ending → Type 0
MayRefuse k file Unformatted = ⊤
MayRefuse k file Disk = ⊤
MayRefuse k file Memory = ⊤
MayRefuse k file Full = HasOver k.rules file
MayRefuse k file other = ⊥

-- how a run may end
abbrev pub IsRunEnd : Ending → Type 0
IsRunEnd Usage = ⊥
IsRunEnd (Settings refusal) = ⊥
IsRunEnd Formatted = ⊥
IsRunEnd other = ⊤

-- The text is good, no other script is unfinished, there is room for each entry, whatever the steps are told, and there was room for
-- those in the file.
pub record MayEnd {I M : Type 0} (k : Kind I M) (Z : List ℕ) (H : List (Entry I)) (text : List ℕ) : Type 0 where
  pub good : bad_line (text_says k.scripts text) ≡ None
  pub no_other : IsOther (script_of k.scripts H) (text_says k.scripts text) → ⊥
  pub room : (tolds : List Told) → LacksRoom k.rules Z H (items_of_text k.scripts text H) tolds → ⊥
  pub none_over : WasOver k.rules Z H → ⊥

-- A call of `run`, and its status.
pub record RunCall {I M : Type 0} (k : Kind I M) (old new : Outside) (status : ℕ) : Type 0 where
  pub end : Ending
  pub part : List ℕ
  pub ends : EndsWith end part old.writes new.writes status
  pub is_end : IsRunEnd end
  pub answers : IsTrue new.board.tells → (Z : List ℕ) (H : List (Entry I)) (text : List ℕ) → Lawful k.rules Z H → Stands k.rules Z H old.board.octets → old.unread ≡ Some text → RunAnswers k Z H text old new end part
  -- that the file isn't valid is said only where it isn't; and then nothing is written to it at any moment, and nothing issued, and
  -- the last line stands alone
  pub unformatted : end ≡ Unformatted → IsTrue new.board.tells → StandsForNone k.rules old.board.octets
  pub is_unformatted : IsTrue new.board.tells → StandsForNone k.rules old.board.octets → MayRefuse k old.board.octets end × IsUntouched old.board new.board
  pub alone : (end ≡ Unformatted) ⊎ (IsTrue new.board.tells × StandsForNone k.rules old.board.octets) → (text : List ℕ) → old.written ≡ Some text → new.written ≡ Some (text ++ part)
  -- a failure has raised its count
  pub input : end ≡ Input → Rose old.reads new.reads
  pub disk : end ≡ Disk → Rose old.board.disk_faults new.board.disk_faults
  pub output : end ≡ Output → Rose old.writes new.writes
  -- and no other end passes over a failure of the disk or the source
  pub disk_same : end ≢ Disk → new.board.disk_faults ≡ old.board.disk_faults
  pub input_same : end ≢ Input → new.reads ≡ old.reads
  -- at status 0 no count of failures of the disk, the source or the sink rose
  pub calm : status ≡ 0 → (new.board.disk_faults ≡ old.board.disk_faults) × (new.reads ≡ old.reads) × (new.writes ≡ old.writes)
  -- out of memory before the first item, but for a machine that takes memory for its items
  pub memory : end ≡ Memory → IsTrue k.rules.takes_memory ⊎ (IsTrue new.board.tells → IsUntouched old.board new.board)
  -- a board that tells at the end told at the start, and one that told goes on to, unless the count of failed steps rose
  pub tells : IsTrue new.board.tells → IsTrue old.board.tells
  pub goes_on : IsTrue old.board.tells → IsTrue new.board.tells ⊎ Rose old.board.issue_faults new.board.issue_faults
  -- where the file is valid, all is right with the text and nothing fails, it ends with 0 or out of memory
  pub complete : IsTrue new.board.tells → (Z : List ℕ) (H : List (Entry I)) (text : List ℕ) → Lawful k.rules Z H → Stands k.rules Z H old.board.octets → old.unread ≡ Some text → MayEnd k Z H text
      → (status ≡ 0) ⊎ ((status ≡ 10) ⊎ (Rose old.reads new.reads ⊎ (Rose old.board.disk_faults new.board.disk_faults ⊎ Rose old.writes new.writes)))
