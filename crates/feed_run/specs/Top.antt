-- What a run over a feed leaves, writes and answers.
use Rattle.std.specs.Prelude.{◌≡◌, ◌≢◌, ◌⊎◌, ⊤, ℕ, ◌≤◌, true, List, [], ◌++◌, length, Option, Some, None, IsTrue}
use Rattle.board_core.specs.declared.step.Told.{Told}
use Rattle.board_core.specs.Causes.{Rose}
use Rattle.board_core.specs.Board.{BoardView}
use Rattle.board_core.specs.Feed.{Arrivals}
use Rattle.board_core.specs.declared.feed.Arrival.{Arrival}
use Rattle.pef_engine.specs.declared.entry.Entry.{Entry}
use Rattle.pef_engine.specs.Rules.{Lawful, Stands, StandsForNone, WasOver}
use Rattle.pef_engine.specs.CrashFree.{entry_tolds, IsPrefixOf}
use Rattle.pef_engine.specs.Scripts.{script_of}
use Rattle.report_line.specs.declared.ending.Ending.{Ending}
use Rattle.report_line.specs.declared.ending.Ending.TheVariants.{Done, Usage, Unformatted, Line, Settings, Unfinished, Input, Disk, Output, Full, Memory, Formatted}
use Rattle.script_run.specs.Room.{LacksRoom}
use Rattle.script_run.specs.Going.{Kind}
use Rattle.script_run.specs.Top.{Outside, outside, RunKeeps, RunStores, IsUntouched, IsFailure, EndsWith, MayRefuse}
use Rattle.feed_run.specs.Arriving.{items_given, IsUnfinished, NamesIt}

-- the outside of a call at one moment: the board, what the feed tells, what the sink was given, and their counts of failures
pub record Around : Type 1 where
  pub board : BoardView
  pub arrivals : Option Arrivals
  pub misses : ℕ
  pub written : Option (List ℕ)
  pub writes : ℕ

abbrev pub around : BoardView → Option Arrivals → ℕ → Option (List ℕ) → ℕ → Around
around board arrivals misses written writes = record { board = board; arrivals = arrivals; misses = misses; written = written; writes = writes }

-- the same without a feed, with the count of its failures in place of the source's
abbrev pub plain : Around → Outside
plain at = outside at.board None at.misses at.written at.writes

-- it took what the feed gave: until the end, or until so many arrivals were given, or the feed failed
abbrev pub IsTaken : Ending → Type 0
IsTaken (Done count) = ⊤
IsTaken Input = ⊤
IsTaken other = ⊥

-- what may end a run over H before it asks whether a script is unfinished
abbrev pub MayEndAtOnce : {I M : Type 0} → Kind I M → List ℕ → List (Entry I) → Ending → Type 0
MayEndAtOnce k Z H Disk = ⊤
MayEndAtOnce k Z H Memory = ⊤
MayEndAtOnce k Z H Full = WasOver k.rules Z H
MayEndAtOnce k Z H other = ⊥

-- A run over a file that holds the lawful history H, with this still to arrive, and how it ends.
pub record FeedAnswers {I M : Type 0} (k : Kind I M) (item_at : Arrival → Option I) (most : ℕ) (Z : List ℕ) (H : List (Entry I)) (before : Arrivals) (old new : Around) (end : Ending) (part : List ℕ) : Type 0 where
  -- the feed gave these arrivals in this call, and no more than so many
  pub fresh : List Arrival
  pub after : Arrivals
  pub left : new.arrivals ≡ Some after
  pub coming : before.coming ≡ fresh ++ after.coming
  pub given : after.given ≡ before.given ++ fresh
  pub at_most : length fresh ≤ most
  -- from the first sync on the file holds a prefix of the run without a crash over their items, with its steps
  pub headline : RunKeeps k.rules Z H (items_given item_at fresh) old.board new.board
  -- what is stored is reported, and nothing else
  pub stores : RunStores k Z H (items_given item_at fresh) (plain old) (plain new) end part
  -- at most the last item isn't stored, and none where the run took what the feed gave
  pub few : length stores.rest ≤ 1
  pub all : IsTaken end → stores.rest ≡ []
  -- and then nothing is pending
  pub idle : IsTaken end → k.rules.pending Z (H ++ stores.entries) ≡ None
  -- it is done only where no script is unfinished, so many arrivals were given or nothing more arrives, and so many items were taken
  pub done : (count : ℕ) → end ≡ Done count → (IsUnfinished (script_of k.scripts H) → ⊥) × (count ≡ length (items_given item_at fresh)) × ((length fresh ≡ most) ⊎ ((after.ended ≡ true) × (after.coming ≡ [])))
  -- a script is named only where it is unfinished; and then, unless something failed before
  pub other : (id count : ℕ) → end ≡ Unfinished id count → NamesIt (script_of k.scripts H) id count
  pub is_other : IsUnfinished (script_of k.scripts H) → MayEndAtOnce k Z H end ⊎ ((id : ℕ) × (count : ℕ) × (end ≡ Unfinished id count))
  -- and nothing is asked, written or issued
  pub untouched : IsUnfinished (script_of k.scripts H) → IsUntouched old.board new.board × (fresh ≡ [])
  pub formatted : end ≢ Unformatted
  -- where an entry of the run without a crash has no room, it isn't done
  pub is_full : (IsUnfinished (script_of k.scripts H) → ⊥) → (more : List Told) → LacksRoom k.rules Z H (items_given item_at fresh) (entry_tolds stores.entries ++ more) → IsFailure end

-- how a run over a feed may end
abbrev pub IsFeedEnd : Ending → Type 0
IsFeedEnd Usage = ⊥
IsFeedEnd (Settings refusal) = ⊥
IsFeedEnd (Line number) = ⊥
IsFeedEnd Formatted = ⊥
IsFeedEnd other = ⊤

-- No script is unfinished, there is room for each entry, whatever the steps are told and however many of the arrivals to come the feed
-- gives, and there was room for those in the file.
pub record MayEnd {I M : Type 0} (k : Kind I M) (item_at : Arrival → Option I) (most : ℕ) (Z : List ℕ) (H : List (Entry I)) (before : Arrivals) : Type 0 where
  pub no_other : IsUnfinished (script_of k.scripts H) → ⊥
  pub room : (fresh : List Arrival) → IsPrefixOf fresh before.coming → length fresh ≤ most → (tolds : List Told) → LacksRoom k.rules Z H (items_given item_at fresh) tolds → ⊥
  pub none_over : WasOver k.rules Z H → ⊥

-- A call over a feed, and its status.
pub record FeedCall {I M : Type 0} (k : Kind I M) (item_at : Arrival → Option I) (most : ℕ) (old new : Around) (status : ℕ) : Type 0 where
  pub end : Ending
  pub part : List ℕ
  pub ends : EndsWith end part old.writes new.writes status
  pub is_end : IsFeedEnd end
  pub answers : IsTrue new.board.tells → (Z : List ℕ) (H : List (Entry I)) (before : Arrivals) → Lawful k.rules Z H → Stands k.rules Z H old.board.octets → old.arrivals ≡ Some before → FeedAnswers k item_at most Z H before old new end part
  -- that the file isn't valid is said only where it isn't; and then nothing is written to it at any moment, nothing is issued or asked,
  -- and the last line stands alone
  pub unformatted : end ≡ Unformatted → IsTrue new.board.tells → StandsForNone k.rules old.board.octets
  pub is_unformatted : IsTrue new.board.tells → StandsForNone k.rules old.board.octets → MayRefuse k old.board.octets end × IsUntouched old.board new.board
  pub alone : (end ≡ Unformatted) ⊎ (IsTrue new.board.tells × StandsForNone k.rules old.board.octets) → (new.arrivals ≡ old.arrivals) × ((text : List ℕ) → old.written ≡ Some text → new.written ≡ Some (text ++ part))
  -- a failure has raised its count
  pub input : end ≡ Input → Rose old.misses new.misses
  pub disk : end ≡ Disk → Rose old.board.disk_faults new.board.disk_faults
  pub output : end ≡ Output → Rose old.writes new.writes
  -- and no other end passes over a failure of the disk or the feed
  pub disk_same : end ≢ Disk → new.board.disk_faults ≡ old.board.disk_faults
  pub input_same : end ≢ Input → new.misses ≡ old.misses
  -- at status 0 no count of failures of the disk, the feed or the sink rose
  pub calm : status ≡ 0 → (new.board.disk_faults ≡ old.board.disk_faults) × (new.misses ≡ old.misses) × (new.writes ≡ old.writes)
  -- out of memory before the first item, but for a machine that takes memory for its items
  pub memory : end ≡ Memory → IsTrue k.rules.takes_memory ⊎ (IsTrue new.board.tells → IsUntouched old.board new.board)
  -- a board that tells at the end told at the start, and one that told goes on to, unless the count of failed steps rose
  pub tells : IsTrue new.board.tells → IsTrue old.board.tells
  pub goes_on : IsTrue old.board.tells → IsTrue new.board.tells ⊎ Rose old.board.issue_faults new.board.issue_faults
  -- where the file is valid, no script is unfinished, there is room and nothing fails, it ends with 0 or out of memory
  pub complete : IsTrue new.board.tells → (Z : List ℕ) (H : List (Entry I)) (before : Arrivals) → Lawful k.rules Z H → Stands k.rules Z H old.board.octets → old.arrivals ≡ Some before → MayEnd k item_at most Z H before
      → (status ≡ 0) ⊎ ((status ≡ 10) ⊎ (Rose old.misses new.misses ⊎ (Rose old.board.disk_faults new.board.disk_faults ⊎ Rose old.writes new.writes)))
