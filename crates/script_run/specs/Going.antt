-- What a run does between two moments.
use Rattle.std.specs.Prelude.{◌≡◌, ℕ, ◌≤◌, List, [], ◌∷◌, ◌++◌, length, Option, Some, None, IsTrue, Result, Ok, Err}
use Rattle.board_core.specs.Causes.{Rose}
use Rattle.board_core.specs.declared.step.Step.{Step}
use Rattle.board_core.specs.Board.{BoardView, LeavesOnly, steps_of, tolds_of}
use Rattle.pef_engine.specs.declared.entry.Entry.{Entry}
use Rattle.pef_engine.specs.declared.entry.Entry.TheVariants.{Item, Outcome}
use Rattle.pef_engine.specs.declared.engine.Engine.{Engine}
use Rattle.pef_engine.specs.Rules.{Rules, Lawful, LawfulFrom, Stands}
use Rattle.pef_engine.specs.MachineView.{MachineView}
use Rattle.pef_engine.specs.CrashFree.{LeavesPrefix, entry_items, entry_tolds, prescribed, IsPrefixOf}
use Rattle.pef_engine.specs.Engine.{Holds, IsLive, HasPlace}
use Rattle.pef_engine.specs.Engine as engine
use Rattle.pef_engine.specs.Scripts.{ScriptRules}
use Rattle.script_run.specs.declared.stop.StepStop.{StepStop}
use Rattle.script_run.specs.declared.stop.StepStop.TheVariants.{Disk, Output, Full, Memory}
use Rattle.script_run.specs.Report.{says, report_from}
use Rattle.script_run.specs.Room.{HadRoom, IsTooMuch}

-- a kind of machine
pub record Kind (I M : Type 0) : Type 1 where
  pub rules : Rules I
  pub view : M → MachineView I
  pub scripts : ScriptRules I

-- what a run works on, at one moment
pub record World (I M : Type 0) : Type 1 where
  pub board : BoardView
  pub engine : Engine M I
  pub written : Option (List ℕ)
  pub faults : ℕ

abbrev pub kind : {I M : Type 0} → Rules I → (M → MachineView I) → ScriptRules I → Kind I M
kind rules view scripts = record { rules = rules; view = view; scripts = scripts }

abbrev pub world : {I M : Type 0} → BoardView → Engine M I → Option (List ℕ) → ℕ → World I M
world board engine written faults = record { board = board; engine = engine; written = written; faults = faults }

-- the report of K behind H
abbrev pub report : {I M : Type 0} → Kind I M → List ℕ → List (Entry I) → List (Entry I) → List ℕ
report k Z H K = report_from (says k.rules k.scripts) Z H K

-- behind H this entry comes next, where these items are still to come: the outcome of the step that is due, or the first of the items
abbrev pub ComesNext : {I : Type 0} → Rules I → List ℕ → List (Entry I) → List I → Entry I → Type 0
ComesNext rules Z H items (Outcome told) = (step : Step) × (rules.pending Z H ≡ Some step)
ComesNext {I} rules Z H items (Item item) = (rules.pending Z H ≡ None) × (rest : List I) × (items ≡ item ∷ rest)

-- the machine and the file stand for H with K, and the steps issued are those that K prescribes
pub record Came {I M : Type 0} (k : Kind I M) (Z : List ℕ) (H K : List (Entry I)) (old new : World I M) : Type 0 where
  pub holds : Holds k.rules k.view Z (H ++ K) new.board new.engine
  pub steps : List Step
  pub issued : steps_of new.board.sent ≡ steps_of old.board.sent ++ steps
  pub told : tolds_of new.board.sent ≡ tolds_of old.board.sent ++ entry_tolds K
  pub prescribes : prescribed k.rules Z (H ++ K) ≡ prescribed k.rules Z H ++ steps

-- behind G the next entry has no room
pub record LacksNext {I M : Type 0} (k : Kind I M) (Z : List ℕ) (G : List (Entry I)) (rest : List I) : Type 0 where
  pub next : Entry I
  pub comes : ComesNext k.rules Z G rest next
  pub too_much : IsTooMuch k.rules Z G next

-- the line of the last entry was cut
pub record IsCut {I M : Type 0} (k : Kind I M) (Z : List ℕ) (H K : List (Entry I)) (said : List ℕ) : Type 0 where
  pub fewer : List (Entry I)
  pub last : Entry I
  pub part : List ℕ
  pub split : K ≡ fewer ++ last ∷ []
  pub ends : said ≡ report k Z H fewer ++ part
  pub is_part : IsPrefixOf part (says k.rules k.scripts Z (H ++ fewer) last)

-- Of these items some were taken and settled behind H, in these entries, all of them unless it stopped; a crash on the way leaves a
-- prefix of the run without a crash; and the sink took the report of the entries.
pub record Went {I M : Type 0} (k : Kind I M) (Z : List ℕ) (H : List (Entry I)) (old new : World I M) (items : List I) (stop : Option StepStop) : Type 0 where
  pub entries : List (Entry I)
  pub rest : List I
  pub said : List ℕ
  pub taken : entry_items entries ++ rest ≡ items
  pub lawful : LawfulFrom k.rules Z H entries
  pub room : HadRoom k.rules Z H entries
  pub moments : LeavesOnly old.board new.board (LeavesPrefix k.rules Z H old.board.sent items)
  pub written : (text : List ℕ) → old.written ≡ Some text → new.written ≡ Some (text ++ said)
  pub all : stop ≡ None → rest ≡ []
  pub came : (stop ≡ Some Disk → ⊥) → Came k Z H entries old new
  pub lost : stop ≡ Some Disk → (c : List ℕ) → new.board.images c → (next : List (Entry I)) × (length next ≤ 1) × Stands k.rules Z (H ++ (entries ++ next)) c
  pub full : stop ≡ Some Full → LacksNext k Z (H ++ entries) rest
  pub whole : (stop ≡ Some Output → ⊥) → said ≡ report k Z H entries
  pub cut : stop ≡ Some Output → IsCut k Z H entries said

abbrev pub stop_in : {A : Type 0} → Result A StepStop → Option StepStop
stop_in (Ok x) = None
stop_in (Err stop) = Some stop

-- the machine shows a lawful history in which these items came behind H
pub record Moved {I : Type 0} (rules : Rules I) (new : MachineView I) (Z : List ℕ) (H : List (Entry I)) (items : List I) : Type 0 where
  pub entries : List (Entry I)
  pub lawful : Lawful rules Z (H ++ entries)
  pub taken : entry_items entries ≡ items
  pub shows : new.shows Z (H ++ entries)

-- Whatever the board tells: a stop has its cause, and a count that rose stops it.
pub record Counts {I M : Type 0} (k : Kind I M) (old new : World I M) (stop : Option StepStop) : Type 0 where
  pub board : engine.Counts old.board new.board (stop ≡ Some Disk)
  pub later : old.faults ≤ new.faults
  pub output : stop ≡ Some Output → Rose old.faults new.faults
  pub same : (stop ≡ Some Output → ⊥) → new.faults ≡ old.faults
  pub memory : stop ≡ Some Memory → IsTrue k.rules.takes_memory

-- Where the board tells its content, it went on from any history that it stood for. Whatever it tells, the machine took these items
-- and can go on, unless it stopped.
pub record Goes {I M : Type 0} (k : Kind I M) (old new : World I M) (items : List I) (stop : Option StepStop) : Type 0 where
  pub went : IsTrue new.board.tells → (Z : List ℕ) (H : List (Entry I)) → Holds k.rules k.view Z H old.board old.engine → Went k Z H old new items stop
  pub moves : stop ≡ None → (Z : List ℕ) (H : List (Entry I)) → Lawful k.rules Z H → (k.view old.engine.machine).shows Z H → Moved k.rules (k.view new.engine.machine) Z H items
  pub live : stop ≡ None → IsLive new.engine × HasPlace new.board new.engine
  pub counts : Counts k old new stop
