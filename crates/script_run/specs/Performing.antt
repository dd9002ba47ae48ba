-- What a run does before its last line.
use Rattle.std.specs.Prelude.{◌≡◌, ◌⊎◌, ◌≤◌, ℕ, List, [], Some, IsTrue, Result, Ok, Err}
use Rattle.board_core.specs.Causes.{Rose}
use Rattle.pef_engine.specs.declared.entry.Entry.{Entry}
use Rattle.pef_engine.specs.declared.faults.EngineFault.{EngineFault}
use Rattle.pef_engine.specs.declared.faults.EngineFault.TheVariants as fault
use Rattle.pef_engine.specs.Rules.{Lawful, Stands, StandsForNone}
use Rattle.pef_engine.specs.Engine as engine
use Rattle.report_line.specs.declared.ending.Ending.{Ending}
use Rattle.report_line.specs.declared.ending.Ending.TheVariants.{Done, Unformatted, Line, Unfinished, Input, Disk, Output, Full, Memory}
use Rattle.script_run.specs.declared.stop.StepStop.{StepStop}
use Rattle.script_run.specs.declared.stop.StepStop.TheVariants as step
use Rattle.script_run.specs.declared.stop.LineStop.TheVariants as line
use Rattle.script_run.specs.declared.stop.ScriptStop.{ScriptStop}
use Rattle.script_run.specs.declared.stop.ScriptStop.TheVariants as script
use Rattle.script_run.specs.Going.{Kind}
use Rattle.script_run.specs.Top.{Outside, RunAnswers, IsUntouched, MayRefuse, IsRunEnd}

abbrev pub step_ending : StepStop → Ending
step_ending step.Disk = Disk
step_ending step.Output = Output
step_ending step.Full = Full
step_ending step.Memory = Memory

abbrev pub script_ending : Result ℕ ScriptStop → Ending
script_ending (Ok count) = Done count
script_ending (Err (script.Unfinished id count)) = Unfinished id count
script_ending (Err (script.Lines (line.Line number))) = Line number
script_ending (Err (script.Lines line.Input)) = Input
script_ending (Err (script.Lines (line.Step stop))) = step_ending stop

abbrev pub open_ending : EngineFault → Ending
open_ending fault.NotFormatted = Unformatted
open_ending (fault.Corrupt at) = Unformatted
open_ending fault.DiskFault = Disk
open_ending fault.Full = Full
open_ending (fault.Memory error) = Memory

-- the counts of a call: a failure has raised its count, and else that is what it was
pub record OutsideCounts (old new : Outside) (end : Ending) : Type 0 where
  pub board : engine.Counts old.board new.board (end ≡ Disk)
  pub reads_later : old.reads ≤ new.reads
  pub reads : end ≡ Input → Rose old.reads new.reads
  pub reads_same : (end ≡ Input → ⊥) → new.reads ≡ old.reads
  pub writes_later : old.writes ≤ new.writes
  pub writes : end ≡ Output → Rose old.writes new.writes
  pub writes_same : (end ≡ Output → ⊥) → new.writes ≡ old.writes

-- All that a run does but its last line.
pub record Performs {I M : Type 0} (k : Kind I M) (old new : Outside) (end : Ending) : Type 0 where
  pub is_end : IsRunEnd end
  pub answers : IsTrue new.board.tells → (Z : List ℕ) (H : List (Entry I)) (text : List ℕ) → Lawful k.rules Z H → Stands k.rules Z H old.board.octets → old.unread ≡ Some text → RunAnswers k Z H text old new end []
  pub unformatted : end ≡ Unformatted → IsTrue new.board.tells → StandsForNone k.rules old.board.octets
  pub refuses : IsTrue new.board.tells → StandsForNone k.rules old.board.octets → MayRefuse k old.board.octets end × IsUntouched old.board new.board
  pub quiet : (end ≡ Unformatted) ⊎ (IsTrue new.board.tells × StandsForNone k.rules old.board.octets) → new.written ≡ old.written
  pub memory : end ≡ Memory → IsTrue k.rules.takes_memory ⊎ (IsTrue new.board.tells → IsUntouched old.board new.board)
  pub counts : OutsideCounts old new end
