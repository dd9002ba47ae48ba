-- What `receive` and `listen` promise of acknowledgements, beside what every run does.
use Rattle.std.specs.Prelude.{◌≡◌, ◌⊎◌, ℕ, List, ◌++◌, Option, Some, IsTrue}
use Rattle.board_core.specs.declared.step.Step.{Step}
use Rattle.board_core.specs.declared.step.Sent.{Sent}
use Rattle.board_core.specs.Feed.{Arrivals}
use Rattle.board_core.specs.Board.{BoardView, CrashState, NeverSynced, Only, SyncsFirst, steps_of}
use Rattle.pef_engine.specs.declared.entry.Entry.{Entry}
use Rattle.pef_engine.specs.Rules.{Lawful, Stands}
use Rattle.script_run.specs.Going.{Kind, kind}
use Rattle.script_run.specs.Top.{ReturnLeft}
use Rattle.trap_console.specs.declared.console.Console.{Console}
use Rattle.trap_console.specs.declared.item.Item.{Item}
use Rattle.trap_console.specs.Acks.{AckRows}
use Rattle.trap_console.specs.Firsts.{firsts, traps_of}
use Rattle.trap_console.specs.Heard.{rows_of}
use Rattle.trap_console.specs.Histories.{ack_port, console_rules}
use Rattle.trap_console.specs.Report.{console_scripts}
use Rattle.trap_console.specs.View.{view_of}

-- the console as a machine that takes captures
abbrev pub console_kind : Kind Item Console
console_kind = kind console_rules view_of console_scripts

-- What is left is a ledger: its rows are the first of each trap that it took, and whatever was issued in the call acknowledges a trap
-- whose key has a row in it.
pub record HasAcked (Z : List ℕ) (sent : List Sent) (left : CrashState) : Type 0 where
  pub history : List (Entry Item)
  pub lawful : Lawful console_rules Z history
  pub stands : Stands console_rules Z history left.image
  pub rows : rows_of history ≡ firsts (traps_of history)
  pub steps : List Step
  pub issued : left.issued ≡ steps_of sent ++ steps
  pub acks : AckRows (ack_port Z) (rows_of history) steps

-- Where the file held a console's history, so it is at the return, and at each moment from the first sync on, before which nothing is
-- issued; and at each moment of the call where all of the file was on the disk at the start.
pub record KeepsAcks (Z : List ℕ) (old new : BoardView) : Type 0 where
  pub moments : NeverSynced old new ⊎ SyncsFirst old new (HasAcked Z old.sent)
  pub returned : HasAcked Z old.sent (ReturnLeft new)
  pub whole_call : Only old.octets old.images → (c : CrashState) → new.left_since old.moment c → HasAcked Z old.sent c

abbrev pub AcksAreKept : Option (List ℕ) → BoardView → BoardView → Type 0
AcksAreKept source old new =
    IsTrue new.tells → (Z : List ℕ) (H : List (Entry Item)) (text : List ℕ) → Lawful console_rules Z H → Stands console_rules Z H old.octets → source ≡ Some text → KeepsAcks Z old new

-- the same of what a feed tells
abbrev pub AcksAreKeptOver : Option Arrivals → BoardView → BoardView → Type 0
AcksAreKeptOver feed old new =
    IsTrue new.tells → (Z : List ℕ) (H : List (Entry Item)) (before : Arrivals) → Lawful console_rules Z H → Stands console_rules Z H old.octets → feed ≡ Some before → KeepsAcks Z old new
