-- What is promised of acknowledgements: each is of a trap whose key has a row, so no trap that was acknowledged is lost.
use Rattle.std.specs.Prelude.{◌≡◌, ⊤, ℕ, List, [], ◌∷◌, ◌++◌, IsSome}
use Rattle.board_core.specs.declared.step.Step.{Step}
use Rattle.pef_engine.specs.declared.entry.Entry.{Entry}
use Rattle.pef_engine.specs.CrashFree.{Kept}
use Rattle.trap_console.specs.declared.item.Item.{Item}
use Rattle.trap_console.specs.declared.row.Row.{Row}
use Rattle.trap_console.specs.Received.{ack_step}
use Rattle.trap_console.specs.Rows.{key_of, place_in}
use Rattle.trap_console.specs.Heard.{rows_of}
use Rattle.trap_console.specs.Histories.{ack_port, console_rules}

-- the step acknowledges a trap, and one of the rows has that trap's key
pub record AcksARow (port : ℕ) (rows : List Row) (step : Step) : Type 0 where
  pub trap : Row
  pub is_ack : step ≡ ack_step port trap
  pub has_row : IsSome (place_in rows (key_of trap.body))

abbrev pub AckRows : ℕ → List Row → List Step → Type 0
AckRows port rows [] = ⊤
AckRows port rows (step ∷ steps) = AcksARow port rows step × AckRows port rows steps

-- Where these steps were issued since a file held H, and the file holds H and then K now, each of them acknowledges a row of it.
abbrev pub AcksAreRows : List ℕ → List (Entry Item) → List (Entry Item) → List Step → Type 0
AcksAreRows Z H K steps = Kept console_rules Z H K steps → AckRows (ack_port Z) (rows_of (H ++ K)) steps
