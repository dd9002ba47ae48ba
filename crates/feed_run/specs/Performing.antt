-- What a run over a feed does before its last line.
use Rattle.std.specs.Prelude.{◌≡◌, ◌⊎◌, ℕ, List, [], Option, Some, IsTrue, Result, Ok, Err}
use Rattle.board_core.specs.Feed.{Arrivals}
use Rattle.board_core.specs.declared.feed.Arrival.{Arrival}
use Rattle.pef_engine.specs.declared.entry.Entry.{Entry}
use Rattle.pef_engine.specs.Rules.{Lawful, Stands, StandsForNone}
use Rattle.report_line.specs.declared.ending.Ending.{Ending}
use Rattle.report_line.specs.declared.ending.Ending.TheVariants as ending
use Rattle.script_run.specs.Going.{Kind}
use Rattle.script_run.specs.Top.{IsUntouched, MayRefuse}
use Rattle.script_run.specs.Performing.{step_ending, OutsideCounts}
use Rattle.feed_run.specs.declared.stop.FeedStop.{FeedStop}
use Rattle.feed_run.specs.declared.stop.FeedStop.TheVariants.{Step, Failed, Unfinished}
use Rattle.feed_run.specs.Top.{Around, plain, FeedAnswers, IsFeedEnd}

abbrev pub feed_ending : Result ℕ FeedStop → Ending
feed_ending (Ok count) = ending.Done count
feed_ending (Err (Unfinished id count)) = ending.Unfinished id count
feed_ending (Err Failed) = ending.Input
feed_ending (Err (Step stop)) = step_ending stop

-- All that a run over a feed does but its last line.
pub record Performs {I M : Type 0} (k : Kind I M) (item_at : Arrival → Option I) (most : ℕ) (old new : Around) (end : Ending) : Type 0 where
  pub is_end : IsFeedEnd end
  pub answers : IsTrue new.board.tells → (Z : List ℕ) (H : List (Entry I)) (before : Arrivals) → Lawful k.rules Z H → Stands k.rules Z H old.board.octets → old.arrivals ≡ Some before → FeedAnswers k item_at most Z H before old new end []
  pub unformatted : end ≡ ending.Unformatted → IsTrue new.board.tells → StandsForNone k.rules old.board.octets
  pub refuses : IsTrue new.board.tells → StandsForNone k.rules old.board.octets → MayRefuse k old.board.octets end × IsUntouched old.board new.board
  pub quiet : (end ≡ ending.Unformatted) ⊎ (IsTrue new.board.tells × StandsForNone k.rules old.board.octets) → (new.written ≡ old.written) × (new.arrivals ≡ old.arrivals)
  pub memory : end ≡ ending.Memory → IsTrue k.rules.takes_memory ⊎ (IsTrue new.board.tells → IsUntouched old.board new.board)
  pub counts : OutsideCounts (plain old) (plain new) end
