-- What becomes of what a feed gives.
use Rattle.std.specs.Prelude.{◌≡◌, ◌⊎◌, ⊤, ℕ, ◌≤◌, List, [], length, Option, Some, None, IsTrue, Result, Ok, Err, IfOk, OnOk}
use Rattle.board_core.specs.Causes.{Rose}
use Rattle.board_core.specs.Feed.{Arrivals}
use Rattle.board_core.specs.declared.feed.Arrival.{Arrival}
use Rattle.pef_engine.specs.declared.entry.Entry.{Entry}
use Rattle.pef_engine.specs.Engine.{Holds}
use Rattle.script_run.specs.declared.stop.StepStop.{StepStop}
use Rattle.script_run.specs.Going.{Kind, World, Goes}
use Rattle.feed_run.specs.declared.stop.FeedStop.{FeedStop}
use Rattle.feed_run.specs.declared.stop.FeedStop.TheVariants.{Step, Failed, Unfinished}
use Rattle.feed_run.specs.Arriving.{items_given, Gave, HasEnded}

-- where the feed stands: what it tells, and its count of failures
pub record FeedAt : Type 0 where
  pub arrivals : Option Arrivals
  pub faults : ℕ

abbrev pub feed_at : Option Arrivals → ℕ → FeedAt
feed_at arrivals faults = record { arrivals = arrivals; faults = faults }

-- the step that stopped it
abbrev pub feed_step : Result ℕ FeedStop → Option StepStop
feed_step (Err (Step stop)) = Some stop
feed_step other = None

-- it asked the feed until the end, or until so many arrivals were given, or the feed failed
abbrev pub IsAsked : Result ℕ FeedStop → Type 0
IsAsked (Ok items) = ⊤
IsAsked (Err Failed) = ⊤
IsAsked other = ⊥

-- a script is named that is unfinished
abbrev pub IsRefusal : Result ℕ FeedStop → Type 0
IsRefusal result = (id : ℕ) × (count : ℕ) × (result ≡ Err (Unfinished id count))

-- it went on so, and where a step stopped it, at most the last item isn't stored
pub record GoesFew {I M : Type 0} (k : Kind I M) (old new : World I M) (items : List I) (stop : Option StepStop) : Type 0 where
  pub goes : Goes k old new items stop
  pub few : (tells : IsTrue new.board.tells) (Z : List ℕ) (H : List (Entry I)) (holds : Holds k.rules k.view Z H old.board old.engine) → length (goes.went tells Z H holds).rest ≤ 1

-- The feed gave some arrivals, at most so many, and their items were taken, all of them unless a step stopped it.
pub record Feeds {I M : Type 0} (k : Kind I M) (item_at : Arrival → Option I) (most : ℕ) (old new : World I M) (from to : FeedAt) (result : Result ℕ FeedStop) : Type 0 where
  pub fresh : List Arrival
  pub gave : Gave from.arrivals to.arrivals fresh
  pub at_most : length fresh ≤ most
  pub goes : GoesFew k old new (items_given item_at fresh) (feed_step result)
  pub idle : IsAsked result → (k.view new.engine.machine).due ≡ None
  pub counted : IfOk result (λ items. items ≡ length (items_given item_at fresh))
  pub all : OnOk result ((length fresh ≡ most) ⊎ HasEnded to.arrivals)
  -- where a script is unfinished nothing is asked
  pub refused : (id count : ℕ) → result ≡ Err (Unfinished id count) → fresh ≡ []
  pub later : from.faults ≤ to.faults
  pub failed : result ≡ Err Failed → Rose from.faults to.faults
  pub same : (result ≡ Err Failed → ⊥) → to.faults ≡ from.faults

-- so far these arrivals were given, and their items taken
pub record Feeding {I M : Type 0} (k : Kind I M) (item_at : Arrival → Option I) (old now : World I M) (from at : FeedAt) (given items : ℕ) : Type 0 where
  pub fresh : List Arrival
  pub gave : Gave from.arrivals at.arrivals fresh
  pub goes : GoesFew k old now (items_given item_at fresh) None
  pub same : at.faults ≡ from.faults
  pub asked : given ≡ length fresh
  pub counted : items ≡ length (items_given item_at fresh)
