-- What the arrivals of a feed are to a machine.
use Rattle.std.specs.Prelude.{◌≡◌, ⊤, ℕ, true, List, [], ◌∷◌, ◌++◌, Option, Some, None, IfSome, IsSomeAnd, IsTrue, IsFalse, Result, Ok, Err}
use Rattle.board_core.specs.Feed.{Arrivals}
use Rattle.board_core.specs.declared.feed.Arrival.{Arrival}
use Rattle.pef_engine.specs.declared.entry.Entry.{Entry}
use Rattle.pef_engine.specs.declared.script.Script.{Script}
use Rattle.pef_engine.specs.CrashFree.{option_list}
use Rattle.pef_engine.specs.Rules.{Rules, Lawful}
use Rattle.pef_engine.specs.MachineView.{MachineView}
use Rattle.pef_engine.specs.Scripts.{ScriptRules, script_of}
use Rattle.feed_run.specs.declared.stop.FeedStop.{FeedStop}
use Rattle.feed_run.specs.declared.stop.FeedStop.TheVariants.{Step, Failed, Unfinished}

-- the items of arrivals, in order; some have none
abbrev pub items_given : {I : Type 0} → (Arrival → Option I) → List Arrival → List I
items_given item_at [] = []
items_given item_at (arrival ∷ arrivals) = option_list (item_at arrival) ++ items_given item_at arrivals

-- the feed gave these arrivals, where it tells
abbrev pub Gave : Option Arrivals → Option Arrivals → List Arrival → Type 0
Gave (Some old) (Some new) fresh = (old.coming ≡ fresh ++ new.coming) × (new.given ≡ old.given ++ fresh)
Gave (Some old) None fresh = ⊥
Gave None (Some new) fresh = ⊥
Gave None None fresh = ⊤

-- nothing is left to arrive, and the end was told, where the feed tells
abbrev pub HasEnded : Option Arrivals → Type 0
HasEnded (Some arrivals) = (arrivals.ended ≡ true) × (arrivals.coming ≡ [])
HasEnded None = ⊤

-- one call gave the first of what was to arrive, or told the end, or failed
abbrev pub GivesNext : Option Arrivals → Option Arrivals → Result (Option Arrival) FeedStop → Type 0
GivesNext old new (Ok (Some arrival)) = Gave old new (arrival ∷ [])
GivesNext old new (Ok None) = Gave old new [] × HasEnded new
GivesNext old new (Err stop) = Gave old new []

-- the script that was opened last isn't closed
abbrev pub IsUnfinished : Option Script → Type 0
IsUnfinished script = IsSomeAnd script (λ s. IsFalse s.closed)

-- and has this ID and this count
abbrev pub NamesIt : Option Script → ℕ → ℕ → Type 0
NamesIt script id count = IsSomeAnd script (λ s. IsFalse s.closed × (s.id ≡ id) × (s.count ≡ count))

abbrev pub Refuses : Option Script → Result Unit FeedStop → Type 0
Refuses script (Ok done) = IfSome script (λ s. IsTrue s.closed)
Refuses script (Err (Unfinished id count)) = NamesIt script id count
Refuses script (Err Failed) = ⊥
Refuses script (Err (Step stop)) = ⊥

-- nothing is due, and no script is unfinished
pub record TakesAny {I : Type 0} (rules : Rules I) (scripts : ScriptRules I) (view : MachineView I) : Type 0 where
  pub settings : List ℕ
  pub history : List (Entry I)
  pub lawful : Lawful rules settings history
  pub shows : view.shows settings history
  pub idle : view.due ≡ None
  pub closed : IfSome (script_of scripts history) (λ s. IsTrue s.closed)
