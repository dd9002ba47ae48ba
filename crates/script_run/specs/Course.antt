-- How a script goes on behind the one that was opened last.
use Rattle.std.specs.Prelude.{◌≡◌, ⊤, ℕ, List, [], ◌∷◌, Option, Some, None, IsTrue, IsFalse, Result, Ok, Err}
use Rattle.pef_engine.specs.declared.entry.Entry.{Entry}
use Rattle.pef_engine.specs.declared.script.Script.{Script}
use Rattle.pef_engine.specs.Rules.{Rules, Lawful}
use Rattle.pef_engine.specs.MachineView.{MachineView}
use Rattle.pef_engine.specs.Scripts.{ScriptRules, script_of}
use Rattle.script_text.specs.Script.{Given}
use Rattle.script_run.specs.declared.course.Course.{Course}
use Rattle.script_run.specs.declared.course.Course.TheVariants.{Over, GoesOn, Begins}
use Rattle.script_run.specs.declared.stop.ScriptStop.{ScriptStop}
use Rattle.script_run.specs.declared.stop.ScriptStop.TheVariants.{Unfinished, Lines}
use Rattle.script_run.specs.Items.{is_same, rest_of}

-- how a script of this ID and count goes on behind the one that was opened last
abbrev pub IsCourse : Option Script → ℕ → ℕ → Course → Type 0
IsCourse None id count Begins = ⊤
IsCourse None id count Over = ⊥
IsCourse None id count (GoesOn taken) = ⊥
IsCourse (Some s) id count Begins = IsTrue s.closed × IsFalse (is_same s id count)
IsCourse (Some s) id count Over = IsTrue s.closed × IsTrue (is_same s id count)
IsCourse (Some s) id count (GoesOn taken) = IsFalse s.closed × IsTrue (is_same s id count) × (s.taken ≡ taken)

-- another script is unfinished, the one with their ID and count
abbrev pub IsAnother : Option Script → ℕ → ℕ → ℕ → ℕ → Type 0
IsAnother None id count their_id their_count = ⊥
IsAnother (Some s) id count their_id their_count = IsFalse s.closed × IsFalse (is_same s id count) × (s.id ≡ their_id) × (s.count ≡ their_count)

abbrev pub GivesCourse : Option Script → ℕ → ℕ → Result Course ScriptStop → Type 0
GivesCourse script id count (Ok course) = IsCourse script id count course
GivesCourse script id count (Err (Unfinished their_id their_count)) = IsAnother script id count their_id their_count
GivesCourse script id count (Err (Lines stop)) = ⊥

-- the items of a script that are still to come on this course
abbrev pub items_on : {I : Type 0} → ScriptRules I → ℕ → ℕ → Given I → Course → List I
items_on scripts id count given Begins = scripts.opening id count ∷ rest_of scripts 0 given
items_on scripts id count given Over = []
items_on scripts id count given (GoesOn taken) = rest_of scripts taken given

-- the machine shows a lawful history behind which a script of this ID and count takes this course
pub record TakesCourse {I : Type 0} (rules : Rules I) (scripts : ScriptRules I) (view : MachineView I) (id count : ℕ) (course : Course) : Type 0 where
  pub settings : List ℕ
  pub history : List (Entry I)
  pub lawful : Lawful rules settings history
  pub shows : view.shows settings history
  pub stands : IsCourse (script_of scripts history) id count course
