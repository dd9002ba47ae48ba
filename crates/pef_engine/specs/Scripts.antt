-- What scripts mean to a machine.
use Rattle.std.specs.Prelude.{◌≡◌, ◌↔◌, ⊤, ℕ, ◌+◌, ◌≤◌, ◌<◌, true, false, if◌then◌else◌, IsTrue, IsFalse, List, [], ◌∷◌, Option, Some, None, IfSome, IsSomeAnd}
use Rattle.pef_engine.specs.declared.entry.Entry.{Entry}
use Rattle.pef_engine.specs.declared.entry.Entry.TheVariants.{Item, Outcome}
use Rattle.pef_engine.specs.declared.script.Script.{Script}
use Rattle.pef_engine.specs.declared.script.ScriptStep.{ScriptStep}
use Rattle.pef_engine.specs.declared.script.ScriptStep.TheVariants.{Opens, Takes, Closes}
use Rattle.pef_engine.specs.Rules.{Rules}

-- one item more was taken from the script, unless it is closed
abbrev pub one_taken : Option Script → Option Script
one_taken None = None
one_taken (Some script) = Some (if script.closed then script else record script { taken = script.taken + 1 })

-- all of the script was taken
abbrev pub closed : Option Script → Option Script
closed None = None
closed (Some script) = Some (record script { closed = true })

-- the script behind an item, where this one was opened last before it
abbrev pub script_with : Option Script → ScriptStep → Option Script
script_with script (Opens id count) = Some (record { id = id; count = count; taken = 0; closed = false })
script_with script Takes = one_taken script
script_with script Closes = closed script

-- Which items may come, by the script that was opened last: an item of a script where none is unfinished or the unfinished one has
-- items left; the opening of one of at most 1,000,000 items where none is unfinished; its closing once all were taken.
abbrev pub MayCome : Option Script → ScriptStep → Type 0
MayCome script (Opens id count) = IfSome script (λ s. IsTrue s.closed) × (count ≤ 1_000_000)
MayCome script Takes = IfSome script (λ s. IsFalse s.closed → s.taken < s.count)
MayCome script Closes = IsSomeAnd script (λ s. IsFalse s.closed × (s.taken ≡ s.count))

-- what a machine's scripts say to it, and what it says of the items that it takes
pub record ScriptRules (I : Type 0) : Type 1 where
  -- the first word of a script
  pub word : List ℕ
  -- the items that open and close a script
  pub opening : ℕ → ℕ → I
  pub closing : I
  -- the item of a line between head and end, and None where the line is bad
  pub item_of : List ℕ → Option I
  -- what an item does to the script that was opened last
  pub step : I → ScriptStep
  -- the report's line of an item that comes behind a history under these settings
  pub item_line : List ℕ → List (Entry I) → I → List ℕ

-- the script that was opened last, where this one was before these entries
abbrev pub script_from : {I : Type 0} → ScriptRules I → Option Script → List (Entry I) → Option Script
script_from scripts script [] = script
script_from scripts script (Item item ∷ H) = script_from scripts (script_with script (scripts.step item)) H
script_from scripts script (Outcome told ∷ H) = script_from scripts script H

-- the script that was opened last in a history
abbrev pub script_of : {I : Type 0} → ScriptRules I → List (Entry I) → Option Script
script_of scripts H = script_from scripts None H

-- the script that is unfinished has this count, of which so many items were taken
abbrev pub Awaits : Option Script → ℕ → ℕ → Type 0
Awaits None count taken = ⊥
Awaits (Some script) count taken = IsFalse script.closed × (script.count ≡ count) × (script.taken ≡ taken)

-- no more items were taken than a script has, and it has at most 1,000,000
abbrev pub IsWithin : Option Script → Type 0
IsWithin None = ⊤
IsWithin (Some script) = (script.taken ≤ script.count) × (script.count ≤ 1_000_000)

-- a machine's rule of which items may come is the rule of scripts
pub record IsScripted {I : Type 0} (rules : Rules I) (scripts : ScriptRules I) : Type 0 where
  pub opens : (id count : ℕ) → scripts.step (scripts.opening id count) ≡ Opens id count
  pub closes : scripts.step scripts.closing ≡ Closes
  pub takes : (line : List ℕ) (item : I) → scripts.item_of line ≡ Some item → scripts.step item ≡ Takes
  pub may : (Z : List ℕ) (H : List (Entry I)) (item : I) → rules.may_take Z H item ↔ (MayCome (script_of scripts H) (scripts.step item) × rules.is_entry (Item item))
