-- The script that was opened last, entry by entry.
use Rattle.std.proofs.Common.{◌≡◌, List, [], ◌∷◌, ◌++◌, Option, refl}
use Rattle.pef_engine.specs.declared.entry.Entry.{Entry}
use Rattle.pef_engine.specs.declared.entry.Entry.TheVariants.{Item, Outcome}
use Rattle.pef_engine.specs.declared.script.Script.{Script}
use Rattle.pef_engine.specs.Scripts.{ScriptRules, script_with, script_from}

pub from-append : {I : Type 0} (scripts : ScriptRules I) (script : Option Script) (H K : List (Entry I)) → script_from scripts script (H ++ K) ≡ script_from scripts (script_from scripts script H) K
from-append scripts script [] K = refl
from-append scripts script (Item item ∷ H) K = from-append scripts (script_with script (scripts.step item)) H K
from-append scripts script (Outcome told ∷ H) K = from-append scripts script H K
