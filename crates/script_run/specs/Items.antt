-- Which items a text still has to give after a history.
use Rattle.std.specs.Prelude.{ℕ, ◌&&◌, Bool, IsFalse, nat_eq, if◌then◌else◌, List, [], ◌∷◌, ◌++◌, drop, Option, Some, None}
use Rattle.pef_engine.specs.declared.entry.Entry.{Entry}
use Rattle.pef_engine.specs.declared.script.Script.{Script}
use Rattle.pef_engine.specs.Scripts.{ScriptRules, script_of}
use Rattle.script_text.specs.Script.{Given, Said, said_of}

-- they have one ID and one count
abbrev pub is_same : Script → ℕ → ℕ → Bool
is_same script id count = nat_eq script.id id && nat_eq script.count count

-- another script was opened and is unfinished
abbrev pub IsOther : {I : Type 0} → Option Script → Option (Said I) → Type 0
IsOther None said = ⊥
IsOther (Some script) None = ⊥
IsOther (Some script) (Some said) = IsFalse script.closed × IsFalse (is_same script said.id said.count)

-- the closing item, where no line is bad
abbrev pub closing_of : {I : Type 0} → ScriptRules I → Option ℕ → List I
closing_of scripts None = scripts.closing ∷ []
closing_of scripts (Some number) = []

-- the items behind so many that were taken, and the closing item
abbrev pub rest_of : {I : Type 0} → ScriptRules I → ℕ → Given I → List I
rest_of scripts taken given = drop taken given.items ++ closing_of scripts given.bad

-- what a text says to a machine with these scripts
abbrev pub text_says : {I : Type 0} → ScriptRules I → List ℕ → Option (Said I)
text_says scripts text = said_of scripts.word scripts.item_of text

-- what a text gives behind the script that was opened last
abbrev pub items_after : {I : Type 0} → ScriptRules I → Option Script → Option (Said I) → List I
items_after scripts script None = []
items_after scripts None (Some said) = scripts.opening said.id said.count ∷ rest_of scripts 0 said.given
items_after scripts (Some script) (Some said) =
    if script.closed then (if is_same script said.id said.count then [] else scripts.opening said.id said.count ∷ rest_of scripts 0 said.given)
    else (if is_same script said.id said.count then rest_of scripts script.taken said.given else [])

-- The items that a text gives after a history, beside the script that was opened last. One of the same ID and count gives none where
-- that one is closed, and goes on behind the items that were taken where it is unfinished; another one begins where that one is
-- closed, and gives none where it is unfinished. Where line 1 is bad there are none.
abbrev pub items_of_text : {I : Type 0} → ScriptRules I → List ℕ → List (Entry I) → List I
items_of_text scripts text H = items_after scripts (script_of scripts H) (text_says scripts text)
