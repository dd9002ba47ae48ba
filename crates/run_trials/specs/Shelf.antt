-- A small machine for the tests, with a limit of its own and with room that it takes item by item. Of an item it keeps that it came, and
-- it has room for three of them; it asks for no steps.
use Rattle.std.specs.Prelude.{◌≡◌, ◌↔◌, ⊤, ℕ, ◌+◌, ◌≤◌, ◌<◌, ◌^◌, Bool, true, false, bytes_eq, if◌then◌else◌, codes, List, [], ◌∷◌, ◌++◌, length, Option, Some, None, IsSome, refl}
use Rattle.std.proofs.Common.{sym, ◌∙◌, ap, subst, arith}
use Rattle.board_core.specs.declared.step.Step.{Step}
use Rattle.board_core.specs.declared.step.Told.{Told}
use Rattle.board_core.specs.declared.step.Told.TheVariants.{Done, Failed}
use Rattle.pef_engine.specs.declared.entry.Entry.{Entry}
use Rattle.pef_engine.specs.declared.entry.Entry.TheVariants.{Item, Outcome}
use Rattle.pef_engine.specs.declared.marks.Mark.{Mark}
use Rattle.pef_engine.specs.declared.marks.Mark.TheVariants.{Open, Close, Outcome as MarkOutcome}
use Rattle.pef_engine.specs.declared.script.Script.{Script}
use Rattle.pef_engine.specs.declared.script.ScriptStep.{ScriptStep}
use Rattle.pef_engine.specs.declared.script.ScriptStep.TheVariants.{Opens, Takes, Closes}
use Rattle.pef_engine.specs.Marks.{mark_octets}
use Rattle.pef_engine.specs.Rules.{Rules, Allowed, Lawful}
use Rattle.pef_engine.specs.MachineView.{MachineView, KeepsAllButReady, Agrees}
use Rattle.pef_engine.specs.Scripts.{ScriptRules, MayCome, IsScripted, script_of}
use Rattle.script_text.specs.Script.{Said, said}
use Rattle.script_run.specs.Going.{Kind, kind}

-- how many an item puts on the shelf
abbrev pub put_by : ScriptStep → ℕ
put_by (Opens id count) = 0
put_by Takes = 1
put_by Closes = 0

-- how many these entries put there
abbrev pub held_in : List (Entry ScriptStep) → ℕ
held_in [] = 0
held_in (Item item ∷ H) = put_by item + held_in H
held_in (Outcome told ∷ H) = held_in H

-- where so many are held there is no room for this item
abbrev pub IsBeyond : ℕ → ScriptStep → Type 0
IsBeyond held (Opens id count) = ⊥
IsBeyond held Takes = 3 ≤ held
IsBeyond held Closes = ⊥

-- the room for this item is made, where so many are held
abbrev pub HasPlaceFor : ℕ → ℕ → ScriptStep → Type 0
HasPlaceFor held room (Opens id count) = ⊤
HasPlaceFor held room Takes = held < room
HasPlaceFor held room Closes = ⊤

-- numbers of 32 bits
abbrev pub IsShelfEntry : Entry ScriptStep → Type 0
IsShelfEntry (Item (Opens id count)) = (id < 2 ^ 32) × (count < 2 ^ 32)
IsShelfEntry (Item Takes) = ⊤
IsShelfEntry (Item Closes) = ⊤
IsShelfEntry (Outcome told) = ⊤

abbrev pub shelf_encode : Entry ScriptStep → List ℕ
shelf_encode (Item (Opens id count)) = mark_octets (Open id count)
shelf_encode (Item Takes) = 1 ∷ []
shelf_encode (Item Closes) = mark_octets Close
shelf_encode (Outcome told) = mark_octets (MarkOutcome told)

-- the entry of a mark
abbrev pub entry_of : Mark → Entry ScriptStep
entry_of (Open id count) = Item (Opens id count)
entry_of Close = Item Closes
entry_of (MarkOutcome told) = Outcome told

-- the item of a line: `put`
abbrev pub shelf_item : List ℕ → Option ScriptStep
shelf_item line = if bytes_eq line (codes "put") then Some Takes else None

abbrev pub shelf_line : ScriptStep → List ℕ
shelf_line (Opens id count) = codes "opened\n"
shelf_line Takes = codes "put\n"
shelf_line Closes = codes "closed\n"

abbrev pub shelf_scripts : ScriptRules ScriptStep
shelf_scripts = record {
  word = codes "script";
  opening = Opens;
  closing = Closes;
  item_of = shelf_item;
  step = λ item. item;
  item_line = λ Z H item. shelf_line item;
}

abbrev pub no_step : Option Step
no_step = None

abbrev pub shelf_rules : Rules ScriptStep
shelf_rules = record {
  kind = record { number = 2; settings = 2 };
  is_entry = λ e. IsShelfEntry e;
  encode = shelf_encode;
  pending = λ Z H. no_step;
  may_take = λ Z H item. MayCome (script_of shelf_scripts H) item × IsShelfEntry (Item item);
  over = λ Z H item. IsBeyond (held_in H) item;
  takes_memory = true;
}

abbrev pub AllowedOn : Option Script → Entry ScriptStep → Type 0
AllowedOn script (Item item) = (no_step ≡ None) × (MayCome script item × IsShelfEntry (Item item))
AllowedOn script (Outcome told) = IsSome no_step

-- it is the shelf of this history
pub record ShowsShelf (script : Option Script) (held : ℕ) (Z : List ℕ) (H : List (Entry ScriptStep)) : Type 0 where
  pub script_is : script ≡ script_of shelf_scripts H
  pub held_is : held ≡ held_in H

abbrev pub shelf_view : Option Script → ℕ → ℕ → MachineView ScriptStep
shelf_view script held room = record {
  shows = ShowsShelf script held;
  due = no_step;
  allowed = AllowedOn script;
  ready = HasPlaceFor held room;
  over = IsBeyond held;
  left = 0;
}

pub shelf_size : (one other : Told) → length (shelf_encode (Outcome one)) ≡ length (shelf_encode (Outcome other))
shelf_size Done Done = refl
shelf_size Done Failed = refl
shelf_size Failed Done = refl
shelf_size Failed Failed = refl

pub shelf_octet : (e : Entry ScriptStep) → 1 ≤ length (shelf_encode e)
shelf_octet (Item (Opens id count)) = omega arith
shelf_octet (Item Takes) = omega arith
shelf_octet (Item Closes) = omega arith
shelf_octet (Outcome Done) = omega arith
shelf_octet (Outcome Failed) = omega arith

pub shelf_entries : (Z : List ℕ) (H : List (Entry ScriptStep)) (e : Entry ScriptStep) → Allowed shelf_rules Z H e → IsShelfEntry e
shelf_entries Z H (Item item) allowed = allowed.1.1
shelf_entries Z H (Outcome told) allowed = tt

pub shelf_agrees : (script : Option Script) (held room : ℕ) → Agrees shelf_rules (shelf_view script held room)
shelf_agrees script held room = record {
  due = λ Z H lawful shows. refl;
  allowed = agree;
  over = λ Z H item lawful shows. (λ a. subst (λ n. IsBeyond n item) shows.held_is a, λ a. subst (λ n. IsBeyond n item) (sym shows.held_is) a);
  outcome = λ told. (λ a. a, λ a. a);
  item = λ item allowed. refl;
}
  where
    agree : (Z : List ℕ) (H : List (Entry ScriptStep)) (e : Entry ScriptStep) → Lawful shelf_rules Z H → ShowsShelf script held Z H → AllowedOn script e ↔ Allowed shelf_rules Z H e
    agree Z H (Item item) lawful shows = (
      λ a. (refl, (subst (λ s. MayCome s item) shows.script_is a.1.0, a.1.1)),
      λ a. (refl, (subst (λ s. MayCome s item) (sym shows.script_is) a.1.0, a.1.1)),
    )
    agree Z H (Outcome told) lawful shows = (λ a. a, λ a. a)

put_takes : (line : List ℕ) (item : ScriptStep) → shelf_item line ≡ Some item → item ≡ Takes
put_takes line item is = by (bytes_eq line (codes "put")) is
  where
    by : (b : Bool) → (if b then Some Takes else None) ≡ Some item → item ≡ Takes
    by true e = cc e
    by false e = absurd (cc e)

pub shelf_scripted : IsScripted shelf_rules shelf_scripts
shelf_scripted = record {
  opens = λ id count. refl;
  closes = refl;
  takes = put_takes;
  may = λ Z H item. (λ a. a, λ a. a);
}

-- more room changes nothing else
pub shelf_kept : (script : Option Script) (held room more_held more_room : ℕ) → more_held ≡ held → KeepsAllButReady (shelf_view script held room) (shelf_view script more_held more_room)
shelf_kept script held room more_held more_room same = subst (λ n. KeepsAllButReady (shelf_view script held room) (shelf_view script n more_room)) (sym same)
    (record { shows = λ Z H s. s; due = refl; allowed = λ e. (λ a. a, λ a. a); over = λ item. (λ a. a, λ a. a); left = refl })

abbrev pub shelf_settings : List ℕ
shelf_settings = 0 ∷ 0 ∷ []

-- the kind of machine, of which the conditions of a run need the rules and the scripts alone
abbrev pub shelf_kind : Kind ScriptStep ℕ
shelf_kind = kind shelf_rules (λ held. shelf_view None held 0) shelf_scripts

-- a script of so many items
abbrev pub script_of_puts : ℕ → List ScriptStep → Said ScriptStep
script_of_puts count puts = said 1 count puts None
