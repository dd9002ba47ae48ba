-- A tiny machine for the tests: it takes octets below 100, and asks for a reset where it has taken an even number of them.
use Rattle.std.specs.Prelude.{◌≡◌, ◌↔◌, ⊤, ℕ, ◌≤◌, ◌<◌, Bool, true, false, not, List, [], ◌∷◌, ◌++◌, length, Option, Some, None, IsSome, refl}
use Rattle.std.proofs.Common.{sym, ◌∙◌, ap, subst, arith}
use Rattle.board_core.specs.declared.step.Step.{Step}
use Rattle.board_core.specs.declared.step.Step.TheVariants.{Act as ActStep}
use Rattle.board_core.specs.declared.step.Act.TheVariants.{Reset}
use Rattle.board_core.specs.declared.step.Told.{Told}
use Rattle.board_core.specs.declared.step.Told.TheVariants.{Done, Failed}
use Rattle.pef_engine.specs.declared.entry.Entry.{Entry}
use Rattle.pef_engine.specs.declared.entry.Entry.TheVariants.{Item, Outcome}
use Rattle.pef_engine.specs.Rules.{Rules, Allowed, Lawful}
use Rattle.pef_engine.specs.MachineView.{MachineView, Agrees}

-- it took an even number of items after these entries, where it took an even one before or not
abbrev pub even_after : Bool → List (Entry ℕ) → Bool
even_after even [] = even
even_after even (Item octet ∷ H) = even_after (not even) H
even_after even (Outcome told ∷ H) = even_after even H

-- a reset is due after these entries, where one was due before or not
abbrev pub due_after : Bool → Bool → List (Entry ℕ) → Bool
due_after even due [] = due
due_after even due (Item octet ∷ H) = due_after (not even) (not even) H
due_after even due (Outcome told ∷ H) = due_after even false H

abbrev pub step_of : Bool → Option Step
step_of true = Some (ActStep Reset 0)
step_of false = None

abbrev pub tally_encode : Entry ℕ → List ℕ
tally_encode (Item octet) = 0 ∷ octet ∷ []
tally_encode (Outcome Done) = 1 ∷ []
tally_encode (Outcome Failed) = 2 ∷ []

abbrev pub tally_entry : Entry ℕ → Type 0
tally_entry (Item octet) = octet < 256
tally_entry (Outcome told) = ⊤

abbrev pub tally_rules : Rules ℕ
tally_rules = record {
  kind = record { number = 2; settings = 2 };
  is_entry = λ e. tally_entry e;
  encode = tally_encode;
  pending = λ Z H. step_of (due_after true false H);
  may_take = λ Z H octet. octet < 100;
  over = λ Z H octet. ⊥;
  takes_memory = false;
}

abbrev pub tally_allowed : Bool → Entry ℕ → Type 0
tally_allowed due (Item octet) = (step_of due ≡ None) × (octet < 100)
tally_allowed due (Outcome told) = IsSome (step_of due)

abbrev pub left_of : Bool → ℕ
left_of true = 1
left_of false = 0

pub record ShowsTally (even due : Bool) (Z : List ℕ) (H : List (Entry ℕ)) : Type 0 where
  pub even_is : even ≡ even_after true H
  pub due_is : due ≡ due_after true false H

abbrev pub tally_view : Bool → Bool → MachineView ℕ
tally_view even due = record {
  shows = ShowsTally even due;
  due = step_of due;
  allowed = tally_allowed due;
  ready = λ item. ⊤;
  over = λ item. ⊥;
  left = left_of due;
}

pub tally_size : (one other : Told) → length (tally_encode (Outcome one)) ≡ length (tally_encode (Outcome other))
tally_size Done Done = refl
tally_size Done Failed = refl
tally_size Failed Done = refl
tally_size Failed Failed = refl

pub tally_octet : (e : Entry ℕ) → 1 ≤ length (tally_encode e)
tally_octet (Item octet) = omega arith
tally_octet (Outcome Done) = omega arith
tally_octet (Outcome Failed) = omega arith

pub tally_entries : (Z : List ℕ) (H : List (Entry ℕ)) (e : Entry ℕ) → Allowed tally_rules Z H e → tally_entry e
tally_entries Z H (Item octet) allowed = omega (arith, allowed.1)
tally_entries Z H (Outcome told) allowed = tt

pub tally_agrees : (even due : Bool) → Agrees tally_rules (tally_view even due)
tally_agrees even due = record {
  due = λ Z H lawful shows. ap step_of shows.due_is;
  allowed = agree;
  over = λ Z H item lawful shows. (λ a. a, λ a. a);
  outcome = λ told. (λ a. a, λ a. a);
  item = λ item allowed. allowed.0;
}
  where
    agree : (Z : List ℕ) (H : List (Entry ℕ)) (e : Entry ℕ) → Lawful tally_rules Z H → ShowsTally even due Z H → tally_allowed due e ↔ Allowed tally_rules Z H e
    agree Z H (Item octet) lawful shows = (λ a. (sym (ap step_of shows.due_is) ∙ a.0, a.1), λ a. (ap step_of shows.due_is ∙ a.0, a.1))
    agree Z H (Outcome told) lawful shows = (λ a. subst (λ o. IsSome (step_of o)) shows.due_is a, λ a. subst (λ o. IsSome (step_of o)) (sym shows.due_is) a)

even_on : (even : Bool) (H : List (Entry ℕ)) (e : Entry ℕ) → even_after even (H ++ e ∷ []) ≡ even_after (even_after even H) (e ∷ [])
even_on even [] e = refl
even_on even (Item octet ∷ H) e = even_on (not even) H e
even_on even (Outcome told ∷ H) e = even_on even H e

due_on : (even due : Bool) (H : List (Entry ℕ)) (e : Entry ℕ) → due_after even due (H ++ e ∷ []) ≡ due_after (even_after even H) (due_after even due H) (e ∷ [])
due_on even due [] e = refl
due_on even due (Item octet ∷ H) e = due_on (not even) (not even) H e
due_on even due (Outcome told ∷ H) e = due_on even false H e

-- a machine that takes the entry shows the longer history
pub tally_goes_on : (even due : Bool) (e : Entry ℕ) (Z : List ℕ) (H : List (Entry ℕ)) → ShowsTally even due Z H
    → ShowsTally (even_after even (e ∷ [])) (due_after even due (e ∷ [])) Z (H ++ e ∷ [])
tally_goes_on even due e Z H shows = record {
  even_is = ap (λ b. even_after b (e ∷ [])) shows.even_is ∙ sym (even_on true H e);
  due_is = ap (λ b. due_after b due (e ∷ [])) shows.even_is ∙ ap (λ b. due_after (even_after true H) b (e ∷ [])) shows.due_is ∙ sym (due_on true false H e);
}
