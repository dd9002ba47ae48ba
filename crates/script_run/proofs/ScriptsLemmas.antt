-- The script that was opened last, after some entries, and what may come behind it.
use Rattle.std.proofs.Common.{◌≡◌, ℕ, ◌+◌, ◌<◌, true, false, if◌then◌else◌, IsFalse, List, [], ◌∷◌, ◌++◌, Option, Some, None, refl, sym, ◌∙◌, ap, subst, arith, append_assoc}
use Rattle.std.proofs.lemmas.List.{append-nil}
use Rattle.pef_engine.specs.declared.entry.Entry.{Entry}
use Rattle.pef_engine.specs.declared.entry.Entry.TheVariants.{Item, Outcome}
use Rattle.pef_engine.specs.declared.script.Script.{Script}
use Rattle.pef_engine.specs.declared.script.ScriptStep.{ScriptStep}
use Rattle.pef_engine.specs.declared.script.ScriptStep.TheVariants.{Opens, Takes, Closes}
use Rattle.pef_engine.specs.Rules.{Rules, LawfulFrom, Lawful}
use Rattle.pef_engine.specs.MachineView.{MachineView, Agrees}
use Rattle.pef_engine.specs.CrashFree.{entry_items}
use Rattle.pef_engine.specs.Scripts.{ScriptRules, IsScripted, MayCome, Awaits, IsWithin, one_taken, script_with, script_from, script_of}
use Rattle.pef_engine.proofs.ScriptOf.{from-append}
use Rattle.script_run.specs.Going.{Moved}
use Rattle.script_run.specs.Lines.{IsReadyFor}

-- the script behind items alone
abbrev script_over : {I : Type 0} → ScriptRules I → Option Script → List I → Option Script
script_over scripts script [] = script
script_over scripts script (item ∷ items) = script_over scripts (script_with script (scripts.step item)) items

module _ {I : Type 0} (scripts : ScriptRules I) where
  from_items : (script : Option Script) (K : List (Entry I)) → script_from scripts script K ≡ script_over scripts script (entry_items K)
  from_items script [] = refl
  from_items script (Item item ∷ K) = from_items (script_with script (scripts.step item)) K
  from_items script (Outcome told ∷ K) = from_items script K

  -- entries with these items change the script as the items do
  pub script_behind : (H K : List (Entry I)) (items : List I) → entry_items K ≡ items → script_of scripts (H ++ K) ≡ script_over scripts (script_of scripts H) items
  script_behind H K items are = from-append scripts None H K ∙ from_items (script_of scripts H) K ∙ ap (script_over scripts (script_of scripts H)) are

-- one item more of an unfinished script
awaits_more : (script : Option Script) (count n : ℕ) → Awaits script count n → Awaits (one_taken script) count (n + 1)
awaits_more None count n awaits = absurd awaits
awaits_more (Some s) count n awaits = rw awaits.0 (refl, awaits.1, ap (λ k. k + 1) awaits.2)

-- an item that may come leaves no more items taken than a script has
taken_within : (script : Script) → (IsFalse script.closed → script.taken < script.count) → IsWithin (Some script) → IsWithin (one_taken (Some script))
taken_within script may within = elim script.closed as (λ b. (b ≡ false → script.taken < script.count) → IsWithin (Some (if b then script else record script { taken = script.taken + 1 })))
    [ true ↦ λ m. within | false ↦ λ m. (omega (arith, m refl), within.1) ] may

stays_within : (script : Option Script) (step : ScriptStep) → MayCome script step → IsWithin script → IsWithin (script_with script step)
stays_within None Takes may within = tt
stays_within None (Opens id count) may within = (omega arith, may.1)
stays_within None Closes may within = tt
stays_within (Some script) Takes may within = taken_within script may within
stays_within (Some script) (Opens id count) may within = (omega arith, may.1)
stays_within (Some script) Closes may within = within

module _ {I : Type 0} (rules : Rules I) (scripts : ScriptRules I) (scripted : IsScripted rules scripts) where
  within_from : (Z : List ℕ) (G H : List (Entry I)) → IsWithin (script_of scripts G) → LawfulFrom rules Z G H → IsWithin (script_of scripts (G ++ H))
  within_from Z G [] within lawful = subst (λ l. IsWithin (script_of scripts l)) (sym (append-nil G)) within
  within_from Z G (Item item ∷ H) within lawful =
      subst (λ l. IsWithin (script_of scripts l)) (append_assoc G (Item item ∷ []) H)
      (within_from Z (G ++ Item item ∷ []) H (subst IsWithin (sym (from-append scripts None G (Item item ∷ []))) (stays_within (script_of scripts G) (scripts.step item) ((scripted.may Z G item).0 lawful.0.1).0 within)) lawful.1)
  within_from Z G (Outcome told ∷ H) within lawful =
      subst (λ l. IsWithin (script_of scripts l)) (append_assoc G (Outcome told ∷ []) H)
      (within_from Z (G ++ Outcome told ∷ []) H (subst IsWithin (sym (from-append scripts None G (Outcome told ∷ []))) within) lawful.1)

  -- of a lawful history no more items were taken than its script has, and that has at most 1,000,000
  pub lawful_within : (Z : List ℕ) (H : List (Entry I)) → Lawful rules Z H → IsWithin (script_of scripts H)
  lawful_within Z H lawful = within_from Z [] H tt lawful

  module _ (old : MachineView I) (agrees : Agrees rules old) (Z : List ℕ) (H : List (Entry I)) (lawful : Lawful rules Z H) (shows : old.shows Z H) (idle : old.due ≡ None) where
    -- an item may come by the rule of scripts
    pub item_allowed : (item : I) (step : ScriptStep) → scripts.step item ≡ step → rules.is_entry (Item item) → MayCome (script_of scripts H) step → old.allowed (Item item)
    item_allowed item step does entry may =
        (agrees.allowed Z H (Item item) lawful shows).1 (sym (agrees.due Z H lawful shows) ∙ idle, (scripted.may Z H item).1 (subst (MayCome (script_of scripts H)) (sym does) may, entry))

may_take : (script : Option Script) (count n : ℕ) → Awaits script count n → n < count → MayCome script Takes
may_take None count n awaits more = absurd awaits
may_take (Some s) count n awaits more = λ unclosed. omega (arith, awaits.1, awaits.2, more)

may_close : (script : Option Script) (count n : ℕ) → Awaits script count n → n ≡ count → MayCome script Closes
may_close None count n awaits all = absurd awaits
may_close (Some s) count n awaits all = (awaits.0, awaits.2 ∙ all ∙ sym awaits.1)

module _ {I : Type 0} (rules : Rules I) (scripts : ScriptRules I) (scripted : IsScripted rules scripts) (old : MachineView I) (agrees : Agrees rules old) (count n : ℕ) (ready : IsReadyFor rules scripts old count n) where
  -- the next item may come, and so may the end behind the last
  pub next_allowed : (item : I) (line : List ℕ) → scripts.item_of line ≡ Some item → rules.is_entry (Item item) → n < count → old.allowed (Item item)
  next_allowed item line gives entry within =
      item_allowed rules scripts scripted old agrees ready.settings ready.history ready.lawful ready.shows ready.idle item Takes (scripted.takes line item gives) entry (may_take (script_of scripts ready.history) count n ready.awaits within)

  pub closing_allowed : (item : I) → item ≡ scripts.closing → rules.is_entry (Item item) → n ≡ count → old.allowed (Item item)
  closing_allowed item is entry all =
      item_allowed rules scripts scripted old agrees ready.settings ready.history ready.lawful ready.shows ready.idle item Closes (ap scripts.step is ∙ scripted.closes) entry (may_close (script_of scripts ready.history) count n ready.awaits all)

  -- an item was taken and settled
  pub ready_more : (new : MachineView I) (item : I) (line : List ℕ) → scripts.item_of line ≡ Some item
      → ((Z : List ℕ) (H : List (Entry I)) → Lawful rules Z H → old.shows Z H → Moved rules new Z H (item ∷ [])) → new.due ≡ None → IsReadyFor rules scripts new count (n + 1)
  ready_more new item line gives moves idle =
      let m = moves ready.settings ready.history ready.lawful ready.shows in
      let script = script_behind scripts ready.history m.entries (item ∷ []) m.taken ∙ ap (script_with (script_of scripts ready.history)) (scripted.takes line item gives) in record {
        settings = ready.settings;
        history = ready.history ++ m.entries;
        lawful = m.lawful;
        shows = m.shows;
        idle = idle;
        awaits = subst (λ s. Awaits s count (n + 1)) (sym script) (awaits_more (script_of scripts ready.history) count n ready.awaits);
      }
