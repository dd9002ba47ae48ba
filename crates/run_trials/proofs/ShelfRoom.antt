-- Of three items each has a place on the tests' machine, and the fourth has none.
use Rattle.std.proofs.Common.{◌≡◌, ◌⊎◌, ⊎_elim, inr, ℕ, zero, suc, ◌+◌, ◌≤◌, List, [], ◌∷◌, ◌++◌, length, length-append, map, Option, Some, None, refl, sym, ◌∙◌, ap, subst, arith, append_assoc}
use Rattle.board_core.specs.declared.step.Told.{Told}
use Rattle.pef_engine.specs.declared.entry.Entry.{Entry}
use Rattle.pef_engine.specs.declared.entry.Entry.TheVariants.{Item, Outcome}
use Rattle.pef_engine.specs.declared.script.ScriptStep.{ScriptStep}
use Rattle.pef_engine.specs.declared.script.ScriptStep.TheVariants.{Opens, Takes, Closes}
use Rattle.pef_engine.specs.Rules.{WasOver}
use Rattle.pef_engine.specs.CrashFree.{crash_free_turns, IsPrefixOf}
use Rattle.script_text.specs.Script.{said, bad_line}
use Rattle.script_run.specs.Items.{text_says, items_of_text, items_after}
use Rattle.script_run.specs.Room.{IsTooMuch, LacksRoom}
use Rattle.script_run.specs.Top.{MayEnd}
use Rattle.run_trials.specs.Shelf.{shelf_rules, shelf_scripts, shelf_kind, shelf_settings, script_of_puts}

abbrev items_with : ℕ → List ScriptStep → List ScriptStep
items_with count puts = Opens 1 count ∷ (puts ++ Closes ∷ [])

abbrev three : List (Entry ScriptStep)
three = Item (Opens 1 3) ∷ Item Takes ∷ Item Takes ∷ Item Takes ∷ Item Closes ∷ []

-- a run of this machine takes items alone
run_is : (turns : ℕ) (Z : List ℕ) (H : List (Entry ScriptStep)) (items : List ScriptStep) (tolds : List Told) → IsPrefixOf (crash_free_turns turns shelf_rules Z H items tolds) (map (λ i. Item i) items)
run_is zero Z H items tolds = (map (λ i. Item i) items, refl)
run_is (suc turns) Z H [] tolds = ([], refl)
run_is (suc turns) Z H (item ∷ items) tolds = let r = run_is turns Z (H ++ Item item ∷ []) items tolds in (r.0, ap (λ l. Item item ∷ l) r.1)

as_known : (entries known : List (Entry ScriptStep)) (next other : Entry ScriptStep) → entries ≡ known → next ≡ other → IsTooMuch shelf_rules shelf_settings entries next → IsTooMuch shelf_rules shelf_settings known other
as_known entries known next other es n too = subst (λ l. IsTooMuch shelf_rules shelf_settings l other) es (subst (λ e. IsTooMuch shelf_rules shelf_settings entries e) n too)

fits : (entries : List (Entry ScriptStep)) (next : Entry ScriptStep) (rest : List (Entry ScriptStep)) → (entries ++ next ∷ []) ++ rest ≡ three → IsTooMuch shelf_rules shelf_settings entries next → ⊥
fits [] next rest is too = ⊎_elim (λ big. omega (arith, big)) (λ over. over) (as_known [] [] next (Item (Opens 1 3)) refl (cc is) too)
fits (a ∷ []) next rest is too = ⊎_elim (λ big. omega (arith, big)) (λ over. omega (arith, over)) (as_known (a ∷ []) (Item (Opens 1 3) ∷ []) next (Item Takes) (cc is) (cc is) too)
fits (a ∷ b ∷ []) next rest is too = ⊎_elim (λ big. omega (arith, big)) (λ over. omega (arith, over)) (as_known (a ∷ b ∷ []) (Item (Opens 1 3) ∷ Item Takes ∷ []) next (Item Takes) (cc is) (cc is) too)
fits (a ∷ b ∷ c ∷ []) next rest is too = ⊎_elim (λ big. omega (arith, big)) (λ over. omega (arith, over)) (as_known (a ∷ b ∷ c ∷ []) (Item (Opens 1 3) ∷ Item Takes ∷ Item Takes ∷ []) next (Item Takes) (cc is) (cc is) too)
fits (a ∷ b ∷ c ∷ d ∷ []) next rest is too = ⊎_elim (λ big. omega (arith, big)) (λ over. over) (as_known (a ∷ b ∷ c ∷ d ∷ []) (Item (Opens 1 3) ∷ Item Takes ∷ Item Takes ∷ Item Takes ∷ []) next (Item Closes) (cc is) (cc is) too)
fits (a ∷ b ∷ c ∷ d ∷ e ∷ more) next rest is too = let n = ap length is in omega (arith, n, length-append (more ++ next ∷ []) rest, length-append more (next ∷ []))

none_before : WasOver shelf_rules shelf_settings [] → ⊥
none_before ([], e, after, is, over) = cc is
none_before (x ∷ before, e, after, is, over) = cc is

-- three items: the conditions under which a run ends with 0 can be met
pub three_may_end : (text : List ℕ) → text_says shelf_scripts text ≡ Some (script_of_puts 3 (Takes ∷ Takes ∷ Takes ∷ [])) → MayEnd shelf_kind shelf_settings [] text
three_may_end text is = record {
  good = ap bad_line is;
  no_other = λ o. o;
  room = λ tolds lacks.
      let items = items_with 3 (Takes ∷ Takes ∷ Takes ∷ []) in
      let l : LacksRoom shelf_rules shelf_settings [] items tolds = subst (λ i. LacksRoom shelf_rules shelf_settings [] i tolds) (ap (items_after shelf_scripts None) is) lacks in
      let run = run_is (length items + length tolds) shelf_settings [] items tolds in
      let whole = l.entries ++ l.next ∷ [] in
      fits l.entries l.next (l.is_prefix.0 ++ run.0) (sym (append_assoc whole l.is_prefix.0 run.0) ∙ ap (λ x. x ++ run.0) l.is_prefix.1 ∙ run.1) l.too_much;
  none_over = none_before;
}

-- four items: with the fourth the cause of 9 is there
pub four_lack : (text : List ℕ) (tolds : List Told) → text_says shelf_scripts text ≡ Some (script_of_puts 4 (Takes ∷ Takes ∷ Takes ∷ Takes ∷ [])) → LacksRoom shelf_rules shelf_settings [] (items_of_text shelf_scripts text []) tolds
four_lack text tolds is =
    let items = items_with 4 (Takes ∷ Takes ∷ Takes ∷ Takes ∷ []) in
    let first = Item (Opens 1 4) ∷ Item Takes ∷ Item Takes ∷ Item Takes ∷ [] in
    let turns : length items + length tolds ≡ suc (suc (suc (suc (suc (length tolds + 1))))) = omega arith in
    let lacks : LacksRoom shelf_rules shelf_settings [] items tolds = record {
      entries = first;
      next = Item Takes;
      is_prefix = subst (λ t. IsPrefixOf (first ++ Item Takes ∷ []) (crash_free_turns t shelf_rules shelf_settings [] items tolds)) (sym turns) (crash_free_turns (length tolds + 1) shelf_rules shelf_settings (first ++ Item Takes ∷ []) (Closes ∷ []) tolds, refl);
      too_much = inr (omega arith);
    } in
    subst (λ i. LacksRoom shelf_rules shelf_settings [] i tolds) (sym (ap (items_after shelf_scripts None) is)) lacks
