-- The tests' machine: which octets are its entries, and what it holds behind one entry more.
use Rattle.std.proofs.Common.{◌≡◌, ℕ, ◌+◌, List, [], ◌∷◌, ◌++◌, Option, Some, None, sym, ◌∙◌, ap, subst, refl, arith}
use Rattle.board_core.specs.declared.step.Told.TheVariants.{Done, Failed}
use Rattle.pef_engine.specs.declared.entry.Entry.{Entry}
use Rattle.pef_engine.specs.declared.entry.Entry.TheVariants.{Item, Outcome}
use Rattle.pef_engine.specs.declared.marks.Mark.{Mark}
use Rattle.pef_engine.specs.declared.marks.Mark.TheVariants.{Open, Close, Outcome as Marked}
use Rattle.pef_engine.specs.declared.script.Script.{Script}
use Rattle.pef_engine.specs.declared.script.ScriptStep.{ScriptStep}
use Rattle.pef_engine.specs.declared.script.ScriptStep.TheVariants.{Opens, Takes, Closes}
use Rattle.pef_engine.specs.Marks.{mark_octets, IsMark, ReadsMark}
use Rattle.pef_engine.specs.Rules.{Decodes}
use Rattle.pef_engine.specs.Scripts.{script_from}
use Rattle.pef_engine.proofs.ScriptOf.{from-append}
use Rattle.run_trials.specs.Shelf.{put_by, held_in, entry_of, IsShelfEntry, shelf_encode, shelf_scripts, shelf_rules, ShowsShelf}

right_of : (octets : List ℕ) (m : Mark) → IsMark m × (mark_octets m ≡ octets) → IsShelfEntry (entry_of m) × (shelf_encode (entry_of m) ≡ octets)
right_of octets (Open id count) right = right
right_of octets Close right = right
right_of octets (Marked told) right = right

-- no mark is the octets of an item
no_put : (m : Mark) → 1 ∷ [] ≡ mark_octets m → ⊥
no_put (Open id count) same = cc same
no_put Close same = cc same
no_put (Marked Done) same = cc same
no_put (Marked Failed) same = cc same

pub decodes_mark : (octets : List ℕ) (m : Mark) → ReadsMark octets (Some m) → Decodes shelf_rules octets (Some (entry_of m))
decodes_mark octets m reads = record {
  found = found;
  right = λ e is. let same : entry_of m ≡ e = cc is in subst (λ x. IsShelfEntry x × (shelf_encode x ≡ octets)) same (right_of octets m (reads.right m refl));
}
  where
    to_entry : {n : Mark} → Some m ≡ Some n → Some (entry_of m) ≡ Some (entry_of n)
    to_entry is = let same : m ≡ _ = cc is in ap (λ x. Some (entry_of x)) same

    found : (e : Entry ScriptStep) → IsShelfEntry e → shelf_encode e ≡ octets → Some (entry_of m) ≡ Some e
    found (Item (Opens id count)) is same = to_entry (reads.found (Open id count) is same)
    found (Item Takes) is same = let other = (reads.right m refl).1 in absurd (no_put m (cc (same, other)))
    found (Item Closes) is same = to_entry (reads.found Close tt same)
    found (Outcome told) is same = to_entry (reads.found (Marked told) tt same)

pub decodes_put : (octets : List ℕ) (decoded : Option (Entry ScriptStep)) → ReadsMark octets None → (octets ≡ 1 ∷ [] → decoded ≡ Some (Item Takes))
    → ((e : Entry ScriptStep) → decoded ≡ Some e → (e ≡ Item Takes) × (octets ≡ 1 ∷ [])) → Decodes shelf_rules octets decoded
decodes_put octets decoded none put is_put = record {
  found = found;
  right = λ e is. let p = is_put e is in subst (λ x. IsShelfEntry x × (shelf_encode x ≡ octets)) (sym p.0) (tt, sym p.1);
}
  where
    found : (e : Entry ScriptStep) → IsShelfEntry e → shelf_encode e ≡ octets → decoded ≡ Some e
    found (Item (Opens id count)) is same = absurd (cc (none.found (Open id count) is same))
    found (Item Takes) is same = put (sym same)
    found (Item Closes) is same = absurd (cc (none.found Close tt same))
    found (Outcome told) is same = absurd (cc (none.found (Marked told) tt same))

held_on : (H : List (Entry ScriptStep)) (item : ScriptStep) → held_in (H ++ Item item ∷ []) ≡ held_in H + put_by item
held_on [] item = omega arith
held_on (Item one ∷ H) item = let rest = held_on H item in omega (arith, rest)
held_on (Outcome told ∷ H) item = held_on H item

-- the shelf behind one item more
pub shelf_goes_on : (script : Option Script) (held : ℕ) (item : ScriptStep) (Z : List ℕ) (H : List (Entry ScriptStep)) → ShowsShelf script held Z H
    → ShowsShelf (script_from shelf_scripts script (Item item ∷ [])) (held + put_by item) Z (H ++ Item item ∷ [])
shelf_goes_on script held item Z H shows = record {
  script_is = ap (λ s. script_from shelf_scripts s (Item item ∷ [])) shows.script_is ∙ sym (from-append shelf_scripts None H (Item item ∷ []));
  held_is = ap (λ n. n + put_by item) shows.held_is ∙ sym (held_on H item);
}
