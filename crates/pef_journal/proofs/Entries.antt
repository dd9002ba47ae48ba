-- Entries behind one another.
use Rattle.std.proofs.Common.{◌≡◌, ℕ, ◌/◌, ◌%◌, ◌≤◌, List, [], ◌∷◌, ◌++◌, length, refl, sym, ◌∙◌, ap, subst, arith, append_assoc}
use Rattle.pef_journal.specs.Image.{blocks, AllPayloads, HasEntries}

pub payloads_of : (entries : List (List ℕ)) (file : List ℕ) → HasEntries entries file → AllPayloads entries
payloads_of [] file has = tt
payloads_of (entry ∷ entries) file has = (has.1, payloads_of entries has.0 has.3)

-- entries behind others
pub behind : (entries more : List (List ℕ)) (tail : List ℕ) → AllPayloads entries → HasEntries more tail → HasEntries (entries ++ more) (blocks entries ++ tail)
behind [] more tail all has = has
behind (entry ∷ entries) more tail all has =
    (blocks entries ++ tail, all.0, ap (λ l. 165 ∷ (length entry % 256) ∷ (length entry / 256) ∷ l) (append_assoc entry (blocks entries) tail), behind entries more tail all.1 has)

pub blocks-append : (es fs : List (List ℕ)) → blocks (es ++ fs) ≡ blocks es ++ blocks fs
blocks-append [] fs = refl
blocks-append (e ∷ es) fs = ap (λ l. 165 ∷ (length e % 256) ∷ (length e / 256) ∷ (e ++ l)) (blocks-append es fs) ∙ ap (λ l. 165 ∷ (length e % 256) ∷ (length e / 256) ∷ l) (sym (append_assoc e (blocks es) (blocks fs)))

pub some_octet : (more : List (List ℕ)) (tail : List ℕ) → HasEntries more tail → 1 ≤ length tail
some_octet [] tail has = subst (λ l. 1 ≤ length l) (sym has.2) (omega arith)
some_octet (e ∷ more) tail has = subst (λ l. 1 ≤ length l) (sym has.2) (omega arith)
