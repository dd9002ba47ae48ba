-- An image stands for one history.
use Rattle.std.proofs.Common.{◌≡◌, ℕ, ◌/◌, ◌%◌, List, [], ◌∷◌, ◌++◌, length, get_or, take, drop, refl, sym, ◌∙◌, ap, subst, arith}
use Rattle.std.proofs.Math.Nat.{div-add-mod}
use Rattle.std.proofs.lemmas.List.{take_at, drop_at, append_cancel_left}
use Rattle.pef_journal.specs.declared.kind.FileKind.{FileKind}
use Rattle.pef_journal.specs.Image.{header, HasEntries, Stands}

-- what stands behind a gate says which entry it is
pub block_same : (e f a b : List ℕ) → 165 ∷ (length e % 256) ∷ (length e / 256) ∷ (e ++ a) ≡ 165 ∷ (length f % 256) ∷ (length f / 256) ∷ (f ++ b) → (e ≡ f) × (a ≡ b)
block_same e f a b both =
    let low : length e % 256 ≡ length f % 256 = ap (λ l. get_or l 1 0) both in
    let high : length e / 256 ≡ length f / 256 = ap (λ l. get_or l 2 0) both in
    let same : length e ≡ length f = omega (arith, low, high, div-add-mod (length e) 256, div-add-mod (length f) 256) in
    let rest : e ++ a ≡ f ++ b = ap (λ (l : List ℕ). drop 3 l) both in (
      sym (take_at e a (length e) refl) ∙ ap (λ (l : List ℕ). take (length e) l) rest ∙ take_at f b (length e) (sym same),
      sym (drop_at e a (length e) refl) ∙ ap (λ (l : List ℕ). drop (length e) l) rest ∙ drop_at f b (length e) (sym same),
    )

pub HasEntries_unique : (es fs : List (List ℕ)) (file : List ℕ) → HasEntries es file → HasEntries fs file → es ≡ fs
HasEntries_unique [] [] file a b = refl
HasEntries_unique [] (f ∷ fs) file a b = absurd (a.3 (ap (λ l. get_or l 0 0) (sym a.2 ∙ b.2)))
HasEntries_unique (e ∷ es) [] file a b = absurd (b.3 (ap (λ l. get_or l 0 0) (sym b.2 ∙ a.2)))
HasEntries_unique (e ∷ es) (f ∷ fs) file a b =
    let same = block_same e f a.0 b.0 (sym a.2 ∙ b.2) in
    let more = HasEntries_unique es fs b.0 (subst (HasEntries es) same.1 a.3) b.3 in
    λ i. same.0 i ∷ more i

pub Stands_unique : (kind : FileKind) (Z : List ℕ) (es fs : List (List ℕ)) (file : List ℕ) → Stands kind Z es file → Stands kind Z fs file → es ≡ fs
Stands_unique kind Z es fs file a b =
    let rest_is : a.0 ≡ b.0 = append_cancel_left (header kind Z) a.0 b.0 (sym a.1.1 ∙ b.1.1) in
    HasEntries_unique es fs b.0 (subst (HasEntries es) rest_is a.2) b.2
