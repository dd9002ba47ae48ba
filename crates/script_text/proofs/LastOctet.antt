-- Octets without one such octet at their end.
use Rattle.std.proofs.Common.{◌≡◌, ◌≢◌, ◌⊎◌, inl, inr, ℕ, true, false, nat_eq, List, [], ◌∷◌, ◌++◌, length, take, refl, sym, ap}
use Rattle.std.proofs.lemmas.Bool.{ne_eqb, eq-eqb}
use Rattle.std.proofs.lemmas.Bool.Decides.{eqb_tells}
use Rattle.script_text.specs.Lines.{without_last}

-- one octet at the end goes, another stays
pub without_last-push : (e : ℕ) (line : List ℕ) → without_last e (line ++ e ∷ []) ≡ line
without_last-push e [] = rw (eq-eqb e e refl) refl
without_last-push e (b ∷ []) = ap (λ l. b ∷ l) (without_last-push e [])
without_last-push e (b ∷ c ∷ line) = ap (λ l. b ∷ l) (without_last-push e (c ∷ line))

pub without_last-other : (e b : ℕ) (line : List ℕ) → b ≢ e → without_last e (line ++ b ∷ []) ≡ line ++ b ∷ []
without_last-other e b [] other = rw (ne_eqb b e other) refl
without_last-other e b (a ∷ []) other = ap (λ l. a ∷ l) (without_last-other e b [] other)
without_last-other e b (a ∷ c ∷ line) other = ap (λ l. a ∷ l) (without_last-other e b (c ∷ line) other)

pub without_last-is : (e : ℕ) (line : List ℕ) → (line ≡ without_last e line) ⊎ (line ≡ without_last e line ++ e ∷ [])
without_last-is e [] = inl refl
without_last-is e (b ∷ []) = by (eqb_tells b e)
  where
    by : ((nat_eq b e ≡ true) × (b ≡ e)) ⊎ ((nat_eq b e ≡ false) × (b ≢ e)) → (b ∷ [] ≡ without_last e (b ∷ [])) ⊎ (b ∷ [] ≡ without_last e (b ∷ []) ++ e ∷ [])
    by (inl is) = inr (rw is.0 (ap (λ n. n ∷ []) is.1))
    by (inr other) = inl (rw other.0 refl)
without_last-is e (b ∷ c ∷ line) = by (without_last-is e (c ∷ line))
  where
    by : (c ∷ line ≡ without_last e (c ∷ line)) ⊎ (c ∷ line ≡ without_last e (c ∷ line) ++ e ∷ []) → (b ∷ c ∷ line ≡ b ∷ without_last e (c ∷ line)) ⊎ (b ∷ c ∷ line ≡ b ∷ without_last e (c ∷ line) ++ e ∷ [])
    by (inl same) = inl (ap (λ l. b ∷ l) same)
    by (inr shorter) = inr (ap (λ l. b ∷ l) shorter)

-- no octet at the end is that one
pub without_last-kept : (e : ℕ) (line : List ℕ) → ((front : List ℕ) → line ≢ front ++ e ∷ []) → without_last e line ≡ line
without_last-kept e line none = by (without_last-is e line)
  where
    by : (line ≡ without_last e line) ⊎ (line ≡ without_last e line ++ e ∷ []) → without_last e line ≡ line
    by (inl same) = sym same
    by (inr shorter) = absurd (none (without_last e line) shorter)

pub front_of-push : (front rest : List ℕ) → take (length front) (front ++ rest) ≡ front
front_of-push [] rest = refl
front_of-push (b ∷ front) rest = ap (λ l. b ∷ l) (front_of-push front rest)
