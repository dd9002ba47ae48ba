-- How what is accepted and what is refused stand to each other.
use Rattle.std.specs.Prelude.{◌≡◌, ◌⊎◌, ℕ}
use Rattle.asf_rmcp.specs.declared.fault.FrameWhy.{FrameWhy}

-- accepted as one value alone, and not refused
pub record IsOneValue {A : Type 0} (accepts : A → Type 0) (refuses : FrameWhy → ℕ → Type 0) : Type 0 where
  pub value : A
  pub accepted : accepts value
  pub only : (other : A) → accepts other → other ≡ value
  pub not_refused : (why : FrameWhy) (at : ℕ) → ¬ (refuses why at)

-- refused for one reason at one place alone, and not accepted
pub record IsOneRefusal {A : Type 0} (accepts : A → Type 0) (refuses : FrameWhy → ℕ → Type 0) : Type 0 where
  pub why : FrameWhy
  pub at : ℕ
  pub refused : refuses why at
  pub only_why : (other : FrameWhy) (place : ℕ) → refuses other place → other ≡ why
  pub only_at : (other : FrameWhy) (place : ℕ) → refuses other place → place ≡ at
  pub not_accepted : (value : A) → ¬ (accepts value)

abbrev pub IsOneAnswer : {A : Type 0} → (A → Type 0) → (FrameWhy → ℕ → Type 0) → Type 0
IsOneAnswer accepts refuses = IsOneValue accepts refuses ⊎ IsOneRefusal accepts refuses
