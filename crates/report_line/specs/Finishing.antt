-- What a call writes at its end, and which status it answers.
use Rattle.std.specs.Prelude.{◌≡◌, ◌⊎◌, ℕ, ◌==◌, ◌≤◌, if◌then◌else◌, List, ◌++◌, Option, Some}
use Rattle.board_core.specs.Causes.{Rose}
use Rattle.report_line.specs.declared.ending.Ending.{Ending}
use Rattle.report_line.specs.Ending.{status_of, last_line}

abbrev pub IsPrefixOf : {A : Type 0} → List A → List A → Type 0
IsPrefixOf {A} xs ys = (rest : List A) × (xs ++ rest ≡ ys)

-- all of it was written
pub record Says (line : List ℕ) (before after : Option (List ℕ)) (faults_before faults_after : ℕ) : Type 0 where
  pub faults : faults_after ≡ faults_before
  pub written : (old : List ℕ) → before ≡ Some old → after ≡ Some (old ++ line)

-- the write failed: a part of it was written
pub record FailsToSay (line : List ℕ) (before after : Option (List ℕ)) (faults_before faults_after : ℕ) : Type 0 where
  pub faults : faults_before ≤ faults_after
  pub rose : Rose faults_before faults_after
  pub written : (old : List ℕ) → before ≡ Some old → (part : List ℕ) × (after ≡ Some (old ++ part)) × IsPrefixOf part line

-- the status where the last line can't be written: 8 in place of 0, and any other stays
abbrev pub status_unsaid : Ending → ℕ
status_unsaid ending = if status_of ending == 0 then 8 else status_of ending

-- The last line of a call that ended so is written, and this is its status.
abbrev pub Finishes : Option (List ℕ) → Option (List ℕ) → ℕ → ℕ → Ending → ℕ → Type 0
Finishes before after faults_before faults_after ending status =
    (Says (last_line ending) before after faults_before faults_after × (status ≡ status_of ending))
    ⊎ (FailsToSay (last_line ending) before after faults_before faults_after × (status ≡ status_unsaid ending))
