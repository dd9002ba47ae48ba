-- The replies that aren't sent yet.
use Rattle.std.specs.Prelude.{List, [], ◌∷◌, Option, Some, None}
use Rattle.board_core.specs.declared.step.Step.{Step}

-- those held: one in front, and at most one behind it
abbrev pub held : Option Step → Option Step → List Step
held None behind = []
held (Some front) None = front ∷ []
held (Some front) (Some behind) = front ∷ behind ∷ []

abbrev pub first_of : List Step → Option Step
first_of [] = None
first_of (step ∷ steps) = Some step
