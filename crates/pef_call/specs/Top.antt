-- What a call of the program answers to its words.
use Rattle.std.specs.Prelude.{◌≡◌, ℕ, List, Some, None}
use Rattle.pef_call.specs.declared.form.Form.{Form}
use Rattle.pef_call.specs.Words.{paths_of, two_files, one_file, over_feed}

-- unknown command or wrong arguments
abbrev pub IsNoForm : List (List ℕ) → Type 0
IsNoForm words = paths_of words ≡ None

-- a call of this form, which has two files
abbrev pub IsOfForm : Form → List (List ℕ) → Type 0
IsOfForm form words = paths_of words ≡ Some (two_files form)

-- a call of this form, which has the state file alone
abbrev pub IsOfLoneForm : Form → List (List ℕ) → Type 0
IsOfLoneForm form words = paths_of words ≡ Some (one_file form)

-- a call of this form, which has the state file and a feed, for so many arrivals
abbrev pub IsOfFedForm : Form → ℕ → List (List ℕ) → Type 0
IsOfFedForm form arrivals words = paths_of words ≡ Some (over_feed form arrivals)
