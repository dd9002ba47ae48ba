-- The forms of a command line, and what they name.
use Rattle.std.specs.Prelude.{ℕ, nat_lt, bytes_eq, codes, if◌then◌else◌, List, [], ◌∷◌, option_map, Option, Some, None}
use Rattle.board_core.specs.declared.step.Address.{Address}
use Rattle.script_text.specs.Forms.{address_of, decimal_of}
use Rattle.pef_call.specs.declared.form.Form.{Form}
use Rattle.pef_call.specs.declared.form.Form.TheVariants.{Init, InitConsole, Run, Receive, Live, Listen, Show, List as ListForm}
use Rattle.pef_call.specs.declared.form.Paths.{Paths}

-- behind its own word a form names the state file, and then the other file
abbrev pub two_files : Form → Paths
two_files form = record { form = form; state = 1; second = 2; arrivals = 0 }

-- or the state file alone
abbrev pub one_file : Form → Paths
one_file form = record { form = form; state = 1; second = 0; arrivals = 0 }

-- or the state file, the address of its feed and how many arrivals it waits for
abbrev pub over_feed : Form → ℕ → Paths
over_feed form arrivals = record { form = form; state = 1; second = 2; arrivals = arrivals }

-- the form with two files that begins with this word
abbrev pub form_named : List ℕ → Option Form
form_named word =
    if bytes_eq word (codes "init") then Some Init
    else (if bytes_eq word (codes "init-console") then Some InitConsole
    else (if bytes_eq word (codes "run") then Some Run
    else (if bytes_eq word (codes "receive") then Some Receive
    else None)))

-- the forms with one file
abbrev pub lone_form_named : List ℕ → Option Form
lone_form_named word =
    if bytes_eq word (codes "show") then Some Show
    else (if bytes_eq word (codes "list") then Some ListForm
    else None)

-- the form with a feed
abbrev pub fed_form_named : List ℕ → Option Form
fed_form_named word =
    if bytes_eq word (codes "live") then Some Live
    else (if bytes_eq word (codes "listen") then Some Listen
    else None)

-- a number above 0
abbrev pub above_zero : Option ℕ → Option ℕ
above_zero (Some n) = if nat_lt 0 n then Some n else None
above_zero None = None

-- how many arrivals: a number of 1 to 1,000,000,000 in 1 to 10 decimal digits
abbrev pub arrivals_of : List ℕ → Option ℕ
arrivals_of word = above_zero (decimal_of 10 1000000000 word)

-- a form with a feed has an address and a number
abbrev pub fed_paths : Option Form → Option Address → Option ℕ → Option Paths
fed_paths (Some form) (Some address) (Some arrivals) = Some (over_feed form arrivals)
fed_paths (Some form) (Some address) None = None
fed_paths (Some form) None arrivals = None
fed_paths None address arrivals = None

-- What the words behind the program's name ask for. The forms are `init STATE SETTINGS`, `init-console STATE SETTINGS`,
-- `run STATE SCRIPT`, `receive STATE CAPTURE`, `live STATE IP:PORT ARRIVALS`, `listen STATE IP:PORT ARRIVALS`, `show STATE` and
-- `list STATE`.
abbrev pub paths_of : List (List ℕ) → Option Paths
paths_of [] = None
paths_of (word ∷ []) = None
paths_of (word ∷ state ∷ []) = option_map one_file (lone_form_named word)
paths_of (word ∷ state ∷ second ∷ []) = option_map two_files (form_named word)
paths_of (word ∷ state ∷ address ∷ arrivals ∷ []) = fed_paths (fed_form_named word) (address_of address) (arrivals_of arrivals)
paths_of (word ∷ state ∷ second ∷ third ∷ more ∷ rest) = None
