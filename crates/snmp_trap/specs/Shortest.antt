-- The shortest spelling of a trap: shortest lengths, shortest numbers and the one binding. That a sender writes this spelling of those
-- that X.690 allows is this project's rule.
use Rattle.std.specs.Prelude.{◌≡◌, ℕ, ◌<◌, ◌≤◌, ◌^◌, List, [], ◌∷◌, ◌++◌, length}
use Rattle.std.specs.List.{AllByRecursion}
use Rattle.snmp_trap.specs.Grammar.{IsLength, IsBody, number_of, pet_enterprise, body_name, Seen}

abbrev pub AreOctets : List ℕ → Type 0
AreOctets octets = AllByRecursion (λ octet. octet < 256) octets

-- of the spellings of a length, one with the fewest octets
pub record IsShortestLength (spelled : List ℕ) (n : ℕ) : Type 0 where
  pub is_length : IsLength spelled n
  pub least : (other : List ℕ) → AreOctets other → IsLength other n → length spelled ≤ length other

-- the first bit of the first octet is 0, so that also a reader of signed numbers reads it (X.690, section 8.3)
abbrev pub FirstBitIsZero : List ℕ → Type 0
FirstBitIsZero [] = ⊥
FirstBitIsZero (first ∷ more) = first < 128

-- of the spellings of a number whose first bit is 0, one with the fewest octets
pub record IsShortestNumber (contents : List ℕ) (n : ℕ) : Type 0 where
  pub value : number_of contents ≡ n
  pub first_bit : FirstBitIsZero contents
  pub least : (other : List ℕ) → AreOctets other → number_of other ≡ n → FirstBitIsZero other → length contents ≤ length other

pub record IsShortElement (octets : List ℕ) (tag : ℕ) (contents : List ℕ) : Type 0 where
  pub spelled : List ℕ
  pub is_length : IsShortestLength spelled (length contents)
  pub parts : octets ≡ tag ∷ spelled ++ contents

pub record IsShortNumberElement (octets : List ℕ) (tag n : ℕ) : Type 0 where
  pub contents : List ℕ
  pub element : IsShortElement octets tag contents
  pub number : IsShortestNumber contents n

-- the list with the one binding
pub record IsShortList (octets body : List ℕ) : Type 0 where
  pub binding : List ℕ
  pub name : List ℕ
  pub value : List ℕ
  pub is_list : IsShortElement octets 48 binding
  pub is_binding : IsShortElement binding 48 (name ++ value)
  pub is_name : IsShortElement name 6 body_name
  pub is_value : IsShortElement value 4 body

pub record IsShortTrapPart (octets : List ℕ) (v : Seen) : Type 0 where
  pub enterprise : List ℕ
  pub agent : List ℕ
  pub generic : List ℕ
  pub specific : List ℕ
  pub ticks : List ℕ
  pub list : List ℕ
  pub parts : octets ≡ enterprise ++ (agent ++ (generic ++ (specific ++ (ticks ++ list))))
  pub is_enterprise : IsShortElement enterprise 6 pet_enterprise
  pub is_agent : IsShortElement agent 64 v.agent
  pub is_generic : IsShortNumberElement generic 2 6
  pub is_specific : IsShortNumberElement specific 2 v.specific
  pub is_ticks : IsShortNumberElement ticks 67 v.ticks
  pub is_list : IsShortList list v.body

-- the octets are the shortest spelling of the trap
pub record Shortest (v : Seen) (octets : List ℕ) : Type 0 where
  pub version : List ℕ
  pub community : List ℕ
  pub trap : List ℕ
  pub contents : List ℕ
  pub is_message : IsShortElement octets 48 (version ++ (community ++ trap))
  pub is_version : IsShortNumberElement version 2 0
  pub is_community : IsShortElement community 4 v.community
  pub is_trap : IsShortElement trap 164 contents
  pub trap_part : IsShortTrapPart contents v

-- what a trap message can carry
pub record HasSpelling (v : Seen) : Type 0 where
  pub four : length v.agent ≡ 4
  pub specific : v.specific < 2 ^ 32
  pub ticks : v.ticks < 2 ^ 32
  pub body : IsBody v.body
