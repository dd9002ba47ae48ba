-- What a trap message is: the elements of RFC 1157, sections 4 and 4.1.6, each a tag, a length and contents (X.690, section 8.1), with
-- the enterprise and the binding of PET 1.0. Octets are a concatenation of elements.
--
-- This project's own rules, which are in none of them: a long length has at most four octets behind its first one, and may have more
-- than it needs; a number has 1 to 5 octets and is read as unsigned, so that the contents FFh are 255, where X.690 reads -1; it is below
-- 2^32; the community may have any length; further bindings may stand before the one of PET 1.0 and behind it, and the first with its
-- name counts; the value of another binding has any tag of one octet, and isn't read.
use Rattle.std.specs.Prelude.{◌≡◌, ◌≢◌, ◌⊎◌, ℕ, ◌+◌, ◌*◌, ◌%◌, ◌^◌, ◌<◌, ◌≤◌, List, [], ◌∷◌, ◌++◌, length}

-- the number of these octets, the most significant first
abbrev pub number_of : List ℕ → ℕ
number_of [] = 0
number_of (octet ∷ more) = octet * 256 ^ length more + number_of more

-- the octets of a length: one below 80h, or 81h to 84h and then 1 to 4 octets, the most significant first
abbrev pub IsLength : List ℕ → ℕ → Type 0
IsLength [] n = ⊥
IsLength (first ∷ more) n =
    ((first < 128) × (more ≡ []) × (n ≡ first)) ⊎ ((1 ≤ length more) × (length more ≤ 4) × (first ≡ 128 + length more) × (n ≡ number_of more))

-- a tag, a length and the octets that it counts
pub record IsElement (octets : List ℕ) (tag : ℕ) (contents : List ℕ) : Type 0 where
  pub spelled : List ℕ
  pub is_length : IsLength spelled (length contents)
  pub parts : octets ≡ tag ∷ spelled ++ contents

-- a number below 2^32 in 1 to 5 octets, the most significant first, none of which is a sign
pub record IsNumber (contents : List ℕ) (n : ℕ) : Type 0 where
  pub some : 1 ≤ length contents
  pub few : length contents ≤ 5
  pub value : n ≡ number_of contents
  pub fits : n < 2 ^ 32

-- an element with this tag that is a number
pub record IsNumberElement (octets : List ℕ) (tag n : ℕ) : Type 0 where
  pub contents : List ℕ
  pub element : IsElement octets tag contents
  pub number : IsNumber contents n

-- ---- the bindings

-- the tag of a value: its low five bits aren't all 1, which would say that it goes on in the next octet (X.690, section 8.1.2.4)
abbrev pub IsValueTag : ℕ → Type 0
IsValueTag tag = tag % 32 ≢ 31

pub record Binding : Type 0 where
  pub name : List ℕ
  pub tag : ℕ
  pub value : List ℕ

pub record IsBinding (octets : List ℕ) (b : Binding) : Type 0 where
  pub name : List ℕ
  pub value : List ℕ
  pub whole : IsElement octets 48 (name ++ value)
  pub is_name : IsElement name 6 b.name
  pub is_value : IsElement value b.tag b.value
  pub allowed : IsValueTag b.tag

-- one binding after another
abbrev pub AreBindings : List ℕ → List Binding → Type 0
AreBindings octets [] = octets ≡ []
AreBindings octets (b ∷ bs) = (first : List ℕ) × (rest : List ℕ) × (octets ≡ first ++ rest) × IsBinding first b × AreBindings rest bs

-- 1.3.6.1.4.1.3183.1.1, the enterprise of Platform Event Traps
abbrev pub pet_enterprise : List ℕ
pet_enterprise = 0x2B ∷ 0x06 ∷ 0x01 ∷ 0x04 ∷ 0x01 ∷ 0x98 ∷ 0x6F ∷ 0x01 ∷ 0x01 ∷ []

-- 1.3.6.1.4.1.3183.1.1.1, the name of the binding that counts
abbrev pub body_name : List ℕ
body_name = 0x2B ∷ 0x06 ∷ 0x01 ∷ 0x04 ∷ 0x01 ∷ 0x98 ∷ 0x6F ∷ 0x01 ∷ 0x01 ∷ 0x01 ∷ []

-- a body has 46 to 110 octets
pub record IsBody (body : List ℕ) : Type 0 where
  pub least : 46 ≤ length body
  pub most : length body ≤ 110

-- the value of the first binding with the name
abbrev pub IsBodyOf : List Binding → List ℕ → Type 0
IsBodyOf [] body = ⊥
IsBodyOf (b ∷ bs) body =
    ((b.name ≡ body_name) × (b.tag ≡ 4) × (b.value ≡ body) × IsBody body) ⊎ ((b.name ≢ body_name) × IsBodyOf bs body)

-- ---- the message

-- what a trap says
pub record Seen : Type 0 where
  pub community : List ℕ
  pub agent : List ℕ
  pub specific : ℕ
  pub ticks : ℕ
  pub body : List ℕ

-- the trap itself: what stands in the element A4h
pub record IsTrapPart (octets : List ℕ) (v : Seen) : Type 0 where
  pub enterprise : List ℕ
  pub agent : List ℕ
  pub generic : List ℕ
  pub specific : List ℕ
  pub ticks : List ℕ
  pub list : List ℕ
  pub parts : octets ≡ enterprise ++ (agent ++ (generic ++ (specific ++ (ticks ++ list))))
  pub is_enterprise : IsElement enterprise 6 pet_enterprise
  pub is_agent : IsElement agent 64 v.agent
  pub four : length v.agent ≡ 4
  pub is_generic : IsNumberElement generic 2 6
  pub is_specific : IsNumberElement specific 2 v.specific
  pub is_ticks : IsNumberElement ticks 67 v.ticks
  pub contents : List ℕ
  pub bindings : List Binding
  pub is_list : IsElement list 48 contents
  pub are_bindings : AreBindings contents bindings
  pub is_body : IsBodyOf bindings v.body

-- the whole message
pub record IsTrap (octets : List ℕ) (v : Seen) : Type 0 where
  pub version : List ℕ
  pub community : List ℕ
  pub trap : List ℕ
  pub contents : List ℕ
  pub is_message : IsElement octets 48 (version ++ (community ++ trap))
  pub is_version : IsNumberElement version 2 0
  pub is_community : IsElement community 4 v.community
  pub is_trap : IsElement trap 164 contents
  pub trap_part : IsTrapPart contents v
