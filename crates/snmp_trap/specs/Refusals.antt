-- Why octets are no trap message, and where: the elements are taken in the order in which they stand, each one's header
-- before its contents. On all before none of the rows holds, and of the rows on the next one the first counts.
-- The reasons, their order and their places are this project's: neither RFC 1157 nor X.690 says how a receiver names what it refuses.
use Rattle.std.specs.Prelude.{◌≡◌, ◌≢◌, ◌⊎◌, ℕ, zero, suc, ◌+◌, ◌%◌, ◌<◌, Bool, true, false, not, ◌&&◌, ◌||◌, List, [], ◌∷◌, ◌++◌, length, ◌==◌, bytes_eq}
use Rattle.snmp_trap.specs.declared.refusal.Refusal.{Refusal}
use Rattle.snmp_trap.specs.declared.refusal.Why.{Why}
use Rattle.snmp_trap.specs.declared.refusal.Why.TheVariants.{Truncated, Tag, Length, Over, Trailing, Integer, Version, Enterprise, Generic, NoBinding, Body}
use Rattle.snmp_trap.specs.Grammar.{IsLength, IsNumber, IsBody, pet_enterprise, body_name}

abbrev pub refusal : ℕ → Why → Refusal
refusal at why = record { at = at; why = why }

-- What is refused of octets that begin at a place and end where the element around them does.
abbrev pub Refuses : Type 1
Refuses = ℕ → List ℕ → Refusal → Type 0

-- What is refused of an element's contents, for the place of its tag.
abbrev pub Rows : Type 1
Rows = ℕ → Refuses

-- ---- one element

-- an element at the front of octets
pub record Front (octets : List ℕ) : Type 0 where
  pub tag : ℕ
  pub spelled : List ℕ
  pub contents : List ℕ
  pub rest : List ℕ
  pub is_length : IsLength spelled (length contents)
  pub parts : octets ≡ tag ∷ spelled ++ (contents ++ rest)

-- the place of its contents, and of what stands behind it
abbrev pub inside : {octets : List ℕ} → ℕ → Front octets → ℕ
inside at front = at + 1 + length front.spelled

abbrev pub behind : {octets : List ℕ} → ℕ → Front octets → ℕ
behind at front = inside at front + length front.contents

-- the length octet, which stands behind the tag, is 80h or above 84h
abbrev pub IsBadLength : List ℕ → Type 0
IsBadLength [] = ⊥
IsBadLength (first ∷ more) = (first ≡ 128) ⊎ (132 < first)

-- what is said where an element reaches too far or nothing is left: of the outermost one, and of one inside another
abbrev pub truncated : ℕ → List ℕ → Refusal
truncated at octets = refusal (at + length octets) Truncated

abbrev pub over : ℕ → List ℕ → Refusal
over at octets = refusal at Over

-- a header: nothing is left, another tag, a bad length octet, a reach too far
abbrev pub RefusesHeader : (ℕ → List ℕ → Refusal) → (ℕ → Bool) → Refuses
RefusesHeader past wanted at [] r = r ≡ past at []
RefusesHeader past wanted at (tag ∷ more) r =
    ((wanted tag ≡ false) × (r ≡ refusal at Tag)) ⊎
    (((wanted tag ≡ true) × IsBadLength more × (r ≡ refusal (at + 1) Length)) ⊎
    ((wanted tag ≡ true) × (¬ (IsBadLength more)) × (¬ (Front (tag ∷ more))) × (r ≡ past at (tag ∷ more))))

-- an element that is refused for its header, or for its contents
abbrev pub RefusesElement : (ℕ → List ℕ → Refusal) → (ℕ → Bool) → Rows → Refuses
RefusesElement past wanted rows at octets r =
    RefusesHeader past wanted at octets r ⊎ ((front : Front octets) × (wanted front.tag ≡ true) × rows at (inside at front) front.contents r)

-- an element that isn't refused, and what is refused of the octets behind it
abbrev pub RefusesBehind : (ℕ → Bool) → Rows → (List ℕ → Refuses) → Refuses
RefusesBehind wanted rows next at octets r =
    (front : Front octets) × (wanted front.tag ≡ true) × ((s : Refusal) → ¬ (rows at (inside at front) front.contents s)) × next front.contents (behind at front) front.rest r

abbrev pub RefusesThen : (ℕ → List ℕ → Refusal) → (ℕ → Bool) → Rows → (List ℕ → Refuses) → Refuses
RefusesThen past wanted rows next at octets r = RefusesElement past wanted rows at octets r ⊎ RefusesBehind wanted rows next at octets r

-- nothing more is wanted
abbrev pub RefusesMore : Refuses
RefusesMore at octets r = (octets ≢ []) × (r ≡ refusal at Trailing)

-- ---- the contents of an element that holds no others

abbrev pub one : ℕ → ℕ → Bool
one wanted tag = tag == wanted

abbrev pub RefusesNothing : Rows
RefusesNothing tag_place at contents r = ⊥

abbrev pub RefusesNumber : Rows
RefusesNumber tag_place at contents r = ((n : ℕ) → ¬ (IsNumber contents n)) × (r ≡ refusal tag_place Integer)

-- a number, and this one
abbrev pub RefusesOther : ℕ → Why → Rows
RefusesOther wanted why tag_place at contents r =
    RefusesNumber tag_place at contents r ⊎ ((n : ℕ) × IsNumber contents n × (n ≢ wanted) × (r ≡ refusal tag_place why))

abbrev pub RefusesEnterprise : Rows
RefusesEnterprise tag_place at contents r = (contents ≢ pet_enterprise) × (r ≡ refusal tag_place Enterprise)

-- the place is that of the length octet
abbrev pub RefusesAgent : Rows
RefusesAgent tag_place at contents r = (length contents ≢ 4) × (r ≡ refusal (tag_place + 1) Length)

abbrev pub RefusesBody : Rows
RefusesBody tag_place at contents r = (¬ (IsBody contents)) × (r ≡ refusal tag_place Body)

-- ---- the bindings

-- a tag whose low five bits aren't all 1
abbrev pub any_value : ℕ → Bool
any_value tag = not (tag % 32 == 31)

-- a name counts where it is the wanted one, and no binding before has it
abbrev pub counts : Bool → List ℕ → Bool
counts found name = not found && bytes_eq name body_name

abbrev pub value_tags : Bool → ℕ → Bool
value_tags true = one 4
value_tags false = any_value

abbrev pub RefusesValue : Bool → Rows
RefusesValue true = RefusesBody
RefusesValue false = RefusesNothing

-- the contents of a binding; found: a binding before it has the wanted name
abbrev pub RefusesBinding : Bool → Rows
RefusesBinding found tag_place =
    RefusesThen over (one 6) RefusesNothing (λ name. RefusesThen over (value_tags (counts found name)) (RefusesValue (counts found name)) (λ _. RefusesMore))

-- The binding that is refused has n others before it. None is refused where the list has ended, and then none had the name.
abbrev pub RefusesBindings : ℕ → ℕ → Bool → Refuses
RefusesBindings list_place zero found at [] r = (found ≡ false) × (r ≡ refusal list_place NoBinding)
RefusesBindings list_place zero found at (octet ∷ more) r = RefusesElement over (one 48) (RefusesBinding found) at (octet ∷ more) r
RefusesBindings list_place (suc n) found at octets r =
    RefusesBehind (one 48) (RefusesBinding found)
    (λ binding after rest s. (name : Front binding) × RefusesBindings list_place n (found || bytes_eq name.contents body_name) after rest s) at octets r

abbrev pub RefusesList : Rows
RefusesList tag_place at contents r = (n : ℕ) × RefusesBindings tag_place n false at contents r

-- ---- the message

abbrev pub RefusesTrapPart : Rows
RefusesTrapPart tag_place =
    RefusesThen over (one 6) RefusesEnterprise (λ _.
    RefusesThen over (one 64) RefusesAgent (λ _.
    RefusesThen over (one 2) (RefusesOther 6 Generic) (λ _.
    RefusesThen over (one 2) RefusesNumber (λ _.
    RefusesThen over (one 67) RefusesNumber (λ _.
    RefusesThen over (one 48) RefusesList (λ _. RefusesMore))))))

abbrev pub RefusesMessage : Rows
RefusesMessage tag_place =
    RefusesThen over (one 2) (RefusesOther 0 Version) (λ _.
    RefusesThen over (one 4) RefusesNothing (λ _.
    RefusesThen over (one 164) RefusesTrapPart (λ _. RefusesMore)))

-- the octets are refused for this, at this place
abbrev pub RefusedTrap : List ℕ → Why → ℕ → Type 0
RefusedTrap octets why at = RefusesThen truncated (one 48) RefusesMessage (λ _. RefusesMore) 0 octets (refusal at why)
