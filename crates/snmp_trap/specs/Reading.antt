-- Reading from the front as a function: what stands there, or the first refusal. The grammar and the refusals don't know it.
use Rattle.std.specs.Prelude.{◌≡◌, ℕ, zero, suc, ◌+◌, ◌-◌, ◌^◌, Bool, true, false, ◌||◌, List, [], ◌∷◌, length, take, drop, nat_lt, ◌==◌, if◌then◌else◌, Option, Some, None, is_some, Result, Ok, Err, bytes_eq}
use Rattle.snmp_trap.specs.declared.refusal.Refusal.{Refusal}
use Rattle.snmp_trap.specs.declared.refusal.Why.{Why}
use Rattle.snmp_trap.specs.declared.refusal.Why.TheVariants.{Tag, Length, Over, Trailing, Integer, Version, Enterprise, Generic, NoBinding, Body}
use Rattle.snmp_trap.specs.declared.element.Tags.{Tags}
use Rattle.snmp_trap.specs.declared.element.Tags.TheVariants.{One, AnyValue}
use Rattle.snmp_trap.specs.declared.element.Reader.{Reader}
use Rattle.snmp_trap.specs.declared.element.Element.{Element}
use Rattle.snmp_trap.specs.declared.trap.TrapView.{TrapView}
use Rattle.snmp_trap.specs.Grammar.{number_of, pet_enterprise, Seen}
use Rattle.snmp_trap.specs.Refusals.{refusal, truncated, over, one, any_value, counts, value_tags}

infixl 10 ◌>>=◌
abbrev pub ◌>>=◌ : {A B : Type 0} → Result A Refusal → (A → Result B Refusal) → Result B Refusal
(Ok x) >>= f = f x
(Err r) >>= f = Err r

-- What a function returned, seen by view, is what reading gives.
abbrev pub Gives : {X Y : Type 0} → (X → Y) → Result X Refusal → Result Y Refusal → Type 0
Gives view (Ok x) read = read ≡ Ok (view x)
Gives view (Err r) read = read ≡ Err r

-- an element: where its tag stands, where its contents begin, the contents, and what stands behind it
pub record Part : Type 0 where
  pub at : ℕ
  pub inside : ℕ
  pub contents : List ℕ
  pub after : ℕ
  pub rest : List ℕ

abbrev pub part : Element × Reader → Part
part x = record { at = x.0.at; inside = x.0.inside.at; contents = x.0.inside.octets.now; after = x.1.at; rest = x.1.octets.now }

abbrev pub wanted_by : Tags → ℕ → Bool
wanted_by (One tag) = one tag
wanted_by AnyValue = any_value

-- n octets are the contents, where there are so many
unfoldable pub cut_at : Refusal → ℕ → ℕ → ℕ → List ℕ → Result Part Refusal
cut_at past at inside n octets =
    if nat_lt (length octets) n then Err past else Ok (record { at = at; inside = inside; contents = take n octets; after = inside + n; rest = drop n octets })

unfoldable pub length_at : Refusal → ℕ → List ℕ → Result Part Refusal
length_at past at [] = Err past
length_at past at (first ∷ more) =
    if nat_lt first 128 then cut_at past at (at + 2) first more
    else if (first == 128) || nat_lt 132 first then Err (refusal (at + 1) Length)
    else if nat_lt (length more) (first - 128) then Err past
    else cut_at past at (at + 2 + (first - 128)) (number_of (take (first - 128) more)) (drop (first - 128) more)

unfoldable pub element_at : Refusal → (ℕ → Bool) → ℕ → List ℕ → Result Part Refusal
element_at past wanted at [] = Err past
element_at past wanted at (tag ∷ more) = if wanted tag then length_at past at more else Err (refusal at Tag)

-- an element, what its contents say, and then what follows
abbrev pub field : {A B : Type 0} → (ℕ → List ℕ → Refusal) → (ℕ → Bool) → (ℕ → ℕ → List ℕ → Result A Refusal) → (List ℕ → A → ℕ → List ℕ → Result B Refusal) → ℕ → List ℕ → Result B Refusal
field past wanted judge next at octets = do
  p ← element_at (past at octets) wanted at octets
  x ← judge p.at p.inside p.contents
  next p.contents x p.after p.rest

abbrev pub ended : {A : Type 0} → A → ℕ → List ℕ → Result A Refusal
ended x at [] = Ok x
ended x at (octet ∷ more) = Err (refusal at Trailing)

-- ---- contents

abbrev pub contents_at : ℕ → ℕ → List ℕ → Result (List ℕ) Refusal
contents_at tag_place inside contents = Ok contents

unfoldable pub number_at : ℕ → ℕ → List ℕ → Result ℕ Refusal
number_at tag_place inside contents =
    if (length contents == 0) || nat_lt 5 (length contents) then Err (refusal tag_place Integer)
    else if nat_lt (number_of contents) (2 ^ 32) then Ok (number_of contents) else Err (refusal tag_place Integer)

unfoldable pub this_at : ℕ → Why → ℕ → ℕ → List ℕ → Result Unit Refusal
this_at wanted why tag_place inside contents = do
  n ← number_at tag_place inside contents
  if n == wanted then Ok tt else Err (refusal tag_place why)

unfoldable pub enterprise_at : ℕ → ℕ → List ℕ → Result Unit Refusal
enterprise_at tag_place inside contents = if bytes_eq contents pet_enterprise then Ok tt else Err (refusal tag_place Enterprise)

unfoldable pub agent_at : ℕ → ℕ → List ℕ → Result (List ℕ) Refusal
agent_at tag_place inside contents = if length contents == 4 then Ok contents else Err (refusal (tag_place + 1) Length)

unfoldable pub body_at : ℕ → ℕ → List ℕ → Result (List ℕ) Refusal
body_at tag_place inside contents =
    if nat_lt (length contents) 46 || nat_lt 110 (length contents) then Err (refusal tag_place Body) else Ok contents

-- ---- bindings

abbrev pub value_at : Bool → ℕ → ℕ → List ℕ → Result (Option (List ℕ)) Refusal
value_at true tag_place inside contents = do
  body ← body_at tag_place inside contents
  Ok (Some body)
value_at false tag_place inside contents = Ok None

-- what stands behind a name, which counts or doesn't
unfoldable pub named_at : Bool → ℕ → List ℕ → Result (Option (List ℕ)) Refusal
named_at counting = field over (value_tags counting) (value_at counting) (λ _ body. ended body)

unfoldable pub binding_at : Bool → ℕ → ℕ → List ℕ → Result (Option (List ℕ)) Refusal
binding_at found tag_place = field over (one 6) contents_at (λ name _. named_at (counts found name))

abbrev pub later : Option (List ℕ) → Option (List ℕ) → Option (List ℕ)
later None body = body
later (Some found) body = Some found

-- at most fuel bindings
unfoldable pub bindings_at : ℕ → ℕ → Option (List ℕ) → ℕ → List ℕ → Result (List ℕ) Refusal
bindings_at fuel list None at [] = Err (refusal list NoBinding)
bindings_at fuel list (Some body) at [] = Ok body
bindings_at zero list body at (octet ∷ more) = Err (refusal at Over)
bindings_at (suc fuel) list body at (octet ∷ more) = do
  p ← element_at (over at (octet ∷ more)) (one 48) at (octet ∷ more)
  found ← binding_at (is_some body) p.at p.inside p.contents
  bindings_at fuel list (later found body) p.after p.rest

-- each binding has octets, so there are no more of them
abbrev pub list_at : ℕ → ℕ → List ℕ → Result (List ℕ) Refusal
list_at tag_place inside contents = bindings_at (length contents) tag_place None inside contents

-- ---- the message

unfoldable pub trap_part_at : List ℕ → ℕ → ℕ → List ℕ → Result Seen Refusal
trap_part_at community tag_place =
    field over (one 6) enterprise_at (λ _ _.
    field over (one 64) agent_at (λ _ agent.
    field over (one 2) (this_at 6 Generic) (λ _ _.
    field over (one 2) number_at (λ _ specific.
    field over (one 67) number_at (λ _ ticks.
    field over (one 48) list_at (λ _ body.
    ended (record { community = community; agent = agent; specific = specific; ticks = ticks; body = body })))))))

unfoldable pub message_at : ℕ → ℕ → List ℕ → Result Seen Refusal
message_at tag_place =
    field over (one 2) (this_at 0 Version) (λ _ _.
    field over (one 4) contents_at (λ _ community.
    field over (one 164) (trap_part_at community) (λ _ v.
    ended v)))

unfoldable pub read : List ℕ → Result Seen Refusal
read octets = field truncated (one 48) message_at (λ _ v. ended v) 0 octets

abbrev pub seen : TrapView → Seen
seen v = record { community = v.community.now; agent = v.agent; specific = v.specific; ticks = v.ticks; body = v.body.now }
