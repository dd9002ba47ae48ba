-- What is written is the shortest spelling, and is read again.
use Rattle.std.proofs.Common.{◌≡◌, ℕ, ◌+◌, ◌^◌, ◌<◌, ◌≤◌, List, [], ◌∷◌, ◌++◌, length, refl, sym, ap, ◌∙◌, inl, inr, append_assoc, append-nil, arith, ◌%◌}
use Rattle.std.proofs.lemmas.Bool.{cases_lt, lt-ltb, le-ltb}
use Rattle.std.proofs.lemmas.List.{length-append}
use Rattle.snmp_trap.specs.Grammar.{IsNumberElement, IsBody, Binding, Seen, IsTrapPart, IsTrap, pet_enterprise, body_name}
use Rattle.snmp_trap.specs.Shortest.{IsShortNumberElement, IsShortTrapPart, Shortest, HasSpelling}
use Rattle.snmp_trap.specs.Spelling.{length_octets, element, number_length, number_octets, number_element, list, trap_part, spelling}
use Rattle.snmp_trap.proofs.Shorter.{short_element, short_number, length-number_octets, number_length-fits, read_element, read_number}

-- ---- how long it is

length-length_octets : (n : ℕ) → (length (length_octets n) ≤ 2) × (n < 128 → length (length_octets n) ≡ 1)
length-length_octets n =
    elim (cases_lt n 128) [
      | inl lt ↦ rw (lt-ltb _ _ lt) (omega arith, λ _. refl)
      | inr ge ↦ rw (le-ltb _ _ ge) (omega arith, λ lt. absurd (omega arith))
    ]

pub length-element : (tag : ℕ) (contents : List ℕ) → length (element tag contents) ≡ 1 + length (length_octets (length contents)) + length contents
length-element tag contents = omega (arith, length-append (length_octets (length contents)) contents)

pub short_length : (tag : ℕ) (contents : List ℕ) → length contents < 128 → length (element tag contents) ≡ 2 + length contents
short_length tag contents lt = omega (arith, length-element tag contents, (length-length_octets (length contents)).1 lt)

pub any_length : (tag : ℕ) (contents : List ℕ) → length (element tag contents) ≤ 3 + length contents
any_length tag contents = omega (arith, length-element tag contents, (length-length_octets (length contents)).0)

pub length-number_element : (tag n : ℕ) → n < 2 ^ 32 → length (number_element tag n) ≡ 2 + number_length n
unfolding number_element
length-number_element tag n lt =
    let size = length-number_octets n lt in
    let few = number_length-fits n lt in
    omega (arith, short_length tag (number_octets n) (omega arith))

length-binding : (body : List ℕ) → IsBody body → length (element 6 body_name ++ element 4 body) ≡ 14 + length body
length-binding body is = omega (arith, length-append (element 6 body_name) (element 4 body), short_length 4 body (omega (arith, is.most)))

length-inner : (body : List ℕ) → IsBody body → length (element 48 (element 6 body_name ++ element 4 body)) ≡ 16 + length body
length-inner body is = let inner = length-binding body is in omega (arith, short_length 48 (element 6 body_name ++ element 4 body) (omega (arith, is.most)))

pub length-list : (body : List ℕ) → IsBody body → length (list body) ≡ 18 + length body
unfolding list
length-list body is = let inner = length-inner body is in omega (arith, short_length 48 (element 48 (element 6 body_name ++ element 4 body)) (omega (arith, is.most)))

pub length-trap_part : (v : Seen) → HasSpelling v → length (trap_part v) ≡ 42 + number_length v.specific + number_length v.ticks + length v.body
unfolding trap_part
length-trap_part v is =
    let agent = element 64 v.agent in
    let generic = number_element 2 6 in
    let specific = number_element 2 v.specific in
    let ticks = number_element 67 v.ticks in
    omega (arith, length-append agent (generic ++ (specific ++ (ticks ++ list v.body))), length-append generic (specific ++ (ticks ++ list v.body)), length-append specific (ticks ++ list v.body), length-append ticks (list v.body), short_length 64 v.agent (omega (arith, is.four)), is.four, length-number_element 2 6 (omega arith), length-number_element 2 v.specific is.specific, length-number_element 67 v.ticks is.ticks, length-list v.body is.body)

-- a message of a community of at most 18 octets
pub record Lengths (v : Seen) : Type 0 where
  pub part : length (trap_part v) < 256
  pub rest : length (element 4 v.community ++ element 164 (trap_part v)) ≡ 2 + length v.community + length (element 164 (trap_part v))
  pub message : length (number_element 2 0 ++ (element 4 v.community ++ element 164 (trap_part v))) < 256

pub lengths : (v : Seen) → HasSpelling v → length v.community ≤ 18 → Lengths v
lengths v is le =
    let part = length-trap_part v is in
    let a = number_length-fits v.specific is.specific in
    let b = number_length-fits v.ticks is.ticks in
    let most = is.body.most in
    let outer = any_length 164 (trap_part v) in
    let community = short_length 4 v.community (omega arith) in
    let rest = length-append (element 4 v.community) (element 164 (trap_part v)) in
    record {
      part = omega arith;
      rest = omega arith;
      message = omega (arith, length-append (number_element 2 0) (element 4 v.community ++ element 164 (trap_part v)), length-number_element 2 0 (omega arith));
    }

-- ---- it is the shortest

pub shortest : (v : Seen) → HasSpelling v → length v.community ≤ 18 → Shortest v (spelling v)
unfolding spelling trap_part list
shortest v is le =
    let all = lengths v is le in
    let size = length-binding v.body is.body in
    let inner = length-inner v.body is.body in
    let most = is.body.most in
    record {
      version = number_element 2 0;
      community = element 4 v.community;
      trap = element 164 (trap_part v);
      contents = trap_part v;
      is_message = short_element 48 (number_element 2 0 ++ (element 4 v.community ++ element 164 (trap_part v))) all.message;
      is_version = short_number 2 0 (omega arith);
      is_community = short_element 4 v.community (omega arith);
      is_trap = short_element 164 (trap_part v) all.part;
      trap_part = record {
        enterprise = element 6 pet_enterprise;
        agent = element 64 v.agent;
        generic = number_element 2 6;
        specific = number_element 2 v.specific;
        ticks = number_element 67 v.ticks;
        list = list v.body;
        parts = refl;
        is_enterprise = short_element 6 pet_enterprise (omega arith);
        is_agent = short_element 64 v.agent (omega (arith, is.four));
        is_generic = short_number 2 6 (omega arith);
        is_specific = short_number 2 v.specific is.specific;
        is_ticks = short_number 67 v.ticks is.ticks;
        is_list = record {
          binding = element 48 (element 6 body_name ++ element 4 v.body);
          name = element 6 body_name;
          value = element 4 v.body;
          is_list = short_element 48 (element 48 (element 6 body_name ++ element 4 v.body)) (omega arith);
          is_binding = short_element 48 (element 6 body_name ++ element 4 v.body) (omega arith);
          is_name = short_element 6 body_name (omega arith);
          is_value = short_element 4 v.body (omega arith);
        };
      };
    }

-- ---- it is read again

read_number_element : (octets : List ℕ) (tag n : ℕ) → n < 2 ^ 32 → IsShortNumberElement octets tag n → IsNumberElement octets tag n
read_number_element octets tag n lt is = record { contents = is.contents; element = read_element octets tag is.contents is.element; number = read_number is.contents n lt is.number }

abbrev body_binding : List ℕ → Binding
body_binding body = record { name = body_name; tag = 4; value = body }

read_trap_part : (v : Seen) (octets : List ℕ) → HasSpelling v → IsShortTrapPart octets v → IsTrapPart octets v
read_trap_part v octets fits is =
    let l = is.is_list in
    record {
      enterprise = is.enterprise;
      agent = is.agent;
      generic = is.generic;
      specific = is.specific;
      ticks = is.ticks;
      list = is.list;
      parts = is.parts;
      is_enterprise = read_element is.enterprise 6 pet_enterprise is.is_enterprise;
      is_agent = read_element is.agent 64 v.agent is.is_agent;
      four = fits.four;
      is_generic = read_number_element is.generic 2 6 (omega arith) is.is_generic;
      is_specific = read_number_element is.specific 2 v.specific fits.specific is.is_specific;
      is_ticks = read_number_element is.ticks 67 v.ticks fits.ticks is.is_ticks;
      contents = l.binding;
      bindings = body_binding v.body ∷ [];
      is_list = read_element is.list 48 l.binding l.is_list;
      are_bindings = (
        l.binding,
        [],
        sym (append-nil l.binding),
        record {
          name = l.name;
          value = l.value;
          whole = read_element l.binding 48 (l.name ++ l.value) l.is_binding;
          is_name = read_element l.name 6 body_name l.is_name;
          is_value = read_element l.value 4 v.body l.is_value;
          allowed = λ e. absurd (four_is_no_31 e);
        },
        refl,
      );
      is_body = inl (refl, refl, refl, fits.body);
    }
  where
    four_is_no_31 : 4 % 32 ≡ 31 → ⊥
    four_is_no_31 e = absurd (omega arith)

pub read_again : (v : Seen) (octets : List ℕ) → HasSpelling v → Shortest v octets → IsTrap octets v
read_again v octets fits is = record {
  version = is.version;
  community = is.community;
  trap = is.trap;
  contents = is.contents;
  is_message = read_element octets 48 (is.version ++ (is.community ++ is.trap)) is.is_message;
  is_version = read_number_element is.version 2 0 (omega arith) is.is_version;
  is_community = read_element is.community 4 v.community is.is_community;
  is_trap = read_element is.trap 164 is.contents is.is_trap;
  trap_part = read_trap_part v is.contents fits is.trap_part;
}

-- ---- the writer's steps

regroup : (h a b l t : List ℕ) → (((h ++ a) ++ b) ++ l) ++ t ≡ h ++ (a ++ (b ++ (l ++ t)))
regroup h a b l t = simp append_assoc

pub joined : (v : Seen) (n part outer : ℕ) (o1 o2 o3 o4 o5 : List ℕ) → HasSpelling v → length v.community ≤ 18 → part ≡ length (trap_part v) → outer ≡ 1 + length (length_octets part) + part → n ≡ 5 + length v.community + outer → o1 ≡ 48 ∷ length_octets n → o2 ≡ o1 ++ number_element 2 0 → o3 ≡ o2 ++ element 4 v.community → o4 ≡ o3 ++ 164 ∷ length_octets part → o5 ≡ o4 ++ trap_part v → o5 ≡ spelling v
unfolding spelling
joined v n part outer o1 o2 o3 o4 o5 is le is_part is_outer is_n e1 e2 e3 e4 e5 =
    let version = number_element 2 0 in
    let community = element 4 v.community in
    let inner = trap_part v in
    let held = element 164 inner in
    let rest = version ++ (community ++ held) in
    let held_length : length held ≡ outer = length-element 164 inner ∙ sym (is_outer ∙ ap (λ k. 1 + length (length_octets k) + k) is_part) in
    let size : n ≡ length rest = omega (arith, is_n, held_length, length-append version (community ++ held), length-append community held, length-number_element 2 0 (omega arith), short_length 4 v.community (omega arith)) in
    let written : o5 ≡ ((((48 ∷ length_octets n) ++ version) ++ community) ++ (164 ∷ length_octets part)) ++ inner = e5 ∙ ap (λ (w : List ℕ). w ++ inner) (e4 ∙ ap (λ (w : List ℕ). w ++ (164 ∷ length_octets part)) (e3 ∙ ap (λ (w : List ℕ). w ++ community) (e2 ∙ ap (λ (w : List ℕ). w ++ version) e1))) in
    written ∙ regroup (48 ∷ length_octets n) version community (164 ∷ length_octets part) inner ∙ ap (λ k. (48 ∷ length_octets n) ++ (version ++ (community ++ ((164 ∷ length_octets k) ++ inner)))) is_part ∙ ap (λ k. (48 ∷ length_octets k) ++ rest) size

four_are_enough : (n : ℕ) → n < 2 ^ 24 → number_length n ≤ 4
four_are_enough n lt =
    elim (cases_lt n (2 ^ 7)) [
      | inl a ↦ rw (lt-ltb _ _ a) (omega arith)
      | inr a ↦
          elim (cases_lt n (2 ^ 15)) [
            | inl b ↦ rw (le-ltb _ _ a, lt-ltb _ _ b) (omega arith)
            | inr b ↦
                elim (cases_lt n (2 ^ 23)) [
                  | inl d ↦ rw (le-ltb _ _ a, le-ltb _ _ b, lt-ltb _ _ d) (omega arith)
                  | inr d ↦ let e : n < 2 ^ 31 = omega arith in rw (le-ltb _ _ a, le-ltb _ _ b, le-ltb _ _ d, lt-ltb _ _ e) (omega arith)
                ]
          ]
    ]

pub length-spelling : (v : Seen) → HasSpelling v → length v.community ≤ 18 → v.specific < 2 ^ 24 → length (spelling v) ≤ 190
unfolding spelling
length-spelling v is le small =
    let version = number_element 2 0 in
    let community = element 4 v.community in
    let held = element 164 (trap_part v) in
    let most = is.body.most in
    omega (arith, any_length 48 (version ++ (community ++ held)), length-append version (community ++ held), length-append community held, length-number_element 2 0 (omega arith), short_length 4 v.community (omega arith), any_length 164 (trap_part v), length-trap_part v is, four_are_enough v.specific small, number_length-fits v.ticks is.ticks)
