-- The whole message is read exactly.
use Rattle.std.proofs.Common.{◌≡◌, ℕ, List, [], ◌++◌, length, Result, refl, sym, ap, subst, ◌∙◌, append-nil}
use Rattle.snmp_trap.specs.declared.refusal.Refusal.{Refusal}
use Rattle.snmp_trap.specs.declared.refusal.Why.TheVariants.{Version, Generic}
use Rattle.snmp_trap.specs.Grammar.{IsElement, IsNumber, pet_enterprise, Seen, IsTrapPart, IsTrap}
use Rattle.snmp_trap.specs.Refusals.{Front, inside, behind, over, truncated, one, RefusesThen, RefusesMore, RefusesNothing, RefusesNumber, RefusesOther, RefusesEnterprise, RefusesAgent, RefusesList, RefusesTrapPart, RefusesMessage, RefusedTrap}
use Rattle.snmp_trap.specs.Reading.{field, ended, contents_at, number_at, this_at, enterprise_at, agent_at, list_at, trap_part_at, message_at, read}
use Rattle.snmp_trap.proofs.Exact.{Exact, exact_as, FieldIs, field_exact}
use Rattle.snmp_trap.proofs.Leaves.{ended_exact, contents_exact, number_exact, this_exact, enterprise_exact, agent_exact}
use Rattle.snmp_trap.proofs.Fronts.{element_of, is_one, splits, front_of, is_wanted}
use Rattle.snmp_trap.proofs.Bindings.{HoldsBody, list_exact}

abbrev Ends : Seen → List ℕ → Seen → Type 0
Ends w rest v = (rest ≡ []) × (w ≡ v)

-- ---- the trap itself, from its last element to its first

abbrev IsThis : ℕ → List ℕ → Unit {0} → Type 0
IsThis wanted contents value = IsNumber contents wanted

abbrev IsEnterprise : List ℕ → Unit {0} → Type 0
IsEnterprise contents value = contents ≡ pet_enterprise

abbrev IsAgent : List ℕ → List ℕ → Type 0
IsAgent contents agent = (contents ≡ agent) × (length agent ≡ 4)

abbrev all : List ℕ → List ℕ → ℕ → ℕ → List ℕ → Seen
all community agent specific ticks body = record { community = community; agent = agent; specific = specific; ticks = ticks; body = body }

abbrev FromList : List ℕ → List ℕ → ℕ → ℕ → List ℕ → Seen → Type 0
FromList community agent specific ticks octets v = FieldIs (one 48) HoldsBody (λ _ body rest w. Ends (all community agent specific ticks body) rest w) octets v

abbrev FromTicks : List ℕ → List ℕ → ℕ → List ℕ → Seen → Type 0
FromTicks community agent specific octets v = FieldIs (one 67) IsNumber (λ _ ticks rest w. FromList community agent specific ticks rest w) octets v

abbrev FromSpecific : List ℕ → List ℕ → List ℕ → Seen → Type 0
FromSpecific community agent octets v = FieldIs (one 2) IsNumber (λ _ specific rest w. FromTicks community agent specific rest w) octets v

abbrev FromGeneric : List ℕ → List ℕ → List ℕ → Seen → Type 0
FromGeneric community agent octets v = FieldIs (one 2) (IsThis 6) (λ _ _ rest w. FromSpecific community agent rest w) octets v

abbrev FromAgent : List ℕ → List ℕ → Seen → Type 0
FromAgent community octets v = FieldIs (one 64) IsAgent (λ _ agent rest w. FromGeneric community agent rest w) octets v

abbrev FromEnterprise : List ℕ → List ℕ → Seen → Type 0
FromEnterprise community octets v = FieldIs (one 6) IsEnterprise (λ _ _ rest w. FromAgent community rest w) octets v

from_list : (community agent : List ℕ) (specific ticks at : ℕ) (octets : List ℕ) → Exact (field over (one 48) list_at (λ _ body. ended (all community agent specific ticks body)) at octets) (FromList community agent specific ticks octets) (RefusesThen over (one 48) RefusesList (λ _. RefusesMore) at octets)
from_list community agent specific ticks at octets =
    field_exact over (one 48) list_at (λ _ body. ended (all community agent specific ticks body)) HoldsBody (λ _ body rest w. Ends (all community agent specific ticks body) rest w) RefusesList (λ _. RefusesMore) at octets
    (λ front w. list_exact at (inside at front) front.contents)
    (λ front w body is. ended_exact (all community agent specific ticks body) (behind at front) front.rest)

from_ticks : (community agent : List ℕ) (specific at : ℕ) (octets : List ℕ) → Exact (field over (one 67) number_at (λ _ ticks. field over (one 48) list_at (λ _ body. ended (all community agent specific ticks body))) at octets) (FromTicks community agent specific octets) (RefusesThen over (one 67) RefusesNumber (λ _. RefusesThen over (one 48) RefusesList (λ _. RefusesMore)) at octets)
from_ticks community agent specific at octets =
    field_exact over (one 67) number_at (λ _ ticks. field over (one 48) list_at (λ _ body. ended (all community agent specific ticks body))) IsNumber (λ _ ticks rest w. FromList community agent specific ticks rest w) RefusesNumber (λ _. RefusesThen over (one 48) RefusesList (λ _. RefusesMore)) at octets
    (λ front w. number_exact at (inside at front) front.contents)
    (λ front w ticks is. from_list community agent specific ticks (behind at front) front.rest)

abbrev read_specific : List ℕ → List ℕ → ℕ → List ℕ → Result Seen Refusal
read_specific community agent = field over (one 2) number_at (λ _ specific. field over (one 67) number_at (λ _ ticks. field over (one 48) list_at (λ _ body. ended (all community agent specific ticks body))))

abbrev refuses_specific : ℕ → List ℕ → Refusal → Type 0
refuses_specific = RefusesThen over (one 2) RefusesNumber (λ _. RefusesThen over (one 67) RefusesNumber (λ _. RefusesThen over (one 48) RefusesList (λ _. RefusesMore)))

from_specific : (community agent : List ℕ) (at : ℕ) (octets : List ℕ) → Exact (read_specific community agent at octets) (FromSpecific community agent octets) (refuses_specific at octets)
from_specific community agent at octets =
    field_exact over (one 2) number_at (λ _ specific. field over (one 67) number_at (λ _ ticks. field over (one 48) list_at (λ _ body. ended (all community agent specific ticks body)))) IsNumber (λ _ specific rest w. FromTicks community agent specific rest w) RefusesNumber (λ _. RefusesThen over (one 67) RefusesNumber (λ _. RefusesThen over (one 48) RefusesList (λ _. RefusesMore))) at octets
    (λ front w. number_exact at (inside at front) front.contents)
    (λ front w specific is. from_ticks community agent specific (behind at front) front.rest)

abbrev read_generic : List ℕ → List ℕ → ℕ → List ℕ → Result Seen Refusal
read_generic community agent = field over (one 2) (this_at 6 Generic) (λ _ _. read_specific community agent)

abbrev refuses_generic : ℕ → List ℕ → Refusal → Type 0
refuses_generic = RefusesThen over (one 2) (RefusesOther 6 Generic) (λ _. refuses_specific)

from_generic : (community agent : List ℕ) (at : ℕ) (octets : List ℕ) → Exact (read_generic community agent at octets) (FromGeneric community agent octets) (refuses_generic at octets)
from_generic community agent at octets =
    field_exact over (one 2) (this_at 6 Generic) (λ _ _. read_specific community agent) (IsThis 6) (λ _ _ rest w. FromSpecific community agent rest w) (RefusesOther 6 Generic) (λ _. refuses_specific) at octets
    (λ front w. this_exact 6 Generic at (inside at front) front.contents)
    (λ front w generic is. from_specific community agent (behind at front) front.rest)

abbrev read_agent : List ℕ → ℕ → List ℕ → Result Seen Refusal
read_agent community = field over (one 64) agent_at (λ _ agent. read_generic community agent)

abbrev refuses_agent : ℕ → List ℕ → Refusal → Type 0
refuses_agent = RefusesThen over (one 64) RefusesAgent (λ _. refuses_generic)

from_agent : (community : List ℕ) (at : ℕ) (octets : List ℕ) → Exact (read_agent community at octets) (FromAgent community octets) (refuses_agent at octets)
from_agent community at octets =
    field_exact over (one 64) agent_at (λ _ agent. read_generic community agent) IsAgent (λ _ agent rest w. FromGeneric community agent rest w) RefusesAgent (λ _. refuses_generic) at octets
    (λ front w. agent_exact at (inside at front) front.contents)
    (λ front w agent is. from_generic community agent (behind at front) front.rest)

from_enterprise : (community : List ℕ) (tag_place at : ℕ) (octets : List ℕ) → Exact (trap_part_at community tag_place at octets) (FromEnterprise community octets) (RefusesTrapPart tag_place at octets)
unfolding trap_part_at
from_enterprise community tag_place at octets =
    field_exact over (one 6) enterprise_at (λ _ _. read_agent community) IsEnterprise (λ _ _ rest w. FromAgent community rest w) RefusesEnterprise (λ _. refuses_agent) at octets
    (λ front w. enterprise_exact at (inside at front) front.contents)
    (λ front w enterprise is. from_agent community (behind at front) front.rest)

-- ---- the same as a concatenation

-- the trap of a message with this community
abbrev IsTrapOf : List ℕ → List ℕ → Seen → Type 0
IsTrapOf community octets v = (v.community ≡ community) × IsTrapPart octets v

trap_in : (community octets : List ℕ) (v : Seen) → FromEnterprise community octets v → IsTrapOf community octets v
trap_in community octets v enterprise =
    let agent = enterprise.then in
    let generic = agent.then in
    let specific = generic.then in
    let ticks = specific.then in
    let list = ticks.then in
    let whole = all community agent.value specific.value ticks.value list.value in
    let is : IsTrapPart octets whole = record {
      enterprise = element_of enterprise.front;
      agent = element_of agent.front;
      generic = element_of generic.front;
      specific = element_of specific.front;
      ticks = element_of ticks.front;
      list = element_of list.front;
      parts = behind_front enterprise.front _ (behind_front agent.front _ (behind_front generic.front _ (behind_front specific.front _ (behind_front ticks.front _ (last list.front list.then.0)))));
      is_enterprise = is_one 6 enterprise.front pet_enterprise enterprise.is_wanted enterprise.accepted;
      is_agent = is_one 64 agent.front agent.value agent.is_wanted agent.accepted.0;
      four = agent.accepted.1;
      is_generic = record { contents = generic.front.contents; element = is_one 2 generic.front generic.front.contents generic.is_wanted refl; number = generic.accepted };
      is_specific = record { contents = specific.front.contents; element = is_one 2 specific.front specific.front.contents specific.is_wanted refl; number = specific.accepted };
      is_ticks = record { contents = ticks.front.contents; element = is_one 67 ticks.front ticks.front.contents ticks.is_wanted refl; number = ticks.accepted };
      contents = list.front.contents;
      bindings = list.accepted.bindings;
      is_list = is_one 48 list.front list.front.contents list.is_wanted refl;
      are_bindings = list.accepted.are;
      is_body = list.accepted.is_body;
    } in
    subst (IsTrapOf community octets) list.then.1 (refl, is)
  where
    behind_front : {octets : List ℕ} (front : Front octets) (rest : List ℕ) → front.rest ≡ rest → octets ≡ element_of front ++ rest
    behind_front front rest e = splits front ∙ ap (λ (w : List ℕ). element_of front ++ w) e

    last : {octets : List ℕ} (front : Front octets) → front.rest ≡ [] → octets ≡ element_of front
    last front e = behind_front front [] e ∙ append-nil (element_of front)

trap_out : (community octets : List ℕ) (v : Seen) → IsTrapOf community octets v → FromEnterprise community octets v
trap_out community octets v of =
    let is = of.1 in
    let n = is.is_generic in
    let s = is.is_specific in
    let t = is.is_ticks in
    record {
      front = front_of is.enterprise 6 pet_enterprise (is.agent ++ (is.generic ++ (is.specific ++ (is.ticks ++ is.list)))) octets is.is_enterprise is.parts;
      is_wanted = is_wanted 6;
      value = tt;
      accepted = refl;
      then = record {
        front = front_of is.agent 64 v.agent (is.generic ++ (is.specific ++ (is.ticks ++ is.list))) _ is.is_agent refl;
        is_wanted = is_wanted 64;
        value = v.agent;
        accepted = (refl, is.four);
        then = record {
          front = front_of is.generic 2 n.contents (is.specific ++ (is.ticks ++ is.list)) _ n.element refl;
          is_wanted = is_wanted 2;
          value = tt;
          accepted = n.number;
          then = record {
            front = front_of is.specific 2 s.contents (is.ticks ++ is.list) _ s.element refl;
            is_wanted = is_wanted 2;
            value = v.specific;
            accepted = s.number;
            then = record {
              front = front_of is.ticks 67 t.contents is.list _ t.element refl;
              is_wanted = is_wanted 67;
              value = v.ticks;
              accepted = t.number;
              then = record {
                front = front_of is.list 48 is.contents [] _ is.is_list (sym (append-nil is.list));
                is_wanted = is_wanted 48;
                value = v.body;
                accepted = record { bindings = is.bindings; are = is.are_bindings; is_body = is.is_body };
                then = (refl, ap (λ (c : List ℕ). all c v.agent v.specific v.ticks v.body) (sym of.0));
              };
            };
          };
        };
      };
    }

trap_exact : (community : List ℕ) (tag_place at : ℕ) (octets : List ℕ) → Exact (trap_part_at community tag_place at octets) (IsTrapOf community octets) (RefusesTrapPart tag_place at octets)
trap_exact community tag_place at octets =
    exact_as _ _ _ _ _ (from_enterprise community tag_place at octets) (trap_in community octets) (trap_out community octets) (λ r h. h) (λ r h. h)

-- ---- the message

abbrev Is : List ℕ → List ℕ → Type 0
Is contents value = contents ≡ value

abbrev EndsAs : List ℕ → Seen → List ℕ → Seen → Type 0
EndsAs contents w rest v = Ends w rest v

abbrev FromTrap : List ℕ → List ℕ → Seen → Type 0
FromTrap community octets v = FieldIs (one 164) (IsTrapOf community) EndsAs octets v

abbrev FromCommunity : List ℕ → Seen → Type 0
FromCommunity octets v = FieldIs (one 4) Is (λ _ community rest w. FromTrap community rest w) octets v

abbrev FromVersion : List ℕ → Seen → Type 0
FromVersion octets v = FieldIs (one 2) (IsThis 0) (λ _ _ rest w. FromCommunity rest w) octets v

abbrev read_trap : List ℕ → ℕ → List ℕ → Result Seen Refusal
read_trap community = field over (one 164) (trap_part_at community) (λ _ v. ended v)

abbrev refuses_trap : ℕ → List ℕ → Refusal → Type 0
refuses_trap = RefusesThen over (one 164) RefusesTrapPart (λ _. RefusesMore)

from_trap : (community : List ℕ) (at : ℕ) (octets : List ℕ) → Exact (read_trap community at octets) (FromTrap community octets) (refuses_trap at octets)
from_trap community at octets =
    field_exact over (one 164) (trap_part_at community) (λ _ v. ended v) (IsTrapOf community) EndsAs RefusesTrapPart (λ _. RefusesMore) at octets
    (λ front w. trap_exact community at (inside at front) front.contents)
    (λ front w v is. ended_exact v (behind at front) front.rest)

abbrev read_community : ℕ → List ℕ → Result Seen Refusal
read_community = field over (one 4) contents_at (λ _ community. read_trap community)

abbrev refuses_community : ℕ → List ℕ → Refusal → Type 0
refuses_community = RefusesThen over (one 4) RefusesNothing (λ _. refuses_trap)

from_community : (at : ℕ) (octets : List ℕ) → Exact (read_community at octets) (FromCommunity octets) (refuses_community at octets)
from_community at octets =
    field_exact over (one 4) contents_at (λ _ community. read_trap community) Is (λ _ community rest w. FromTrap community rest w) RefusesNothing (λ _. refuses_trap) at octets
    (λ front w. contents_exact at (inside at front) front.contents)
    (λ front w community is. from_trap community (behind at front) front.rest)

message_exact : (tag_place at : ℕ) (octets : List ℕ) → Exact (message_at tag_place at octets) (FromVersion octets) (RefusesMessage tag_place at octets)
unfolding message_at
message_exact tag_place at octets =
    field_exact over (one 2) (this_at 0 Version) (λ _ _. read_community) (IsThis 0) (λ _ _ rest w. FromCommunity rest w) (RefusesOther 0 Version) (λ _. refuses_community) at octets
    (λ front w. this_exact 0 Version at (inside at front) front.contents)
    (λ front w version is. from_community (behind at front) front.rest)

abbrev FromMessage : List ℕ → Seen → Type 0
FromMessage octets v = FieldIs (one 48) FromVersion EndsAs octets v

from_message : (octets : List ℕ) → Exact (read octets) (FromMessage octets) (RefusesThen truncated (one 48) RefusesMessage (λ _. RefusesMore) 0 octets)
unfolding read
from_message octets =
    field_exact truncated (one 48) message_at (λ _ v. ended v) FromVersion EndsAs RefusesMessage (λ _. RefusesMore) 0 octets
    (λ front w. message_exact 0 (inside 0 front) front.contents)
    (λ front w v is. ended_exact v (behind 0 front) front.rest)

message_in : (octets : List ℕ) (v : Seen) → FromMessage octets v → IsTrap octets v
message_in octets v message =
    let version = message.accepted in
    let community = version.then in
    let trap = community.then in
    let is : IsTrap octets trap.value = record {
      version = element_of version.front;
      community = element_of community.front;
      trap = element_of trap.front;
      contents = trap.front.contents;
      is_message = subst (λ w. IsElement w 48 (element_of version.front ++ (element_of community.front ++ element_of trap.front))) (sym (last message.front message.then.0)) (is_one 48 message.front _ message.is_wanted (behind_front version.front _ (behind_front community.front _ (last trap.front trap.then.0))));
      is_version = record { contents = version.front.contents; element = is_one 2 version.front version.front.contents version.is_wanted refl; number = version.accepted };
      is_community = is_one 4 community.front trap.value.community community.is_wanted (community.accepted ∙ sym trap.accepted.0);
      is_trap = is_one 164 trap.front trap.front.contents trap.is_wanted refl;
      trap_part = trap.accepted.1;
    } in
    subst (IsTrap octets) (trap.then.1 ∙ message.then.1) is
  where
    behind_front : {octets : List ℕ} (front : Front octets) (rest : List ℕ) → front.rest ≡ rest → octets ≡ element_of front ++ rest
    behind_front front rest e = splits front ∙ ap (λ (w : List ℕ). element_of front ++ w) e

    last : {octets : List ℕ} (front : Front octets) → front.rest ≡ [] → octets ≡ element_of front
    last front e = behind_front front [] e ∙ append-nil (element_of front)

message_out : (octets : List ℕ) (v : Seen) → IsTrap octets v → FromMessage octets v
message_out octets v is =
    let n = is.is_version in
    record {
      front = front_of octets 48 (is.version ++ (is.community ++ is.trap)) [] octets is.is_message (sym (append-nil octets));
      is_wanted = is_wanted 48;
      value = v;
      accepted = record {
        front = front_of is.version 2 n.contents (is.community ++ is.trap) _ n.element refl;
        is_wanted = is_wanted 2;
        value = tt;
        accepted = n.number;
        then = record {
          front = front_of is.community 4 v.community is.trap _ is.is_community refl;
          is_wanted = is_wanted 4;
          value = v.community;
          accepted = refl;
          then = record {
            front = front_of is.trap 164 is.contents [] _ is.is_trap (sym (append-nil is.trap));
            is_wanted = is_wanted 164;
            value = v;
            accepted = (refl, is.trap_part);
            then = (refl, refl);
          };
        };
      };
      then = (refl, refl);
    }

abbrev pub Refused : List ℕ → Refusal → Type 0
Refused octets r = RefusedTrap octets r.why r.at

pub read_exact : (octets : List ℕ) → Exact (read octets) (IsTrap octets) (Refused octets)
read_exact octets = exact_as _ _ _ _ _ (from_message octets) (message_in octets) (message_out octets) (λ r h. h) (λ r h. h)
