-- The whole job, from the filters in their order and the bits that they ask for.
use Rattle.std.proofs.Common.{◌≡◌, ℕ, ◌+◌, ◌-◌, Bool, cond, Option, Some, None, List, [], ◌∷◌, ◌∙◌, ap, sym, eqb, length, get_or, arith}
use Rattle.std.specs.Int.{bit_at}
use Rattle.board_core.specs.declared.step.Act.{Act}
use Rattle.board_core.specs.declared.step.Act.TheVariants.{PowerDown, PowerCycle, Reset, DiagInt}
use Rattle.event_record.specs.Fields.{octet}
use Rattle.filter_table.specs.Filters.{numbered}
use Rattle.lan_dest.specs.declared.destination.Ports.{Ports}
use Rattle.lan_dest.specs.Parameters.{Tables as LanTables}
use Rattle.pef_config.specs.Places.{Tables, Actions, filter_at, our_sizes}
use Rattle.pef_config.proofs.Numbered.{numbered-one_on}
use Rattle.pef_match.specs.declared.target.Target.{Target}
use Rattle.pef_match.specs.Alerts.{targets_of}
use Rattle.pef_match.specs.Parts.{Parts}
use Rattle.pef_match.proofs.Rows.{listed}
use Rattle.pef_match.specs.Job.{filters_in, asked_by, asked, has_bit, act_by, job}

filters_listed : (t : Tables) (filters : List (List ℕ)) → length filters ≡ 16 → ((n : ℕ) → numbered filters n ≡ filter_at t n) → filters ≡ filters_in our_sizes t
unfolding filters_in
filters_listed t filters sixteen each = listed 16 filters [] (filter_at t) 1 sixteen (λ i below. by_number i)
  where
    one_less : (i : ℕ) → 1 + i - 1 ≡ i
    one_less i = omega arith

    by_number : (i : ℕ) → get_or filters i [] ≡ filter_at t (1 + i)
    by_number i = ap (λ k. get_or filters k []) (sym (one_less i)) ∙ sym (numbered-one_on filters (1 + i) (omega arith)) ∙ each (1 + i)

act_by-same : (f g : ℕ → Bool) → ((n : ℕ) → f n ≡ g n) → act_by f ≡ act_by g
act_by-same f g same =
    ap (λ b. cond b (Some PowerDown) (cond (f 3) (Some PowerCycle) (cond (f 2) (Some Reset) (cond (f 5) (Some DiagInt) None)))) (same 1)
    ∙ ap (λ b. cond (g 1) (Some PowerDown) (cond b (Some PowerCycle) (cond (f 2) (Some Reset) (cond (f 5) (Some DiagInt) None)))) (same 3)
    ∙ ap (λ b. cond (g 1) (Some PowerDown) (cond (g 3) (Some PowerCycle) (cond b (Some Reset) (cond (f 5) (Some DiagInt) None)))) (same 2)
    ∙ ap (λ b. cond (g 1) (Some PowerDown) (cond (g 3) (Some PowerCycle) (cond (g 2) (Some Reset) (cond b (Some DiagInt) None)))) (same 5)

abbrev pub parts : Option Act → List Target → Bool → List ℕ → Parts
parts act targets oem event = record { act = act; targets = targets; oem = oem; event = Some event }

pub job_whole : (t : Tables) (lan : LanTables) (ports : Ports) (filters : List (List ℕ)) (mask bits : ℕ) (event : List ℕ) → length filters ≡ 16
    → ((n : ℕ) → numbered filters n ≡ filter_at t n) → t Actions ≡ mask ∷ []
    → ((n : ℕ) → eqb (bit_at bits n) 1 ≡ has_bit (asked_by filters mask event) n)
    → parts (act_by (λ n. eqb (bit_at bits n) 1)) (targets_of our_sizes t lan ports event) (eqb (bit_at bits 4) 1) event ≡ job our_sizes t lan ports event
job_whole t lan ports filters mask bits event sixteen each masked told =
    ap (λ a. parts a targets (eqb (bit_at bits 4) 1) event) (act_by-same (λ n. eqb (bit_at bits n) 1) (has_bit (asked our_sizes t event)) same)
    ∙ ap (λ o. parts (act_by (has_bit (asked our_sizes t event))) targets o event) (same 4)
  where
    targets : List Target
    targets = targets_of our_sizes t lan ports event

    same : (n : ℕ) → eqb (bit_at bits n) 1 ≡ has_bit (asked our_sizes t event) n
    same n =
        told n
        ∙ ap (λ l. has_bit (asked_by l mask event) n) (filters_listed t filters sixteen each)
        ∙ ap (λ o. has_bit (asked_by (filters_in our_sizes t) (octet 1 o) event) n) (sym masked)
