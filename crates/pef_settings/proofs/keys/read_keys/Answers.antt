use Rattle.std.proofs.Common.{◌≡◌, ◌∙◌, sym, ap, refl, [], ◌∷◌, drop, replicate, Err, ok_or, rules, List, ℕ}
use Rattle.std.specs.Int.{to_le_bytes, w16, w32}
use Rattle.report_line.specs.Refusal.{key_name}
use Rattle.report_line.specs.declared.refusal.SettingsKey.TheVariants.{Guid, Agent, Manufacturer, System, PetPort, Oem1Port, Oem2Port, Control, Actions, Delay, Filter}
use Rattle.report_line.specs.declared.refusal.SettingsRefusal.TheVariants.{Key}
use Rattle.settings_document.specs.Document.{field, in_front}
use Rattle.settings_document.specs.Values.{required, or_default, number_or}
use Rattle.toml.specs.Data.{get_member}
use Rattle.toml.specs.View.{table_view}
use Rattle.pef_settings.specs.Settings.{fields, guid_in, agent_in, filter_in, four_octets, two_octets, one_octet}
use Rattle.pef_settings.proofs.Reading.{passed, stopped, as_it_is}
use Rattle.pef_settings.proofs.keys.read_keys.Goals as goal

pub returns-in_err-ok_or : goal.returns-in_err-ok_or
returns-in_err-ok_or c =
    let members = table_view c.args.document.now in
    let stop = stopped (field Guid (required guid_in)) (drop 1 fields) members (required guid_in (get_member (key_name Guid) members)) (λ (octets : List ℕ). octets) c.ok_or.result c.in_err-ok_or.field-0.0 (as_it_is (required guid_in (get_member (key_name Guid) members))) (c.ok_or.ensures.value ∙ ap (λ o. ok_or o (Key Guid)) c.guid.ensures) c.in_err-ok_or.was in
    let back : c.from_residual.result ≡ Err c.in_err-ok_or.field-0.0 = search (rules, c.from_residual.ensures) in
    rw back (sym (stop))

pub returns-in_err-ok_or-2 : goal.returns-in_err-ok_or-2
returns-in_err-ok_or-2 c =
    let members = table_view c.args.document.now in
    let step_1 = passed (field Guid (required guid_in)) (drop 1 fields) members (required guid_in (get_member (key_name Guid) members)) (λ (octets : List ℕ). octets) c.ok_or.result c.in_ok-ok_or.field-0 (as_it_is (required guid_in (get_member (key_name Guid) members))) (c.ok_or.ensures.value ∙ ap (λ o. ok_or o (Key Guid)) c.guid.ensures) c.in_ok-ok_or.was in
    let stop = stopped (field Agent (required agent_in)) (drop 2 fields) members (required agent_in (get_member (key_name Agent) members)) (λ (octets : List ℕ). octets) c.ok_or-2.result c.in_err-ok_or-2.field-0.0 (as_it_is (required agent_in (get_member (key_name Agent) members))) (c.ok_or-2.ensures.value ∙ ap (λ o. ok_or o (Key Agent)) c.agent.ensures) c.in_err-ok_or-2.was in
    let back : c.from_residual-in_err-ok_or-2.result ≡ Err c.in_err-ok_or-2.field-0.0 = search (rules, c.from_residual-in_err-ok_or-2.ensures) in
    rw back (sym (step_1 ∙ ap (in_front ((λ (octets : List ℕ). octets) c.in_ok-ok_or.field-0)) (stop)))

pub returns-in_err-number_or : goal.returns-in_err-number_or
returns-in_err-number_or c =
    let members = table_view c.args.document.now in
    let step_1 = passed (field Guid (required guid_in)) (drop 1 fields) members (required guid_in (get_member (key_name Guid) members)) (λ (octets : List ℕ). octets) c.ok_or.result c.in_ok-ok_or.field-0 (as_it_is (required guid_in (get_member (key_name Guid) members))) (c.ok_or.ensures.value ∙ ap (λ o. ok_or o (Key Guid)) c.guid.ensures) c.in_ok-ok_or.was in
    let step_2 = passed (field Agent (required agent_in)) (drop 2 fields) members (required agent_in (get_member (key_name Agent) members)) (λ (octets : List ℕ). octets) c.ok_or-2.result c.in_ok-ok_or-2.field-0 (as_it_is (required agent_in (get_member (key_name Agent) members))) (c.ok_or-2.ensures.value ∙ ap (λ o. ok_or o (Key Agent)) c.agent.ensures) c.in_ok-ok_or-2.was in
    let stop = stopped (field Manufacturer (four_octets 0)) (drop 3 fields) members (number_or 0 4294967295 (get_member (key_name Manufacturer) members)) (to_le_bytes w32) c.number_or.result c.in_err-number_or.field-0.0 refl c.number_or.ensures.number c.in_err-number_or.was in
    let back : c.from_residual-in_err-number_or.result ≡ Err c.in_err-number_or.field-0.0 = search (rules, c.from_residual-in_err-number_or.ensures) in
    rw back (sym (step_1 ∙ ap (in_front ((λ (octets : List ℕ). octets) c.in_ok-ok_or.field-0)) (step_2 ∙ ap (in_front ((λ (octets : List ℕ). octets) c.in_ok-ok_or-2.field-0)) (stop))))

pub returns-in_err-number_or-2 : goal.returns-in_err-number_or-2
returns-in_err-number_or-2 c =
    let members = table_view c.args.document.now in
    let step_1 = passed (field Guid (required guid_in)) (drop 1 fields) members (required guid_in (get_member (key_name Guid) members)) (λ (octets : List ℕ). octets) c.ok_or.result c.in_ok-ok_or.field-0 (as_it_is (required guid_in (get_member (key_name Guid) members))) (c.ok_or.ensures.value ∙ ap (λ o. ok_or o (Key Guid)) c.guid.ensures) c.in_ok-ok_or.was in
    let step_2 = passed (field Agent (required agent_in)) (drop 2 fields) members (required agent_in (get_member (key_name Agent) members)) (λ (octets : List ℕ). octets) c.ok_or-2.result c.in_ok-ok_or-2.field-0 (as_it_is (required agent_in (get_member (key_name Agent) members))) (c.ok_or-2.ensures.value ∙ ap (λ o. ok_or o (Key Agent)) c.agent.ensures) c.in_ok-ok_or-2.was in
    let step_3 = passed (field Manufacturer (four_octets 0)) (drop 3 fields) members (number_or 0 4294967295 (get_member (key_name Manufacturer) members)) (to_le_bytes w32) c.number_or.result c.in_ok-number_or.field-0 refl c.number_or.ensures.number c.in_ok-number_or.was in
    let stop = stopped (field System (two_octets 0)) (drop 4 fields) members (number_or 0 65535 (get_member (key_name System) members)) (to_le_bytes w16) c.number_or-2.result c.in_err-number_or-2.field-0.0 refl c.number_or-2.ensures.number c.in_err-number_or-2.was in
    let back : c.from_residual-in_err-number_or-2.result ≡ Err c.in_err-number_or-2.field-0.0 = search (rules, c.from_residual-in_err-number_or-2.ensures) in
    rw back (sym (step_1 ∙ ap (in_front ((λ (octets : List ℕ). octets) c.in_ok-ok_or.field-0)) (step_2 ∙ ap (in_front ((λ (octets : List ℕ). octets) c.in_ok-ok_or-2.field-0)) (step_3 ∙ ap (in_front ((to_le_bytes w32) c.in_ok-number_or.field-0)) (stop)))))

pub returns-in_err-number_or-3 : goal.returns-in_err-number_or-3
returns-in_err-number_or-3 c =
    let members = table_view c.args.document.now in
    let step_1 = passed (field Guid (required guid_in)) (drop 1 fields) members (required guid_in (get_member (key_name Guid) members)) (λ (octets : List ℕ). octets) c.ok_or.result c.in_ok-ok_or.field-0 (as_it_is (required guid_in (get_member (key_name Guid) members))) (c.ok_or.ensures.value ∙ ap (λ o. ok_or o (Key Guid)) c.guid.ensures) c.in_ok-ok_or.was in
    let step_2 = passed (field Agent (required agent_in)) (drop 2 fields) members (required agent_in (get_member (key_name Agent) members)) (λ (octets : List ℕ). octets) c.ok_or-2.result c.in_ok-ok_or-2.field-0 (as_it_is (required agent_in (get_member (key_name Agent) members))) (c.ok_or-2.ensures.value ∙ ap (λ o. ok_or o (Key Agent)) c.agent.ensures) c.in_ok-ok_or-2.was in
    let step_3 = passed (field Manufacturer (four_octets 0)) (drop 3 fields) members (number_or 0 4294967295 (get_member (key_name Manufacturer) members)) (to_le_bytes w32) c.number_or.result c.in_ok-number_or.field-0 refl c.number_or.ensures.number c.in_ok-number_or.was in
    let step_4 = passed (field System (two_octets 0)) (drop 4 fields) members (number_or 0 65535 (get_member (key_name System) members)) (to_le_bytes w16) c.number_or-2.result c.in_ok-number_or-2.field-0 refl c.number_or-2.ensures.number c.in_ok-number_or-2.was in
    let stop = stopped (field PetPort (two_octets 162)) (drop 5 fields) members (number_or 162 65535 (get_member (key_name PetPort) members)) (to_le_bytes w16) c.number_or-3.result c.in_err-number_or-3.field-0.0 refl c.number_or-3.ensures.number c.in_err-number_or-3.was in
    let back : c.from_residual-in_err-number_or-3.result ≡ Err c.in_err-number_or-3.field-0.0 = search (rules, c.from_residual-in_err-number_or-3.ensures) in
    rw back (sym (step_1 ∙ ap (in_front ((λ (octets : List ℕ). octets) c.in_ok-ok_or.field-0)) (step_2 ∙ ap (in_front ((λ (octets : List ℕ). octets) c.in_ok-ok_or-2.field-0)) (step_3 ∙ ap (in_front ((to_le_bytes w32) c.in_ok-number_or.field-0)) (step_4 ∙ ap (in_front ((to_le_bytes w16) c.in_ok-number_or-2.field-0)) (stop))))))

pub returns-in_err-number_or-4 : goal.returns-in_err-number_or-4
returns-in_err-number_or-4 c =
    let members = table_view c.args.document.now in
    let step_1 = passed (field Guid (required guid_in)) (drop 1 fields) members (required guid_in (get_member (key_name Guid) members)) (λ (octets : List ℕ). octets) c.ok_or.result c.in_ok-ok_or.field-0 (as_it_is (required guid_in (get_member (key_name Guid) members))) (c.ok_or.ensures.value ∙ ap (λ o. ok_or o (Key Guid)) c.guid.ensures) c.in_ok-ok_or.was in
    let step_2 = passed (field Agent (required agent_in)) (drop 2 fields) members (required agent_in (get_member (key_name Agent) members)) (λ (octets : List ℕ). octets) c.ok_or-2.result c.in_ok-ok_or-2.field-0 (as_it_is (required agent_in (get_member (key_name Agent) members))) (c.ok_or-2.ensures.value ∙ ap (λ o. ok_or o (Key Agent)) c.agent.ensures) c.in_ok-ok_or-2.was in
    let step_3 = passed (field Manufacturer (four_octets 0)) (drop 3 fields) members (number_or 0 4294967295 (get_member (key_name Manufacturer) members)) (to_le_bytes w32) c.number_or.result c.in_ok-number_or.field-0 refl c.number_or.ensures.number c.in_ok-number_or.was in
    let step_4 = passed (field System (two_octets 0)) (drop 4 fields) members (number_or 0 65535 (get_member (key_name System) members)) (to_le_bytes w16) c.number_or-2.result c.in_ok-number_or-2.field-0 refl c.number_or-2.ensures.number c.in_ok-number_or-2.was in
    let step_5 = passed (field PetPort (two_octets 162)) (drop 5 fields) members (number_or 162 65535 (get_member (key_name PetPort) members)) (to_le_bytes w16) c.number_or-3.result c.in_ok-number_or-3.field-0 refl c.number_or-3.ensures.number c.in_ok-number_or-3.was in
    let stop = stopped (field Oem1Port (two_octets 162)) (drop 6 fields) members (number_or 162 65535 (get_member (key_name Oem1Port) members)) (to_le_bytes w16) c.number_or-4.result c.in_err-number_or-4.field-0.0 refl c.number_or-4.ensures.number c.in_err-number_or-4.was in
    let back : c.from_residual-in_err-number_or-4.result ≡ Err c.in_err-number_or-4.field-0.0 = search (rules, c.from_residual-in_err-number_or-4.ensures) in
    rw back (sym (step_1 ∙ ap (in_front ((λ (octets : List ℕ). octets) c.in_ok-ok_or.field-0)) (step_2 ∙ ap (in_front ((λ (octets : List ℕ). octets) c.in_ok-ok_or-2.field-0)) (step_3 ∙ ap (in_front ((to_le_bytes w32) c.in_ok-number_or.field-0)) (step_4 ∙ ap (in_front ((to_le_bytes w16) c.in_ok-number_or-2.field-0)) (step_5 ∙ ap (in_front ((to_le_bytes w16) c.in_ok-number_or-3.field-0)) (stop)))))))

pub returns-in_err-number_or-5 : goal.returns-in_err-number_or-5
returns-in_err-number_or-5 c =
    let members = table_view c.args.document.now in
    let step_1 = passed (field Guid (required guid_in)) (drop 1 fields) members (required guid_in (get_member (key_name Guid) members)) (λ (octets : List ℕ). octets) c.ok_or.result c.in_ok-ok_or.field-0 (as_it_is (required guid_in (get_member (key_name Guid) members))) (c.ok_or.ensures.value ∙ ap (λ o. ok_or o (Key Guid)) c.guid.ensures) c.in_ok-ok_or.was in
    let step_2 = passed (field Agent (required agent_in)) (drop 2 fields) members (required agent_in (get_member (key_name Agent) members)) (λ (octets : List ℕ). octets) c.ok_or-2.result c.in_ok-ok_or-2.field-0 (as_it_is (required agent_in (get_member (key_name Agent) members))) (c.ok_or-2.ensures.value ∙ ap (λ o. ok_or o (Key Agent)) c.agent.ensures) c.in_ok-ok_or-2.was in
    let step_3 = passed (field Manufacturer (four_octets 0)) (drop 3 fields) members (number_or 0 4294967295 (get_member (key_name Manufacturer) members)) (to_le_bytes w32) c.number_or.result c.in_ok-number_or.field-0 refl c.number_or.ensures.number c.in_ok-number_or.was in
    let step_4 = passed (field System (two_octets 0)) (drop 4 fields) members (number_or 0 65535 (get_member (key_name System) members)) (to_le_bytes w16) c.number_or-2.result c.in_ok-number_or-2.field-0 refl c.number_or-2.ensures.number c.in_ok-number_or-2.was in
    let step_5 = passed (field PetPort (two_octets 162)) (drop 5 fields) members (number_or 162 65535 (get_member (key_name PetPort) members)) (to_le_bytes w16) c.number_or-3.result c.in_ok-number_or-3.field-0 refl c.number_or-3.ensures.number c.in_ok-number_or-3.was in
    let step_6 = passed (field Oem1Port (two_octets 162)) (drop 6 fields) members (number_or 162 65535 (get_member (key_name Oem1Port) members)) (to_le_bytes w16) c.number_or-4.result c.in_ok-number_or-4.field-0 refl c.number_or-4.ensures.number c.in_ok-number_or-4.was in
    let stop = stopped (field Oem2Port (two_octets 162)) (drop 7 fields) members (number_or 162 65535 (get_member (key_name Oem2Port) members)) (to_le_bytes w16) c.number_or-5.result c.in_err-number_or-5.field-0.0 refl c.number_or-5.ensures.number c.in_err-number_or-5.was in
    let back : c.from_residual-in_err-number_or-5.result ≡ Err c.in_err-number_or-5.field-0.0 = search (rules, c.from_residual-in_err-number_or-5.ensures) in
    rw back (sym (step_1 ∙ ap (in_front ((λ (octets : List ℕ). octets) c.in_ok-ok_or.field-0)) (step_2 ∙ ap (in_front ((λ (octets : List ℕ). octets) c.in_ok-ok_or-2.field-0)) (step_3 ∙ ap (in_front ((to_le_bytes w32) c.in_ok-number_or.field-0)) (step_4 ∙ ap (in_front ((to_le_bytes w16) c.in_ok-number_or-2.field-0)) (step_5 ∙ ap (in_front ((to_le_bytes w16) c.in_ok-number_or-3.field-0)) (step_6 ∙ ap (in_front ((to_le_bytes w16) c.in_ok-number_or-4.field-0)) (stop))))))))

pub returns-in_err-number_or-6 : goal.returns-in_err-number_or-6
returns-in_err-number_or-6 c =
    let members = table_view c.args.document.now in
    let step_1 = passed (field Guid (required guid_in)) (drop 1 fields) members (required guid_in (get_member (key_name Guid) members)) (λ (octets : List ℕ). octets) c.ok_or.result c.in_ok-ok_or.field-0 (as_it_is (required guid_in (get_member (key_name Guid) members))) (c.ok_or.ensures.value ∙ ap (λ o. ok_or o (Key Guid)) c.guid.ensures) c.in_ok-ok_or.was in
    let step_2 = passed (field Agent (required agent_in)) (drop 2 fields) members (required agent_in (get_member (key_name Agent) members)) (λ (octets : List ℕ). octets) c.ok_or-2.result c.in_ok-ok_or-2.field-0 (as_it_is (required agent_in (get_member (key_name Agent) members))) (c.ok_or-2.ensures.value ∙ ap (λ o. ok_or o (Key Agent)) c.agent.ensures) c.in_ok-ok_or-2.was in
    let step_3 = passed (field Manufacturer (four_octets 0)) (drop 3 fields) members (number_or 0 4294967295 (get_member (key_name Manufacturer) members)) (to_le_bytes w32) c.number_or.result c.in_ok-number_or.field-0 refl c.number_or.ensures.number c.in_ok-number_or.was in
    let step_4 = passed (field System (two_octets 0)) (drop 4 fields) members (number_or 0 65535 (get_member (key_name System) members)) (to_le_bytes w16) c.number_or-2.result c.in_ok-number_or-2.field-0 refl c.number_or-2.ensures.number c.in_ok-number_or-2.was in
    let step_5 = passed (field PetPort (two_octets 162)) (drop 5 fields) members (number_or 162 65535 (get_member (key_name PetPort) members)) (to_le_bytes w16) c.number_or-3.result c.in_ok-number_or-3.field-0 refl c.number_or-3.ensures.number c.in_ok-number_or-3.was in
    let step_6 = passed (field Oem1Port (two_octets 162)) (drop 6 fields) members (number_or 162 65535 (get_member (key_name Oem1Port) members)) (to_le_bytes w16) c.number_or-4.result c.in_ok-number_or-4.field-0 refl c.number_or-4.ensures.number c.in_ok-number_or-4.was in
    let step_7 = passed (field Oem2Port (two_octets 162)) (drop 7 fields) members (number_or 162 65535 (get_member (key_name Oem2Port) members)) (to_le_bytes w16) c.number_or-5.result c.in_ok-number_or-5.field-0 refl c.number_or-5.ensures.number c.in_ok-number_or-5.was in
    let stop = stopped (field Control (one_octet 1)) (drop 8 fields) members (number_or 1 255 (get_member (key_name Control) members)) (λ (n : ℕ). n ∷ []) c.number_or-6.result c.in_err-number_or-6.field-0.0 refl c.number_or-6.ensures.number c.in_err-number_or-6.was in
    let back : c.from_residual-in_err-number_or-6.result ≡ Err c.in_err-number_or-6.field-0.0 = search (rules, c.from_residual-in_err-number_or-6.ensures) in
    rw back (sym (step_1 ∙ ap (in_front ((λ (octets : List ℕ). octets) c.in_ok-ok_or.field-0)) (step_2 ∙ ap (in_front ((λ (octets : List ℕ). octets) c.in_ok-ok_or-2.field-0)) (step_3 ∙ ap (in_front ((to_le_bytes w32) c.in_ok-number_or.field-0)) (step_4 ∙ ap (in_front ((to_le_bytes w16) c.in_ok-number_or-2.field-0)) (step_5 ∙ ap (in_front ((to_le_bytes w16) c.in_ok-number_or-3.field-0)) (step_6 ∙ ap (in_front ((to_le_bytes w16) c.in_ok-number_or-4.field-0)) (step_7 ∙ ap (in_front ((to_le_bytes w16) c.in_ok-number_or-5.field-0)) (stop)))))))))

pub returns-in_err-number_or-7 : goal.returns-in_err-number_or-7
returns-in_err-number_or-7 c =
    let members = table_view c.args.document.now in
    let step_1 = passed (field Guid (required guid_in)) (drop 1 fields) members (required guid_in (get_member (key_name Guid) members)) (λ (octets : List ℕ). octets) c.ok_or.result c.in_ok-ok_or.field-0 (as_it_is (required guid_in (get_member (key_name Guid) members))) (c.ok_or.ensures.value ∙ ap (λ o. ok_or o (Key Guid)) c.guid.ensures) c.in_ok-ok_or.was in
    let step_2 = passed (field Agent (required agent_in)) (drop 2 fields) members (required agent_in (get_member (key_name Agent) members)) (λ (octets : List ℕ). octets) c.ok_or-2.result c.in_ok-ok_or-2.field-0 (as_it_is (required agent_in (get_member (key_name Agent) members))) (c.ok_or-2.ensures.value ∙ ap (λ o. ok_or o (Key Agent)) c.agent.ensures) c.in_ok-ok_or-2.was in
    let step_3 = passed (field Manufacturer (four_octets 0)) (drop 3 fields) members (number_or 0 4294967295 (get_member (key_name Manufacturer) members)) (to_le_bytes w32) c.number_or.result c.in_ok-number_or.field-0 refl c.number_or.ensures.number c.in_ok-number_or.was in
    let step_4 = passed (field System (two_octets 0)) (drop 4 fields) members (number_or 0 65535 (get_member (key_name System) members)) (to_le_bytes w16) c.number_or-2.result c.in_ok-number_or-2.field-0 refl c.number_or-2.ensures.number c.in_ok-number_or-2.was in
    let step_5 = passed (field PetPort (two_octets 162)) (drop 5 fields) members (number_or 162 65535 (get_member (key_name PetPort) members)) (to_le_bytes w16) c.number_or-3.result c.in_ok-number_or-3.field-0 refl c.number_or-3.ensures.number c.in_ok-number_or-3.was in
    let step_6 = passed (field Oem1Port (two_octets 162)) (drop 6 fields) members (number_or 162 65535 (get_member (key_name Oem1Port) members)) (to_le_bytes w16) c.number_or-4.result c.in_ok-number_or-4.field-0 refl c.number_or-4.ensures.number c.in_ok-number_or-4.was in
    let step_7 = passed (field Oem2Port (two_octets 162)) (drop 7 fields) members (number_or 162 65535 (get_member (key_name Oem2Port) members)) (to_le_bytes w16) c.number_or-5.result c.in_ok-number_or-5.field-0 refl c.number_or-5.ensures.number c.in_ok-number_or-5.was in
    let step_8 = passed (field Control (one_octet 1)) (drop 8 fields) members (number_or 1 255 (get_member (key_name Control) members)) (λ (n : ℕ). n ∷ []) c.number_or-6.result c.in_ok-number_or-6.field-0 refl c.number_or-6.ensures.number c.in_ok-number_or-6.was in
    let stop = stopped (field Actions (one_octet 63)) (drop 9 fields) members (number_or 63 255 (get_member (key_name Actions) members)) (λ (n : ℕ). n ∷ []) c.number_or-7.result c.in_err-number_or-7.field-0.0 refl c.number_or-7.ensures.number c.in_err-number_or-7.was in
    let back : c.from_residual-in_err-number_or-7.result ≡ Err c.in_err-number_or-7.field-0.0 = search (rules, c.from_residual-in_err-number_or-7.ensures) in
    rw back (sym (step_1 ∙ ap (in_front ((λ (octets : List ℕ). octets) c.in_ok-ok_or.field-0)) (step_2 ∙ ap (in_front ((λ (octets : List ℕ). octets) c.in_ok-ok_or-2.field-0)) (step_3 ∙ ap (in_front ((to_le_bytes w32) c.in_ok-number_or.field-0)) (step_4 ∙ ap (in_front ((to_le_bytes w16) c.in_ok-number_or-2.field-0)) (step_5 ∙ ap (in_front ((to_le_bytes w16) c.in_ok-number_or-3.field-0)) (step_6 ∙ ap (in_front ((to_le_bytes w16) c.in_ok-number_or-4.field-0)) (step_7 ∙ ap (in_front ((to_le_bytes w16) c.in_ok-number_or-5.field-0)) (step_8 ∙ ap (in_front ((λ (n : ℕ). n ∷ []) c.in_ok-number_or-6.field-0)) (stop))))))))))

pub returns-in_err-number_or-8 : goal.returns-in_err-number_or-8
returns-in_err-number_or-8 c =
    let members = table_view c.args.document.now in
    let step_1 = passed (field Guid (required guid_in)) (drop 1 fields) members (required guid_in (get_member (key_name Guid) members)) (λ (octets : List ℕ). octets) c.ok_or.result c.in_ok-ok_or.field-0 (as_it_is (required guid_in (get_member (key_name Guid) members))) (c.ok_or.ensures.value ∙ ap (λ o. ok_or o (Key Guid)) c.guid.ensures) c.in_ok-ok_or.was in
    let step_2 = passed (field Agent (required agent_in)) (drop 2 fields) members (required agent_in (get_member (key_name Agent) members)) (λ (octets : List ℕ). octets) c.ok_or-2.result c.in_ok-ok_or-2.field-0 (as_it_is (required agent_in (get_member (key_name Agent) members))) (c.ok_or-2.ensures.value ∙ ap (λ o. ok_or o (Key Agent)) c.agent.ensures) c.in_ok-ok_or-2.was in
    let step_3 = passed (field Manufacturer (four_octets 0)) (drop 3 fields) members (number_or 0 4294967295 (get_member (key_name Manufacturer) members)) (to_le_bytes w32) c.number_or.result c.in_ok-number_or.field-0 refl c.number_or.ensures.number c.in_ok-number_or.was in
    let step_4 = passed (field System (two_octets 0)) (drop 4 fields) members (number_or 0 65535 (get_member (key_name System) members)) (to_le_bytes w16) c.number_or-2.result c.in_ok-number_or-2.field-0 refl c.number_or-2.ensures.number c.in_ok-number_or-2.was in
    let step_5 = passed (field PetPort (two_octets 162)) (drop 5 fields) members (number_or 162 65535 (get_member (key_name PetPort) members)) (to_le_bytes w16) c.number_or-3.result c.in_ok-number_or-3.field-0 refl c.number_or-3.ensures.number c.in_ok-number_or-3.was in
    let step_6 = passed (field Oem1Port (two_octets 162)) (drop 6 fields) members (number_or 162 65535 (get_member (key_name Oem1Port) members)) (to_le_bytes w16) c.number_or-4.result c.in_ok-number_or-4.field-0 refl c.number_or-4.ensures.number c.in_ok-number_or-4.was in
    let step_7 = passed (field Oem2Port (two_octets 162)) (drop 7 fields) members (number_or 162 65535 (get_member (key_name Oem2Port) members)) (to_le_bytes w16) c.number_or-5.result c.in_ok-number_or-5.field-0 refl c.number_or-5.ensures.number c.in_ok-number_or-5.was in
    let step_8 = passed (field Control (one_octet 1)) (drop 8 fields) members (number_or 1 255 (get_member (key_name Control) members)) (λ (n : ℕ). n ∷ []) c.number_or-6.result c.in_ok-number_or-6.field-0 refl c.number_or-6.ensures.number c.in_ok-number_or-6.was in
    let step_9 = passed (field Actions (one_octet 63)) (drop 9 fields) members (number_or 63 255 (get_member (key_name Actions) members)) (λ (n : ℕ). n ∷ []) c.number_or-7.result c.in_ok-number_or-7.field-0 refl c.number_or-7.ensures.number c.in_ok-number_or-7.was in
    let stop = stopped (field Delay (one_octet 0)) (drop 10 fields) members (number_or 0 255 (get_member (key_name Delay) members)) (λ (n : ℕ). n ∷ []) c.number_or-8.result c.in_err-number_or-8.field-0.0 refl c.number_or-8.ensures.number c.in_err-number_or-8.was in
    let back : c.from_residual-in_err-number_or-8.result ≡ Err c.in_err-number_or-8.field-0.0 = search (rules, c.from_residual-in_err-number_or-8.ensures) in
    rw back (sym (step_1 ∙ ap (in_front ((λ (octets : List ℕ). octets) c.in_ok-ok_or.field-0)) (step_2 ∙ ap (in_front ((λ (octets : List ℕ). octets) c.in_ok-ok_or-2.field-0)) (step_3 ∙ ap (in_front ((to_le_bytes w32) c.in_ok-number_or.field-0)) (step_4 ∙ ap (in_front ((to_le_bytes w16) c.in_ok-number_or-2.field-0)) (step_5 ∙ ap (in_front ((to_le_bytes w16) c.in_ok-number_or-3.field-0)) (step_6 ∙ ap (in_front ((to_le_bytes w16) c.in_ok-number_or-4.field-0)) (step_7 ∙ ap (in_front ((to_le_bytes w16) c.in_ok-number_or-5.field-0)) (step_8 ∙ ap (in_front ((λ (n : ℕ). n ∷ []) c.in_ok-number_or-6.field-0)) (step_9 ∙ ap (in_front ((λ (n : ℕ). n ∷ []) c.in_ok-number_or-7.field-0)) (stop)))))))))))

pub returns-in_err-ok_or-3 : goal.returns-in_err-ok_or-3
returns-in_err-ok_or-3 c =
    let members = table_view c.args.document.now in
    let step_1 = passed (field Guid (required guid_in)) (drop 1 fields) members (required guid_in (get_member (key_name Guid) members)) (λ (octets : List ℕ). octets) c.ok_or.result c.in_ok-ok_or.field-0 (as_it_is (required guid_in (get_member (key_name Guid) members))) (c.ok_or.ensures.value ∙ ap (λ o. ok_or o (Key Guid)) c.guid.ensures) c.in_ok-ok_or.was in
    let step_2 = passed (field Agent (required agent_in)) (drop 2 fields) members (required agent_in (get_member (key_name Agent) members)) (λ (octets : List ℕ). octets) c.ok_or-2.result c.in_ok-ok_or-2.field-0 (as_it_is (required agent_in (get_member (key_name Agent) members))) (c.ok_or-2.ensures.value ∙ ap (λ o. ok_or o (Key Agent)) c.agent.ensures) c.in_ok-ok_or-2.was in
    let step_3 = passed (field Manufacturer (four_octets 0)) (drop 3 fields) members (number_or 0 4294967295 (get_member (key_name Manufacturer) members)) (to_le_bytes w32) c.number_or.result c.in_ok-number_or.field-0 refl c.number_or.ensures.number c.in_ok-number_or.was in
    let step_4 = passed (field System (two_octets 0)) (drop 4 fields) members (number_or 0 65535 (get_member (key_name System) members)) (to_le_bytes w16) c.number_or-2.result c.in_ok-number_or-2.field-0 refl c.number_or-2.ensures.number c.in_ok-number_or-2.was in
    let step_5 = passed (field PetPort (two_octets 162)) (drop 5 fields) members (number_or 162 65535 (get_member (key_name PetPort) members)) (to_le_bytes w16) c.number_or-3.result c.in_ok-number_or-3.field-0 refl c.number_or-3.ensures.number c.in_ok-number_or-3.was in
    let step_6 = passed (field Oem1Port (two_octets 162)) (drop 6 fields) members (number_or 162 65535 (get_member (key_name Oem1Port) members)) (to_le_bytes w16) c.number_or-4.result c.in_ok-number_or-4.field-0 refl c.number_or-4.ensures.number c.in_ok-number_or-4.was in
    let step_7 = passed (field Oem2Port (two_octets 162)) (drop 7 fields) members (number_or 162 65535 (get_member (key_name Oem2Port) members)) (to_le_bytes w16) c.number_or-5.result c.in_ok-number_or-5.field-0 refl c.number_or-5.ensures.number c.in_ok-number_or-5.was in
    let step_8 = passed (field Control (one_octet 1)) (drop 8 fields) members (number_or 1 255 (get_member (key_name Control) members)) (λ (n : ℕ). n ∷ []) c.number_or-6.result c.in_ok-number_or-6.field-0 refl c.number_or-6.ensures.number c.in_ok-number_or-6.was in
    let step_9 = passed (field Actions (one_octet 63)) (drop 9 fields) members (number_or 63 255 (get_member (key_name Actions) members)) (λ (n : ℕ). n ∷ []) c.number_or-7.result c.in_ok-number_or-7.field-0 refl c.number_or-7.ensures.number c.in_ok-number_or-7.was in
    let step_10 = passed (field Delay (one_octet 0)) (drop 10 fields) members (number_or 0 255 (get_member (key_name Delay) members)) (λ (n : ℕ). n ∷ []) c.number_or-8.result c.in_ok-number_or-8.field-0 refl c.number_or-8.ensures.number c.in_ok-number_or-8.was in
    let stop = stopped (field Filter (or_default (replicate 20 0) filter_in)) (drop 11 fields) members (or_default (replicate 20 0) filter_in (get_member (key_name Filter) members)) (λ (octets : List ℕ). octets) c.ok_or-3.result c.in_err-ok_or-3.field-0.0 (as_it_is (or_default (replicate 20 0) filter_in (get_member (key_name Filter) members))) (c.ok_or-3.ensures.value ∙ ap (λ o. ok_or o (Key Filter)) c.filter.ensures) c.in_err-ok_or-3.was in
    let back : c.from_residual-in_err-ok_or-3.result ≡ Err c.in_err-ok_or-3.field-0.0 = search (rules, c.from_residual-in_err-ok_or-3.ensures) in
    rw back (sym (step_1 ∙ ap (in_front ((λ (octets : List ℕ). octets) c.in_ok-ok_or.field-0)) (step_2 ∙ ap (in_front ((λ (octets : List ℕ). octets) c.in_ok-ok_or-2.field-0)) (step_3 ∙ ap (in_front ((to_le_bytes w32) c.in_ok-number_or.field-0)) (step_4 ∙ ap (in_front ((to_le_bytes w16) c.in_ok-number_or-2.field-0)) (step_5 ∙ ap (in_front ((to_le_bytes w16) c.in_ok-number_or-3.field-0)) (step_6 ∙ ap (in_front ((to_le_bytes w16) c.in_ok-number_or-4.field-0)) (step_7 ∙ ap (in_front ((to_le_bytes w16) c.in_ok-number_or-5.field-0)) (step_8 ∙ ap (in_front ((λ (n : ℕ). n ∷ []) c.in_ok-number_or-6.field-0)) (step_9 ∙ ap (in_front ((λ (n : ℕ). n ∷ []) c.in_ok-number_or-7.field-0)) (step_10 ∙ ap (in_front ((λ (n : ℕ). n ∷ []) c.in_ok-number_or-8.field-0)) (stop))))))))))))

pub returns : goal.returns
returns c =
    let members = table_view c.args.document.now in
    let step_1 = passed (field Guid (required guid_in)) (drop 1 fields) members (required guid_in (get_member (key_name Guid) members)) (λ (octets : List ℕ). octets) c.ok_or.result c.in_ok-ok_or.field-0 (as_it_is (required guid_in (get_member (key_name Guid) members))) (c.ok_or.ensures.value ∙ ap (λ o. ok_or o (Key Guid)) c.guid.ensures) c.in_ok-ok_or.was in
    let step_2 = passed (field Agent (required agent_in)) (drop 2 fields) members (required agent_in (get_member (key_name Agent) members)) (λ (octets : List ℕ). octets) c.ok_or-2.result c.in_ok-ok_or-2.field-0 (as_it_is (required agent_in (get_member (key_name Agent) members))) (c.ok_or-2.ensures.value ∙ ap (λ o. ok_or o (Key Agent)) c.agent.ensures) c.in_ok-ok_or-2.was in
    let step_3 = passed (field Manufacturer (four_octets 0)) (drop 3 fields) members (number_or 0 4294967295 (get_member (key_name Manufacturer) members)) (to_le_bytes w32) c.number_or.result c.in_ok-number_or.field-0 refl c.number_or.ensures.number c.in_ok-number_or.was in
    let step_4 = passed (field System (two_octets 0)) (drop 4 fields) members (number_or 0 65535 (get_member (key_name System) members)) (to_le_bytes w16) c.number_or-2.result c.in_ok-number_or-2.field-0 refl c.number_or-2.ensures.number c.in_ok-number_or-2.was in
    let step_5 = passed (field PetPort (two_octets 162)) (drop 5 fields) members (number_or 162 65535 (get_member (key_name PetPort) members)) (to_le_bytes w16) c.number_or-3.result c.in_ok-number_or-3.field-0 refl c.number_or-3.ensures.number c.in_ok-number_or-3.was in
    let step_6 = passed (field Oem1Port (two_octets 162)) (drop 6 fields) members (number_or 162 65535 (get_member (key_name Oem1Port) members)) (to_le_bytes w16) c.number_or-4.result c.in_ok-number_or-4.field-0 refl c.number_or-4.ensures.number c.in_ok-number_or-4.was in
    let step_7 = passed (field Oem2Port (two_octets 162)) (drop 7 fields) members (number_or 162 65535 (get_member (key_name Oem2Port) members)) (to_le_bytes w16) c.number_or-5.result c.in_ok-number_or-5.field-0 refl c.number_or-5.ensures.number c.in_ok-number_or-5.was in
    let step_8 = passed (field Control (one_octet 1)) (drop 8 fields) members (number_or 1 255 (get_member (key_name Control) members)) (λ (n : ℕ). n ∷ []) c.number_or-6.result c.in_ok-number_or-6.field-0 refl c.number_or-6.ensures.number c.in_ok-number_or-6.was in
    let step_9 = passed (field Actions (one_octet 63)) (drop 9 fields) members (number_or 63 255 (get_member (key_name Actions) members)) (λ (n : ℕ). n ∷ []) c.number_or-7.result c.in_ok-number_or-7.field-0 refl c.number_or-7.ensures.number c.in_ok-number_or-7.was in
    let step_10 = passed (field Delay (one_octet 0)) (drop 10 fields) members (number_or 0 255 (get_member (key_name Delay) members)) (λ (n : ℕ). n ∷ []) c.number_or-8.result c.in_ok-number_or-8.field-0 refl c.number_or-8.ensures.number c.in_ok-number_or-8.was in
    let step_11 = passed (field Filter (or_default (replicate 20 0) filter_in)) (drop 11 fields) members (or_default (replicate 20 0) filter_in (get_member (key_name Filter) members)) (λ (octets : List ℕ). octets) c.ok_or-3.result c.in_ok-ok_or-3.field-0 (as_it_is (or_default (replicate 20 0) filter_in (get_member (key_name Filter) members))) (c.ok_or-3.ensures.value ∙ ap (λ o. ok_or o (Key Filter)) c.filter.ensures) c.in_ok-ok_or-3.was in
    sym (step_1 ∙ ap (in_front ((λ (octets : List ℕ). octets) c.in_ok-ok_or.field-0)) (step_2 ∙ ap (in_front ((λ (octets : List ℕ). octets) c.in_ok-ok_or-2.field-0)) (step_3 ∙ ap (in_front ((to_le_bytes w32) c.in_ok-number_or.field-0)) (step_4 ∙ ap (in_front ((to_le_bytes w16) c.in_ok-number_or-2.field-0)) (step_5 ∙ ap (in_front ((to_le_bytes w16) c.in_ok-number_or-3.field-0)) (step_6 ∙ ap (in_front ((to_le_bytes w16) c.in_ok-number_or-4.field-0)) (step_7 ∙ ap (in_front ((to_le_bytes w16) c.in_ok-number_or-5.field-0)) (step_8 ∙ ap (in_front ((λ (n : ℕ). n ∷ []) c.in_ok-number_or-6.field-0)) (step_9 ∙ ap (in_front ((λ (n : ℕ). n ∷ []) c.in_ok-number_or-7.field-0)) (step_10 ∙ ap (in_front ((λ (n : ℕ). n ∷ []) c.in_ok-number_or-8.field-0)) (step_11)))))))))))
