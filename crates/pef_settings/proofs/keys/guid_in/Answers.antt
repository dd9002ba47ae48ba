use Rattle.std.proofs.Common.{◌≡◌, ◌∙◌, sym, ap, Some}
use Rattle.uuid.specs.Text.{parsed}
use Rattle.toml.specs.Data.{as_str}
use Rattle.toml.specs.View.{view}
use Rattle.pef_settings.proofs.Guids.{guid_text, parsed_none, parsed_some}
use Rattle.pef_settings.proofs.keys.guid_in.Goals as goal

pub returns-in_err-guid : goal.returns-in_err-guid
returns-in_err-guid c =
    let told = c.as_str.ensures in
    let text : Some c.in_ok-as_str.field-0.now ≡ as_str (view c.args.value.now) = rw c.in_ok-as_str.was at told in
    let none = parsed_none c.parse_str.result (parsed c.in_ok-as_str.field-0.now) c.parse_str.ensures.ok.1 (sym c.ok.ensures.value ∙ c.in_err-guid.was) in
    c.from_residual-in_err-guid.ensures ∙ sym (guid_text (view c.args.value.now) c.in_ok-as_str.field-0.now (sym text) ∙ none)

pub returns : goal.returns
returns c =
    let told = c.as_str.ensures in
    let text : Some c.in_ok-as_str.field-0.now ≡ as_str (view c.args.value.now) = rw c.in_ok-as_str.was at told in
    let some = parsed_some c.parse_str.result (parsed c.in_ok-as_str.field-0.now) c.in_ok-guid.guid c.parse_str.ensures.bytes (sym c.ok.ensures.value ∙ c.in_ok-guid.was) in
    ap Some c.into_bytes.ensures ∙ some ∙ sym (guid_text (view c.args.value.now) c.in_ok-as_str.field-0.now (sym text))
