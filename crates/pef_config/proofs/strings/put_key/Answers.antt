use Rattle.std.proofs.Common.{rules, arith, ◌≡◌, ◌≤◌, length}
use Rattle.event_record.specs.Fields.{octet}
use Rattle.pef_config.specs.Places.{selector}
use Rattle.pef_config.proofs.Written.{behind_first, key_written}
use Rattle.pef_config.proofs.strings.put_key.Goals as goal

pub returns-in-Ok-clause-written : goal.returns-in-Ok-clause-written
returns-in-Ok-clause-written c _ =
    let payload = c.args.payload.now in
    let within : selector (octet 1 payload) ≤ 8 = search rules in
    let three : length payload ≡ 3 = omega (arith, c.in-len3.len_at_least, c.in-len3.len_below) in
    key_written payload c.args.strings.now c.set_key.new.self within (octet 2 payload, octet 3 payload) c.set_key.ensures.count c.in-Ok.ensures.replaced
    (behind_first payload three)
