use Rattle.std.proofs.Common.{rules, ◌≡◌, ◌≤◌, ◌∙◌, ap, ℕ, true, List, set, drop}
use Rattle.alert_strings.specs.Kept.{blocks}
use Rattle.alert_strings.specs.Table.{block_place, filled}
use Rattle.event_record.specs.Fields.{octet}
use Rattle.filter_table.specs.Filters.{is_number}
use Rattle.pef_config.specs.Places.{selector}
use Rattle.pef_config.proofs.Written.{block_written, rest_taken}
use Rattle.pef_config.proofs.strings.put_block.Goals as goal

pub returns-in-Ok-clause-written : goal.returns-in-Ok-clause-written
returns-in-Ok-clause-written c _ =
    let payload = c.args.payload.now in
    let old = c.args.strings.now in
    let new = c.set_block.new.self in
    let s = selector (octet 1 payload) in
    let within : s ≤ 8 = search rules in
    let block_in : is_number 4 (octet 2 payload) ≡ true = search rules in
    let put : List ℕ → List (List ℕ) = λ part. set (blocks old) (block_place 4 s (octet 2 payload)) (filled 16 part) in
    let placed : blocks new ≡ put (drop 2 payload) = c.in-Ok.ensures.replaced ∙ ap put (rest_taken 2 payload) in
    block_written payload old new within (filled 16 (drop 2 payload)) c.set_block.ensures.count block_in placed
