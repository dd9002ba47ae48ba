use Rattle.std.proofs.Common.{rules, ◌≡◌, ◌≤◌, ℕ, List, drop, subst, ◌∙◌}
use Rattle.event_record.specs.Fields.{octet}
use Rattle.policy_table.specs.Table.{Replaces}
use Rattle.pef_config.specs.Places.{selector}
use Rattle.pef_config.proofs.Written.{policy_written, rest_taken}
use Rattle.pef_config.proofs.policies.put_policy.Goals as goal

pub returns-in-Ok-clause-written : goal.returns-in-Ok-clause-written
returns-in-Ok-clause-written c _ =
    let payload = c.args.payload.now in
    let old = c.args.policies.now in
    let new = c.set.new.self in
    let one : 1 ≤ selector (octet 1 payload) = search rules in
    let entry : c.read.result ≡ drop 1 payload = c.read.ensures ∙ c.copy_from_slice.ensures.after ∙ rest_taken 1 payload in
    let P : List ℕ → Type 0 = λ e. Replaces (selector (octet 1 payload)) e old new in
    policy_written payload old new one (subst P entry c.in-Ok.ensures.replaced)
