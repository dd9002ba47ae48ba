use Rattle.std.proofs.Common.{Ok, sym, ◌∙◌, ap}
use Rattle.lan_dest.specs.Rows.{set_code as lan_code}
use Rattle.pef_config.specs.Places.{our_sizes, write}
use Rattle.pef_config.specs.Rows.{set_code}
use Rattle.pef_commands.specs.declared.command.Command.{Command}
use Rattle.pef_core.specs.After.{with_deed}
use Rattle.pef_core.specs.Deeds.{reply_deed}
use Rattle.pef_core.specs.Past.{SetPef, SetLan}
use Rattle.pef_core.specs.Replies.{answer_by, answer_to_write}
use Rattle.pef_core.specs.Values.{Values}
use Rattle.pef_core.specs.View.{shown}
use Rattle.pef_core.proofs.controller.Controller.carry_out.Goals as goal

-- what the command leaves
abbrev carried : Values → Command → Values
carried v command = with_deed (reply_deed (answer_by v (Ok command))) v

pub returns-in-Postpone-clause-values : goal.returns-in-Postpone-clause-values
returns-in-Postpone-clause-values c = c.arm.ensures.values ∙ ap (carried (shown c.args.self.now)) (sym c.in-Postpone.is)

pub returns-in-SetLast-clause-values : goal.returns-in-SetLast-clause-values
returns-in-SetLast-clause-values c = c.set_last.ensures.values ∙ ap (carried (shown c.args.self.now)) (sym c.in-SetLast.is)

pub returns-in-Send-clause-values : goal.returns-in-Send-clause-values
returns-in-Send-clause-values c = c.send.ensures.values ∙ ap (carried (shown c.args.self.now)) (sym c.in-Send.is)

pub returns-in-SendClear-clause-values : goal.returns-in-SendClear-clause-values
returns-in-SendClear-clause-values c = c.clear_status.ensures.values ∙ ap (carried (shown c.args.self.now)) (sym c.in-SendClear.is)

pub returns-in-Acknowledge-clause-values : goal.returns-in-Acknowledge-clause-values
returns-in-Acknowledge-clause-values c = c.acknowledge.ensures.values ∙ ap (carried (shown c.args.self.now)) (sym c.in-Acknowledge.is)

pub returns-in-ClearSel-clause-values : goal.returns-in-ClearSel-clause-values
returns-in-ClearSel-clause-values c = c.clear.ensures.values ∙ ap (carried (shown c.args.self.now)) (sym c.in-ClearSel.is)

pub returns-in-SetPef-clause-values : goal.returns-in-SetPef-clause-values
returns-in-SetPef-clause-values c =
    let v = shown c.args.self.now in
    let parameter = c.in-SetPef.parameter in
    c.set_pef.ensures.values
    ∙ ap (λ octets. with_deed (reply_deed (answer_to_write (set_code our_sizes v.pef parameter octets) (SetPef (write parameter octets)))) v) c.as_slice.ensures
    ∙ ap (carried v) (sym c.in-SetPef.is)

pub returns-in-SetLan-clause-values : goal.returns-in-SetLan-clause-values
returns-in-SetLan-clause-values c =
    let v = shown c.args.self.now in
    let channel = c.in-SetLan.channel in
    let parameter = c.in-SetLan.parameter in
    c.set_lan.ensures.values
    ∙ ap (λ octets. with_deed (reply_deed (answer_to_write (lan_code channel parameter octets) (SetLan (record { channel = channel; parameter = parameter; payload = octets })))) v) c.as_slice-in-SetLan.ensures
    ∙ ap (carried v) (sym c.in-SetLan.is)
