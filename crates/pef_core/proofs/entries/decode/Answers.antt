use Rattle.std.proofs.Common.{subst}
use Rattle.pef_engine.specs.Marks.{ReadsMark}
use Rattle.pef_core.specs.Entries.{ReadsEvent, ReadsCommand, ReadsFrame}
use Rattle.pef_core.proofs.Decoding.{decodes_frame, decodes_tick, decodes_power, decodes_mark, decodes_none}
use Rattle.pef_core.proofs.entries.decode.Goals as goal

pub returns-in-Some-read_mark : goal.returns-in-Some-read_mark
returns-in-Some-read_mark c =
    let octets = c.args.octets.now in
    let no_event = subst (ReadsEvent octets) c.in_default.is c.event_in.ensures in
    let no_command = subst (ReadsCommand octets) c.in_default-command_in.is c.command_in.ensures in
    let no_frame = subst (ReadsFrame octets) c.in_default-frame_in.is c.frame_in.ensures in
    rw c.marked.ensures (decodes_mark octets no_event no_command no_frame (c.is_tag.ensures.other c.if-is_tag.false) (c.is_tag-2.ensures.other c.if-is_tag-2.false) c.in-Some-read_mark.mark (subst (ReadsMark octets) c.in-Some-read_mark.is c.read_mark.ensures))

pub returns-in-Some-frame_in : goal.returns-in-Some-frame_in
returns-in-Some-frame_in c = let f = c.in-Some-frame_in in decodes_frame c.args.octets.now f.from f.octets (subst (ReadsFrame c.args.octets.now) f.is c.frame_in.ensures)

pub returns-then-is_tag : goal.returns-then-is_tag
returns-then-is_tag c = decodes_tick c.args.octets.now (c.is_tag.ensures.alone c.if-is_tag.true)

pub returns-then-is_tag-2 : goal.returns-then-is_tag-2
returns-then-is_tag-2 c = decodes_power c.args.octets.now (c.is_tag-2.ensures.alone c.if-is_tag-2.true)

pub returns-in-None : goal.returns-in-None
returns-in-None c =
    let octets = c.args.octets.now in
    let no_event = subst (ReadsEvent octets) c.in_default.is c.event_in.ensures in
    let no_command = subst (ReadsCommand octets) c.in_default-command_in.is c.command_in.ensures in
    let no_frame = subst (ReadsFrame octets) c.in_default-frame_in.is c.frame_in.ensures in
    decodes_none octets no_event no_command no_frame (c.is_tag.ensures.other c.if-is_tag.false) (c.is_tag-2.ensures.other c.if-is_tag-2.false) (subst (ReadsMark octets) c.in-None.is c.read_mark.ensures)
