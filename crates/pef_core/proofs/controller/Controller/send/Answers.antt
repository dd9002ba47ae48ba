use Rattle.std.proofs.Common.{ℕ, [], ◌∷◌, Option, Some, sym, ◌∙◌, ap}
use Rattle.std.specs.Prelude.{is_some}
use Rattle.pef_core.specs.Replies.{send_to, is_no_string, done_with}
use Rattle.pef_config.specs.Places.{our_sizes}
use Rattle.pef_match.specs.AtOnce.{target_at_once}
use Rattle.pef_match.specs.declared.target.Target.{Target}
use Rattle.pef_core.specs.Past.{Sends}
use Rattle.pef_core.specs.Course.{guid_by}
use Rattle.pef_core.specs.Deeds.{reply_deed}
use Rattle.pef_core.specs.After.{with_deed}
use Rattle.pef_core.specs.Values.{Values, force_of}
use Rattle.pef_core.specs.declared.note.Note.TheVariants.{Nothing}
use Rattle.pef_core.specs.View.{shown}
use Rattle.pef_core.proofs.Deeds.{refused, passes}
use Rattle.pef_core.proofs.controller.Controller.send.Goals as goal

abbrev target_in : Values → ℕ → ℕ → Option ℕ → Option Target
target_in v channel destination string = target_at_once our_sizes v.pef v.lan v.own.ports channel destination string

pub returns-then-is_no_string-clause-values : goal.returns-then-is_no_string-clause-values
returns-then-is_no_string-clause-values c =
    let v = shown c.args.self.now in
    ap shown c.finish.ensures
    ∙ refused v (is_no_string c.args.string) 0xC9 (send_to v (target_in v c.args.channel c.args.destination c.args.string)) (sym c.is_no_string.ensures ∙ c.if-is_no_string.true)

pub returns-in_default-clause-values : goal.returns-in_default-clause-values
returns-in_default-clause-values c =
    let v = shown c.args.self.now in
    ap shown c.finish-in_default.ensures
    ∙ passes v (shown (record c.args.self.now { note = Nothing; reply = Some (0xCB ∷ []) })) (is_no_string c.args.string) 0xC9 (send_to v (target_in v c.args.channel c.args.destination c.args.string))
    (sym c.is_no_string.ensures ∙ c.if-is_no_string.false)
    (ap (λ t. with_deed (reply_deed (send_to v t)) v) (sym c.in_default.is ∙ c.target_at_once-target.ensures.value))

pub returns-then-is_some-clause-values : goal.returns-then-is_some-clause-values
returns-then-is_some-clause-values c =
    let v = shown c.args.self.now in
    ap shown c.finish-then-is_some.ensures
    ∙ passes v (shown (record c.args.self.now { note = Nothing; reply = Some (0x81 ∷ []) })) (is_no_string c.args.string) 0xC9 (send_to v (target_in v c.args.channel c.args.destination c.args.string))
    (sym c.is_no_string.ensures ∙ c.if-is_no_string.false)
    (refused v (is_some v.now.running) 0x81 (done_with (Sends c.in-Some.target (guid_by (force_of v)))) (sym c.is_some.ensures ∙ c.if-is_some.true)
    ∙ ap (λ t. with_deed (reply_deed (send_to v t)) v) (sym c.in-Some.is ∙ c.target_at_once-target.ensures.value))

pub returns-clause-values : goal.returns-clause-values
returns-clause-values c =
    let v = shown c.args.self.now in
    passes v (shown c.send_to.new.self) (is_no_string c.args.string) 0xC9 (send_to v (target_in v c.args.channel c.args.destination c.args.string))
    (sym c.is_no_string.ensures ∙ c.if-is_no_string.false)
    (passes v (shown c.send_to.new.self) (is_some v.now.running) 0x81 (done_with (Sends c.in-Some.target (guid_by (force_of v)))) (sym c.is_some.ensures ∙ c.if-is_some.false) c.send_to.ensures.values
    ∙ ap (λ t. with_deed (reply_deed (send_to v t)) v) (sym c.in-Some.is ∙ c.target_at_once-target.ensures.value))
