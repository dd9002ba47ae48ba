use Rattle.std.proofs.Common.{◌∙◌, sym, ap, option_map, string_bytes}
use Rattle.script_text.specs.Forms.{address_of}
use Rattle.pef_call.specs.Words.{one_file, two_files, form_named, lone_form_named, fed_form_named, fed_paths, arrivals_of}
use Rattle.pef_call.proofs.Forms.{of_two, of_three, of_four, of_fewer, of_more}
use Rattle.pef_call.proofs.words.paths.Goals as goal

pub returns-in-len2-clause-form : goal.returns-in-len2-clause-form
returns-in-len2-clause-form c =
    c.lone_paths.ensures.form ∙ ap (λ w. option_map one_file (lone_form_named w)) c.as_str.ensures.value
    ∙ sym (of_two string_bytes c.args.words.now c.word-item.result c.in-len2.len_at_least c.in-len2.len_below c.word-item.is)

pub returns-in-len3-clause-form : goal.returns-in-len3-clause-form
returns-in-len3-clause-form c =
    c.two_paths.ensures.form ∙ ap (λ w. option_map two_files (form_named w)) c.as_str-in-len3.ensures.value
    ∙ sym (of_three string_bytes c.args.words.now c.word-item-then-words-lt4.result c.in-len3.len_at_least c.in-len3.len_below c.word-item-then-words-lt4.is)

pub returns-in-len4-clause-form : goal.returns-in-len4-clause-form
returns-in-len4-clause-form c =
    c.fed_paths.ensures.form
    ∙ ap (λ w. fed_paths (fed_form_named w) (address_of c.as_str-in-len4-2.result.now) (arrivals_of c.as_str-in-len4-3.result.now)) c.as_str-in-len4.ensures.value
    ∙ ap (λ w. fed_paths (fed_form_named (string_bytes c.word-item-then-words-lt5.result)) (address_of w) (arrivals_of c.as_str-in-len4-3.result.now)) c.as_str-in-len4-2.ensures.value
    ∙ ap (λ w. fed_paths (fed_form_named (string_bytes c.word-item-then-words-lt5.result)) (address_of (string_bytes c.at-item.result)) (arrivals_of w)) c.as_str-in-len4-3.ensures.value
    ∙ sym (of_four string_bytes c.args.words.now c.word-item-then-words-lt5.result c.at-item.result c.number-item.result c.in-len4.len_at_least c.in-len4.len_below c.word-item-then-words-lt5.is c.at-item.is c.number-item.is)

pub returns-in_default-clause-form : goal.returns-in_default-clause-form
returns-in_default-clause-form c = of_fewer string_bytes c.args.words.now c.in_default.len_below

pub returns-in_default-2-clause-form : goal.returns-in_default-2-clause-form
returns-in_default-2-clause-form c = of_more string_bytes c.args.words.now c.in_default.len_at_least
