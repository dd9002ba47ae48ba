use Rattle.std.proofs.Common.{◌≡◌, ℕ, ◌+◌, ◌≤◌, nat_eq, List, ◌++◌, length, take, ap, ◌∙◌, arith, length-take}
use Rattle.std.specs.List.{before_first, position_or_len}
use Rattle.alert_strings.proofs.text.text_in.Goals as goal

pub returns : goal.returns
returns c =
    let octets = c.args.octets in
    let text : List ℕ = before_first (λ octet. nat_eq octet 0) octets in
    let ended : c.truncate.new.self ≡ text =
    c.truncate.ensures ∙ ap (λ n. take n octets) (c.text_end-end.ensures ∙ ap (position_or_len (λ octet. nat_eq octet 0)) c.as_slice.ensures) in
    let cut : c.as_slice-2.result.now ≡ take 61 text = c.as_slice-2.ensures ∙ c.truncate-2.ensures ∙ ap (take 61) ended in
    let fits : length c.new-text.result + length c.as_slice-2.result.now ≤ 61 =
    omega (arith, ap length c.new-text.ensures, ap length cut, length-take 61 text) in
    c.extend.ensures.extended (c.extend.ensures.room.1 fits)
    ∙ ap (λ front. front ++ c.as_slice-2.result.now) c.new-text.ensures ∙ cut
