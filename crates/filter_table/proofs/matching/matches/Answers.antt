use Rattle.std.proofs.Common.{false, Decides, rules}
use Rattle.std.proofs.lemmas.Bool.Decides.{same_from_decides}
use Rattle.filter_table.specs.Matching.{Matches}
use Rattle.filter_table.proofs.Decided.{match_decides}
use Rattle.filter_table.proofs.matching.matches.Goals as goal

pub returns-then-not-is_enabled-clause-value : goal.returns-then-not-is_enabled-clause-value
returns-then-not-is_enabled-clause-value c =
    let filter = c.args.filter.now in
    let event = c.args.event.now in
    let told : Decides false (Matches filter event) = search rules in
    same_from_decides _ _ told (match_decides filter event)

pub returns-else-has_offset-clause-value : goal.returns-else-has_offset-clause-value
returns-else-has_offset-clause-value c =
    let filter = c.args.filter.now in
    let event = c.args.event.now in
    let told : Decides c.if-takes_source.value (Matches filter event) = search rules in
    same_from_decides _ _ told (match_decides filter event)

pub returns-then-has_offset : goal.returns-then-has_offset
returns-then-has_offset c =
    let filter = c.args.filter.now in
    let event = c.args.event.now in
    let told : Decides c.fits_data.result (Matches filter event) = (
      λ data_fits. record {
        enabled = search rules;
        system_event = search rules;
        source = search rules;
        offset = search rules;
        event_data = c.fits_data.ensures.0 data_fits;
      },
      λ matches. c.fits_data.ensures.1 matches.event_data,
    ) in
    record { value = same_from_decides _ _ told (match_decides filter event); meaning = told }
