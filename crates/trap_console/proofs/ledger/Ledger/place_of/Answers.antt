use Rattle.std.proofs.Common.{sym, ◌∙◌, ap}
use Rattle.std.specs.Option.{option_copied}
use Rattle.trap_console.proofs.Lookups.{absent, past, found, other}
use Rattle.trap_console.proofs.ledger.Ledger.place_of.Goals as goal

pub returns-in_err-place : goal.returns-in_err-place
returns-in_err-place c =
    let ledger = c.args.self.now in
    c.from_residual.ensures ∙ sym (absent ledger.rows.items ledger.places ledger.indexed c.args.key.now (sym c.get.ensures.value ∙ ap option_copied c.in_err-place.was))

pub returns-in_err-row : goal.returns-in_err-row
returns-in_err-row c =
    let ledger = c.args.self.now in
    c.from_residual-in_err-row.ensures ∙ sym (past ledger.rows.items ledger.places ledger.indexed c.args.key.now c.in_ok-place.field-0.now
    (sym c.get.ensures.value ∙ ap option_copied c.in_ok-place.was) (sym c.row_at.ensures ∙ ap option_copied c.in_err-row.was))

pub returns-then-has_key : goal.returns-then-has_key
returns-then-has_key c =
    let ledger = c.args.self.now in
    sym (found ledger.rows.items ledger.places ledger.indexed c.args.key.now c.in_ok-place.field-0.now c.in_ok-row.row.now
    (sym c.get.ensures.value ∙ ap option_copied c.in_ok-place.was) (sym c.row_at.ensures ∙ ap option_copied c.in_ok-row.was) (sym c.has_key.ensures ∙ c.if-has_key.true))

pub returns-else-has_key : goal.returns-else-has_key
returns-else-has_key c =
    let ledger = c.args.self.now in
    sym (other ledger.rows.items ledger.places ledger.indexed c.args.key.now c.in_ok-place.field-0.now c.in_ok-row.row.now
    (sym c.get.ensures.value ∙ ap option_copied c.in_ok-place.was) (sym c.row_at.ensures ∙ ap option_copied c.in_ok-row.was) (sym c.has_key.ensures ∙ c.if-has_key.false))
