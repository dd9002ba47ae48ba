use Rattle.std.proofs.Common.{ℕ, List, [], ◌∷◌, ◌++◌, map, sym, ◌∙◌, ap, subst}
use Rattle.std.proofs.lemmas.List.{map-append}
use Rattle.board_core.specs.Board.{LeavesOnly, SameSteps}
use Rattle.pef_journal.specs.Journal.{IsAtEnd, StandsForEither}
use Rattle.pef_engine.proofs.Stored.{lawful-append}
use Rattle.pef_engine.proofs.engine.Engine.store.Goals as goal

pub returns-in-Err-clause-stored : goal.returns-in-Err-clause-stored
returns-in-Err-clause-stored g c = λ tells Z H holds.
    let rules = g.M.Machine.rules in
    let v = g.B.Board.view c.args.board.now in
    let x = g.B.Board.view c.append.new.board in record {
      stored = tt;
      sent = c.append.ensures.run.sent tells;
      moments = subst (λ (p : List ℕ). LeavesOnly v x (λ left. SameSteps v left × StandsForEither rules.kind Z (map rules.encode H) p left.image)) c.encode_entry-payload.ensures
          (c.append.ensures.any_moment tells rules.kind Z (map rules.encode H) holds.stored);
    }

pub returns-clause-stored : goal.returns-clause-stored
returns-clause-stored g c = λ tells Z H holds.
    let rules = g.M.Machine.rules in
    let e = c.args.entry.now in
    let v = g.B.Board.view c.args.board.now in
    let x = g.B.Board.view c.append.new.board in
    let allowed = ((g.met.M.Machine.agrees c.args.self.now.machine).allowed Z H e holds.lawful holds.shows).0 c.requires.allowed in
    let added = c.in-Ok.ensures.added tells rules.kind Z (map rules.encode H) holds.stored in record {
      stored = record {
        lawful = lawful-append rules Z H e holds.lawful allowed;
        shows = c.apply.ensures.shows Z H holds.lawful holds.shows;
        stored = subst (λ (l : List (List ℕ)). IsAtEnd rules.kind Z l x c.append.new.self)
            (ap (λ p. map rules.encode H ++ p ∷ []) c.encode_entry-payload.ensures ∙ sym (map-append rules.encode H (e ∷ []))) added;
      };
      sent = c.append.ensures.run.sent tells;
      moments = subst (λ (p : List ℕ). LeavesOnly v x (λ left. SameSteps v left × StandsForEither rules.kind Z (map rules.encode H) p left.image)) c.encode_entry-payload.ensures
          (c.append.ensures.any_moment tells rules.kind Z (map rules.encode H) holds.stored);
    }
