use Rattle.std.proofs.Common.{[], ◌++◌, Some, Err, refl, sym, ◌∙◌, ap, arith, inl, inr}
use Rattle.std.proofs.lemmas.List.{append-nil}
use Rattle.pef_words.proofs.Texts.{kept}
use Rattle.pef_words.proofs.program.top.Goals as goal

pub returns-in-Ok : goal.returns-in-Ok
returns-in-Ok g c =
    let ensures = c.in-Ok.ensures in
    record {
      statuses = inl refl;
      all = λ _ text before left written. let p = ensures.all text left before written in (p.1 ∙ ap (λ l. Some (before ++ l)) (sym (p.2 ∙ append-nil p.0)), kept text);
      part = λ text before left written. let p = ensures.all text left before written in (p.0, [], sym p.2, p.1);
      input = λ e. absurd (omega (arith, e));
      output = λ e. absurd (omega (arith, e));
      endless = λ e. absurd (omega (arith, e));
      calm = λ _. (ensures.reads, ensures.writes);
    }

pub returns-in-Err-Input : goal.returns-in-Err-Input
returns-in-Err-Input g c =
    let ensures = c.in-Err-Input.ensures in
    record {
      statuses = inr (inl refl);
      all = λ e. absurd (omega (arith, e));
      part = λ text before left written. let p = ensures.cut text left before written in (p.0, p.2.0, sym p.2.1, p.1);
      input = λ _. ensures.input (ap Err c.in-Err-Input.field-0-is);
      output = λ e. absurd (omega (arith, e));
      endless = λ e. absurd (omega (arith, e));
      calm = λ e. absurd (omega (arith, e));
    }

pub returns-in-Err-Output : goal.returns-in-Err-Output
returns-in-Err-Output g c =
    let ensures = c.in-Err-Output.ensures in
    record {
      statuses = inr (inr (inl refl));
      all = λ e. absurd (omega (arith, e));
      part = λ text before left written. let p = ensures.cut text left before written in (p.0, p.2.0, sym p.2.1, p.1);
      input = λ e. absurd (omega (arith, e));
      output = λ _. ensures.output (ap Err c.in-Err-Output.field-0-is);
      endless = λ e. absurd (omega (arith, e));
      calm = λ e. absurd (omega (arith, e));
    }

pub returns-in-Err-Endless : goal.returns-in-Err-Endless
returns-in-Err-Endless g c =
    let ensures = c.in-Err-Endless.ensures in
    record {
      statuses = inr (inr (inr refl));
      all = λ e. absurd (omega (arith, e));
      part = λ text before left written. let p = ensures.cut text left before written in (p.0, p.2.0, sym p.2.1, p.1);
      input = λ e. absurd (omega (arith, e));
      output = λ e. absurd (omega (arith, e));
      endless = λ _. ensures.endless (ap Err c.in-Err-Endless.field-0-is);
      calm = λ e. absurd (omega (arith, e));
    }
