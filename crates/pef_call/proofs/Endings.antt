-- From what `init` does to its call, and which statuses a form has.
use Rattle.std.proofs.Common.{◌≡◌, ◌≢◌, ◌⊎◌, inl, inr, ⊎_elim, ℕ, List, Some, Ok, Err, IsTrue, refl, sym, ◌∙◌, ap, subst, arith}
use Rattle.board_core.specs.Causes.{Rose}
use Rattle.pef_journal.specs.Image.{IsFormatted}
use Rattle.report_line.specs.declared.ending.Ending.{Ending}
use Rattle.report_line.specs.declared.ending.Ending.TheVariants as ending
use Rattle.report_line.specs.declared.refusal.SettingsRefusal.{SettingsRefusal}
use Rattle.report_line.specs.Finishing.{Finishes}
use Rattle.script_run.specs.Top.{Outside, EndsWith, IsRunEnd}
use Rattle.script_run.proofs.EndLemmas.{ended, status_zero, done_ends, memory_ends}
use Rattle.pef_call.specs.Init.{IsInitEnd, Making, Makes, Inits}
use Rattle.pef_call.specs.Listing.{IsListEnd}

module _ (of : Making) (old new : Outside) (status : ℕ) where
  -- the text is refused
  refused : (end : Ending) → Makes of old.board new.board old.unread old.reads new.reads end → IsTrue new.board.tells → (IsFormatted of.kinds old.board.octets → ⊥) → (text : List ℕ) (refusal : SettingsRefusal) → old.unread ≡ Some text → of.settings_of text ≡ Err refusal
      → (end ≡ ending.Settings refusal) ⊎ ((end ≡ ending.Input) ⊎ ((end ≡ ending.Disk) ⊎ (end ≡ ending.Memory)))
  refused (ending.Done count) m t isnt text refusal told none =
      let made = m.made (ap ending.Done m.is_end) t in
      let clash : Ok made.settings ≡ Err refusal = sym (made.given text told) ∙ none in absurd (cc clash)
  refused (ending.Settings why) m t isnt text refusal told none = let same : Err why ≡ Err refusal = sym (m.refused why refl text told) ∙ none in inl (ap ending.Settings (cc same))
  refused ending.Input m t isnt text refusal told none = inr (inl refl)
  refused ending.Disk m t isnt text refusal told none = inr (inr (inl refl))
  refused ending.Memory m t isnt text refusal told none = inr (inr (inr refl))
  refused ending.Formatted m t isnt text refusal told none = absurd (isnt (m.formatted refl t))
  refused ending.Usage m t isnt text refusal told none = absurd m.is_end
  refused ending.Unformatted m t isnt text refusal told none = absurd m.is_end
  refused (ending.Line number) m t isnt text refusal told none = absurd m.is_end
  refused (ending.Unfinished id count) m t isnt text refusal told none = absurd m.is_end
  refused ending.Output m t isnt text refusal told none = absurd m.is_end
  refused ending.Full m t isnt text refusal told none = absurd m.is_end

  -- the text is good
  complete : (end : Ending) (part : List ℕ) → EndsWith end part old.writes new.writes status → Makes of old.board new.board old.unread old.reads new.reads end → IsTrue new.board.tells → (IsFormatted of.kinds old.board.octets → ⊥)
      → (text settings : List ℕ) → old.unread ≡ Some text → of.settings_of text ≡ Ok settings
      → (status ≡ 0) ⊎ ((status ≡ 10) ⊎ (Rose old.reads new.reads ⊎ (Rose old.board.disk_faults new.board.disk_faults ⊎ Rose old.writes new.writes)))
  complete (ending.Done count) part e m t isnt text settings told good = ⊎_elim inl (λ r. inr (inr (inr (inr r)))) (done_ends count part old.writes new.writes status e)
  complete (ending.Settings why) part e m t isnt text settings told good = let clash : Ok settings ≡ Err why = sym good ∙ m.refused why refl text told in absurd (cc clash)
  complete ending.Input part e m t isnt text settings told good = inr (inr (inl (m.input refl)))
  complete ending.Disk part e m t isnt text settings told good = inr (inr (inr (inl (m.disk refl))))
  complete ending.Memory part e m t isnt text settings told good = inr (inl (memory_ends part old.writes new.writes status e))
  complete ending.Formatted part e m t isnt text settings told good = absurd (isnt (m.formatted refl t))
  complete ending.Usage part e m t isnt text settings told good = absurd m.is_end
  complete ending.Unformatted part e m t isnt text settings told good = absurd m.is_end
  complete (ending.Line number) part e m t isnt text settings told good = absurd m.is_end
  complete (ending.Unfinished id count) part e m t isnt text settings told good = absurd m.is_end
  complete ending.Output part e m t isnt text settings told good = absurd m.is_end
  complete ending.Full part e m t isnt text settings told good = absurd m.is_end

  pub inits : (end : Ending) → Makes of old.board new.board old.unread old.reads new.reads end → Finishes old.written new.written old.writes new.writes end status → Inits of old new status
  inits end m finishes =
      let e = ended old.written new.written old.writes new.writes end status finishes in record {
        end = end;
        part = e.part;
        ends = e.ends;
        makes = m;
        alone = e.wrote;
        issues_nothing = m.run.sent;
        is_refused = refused end m;
        complete = complete end e.part e.ends m;
        calm = λ zero.
            let z = status_zero end old.written new.written old.writes new.writes (subst (Finishes old.written new.written old.writes new.writes end) zero finishes) in
            let done : end ≡ ending.Done 0 = z.0.1 ∙ ap ending.Done (subst IsInitEnd z.0.1 m.is_end) in
            (m.disk_same (λ is. let clash : ending.Done 0 ≡ ending.Disk = sym done ∙ is in cc clash), m.input_same (λ is. let clash : ending.Done 0 ≡ ending.Input = sym done ∙ is in cc clash), z.1);
        tells = m.run.tells;
        goes_on = m.run.goes_on;
        disk_later = m.run.disk_faults;
        reads_later = m.later;
        writes_later = e.later;
      }

-- no form answers the status of a wrong command line
two : (end : Ending) (part : List ℕ) (before after status : ℕ) → (end ≡ ending.Usage → ⊥) → EndsWith end part before after status → status ≢ 2
two (ending.Done count) part before after status not e is = ⊎_elim (λ x. omega (arith, x.1, is)) (λ x. omega (arith, x.2, is)) e
two ending.Usage part before after status not e is = not refl
two ending.Unformatted part before after status not e is = ⊎_elim (λ x. omega (arith, x.1, is)) (λ x. omega (arith, x.2, is)) e
two (ending.Line number) part before after status not e is = ⊎_elim (λ x. omega (arith, x.1, is)) (λ x. omega (arith, x.2, is)) e
two (ending.Settings refusal) part before after status not e is = ⊎_elim (λ x. omega (arith, x.1, is)) (λ x. omega (arith, x.2, is)) e
two (ending.Unfinished id count) part before after status not e is = ⊎_elim (λ x. omega (arith, x.1, is)) (λ x. omega (arith, x.2, is)) e
two ending.Input part before after status not e is = ⊎_elim (λ x. omega (arith, x.1, is)) (λ x. omega (arith, x.2, is)) e
two ending.Disk part before after status not e is = ⊎_elim (λ x. omega (arith, x.1, is)) (λ x. omega (arith, x.2, is)) e
two ending.Output part before after status not e is = ⊎_elim (λ x. omega (arith, x.1, is)) (λ x. omega (arith, x.2, is)) e
two ending.Full part before after status not e is = ⊎_elim (λ x. omega (arith, x.1, is)) (λ x. omega (arith, x.2, is)) e
two ending.Memory part before after status not e is = ⊎_elim (λ x. omega (arith, x.1, is)) (λ x. omega (arith, x.2, is)) e
two ending.Formatted part before after status not e is = ⊎_elim (λ x. omega (arith, x.1, is)) (λ x. omega (arith, x.2, is)) e

pub run_not_two : (end : Ending) (part : List ℕ) (before after status : ℕ) → IsRunEnd end → EndsWith end part before after status → status ≢ 2
run_not_two end part before after status is e = two end part before after status (λ u. subst IsRunEnd u is) e

pub init_not_two : (end : Ending) (part : List ℕ) (before after status : ℕ) → IsInitEnd end → EndsWith end part before after status → status ≢ 2
init_not_two end part before after status is e = two end part before after status (λ u. subst IsInitEnd u is) e

pub list_not_two : (end : Ending) (part : List ℕ) (before after status : ℕ) → IsListEnd end → EndsWith end part before after status → status ≢ 2
list_not_two end part before after status is e = two end part before after status (λ u. ⊎_elim (λ x. x) (λ x. x) (subst IsListEnd u is)) e
