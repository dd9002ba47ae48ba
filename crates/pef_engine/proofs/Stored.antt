-- What is stored stays so while a step is issued.
use Rattle.std.proofs.Common.{◌≡◌, inl, ℕ, List, [], ◌∷◌, ◌++◌, IsTrue, sym, ◌∙◌, subst, arith, append_assoc}
use Rattle.std.proofs.lemmas.List.{append-nil}
use Rattle.board_core.specs.Causes.{Rose}
use Rattle.board_core.specs.Board.{BoardView, IsSound, IsFileRun, LeavesOnly}
use Rattle.pef_engine.specs.declared.entry.Entry.{Entry}
use Rattle.pef_journal.specs.Image as image
use Rattle.pef_journal.specs.declared.kind.FileKind.{FileKind}
use Rattle.pef_journal.specs.Journal.{IsAtEnd}
use Rattle.pef_journal.specs.declared.journal.Journal.{Journal}
use Rattle.pef_engine.specs.Rules.{Rules, Allowed, LawfulFrom, Lawful, Stands, IsOver, NoneOver}
use Rattle.pef_engine.specs.CrashFree.{LeavesPrefix}
use Rattle.pef_engine.specs.Engine.{Counts}
use Rattle.pef_engine.proofs.Moments.{leaves_start}

-- the same octets and images
pub at_end_along : (kind : FileKind) (Z : List ℕ) (es : List (List ℕ)) (v w : BoardView) (journal : Journal) → w.octets ≡ v.octets → ((c : List ℕ) → w.images c → v.images c) → IsAtEnd kind Z es v journal → IsAtEnd kind Z es w journal
at_end_along kind Z es v w journal octets images old = record {
  at = record {
    rest = old.at.rest;
    file = subst (λ f. image.HasHeader kind Z (image.blocks es ++ old.at.rest) f) (sym octets) old.at.file;
    place = old.at.place;
    left = old.at.left;
    stands = subst (λ f. image.Stands kind Z (es ++ []) f) (sym octets) old.at.stands;
    lasting = λ c now. old.at.lasting c (images c now) ∙ sym octets;
  };
  ended = old.ended;
}

pub images_stand : (kind : FileKind) (Z : List ℕ) (es : List (List ℕ)) (v : BoardView) (journal : Journal) → IsAtEnd kind Z es v journal → (c : List ℕ) → v.images c → image.Stands kind Z es c
images_stand kind Z es v journal at c now =
    subst (λ f. image.Stands kind Z es f) (sym (at.at.lasting c now)) (subst (λ (l : List (List ℕ)). image.Stands kind Z l v.octets) (append-nil es) at.at.stands)

-- what becomes of the counts where only the file was read or written
pub counts_run : {old new : BoardView} {failed : Type 0} → IsFileRun old new → (failed → Rose old.disk_faults new.disk_faults) → ((failed → ⊥) → new.disk_faults ≡ old.disk_faults) → Counts old new failed
counts_run run disk same = record {
  tells = run.tells;
  goes_on = λ t. inl (run.goes_on t);
  disk_later = run.disk_faults;
  issue_later = omega (arith, run.issue_faults);
  disk = disk;
  same = same;
}

module _ {I : Type 0} (rules : Rules I) (Z : List ℕ) where
  pub lawful_from-append : (G H : List (Entry I)) (e : Entry I) → LawfulFrom rules Z G H → Allowed rules Z (G ++ H) e → LawfulFrom rules Z G (H ++ e ∷ [])
  lawful_from-append G [] e lawful allowed = (subst (λ g. Allowed rules Z g e) (append-nil G) allowed, tt)
  lawful_from-append G (x ∷ H) e lawful allowed =
      (lawful.0, lawful_from-append (G ++ x ∷ []) H e lawful.1 (subst (λ g. Allowed rules Z g e) (sym (append_assoc G (x ∷ []) H)) allowed))

  pub lawful-append : (H : List (Entry I)) (e : Entry I) → Lawful rules Z H → Allowed rules Z H e → Lawful rules Z (H ++ e ∷ [])
  lawful-append H e lawful allowed = lawful_from-append [] H e lawful allowed

  pub none_over-append : (G H : List (Entry I)) (e : Entry I) → NoneOver rules Z G H → (IsOver rules Z (G ++ H) e → ⊥) → NoneOver rules Z G (H ++ e ∷ [])
  none_over-append G [] e none not = (λ over. not (subst (λ g. IsOver rules Z g e) (sym (append-nil G)) over), tt)
  none_over-append G (x ∷ H) e none not = (none.0, none_over-append (G ++ x ∷ []) H e none.1 (λ over. not (subst (λ g. IsOver rules Z g e) (append_assoc G (x ∷ []) H) over)))

  -- a call that does nothing
  pub nothing_moments : (H : List (Entry I)) (v : BoardView) (items : List I) → IsSound v → IsTrue v.tells → ((c : List ℕ) → v.images c → Stands rules Z H c) → LeavesOnly v v (LeavesPrefix rules Z H v.sent items)
  nothing_moments H v items sound tells stands = record {
    later = omega arith;
    each = λ left since.
        let now = sound.only_now tells left since in
        leaves_start rules Z H v items left (record { issued = now.issued; told = now.told }) (stands left.image now.image);
    before = λ t left le since. inl since;
    keeps = λ t left le since. since;
    earlier = sound.earlier tells;
  }
