-- Any number of calls of a program are lives of its file.
use Rattle.std.proofs.Common.{◌≡◌, ℕ, suc, List, [], ◌∷◌, ◌++◌, length, drop, refl, sym, ◌∙◌, ap, subst}
use Rattle.std.proofs.lemmas.List.{drop_at, length-map}
use Rattle.board_core.specs.declared.step.Step.{Step}
use Rattle.board_core.specs.declared.step.Sent.{Sent}
use Rattle.board_core.specs.Board.{steps_of}
use Rattle.pef_engine.specs.declared.entry.Entry.{Entry}
use Rattle.pef_engine.specs.Rules.{Rules, LawfulFrom, Lawful}
use Rattle.pef_engine.specs.Lives.{Life, AreLives, steps_of_lives, last_history, IsRepeating, Call, AreCalls, steps_of_calls}
use Rattle.pef_engine.proofs.Compose.{lawful_compose}
use Rattle.pef_engine.proofs.LivesLaw.{lives_repeat}

module _ {I : Type 0} (rules : Rules I) (Z : List ℕ) where
  -- the calls as lives
  record Lived (H : List (Entry I)) (calls : List (Call I)) (G : List (Entry I)) : Type 0 where
    lives : List (Life I)
    are : AreLives rules Z H lives
    many : length lives ≡ length calls
    steps : steps_of_lives lives ≡ steps_of_calls calls
    last : last_history H lives ≡ G

  steps_since : (sent : List Sent) (issued steps : List Step) → issued ≡ steps_of sent ++ steps → steps ≡ drop (length sent) issued
  steps_since sent issued steps is = sym (ap (drop (length sent)) is ∙ drop_at (steps_of sent) steps (length sent) (length-map sent (λ (s : Sent). s.step)))

  lived : (H : List (Entry I)) (calls : List (Call I)) (G : List (Entry I)) → AreCalls rules Z H calls G → Lived H calls G
  lived H [] G is = record { lives = []; are = tt; many = refl; steps = refl; last = sym is }
  lived H (call ∷ calls) G (here, more) =
      let rest = lived (H ++ here.entries) calls G more in record {
        lives = record { stored = here.entries; steps = here.steps } ∷ rest.lives;
        are = (here.lawful, here.kept, rest.are);
        many = ap suc rest.many;
        steps = (λ i. steps_since call.sent call.left.issued here.steps here.issued i ++ rest.steps i);
        last = rest.last;
      }

  pub calls_repeat : (calls : List (Call I)) (G : List (Entry I)) → AreCalls rules Z [] calls G → IsRepeating rules Z (length calls) (steps_of_calls calls) G
  calls_repeat calls G are =
      let l = lived [] calls G are in
      subst (λ n. IsRepeating rules Z n (steps_of_calls calls) G) l.many
      (subst (λ T. IsRepeating rules Z (length l.lives) T G) l.steps
      (subst (λ h. IsRepeating rules Z (length l.lives) (steps_of_lives l.lives) h) l.last (lives_repeat rules Z l.lives l.are)))

  pub calls_lawful : (H : List (Entry I)) (calls : List (Call I)) (G : List (Entry I)) → LawfulFrom rules Z [] H → AreCalls rules Z H calls G → Lawful rules Z G
  calls_lawful H [] G lawful is = subst (Lawful rules Z) (sym is) lawful
  calls_lawful H (call ∷ calls) G lawful (here, more) = calls_lawful (H ++ here.entries) calls G (lawful_compose rules Z [] H here.entries lawful here.lawful) more
