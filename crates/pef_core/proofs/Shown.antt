-- A controller that holds a history shows its summary.
use Rattle.std.proofs.Common.{◌≡◌, ℕ, List, ◌∙◌, ap}
use Rattle.pef_engine.specs.declared.entry.Entry.{Entry}
use Rattle.pef_core.specs.declared.controller.Controller.{Controller}
use Rattle.pef_core.specs.declared.item.Item.{Item}
use Rattle.pef_core.specs.Histories.{pending, due_in}
use Rattle.pef_core.specs.Shown.{summary_by, summary}
use Rattle.pef_core.specs.View.{shown, due_of, ShowsController}

due_is : (c : Controller) (Z : List ℕ) (H : List (Entry Item)) → ShowsController c Z H → due_of c ≡ pending Z H
due_is c Z H shows = ap due_in shows.values_are

pub summary_is : (c : Controller) (Z : List ℕ) (H : List (Entry Item)) → ShowsController c Z H → summary_by (shown c) (due_of c) ≡ summary Z H
summary_is c Z H shows = ap (summary_by (shown c)) (due_is c Z H shows) ∙ ap (λ v. summary_by v (pending Z H)) shows.values_are
