use Rattle.std.proofs.Common.{◌≡◌, ◌+◌, drop, Some, sym, ap, ◌∙◌}
use Rattle.policy_walk.proofs.Growing.{place_after-more}
use Rattle.policy_walk.specs.Place.{Standing}
use Rattle.policy_walk.specs.Tried.{Any, place_after}
use Rattle.policy_walk.specs.First.{first_tried}
use Rattle.policy_walk.proofs.walk.Walk.told.Goals as goal

pub returns-in-Some-clause-after : goal.returns-in-Some-clause-after
returns-in-Some-clause-after c = λ stops results stands.
    let inside : c.self.inside.stops.items ≡ stops = ap {A = Standing} (λ walk. walk.stops) c.self.view_is ∙ stands.over in
    let here : place_after stops results ≡ Some c.in-Some.place =
    sym stands.place ∙ ap {A = Standing} (λ walk. walk.current) (sym c.self.view_is) ∙ c.in-Some.is in
    record {
      over = inside;
      place = c.next-self-inside.ensures.place
          ∙ ap (λ xs. first_tried Any c.args.success (c.in-Some.place + 1) (drop (c.in-Some.place + 1) xs)) (c.as_slice.ensures.value ∙ inside)
          ∙ sym (place_after-more stops results c.args.success c.in-Some.place here);
    }
