-- One more call is kept.
use Rattle.std.proofs.Common.{◌≡◌, ℕ, ◌+◌, ◌<◌, Bool, true, false, ◌&&◌, List, [], ◌∷◌, ◌++◌, length, take, drop, get_or, refl, sym, ◌∙◌, ap, subst}
use Rattle.std.proofs.lemmas.List.{take_more, drop_more, take-append-drop}
use Rattle.board_core.specs.declared.call.Call.{Call}
use Rattle.board_core.specs.Moments.{State, fresh_state, state_after, after, after_all, is_placed, are_placed}

after_all-push : (s : State) (calls : List Call) (call : Call) → after_all s (calls ++ call ∷ []) ≡ after (after_all s calls) call.effect
after_all-push s [] call = refl
after_all-push s (c ∷ calls) call = after_all-push (after s c.effect) calls call

and_true : (a b : Bool) → (a && b) ≡ true → (a ≡ true) × (b ≡ true)
and_true true b both = (refl, both)
and_true false b both = cc

placed_push : (s : State) (calls : List Call) (call : Call) → are_placed s calls ≡ true → is_placed (length (after_all s calls).octets) call.effect ≡ true → are_placed s (calls ++ call ∷ []) ≡ true
placed_push s [] call all here = ap (λ b. b && true) here
placed_push s (c ∷ calls) call all here =
    let parts = and_true (is_placed (length s.octets) c.effect) (are_placed (after s c.effect) calls) all in
    ap (λ b. b && are_placed (after s c.effect) (calls ++ call ∷ [])) parts.0 ∙ placed_push (after s c.effect) calls call parts.1 here

-- calls that are these and one more
module _ (content : List ℕ) (earlier : ℕ) (calls more : List Call) (call : Call) (pushed : more ≡ calls ++ call ∷ []) where
  pub state-push : state_after content earlier more ≡ after (state_after content earlier calls) call.effect
  state-push = ap (state_after content earlier) pushed ∙ after_all-push (fresh_state content earlier) calls call

  pub still_placed : are_placed (fresh_state content earlier) calls ≡ true → is_placed (length (state_after content earlier calls).octets) call.effect ≡ true → are_placed (fresh_state content earlier) more ≡ true
  still_placed all here = ap (are_placed (fresh_state content earlier)) pushed ∙ placed_push (fresh_state content earlier) calls call all here

-- each call of such a list begins within the file that it finds
placed_in : (s : State) (front : List Call) (call : Call) (back : List Call) → are_placed s (front ++ call ∷ back) ≡ true → is_placed (length (after_all s front).octets) call.effect ≡ true
placed_in s [] call back all = (and_true (is_placed (length s.octets) call.effect) (are_placed (after s call.effect) back) all).0
placed_in s (c ∷ front) call back all = placed_in (after s c.effect) front call back (and_true (is_placed (length s.octets) c.effect) (are_placed (after s c.effect) (front ++ call ∷ back)) all).1

-- the calls up to a place, and the one there
module _ (content : List ℕ) (earlier : ℕ) (calls : List Call) (index : ℕ) (call : Call) (here : index < length calls) (is : call ≡ get_or calls index call) where
  pub up_to : take (index + 1) calls ≡ take index calls ++ call ∷ []
  up_to = take_more calls index call here ∙ ap (λ c. take index calls ++ c ∷ []) (sym is)

  parted : calls ≡ take index calls ++ call ∷ drop (index + 1) calls
  parted = sym (take-append-drop index calls) ∙ ap (λ l. take index calls ++ l) (drop_more calls index call here ∙ ap (λ c. c ∷ drop (index + 1) calls) (sym is))

  pub state_next : state_after content earlier (take (index + 1) calls) ≡ after (state_after content earlier (take index calls)) call.effect
  state_next = state-push content earlier (take index calls) (take (index + 1) calls) call up_to

  pub placed_here : are_placed (fresh_state content earlier) calls ≡ true → is_placed (length (state_after content earlier (take index calls)).octets) call.effect ≡ true
  placed_here all = placed_in (fresh_state content earlier) (take index calls) call (drop (index + 1) calls) (subst (λ l. are_placed (fresh_state content earlier) l ≡ true) parted all)
