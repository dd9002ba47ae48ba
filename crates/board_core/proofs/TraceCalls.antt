-- What the calls of a board in memory do, by what is kept of them.
use Rattle.std.proofs.Common.{◌≡◌, ⊎_elim, ℕ, ◌+◌, ◌-◌, ◌≤◌, Bool, IsTrue, List, ◌++◌, [], ◌∷◌, length, take, drop, min, replicate, Vec, Global, Ok, Err, refl, sym, ◌∙◌, ap, subst, arith, length-append, append_assoc, length-drop}
use Rattle.std.proofs.lemmas.List.{take_at, drop_at, length-take-le}
use Rattle.board_core.specs.Board.{BoardView, Torn, IsFileCall, Reads, TakesWrite, Syncs, Issues}
use Rattle.board_core.specs.File.{put_at}
use Rattle.board_core.specs.declared.step.Sent.{Sent}
use Rattle.board_core.specs.declared.call.Effect.{Effect}
use Rattle.board_core.specs.declared.call.Effect.TheVariants.{Wrote, Spoiled, Synced}
use Rattle.board_core.specs.declared.trace.Trace.{Trace}
use Rattle.board_core.specs.Moments.{State, state_of, after}
use Rattle.board_core.specs.Kept.{past_of, with_call, with_step, KeepsNothing}
use Rattle.board_core.specs.MemoryBoard.{view_of}
use Rattle.board_core.specs.MemorySound.{is_traced, image_now}
use Rattle.board_core.proofs.Pushed.{state-push}
use Rattle.board_core.proofs.MemoryCalls.{IsFileEffect, reads, file_call, issues}

-- a write that did nothing is one that a crash cut short
torn_same : (place count : ℕ) (file : List ℕ) → Torn place count file file
torn_same place count file = record { before = refl; after = refl; no_shorter = omega arith; no_longer = omega arith }

-- a write that is done whole is one that a crash could have cut short
pub whole_is_torn : (place : ℕ) (octets file : List ℕ) → place ≤ length file → Torn place (length octets) file (put_at place octets file)
whole_is_torn place octets file le = record {
  before = ap (take place) (append_assoc (take place file) octets back) ∙ take_at (take place file) (octets ++ back) place front;
  after = drop_at (take place file ++ octets) back (place + length octets) (omega (arith, front, length-append (take place file) octets));
  no_shorter = omega (arith, size, length-drop (place + length octets) file);
  no_longer = omega (arith, size, length-drop (place + length octets) file);
}
  where
    back : List ℕ
    back = drop (place + length octets) file

    front : length (take place file) ≡ place
    front = length-take-le place file le

    size : length (put_at place octets file) ≡ place + length octets + length (drop (place + length octets) file)
    size = length-append (take place file ++ octets) (drop (place + length octets) file) ∙ ap (λ n. n + length (drop (place + length octets) file)) (length-append (take place file) octets ∙ ap (λ n. n + length octets) front)

module _ (old new : Trace) (tells : Bool) (d d' i : ℕ) (disk : d ≤ d') where
  abbrev was : BoardView
  was = view_of tells old.octets.items d i (past_of old)

  abbrev now : BoardView
  now = view_of tells new.octets.items d' i (past_of new)

  -- nothing was kept of the call
  module _ (nothing : KeepsNothing old new) where
    pub passes : Reads was now
    passes = subst (Reads was) (sym same) (reads (past_of old) (is_traced old) tells old.octets.items d i new.calls.made d' nothing.later disk)
      where
        same : now ≡ view_of tells old.octets.items d' i (record { start = old.start.items; earlier = old.earlier; calls = old.calls.kept.items; sent = old.sent.items; made = new.calls.made })
        same = λ j. view_of tells (nothing.octets j) d' i (record { start = nothing.start j; earlier = nothing.earlier j; calls = nothing.calls j; sent = nothing.sent j; made = new.calls.made })

    pub writes_nothing : {E : Type 0} (e : E) (place : ℕ) (from : List ℕ) → TakesWrite {E = E} place from was now (Err e)
    writes_nothing e place from = record {
      call = passes.call;
      written = λ t. tt;
      failed = λ t. subst (Torn place (length from) old.octets.items) (sym nothing.octets) (torn_same place (length from) old.octets.items);
      images = λ t c image. (c, (passes.images t c).0 image, torn_same place (length from) c);
    }

    pub syncs_nothing : {E : Type 0} (e : E) → Syncs {E = E} was now (Err e)
    syncs_nothing e = record {
      call = passes.call;
      octets = λ t. nothing.octets;
      lasting = λ t. tt;
      failed = λ t. passes.images t;
      fewer = λ t c image. (passes.images t c).0 image;
    }

  -- a file call was kept
  kept_call : (effect : Effect) → IsFileEffect effect → past_of new ≡ with_call effect (past_of old) → IsFileCall was now
  kept_call effect is same = subst (λ p. IsFileCall was (view_of tells new.octets.items d' i p)) (sym same)
      (file_call (past_of old) (is_traced old) tells old.octets.items d i new.octets.items d' disk effect is)

  -- where the board stands after it
  state_same : (effect : Effect) → past_of new ≡ with_call effect (past_of old) → state_of (past_of new) ≡ after (state_of (past_of old)) effect
  state_same effect same = ap state_of same ∙ state-push old.start.items old.earlier old.calls.kept.items (old.calls.kept.items ++ record { number = old.calls.made; effect = effect } ∷ []) (record { number = old.calls.made; effect = effect }) refl

  octets_now : (effect : Effect) → past_of new ≡ with_call effect (past_of old) → new.octets.items ≡ (after (state_of (past_of old)) effect).octets
  octets_now effect same = new.replayed ∙ ap (λ (s : State). s.octets) (state_same effect same)

  image_then : (effect : Effect) → past_of new ≡ with_call effect (past_of old) → (c : List ℕ) → now.images c → (after (state_of (past_of old)) effect).images c
  image_then effect same c image = subst (λ (s : State). s.images c) (state_same effect same) image

  -- a write within the file
  module _ (place : ℕ) (from : List ℕ) (room : IsTrue tells → place ≤ length old.octets.items) where
    here : IsTrue tells → min place (length old.octets.items) ≡ place
    here t = omega (arith, room t)

    pub wrote : {E : Type 0} (kept : Vec ℕ Global) → kept.items ≡ replicate (place - length old.octets.items) 0 ++ from → past_of new ≡ with_call (Wrote (min place (length old.octets.items)) kept) (past_of old) → TakesWrite {E = E} place from was now (Ok tt)
    wrote kept octets same = record {
      call = kept_call effect tt same;
      written = λ t. whole t;
      failed = λ t. tt;
      images = λ t c image.
          ⊎_elim
          (λ done. (old.octets.items, image_now old, subst (Torn place (length from) old.octets.items) (sym (done ∙ sym (octets_now effect same) ∙ whole t)) (whole_is_torn place from old.octets.items (room t))))
          (λ torn. (torn.0, torn.1, subst (λ n. Torn n (length from) torn.0 c) (here t) (subst (λ l. Torn (min place (length old.octets.items)) (length l) torn.0 c) (all t) torn.2)))
          (image_then effect same c image);
    }
      where
        effect : Effect
        effect = Wrote (min place (length old.octets.items)) kept

        all : IsTrue tells → kept.items ≡ from
        all t = let none : place - length old.octets.items ≡ 0 = omega (arith, room t) in octets ∙ ap (λ n. replicate n 0 ++ from) none

        whole : IsTrue tells → new.octets.items ≡ put_at place from old.octets.items
        whole t = octets_now effect same ∙ (λ j. put_at (here t j) (all t j) (sym old.replayed j))

    pub spoilt : {E : Type 0} (e : E) → new.octets.items ≡ old.octets.items → past_of new ≡ with_call (Spoiled (min place (length old.octets.items)) (length from)) (past_of old) → TakesWrite {E = E} place from was now (Err e)
    spoilt e octets same = record {
      call = kept_call effect tt same;
      written = λ t. tt;
      failed = λ t. subst (Torn place (length from) old.octets.items) (sym octets) (torn_same place (length from) old.octets.items);
      images = λ t c image.
          ⊎_elim
          (λ done. (old.octets.items, image_now old, subst (Torn place (length from) old.octets.items) (sym (done ∙ sym old.replayed)) (torn_same place (length from) old.octets.items)))
          (λ torn. (torn.0, torn.1, subst (λ n. Torn n (length from) torn.0 c) (here t) torn.2))
          (image_then effect same c image);
    }
      where
        effect : Effect
        effect = Spoiled (min place (length old.octets.items)) (length from)

  pub synced : {E : Type 0} → new.octets.items ≡ old.octets.items → past_of new ≡ with_call Synced (past_of old) → Syncs {E = E} was now (Ok tt)
  synced octets same = record {
    call = kept_call Synced tt same;
    octets = λ t. octets;
    lasting = λ t c image. left c image ∙ sym octets;
    failed = λ t. tt;
    fewer = λ t c image. subst (state_of (past_of old)).images (sym (left c image)) (image_now old);
  }
    where
      left : (c : List ℕ) → now.images c → c ≡ old.octets.items
      left c image = image_then Synced same c image ∙ sym old.replayed

module _ (old new : Trace) (tells : Bool) (d i i' : ℕ) (issue : i ≤ i') where
  abbrev before : BoardView
  before = view_of tells old.octets.items d i (past_of old)

  abbrev after_it : BoardView
  after_it = view_of tells new.octets.items d i' (past_of new)

  pub issued : (sent : Sent) → new.octets.items ≡ old.octets.items → past_of new ≡ with_step sent (past_of old) → Issues sent.step sent.told before after_it
  issued sent octets same = subst (Issues sent.step sent.told before) (sym seen) (issues (past_of old) (is_traced old) tells old.octets.items d i sent i' issue)
    where
      seen : after_it ≡ view_of tells old.octets.items d i' (with_step sent (past_of old))
      seen = λ j. view_of tells (octets j) d i' (same j)
