-- What a crash leaves, after one more call.
use Rattle.std.proofs.Common.{◌≡◌, ℕ, ◌+◌, ◌≤◌, inr, true, List, [], ◌∷◌, ◌++◌, length, replicate, Vec, Global, vec_len, refl, sym, ◌∙◌, ap, subst, arith}
use Rattle.std.proofs.lemmas.Bool.{leb-true}
use Rattle.std.proofs.lemmas.List.{length-replicate}
use Rattle.board_core.specs.Board.{Torn}
use Rattle.board_core.specs.File.{put_at}
use Rattle.board_core.specs.declared.call.Call.{Call}
use Rattle.board_core.specs.declared.call.Effect.{Effect}
use Rattle.board_core.specs.declared.call.Effect.TheVariants.{Wrote, Spoiled, Synced, Issued}
use Rattle.board_core.specs.declared.leaving.Leaving.{Leaving}
use Rattle.board_core.specs.Moments.{State, state_after, after, is_placed}
use Rattle.board_core.specs.TornImage.{IsLongestTorn}
use Rattle.board_core.specs.Leaving.{IsLeft, IsLeftAt}
use Rattle.board_core.proofs.Pushed.{state-push}
use Rattle.board_core.proofs.TraceCalls.{whole_is_torn}
use Rattle.board_core.proofs.TornImages.{longest_torn, longest_synced}

-- a range of one octet is one that a crash cut short
row_is_torn : (place count octet : ℕ) (image : List ℕ) → place ≤ length image → Torn place count image (put_at place (replicate count octet) image)
row_is_torn place count octet image le = subst (λ n. Torn place n image (put_at place (replicate count octet) image)) (length-replicate {A = ℕ} count octet) (whole_is_torn place (replicate count octet) image le)

module _ (torn : ℕ) (content : List ℕ) (earlier : ℕ) (calls : List Call) (call : Call) (old new : Leaving) (was : IsLeft torn content earlier calls old) where
  abbrev before : State
  before = state_after content earlier calls

  onto : (effect : Effect) → call.effect ≡ effect → IsLeftAt torn (after before effect) new → IsLeft torn content earlier (calls ++ call ∷ []) new
  onto effect is left = subst (λ (s : State). IsLeftAt torn s new) (sym (state-push content earlier calls (calls ++ call ∷ []) call refl ∙ ap (after before) is)) left

  within : (place : ℕ) (end : ℕ) → is_placed (vec_len old.file) call.effect ≡ true → is_placed (vec_len old.file) call.effect ≡ is_placed (vec_len old.file) (Spoiled place end) → place ≤ length old.image.items
  within place end placed is = omega (arith, leb-true place (vec_len old.file) (sym is ∙ placed), old.longer, old.image.ok.0, old.file.ok.0)

  pub after_write : (place : ℕ) (octets : Vec ℕ Global) → call.effect ≡ Wrote place octets → is_placed (vec_len old.file) call.effect ≡ true
      → new.file.items ≡ put_at place octets.items old.file.items → new.image.items ≡ put_at place (replicate (length octets.items) torn) old.image.items → new.issued ≡ old.issued
      → IsLeft torn content earlier (calls ++ call ∷ []) new
  after_write place octets is placed file image issued =
      let le = within place 0 placed (ap (is_placed (vec_len old.file)) is) in
      onto (Wrote place octets) is
      (record {
        file = file ∙ ap (put_at place octets.items) was.file;
        image = inr (old.image.items, was.image, subst (Torn place (length octets.items) old.image.items) (sym image) (row_is_torn place (length octets.items) torn old.image.items le));
        longest = subst (IsLongestTorn torn before.synced (record { place = place; count = length octets.items } ∷ before.written)) (sym image) (longest_torn torn place (length octets.items) before.synced before.written old.image.items le was.longest);
        issued = issued ∙ was.issued;
      })

  pub after_spoilt : (place count : ℕ) → call.effect ≡ Spoiled place count → is_placed (vec_len old.file) call.effect ≡ true
      → new.file.items ≡ old.file.items → new.image.items ≡ put_at place (replicate count torn) old.image.items → new.issued ≡ old.issued
      → IsLeft torn content earlier (calls ++ call ∷ []) new
  after_spoilt place count is placed file image issued =
      let le = within place count placed (ap (is_placed (vec_len old.file)) is) in
      onto (Spoiled place count) is
      (record {
        file = file ∙ was.file;
        image = inr (old.image.items, was.image, subst (Torn place count old.image.items) (sym image) (row_is_torn place count torn old.image.items le));
        longest = subst (IsLongestTorn torn before.synced (record { place = place; count = count } ∷ before.written)) (sym image) (longest_torn torn place count before.synced before.written old.image.items le was.longest);
        issued = issued ∙ was.issued;
      })

  pub after_sync : call.effect ≡ Synced → new.file.items ≡ old.file.items → new.image.items ≡ old.file.items → new.issued ≡ old.issued → IsLeft torn content earlier (calls ++ call ∷ []) new
  after_sync is file image issued = onto Synced is
      (record {
        file = file ∙ was.file;
        image = image ∙ was.file;
        longest = subst (IsLongestTorn torn before.octets []) (sym (image ∙ was.file)) (longest_synced torn before.octets);
        issued = issued ∙ was.issued;
      })

  pub after_step : call.effect ≡ Issued → new.file.items ≡ old.file.items → new.image.items ≡ old.image.items → new.issued ≡ old.issued + 1 → IsLeft torn content earlier (calls ++ call ∷ []) new
  after_step is file image issued = onto Issued is
      (record {
        file = file ∙ was.file;
        image = subst before.images (sym image) was.image;
        longest = subst (IsLongestTorn torn before.synced before.written) (sym image) was.longest;
        issued = issued ∙ ap (λ n. n + 1) was.issued;
      })
