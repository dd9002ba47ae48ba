-- A line with a further word is neither tick nor power.
use Rattle.std.proofs.Common.{◌≡◌, ℕ, Bool, true, false, cond, nat_eq, List, [], ◌∷◌, None, refl, ap, sym}
use Rattle.std.specs.Prelude.{bytes_eq, codes}
use Rattle.std.specs.List.{onto_first}
use Rattle.script_text.specs.Forms.{words_of}
use Rattle.pef_core.specs.declared.item.Item.{Item}
use Rattle.pef_core.specs.declared.item.Item.TheVariants.{Tick, Power}
use Rattle.pef_core.specs.Report.{event_of, command_of, frame_of, alone, item_of_words}

some_onto : (b : ℕ) (words : List (List ℕ)) → onto_first b words ≡ [] → ⊥
some_onto b [] none = cc none
some_onto b (word ∷ words) none = cc none

some_words : (text : List ℕ) → words_of text ≡ [] → ⊥
some_words [] none = cc none
some_words (b ∷ text) none = by (nat_eq b 32) none
  where
    by : (t : Bool) → cond t ([] ∷ words_of text) (onto_first b (words_of text)) ≡ [] → ⊥
    by true is = cc is
    by false is = some_onto b (words_of text) is

alone_with : (item : Item) (rest : List ℕ) (words : List (List ℕ)) → words_of rest ≡ words → None ≡ alone item (words_of rest)
alone_with item rest [] are = absurd (some_words rest are)
alone_with item rest (first ∷ more) are = ap (alone item) (sym are)

pub no_more_with : (word rest : List ℕ) → bytes_eq word (codes "event") ≡ false → bytes_eq word (codes "cmd") ≡ false → bytes_eq word (codes "frame") ≡ false → None ≡ item_of_words (word ∷ words_of rest)
no_more_with word rest no_event no_command no_frame = by (bytes_eq word (codes "event")) (bytes_eq word (codes "cmd")) (bytes_eq word (codes "frame")) (bytes_eq word (codes "tick")) (bytes_eq word (codes "power")) no_event no_command no_frame
  where
    by : (a b f t p : Bool) → a ≡ false → b ≡ false → f ≡ false
        → None ≡ cond a (event_of (words_of rest)) (cond b (command_of (words_of rest)) (cond f (frame_of (words_of rest)) (cond t (alone Tick (words_of rest)) (cond p (alone Power (words_of rest)) None))))
    by true b f t p is is_too also = absurd (cc is)
    by false true f t p is is_too also = absurd (cc is_too)
    by false false true t p is is_too also = absurd (cc also)
    by false false false true p is is_too also = alone_with Tick rest (words_of rest) refl
    by false false false false true is is_too also = alone_with Power rest (words_of rest) refl
    by false false false false false is is_too also = refl
