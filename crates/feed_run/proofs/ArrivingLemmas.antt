-- What was given, call by call, and which items may come.
use Rattle.std.proofs.Common.{◌≡◌, ℕ, ◌+◌, Bool, true, false, if◌then◌else◌, List, [], ◌∷◌, ◌++◌, Option, Some, None, IsTrue, refl, sym, ◌∙◌, ap, subst, append_assoc, Ok, Err}
use Rattle.std.specs.Prelude.{IfSome}
use Rattle.std.proofs.lemmas.List.{append-nil}
use Rattle.board_core.specs.Causes.{HasCause}
use Rattle.board_core.specs.Feed.{Arrivals, Gives, HasFeedCause}
use Rattle.board_core.specs.declared.feed.Arrival.{Arrival}
use Rattle.board_core.specs.declared.feed.Arrival.TheVariants.{Datagram, Tick, End, Failed}
use Rattle.board_core.specs.declared.step.Address.{Address}
use Rattle.pef_engine.specs.declared.entry.Entry.{Entry}
use Rattle.pef_engine.specs.declared.entry.Entry.TheVariants.{Item}
use Rattle.pef_engine.specs.declared.script.Script.{Script}
use Rattle.pef_engine.specs.declared.script.ScriptStep.TheVariants.{Takes}
use Rattle.pef_engine.specs.Rules.{Rules, Lawful}
use Rattle.pef_engine.specs.MachineView.{MachineView, Agrees}
use Rattle.pef_engine.specs.CrashFree.{option_list}
use Rattle.pef_engine.specs.Scripts.{ScriptRules, IsScripted, MayCome, one_taken, script_with, script_of}
use Rattle.script_run.specs.Going.{Moved}
use Rattle.script_run.proofs.ScriptsLemmas.{script_behind, item_allowed}
use Rattle.feed_run.specs.Arriving.{items_given, Gave, HasEnded, TakesAny}

pub some_is : {A : Type 0} {a b : A} → Some a ≡ Some b → a ≡ b
some_is e = cc e

pub items_given-append : {I : Type 0} (item_at : Arrival → Option I) (one other : List Arrival) → items_given item_at (one ++ other) ≡ items_given item_at one ++ items_given item_at other
items_given-append item_at [] other = refl
items_given-append item_at (arrival ∷ one) other = ap (λ l. option_list (item_at arrival) ++ l) (items_given-append item_at one other) ∙ sym (append_assoc (option_list (item_at arrival)) (items_given item_at one) (items_given item_at other))

-- the items of one arrival more
pub items_more : {I : Type 0} (item_at : Arrival → Option I) (fresh : List Arrival) (arrival : Arrival) → items_given item_at fresh ++ option_list (item_at arrival) ≡ items_given item_at (fresh ++ arrival ∷ [])
items_more item_at fresh arrival = ap (λ l. items_given item_at fresh ++ l) (sym (append-nil (option_list (item_at arrival)))) ∙ sym (items_given-append item_at fresh (arrival ∷ []))

pub gave_none : (at : Option Arrivals) → Gave at at []
gave_none (Some at) = (refl, sym (append-nil at.given))
gave_none None = tt

pub gave_then : (a b c : Option Arrivals) (one other : List Arrival) → Gave a b one → Gave b c other → Gave a c (one ++ other)
gave_then (Some a) (Some b) (Some c) one other p q = (p.0 ∙ ap (λ l. one ++ l) q.0 ∙ sym (append_assoc one other c.coming), q.1 ∙ ap (λ l. l ++ other) p.1 ∙ append_assoc a.given one other)
gave_then (Some a) (Some b) None one other p q = absurd q
gave_then (Some a) None c one other p q = absurd p
gave_then None (Some b) c one other p q = absurd p
gave_then None None (Some c) one other p q = absurd q
gave_then None None None one other p q = tt

pub gave_no_more : (a b c : Option Arrivals) (fresh : List Arrival) → Gave a b fresh → Gave b c [] → Gave a c fresh
gave_no_more a b c fresh p q = subst (Gave a c) (append-nil fresh) (gave_then a b c fresh [] p q)

-- what a call of a feed answers is what it gave
pub datagram_gave : (old new : Option Arrivals) (from : Address) (octets : List ℕ) → Gives old new (Datagram from octets) → Gave old new (Datagram from octets ∷ [])
datagram_gave (Some old) (Some new) from octets gives = (gives.0, gives.1)
datagram_gave (Some old) None from octets gives = absurd gives
datagram_gave None (Some new) from octets gives = absurd gives
datagram_gave None None from octets gives = tt

pub tick_gave : (old new : Option Arrivals) → Gives old new Tick → Gave old new (Tick ∷ [])
tick_gave (Some old) (Some new) gives = (gives.0, gives.1)
tick_gave (Some old) None gives = absurd gives
tick_gave None (Some new) gives = absurd gives
tick_gave None None gives = tt

pub end_gave : (old new : Option Arrivals) → Gives old new End → Gave old new [] × HasEnded new
end_gave (Some old) (Some new) gives = ((gives.0 ∙ sym gives.1, gives.2 ∙ sym (append-nil old.given)), (gives.3, gives.1))
end_gave (Some old) None gives = absurd gives
end_gave None (Some new) gives = absurd gives
end_gave None None gives = (tt, tt)

pub failed_gave : (old new : Option Arrivals) → Gives old new Failed → Gave old new []
failed_gave (Some old) (Some new) gives = (sym (ap (λ (a : Arrivals). a.coming) gives), ap (λ (a : Arrivals). a.given) gives ∙ sym (append-nil old.given))
failed_gave (Some old) None gives = absurd gives
failed_gave None (Some new) gives = absurd gives
failed_gave None None gives = tt

pub cause_given : {A E : Type 0} (before now : ℕ) (arrival : Arrival) (x : A) → (arrival ≡ Failed → ⊥) → HasFeedCause before now arrival → HasCause {T = A} {E = E} before now (Ok x)
cause_given before now arrival x not cause = record { later = cause.later; failed = tt; same = cause.same not }

pub cause_failed : {A E : Type 0} (before now : ℕ) (arrival : Arrival) (e : E) → arrival ≡ Failed → HasFeedCause before now arrival → HasCause {T = A} {E = E} before now (Err e)
cause_failed before now arrival e is cause = record { later = cause.later; failed = cause.failed is; same = tt }

-- what it tells behind its last answer
pub gave_some : (o p : Option Arrivals) (fresh : List Arrival) (before : Arrivals) → o ≡ Some before → Gave o p fresh → (after : Arrivals) × (p ≡ Some after) × (before.coming ≡ fresh ++ after.coming) × (after.given ≡ before.given ++ fresh)
gave_some (Some a) (Some b) fresh before is gave =
    let same : a ≡ before = some_is is in (b, refl, sym (ap (λ (x : Arrivals). x.coming) same) ∙ gave.0, gave.1 ∙ ap (λ (x : Arrivals). x.given ++ fresh) same)
gave_some (Some a) None fresh before is gave = absurd gave
gave_some None p fresh before is gave = absurd (cc is)

pub ended_of : (o : Option Arrivals) (after : Arrivals) → o ≡ Some after → HasEnded o → (after.ended ≡ true) × (after.coming ≡ [])
ended_of (Some a) after is ended = let same : a ≡ after = some_is is in (sym (ap (λ (x : Arrivals). x.ended) same) ∙ ended.0, sym (ap (λ (x : Arrivals). x.coming) same) ∙ ended.1)
ended_of None after is ended = absurd (cc is)

-- where no script is unfinished, any item may come
may_take : (script : Option Script) → IfSome script (λ s. IsTrue s.closed) → MayCome script Takes
may_take None closed = tt
may_take (Some s) closed = λ unclosed. absurd (cc (closed, unclosed))

closed_by : (b : Bool) (one other : Script) → b ≡ true → IsTrue one.closed → IsTrue (if b then one else other).closed
closed_by true one other is closed = closed
closed_by false one other is closed = absurd (cc is)

closed_more : (script : Option Script) → IfSome script (λ s. IsTrue s.closed) → IfSome (one_taken script) (λ s. IsTrue s.closed)
closed_more None closed = tt
closed_more (Some s) closed = closed_by s.closed s (record s { taken = s.taken + 1 }) closed closed

module _ {I : Type 0} (rules : Rules I) (scripts : ScriptRules I) (scripted : IsScripted rules scripts) (old : MachineView I) (agrees : Agrees rules old) (ready : TakesAny rules scripts old) (item : I) (does : scripts.step item ≡ Takes) where
  pub any_allowed : rules.is_entry (Item item) → old.allowed (Item item)
  any_allowed entry = item_allowed rules scripts scripted old agrees ready.settings ready.history ready.lawful ready.shows ready.idle item Takes does entry (may_take (script_of scripts ready.history) ready.closed)

  -- an item was taken and settled
  pub takes_more : (new : MachineView I) → ((Z : List ℕ) (H : List (Entry I)) → Lawful rules Z H → old.shows Z H → Moved rules new Z H (item ∷ [])) → new.due ≡ None → TakesAny rules scripts new
  takes_more new moves idle =
      let m = moves ready.settings ready.history ready.lawful ready.shows in
      let script = script_behind scripts ready.history m.entries (item ∷ []) m.taken ∙ ap (script_with (script_of scripts ready.history)) does in record {
        settings = ready.settings;
        history = ready.history ++ m.entries;
        lawful = m.lawful;
        shows = m.shows;
        idle = idle;
        closed = subst (λ (s : Option Script). IfSome s (λ x. IsTrue x.closed)) (sym script) (closed_more (script_of scripts ready.history) ready.closed);
      }

-- all was settled, and no item was taken
pub takes_settled : {I : Type 0} (rules : Rules I) (scripts : ScriptRules I) (old new : MachineView I) (Z : List ℕ) (H : List (Entry I)) → Lawful rules Z H → old.shows Z H → IfSome (script_of scripts H) (λ s. IsTrue s.closed)
    → ((Z : List ℕ) (H : List (Entry I)) → Lawful rules Z H → old.shows Z H → Moved rules new Z H []) → new.due ≡ None → TakesAny rules scripts new
takes_settled rules scripts old new Z H lawful shows closed moves idle =
    let m = moves Z H lawful shows in record {
      settings = Z;
      history = H ++ m.entries;
      lawful = m.lawful;
      shows = m.shows;
      idle = idle;
      closed = subst (λ (s : Option Script). IfSome s (λ x. IsTrue x.closed)) (sym (script_behind scripts H m.entries [] m.taken)) closed;
    }
