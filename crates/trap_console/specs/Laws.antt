-- What a machine has to show, of the console.
use Rattle.std.specs.Prelude.{◌≡◌, ◌↔◌, ◌≤◌, ℕ, Bool, true, false, List, [], ◌∷◌, length, Option, Some, None, IsSome, bytes_eq, if◌then◌else◌, codes, refl}
use Rattle.std.proofs.Common.{sym, ◌∙◌, ap, subst, arith}
use Rattle.board_core.specs.declared.step.Address.{Address}
use Rattle.board_core.specs.declared.step.Told.{Told}
use Rattle.board_core.specs.declared.step.Told.TheVariants.{Done, Failed}
use Rattle.pef_engine.specs.declared.entry.Entry.{Entry}
use Rattle.pef_engine.specs.declared.entry.Entry.TheVariants.{Item as Taken, Outcome}
use Rattle.pef_engine.specs.declared.script.ScriptStep.TheVariants.{Takes}
use Rattle.pef_engine.specs.Rules.{Allowed}
use Rattle.pef_engine.specs.MachineView.{Agrees}
use Rattle.pef_engine.specs.Scripts.{MayCome, IsScripted}
use Rattle.script_text.specs.Forms.{words_of, octets_up_to, address_of}
use Rattle.trap_console.specs.declared.console.Console.{Console}
use Rattle.trap_console.specs.declared.item.Item.{Item}
use Rattle.trap_console.specs.declared.item.Item.TheVariants.{Datagram, Open, Close}
use Rattle.trap_console.specs.Histories.{IsEntry, IsOver, encode, console_rules}
use Rattle.trap_console.specs.Report.{datagram_by, item_of_words, step_in, console_scripts}
use Rattle.trap_console.specs.View.{ShowsConsole, AllowedBy, view_of}

-- an outcome takes the same room whatever was told
pub same_size : (one other : Told) → length (encode (Outcome one)) ≡ length (encode (Outcome other))
same_size Done Done = refl
same_size Done Failed = refl
same_size Failed Done = refl
same_size Failed Failed = refl

pub some_octet : (entry : Entry Item) → 1 ≤ length (encode entry)
some_octet (Taken (Datagram from octets)) = omega arith
some_octet (Taken (Open id count)) = omega arith
some_octet (Taken Close) = omega arith
some_octet (Outcome Done) = omega arith
some_octet (Outcome Failed) = omega arith

pub are_entries : (Z : List ℕ) (H : List (Entry Item)) (entry : Entry Item) → Allowed console_rules Z H entry → IsEntry entry
are_entries Z H (Taken item) allowed = allowed.1.1
are_entries Z H (Outcome told) allowed = tt

-- what the console does is what its history means
pub console_agrees : (console : Console) → Agrees console_rules (view_of console)
console_agrees console = record {
  due = λ Z H lawful shows. shows.due_is;
  allowed = λ Z H entry lawful shows. allowed_is Z H entry shows;
  over = λ Z H item lawful shows. (
    λ over. subst (λ rows. IsOver rows item) shows.rows_is over,
    λ over. subst (λ rows. IsOver rows item) (sym shows.rows_is) over,
  );
  outcome = λ told. (λ a. a, λ a. a);
  item = λ item allowed. allowed.0;
}
  where
    allowed_is : (Z : List ℕ) (H : List (Entry Item)) (entry : Entry Item) → ShowsConsole console Z H → AllowedBy console entry ↔ Allowed console_rules Z H entry
    allowed_is Z H (Taken item) shows = (
      λ a. (sym shows.due_is ∙ a.0, (subst (λ s. MayCome s (step_in item)) shows.script_is a.1.0, a.1.1)),
      λ a. (shows.due_is ∙ a.0, (subst (λ s. MayCome s (step_in item)) (sym shows.script_is) a.1.0, a.1.1)),
    )
    allowed_is Z H (Outcome told) shows = (λ a. subst (λ o. IsSome o) shows.due_is a, λ a. subst (λ o. IsSome o) (sym shows.due_is) a)

-- an item that a line gives is one of the capture
datagram_takes : (from : Option Address) (octets : Option (List ℕ)) (item : Item) → datagram_by from octets ≡ Some item → step_in item ≡ Takes
datagram_takes (Some from) (Some octets) item is = let same : Datagram from octets ≡ item = cc is in ap step_in (sym same)
datagram_takes (Some from) None item is = absurd (cc is)
datagram_takes None octets item is = absurd (cc is)

takes : (words : List (List ℕ)) (item : Item) → item_of_words words ≡ Some item → step_in item ≡ Takes
takes [] item is = absurd (cc is)
takes (first ∷ []) item is = absurd (cc is)
takes (first ∷ from ∷ []) item is = absurd (cc is)
takes (first ∷ from ∷ octets ∷ []) item is = by (bytes_eq first (codes "datagram")) is
  where
    by : (b : Bool) → (if b then datagram_by (address_of from) (octets_up_to 512 octets) else None) ≡ Some item → step_in item ≡ Takes
    by true e = datagram_takes (address_of from) (octets_up_to 512 octets) item e
    by false e = absurd (cc e)
takes (first ∷ from ∷ octets ∷ other ∷ more) item is = absurd (cc is)

-- a console takes items as its captures say
pub console_scripted : IsScripted console_rules console_scripts
console_scripted = record {
  opens = λ id count. refl;
  closes = refl;
  takes = λ line item is. takes (words_of line) item is;
  may = λ Z H item. (λ a. a, λ a. a);
}
