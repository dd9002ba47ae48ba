-- Octets are those of a mark or of a datagram.
use Rattle.std.proofs.Common.{◌≡◌, ℕ, false, nat_eq, List, [], ◌∷◌, ◌++◌, Some, None, ap, subst, refl}
use Rattle.std.proofs.lemmas.Bool.{both_ways, eq-eqb}
use Rattle.std.specs.Int.{to_le_bytes, w16}
use Rattle.std.specs.Option.{option_map}
use Rattle.board_core.specs.declared.step.Address.{Address}
use Rattle.board_core.specs.declared.step.Told.TheVariants.{Done, Failed}
use Rattle.pef_engine.specs.declared.entry.Entry.{Entry}
use Rattle.pef_engine.specs.declared.entry.Entry.TheVariants.{Item as Taken, Outcome}
use Rattle.pef_engine.specs.declared.marks.Mark.{Mark}
use Rattle.pef_engine.specs.declared.marks.Mark.TheVariants.{Open as Opened, Close as Closed, Outcome as Told}
use Rattle.pef_engine.specs.Marks.{mark_octets, IsMark, ReadsMark}
use Rattle.pef_engine.specs.Rules.{Decodes}
use Rattle.trap_console.specs.declared.item.Item.{Item}
use Rattle.trap_console.specs.declared.item.Item.TheVariants.{Datagram, Open, Close}
use Rattle.trap_console.specs.Histories.{IsEntry, encode, console_rules}
use Rattle.trap_console.specs.Entries.{marked, ReadsDatagram}

abbrev first_of : List ℕ → ℕ
first_of [] = 0
first_of (octet ∷ octets) = octet

apart : (tag : ℕ) → 0x21 ≡ tag → nat_eq 0x21 tag ≡ false → ⊥
apart tag same differs = both_ways (nat_eq 0x21 tag) differs (eq-eqb 0x21 tag same)

-- no mark begins as a datagram does
starts : (m : Mark) (behind : List ℕ) → 0x21 ∷ behind ≡ mark_octets m → ⊥
starts (Opened id count) behind same = apart 0x05 (ap first_of same) refl
starts Closed behind same = apart 0x06 (ap first_of same) refl
starts (Told Done) behind same = apart 0x10 (ap first_of same) refl
starts (Told Failed) behind same = apart 0x10 (ap first_of same) refl

right_of : (octets : List ℕ) (m : Mark) → IsMark m × (mark_octets m ≡ octets) → IsEntry (marked m) × (encode (marked m) ≡ octets)
right_of octets (Opened id count) right = right
right_of octets Closed right = right
right_of octets (Told told) right = right

pub decodes_mark : (octets : List ℕ) (m : Mark) → ReadsMark octets (Some m) → Decodes console_rules octets (Some (marked m))
decodes_mark octets m reads = record {
  found = found;
  right = λ e is. let same : marked m ≡ e = cc is in subst (λ x. IsEntry x × (encode x ≡ octets)) same (right_of octets m (reads.right m refl));
}
  where
    found : (e : Entry Item) → IsEntry e → encode e ≡ octets → Some (marked m) ≡ Some e
    found (Taken (Datagram from held)) is same = let mark = (reads.right m refl).1 in absurd (starts m (from.ip ++ (to_le_bytes w16 from.port ++ held)) (cc (same, mark)))
    found (Taken (Open id count)) is same = ap (option_map marked) (reads.found (Opened id count) is same)
    found (Taken Close) is same = ap (option_map marked) (reads.found Closed tt same)
    found (Outcome told) is same = ap (option_map marked) (reads.found (Told told) tt same)

abbrev entry_of : Address × List ℕ → Entry Item
entry_of datagram = Taken (Datagram datagram.0 datagram.1)

pub decodes_datagram : (octets : List ℕ) (from : Address) (held : List ℕ) → ReadsMark octets None → ReadsDatagram octets (Some (from, held)) → Decodes console_rules octets (Some (Taken (Datagram from held)))
decodes_datagram octets from held none reads = record {
  found = found;
  right = λ e is. let same : Taken (Datagram from held) ≡ e = cc is in subst (λ x. IsEntry x × (encode x ≡ octets)) same (reads.right from held refl);
}
  where
    found : (e : Entry Item) → IsEntry e → encode e ≡ octets → Some (Taken (Datagram from held)) ≡ Some e
    found (Taken (Datagram other more)) is same = ap (option_map entry_of) (reads.found other more is same)
    found (Taken (Open id count)) is same = absurd (cc (none.found (Opened id count) is same))
    found (Taken Close) is same = absurd (cc (none.found Closed tt same))
    found (Outcome told) is same = absurd (cc (none.found (Told told) tt same))

pub decodes_none : (octets : List ℕ) → ReadsMark octets None → ReadsDatagram octets None → Decodes console_rules octets None
decodes_none octets none no_datagram = record { found = found; right = λ e is. absurd (cc is) }
  where
    found : (e : Entry Item) → IsEntry e → encode e ≡ octets → None ≡ Some e
    found (Taken (Datagram from held)) is same = absurd (cc (no_datagram.found from held is same))
    found (Taken (Open id count)) is same = absurd (cc (none.found (Opened id count) is same))
    found (Taken Close) is same = absurd (cc (none.found Closed tt same))
    found (Outcome told) is same = absurd (cc (none.found (Told told) tt same))
