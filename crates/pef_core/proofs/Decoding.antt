-- Octets are those of a mark, an event, a command, a frame, a tick or a power cycle: the tag says which.
use Rattle.std.proofs.Common.{◌≡◌, ◌≢◌, ℕ, List, [], ◌∷◌, length, Some, None, ap, sym, ◌∙◌, subst, refl}
use Rattle.std.specs.Option.{option_map}
use Rattle.board_core.specs.declared.step.Address.{Address}
use Rattle.board_core.specs.declared.step.Told.TheVariants.{Done, Failed}
use Rattle.pef_commands.specs.Request.{Asked}
use Rattle.pef_engine.specs.declared.entry.Entry.{Entry}
use Rattle.pef_engine.specs.declared.entry.Entry.TheVariants.{Item as Taken, Outcome}
use Rattle.pef_engine.specs.declared.marks.Mark.{Mark}
use Rattle.pef_engine.specs.declared.marks.Mark.TheVariants.{Open as Opened, Close as Closed, Outcome as Told}
use Rattle.pef_engine.specs.Marks.{mark_octets, IsMark, ReadsMark}
use Rattle.pef_engine.specs.Rules.{Decodes}
use Rattle.pef_core.specs.declared.item.Item.{Item}
use Rattle.pef_core.specs.declared.item.Item.TheVariants.{Event, Command, Frame, Tick, Power, Open, Close}
use Rattle.pef_core.specs.Histories.{IsRequest, IsItem, IsEntry, encode, controller_rules}
use Rattle.pef_core.specs.Entries.{marked, ReadsEvent, ReadsCommand, ReadsFrame}

-- no mark begins as an event, a command or a frame does
no_event : (m : Mark) (event : List ℕ) → 0x01 ∷ event ≡ mark_octets m → ⊥
no_event (Opened id count) event same = cc same
no_event Closed event same = cc same
no_event (Told Done) event same = cc same
no_event (Told Failed) event same = cc same

no_command : (m : Mark) (rest : List ℕ) → 0x02 ∷ rest ≡ mark_octets m → ⊥
no_command (Opened id count) rest same = cc same
no_command Closed rest same = cc same
no_command (Told Done) rest same = cc same
no_command (Told Failed) rest same = cc same

no_frame : (m : Mark) (rest : List ℕ) → 0x07 ∷ rest ≡ mark_octets m → ⊥
no_frame (Opened id count) rest same = cc same
no_frame Closed rest same = cc same
no_frame (Told Done) rest same = cc same
no_frame (Told Failed) rest same = cc same

-- nor is one of these tags alone
no_tick : (m : Mark) → 0x03 ∷ [] ≡ mark_octets m → ⊥
no_tick (Opened id count) same = cc same
no_tick Closed same = cc same
no_tick (Told Done) same = cc same
no_tick (Told Failed) same = cc same

no_power : (m : Mark) → 0x04 ∷ [] ≡ mark_octets m → ⊥
no_power (Opened id count) same = cc same
no_power Closed same = cc same
no_power (Told Done) same = cc same
no_power (Told Failed) same = cc same

right_of : (octets : List ℕ) (m : Mark) → IsMark m × (mark_octets m ≡ octets) → IsEntry (marked m) × (encode (marked m) ≡ octets)
right_of octets (Opened id count) right = right
right_of octets Closed right = right
right_of octets (Told told) right = right

-- what the one entry of these octets is, the decoding has found
found_as : {octets : List ℕ} (entry : Entry Item) → IsEntry entry × (encode entry ≡ octets) → ((e : Entry Item) → IsEntry e → encode e ≡ octets → Some entry ≡ Some e) → Decodes controller_rules octets (Some entry)
found_as {octets} entry right found = record {
  found = found;
  right = λ e is. let same : entry ≡ e = cc is in subst (λ x. IsEntry x × (encode x ≡ octets)) same right;
}

pub decodes_event : (octets event : List ℕ) → ReadsEvent octets (Some event) → Decodes controller_rules octets (Some (Taken (Event event)))
decodes_event octets event reads = found_as (Taken (Event event)) is found
  where
    is : (length event ≡ 16) × (0x01 ∷ event ≡ octets)
    is = reads.right event refl

    found : (e : Entry Item) → IsEntry e → encode e ≡ octets → Some (Taken (Event event)) ≡ Some e
    found (Taken (Event other)) entry same = ap (option_map (λ x. Taken (Event x))) (reads.found other entry same)
    found (Taken (Command asked)) entry same = let here = is.1 in absurd (cc (same, here))
    found (Taken (Frame from held)) entry same = let here = is.1 in absurd (cc (same, here))
    found (Taken Tick) entry same = let here = is.1 in absurd (cc (same, here))
    found (Taken Power) entry same = let here = is.1 in absurd (cc (same, here))
    found (Taken (Open id count)) entry same = absurd (no_event (Opened id count) event (is.1 ∙ sym same))
    found (Taken Close) entry same = absurd (no_event Closed event (is.1 ∙ sym same))
    found (Outcome told) entry same = absurd (no_event (Told told) event (is.1 ∙ sym same))

pub decodes_command : (octets : List ℕ) (asked : Asked) → ReadsCommand octets (Some asked) → Decodes controller_rules octets (Some (Taken (Command asked)))
decodes_command octets asked reads = found_as (Taken (Command asked)) is found
  where
    is : IsRequest asked × (0x02 ∷ asked.netfn ∷ asked.cmd ∷ asked.payload ≡ octets)
    is = reads.right asked refl

    found : (e : Entry Item) → IsEntry e → encode e ≡ octets → Some (Taken (Command asked)) ≡ Some e
    found (Taken (Event event)) entry same = let here = is.1 in absurd (cc (same, here))
    found (Taken (Command other)) entry same = ap (option_map (λ x. Taken (Command x))) (reads.found other entry same)
    found (Taken (Frame from held)) entry same = let here = is.1 in absurd (cc (same, here))
    found (Taken Tick) entry same = let here = is.1 in absurd (cc (same, here))
    found (Taken Power) entry same = let here = is.1 in absurd (cc (same, here))
    found (Taken (Open id count)) entry same = absurd (no_command (Opened id count) _ (is.1 ∙ sym same))
    found (Taken Close) entry same = absurd (no_command Closed _ (is.1 ∙ sym same))
    found (Outcome told) entry same = absurd (no_command (Told told) _ (is.1 ∙ sym same))

pub decodes_frame : (octets : List ℕ) (from : Address) (held : List ℕ) → ReadsFrame octets (Some (from, held)) → Decodes controller_rules octets (Some (Taken (Frame from held)))
decodes_frame octets from held reads = found_as (Taken (Frame from held)) is found
  where
    is : IsItem (Frame from held) × (encode (Taken (Frame from held)) ≡ octets)
    is = reads.right from held refl

    found : (e : Entry Item) → IsEntry e → encode e ≡ octets → Some (Taken (Frame from held)) ≡ Some e
    found (Taken (Event event)) entry same = let here = is.1 in absurd (cc (same, here))
    found (Taken (Command asked)) entry same = let here = is.1 in absurd (cc (same, here))
    found (Taken (Frame other octets)) entry same = ap (option_map (λ x. Taken (Frame x.0 x.1))) (reads.found other octets entry same)
    found (Taken Tick) entry same = let here = is.1 in absurd (cc (same, here))
    found (Taken Power) entry same = let here = is.1 in absurd (cc (same, here))
    found (Taken (Open id count)) entry same = absurd (no_frame (Opened id count) _ (is.1 ∙ sym same))
    found (Taken Close) entry same = absurd (no_frame Closed _ (is.1 ∙ sym same))
    found (Outcome told) entry same = absurd (no_frame (Told told) _ (is.1 ∙ sym same))

pub decodes_tick : (octets : List ℕ) → octets ≡ 0x03 ∷ [] → Decodes controller_rules octets (Some (Taken Tick))
decodes_tick octets is = found_as (Taken Tick) (tt, sym is) found
  where
    found : (e : Entry Item) → IsEntry e → encode e ≡ octets → Some (Taken Tick) ≡ Some e
    found (Taken (Event event)) entry same = absurd (cc (same, is))
    found (Taken (Command asked)) entry same = absurd (cc (same, is))
    found (Taken (Frame from held)) entry same = absurd (cc (same, is))
    found (Taken Tick) entry same = refl
    found (Taken Power) entry same = absurd (cc (same, is))
    found (Taken (Open id count)) entry same = absurd (no_tick (Opened id count) (sym is ∙ sym same))
    found (Taken Close) entry same = absurd (no_tick Closed (sym is ∙ sym same))
    found (Outcome told) entry same = absurd (no_tick (Told told) (sym is ∙ sym same))

pub decodes_power : (octets : List ℕ) → octets ≡ 0x04 ∷ [] → Decodes controller_rules octets (Some (Taken Power))
decodes_power octets is = found_as (Taken Power) (tt, sym is) found
  where
    found : (e : Entry Item) → IsEntry e → encode e ≡ octets → Some (Taken Power) ≡ Some e
    found (Taken (Event event)) entry same = absurd (cc (same, is))
    found (Taken (Command asked)) entry same = absurd (cc (same, is))
    found (Taken (Frame from held)) entry same = absurd (cc (same, is))
    found (Taken Tick) entry same = absurd (cc (same, is))
    found (Taken Power) entry same = refl
    found (Taken (Open id count)) entry same = absurd (no_power (Opened id count) (sym is ∙ sym same))
    found (Taken Close) entry same = absurd (no_power Closed (sym is ∙ sym same))
    found (Outcome told) entry same = absurd (no_power (Told told) (sym is ∙ sym same))

module _ (octets : List ℕ) (no_events : ReadsEvent octets None) (no_commands : ReadsCommand octets None) (no_frames : ReadsFrame octets None) (not_tick : octets ≢ 0x03 ∷ []) (not_power : octets ≢ 0x04 ∷ []) where
  pub decodes_mark : (m : Mark) → ReadsMark octets (Some m) → Decodes controller_rules octets (Some (marked m))
  decodes_mark m reads = found_as (marked m) (right_of octets m (reads.right m refl)) found
    where
      found : (e : Entry Item) → IsEntry e → encode e ≡ octets → Some (marked m) ≡ Some e
      found (Taken (Event event)) entry same = absurd (cc (no_events.found event entry same))
      found (Taken (Command asked)) entry same = absurd (cc (no_commands.found asked entry same))
      found (Taken (Frame from held)) entry same = absurd (cc (no_frames.found from held entry same))
      found (Taken Tick) entry same = absurd (not_tick (sym same))
      found (Taken Power) entry same = absurd (not_power (sym same))
      found (Taken (Open id count)) entry same = ap (option_map marked) (reads.found (Opened id count) entry same)
      found (Taken Close) entry same = ap (option_map marked) (reads.found Closed tt same)
      found (Outcome told) entry same = ap (option_map marked) (reads.found (Told told) tt same)

  pub decodes_none : ReadsMark octets None → Decodes controller_rules octets None
  decodes_none none = record { found = found; right = λ e is. absurd (cc is) }
    where
      found : (e : Entry Item) → IsEntry e → encode e ≡ octets → None ≡ Some e
      found (Taken (Event event)) entry same = absurd (cc (no_events.found event entry same))
      found (Taken (Command asked)) entry same = absurd (cc (no_commands.found asked entry same))
      found (Taken (Frame from held)) entry same = absurd (cc (no_frames.found from held entry same))
      found (Taken Tick) entry same = absurd (not_tick (sym same))
      found (Taken Power) entry same = absurd (not_power (sym same))
      found (Taken (Open id count)) entry same = absurd (cc (none.found (Opened id count) entry same))
      found (Taken Close) entry same = absurd (cc (none.found Closed tt same))
      found (Outcome told) entry same = absurd (cc (none.found (Told told) tt same))
