-- What a deed changes in a controller.
use Rattle.std.proofs.Common.{◌≡◌, ◌≢◌, ℕ, ◌+◌, ◌-◌, ◌%◌, ◌≤◌, Bool, true, false, cond, eqb, List, [], ◌∷◌, length, take, Option, Some, None, refl, sym, ◌∙◌, ap, eqb-true, leb, leb-true, arith}
use Rattle.std.specs.Prelude.{◌==◌, not, IfSome, drop, option_map}
use Rattle.std.proofs.Math.Path.{fun_ext}
use Rattle.event_record.specs.declared.fault.RecordFault.{RecordFault}
use Rattle.event_record.specs.declared.fault.LogFault.{LogFault}
use Rattle.event_record.specs.Rules.{record_fault}
use Rattle.event_record.specs.Log.{add_fault}
use Rattle.board_core.specs.declared.step.Step.{Step}
use Rattle.board_core.specs.declared.step.Told.{Told}
use Rattle.pet_body.specs.declared.ack.PetAck.{PetAck}
use Rattle.frame_answers.specs.Answers.{Answered}
use Rattle.lan_dest.specs.Parameters as lan
use Rattle.lan_dest.specs.Kept.{kept}
use Rattle.pef_config.specs.Places.{Tables, Write, PutsAt, powered}
use Rattle.pef_config.specs.Rows.{answer_if}
use Rattle.pef_match.specs.AtOnce.{at_once}
use Rattle.pef_match.specs.Parts.{Parts}
use Rattle.pef_match.specs.declared.target.Target.{Target}
use Rattle.pef_config.specs.Kept.{tables}
use Rattle.job_course.specs.declared.counts.Counts.{Counts}
use Rattle.job_course.specs.declared.counts.Counts.TheVariants.{Second, Ack}
use Rattle.job_course.specs.declared.turn.Turn.{Turn}
use Rattle.job_course.specs.declared.turn.Turn.TheVariants.{ToAlert}
use Rattle.job_course.specs.declared.work.Work.{Work}
use Rattle.job_course.specs.Running.{Running, IsTurn}
use Rattle.job_course.specs.Undertaking.{set_at}
use Rattle.job_course.proofs.TurnOrder.{eq_self}
use Rattle.pef_core.specs.declared.controller.Controller.{Controller}
use Rattle.pef_core.specs.declared.item.Item.TheVariants.{Event}
use Rattle.pef_core.specs.declared.note.Note.{Note}
use Rattle.pef_core.specs.declared.note.Note.TheVariants.{Nothing}
use Rattle.pef_core.specs.declared.postpone.Postpone.{Postpone}
use Rattle.pef_core.specs.declared.postpone.Postpone.TheVariants.{Seconds}
use Rattle.pef_core.specs.Past.{Unchanged, SetPef, SetLan, Armed, Marked, SoftwareMarked, Cleared, Sends, Replied, Ticked, Powered, WasTold, delay_by, less_by, records_with, note_with}
use Rattle.pef_core.specs.Course.{guid_by, number_of}
use Rattle.pef_core.specs.Values.{Now, Values, stamp_at, force_of}
use Rattle.pef_core.specs.Deeds.{event_deed, item_deed, reply_deed, frame_deed, told_deed}
use Rattle.pef_core.specs.Replies.{Answer, refusal, telling, done_with, answer_to_write, timer_octet, armed_by, arm, is_no_string, cleared}
use Rattle.pef_core.specs.After.{begins, counted_now, moved_by, with_deed}
use Rattle.pef_core.specs.View.{shown}

event_changes : (bad : Option RecordFault) (full : Option LogFault) (event : List ℕ) (v : Values)
    → record v { records = records_with (event_deed bad full event) v.records; note = note_with (event_deed bad full event) Nothing; reply = None }
    ≡ with_deed (event_deed bad full event) v
event_changes (Some fault) full event v = refl
event_changes None (Some fault) event v = refl
event_changes None None event v = refl

pub event_shows : (c : Controller) (log : List (List ℕ)) (note : Note) (octets : List ℕ)
    → note ≡ note_with (event_deed (record_fault octets) (add_fault c.log octets) octets) Nothing
    → log ≡ records_with (event_deed (record_fault octets) (add_fault c.log octets) octets) c.log
    → shown (record c { log = log; note = note; reply = None }) ≡ with_deed (item_deed (shown c) (Event octets)) (shown c)
event_shows c log note octets note_is log_is =
    ap (λ x. shown (record c { log = x; note = note; reply = None })) log_is
    ∙ ap (λ x. record (shown c) { records = records_with (event_deed (record_fault octets) (add_fault c.log octets) octets) c.log; note = x; reply = None }) note_is
    ∙ event_changes (record_fault octets) (add_fault c.log octets) octets (shown c)

-- a controller with the reply to a command
abbrev pub replied : List ℕ → Values → Values
replied octets v = record v { note = Nothing; reply = Some octets }

-- A write is accepted where its code is 00h, and else nothing is written.
pub pef_write_shows : (c : Controller) (code : ℕ) (w : Write) (new : Tables) → (code ≡ 0 → PutsAt w (tables c.config) new) → (code ≢ 0 → new ≡ tables c.config)
    → replied (code ∷ []) (record (shown c) { pef = new }) ≡ with_deed (reply_deed (answer_to_write code (SetPef w))) (shown c)
pef_write_shows c code w new written kept = by (eqb code 0) refl
  where
    by : (b : Bool) → eqb code 0 ≡ b → replied (code ∷ []) (record (shown c) { pef = new }) ≡ with_deed (Replied (code ∷ []) (cond b (SetPef w) Unchanged)) (shown c)
    by true is = ap (λ t. replied (code ∷ []) (record (shown c) { pef = t })) (fun_ext (written (eqb-true code 0 is)))
    by false is = ap (λ t. replied (code ∷ []) (record (shown c) { pef = t })) (kept (λ zero. absurd (cc (zero, is))))

pub lan_write_shows : (c : Controller) (code : ℕ) (w : lan.Write) (new : lan.Tables) → (code ≡ 0 → new ≡ lan.written w (kept c.lan)) → (code ≢ 0 → new ≡ kept c.lan)
    → replied (code ∷ []) (record (shown c) { lan = new }) ≡ with_deed (reply_deed (answer_to_write code (SetLan w))) (shown c)
lan_write_shows c code w new written kept_is = by (eqb code 0) refl
  where
    by : (b : Bool) → eqb code 0 ≡ b → replied (code ∷ []) (record (shown c) { lan = new }) ≡ with_deed (Replied (code ∷ []) (cond b (SetLan w) Unchanged)) (shown c)
    by true is = ap (λ t. replied (code ∷ []) (record (shown c) { lan = t })) (written (eqb-true code 0 is))
    by false is = ap (λ t. replied (code ∷ []) (record (shown c) { lan = t })) (kept_is (λ zero. absurd (cc (zero, is))))

-- a check that refuses, and one that doesn't
pub refused : (v : Values) (b : Bool) (code : ℕ) (rest : Answer) → b ≡ true → replied (code ∷ []) v ≡ with_deed (reply_deed (answer_if b (refusal code) rest)) v
refused v true code rest is = refl
refused v false code rest is = absurd (cc is)

pub passes : (v x : Values) (b : Bool) (code : ℕ) (rest : Answer) → b ≡ false → x ≡ with_deed (reply_deed rest) v → x ≡ with_deed (reply_deed (answer_if b (refusal code) rest)) v
passes v x true code rest is shows = absurd (cc is)
passes v x false code rest is shows = shows

pub arms : (v : Values) (octet : ℕ) (timer : Postpone) (octets : List ℕ) → timer ≡ cond (eqb octet 0xFF) v.postpone (armed_by octet) → octets ≡ 0x00 ∷ timer_octet timer ∷ []
    → replied octets (record v { postpone = timer }) ≡ with_deed (reply_deed (arm v.postpone octet)) v
arms v octet timer octets timer_is octets_are =
    ap (λ o. replied o (record v { postpone = timer })) octets_are
    ∙ ap (λ t. replied (0x00 ∷ timer_octet t ∷ []) (record v { postpone = t })) timer_is
    ∙ by (eqb octet 0xFF)
  where
    by : (b : Bool) → replied (0x00 ∷ timer_octet (cond b v.postpone (armed_by octet)) ∷ []) (record v { postpone = cond b v.postpone (armed_by octet) })
        ≡ with_deed (reply_deed (cond b (telling (timer_octet v.postpone ∷ [])) (record { octets = 0x00 ∷ timer_octet (armed_by octet) ∷ []; effect = Armed (armed_by octet) }))) v
    by true = refl
    by false = refl

pub clears : (v : Values) (records : List (List ℕ)) (octets : List ℕ) → records ≡ [] → octets ≡ 0x00 ∷ cleared
    → replied octets (record v { records = records; software = 0x0000; now = record v.now { mark = 0 } }) ≡ with_deed (reply_deed (record { octets = 0x00 ∷ cleared; effect = Cleared })) v
clears v records octets none octets_are =
    ap (λ o. replied o (record v { records = records; software = 0x0000; now = record v.now { mark = 0 } })) octets_are
    ∙ ap (λ r. replied (0x00 ∷ cleared) (record v { records = r; software = 0x0000; now = record v.now { mark = 0 } })) none

-- a second
pub ticks_on : (v : Values) (delay : ℕ) (timer : Postpone) → delay ≡ v.delay - 1 → timer ≡ less_by 1 v.postpone
    → record v {
      ticks = (v.ticks + 1) % 4294967296;
      delay = delay;
      postpone = timer;
      note = Nothing;
      reply = None;
      now = counted_now Second (stamp_at ((v.ticks + 1) % 4294967296)) v.now.running v.now;
    } ≡ with_deed Ticked v
ticks_on v delay timer delay_is timer_is =
    ap (λ d. record (with_deed Ticked v) { delay = d; postpone = timer }) delay_is
    ∙ ap (λ t. record (with_deed Ticked v) { postpone = t }) timer_is

-- the power
pub powers : (v : Values) (pef : Tables) (kept : lan.Tables) (delay : ℕ) → pef ≡ powered v.pef → kept ≡ lan.powered v.lan → delay ≡ delay_by pef
    → record v { pef = pef; lan = kept; delay = delay; postpone = Seconds 0; note = Nothing; reply = None } ≡ with_deed Powered v
powers v pef kept delay pef_is lan_is delay_is =
    ap (λ d. record v { pef = pef; lan = kept; delay = d; postpone = Seconds 0; note = Nothing; reply = None }) delay_is
    ∙ ap (λ k. record v { pef = pef; lan = k; delay = delay_by pef; postpone = Seconds 0; note = Nothing; reply = None }) lan_is
    ∙ ap (λ p. record v { pef = p; lan = lan.powered v.lan; delay = delay_by p; postpone = Seconds 0; note = Nothing; reply = None }) pef_is

-- an alert at once
abbrev pub sent_by : Values → Work → Values
sent_by v work = replied (0x00 ∷ []) (record v { now = begins work (stamp_at v.ticks) (Some (ToAlert 0 0)) None (record v.now { status = 0xFF }) })

pub sends : (v : Values) (target : Target) (job : Parts) (guid : List ℕ) → job ≡ at_once target → guid ≡ guid_by (force_of v)
    → sent_by v (record { number = None; job = job; guid = guid }) ≡ with_deed (reply_deed (done_with (Sends target (guid_by (force_of v))))) v
sends v target job guid job_is guid_is =
    ap (λ j. sent_by v (record { number = None; job = j; guid = guid })) job_is
    ∙ ap (λ g. sent_by v (record { number = None; job = at_once target; guid = g })) guid_is

pub first_turn_is : (target : Target) → IsTurn (at_once target).targets (ToAlert 0 0)
first_turn_is target = (omega arith, omega (arith, set_is_one))
  where
    set_is_one : length (set_at (target ∷ []) 0) ≡ 1
    set_is_one = by (target.policy_number == target.policy_number) (eq_self target.policy_number)
      where
        by : (b : Bool) → b ≡ true → length (take (cond b (1 + 0) 0) (target ∷ [])) ≡ 1
        by true is = refl
        by false is = absurd (cc is)

-- the marks
pub marks : (v : Values) (bmc : Bool) (id number : ℕ) → bmc ≡ true → number_of v.records id ≡ number
    → replied (0x00 ∷ []) (record v { now = record v.now { mark = number } }) ≡ with_deed (reply_deed (done_with (cond bmc (Marked id) (SoftwareMarked id)))) v
marks v true id number is same = ap (λ n. replied (0x00 ∷ []) (record v { now = record v.now { mark = n } })) (sym same)
marks v false id number is same = absurd (cc is)

pub marks_software : (v : Values) (bmc : Bool) (id : ℕ) → bmc ≡ false
    → replied (0x00 ∷ []) (record v { software = id }) ≡ with_deed (reply_deed (done_with (cond bmc (Marked id) (SoftwareMarked id)))) v
marks_software v true id is = absurd (cc is)
marks_software v false id is = refl

pub is_string : (string : Option ℕ) → is_no_string string ≡ false → IfSome string (λ n. n ≤ 8)
is_string None is = tt
is_string (Some n) is = by (leb n 8) refl is
  where
    by : (b : Bool) → leb n 8 ≡ b → not b ≡ false → n ≤ 8
    by true small none = leb-true n 8 small
    by false small none = absurd (cc none)

-- a number that stands where a check lets it stand
pub some_if : {A : Type 0} (b : Bool) (x y : A) → cond b (Some x) None ≡ Some y → (b ≡ true) × (x ≡ y)
some_if true x y is = (refl, cc is)
some_if false x y is = absurd (cc is)

pub none_if : {A : Type 0} (b : Bool) (x : A) → cond b (Some x) None ≡ None → b ≡ false
none_if true x is = absurd (cc is)
none_if false x is = refl

-- a controller for which something counts now
abbrev pub with_count : Counts → Controller → Values
with_count counts c = record (shown c) { now = counted_now counts (stamp_at c.ticks) c.running (shown c).now }

abbrev pub at_now : Now → Values → Values
at_now now v = record v { now = now }

-- what begins is the same whatever ran before
pub begins_alike : (work : Work) (stamp : ℕ) (turn : Option Turn) (last : Option Bool) (before : Option Running) (n : Now)
    → begins work stamp turn last (record n { running = before }) ≡ begins work stamp turn last n
begins_alike work stamp None last before n = refl
begins_alike work stamp (Some turn) last before n = refl

-- a frame with these replies and this acknowledgement
abbrev pub framed : List Step → Option PetAck → Values → Values
framed replies ack v = record v { replies = replies; note = Nothing; reply = None; now = moved_by (option_map Ack ack) (stamp_at v.ticks) v.now }

pub frames : (v : Values) (replies : List Step) (ack : Option PetAck) (a : Answered) → replies ≡ a.replies → ack ≡ a.ack
    → framed replies ack v ≡ with_deed (frame_deed a) v
frames v replies ack a replies_are ack_is = ap (λ r. framed r ack v) replies_are ∙ ap (λ o. framed a.replies o v) ack_is

-- the outcome of a reply, and that of another step
pub hears_reply : (v : Values) (told : Told) → (v.replies ≡ [] → ⊥) → record v { replies = drop 1 v.replies } ≡ with_deed (told_deed v.replies told) v
hears_reply v told some = by v.replies refl
  where
    by : (replies : List Step) → v.replies ≡ replies → record v { replies = drop 1 v.replies } ≡ with_deed (told_deed replies told) v
    by [] none = absurd (some none)
    by (reply ∷ replies) is = refl

pub hears_step : (v : Values) (told : Told) → v.replies ≡ [] → with_deed (WasTold told) v ≡ with_deed (told_deed v.replies told) v
hears_step v told none = ap (λ replies. with_deed (told_deed replies told) v) (sym none)
