-- At most two replies are due, and so few steps are left: 18 of each unprocessed record, and 2.
use Rattle.std.proofs.Common.{◌≡◌, ◌⊎◌, inl, inr, ℕ, ◌+◌, ◌-◌, ◌*◌, ◌≤◌, Bool, true, false, cond, nat_lt, List, [], ◌∷◌, ◌++◌, length, drop, Option, Some, None, refl, sym, ◌∙◌, ap, subst, arith, append_assoc, length-drop}
use Rattle.std.specs.Prelude.{not, ◌&&◌, is_some}
use Rattle.std.proofs.lemmas.Bool.{ltb-true, ltb-false, and_parts}
use Rattle.std.proofs.lemmas.List.{append-nil}
use Rattle.board_core.specs.declared.step.Step.{Step}
use Rattle.board_core.specs.declared.step.Told.{Told}
use Rattle.event_record.specs.declared.fault.RecordFault.{RecordFault}
use Rattle.event_record.specs.declared.fault.LogFault.{LogFault}
use Rattle.event_record.specs.Rules.{record_fault}
use Rattle.event_record.specs.Log.{add_fault}
use Rattle.frame_answers.specs.Answers.{Answered, answered}
use Rattle.frame_answers.specs.Laws.{IsShort}
use Rattle.frame_answers.proofs.Short.{are_short}
use Rattle.pef_engine.specs.declared.entry.Entry.{Entry}
use Rattle.pef_engine.specs.declared.entry.Entry.TheVariants.{Item as Taken, Outcome}
use Rattle.pef_engine.specs.Rules.{Allowed, LawfulFrom, Lawful}
use Rattle.job_course.specs.declared.turn.Turn.{Turn}
use Rattle.job_course.specs.Running.{Running}
use Rattle.job_course.specs.Turns.{first_turn}
use Rattle.pef_core.specs.declared.controller.Controller.{Controller}
use Rattle.pef_core.specs.declared.item.Item.{Item}
use Rattle.pef_core.specs.declared.item.Item.TheVariants.{Event, Command, Frame, Tick, Power, Open, Close}
use Rattle.pef_core.specs.Past.{Framed, Passed, Ticked, Powered, WasTold, ReplySent}
use Rattle.pef_core.specs.Course.{Force}
use Rattle.pef_core.specs.Values.{Now, Values, stamp_at, force_of}
use Rattle.pef_core.specs.Replies.{runs_alert, answer}
use Rattle.pef_core.specs.Deeds.{event_deed, reply_deed, frame_deed, told_deed, item_deed, deed, standing}
use Rattle.pef_core.specs.After.{work_of, begin_with, begin_jobs_now, begun, with_deed, may_begin_now, with_next_job, values_after}
use Rattle.pef_core.specs.Histories.{running_step, due_in, controller_rules}
use Rattle.pef_core.specs.Left.{now_left, left}
use Rattle.pef_core.specs.View.{shown, ShowsController}
use Rattle.pef_core.proofs.LeftSteps.{none_is, not_true, none_of_what_runs, no_reply}
use Rattle.pef_core.proofs.Bound.{extra, extra_by, FewOf}
use Rattle.pef_core.proofs.Standing.{standing_next}

-- A ping can have two replies; then nothing of an alert at once is due.
abbrev pub CanFollow : Values → Type 0
CanFollow v = (length v.replies ≤ 1) ⊎ ((running_step v.own v.now.running ≡ None) ⊎ (runs_alert v.now.running ≡ false))

pub record FewReplies (v : Values) : Type 0 where
  pub most : length v.replies ≤ 2
  pub follows : CanFollow v

begins_no_alert : (f : Force) (stamp : ℕ) (events : List (List ℕ)) (n : Now) → n.running ≡ None → runs_alert (begin_jobs_now f stamp events n).running ≡ false
begins_no_alert f stamp [] n idle = ap runs_alert idle
begins_no_alert f stamp (event ∷ events) n idle = by (λ n idle. begins_no_alert f stamp events n idle) (first_turn (work_of f (n.mark + 1) event).job)
  where
    by : ((n : Now) → n.running ≡ None → runs_alert (begin_jobs_now f stamp events n).running ≡ false) → (o : Option Turn)
        → runs_alert (begin_with (begin_jobs_now f stamp events) (n.mark + 1) (work_of f (n.mark + 1) event) stamp o n).running ≡ false
    by others None = others (record n { mark = n.mark + 1 }) idle
    by others (Some turn) = refl

one_or_two : (n : ℕ) → n ≤ 2 → (n ≤ 1) ⊎ (n ≡ 2)
one_or_two n most = by (nat_lt n 2) refl
  where
    by : (b : Bool) → nat_lt n 2 ≡ b → (n ≤ 1) ⊎ (n ≡ 2)
    by true is = inl (omega (arith, ltb-true n 2 is))
    by false is = inr (omega (arith, most, ltb-false n 2 is))

-- a frame that acknowledges nothing leaves what runs, or a record's job begins
ping_follows : (v : Values) (replies : List Step) → running_step v.own v.now.running ≡ None → CanFollow (with_next_job (with_deed (Framed replies None) v))
ping_follows v replies none = inr (by (not (is_some v.now.running) && may_begin_now v) refl)
  where
    w : Values
    w = with_deed (Framed replies None) v

    by : (b : Bool) → (not (is_some v.now.running) && may_begin_now v) ≡ b
        → (running_step (cond b (begun w) w).own (cond b (begun w) w).now.running ≡ None) ⊎ (runs_alert (cond b (begun w) w).now.running ≡ false)
    by false is = inl none
    by true is =
        let idle = none_is v.now.running (not_true (is_some v.now.running) (and_parts (not (is_some v.now.running)) (may_begin_now v) is).0) in
        inr (begins_no_alert (force_of w) (stamp_at w.ticks) (drop w.now.mark w.records) w.now idle)

keeps_replies : (v : Values) → (with_next_job v).replies ≡ v.replies
keeps_replies v = by (not (is_some v.now.running) && may_begin_now v)
  where
    by : (b : Bool) → (cond b (begun v) v).replies ≡ v.replies
    by true = refl
    by false = refl

-- no reply is due behind another item, and one at most behind an outcome
few_by : (v : Values) → length v.replies ≤ 1 → FewReplies (with_next_job v)
few_by v one = record { most = omega (arith, one, ap length (keeps_replies v)); follows = inl (omega (arith, one, ap length (keeps_replies v))) }

frame_few : (v : Values) (a : Answered) → running_step v.own v.now.running ≡ None → IsShort a → FewReplies (values_after (frame_deed a) v)
frame_few v a none short = record { most = omega (arith, short.at_most, ap length (keeps_replies w)); follows = by (one_or_two (length a.replies) short.at_most) }
  where
    w : Values
    w = with_deed (frame_deed a) v

    by : (length a.replies ≤ 1) ⊎ (length a.replies ≡ 2) → CanFollow (with_next_job w)
    by (inl one) = inl (omega (arith, one, ap length (keeps_replies w)))
    by (inr two) = subst (λ ack. CanFollow (with_next_job (with_deed (Framed a.replies ack) v))) (sym (short.two two)) (ping_follows v a.replies none)

event_few : (bad : Option RecordFault) (full : Option LogFault) (event : List ℕ) (v : Values) → length v.replies ≤ 1 → FewReplies (values_after (event_deed bad full event) v)
event_few (Some fault) full event v one = few_by (with_deed (event_deed (Some fault) full event) v) one
event_few None (Some fault) event v one = few_by (with_deed (event_deed None (Some fault) event) v) one
event_few None None event v one = few_by (with_deed (event_deed None None event) v) one

item_few : (v : Values) (item : Item) → due_in v ≡ None → FewReplies (values_after (item_deed v item) v)
item_few v item none = by item
  where
    one : length v.replies ≤ 1
    one = omega (arith, ap length (no_reply v.replies (running_step v.own v.now.running) none))

    by : (item : Item) → FewReplies (values_after (item_deed v item) v)
    by (Event event) = event_few (record_fault event) (add_fault v.records event) event v one
    by (Command asked) = few_by (with_deed (reply_deed (answer v asked)) v) one
    by (Frame from octets) = frame_few v (answered from octets) (none_of_what_runs v.replies (running_step v.own v.now.running) none) (are_short from octets)
    by Tick = few_by (with_deed Ticked v) one
    by Power = few_by (with_deed Powered v) one
    by (Open id count) = few_by (with_deed Passed v) one
    by Close = few_by (with_deed Passed v) one

told_few : (v : Values) (told : Told) (replies : List Step) → v.replies ≡ replies → FewReplies v → FewReplies (values_after (told_deed replies told) v)
told_few v told [] is few = few_by (with_deed (WasTold told) v) (omega (arith, ap length is))
told_few v told (reply ∷ replies) is few = few_by (with_deed ReplySent v) (omega (arith, length-drop 1 v.replies, few.most))

few_next : (Z : List ℕ) (H : List (Entry Item)) (entry : Entry Item) → FewReplies (standing Z H) → Allowed controller_rules Z H entry → FewReplies (standing Z (H ++ entry ∷ []))
few_next Z H entry few allowed = subst (λ v. FewReplies v) (sym (standing_next Z H entry)) (by entry allowed)
  where
    by : (entry : Entry Item) → Allowed controller_rules Z H entry → FewReplies (values_after (deed (standing Z H) entry) (standing Z H))
    by (Taken item) allowed = item_few (standing Z H) item allowed.0
    by (Outcome told) allowed = told_few (standing Z H) told (standing Z H).replies refl few

few_from : (Z : List ℕ) (H K : List (Entry Item)) → FewReplies (standing Z H) → LawfulFrom controller_rules Z H K → FewReplies (standing Z (H ++ K))
few_from Z H [] few lawful = subst (λ G. FewReplies (standing Z G)) (sym (append-nil H)) few
few_from Z H (entry ∷ K) few lawful =
    subst (λ G. FewReplies (standing Z G)) (append_assoc H (entry ∷ []) K) (few_from Z (H ++ entry ∷ []) K (few_next Z H entry few lawful.0) lawful.1)

few_replies : (Z : List ℕ) (H : List (Entry Item)) → Lawful controller_rules Z H → FewReplies (standing Z H)
few_replies Z H lawful = few_from Z [] H (record { most = omega arith; follows = inl (omega arith) }) lawful

-- a record's job has nothing beside its 18
no_extra : (number : Option ℕ) (r : Running) → not (is_some number) ≡ false → extra_by number r ≡ 0
no_extra None r no_alert = absurd (cc no_alert)
no_extra (Some number) r no_alert = refl

-- what is left of a controller, where this runs
module _ (c : Controller) (r : Running) (some : c.running ≡ Some r) where
  free : left (shown c) ≡ length c.replies + now_left (Some r) c.mark (length c.log)
  free = ap (λ o. length c.replies + now_left o c.mark (length c.log)) some

  pub few_left : FewOf r c.mark (length c.log) → left (shown c) ≤ 18 * (length c.log - c.mark) + 1 + length c.replies
  few_left few = omega (arith, free, few.bound, few.one)

  pub few_always : FewOf r c.mark (length c.log) → FewReplies (shown c) → left (shown c) ≤ 18 * (length c.log - c.mark) + 2
  few_always few replies = by replies.follows
    where
      none_extra : extra r ≡ 0 → left (shown c) ≤ 18 * (length c.log - c.mark) + 2
      none_extra none = omega (arith, free, few.bound, none, replies.most)

      by : CanFollow (shown c) → left (shown c) ≤ 18 * (length c.log - c.mark) + 2
      by (inl one) = omega (arith, free, few.bound, few.one, one)
      by (inr (inl none)) = none_extra (few.waits c.own (ap (running_step c.own) (sym some) ∙ none))
      by (inr (inr no_alert)) = none_extra (no_extra r.work.number r (ap runs_alert (sym some) ∙ no_alert))

pub replies_are_few : (c : Controller) (Z : List ℕ) (H : List (Entry Item)) → Lawful controller_rules Z H → ShowsController c Z H → FewReplies (shown c)
replies_are_few c Z H lawful shows = subst (λ v. FewReplies v) (sym shows.values_are) (few_replies Z H lawful)

pub none_runs : (c : Controller) → c.running ≡ None → left (shown c) ≡ 18 * (length c.log - c.mark) + length c.replies
none_runs c none = omega (arith, ap (λ o. now_left o c.mark (length c.log)) none)
