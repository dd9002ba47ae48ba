-- What a command does fits what runs: an alert at once begins where nothing runs, the log is cleared where nothing runs, and the mark is moved
-- where no record's job runs.
use Rattle.std.proofs.Common.{◌≡◌, ℕ, Bool, true, false, cond, eqb, List, [], ◌∷◌, Option, Some, None, refl, ◌∙◌}
use Rattle.std.specs.Prelude.{⊤, ◌||◌, ◌&&◌, nat_lt, not, is_some, length, Result, Ok, Err}
use Rattle.pef_commands.specs.Parsing.{parsed}
use Rattle.pef_commands.specs.declared.command.Command as command
use Rattle.pef_commands.specs.declared.command.Command.TheVariants as commands
use Rattle.pef_engine.specs.declared.entry.Entry.{Entry}
use Rattle.pef_engine.specs.declared.entry.Entry.TheVariants.{Item as Taken, Outcome}
use Rattle.event_record.specs.declared.fault.RecordFault.{RecordFault}
use Rattle.event_record.specs.declared.fault.LogFault.{LogFault}
use Rattle.event_record.specs.Rules.{record_fault}
use Rattle.event_record.specs.Log.{add_fault}
use Rattle.pef_config.specs.Rows.{answer_if, set_code}
use Rattle.pef_match.specs.declared.target.Target.{Target}
use Rattle.job_course.specs.declared.turn.Turn.{Turn}
use Rattle.job_course.specs.Undertaking.{Undertaking, turn_of, is_running}
use Rattle.job_course.specs.Running.{Running}
use Rattle.pef_core.specs.declared.item.Item.{Item}
use Rattle.pef_core.specs.declared.item.Item.TheVariants.{Event, Command, Frame, Tick, Power, Open, Close}
use Rattle.pef_core.specs.Past.{Effect, Unchanged, SetPef, SetLan, Acked, Armed, Marked, SoftwareMarked, Cleared, Sends, StatusCleared, Deed, effect_of, ticks}
use Rattle.pef_core.specs.Course.{guid_by, is_busy, course}
use Rattle.pef_core.specs.Values.{Values, running_at, running, values, force_of}
use Rattle.board_core.specs.declared.step.Step.{Step}
use Rattle.board_core.specs.declared.step.Told.{Told}
use Rattle.pef_core.specs.Deeds.{event_deed, told_deed, deed}
use Rattle.lan_dest.specs.Rows as lan_rows
use Rattle.pef_config.specs.Places.{our_sizes, write}
use Rattle.pef_match.specs.AtOnce.{target_at_once}
use Rattle.pef_core.specs.Replies.{Answer, refusal, telling, done_with, timer_octet, armed_by, runs_job, runs_alert, set_last, send_to, cleared, clear, answer_by, is_no_string, is_held}
use Rattle.pef_core.proofs.Standing.{busy_is}

-- what runs, if anything, is no record's job
abbrev pub NoJob : List Undertaking → Type 0
NoJob [] = ⊤
NoJob (u ∷ us) = is_running u ≡ true → u.number ≡ None

abbrev pub Fits : Effect → List Undertaking → Type 0
Fits (Sends target guid) us = is_busy us ≡ false
Fits Cleared us = is_busy us ≡ false
Fits (Marked id) us = NoJob us
Fits effect us = ⊤

-- the same, by what runs
abbrev FitsNow : Effect → Option Running → Type 0
FitsNow (Sends target guid) o = is_some o ≡ false
FitsNow Cleared o = is_some o ≡ false
FitsNow (Marked id) o = runs_job o ≡ false
FitsNow effect o = ⊤

module _ (v : Values) where
  abbrev r : Option Running
  r = v.now.running

  cond_fits : (b : Bool) (one other : Answer) → FitsNow one.effect r → FitsNow other.effect r → FitsNow (cond b one other).effect r
  cond_fits true one other fit_one fit_other = fit_one
  cond_fits false one other fit_one fit_other = fit_other

  -- a check that refuses, and what comes after it
  if_fits : (b : Bool) (code : ℕ) (rest : Answer) → (b ≡ false → FitsNow rest.effect r) → FitsNow (answer_if b (refusal code) rest).effect r
  if_fits true code rest fit = tt
  if_fits false code rest fit = fit refl

  effect_fits : (b : Bool) (effect : Effect) → FitsNow effect r → FitsNow (cond b effect Unchanged) r
  effect_fits true effect fit = fit
  effect_fits false effect fit = tt

  last_fits : (bmc : Bool) (id : ℕ) → FitsNow (set_last v bmc id).effect r
  last_fits bmc id =
      if_fits (bmc && runs_job r) 0xD5 (answer_if (not (is_held v.records id)) (refusal 0xCB) (done_with (cond bmc (Marked id) (SoftwareMarked id)))) (
      λ none. if_fits (not (is_held v.records id)) 0xCB (done_with (cond bmc (Marked id) (SoftwareMarked id))) (λ held. by bmc none))
    where
      by : (bmc : Bool) → (bmc && runs_job r) ≡ false → FitsNow (cond bmc (Marked id) (SoftwareMarked id)) r
      by true none = none
      by false none = tt

  send_to_fits : (target : Option Target) → FitsNow (send_to v target).effect r
  send_to_fits None = tt
  send_to_fits (Some target) = if_fits (is_some r) 0x81 (done_with (Sends target (guid_by (force_of v)))) (λ none. none)

  clear_fits : FitsNow (clear v).effect r
  clear_fits = if_fits (nat_lt v.now.mark (length v.records) || is_some r) 0xD5 (record { octets = 0x00 ∷ cleared; effect = Cleared }) (
      by (nat_lt v.now.mark (length v.records)))
    where
      by : (b : Bool) → (b || is_some r) ≡ false → is_some r ≡ false
      by true none = absurd (cc none)
      by false none = none

  command_fits : (result : Result command.Command ℕ) → FitsNow (answer_by v result).effect r
  command_fits (Err code) = tt
  command_fits (Ok commands.Capabilities) = tt
  command_fits (Ok (commands.Postpone octet)) =
      cond_fits (eqb octet 0xFF) (telling (timer_octet v.postpone ∷ [])) (record { octets = 0x00 ∷ timer_octet (armed_by octet) ∷ []; effect = Armed (armed_by octet) }) tt tt
  command_fits (Ok (commands.SetPef parameter payload)) = effect_fits (eqb (set_code our_sizes v.pef parameter payload) 0) (SetPef (write parameter payload)) tt
  command_fits (Ok (commands.GetPef parameter revision_only set block)) = tt
  command_fits (Ok (commands.SetLast bmc id)) = last_fits bmc id
  command_fits (Ok commands.GetLast) = tt
  command_fits (Ok (commands.Send channel destination string)) =
      let target = target_at_once our_sizes v.pef v.lan v.own.ports channel destination string in
      if_fits (is_no_string string) 0xC9 (send_to v target) (λ some. send_to_fits target)
  command_fits (Ok commands.SendStatus) = tt
  command_fits (Ok commands.SendClear) = if_fits (runs_alert r) 0xD5 (done_with StatusCleared) (λ none. tt)
  command_fits (Ok (commands.Acknowledge ack)) = tt
  command_fits (Ok (commands.SetLan channel parameter payload)) =
      effect_fits (eqb (lan_rows.set_code channel parameter payload) 0) (SetLan (record { channel = channel; parameter = parameter; payload = payload })) tt
  command_fits (Ok (commands.GetLan channel parameter revision_only set)) = tt
  command_fits (Ok commands.ClearSel) = clear_fits
  command_fits (Ok commands.ClearStatus) = tt

  event_fits : (bad : Option RecordFault) (full : Option LogFault) (event : List ℕ) → FitsNow (effect_of (event_deed bad full event)) r
  event_fits (Some fault) full event = tt
  event_fits None (Some fault) event = tt
  event_fits None None event = tt

  told_fits : (replies : List Step) (told : Told) → FitsNow (effect_of (told_deed replies told)) r
  told_fits [] told = tt
  told_fits (reply ∷ replies) told = tt

  deed_fits : (entry : Entry Item) → FitsNow (effect_of (deed v entry)) r
  deed_fits (Taken (Event event)) = event_fits (record_fault event) (add_fault v.records event) event
  deed_fits (Taken (Command asked)) = command_fits (parsed asked)
  deed_fits (Taken (Frame from octets)) = tt
  deed_fits (Taken Tick) = tt
  deed_fits (Taken Power) = tt
  deed_fits (Taken (Open id count)) = tt
  deed_fits (Taken Close) = tt
  deed_fits (Outcome told) = told_fits v.replies told

-- what runs is the latest undertaking
no_job : (now : ℕ) (us : List Undertaking) → runs_job (running now us) ≡ false → NoJob us
no_job now [] none = tt
no_job now (u ∷ us) none = λ runs. by (turn_of u) runs none
  where
    none_is : (number : Option ℕ) → is_some number ≡ false → number ≡ None
    none_is None is = refl
    none_is (Some n) is = absurd (cc is)

    by : (o : Option Turn) → is_some o ≡ true → runs_job (running_at now u o) ≡ false → u.number ≡ None
    by None runs none = absurd (cc runs)
    by (Some turn) runs none = none_is u.number none

pub fits : (Z : List ℕ) (past : List Deed) (entry : Entry Item) → Fits (effect_of (deed (values Z past) entry)) (course Z past).undertakings
fits Z past entry = by (effect_of (deed (values Z past) entry)) (deed_fits (values Z past) entry)
  where
    us : List Undertaking
    us = (course Z past).undertakings

    by : (effect : Effect) → FitsNow effect (running (ticks past) us) → Fits effect us
    by (Sends target guid) fit = busy_is (ticks past) us ∙ fit
    by Cleared fit = busy_is (ticks past) us ∙ fit
    by (Marked id) fit = no_job (ticks past) us fit
    by Unchanged fit = tt
    by (SetPef write) fit = tt
    by (SetLan write) fit = tt
    by (Acked ack) fit = tt
    by (Armed timer) fit = tt
    by (SoftwareMarked id) fit = tt
    by StatusCleared fit = tt
