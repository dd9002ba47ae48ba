-- One run behind another, and what one call adds.
use Rattle.std.proofs.Common.{◌≡◌, inl, inr, ⊎_elim, ◌≤◌, ◌+◌, length, arith, ℕ, List, [], ◌∷◌, ◌++◌, Option, Some, None, IsTrue, is_some, refl, sym, ◌∙◌, ap, subst, append_assoc, Result, Ok, Err, IsErr, IsErrOf}
use Rattle.std.specs.Prelude.{◌↔◌, IsSome, OnOk, OnErr}
use Rattle.std.proofs.lemmas.List.{append-nil, map-append}
use Rattle.board_core.specs.Causes.{HasCause}
use Rattle.board_core.specs.declared.step.Step.{Step}
use Rattle.board_core.specs.declared.step.Told.{Told}
use Rattle.board_core.specs.declared.step.Sent.{Sent}
use Rattle.board_core.specs.Board.{BoardView, CrashState, IsSound, LeavesOnly, steps_of, tolds_of}
use Rattle.board_core.specs.Source.{Appends}
use Rattle.pef_engine.specs.declared.entry.Entry.{Entry}
use Rattle.pef_engine.specs.declared.entry.Entry.TheVariants.{Item, Outcome}
use Rattle.pef_engine.specs.Rules.{Allowed, Lawful, Stands}
use Rattle.pef_engine.specs.MachineView.{Agrees, GoesOn}
use Rattle.pef_engine.specs.CrashFree.{LeavesPrefix, prescribed, option_list, items_of, entry_items, entry_tolds, IsPrefixOf}
use Rattle.pef_engine.specs.Engine.{Holds, Settled, AfterSettle, HasRoomForOutcome, IsLive, HasPlace}
use Rattle.pef_engine.specs.Engine as engine
use Rattle.pef_engine.proofs.Prefixes.{prescribed-append}
use Rattle.pef_engine.proofs.Stored.{images_stand, nothing_moments, lawful-append}
use Rattle.pef_engine.proofs.Compose.{lawful_compose, leaves_behind}
use Rattle.pef_journal.proofs.Moments.{leaves_compose, leaves_map}
use Rattle.script_run.specs.declared.stop.StepStop.{StepStop}
use Rattle.script_run.specs.declared.stop.StepStop.TheVariants.{Disk, Output, Full, Memory}
use Rattle.script_run.specs.Report.{says, outcome_line}
use Rattle.script_run.specs.Room.{IsTooMuch}
use Rattle.script_run.specs.Going.{Kind, World, report, ComesNext, Came, LacksNext, Went, stop_in, Goes}
use Rattle.script_run.proofs.Shared.{entry_items-append, entry_tolds-append, room_compose, report-append, few_entries, had_room, err_is}

pub some_is : {A : Type 0} {a b : A} → Some a ≡ Some b → a ≡ b
some_is e = cc e

only_out : (r : Result Unit StepStop) → (IsErr r → IsErrOf r Output) → (stop : StepStop) → stop_in r ≡ Some stop → stop ≡ Output
only_out (Ok t) out stop e = absurd (cc e)
only_out (Err s) out stop e = sym (some_is e) ∙ err_is (out refl)

-- what a sink took of a line: all of it, or a part where it failed
record Says (line : List ℕ) (before after : Option (List ℕ)) (result : Result Unit StepStop) : Type 0 where
  said : List ℕ
  written : (text : List ℕ) → before ≡ Some text → after ≡ Some (text ++ said)
  is_part : IsPrefixOf said line
  whole : (stop_in result ≡ Some Output → ⊥) → said ≡ line
  only : (stop : StepStop) → stop_in result ≡ Some stop → stop ≡ Output

says_of : (line : List ℕ) (before after : Option (List ℕ)) (result : Result Unit StepStop) → Appends line before after result → (IsErr result → IsErrOf result Output) → Says line before after result
says_of line (Some old) (Some new) (Ok t) appends out = record {
  said = line;
  written = λ text is. ap Some (appends ∙ ap (λ l. l ++ line) (some_is is));
  is_part = ([], append-nil line);
  whole = λ not. refl;
  only = λ stop e. absurd (cc e);
}
says_of line (Some old) (Some new) (Err stop) appends out = record {
  said = appends.0;
  written = λ text is. ap Some (appends.3 ∙ ap (λ l. l ++ appends.0) (some_is is));
  is_part = (appends.1, appends.2);
  whole = λ not. absurd (not (ap Some (err_is (out refl))));
  only = λ s e. sym (some_is e) ∙ err_is (out refl);
}
says_of line None None result appends out = record {
  said = line;
  written = λ text is. absurd (cc is);
  is_part = ([], append-nil line);
  whole = λ not. refl;
  only = only_out result out;
}
says_of line (Some old) None result appends out = absurd appends
says_of line None (Some new) result appends out = absurd appends

module _ {I M : Type 0} (k : Kind I M) (Z : List ℕ) where
  came_none : {H : List (Entry I)} {old new : World I M} → Holds k.rules k.view Z H new.board new.engine → new.board.sent ≡ old.board.sent → Came k Z H [] old new
  came_none {H} {old} {new} holds sent = record {
    holds = subst (λ G. Holds k.rules k.view Z G new.board new.engine) (sym (append-nil H)) holds;
    steps = [];
    issued = ap steps_of sent ∙ sym (append-nil (steps_of old.board.sent));
    told = ap tolds_of sent ∙ sym (append-nil (tolds_of old.board.sent));
    prescribes = ap (prescribed k.rules Z) (append-nil H) ∙ sym (append-nil (prescribed k.rules Z H));
  }

  pub came_item : {H : List (Entry I)} {old new : World I M} (item : I) → Holds k.rules k.view Z (H ++ Item item ∷ []) new.board new.engine → new.board.sent ≡ old.board.sent → Came k Z H (Item item ∷ []) old new
  came_item {H} {old} {new} item holds sent = record {
    holds = holds;
    steps = [];
    issued = ap steps_of sent ∙ sym (append-nil (steps_of old.board.sent));
    told = ap tolds_of sent ∙ sym (append-nil (tolds_of old.board.sent));
    prescribes = prescribed-append k.rules Z H (Item item ∷ []);
  }

  pub came_outcome : {H : List (Entry I)} {old new : World I M} (told : Told) → Settled k.rules k.view Z H old.board new.board new.engine (Some told) → Came k Z H (Outcome told ∷ []) old new
  came_outcome {H} {old} {new} told settled =
      let one : Sent = record { step = settled.0; told = told } in record {
        holds = settled.3;
        steps = settled.0 ∷ [];
        issued = ap steps_of settled.2 ∙ map-append (λ (s : Sent). s.step) old.board.sent (one ∷ []);
        told = ap tolds_of settled.2 ∙ map-append (λ (s : Sent). s.told) old.board.sent (one ∷ []);
        prescribes = prescribed-append k.rules Z H (Outcome told ∷ []) ∙ ap (λ o. prescribed k.rules Z H ++ (option_list o ++ [])) settled.1;
      }

  came_then : {H K L : List (Entry I)} {old mid new : World I M} → Came k Z H K old mid → Came k Z (H ++ K) L mid new → Came k Z H (K ++ L) old new
  came_then {H} {K} {L} {old} {mid} {new} p q = record {
    holds = subst (λ G. Holds k.rules k.view Z G new.board new.engine) (append_assoc H K L) q.holds;
    steps = p.steps ++ q.steps;
    issued = q.issued ∙ ap (λ l. l ++ q.steps) p.issued ∙ append_assoc (steps_of old.board.sent) p.steps q.steps;
    told = q.told ∙ ap (λ l. l ++ entry_tolds L) p.told ∙ append_assoc (tolds_of old.board.sent) (entry_tolds K) (entry_tolds L) ∙ ap (λ l. tolds_of old.board.sent ++ l) (sym (entry_tolds-append K L));
    prescribes = ap (prescribed k.rules Z) (sym (append_assoc H K L)) ∙ q.prescribes ∙ ap (λ l. l ++ q.steps) p.prescribes ∙ append_assoc (prescribed k.rules Z H) p.steps q.steps;
  }

  pub more_items : (H : List (Entry I)) (start : BoardView) (items more : List I) (left : CrashState) → LeavesPrefix k.rules Z H start.sent items left → LeavesPrefix k.rules Z H start.sent (items ++ more) left
  more_items H start items more left here =
      leaves_behind k.rules Z H [] start start [] (items ++ more) items more left tt refl (sym (append-nil (steps_of start.sent))) (sym (append-nil (tolds_of start.sent)))
      (ap (prescribed k.rules Z) (append-nil H) ∙ sym (append-nil (prescribed k.rules Z H))) (subst (λ h. LeavesPrefix k.rules Z h start.sent items left) (sym (append-nil H)) here)

  pub taken_all : {H : List (Entry I)} {old new : World I M} {items : List I} (p : Went k Z H old new items None) → entry_items p.entries ≡ items
  taken_all p = sym (append-nil (entry_items p.entries)) ∙ ap (λ r. entry_items p.entries ++ r) (sym (p.all refl)) ∙ p.taken

  -- nothing has been done
  pub went_nothing : {H : List (Entry I)} {w : World I M} → IsSound w.board → IsTrue w.board.tells → Holds k.rules k.view Z H w.board w.engine → Went k Z H w w [] None
  went_nothing {H} {w} sound tells holds = record {
    entries = [];
    rest = [];
    said = [];
    taken = refl;
    lawful = tt;
    room = tt;
    moments = nothing_moments k.rules Z H w.board [] sound tells (images_stand _ _ _ w.board w.engine.journal holds.stored);
    written = λ text is. is ∙ ap Some (sym (append-nil text));
    all = λ e. refl;
    came = λ not. came_none holds refl;
    lost = λ e. absurd (cc e);
    full = λ e. absurd (cc e);
    whole = λ not. refl;
    cut = λ e. absurd (cc e);
  }

  -- one entry is stored, and the sink took its line or a part
  pub went_stored : {H : List (Entry I)} {old new : World I M} (e : Entry I) (result : Result Unit StepStop) → Allowed k.rules Z H e → Came k Z H (e ∷ []) old new → (IsTooMuch k.rules Z H e → ⊥)
      → LeavesOnly old.board new.board (LeavesPrefix k.rules Z H old.board.sent (items_of e)) → Appends (says k.rules k.scripts Z H e) old.written new.written result → (IsErr result → IsErrOf result Output)
      → Went k Z H old new (items_of e) (stop_in result)
  went_stored {H} {old} {new} e result allowed came room moments appends out =
      let line = says k.rules k.scripts Z H e in
      let s = says_of line old.written new.written result appends out in record {
        entries = e ∷ [];
        rest = [];
        said = s.said;
        taken = one e;
        lawful = (allowed, tt);
        room = (room, tt);
        moments = moments;
        written = s.written;
        all = λ e. refl;
        came = λ not. came;
        lost = λ e. absurd (cc (s.only Disk e));
        full = λ e. absurd (cc (s.only Full e));
        whole = λ not. s.whole not ∙ sym (append-nil line);
        cut = λ is. record {
          fewer = [];
          last = e;
          part = s.said;
          split = refl;
          ends = refl;
          is_part = subst (λ G. IsPrefixOf s.said (says k.rules k.scripts Z G e)) (sym (append-nil H)) s.is_part;
        };
      }
    where
      one : (e : Entry I) → entry_items (e ∷ []) ++ [] ≡ items_of e
      one (Item item) = refl
      one (Outcome told) = refl

  -- a call of the engine failed
  pub went_failed : {H : List (Entry I)} {old new : World I M} {items : List I} (stop : StepStop) → new.written ≡ old.written → LeavesOnly old.board new.board (LeavesPrefix k.rules Z H old.board.sent items) → IsSound new.board → IsTrue new.board.tells
      → ((tolds : List Told) → tolds_of new.board.sent ≡ tolds_of old.board.sent ++ tolds → length items + length tolds ≤ 1)
      → ((stop ≡ Disk → ⊥) → Holds k.rules k.view Z H new.board new.engine × (new.board.sent ≡ old.board.sent)) → (stop ≡ Full → LacksNext k Z H items) → (stop ≡ Output → ⊥) → Went k Z H old new items (Some stop)
  went_failed {H} {old} {new} {items} stop same moments sound tells few held full out = record {
    entries = [];
    rest = items;
    said = [];
    taken = refl;
    lawful = tt;
    room = tt;
    moments = moments;
    written = λ text is. same ∙ is ∙ ap Some (sym (append-nil text));
    all = λ e. absurd (cc e);
    came = λ not. let h = held (λ e. not (ap Some e)) in came_none h.0 h.1;
    lost = λ e c now.
        let state : CrashState = record { image = c; issued = steps_of new.board.sent; told = tolds_of new.board.sent } in
        let left = moments.each state (sound.counts_now tells old.board.moment state moments.later (record { image = now; issued = refl; told = refl })) in
        (left.entries, few_entries k.rules Z H items left.entries left.tolds left.is_prefix (few left.tolds left.told), left.stands);
    full = λ e. subst (λ G. LacksNext k Z G items) (sym (append-nil H)) (full (some_is e));
    whole = λ not. refl;
    cut = λ e. absurd (out (some_is e));
  }

  -- THE COMPOSITION LEMMA: one run behind another, however that one ended
  pub went_then : {H : List (Entry I)} {old mid new : World I M} {items more : List I} {stop : Option StepStop} (p : Went k Z H old mid items None) → Went k Z (H ++ p.entries) mid new more stop → Went k Z H old new (items ++ more) stop
  went_then {H} {old} {mid} {new} {items} {more} {stop} p q =
      let c = p.came (λ e. cc e) in
      let said = p.whole (λ e. cc e) in
      let all = taken_all p in record {
        entries = p.entries ++ q.entries;
        rest = q.rest;
        said = p.said ++ q.said;
        taken = ap (λ i. i ++ q.rest) (entry_items-append p.entries q.entries ∙ ap (λ i. i ++ entry_items q.entries) all) ∙ append_assoc items (entry_items q.entries) q.rest ∙ ap (λ i. items ++ i) q.taken;
        lawful = lawful_compose k.rules Z H p.entries q.entries p.lawful q.lawful;
        room = room_compose k.rules Z H p.entries q.entries p.room q.room;
        moments = leaves_compose old.board mid.board new.board (LeavesPrefix k.rules Z H old.board.sent (items ++ more)) (LeavesPrefix k.rules Z (H ++ p.entries) mid.board.sent more)
            (leaves_map old.board mid.board (LeavesPrefix k.rules Z H old.board.sent items) (LeavesPrefix k.rules Z H old.board.sent (items ++ more)) (λ left. more_items H old.board items more left) p.moments) q.moments
            (λ left. leaves_behind k.rules Z H p.entries old.board mid.board c.steps (items ++ more) more [] left p.lawful
            (ap (λ l. l ++ more) (sym all) ∙ ap (λ l. entry_items p.entries ++ l) (sym (append-nil more))) c.issued c.told c.prescribes);
        written = λ text is. q.written (text ++ p.said) (p.written text is) ∙ ap Some (append_assoc text p.said q.said);
        all = q.all;
        came = λ not. came_then c (q.came not);
        lost = λ e image now. let s = q.lost e image now in (s.0, s.1, subst (λ G. Stands k.rules Z G image) (append_assoc H p.entries (q.entries ++ s.0) ∙ ap (λ K. H ++ K) (sym (append_assoc p.entries q.entries s.0))) s.2);
        full = λ e. subst (λ G. LacksNext k Z G q.rest) (append_assoc H p.entries q.entries) (q.full e);
        whole = λ not. ap (λ s. s ++ q.said) said ∙ ap (λ s. report k Z H p.entries ++ s) (q.whole not) ∙ sym (report-append (says k.rules k.scripts) Z H p.entries q.entries);
        cut = λ e. let x = q.cut e in record {
          fewer = p.entries ++ x.fewer;
          last = x.last;
          part = x.part;
          split = ap (λ K. p.entries ++ K) x.split ∙ sym (append_assoc p.entries x.fewer (x.last ∷ []));
          ends = ap (λ s. s ++ q.said) said ∙ ap (λ s. report k Z H p.entries ++ s) x.ends ∙ sym (append_assoc (report k Z H p.entries) (report k Z (H ++ p.entries) x.fewer) x.part)
              ∙ ap (λ s. s ++ x.part) (sym (report-append (says k.rules k.scripts) Z H p.entries x.fewer));
          is_part = subst (λ G. IsPrefixOf x.part (says k.rules k.scripts Z G x.last)) (append_assoc H p.entries x.fewer) x.is_part;
        };
      }

  pub comes_more : (G : List (Entry I)) (items more : List I) (e : Entry I) → ComesNext k.rules Z G items e → ComesNext k.rules Z G (items ++ more) e
  comes_more G items more (Item item) comes = (comes.0, comes.1 ++ more, ap (λ l. l ++ more) comes.2)
  comes_more G items more (Outcome told) comes = comes

  -- where it stopped, more items may have been to come
  pub went_more : {H : List (Entry I)} {old new : World I M} {items : List I} {stop : StepStop} (more : List I) → Went k Z H old new items (Some stop) → Went k Z H old new (items ++ more) (Some stop)
  went_more {H} {old} {new} {items} {stop} more p = record {
    entries = p.entries;
    rest = p.rest ++ more;
    said = p.said;
    taken = sym (append_assoc (entry_items p.entries) p.rest more) ∙ ap (λ i. i ++ more) p.taken;
    lawful = p.lawful;
    room = p.room;
    moments = leaves_map old.board new.board (LeavesPrefix k.rules Z H old.board.sent items) (LeavesPrefix k.rules Z H old.board.sent (items ++ more)) (λ left. more_items H old.board items more left) p.moments;
    written = p.written;
    all = λ e. absurd (cc e);
    came = p.came;
    lost = p.lost;
    full = λ e. let f = p.full e in record { next = f.next; comes = comes_more (H ++ p.entries) p.rest more f.next f.comes; too_much = f.too_much };
    whole = p.whole;
    cut = p.cut;
  }

-- the counts of one run behind another
pub counts_then : {old mid new : BoardView} {first second : Type 0} → engine.Counts old mid first → (first → ⊥) → engine.Counts mid new second → engine.Counts old new second
counts_then {old} {mid} {new} p calm q = record {
  tells = λ t. p.tells (q.tells t);
  goes_on = λ t. ⊎_elim (λ m. ⊎_elim inl (λ rose. inr (omega (arith, p.issue_later, rose))) (q.goes_on m)) (λ rose. inr (omega (arith, rose, q.issue_later))) (p.goes_on t);
  disk_later = omega (arith, p.disk_later, q.disk_later);
  issue_later = omega (arith, p.issue_later, q.issue_later);
  disk = λ e. omega (arith, p.disk_later, q.disk e);
  same = λ not. q.same not ∙ p.same calm;
}

pub counts_as : {old new : BoardView} {failed other : Type 0} → engine.Counts old new failed → (other → failed) → (failed → other) → engine.Counts old new other
counts_as p to back = record { tells = p.tells; goes_on = p.goes_on; disk_later = p.disk_later; issue_later = p.issue_later; disk = λ e. p.disk (to e); same = λ not. p.same (λ e. not (back e)) }

module _ {I M : Type 0} (k : Kind I M) where
  -- nothing has been done
  pub goes_nothing : {w : World I M} → IsSound w.board → IsLive w.engine → HasPlace w.board w.engine → Goes k w w [] None
  goes_nothing {w} sound live place = record {
    went = λ tells Z H holds. went_nothing k Z sound tells holds;
    moves = λ none Z H lawful shows. record { entries = []; lawful = subst (λ G. Lawful k.rules Z G) (sym (append-nil H)) lawful; taken = refl; shows = subst ((k.view w.engine.machine).shows Z) (sym (append-nil H)) shows };
    live = λ none. (live, place);
    counts = record {
      board = record { tells = λ t. t; goes_on = λ t. inl t; disk_later = omega arith; issue_later = omega arith; disk = λ e. absurd (cc e); same = λ not. refl };
      later = omega arith;
      output = λ e. absurd (cc e);
      same = λ not. refl;
      memory = λ e. absurd (cc e);
    };
  }

  -- one run behind another, however that one ended
  pub goes_then : {old mid new : World I M} {items more : List I} {stop : Option StepStop} → Goes k old mid items None → Goes k mid new more stop → Goes k old new (items ++ more) stop
  goes_then {old} {mid} {new} {items} {more} {stop} first second = record {
    went = λ tells Z H holds. let p = first.went (second.counts.board.tells tells) Z H holds in went_then k Z p (second.went tells Z (H ++ p.entries) (p.came (λ e. cc e)).holds);
    moves = λ none Z H lawful shows.
        let p = first.moves refl Z H lawful shows in
        let q = second.moves none Z (H ++ p.entries) p.lawful p.shows in record {
          entries = p.entries ++ q.entries;
          lawful = subst (Lawful k.rules Z) (append_assoc H p.entries q.entries) q.lawful;
          taken = entry_items-append p.entries q.entries ∙ ap (λ l. l ++ entry_items q.entries) p.taken ∙ ap (λ l. items ++ l) q.taken;
          shows = subst ((k.view new.engine.machine).shows Z) (append_assoc H p.entries q.entries) q.shows;
        };
    live = second.live;
    counts = record {
      board = counts_then first.counts.board (λ e. cc e) second.counts.board;
      later = omega (arith, first.counts.later, second.counts.later);
      output = λ e. omega (arith, first.counts.later, second.counts.output e);
      same = λ not. second.counts.same not ∙ first.counts.same (λ e. cc e);
      memory = second.counts.memory;
    };
  }

  -- what is left behind two runs is what is left behind the second
  pub goes_then_rest : {old mid new : World I M} {items more : List I} {stop : Option StepStop} (first : Goes k old mid items None) (second : Goes k mid new more stop) (tells : IsTrue new.board.tells) (Z : List ℕ) (H : List (Entry I))
      (holds : Holds k.rules k.view Z H old.board old.engine) → (G : List (Entry I)) × (next : Holds k.rules k.view Z G mid.board mid.engine) × (((goes_then first second).went tells Z H holds).rest ≡ (second.went tells Z G next).rest)
  unfolding goes_then went_then
  goes_then_rest first second tells Z H holds = let p = first.went (second.counts.board.tells tells) Z H holds in (H ++ p.entries, (p.came (λ e. cc e)).holds, refl)

  -- one entry is stored, and the sink took its line or a part
  pub goes_stored : {old new : World I M} {failed : Type 0} (e : Entry I) (result : Result Unit StepStop) → Agrees k.rules (k.view old.engine.machine) → (k.view old.engine.machine).allowed e
      → GoesOn k.rules (k.view old.engine.machine) (k.view new.engine.machine) e
      → (IsTrue new.board.tells → (Z : List ℕ) (H : List (Entry I)) → Holds k.rules k.view Z H old.board old.engine → Came k Z H (e ∷ []) old new × LeavesOnly old.board new.board (LeavesPrefix k.rules Z H old.board.sent (items_of e))
      × Appends (says k.rules k.scripts Z H e) old.written new.written result × (IsTooMuch k.rules Z H e → ⊥)) → (IsErr result → IsErrOf result Output) → IsLive new.engine → HasPlace new.board new.engine
      → engine.Counts old.board new.board failed → (failed → ⊥) → HasCause old.faults new.faults result → Goes k old new (items_of e) (stop_in result)
  goes_stored {old} {new} e result agrees allowed on came out live place counts calm cause = record {
    went = λ t Z H holds. let f = came t Z H holds in went_stored k Z e result ((agrees.allowed Z H e holds.lawful holds.shows).0 allowed) f.0 f.3 f.1 f.2 out;
    moves = λ none Z H lawful shows. record { entries = e ∷ []; lawful = lawful-append k.rules Z H e lawful ((agrees.allowed Z H e lawful shows).0 allowed); taken = one e; shows = on Z H lawful shows };
    live = λ none. (live, place);
    counts = record {
      board = counts_as counts (λ e. absurd (cc (only_out result out Disk e))) (λ f. absurd (calm f));
      later = cause.later;
      output = λ e. rose result cause.failed e;
      same = λ not. same_at result out cause.same not;
      memory = λ e. absurd (cc (only_out result out Memory e));
    };
  }
    where
      one : {J : Type 0} (e : Entry J) → entry_items (e ∷ []) ≡ items_of e
      one (Item item) = refl
      one (Outcome told) = refl

      rose : {P : Type 0} (r : Result Unit StepStop) → OnErr r P → stop_in r ≡ Some Output → P
      rose (Ok t) failed e = absurd (cc e)
      rose (Err s) failed e = failed

      same_at : {P : Type 0} (r : Result Unit StepStop) → (IsErr r → IsErrOf r Output) → OnOk r P → (stop_in r ≡ Some Output → ⊥) → P
      same_at (Ok t) out same not = same
      same_at (Err s) out same not = absurd (not (ap Some (err_is (out refl))))

  -- a call of the engine failed
  pub goes_failed : {old new : World I M} {items : List I} {failed : Type 0} (stop : StepStop) → new.written ≡ old.written → new.faults ≡ old.faults → IsSound new.board
      → (IsTrue new.board.tells → (Z : List ℕ) (H : List (Entry I)) → Holds k.rules k.view Z H old.board old.engine → LeavesOnly old.board new.board (LeavesPrefix k.rules Z H old.board.sent items)
      × ((tolds : List Told) → tolds_of new.board.sent ≡ tolds_of old.board.sent ++ tolds → length items + length tolds ≤ 1)
      × ((stop ≡ Disk → ⊥) → Holds k.rules k.view Z H new.board new.engine × (new.board.sent ≡ old.board.sent)) × (stop ≡ Full → LacksNext k Z H items))
      → (stop ≡ Output → ⊥) → engine.Counts old.board new.board failed → (stop ≡ Disk → failed) → (failed → stop ≡ Disk) → (stop ≡ Memory → IsTrue k.rules.takes_memory)
      → Goes k old new items (Some stop)
  goes_failed stop same same' sound facts out counts to back memory = record {
    went = λ t Z H holds. let f = facts t Z H holds in went_failed k Z stop same f.0 sound t f.1 f.2 f.3 out;
    moves = λ e. absurd (cc e);
    live = λ e. absurd (cc e);
    counts = record {
      board = counts_as counts (λ e. to (some_is e)) (λ f. ap Some (back f));
      later = omega (arith, same');
      output = λ e. absurd (out (some_is e));
      same = λ not. same';
      memory = λ e. memory (some_is e);
    };
  }

  -- one step was settled, and the sink took its line or a part
  pub goes_outcome : {old new : World I M} {failed : Type 0} (told : Told) (answer : Option Told) (step : Option Step) (result : Result Unit StepStop) → answer ≡ Some told → Agrees k.rules (k.view old.engine.machine) → step ≡ (k.view old.engine.machine).due
      → ((answer ≡ None) ↔ ((k.view old.engine.machine).due ≡ None)) → ((given : Told) → answer ≡ Some given → GoesOn k.rules (k.view old.engine.machine) (k.view new.engine.machine) (Outcome given))
      → (IsTrue new.board.tells → (Z : List ℕ) (H : List (Entry I)) → Holds k.rules k.view Z H old.board old.engine → AfterSettle k.rules k.view Z H old.board new.board new.engine (Ok answer))
      → (IsSome answer → HasRoomForOutcome k.rules old.engine) → Appends (outcome_line step told) old.written new.written result → (IsErr result → IsErrOf result Output) → IsLive new.engine → HasPlace new.board new.engine
      → engine.Counts old.board new.board failed → (failed → ⊥) → HasCause old.faults new.faults result → Goes k old new [] (stop_in result)
  goes_outcome {old} {new} told answer step result is agrees now none on settled fits said =
      goes_stored (Outcome told) result agrees ((agrees.outcome told).1 (some_unless (k.view old.engine.machine).due (λ e. cc (none.1 e, is)))) (on told is)
      (λ t Z H holds.
      let after = settled t Z H holds in (
        came_outcome k Z told (subst (Settled k.rules k.view Z H old.board new.board new.engine) is after.settled),
        after.moments,
        subst (λ s. Appends (outcome_line s told) old.written new.written result) (now ∙ agrees.due Z H holds.lawful holds.shows) said,
        had_room k.rules k.view Z H old.board old.engine holds (Outcome told) (fits (ap is_some is) told) (λ over. over),
      ))
    where
      some_unless : {A : Type 0} (o : Option A) → (o ≡ None → ⊥) → IsSome o
      some_unless None none = absurd (none refl)
      some_unless (Some x) none = refl

pub some_of : {A : Type 0} {o p : Option A} → o ≡ p → IsSome o → (x : A) × (p ≡ Some x)
some_of {o = Some x} is some = (x, sym is)
some_of {o = None} is some = absurd (cc some)
