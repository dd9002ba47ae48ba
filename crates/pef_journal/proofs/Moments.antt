-- What a crash leaves while calls follow one another.
use Rattle.std.proofs.Common.{◌≡◌, ◌↔◌, inl, inr, ⊎_elim, ℕ, List, IsTrue, refl, sym, ◌∙◌, ap, arith}
use Rattle.pef_journal.specs.Journal.{LeavesAsRead, LeavesTorn}
use Rattle.board_core.specs.Board.{BoardView, CrashState, LeftNow, IsSound, IsFileRun, IsFileCall, Reads, LeavesOnly, SyncsFirst, NeverSynced, SameSteps, Torn, Follows, steps_of, tolds_of, Only}

-- before the first call
pub started : (v : BoardView) (P : CrashState → Type 0) → IsSound v → IsTrue v.tells → ((left : CrashState) → LeftNow v left → P left) → LeavesOnly v v P
started v P sound tells here = record {
  later = omega arith;
  each = λ left since. here left (sound.only_now tells left since);
  before = λ t left le since. inl since;
  keeps = λ t left le since. since;
  earlier = sound.earlier tells;
}

-- one call of the file more
pub goes_on : (old mid new : BoardView) (P : CrashState → Type 0) → LeavesOnly old mid P → IsFileCall mid new → IsSound new → IsTrue new.tells → ((left : CrashState) → LeftNow new left → P left) → LeavesOnly old new P
goes_on old mid new P so_far call sound tells here = record {
  later = omega (arith, so_far.later, call.run.later tells);
  each = λ left since. ⊎_elim (so_far.each left) (here left) (call.nothing_else tells old.moment left so_far.later since);
  before = λ t left le since. ⊎_elim
      (λ was. ⊎_elim inl (λ so. inr (call.run.keeps tells old.moment left so_far.later so)) (so_far.before t left le was))
      (λ now. inr (sound.counts_now tells old.moment left (omega (arith, so_far.later, call.run.later tells)) now))
      (call.nothing_else tells t left (omega (arith, le, so_far.later)) since);
  keeps = λ t left le since. call.run.keeps tells t left (omega (arith, le, so_far.later)) (so_far.keeps t left le since);
  earlier = sound.earlier tells;
}

-- two runs of calls of the file
pub run_compose : (u v w : BoardView) → IsFileRun u v → IsFileRun v w → IsFileRun u w
run_compose u v w first second = record {
  tells = λ tells. first.tells (second.tells tells);
  goes_on = λ tells. second.goes_on (first.goes_on tells);
  sent = λ tells. second.sent tells ∙ first.sent (second.tells tells);
  disk_faults = omega (arith, first.disk_faults, second.disk_faults);
  issue_faults = omega (arith, first.issue_faults, second.issue_faults);
  later = λ tells. omega (arith, second.later tells, first.later (second.tells tells));
  keeps = λ tells t left le since. second.keeps tells t left (omega (arith, le, first.later (second.tells tells))) (first.keeps (second.tells tells) t left le since);
}

-- two runs, one behind the other
pub leaves_compose : (start now new : BoardView) (P Q : CrashState → Type 0) → LeavesOnly start now P → LeavesOnly now new Q → ((left : CrashState) → Q left → P left) → LeavesOnly start new P
leaves_compose start now new P Q first second along = record {
  later = omega (arith, first.later, second.later);
  each = λ left since. ⊎_elim (first.each left) (λ so. along left (second.each left so)) (second.before start.moment left first.later since);
  before = λ t left le since. ⊎_elim
      (λ was. ⊎_elim inl (λ so. inr (second.keeps start.moment left first.later so)) (first.before t left le was))
      (λ so. inr (second.earlier start.moment now.moment left first.later so))
      (second.before t left (omega (arith, le, first.later)) since);
  keeps = λ t left le since. second.keeps t left (omega (arith, le, first.later)) (first.keeps t left le since);
  earlier = second.earlier;
}

-- the same said of a weaker fact
pub leaves_map : (old new : BoardView) (P Q : CrashState → Type 0) → ((left : CrashState) → P left → Q left) → LeavesOnly old new P → LeavesOnly old new Q
leaves_map old new P Q along run = record {
  later = run.later;
  each = λ left since. along left (run.each left since);
  before = run.before;
  keeps = run.keeps;
  earlier = run.earlier;
}

-- what comes behind the first sync
pub syncs_then : (old mid new : BoardView) (P Q R : CrashState → Type 0) → SyncsFirst old mid P → LeavesOnly mid new Q → ((left : CrashState) → P left → R left) → ((left : CrashState) → Q left → R left) → SyncsFirst old new R
syncs_then old mid new P Q R first run p q = record {
  synced = first.synced;
  after_start = first.after_start;
  by_now = omega (arith, first.by_now, run.later);
  until = λ left since. ⊎_elim
      (λ was. ⊎_elim inl (λ so. inr (run.keeps first.synced left first.by_now so)) (first.until left was))
      (λ so. inr (run.earlier first.synced mid.moment left first.by_now so))
      (run.before old.moment left (omega (arith, first.after_start, first.by_now)) since);
  since = λ left since. ⊎_elim (λ so. p left (first.since left so)) (λ so. q left (run.each left so)) (run.before first.synced left first.by_now since);
}

pub syncs_map : (old new : BoardView) (P Q : CrashState → Type 0) → ((left : CrashState) → P left → Q left) → SyncsFirst old new P → SyncsFirst old new Q
syncs_map old new P Q along s = record { synced = s.synced; after_start = s.after_start; by_now = s.by_now; until = s.until; since = λ left now. along left (s.since left now) }

-- a call that only reads: a crash in it leaves what it could just before
pub syncs_reads : (start now new : BoardView) (P : CrashState → Type 0) → IsSound now → IsSound new → Reads now new → IsTrue new.tells → SyncsFirst start now P → SyncsFirst start new P
syncs_reads start now new P sound_now sound_new reads tells s = record {
  synced = s.synced;
  after_start = s.after_start;
  by_now = omega (arith, s.by_now, reads.call.run.later tells);
  until = λ left since. ⊎_elim
      (λ old. ⊎_elim inl (λ later. inr (reads.call.run.keeps tells s.synced left s.by_now later)) (s.until left old))
      (λ at_new. inr (sound_new.counts_now tells s.synced left (omega (arith, s.by_now, reads.call.run.later tells)) at_new))
      (reads.call.nothing_else tells start.moment left (omega (arith, s.after_start, s.by_now)) since);
  since = λ left since. ⊎_elim (s.since left)
      (λ at_new. s.since left (sound_now.counts_now (reads.call.run.tells tells) s.synced left s.by_now
      (record { image = (reads.images tells left.image).0 at_new.image; issued = at_new.issued ∙ ap steps_of (reads.call.run.sent tells); told = at_new.told ∙ ap tolds_of (reads.call.run.sent tells) })))
      (reads.call.nothing_else tells s.synced left s.by_now since);
}

-- two calls that only read, one behind the other
pub reads_compose : (u v w : BoardView) → Reads u v → Reads v w → Reads u w
reads_compose u v w first second = record {
  call = record {
    run = run_compose u v w first.call.run second.call.run;
    nothing_else = λ tells t left le since. ⊎_elim
        (λ at_v. ⊎_elim inl (λ now. inr (read_later left tells now)) (first.call.nothing_else (second.call.run.tells tells) t left le at_v))
        inr
        (second.call.nothing_else tells t left (omega (arith, le, first.call.run.later (second.call.run.tells tells))) since);
  };
  octets = λ tells. second.octets tells ∙ first.octets (second.call.run.tells tells);
  images = λ tells c. (
    λ now. (first.images (second.call.run.tells tells) c).0 ((second.images tells c).0 now),
    λ was. (second.images tells c).1 ((first.images (second.call.run.tells tells) c).1 was),
  );
}
  where
    read_later : (left : CrashState) → IsTrue w.tells → LeftNow v left → LeftNow w left
    read_later left tells now = record {
      image = (second.images tells left.image).1 now.image;
      issued = now.issued ∙ ap steps_of (sym (second.call.run.sent tells));
      told = now.told ∙ ap tolds_of (sym (second.call.run.sent tells));
    }

-- the sync that a work begins with has failed
pub never_synced : (v w : BoardView) → IsSound v → IsFileCall v w → IsTrue w.tells → ((c : List ℕ) → w.images c ↔ v.images c) → NeverSynced v w
never_synced v w sound call tells same = record {
  until = λ left since. ⊎_elim (sound.only_now (call.run.tells tells) left)
      (λ now. record { image = (same left.image).0 now.image; issued = now.issued ∙ ap steps_of (call.run.sent tells); told = now.told ∙ ap tolds_of (call.run.sent tells) })
      (call.nothing_else tells v.moment left (omega arith) since);
}

-- or it is done
pub first_sync : (v w : BoardView) → IsSound v → IsSound w → IsFileCall v w → IsTrue w.tells → w.octets ≡ v.octets → Only w.octets w.images → SyncsFirst v w (LeavesAsRead v)
first_sync v w sound_v sound_w call tells octets lasting = record {
  synced = w.moment;
  after_start = call.run.later tells;
  by_now = omega arith;
  until = λ left since. ⊎_elim
      (λ was. inl (sound_v.only_now (call.run.tells tells) left was))
      (λ now. inr (sound_w.counts_now tells w.moment left (omega arith) now))
      (call.nothing_else tells v.moment left (omega arith) since);
  since = λ left since.
      let now = sound_w.only_now tells left since in
      (record { issued = now.issued ∙ ap steps_of (call.run.sent tells); told = now.told ∙ ap tolds_of (call.run.sent tells) }, lasting left.image now.image ∙ octets);
}

torn_self : (place n : ℕ) (c : List ℕ) → Torn place n c c
torn_self place n c = record { before = refl; after = refl; no_shorter = omega arith; no_longer = omega arith }

pub steps_same : (v w : BoardView) (left : CrashState) → w.sent ≡ v.sent → LeftNow w left → SameSteps v left
steps_same v w left sent now = record { issued = now.issued ∙ ap steps_of sent; told = now.told ∙ ap tolds_of sent }

-- a write, done or failed
pub write_leaves : (v w : BoardView) (place n : ℕ) → IsSound v → IsSound w → IsFileCall v w → IsTrue w.tells → Follows (Torn place n) v.images w.images → LeavesOnly v w (LeavesTorn place n v)
write_leaves v w place n sound sound_w call tells images =
    goes_on v v w (LeavesTorn place n v)
    (started v (LeavesTorn place n v) sound (call.run.tells tells) (λ left now. (left.image, now.image, torn_self place n left.image, steps_same v v left refl now)))
    call sound_w tells (λ left now. let from = images left.image now.image in (from.0, from.1, from.2, steps_same v w left (call.run.sent tells) now))

-- and the sync behind it
pub sync_leaves : (v w x : BoardView) (place n : ℕ) → IsSound v → IsSound w → IsSound x → IsFileCall v w → IsFileCall w x → IsTrue x.tells → (IsTrue w.tells → Follows (Torn place n) v.images w.images) → ((c : List ℕ) → x.images c → w.images c)
    → LeavesOnly v x (LeavesTorn place n v)
sync_leaves v w x place n sound sound_w sound_x call_w call_x tells images fewer =
    let tells_w = call_x.run.tells tells in
    goes_on v w x (LeavesTorn place n v) (write_leaves v w place n sound sound_w call_w tells_w (images tells_w)) call_x sound_x tells
    (λ left now. let from = images tells_w left.image (fewer left.image now.image) in (from.0, from.1, from.2, steps_same v x left (call_x.run.sent tells ∙ call_w.run.sent tells_w) now))

-- the steps of a run of calls of the file stay
pub steps_along : (v w : BoardView) (left : CrashState) → w.sent ≡ v.sent → SameSteps w left → SameSteps v left
steps_along v w left sent same = record { issued = same.issued ∙ ap steps_of sent; told = same.told ∙ ap tolds_of sent }
