-- Reading a file's entries again.
use Rattle.std.proofs.Common.{◌≡◌, ◌⊎◌, inl, inr, ⊎_elim, ℕ, List, [], ◌∷◌, ◌++◌, map, Option, Some, Ok, Err, true, false, IsTrue, refl, sym, ◌∙◌, ap, subst, append_assoc}
use Rattle.std.proofs.lemmas.List.{append-nil, map-append}
use Rattle.std.specs.Prelude.{IsErrOf}
use Rattle.board_core.specs.Causes.{Rose}
use Rattle.board_core.specs.Board.{BoardView, CrashState, IsSound, IsFileRun, Reads, SyncsFirst, NeverSynced}
use Rattle.pef_engine.specs.declared.entry.Entry.{Entry}
use Rattle.pef_engine.specs.declared.entry.Entry.TheVariants.{Item, Outcome}
use Rattle.pef_engine.specs.declared.engine.Engine.{Engine}
use Rattle.pef_engine.specs.declared.faults.EngineFault.{EngineFault}
use Rattle.pef_engine.specs.declared.faults.EngineFault.TheVariants.{NotFormatted, Corrupt, DiskFault, Full, Memory}
use Rattle.pef_journal.specs.declared.fault.JournalFault.{JournalFault}
use Rattle.pef_journal.specs.declared.fault.JournalFault.TheVariants as journal_fault
use Rattle.pef_journal.specs.declared.journal.Journal.{Journal}
use Rattle.pef_journal.specs.Image as image
use Rattle.pef_journal.specs.Journal.{IsAt, HasRead, GivesEntry, Finds, LeavesAsRead}
use Rattle.pef_engine.specs.Faults.{fault_of}
use Rattle.pef_engine.specs.Rules.{Rules, Allowed, LawfulFrom, Lawful, Stands, StandsForSome, Decodes, BreaksAt, IsOver, NoneOver, HasOver}
use Rattle.pef_engine.specs.MachineView.{MachineView, GoesOn}
use Rattle.pef_engine.specs.CrashFree.{LeavesPrefix}
use Rattle.pef_engine.specs.Engine.{Holds, IsLive, HasPlace, ShowsSome, OnlyRead, Replayed, AllDecode, MayStop, HasOpenCause, Opens, ReplaysOne}
use Rattle.pef_journal.proofs.Moments.{syncs_map, syncs_reads, run_compose}
use Rattle.pef_journal.proofs.ReadOn.{reads_stand}
use Rattle.pef_engine.proofs.Moments.{leaves_start}
use Rattle.pef_engine.proofs.Stored.{counts_run, lawful-append, none_over-append}

module _ {I : Type 0} (rules : Rules I) (Z : List ℕ) (are : (Z : List ℕ) (G : List (Entry I)) (e : Entry I) → Allowed rules Z G e → rules.is_entry e) where
  -- a history whose entries begin as these do, in octets, begins with them
  pub begins : (G done H : List (Entry I)) (after : List (List ℕ)) → LawfulFrom rules Z G H → AllDecode rules done → map rules.encode done ++ after ≡ map rules.encode H → (K : List (Entry I)) × (H ≡ done ++ K) × (after ≡ map rules.encode K)
  begins G [] H after lawful decode same = (H, refl, same)
  begins G (d ∷ done) [] after lawful decode same = absurd (cc same)
  begins G (d ∷ done) (h ∷ H) after lawful decode same =
      let first : rules.encode h ≡ rules.encode d = cc same in
      let rest : map rules.encode done ++ after ≡ map rules.encode H = cc same in
      let found : Some d ≡ Some h = decode.0.found h (are Z G h lawful.0) first in
      let is : d ≡ h = cc found in
      let more = begins (G ++ h ∷ []) done H after lawful.1 decode.1 rest in
      (more.0, (λ i. sym is i ∷ more.1 i), more.2)

module _ {I M : Type 0} (rules : Rules I) (view : M → MachineView I) (are : (Z : List ℕ) (G : List (Entry I)) (e : Entry I) → Allowed rules Z G e → rules.is_entry e) (now : BoardView) (tells : IsTrue now.tells)
    (machine : M) (journal : Journal) (r : Replayed rules view now machine journal) where
  -- where the file stands for a lawful history, what was replayed is its front, and the journal stands before the others
  pub stands_before : (Z : List ℕ) (H : List (Entry I)) → Lawful rules Z H → Stands rules Z H now.octets
      → (Z ≡ r.settings) × (K : List (Entry I)) × (H ≡ r.done ++ K) × IsAt rules.kind r.settings (map rules.encode r.done) (map rules.encode K) now journal
  stands_before Z H lawful stands =
      let there = reads_stand rules.kind r.settings (map rules.encode r.done) now journal (r.read tells) Z (map rules.encode H) stands in
      let more = begins rules Z are [] r.done H there.1.0 lawful r.decode there.1.1 in
      (there.0, more.0, more.1, subst (λ (l : List (List ℕ)). IsAt rules.kind r.settings (map rules.encode r.done) l now journal) more.2 there.1.2)

  -- the file breaks at the gate where the journal stands
  pub breaks : (at : ℕ) → at ≡ journal.place → (image.IsCorruptAt now.octets journal.place
      ⊎ ((payload : List ℕ) × image.HasEntryAt now.octets journal.place payload × ((e : Entry I) → rules.is_entry e → rules.encode e ≡ payload → Allowed rules r.settings r.done e → ⊥)))
      → BreaksAt rules at now.octets
  breaks at is broken = record {
    settings = r.settings;
    before = r.done;
    lawful = r.lawful;
    reaches = record {
      rest = (r.read tells).rest;
      octets = (r.read tells).file;
      behind = (r.read tells).behind;
      place = is ∙ (r.read tells).place;
    };
    broken = subst (λ k. image.IsCorruptAt now.octets k
        ⊎ ((payload : List ℕ) × image.HasEntryAt now.octets k payload × ((e : Entry I) → rules.is_entry e → rules.encode e ≡ payload → Allowed rules r.settings r.done e → ⊥))) (sym is) broken;
  }

-- what an exit says that only read the file since the start
module _ {I M : Type 0} (rules : Rules I) (view : M → MachineView I) (start new : BoardView) (run : IsFileRun start new) (octets : IsTrue new.tells → new.octets ≡ start.octets) where
  prefix_of : (Z : List ℕ) (H : List (Entry I)) → Stands rules Z H start.octets → (left : CrashState) → LeavesAsRead start left → LeavesPrefix rules Z H start.sent [] left
  prefix_of Z H stands left p = leaves_start rules Z H start [] left p.0 (subst (Stands rules Z H) (sym p.1) stands)

  -- whatever fault ends it
  pub open_fails : (fault : EngineFault) → (IsTrue new.tells → NeverSynced start new ⊎ SyncsFirst start new (LeavesAsRead start)) → (IsTrue new.tells → HasOpenCause rules start.octets fault)
      → (IsTrue new.tells → (Z : List ℕ) (H : List (Entry I)) → Lawful rules Z H → Stands rules Z H start.octets → MayStop rules Z H fault) → (fault ≡ DiskFault → Rose start.disk_faults new.disk_faults) → ((fault ≡ DiskFault → ⊥) → new.disk_faults ≡ start.disk_faults)
      → Opens {M = M} rules view start new (Err fault)
  open_fails fault moments causes stops disk same = record {
    opened = λ tells Z H lawful stands. record {
      holds = tt;
      sent = run.sent tells;
      octets = octets tells;
      any_moment = ⊎_elim inl (λ s. inr (syncs_map start new (LeavesAsRead start) (LeavesPrefix rules Z H start.sent []) (prefix_of Z H stands) s)) (moments tells);
      synced = tt;
      stops = stops tells Z H lawful stands;
      none_over = tt;
    };
    stands = λ tells. tt;
    causes = causes;
    counts = counts_run run (λ e. disk (cc e)) (λ not. same (λ e. not (cc e)));
    moments = moments;
    octets = octets;
    run = run;
    live = tt;
    shows = tt;
  }

  -- at the first closed gate all is replayed
  pub open_ends : (engine : Engine M I) → (IsTrue new.tells → SyncsFirst start new (LeavesAsRead start))
      → (IsTrue new.tells → (Z : List ℕ) (H : List (Entry I)) → Lawful rules Z H → Stands rules Z H start.octets → Holds rules view Z H new engine × NoneOver rules Z [] H) → (IsTrue new.tells → StandsForSome rules start.octets)
      → IsLive engine × HasPlace new engine → ShowsSome rules (view engine.machine) → new.disk_faults ≡ start.disk_faults → Opens rules view start new (Ok engine)
  open_ends engine moments all some live shows same = record {
    opened = λ tells Z H lawful stands.
        let synced = syncs_map start new (LeavesAsRead start) (LeavesPrefix rules Z H start.sent []) (prefix_of Z H stands) (moments tells) in
        let held = all tells Z H lawful stands in record {
          holds = held.0;
          sent = run.sent tells;
          octets = octets tells;
          any_moment = inr synced;
          synced = synced;
          stops = tt;
          none_over = held.1;
        };
    stands = some;
    causes = λ tells. tt;
    counts = counts_run run (λ e. cc e) (λ not. same);
    moments = λ tells. inr (moments tells);
    octets = octets;
    run = run;
    live = live;
    shows = shows;
  }

for_kind : {I : Type 0} (rules : Rules I) (Z : List ℕ) (H : List (Entry I)) (file : List ℕ) → Stands rules Z H file → image.IsForKind rules.kind file
for_kind rules Z H file stands = (Z, stands.0, stands.1)

-- the journal isn't opened
pub journal_fails : {I M : Type 0} (rules : Rules I) (view : M → MachineView I) (start new : BoardView) (run : IsFileRun start new) (octets : IsTrue new.tells → new.octets ≡ start.octets) (fault : JournalFault)
    → (IsTrue new.tells → NeverSynced start new ⊎ SyncsFirst start new (LeavesAsRead start)) → (IsTrue new.tells → fault ≡ journal_fault.NotFormatted → image.IsForKind rules.kind start.octets → ⊥)
    → (fault ≡ journal_fault.DiskFault → Rose start.disk_faults new.disk_faults) → ((fault ≡ journal_fault.DiskFault → ⊥) → new.disk_faults ≡ start.disk_faults)
    → (fault ≡ journal_fault.NotFormatted) ⊎ (fault ≡ journal_fault.DiskFault) → Opens {M = M} rules view start new (Err (fault_of fault))
journal_fails rules view start new run octets journal_fault.NotFormatted moments unformatted disk same other =
    open_fails rules view start new run octets NotFormatted moments (λ t. unformatted t refl) (λ t Z H lawful stands. unformatted t refl (for_kind rules Z H start.octets stands)) (λ e. absurd (cc e)) (λ not. same (λ e. cc e))
journal_fails rules view start new run octets journal_fault.DiskFault moments unformatted disk same other = open_fails rules view start new run octets DiskFault moments (λ t. tt) (λ t Z H lawful stands. tt) (λ e. disk refl) (λ not. absurd (not refl))
journal_fails rules view start new run octets (journal_fault.Corrupt at) moments unformatted disk same other = absurd (⊎_elim (λ e. cc e) (λ e. cc e) other)
journal_fails rules view start new run octets journal_fault.Full moments unformatted disk same other = absurd (⊎_elim (λ e. cc e) (λ e. cc e) other)

pub read_on : (start now new : BoardView) → IsSound now → IsSound new → OnlyRead start now → Reads now new → OnlyRead start new
read_on start now new sound sound' before reads = record {
  run = run_compose start now new before.run reads.call.run;
  octets = λ t. reads.octets t ∙ before.octets (reads.call.run.tells t);
  moments = λ t. syncs_reads start now new (LeavesAsRead start) sound sound' reads t (before.moments (reads.call.run.tells t));
}

module _ {I : Type 0} (rules : Rules I) (Z : List ℕ) where
  lawful_next : (G H : List (Entry I)) (e : Entry I) (K : List (Entry I)) → LawfulFrom rules Z G (H ++ e ∷ K) → Allowed rules Z (G ++ H) e
  lawful_next G [] e K lawful = subst (λ g. Allowed rules Z g e) (sym (append-nil G)) lawful.0
  lawful_next G (x ∷ H) e K lawful = subst (λ g. Allowed rules Z g e) (append_assoc G (x ∷ []) H) (lawful_next (G ++ x ∷ []) H e K lawful.1)

  -- what is handed out is the next entry of the history
  pub next_of : (are : (Z : List ℕ) (G : List (Entry I)) (e : Entry I) → Allowed rules Z G e → rules.is_entry e) (done H K : List (Entry I)) → Lawful rules Z H → H ≡ done ++ K
      → (new : BoardView) (journal : Journal) (out : List ℕ) → GivesEntry rules.kind Z (map rules.encode done) (map rules.encode K) new journal out true
      → (e : Entry I) × (rules.encode e ≡ out) × Allowed rules Z done e × (rest : List (Entry I)) × (H ≡ done ++ e ∷ rest)
  next_of are done H [] lawful is new journal out gives = absurd gives
  next_of are done H (e ∷ K) lawful is new journal out gives = (e, sym gives.0, lawful_next [] done e K (subst (LawfulFrom rules Z []) is lawful), K, is)

  pub all_decode-append : (H : List (Entry I)) (e : Entry I) → AllDecode rules H → Decodes rules (rules.encode e) (Some e) → AllDecode rules (H ++ e ∷ [])
  all_decode-append [] e decode one = (one, tt)
  all_decode-append (h ∷ H) e decode one = (decode.0, all_decode-append H e decode.1 one)

module _ {I M : Type 0} (rules : Rules I) (view : M → MachineView I) (now new : BoardView) (machine : M) (journal : Journal) (r : Replayed rules view now machine journal) where
  -- the machine goes on with the entry that was read
  pub replayed_on : (next : M) (after : Journal) (out : List ℕ) (gate : ℕ) → ReplaysOne rules (view next) r.settings r.done out gate (Ok tt) → (IsTrue new.tells → HasRead rules.kind r.settings (map rules.encode r.done ++ out ∷ []) new after)
      → Replayed rules view new next after
  replayed_on next after out gate (e, decodes, allowed, not_over, shows) read =
      let enc : rules.encode e ≡ out = (decodes.right e refl).1 in record {
        settings = r.settings;
        done = r.done ++ e ∷ [];
        lawful = lawful-append rules r.settings r.done e r.lawful allowed;
        none_over = none_over-append rules r.settings [] r.done e r.none_over not_over;
        shows = shows;
        decode = all_decode-append rules r.settings r.done e r.decode (subst (λ (o : List ℕ). Decodes rules o (Some e)) (sym enc) decodes);
        read = λ tells. subst (λ (l : List (List ℕ)). HasRead rules.kind r.settings l new after) (ap (λ o. map rules.encode r.done ++ o ∷ []) (sym enc) ∙ sym (map-append rules.encode r.done (e ∷ []))) (read tells);
      }

  -- and at the first closed gate all of the history is shown
  pub holds_at_end : (Z : List ℕ) (H K : List (Entry I)) → Z ≡ r.settings → H ≡ r.done ++ K → (out : List ℕ) (engine : Engine M I) → engine.machine ≡ machine
      → GivesEntry rules.kind r.settings (map rules.encode r.done) (map rules.encode K) new engine.journal out false → Holds rules view Z H new engine × NoneOver rules Z [] H
  holds_at_end Z H (e ∷ K) same is out engine is_machine gives = absurd gives
  holds_at_end Z H [] same is out engine is_machine gives =
      let all : r.done ≡ H = sym (is ∙ append-nil r.done) in
      subst (λ z. Holds rules view z H new engine × NoneOver rules z [] H) (sym same) (subst (λ h. Holds rules view r.settings h new engine × NoneOver rules r.settings [] h) all (
        record {
          lawful = r.lawful;
          shows = subst (λ m. (view m).shows r.settings r.done) (sym is_machine) r.shows;
          stored = gives;
        },
        r.none_over,
      ))

-- How a turn of the loop ends: the entry at the gate was read.
module _ {I M : Type 0} (rules : Rules I) (view : M → MachineView I) (are : (Z : List ℕ) (G : List (Entry I)) (e : Entry I) → Allowed rules Z G e → rules.is_entry e) (start now new : BoardView) (before : OnlyRead start now)
    (on : OnlyRead start new) (back : IsTrue new.tells → IsTrue now.tells) (machine : M) (journal : Journal) (r : Replayed rules view now machine journal) where
  -- the history that the file stands for goes on at the gate
  pub at_gate : IsTrue new.tells → (Z : List ℕ) (H : List (Entry I)) → Lawful rules Z H → Stands rules Z H start.octets
      → (Z ≡ r.settings) × (K : List (Entry I)) × (H ≡ r.done ++ K) × IsAt rules.kind r.settings (map rules.encode r.done) (map rules.encode K) now journal
  at_gate tells Z H lawful stands = stands_before rules view are now (back tells) machine journal r Z H lawful (subst (Stands rules Z H) (sym (before.octets (back tells))) stands)

  -- the journal could not read it
  pub entry_fails : (out : List ℕ) (fault : JournalFault) → (IsTrue new.tells → Finds now.octets journal.place out (Err fault))
      → (IsTrue new.tells → (after : List (List ℕ)) → IsAt rules.kind r.settings (map rules.encode r.done) after now journal → fault ≡ journal_fault.DiskFault)
      → (fault ≡ journal_fault.DiskFault → Rose start.disk_faults new.disk_faults) → ((fault ≡ journal_fault.DiskFault → ⊥) → new.disk_faults ≡ start.disk_faults) → Opens {M = M} rules view start new (Err (fault_of fault))
  entry_fails out (journal_fault.Corrupt at) finds whole disk same = open_fails rules view start new on.run on.octets (Corrupt at) (λ t. inr (on.moments t))
      (λ t. subst (BreaksAt rules at) (before.octets (back t)) (breaks rules view are now (back t) machine journal r at (finds t).0 (inl (finds t).1)))
      (λ t Z H lawful stands. let g = at_gate t Z H lawful stands in absurd (let e = whole t (map rules.encode g.1) g.3 in cc e)) (λ e. absurd (cc e)) (λ not. same (λ e. cc e))
  entry_fails out journal_fault.DiskFault finds whole disk same = open_fails rules view start new on.run on.octets DiskFault (λ t. inr (on.moments t)) (λ t. tt) (λ t Z H lawful stands. tt) (λ e. disk refl) (λ not. absurd (not refl))
  entry_fails out journal_fault.NotFormatted finds whole disk same = open_fails rules view start new on.run on.octets NotFormatted (λ t. inr (on.moments t)) (λ t. absurd (finds t)) (λ t Z H lawful stands. absurd (finds t)) (λ e. absurd (cc e)) (λ not. same (λ e. cc e))
  entry_fails out journal_fault.Full finds whole disk same = open_fails rules view start new on.run on.octets Full (λ t. inr (on.moments t)) (λ t. absurd (finds t)) (λ t Z H lawful stands. absurd (finds t)) (λ e. absurd (cc e)) (λ not. same (λ e. cc e))

  -- the entry was read, and the machine doesn't go on with it
  module _ (out : List ℕ) (after : Journal) (gate : ℕ) (is : gate ≡ journal.place) (has : IsTrue new.tells → Finds now.octets journal.place out (Ok true))
      (gives : IsTrue new.tells → (K : List (List ℕ)) → IsAt rules.kind r.settings (map rules.encode r.done) K now journal → GivesEntry rules.kind r.settings (map rules.encode r.done) K new after out true) (same : new.disk_faults ≡ start.disk_faults) where
    -- of a lawful history the next entry was read
    is_next : (t : IsTrue new.tells) (Z : List ℕ) (H : List (Entry I)) → Lawful rules Z H → Stands rules Z H start.octets → (Z ≡ r.settings) × (e : Entry I) × (rules.encode e ≡ out) × Allowed rules r.settings r.done e × (rest : List (Entry I)) × (H ≡ r.done ++ e ∷ rest)
    is_next t Z H lawful stands =
        let g = at_gate t Z H lawful stands in
        let n = next_of rules r.settings are r.done H g.1 (subst (λ z. Lawful rules z H) g.0 lawful) g.2 new after out (gives t (map rules.encode g.1) g.3) in
        (g.0, n.0, n.1, n.2, n.3, n.4)

    pub one_stops : (new_machine : M) (fault : EngineFault) → ReplaysOne rules (view new_machine) r.settings r.done out gate (Err fault) → Opens {M = M} rules view start new (Err fault)
    one_stops new_machine (Corrupt at) (at_gate_is, refused) = open_fails rules view start new on.run on.octets (Corrupt at) (λ t. inr (on.moments t))
        (λ t. subst (BreaksAt rules at) (before.octets (back t)) (breaks rules view are now (back t) machine journal r at (at_gate_is ∙ is) (inr (out, has t, refused))))
        (λ t Z H lawful stands. let n = is_next t Z H lawful stands in refused n.1 (are r.settings r.done n.1 n.3) n.2 n.3) (λ e. absurd (cc e)) (λ not. same)
    one_stops new_machine Full (e, decodes, allowed, over) = open_fails rules view start new on.run on.octets Full (λ t. inr (on.moments t))
        (λ t. subst (HasOver rules) (before.octets (back t)) (record {
          settings = r.settings;
          before = r.done;
          lawful = r.lawful;
          at = journal.place;
          reaches = record { rest = (r.read (back t)).rest; octets = (r.read (back t)).file; behind = (r.read (back t)).behind; place = (r.read (back t)).place };
          next = e;
          has = subst (λ o. image.HasEntryAt now.octets journal.place o) (sym (decodes.right e refl).1) (has t);
          allowed = allowed;
          over = over;
        }))
        (λ t Z H lawful stands.
        let n = is_next t Z H lawful stands in
        let found : Some e ≡ Some n.1 = decodes.found n.1 (are r.settings r.done n.1 n.3) n.2 in
        let same : n.1 ≡ e = cc found in (r.done, e, n.4, n.5 ∙ ap (λ x. r.done ++ x ∷ n.4) same, subst (λ z. IsOver rules z r.done e) (sym n.0) over))
        (λ e. absurd (cc e)) (λ not. same)
    one_stops new_machine (Memory error) takes = open_fails rules view start new on.run on.octets (Memory error) (λ t. inr (on.moments t))
        (λ t. subst (image.IsForKind rules.kind) (before.octets (back t)) (r.settings, image.blocks (map rules.encode r.done) ++ (r.read (back t)).rest, (r.read (back t)).file)) (λ t Z H lawful stands. tt) (λ e. absurd (cc e)) (λ not. same)
    one_stops new_machine DiskFault never = absurd never
    one_stops new_machine NotFormatted never = absurd never
