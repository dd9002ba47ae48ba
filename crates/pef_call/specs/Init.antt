-- What making a state file does, answers and leaves, for any kind of file.
use Rattle.std.specs.Prelude.{◌≡◌, ◌≢◌, ◌⊎◌, ⊤, ℕ, ◌≤◌, IsTrue, List, [], ◌∷◌, ◌++◌, ◌+◌, length, drop, Option, Some, Result, Ok, Err}
use Rattle.board_core.specs.Causes.{Rose}
use Rattle.board_core.specs.Board.{SyncsFirst, BoardView, CrashState, SameSteps, Only, NeverSynced, IsFileRun}
use Rattle.pef_journal.specs.Image.{header, IsFormatted, Stands}
use Rattle.pef_journal.specs.declared.kind.FileKind.{FileKind}
use Rattle.script_text.specs.declared.whole.TextFault.{TextFault}
use Rattle.script_text.specs.declared.whole.TextFault.TheVariants.{Source, Memory as TextMemory}
use Rattle.script_text.specs.declared.settings.SettingsFault.{SettingsFault}
use Rattle.script_text.specs.declared.settings.SettingsFault.TheVariants.{Refused, Memory as SettingsMemory}
use Rattle.pef_call.specs.declared.init_fault.InitFault.{InitFault}
use Rattle.pef_call.specs.declared.init_fault.InitFault.TheVariants.{Disk, Formatted, Input, Settings, Memory}
use Rattle.report_line.specs.declared.ending.Ending.{Ending}
use Rattle.report_line.specs.declared.refusal.SettingsRefusal.{SettingsRefusal}
use Rattle.report_line.specs.declared.ending.Ending.TheVariants as ending
use Rattle.script_run.specs.Top.{Outside, EndsWith, WritesNothing}

-- What is made: the kinds as one of which a file counts as formatted, the kind that it gets, and the settings that a text
-- gives, or why it is refused.
pub record Making : Type 0 where
  pub kinds : List FileKind
  pub kind : FileKind
  pub settings_of : List ℕ → Result (List ℕ) SettingsRefusal

abbrev pub making : List FileKind → FileKind → (List ℕ → Result (List ℕ) SettingsRefusal) → Making
making kinds kind settings_of = record { kinds = kinds; kind = kind; settings_of = settings_of }

abbrev pub fault_ending : InitFault → Ending
fault_ending (Settings refusal) = ending.Settings refusal
fault_ending Input = ending.Input
fault_ending Disk = ending.Disk
fault_ending Memory = ending.Memory
fault_ending Formatted = ending.Formatted

-- what a fault in reading the settings is to `init`
abbrev pub fault_of : TextFault → InitFault
fault_of Source = Input
fault_of TextMemory = Memory

-- and what a text is that gives no settings
abbrev pub settings_fault_of : SettingsFault → InitFault
settings_fault_of (Refused refusal) = Settings refusal
settings_fault_of SettingsMemory = Memory

-- what is to be read gives these settings, where the source tells it
abbrev pub Gives : Making → Option (List ℕ) → List ℕ → Type 0
Gives of source settings = (text : List ℕ) → source ≡ Some text → of.settings_of text ≡ Ok settings

-- it is refused for this reason
abbrev pub IsRefused : Making → Option (List ℕ) → SettingsRefusal → Type 0
IsRefused of source refusal = (text : List ℕ) → source ≡ Some text → of.settings_of text ≡ Err refusal

-- The file holds the empty history under the settings that the text gives, and every crash leaves it so. What was behind the first
-- gate is there as before.
pub record IsMade (of : Making) (source : Option (List ℕ)) (old new : BoardView) : Type 0 where
  pub settings : List ℕ
  pub given : Gives of source settings
  pub stands : Stands of.kind settings [] new.octets
  pub octets : new.octets ≡ header of.kind settings ++ 0 ∷ drop (5 + length settings) old.octets
  pub lasting : Only new.octets new.images

-- the file isn't formatted, or holds the empty history under the settings that the text gives
abbrev pub IsUnformattedOrMade : Making → Option (List ℕ) → List ℕ → Type 0
IsUnformattedOrMade of source file = (IsFormatted of.kinds file → ⊥) ⊎ ((settings : List ℕ) × Gives of source settings × Stands of.kind settings [] file)

-- a formatted file is left as it was, and one that isn't formatted is so still or is made; no step is issued
pub record LeavesMade (of : Making) (source : Option (List ℕ)) (old : BoardView) (left : CrashState) : Type 0 where
  pub steps : SameSteps old left
  pub formatted : IsFormatted of.kinds old.octets → left.image ≡ old.octets
  pub unformatted : (IsFormatted of.kinds old.octets → ⊥) → IsUnformattedOrMade of source left.image

-- Until the first sync nothing is written. From then on each crash leaves the file as it was, or one that isn't formatted, or the
-- one that is to be made.
abbrev pub KeepsMoments : Making → Option (List ℕ) → BoardView → BoardView → Type 0
KeepsMoments of source old new = (NeverSynced old new × (new.octets ≡ old.octets)) ⊎ SyncsFirst old new (LeavesMade of source old)

-- how `init` may end: done, after no items, or refused, or at a failure
abbrev pub IsInitEnd : Ending → Type 0
IsInitEnd (ending.Done count) = count ≡ 0
IsInitEnd (ending.Settings refusal) = ⊤
IsInitEnd ending.Input = ⊤
IsInitEnd ending.Disk = ⊤
IsInitEnd ending.Memory = ⊤
IsInitEnd ending.Formatted = ⊤
IsInitEnd other = ⊥

-- All that `init` does but its last line: the board, the source's text, the source's count of failures, and how the call ending.
pub record Makes (of : Making) (old new : BoardView) (source : Option (List ℕ)) (reads_before reads_after : ℕ) (end : Ending) : Type 0 where
  pub is_end : IsInitEnd end
  -- where it is done the file is made
  pub made : end ≡ ending.Done 0 → IsTrue new.tells → IsMade of source old new
  -- at any moment of the call
  pub moments : IsTrue new.tells → KeepsMoments of source old new
  -- at a refusal, and where the text could not be read or held, nothing is written to the file at any moment
  pub untouched : end ≢ ending.Done 0 → end ≢ ending.Disk → IsTrue new.tells → (new.octets ≡ old.octets) × WritesNothing old new
  -- each end has its cause
  pub formatted : end ≡ ending.Formatted → IsTrue new.tells → IsFormatted of.kinds old.octets
  pub is_formatted : IsTrue new.tells → IsFormatted of.kinds old.octets → (end ≡ ending.Formatted) ⊎ (end ≡ ending.Disk)
  pub refused : (refusal : SettingsRefusal) → end ≡ ending.Settings refusal → IsRefused of source refusal
  pub input : end ≡ ending.Input → Rose reads_before reads_after
  pub disk : end ≡ ending.Disk → Rose old.disk_faults new.disk_faults
  -- and no other end passes over a failure of the disk or the source
  pub disk_same : end ≢ ending.Disk → new.disk_faults ≡ old.disk_faults
  pub input_same : end ≢ ending.Input → reads_after ≡ reads_before
  pub run : IsFileRun old new
  pub later : reads_before ≤ reads_after

-- A call of `init`, and its status.
pub record Inits (of : Making) (old new : Outside) (status : ℕ) : Type 0 where
  pub end : Ending
  pub part : List ℕ
  pub ends : EndsWith end part old.writes new.writes status
  pub makes : Makes of old.board new.board old.unread old.reads new.reads end
  -- nothing is written but the last line
  pub alone : (text : List ℕ) → old.written ≡ Some text → new.written ≡ Some (text ++ part)
  pub issues_nothing : IsTrue new.board.tells → new.board.sent ≡ old.board.sent
  -- where the file isn't formatted and the text is refused, the reason is answered, unless something failed or there was no memory
  pub is_refused : IsTrue new.board.tells → (IsFormatted of.kinds old.board.octets → ⊥) → (text : List ℕ) (refusal : SettingsRefusal) → old.unread ≡ Some text → of.settings_of text ≡ Err refusal →
      (end ≡ ending.Settings refusal) ⊎ ((end ≡ ending.Input) ⊎ ((end ≡ ending.Disk) ⊎ (end ≡ ending.Memory)))
  -- where the file isn't formatted, the text is good and nothing fails, it ends with 0 or out of memory
  pub complete : IsTrue new.board.tells → (IsFormatted of.kinds old.board.octets → ⊥) → (text settings : List ℕ) → old.unread ≡ Some text → of.settings_of text ≡ Ok settings →
      (status ≡ 0) ⊎ ((status ≡ 10) ⊎ (Rose old.reads new.reads ⊎ (Rose old.board.disk_faults new.board.disk_faults ⊎ Rose old.writes new.writes)))
  -- at status 0 no count of failures of the disk, the source or the sink rose
  pub calm : status ≡ 0 → (new.board.disk_faults ≡ old.board.disk_faults) × (new.reads ≡ old.reads) × (new.writes ≡ old.writes)
  -- a board that tells its content at the end told it at the start, and one that told it at the start goes on to; no count falls
  pub tells : IsTrue new.board.tells → IsTrue old.board.tells
  pub goes_on : IsTrue old.board.tells → IsTrue new.board.tells
  pub disk_later : old.board.disk_faults ≤ new.board.disk_faults
  pub reads_later : old.reads ≤ new.reads
  pub writes_later : old.writes ≤ new.writes
