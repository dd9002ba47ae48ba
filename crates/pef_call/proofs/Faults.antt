-- Which fault is of what, and ends a call of `init` how.
use Rattle.std.proofs.Common.{◌≡◌, ◌≢◌, Result, Err, refl, sym, ◌∙◌, ap}
use Rattle.report_line.specs.declared.ending.Ending.TheVariants as ending
use Rattle.report_line.specs.declared.refusal.SettingsRefusal.{SettingsRefusal}
use Rattle.script_text.specs.declared.settings.SettingsFault.{SettingsFault}
use Rattle.script_text.specs.declared.settings.SettingsFault.TheVariants.{Refused, Memory as SettingsMemory}
use Rattle.pef_call.specs.declared.init_fault.InitFault.{InitFault}
use Rattle.pef_call.specs.declared.init_fault.InitFault.TheVariants.{Disk, Formatted, Input, Settings, Memory}
use Rattle.pef_call.specs.Init.{fault_ending, settings_fault_of, IsInitEnd}

pub at_refused : (fault : SettingsFault) (refusal : SettingsRefusal) → settings_fault_of fault ≡ Settings refusal → fault ≡ Refused refusal
at_refused (Refused why) refusal e = ap Refused (cc e)
at_refused SettingsMemory refusal e = absurd (cc e)

pub at_settings : (fault : InitFault) (refusal : SettingsRefusal) → fault_ending fault ≡ ending.Settings refusal → fault ≡ Settings refusal
at_settings (Settings why) refusal e = ap Settings (cc e)
at_settings Input refusal e = absurd (cc e)
at_settings Disk refusal e = absurd (cc e)
at_settings Memory refusal e = absurd (cc e)
at_settings Formatted refusal e = absurd (cc e)

pub at_input : (fault : InitFault) → fault_ending fault ≡ ending.Input → fault ≡ Input
at_input (Settings why) e = absurd (cc e)
at_input Input e = refl
at_input Disk e = absurd (cc e)
at_input Memory e = absurd (cc e)
at_input Formatted e = absurd (cc e)

pub at_disk : (fault : InitFault) → fault_ending fault ≡ ending.Disk → fault ≡ Disk
at_disk (Settings why) e = absurd (cc e)
at_disk Input e = absurd (cc e)
at_disk Disk e = refl
at_disk Memory e = absurd (cc e)
at_disk Formatted e = absurd (cc e)

pub at_formatted : (fault : InitFault) → fault_ending fault ≡ ending.Formatted → fault ≡ Formatted
at_formatted (Settings why) e = absurd (cc e)
at_formatted Input e = absurd (cc e)
at_formatted Disk e = absurd (cc e)
at_formatted Memory e = absurd (cc e)
at_formatted Formatted e = refl

pub is_init_end : (fault : InitFault) → IsInitEnd (fault_ending fault)
is_init_end (Settings why) = tt
is_init_end Input = tt
is_init_end Disk = tt
is_init_end Memory = tt
is_init_end Formatted = tt

pub not_done : (fault : InitFault) → fault_ending fault ≢ ending.Done 0
not_done (Settings why) e = cc e
not_done Input e = cc e
not_done Disk e = cc e
not_done Memory e = cc e
not_done Formatted e = cc e

pub same_fault : {T : Type 0} (result : Result T InitFault) (one other : InitFault) → result ≡ Err one → result ≡ Err other → one ≡ other
same_fault result one other is also = cc (sym is ∙ also)
