-- What `show` says of a controller: what stands after its history, and the page of it, a line each. The page is this project's own.
use Rattle.std.specs.Prelude.{ℕ, List, [], ◌∷◌, ◌++◌, length, codes, decimal, Option, Some, None, is_some, Bool, if◌then◌else◌}
use Rattle.std.specs.Int.{to_be_bytes, w32}
use Rattle.hex.specs.Hex.{encode_lower}
use Rattle.board_core.specs.declared.step.Step.{Step}
use Rattle.pef_engine.specs.declared.entry.Entry.{Entry}
use Rattle.pef_engine.specs.declared.script.Script.{Script}
use Rattle.pef_engine.specs.Scripts.{script_of}
use Rattle.report_line.specs.Line.{line_end}
use Rattle.job_course.specs.Steps.{id_of}
use Rattle.job_course.specs.Running.{Running}
use Rattle.pef_core.specs.declared.item.Item.{Item}
use Rattle.pef_core.specs.declared.summary.Summary.{Summary}
use Rattle.pef_core.specs.Deeds.{standing}
use Rattle.pef_core.specs.Histories.{pending}
use Rattle.pef_core.specs.Replies.{id_or, processed, timer_octet}
use Rattle.pef_core.specs.Report.{id_digits, controller_scripts}
use Rattle.pef_core.specs.Values.{Values}

-- the ID of the record whose job runs; an alert at once is the job of none
abbrev pub job_id : Option Running → Option ℕ
job_id None = None
job_id (Some r) = if is_some r.work.number then Some (id_of r.work.job.event) else None

-- The values in short, with the step that is due. The mark is the number of records that are processed, and `last` is the ID of the last
-- of these, 0000h where there is none. The postpone timer is 254 while it is disabled, as in the reply to its command.
abbrev pub summary_by : Values → Option Step → Summary
summary_by v due = record {
  records = length v.records;
  processed = v.now.mark;
  last = id_or 0x0000 (processed v.records v.now.mark);
  job = job_id v.now.running;
  status = v.now.status;
  ticks = v.ticks;
  delay = v.delay;
  postpone = timer_octet v.postpone;
  sequence = v.now.sequence;
  pending = is_some due;
}

-- the summary of a history
abbrev pub summary : List ℕ → List (Entry Item) → Summary
summary Z H = summary_by (standing Z H) (pending Z H)

abbrev pub job_text : Option ℕ → List ℕ
job_text None = codes "none"
job_text (Some id) = id_digits id

abbrev pub log_lines : Summary → List ℕ
log_lines s = codes "records " ++ decimal s.records ++ codes "\nprocessed " ++ decimal s.processed ++ codes "\nlast " ++ id_digits s.last

abbrev pub work_lines : Summary → List ℕ
work_lines s =
    codes "\njob " ++ job_text s.job ++ codes "\nimmediate " ++ encode_lower (s.status ∷ []) ++ codes "\nticks " ++ decimal s.ticks
    ++ codes "\ndelay " ++ decimal s.delay ++ codes "\npostpone " ++ decimal s.postpone ++ codes "\nsequence " ++ decimal s.sequence

abbrev pub closed_word : Bool → List ℕ
closed_word closed = if closed then codes " closed" else codes " open"

-- the script that was opened last: its ID, how many items it has, how many of them were taken, and whether it was closed
abbrev pub script_line : Option Script → List ℕ
script_line None = codes "\nscript none"
script_line (Some s) = codes "\nscript " ++ encode_lower (to_be_bytes w32 s.id) ++ codes " " ++ decimal s.count ++ codes " " ++ decimal s.taken ++ closed_word s.closed

abbrev pub pending_line : Bool → List ℕ
pending_line pending = if pending then codes "\npending yes" else codes "\npending no"

abbrev pub page : Summary → Option Script → List ℕ
page s script = log_lines s ++ work_lines s ++ script_line script ++ pending_line s.pending ++ line_end

-- the page of a history
abbrev pub shown_page : List ℕ → List (Entry Item) → List ℕ
shown_page Z H = page (summary Z H) (script_of controller_scripts H)
