-- The system event log as a list of records, in the order in which they were added. That a record keeps the ID that it comes with, that
-- a held ID is refused, and that a log has room for 1,024 records and takes no more, is this project's rule.
use Rattle.std.specs.Prelude.{◌≢◌, ℕ, ◌≤◌, ◌==◌, nat_lt, List, map, Contains, length, Option, Some, None, is_some, if◌then◌else◌}
use Rattle.std.specs.List.{position, AllPairs}
use Rattle.event_record.specs.Fields.{record_id}
use Rattle.event_record.specs.declared.fault.LogFault.{LogFault}
use Rattle.event_record.specs.declared.fault.LogFault.TheVariants.{Duplicate, Full}

-- no two records have one ID, and there are at most 1,024
pub record IsLog (log : List (List ℕ)) : Type 0 where
  pub within : length log ≤ 1024
  pub distinct : AllPairs (λ older newer. record_id older ≢ record_id newer) log

-- a record with this ID is held
abbrev pub HoldsId : List (List ℕ) → ℕ → Type 0
HoldsId log id = Contains (map record_id log) id

-- the place of the record with this ID
abbrev pub place_in : List (List ℕ) → ℕ → Option ℕ
place_in log id = position (λ event. record_id event == id) log

-- why a record isn't added, where it isn't: its ID is held, or else the log is full
abbrev pub add_fault : List (List ℕ) → List ℕ → Option LogFault
add_fault log event =
    if is_some (place_in log (record_id event)) then Some (Duplicate (record_id event))
    else (if nat_lt (length log) 1024 then None else Some Full)
