-- Which entries the octets of a state file hold.
--
-- Octet 0 is A5h, octet 1 the kind's number, octets 2 and 3 the settings' length, least significant first; the settings
-- follow, and behind them the first gate. Behind an open gate stand the length of an entry in two octets, its octets and the
-- next gate. A gate is open where it is A5h.
use Rattle.std.specs.Prelude.{◌≡◌, ◌≢◌, ◌⊎◌, ℕ, ◌+◌, ◌*◌, ◌/◌, ◌%◌, ◌<◌, ◌≤◌, List, [], ◌∷◌, ◌++◌, length, slice_index, ⊤}
use Rattle.pef_journal.specs.declared.kind.FileKind.{FileKind}

-- no kind of file has more than 64 octets of settings
abbrev pub IsFileKind : FileKind → Type 0
IsFileKind kind = kind.settings ≤ 64

abbrev pub HasSettingsLength : FileKind → List ℕ → Type 0
HasSettingsLength kind settings = IsFileKind kind × (length settings ≡ kind.settings)

-- what stands before the first gate
abbrev pub header : FileKind → List ℕ → List ℕ
header kind settings = 165 ∷ kind.number ∷ (length settings % 256) ∷ (length settings / 256) ∷ settings

-- entries behind one another, each behind an open gate
abbrev pub blocks : List (List ℕ) → List ℕ
blocks [] = []
blocks (entry ∷ entries) = 165 ∷ (length entry % 256) ∷ (length entry / 256) ∷ (entry ++ blocks entries)

-- what is written behind an entry's gate: its length, its octets and the next gate, closed
abbrev pub frame : List ℕ → List ℕ
frame entry = (length entry % 256) ∷ (length entry / 256) ∷ (entry ++ 0 ∷ [])

-- 1 to 520 octets
abbrev pub IsPayload : List ℕ → Type 0
IsPayload entry = (1 ≤ length entry) × (length entry ≤ 520)

abbrev pub AllPayloads : List (List ℕ) → Type 0
AllPayloads [] = ⊤
AllPayloads (entry ∷ entries) = IsPayload entry × AllPayloads entries

-- from this gate on there are these entries, and then a closed gate
abbrev pub HasEntries : List (List ℕ) → List ℕ → Type 0
HasEntries [] file = (gate : ℕ) × (rest : List ℕ) × (file ≡ gate ∷ rest) × (gate ≢ 165)
HasEntries (entry ∷ entries) file = (rest : List ℕ) × IsPayload entry
    × (file ≡ 165 ∷ (length entry % 256) ∷ (length entry / 256) ∷ (entry ++ rest)) × HasEntries entries rest

-- the file is formatted with this kind and these settings, and has this behind them
abbrev pub HasHeader : FileKind → List ℕ → List ℕ → List ℕ → Type 0
HasHeader kind settings rest file = HasSettingsLength kind settings × (file ≡ header kind settings ++ rest) × (rest ≢ [])

abbrev pub IsForKind : FileKind → List ℕ → Type 0
IsForKind kind file = (settings : List ℕ) × (rest : List ℕ) × HasHeader kind settings rest file

-- octet 0 is that of a formatted file, and more follows
abbrev pub IsMarked : List ℕ → Type 0
IsMarked file = (rest : List ℕ) × (file ≡ 165 ∷ rest) × (1 ≤ length rest)

-- the file is formatted as one of these kinds
abbrev pub IsFormatted : List FileKind → List ℕ → Type 0
IsFormatted [] file = ⊥
IsFormatted (kind ∷ kinds) file = IsForKind kind file ⊎ IsFormatted kinds file

-- the file holds these entries
abbrev pub Stands : FileKind → List ℕ → List (List ℕ) → List ℕ → Type 0
Stands kind settings entries file = (rest : List ℕ) × HasHeader kind settings rest file × HasEntries entries rest

-- the file holds no entries under any settings: it is not a valid file of this kind
abbrev pub StandsForNone : FileKind → List ℕ → Type 0
StandsForNone kind file = (settings : List ℕ) (entries : List (List ℕ)) → Stands kind settings entries file → ⊥

-- the gate at this place is in the file and closed
abbrev pub IsShutAt : List ℕ → ℕ → Type 0
IsShutAt file gate = (gate < length file) × (slice_index file gate ≢ 165)

-- the gate at this place is in the file and open
abbrev pub IsOpenAt : List ℕ → ℕ → Type 0
IsOpenAt file gate = (gate < length file) × (slice_index file gate ≡ 165)

-- the length that stands behind the gate at this place
abbrev pub length_at : List ℕ → ℕ → ℕ
length_at file gate = slice_index file (gate + 1) + 256 * slice_index file (gate + 2)

-- behind the gate at this place stand a length of 1 to 520, an entry of that length and the next gate, all of it in the file
abbrev pub HasEntryWithin : List ℕ → ℕ → Type 0
HasEntryWithin file gate = (1 ≤ length_at file gate) × (length_at file gate ≤ 520) × (gate + 3 + length_at file gate < length file)

-- no gate is at this place, or an open one behind which no entry of 1 to 520 octets and the next gate lie within the file
abbrev pub IsCorruptAt : List ℕ → ℕ → Type 0
IsCorruptAt file gate = (length file ≤ gate) ⊎ (IsOpenAt file gate × (HasEntryWithin file gate → ⊥))

-- the file has its header and these entries with their gates, and this is the place of the next gate, which is in the file
pub record ReachesGate (kind : FileKind) (settings : List ℕ) (entries : List (List ℕ)) (gate : ℕ) (file : List ℕ) : Type 0 where
  pub rest : List ℕ
  pub octets : HasHeader kind settings (blocks entries ++ rest) file
  pub behind : rest ≢ []
  pub place : gate ≡ length (header kind settings ++ blocks entries)

-- behind an open gate at this place stand this entry and the next gate
abbrev pub HasEntryAt : List ℕ → ℕ → List ℕ → Type 0
HasEntryAt file gate entry = (front : List ℕ) × (behind : List ℕ) × (length front ≡ gate) × IsPayload entry × (behind ≢ [])
    × (file ≡ front ++ 165 ∷ (length entry % 256) ∷ (length entry / 256) ∷ (entry ++ behind))
