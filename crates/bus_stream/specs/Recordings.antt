-- Recordings: the content of each line, and of all lines together.
use Rattle.std.specs.Prelude.{◌≡◌, ℕ, ◌+◌, Bool, true, false, ◌&&◌, ◌==◌, not, if◌then◌else◌, List, [], ◌∷◌, ◌++◌, length, codes, Option, Some, None, is_some, Result, Ok, Err}
use Rattle.std.specs.BTreeSet.{contains_text}
use Rattle.std.specs.List.{list_any, slice_split}
use Rattle.std.specs.Str.{bytes_eq}
use Rattle.bus_frame.specs.Names.{is_unique, is_well_known}
use Rattle.fp_base.specs.Steps.{◌>>=◌, where_it}
use Rattle.fp_base.specs.declared.side.Side.{Side}
use Rattle.fp_base.specs.declared.side.Side.TheVariants as side
use Rattle.bus_stream.specs.declared.recording.Recording.{Recording}
use Rattle.bus_stream.specs.declared.recording.RecordError.{RecordError}
use Rattle.bus_stream.specs.declared.recording.RecordError.TheVariants.{BadRecord, NoMemory}
use Rattle.bus_stream.specs.declared.recording.Draft.{Draft}
use Rattle.fp_base.specs.Parts.{parts_at, hex_in}

-- A recording of no lines
abbrev pub nothing_said : Recording
nothing_said = record { client = None; owners = []; pieces = [] }

-- Adds the line with the client's name, which comes once, before the first piece
unfoldable pub with_client : Recording → List ℕ → Option Recording
with_client r name =
    where_it (length r.pieces == 0 && not (is_some r.client) && is_unique name)
    (record r { client = Some name })

-- Tests whether a well-known name already has an owner
abbrev pub is_owned : Recording → List ℕ → Bool
is_owned r name = list_any (λ o. bytes_eq name o.0) r.owners

-- Adds a well-known name and its owner
abbrev pub push_names : Recording → List ℕ × List ℕ → Recording
push_names r names = record r { owners = r.owners ++ names ∷ [] }

-- Adds a line with a well-known name and its owner. Each name comes once, before the first piece.
unfoldable pub with_owner : Recording → List ℕ → Option Recording
with_owner r names = do
  parts ← parts_at 32 names
  where_it (length r.pieces == 0 && is_well_known parts.0 && is_unique parts.1
      && not (is_owned r parts.0))
      (push_names r parts)

-- Adds a line with a piece that a side sent
unfoldable pub with_piece : Side → Recording → List ℕ → Option Recording
with_piece side r text = do
  bytes ← hex_in text
  Some (record r { pieces = r.pieces ++ (side, bytes) ∷ [] })

-- Adds a line: a word, a space, and the rest, whose meaning the word determines
unfoldable pub with_line : Recording → List ℕ → Option Recording
with_line r line = do
  parts ← parts_at 32 line
  if bytes_eq parts.0 (codes "client") then with_client r parts.1
      else (if bytes_eq parts.0 (codes "owner") then with_owner r parts.1
      else (if bytes_eq parts.0 (codes "c") then with_piece side.Client r parts.1
      else (if bytes_eq parts.0 (codes "b") then with_piece side.Bus r parts.1
      else None)))

-- Continues with the recording, or returns the number of a bad line
abbrev pub or_bad : {A : Type 0} → ℕ → Option Recording → (Recording → Result A ℕ) → Result A ℕ
or_bad number (Some r) next = next r
or_bad number None next = Err number

-- Adds lines, whose numbers begin with `number`, or returns the number of the first bad line. No
-- bytes may follow the last newline.
abbrev pub with_lines : ℕ → Recording → List (List ℕ) → Result Recording ℕ
with_lines number r [] = Ok r
with_lines number r (last ∷ []) = if length last == 0 then Ok r else Err number
with_lines number r (line ∷ next ∷ more) =
    or_bad number (with_line r line) λ s. with_lines (number + 1) s (next ∷ more)

-- The recording that bytes contain, or the number of the first bad line, counted from 1
unfoldable pub recording_of : List ℕ → Result Recording ℕ
recording_of bytes = with_lines 1 nothing_said (slice_split (λ b. b == 10) bytes)

-- The recording of the lines that were read into a draft
abbrev pub said : Draft → Recording
said d = record { client = d.client; owners = d.owners.items; pieces = d.pieces.items }

-- The draft's set contains exactly the names that have an owner
abbrev pub Knows : Draft → Type 0
Knows d = (name : List ℕ) → contains_text d.owned name ≡ is_owned (said d) name

-- If the line is good, it was added to the draft and `good` is true; else `good` is false
abbrev pub Took : Bool → Draft → Option Recording → Type 0
Took good new (Some r) = (good ≡ true) × (said new ≡ r) × Knows new
Took good new None = good ≡ false

-- The result is the recording, or the number of the first bad line. Nothing is stated if memory ran
-- out.
abbrev pub AnswersRecording : Result Recording RecordError → Result Recording ℕ → Type 0
AnswersRecording (Ok r) read = read ≡ Ok r
AnswersRecording (Err (BadRecord number)) read = read ≡ Err number
AnswersRecording (Err NoMemory) read = Unit {0}
