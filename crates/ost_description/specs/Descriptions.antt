-- Descriptions of trees: the contents of each line, and those of all lines.
use Rattle.std.specs.Prelude.{ℕ, ◌+◌, ◌==◌, if◌then◌else◌, List, [], ◌∷◌, length, codes, Option, Some, None, is_some, option_map, Result, Ok, Err}
use Rattle.std.specs.List.{slice_split}
use Rattle.std.specs.Str.{bytes_eq}
use Rattle.ost_commit.specs.declared.row.TreeRow.{TreeRow}
use Rattle.ost_commit.specs.declared.row.TreeRow.TheVariants as row
use Rattle.ost_commit.specs.Refusals.{first_refused}
use Rattle.ost_description.specs.declared.description.Description.{Description}
use Rattle.fp_base.specs.Steps.{◌>>=◌, where_it}
use Rattle.ost_description.specs.Parts.{number_in, mode_in, content_in, path_in, text_in, is_subject}
use Rattle.fp_base.specs.Parts.{parts_at}

-- The part of a line after its first word and a space, if that is the word
abbrev pub said_after : List ℕ → List ℕ → Option (List ℕ)
said_after word line = parts_at 32 line >>= λ parts. where_it (bytes_eq parts.0 word) parts.1

-- The number in a line `timestamp T`
unfoldable pub timestamp_in : List ℕ → Option ℕ
timestamp_in line = said_after (codes "timestamp") line >>= number_in

-- The text in a line `subject TEXT`
unfoldable pub subject_in : List ℕ → Option (List ℕ)
subject_in line = do
  rest ← said_after (codes "subject") line
  text ← text_in rest
  where_it (is_subject text) text

-- The row of a line `dir PATH`, by the part after its first word
unfoldable pub folder_in : List ℕ → Option TreeRow
folder_in rest = option_map row.Dir (path_in rest)

-- The row of a line `file PATH MODE HEX`, by the part after its first word
unfoldable pub file_in : List ℕ → Option TreeRow
file_in rest = do
  first ← parts_at 32 rest
  second ← parts_at 32 first.1
  path ← path_in first.0
  mode ← mode_in second.0
  bytes ← content_in second.1
  Some (row.File path mode bytes)

-- The row of a line `link PATH TARGET`, by the part after its first word. The text of the link
-- extends to the end of the line.
unfoldable pub link_in : List ℕ → Option TreeRow
link_in rest = do
  parts ← parts_at 32 rest
  path ← path_in parts.0
  target ← text_in parts.1
  Some (row.Link path target)

-- The row of a line, unless it is malformed
unfoldable pub row_in : List ℕ → Option TreeRow
row_in line = do
  parts ← parts_at 32 line
  if bytes_eq parts.0 (codes "dir") then folder_in parts.1
      else (if bytes_eq parts.0 (codes "file") then file_in parts.1
      else (if bytes_eq parts.0 (codes "link") then link_in parts.1
      else None))

-- ---- lines

-- The lines, each of them ended by a newline, and the text after the last newline
abbrev pub pieces : List ℕ → List (List ℕ)
pieces bytes = slice_split (λ b. b == 10) bytes

-- The rows with one in front, or no rows if there is none to put in front
abbrev pub row_before : Option TreeRow → List TreeRow → List TreeRow
row_before None rows = []
row_before (Some r) rows = r ∷ rows

-- The rows of lines, up to the first malformed line
abbrev pub rows_in : List (List ℕ) → List TreeRow
rows_in [] = []
rows_in (last ∷ []) = []
rows_in (line ∷ next ∷ more) = row_before (row_in line) (rows_in (next ∷ more))

-- The number of the first malformed line, counted from `number`. Text after the last newline counts
-- as one.
abbrev pub unformed_in : ℕ → List (List ℕ) → Option ℕ
unformed_in number [] = None
unformed_in number (last ∷ []) = if length last == 0 then None else Some number
unformed_in number (line ∷ next ∷ more) =
    if is_some (row_in line) then unformed_in (number + 1) (next ∷ more) else Some number

-- ---- the whole

-- The description, if no line is bad, and otherwise the number of the first bad line. `k` is the
-- number of the first row that is refused; the rows begin at line 3. A row that is refused precedes
-- the malformed line.
abbrev pub checked_description : Description → Option ℕ → Option ℕ → Result Description ℕ
checked_description d unformed (Some k) = Err (k + 2)
checked_description d (Some number) None = Err number
checked_description d None None = Ok d

-- The description with this time, this subject and the rows of these lines, or the number of the
-- first bad line
abbrev pub with_rows : ℕ → List ℕ → List (List ℕ) → Result Description ℕ
with_rows timestamp subject lines =
    checked_description (record { timestamp = timestamp; subject = subject; rows = rows_in lines })
    (unformed_in 3 lines) (first_refused (rows_in lines))

-- The next step with a value, or the number of the bad line if there is no value
abbrev pub or_bad : {A B : Type 0} → ℕ → Option A → (A → Result B ℕ) → Result B ℕ
or_bad number None next = Err number
or_bad number (Some x) next = next x

-- The contents of the first line, by a reader of lines, and the lines after it
abbrev pub first_by : {A : Type 0} → (List ℕ → Option A) → List (List ℕ)
    → Option (A × List (List ℕ))
first_by read [] = None
first_by read (last ∷ []) = None
first_by read (line ∷ after ∷ more) = option_map (λ x. (x, after ∷ more)) (read line)

-- The description in lines, or the number of the first bad line
abbrev pub described_by : List (List ℕ) → Result Description ℕ
described_by lines = or_bad 1 (first_by timestamp_in lines) λ first. or_bad 2
    (first_by subject_in first.1) λ second. with_rows first.0 second.0 second.1

-- The description in bytes, or the number of the first bad line, counted from 1: the first that is
-- malformed or whose row is refused. A missing line, and text after the last newline, are bad.
unfoldable pub described : List ℕ → Result Description ℕ
described bytes = described_by (pieces bytes)
