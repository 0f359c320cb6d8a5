-- Writing descriptions.
use Rattle.std.specs.Prelude.{◌≡◌, ◌<◌, ◌^◌, ◌/◌, ◌%◌, ◌+◌, ℕ, Bool, true, false, ◌==◌, List, [], ◌∷◌, ◌++◌, codes, decimal, flat_map}
use Rattle.std.specs.List.{AllByRecursion, list_all, list_any}
use Rattle.std.specs.Str.{is_utf8}
use Rattle.hex.specs.Hex.{IsBytes, encode_lower}
use Rattle.fp_host.specs.Paths.{Elements, is_element, cut, path_text}
use Rattle.ost_commit.specs.declared.row.TreeRow.{TreeRow}
use Rattle.ost_commit.specs.declared.row.TreeRow.TheVariants as row
use Rattle.ost_description.specs.declared.description.Description.{Description}
use Rattle.ost_description.specs.Parts.{is_subject}

-- Permission bits as three octal digits
abbrev pub mode_text : ℕ → List ℕ
mode_text mode = (48 + mode / 64) ∷ (48 + mode / 8 % 8) ∷ (48 + mode % 8) ∷ []

-- The content of a file in lower-case hexadecimal, or a dash for no bytes
abbrev pub content_text : List ℕ → List ℕ
content_text [] = codes "-"
content_text (b ∷ bs) = encode_lower (b ∷ bs)

-- The line of a row, without its newline
abbrev pub row_text : TreeRow → List ℕ
row_text (row.Dir path) = codes "dir " ++ path_text path
row_text (row.File path mode bytes) =
    codes "file " ++ (path_text path ++ (32 ∷ (mode_text mode ++ (32 ∷ content_text bytes))))
row_text (row.Link path target) = codes "link " ++ (path_text path ++ (32 ∷ target))

-- A line with its newline
abbrev pub with_newline : List ℕ → List ℕ
with_newline line = line ++ 10 ∷ []

-- The lines of rows
abbrev pub rows_text : List TreeRow → List ℕ
rows_text rows = flat_map (λ r. with_newline (row_text r)) rows

-- The first two lines, with the time and the subject
abbrev pub heading_text : ℕ → List ℕ → List ℕ
heading_text timestamp subject = with_newline (codes "timestamp " ++ decimal timestamp)
    ++ with_newline (codes "subject " ++ subject)

-- The text of a description
abbrev pub description_text : Description → List ℕ
description_text d = heading_text d.timestamp d.subject ++ rows_text d.rows

-- ---- what can be written

-- Tests whether a byte is a space
abbrev pub is_space : ℕ → Bool
is_space b = b == 32

-- Tests whether a byte is a newline
abbrev pub is_newline : ℕ → Bool
is_newline b = b == 10

-- The path can be written: its text is UTF-8 without spaces and newlines, and reads as the path
pub record IsWritablePath (path : Elements) : Type 0 where
  pub utf8 : is_utf8 (path_text path) ≡ true
  pub no_space : list_any is_space (path_text path) ≡ false
  pub no_newline : list_any is_newline (path_text path) ≡ false
  pub elements : list_all is_element path ≡ true
  pub own : cut (path_text path) ≡ path

-- The row of this file can be written
pub record IsWritableFile (path : Elements) (mode : ℕ) (bytes : List ℕ) : Type 0 where
  pub path_good : IsWritablePath path
  pub mode_small : mode < 512
  pub bytes_good : IsBytes bytes

-- The row of this symlink can be written
pub record IsWritableLink (path : Elements) (target : List ℕ) : Type 0 where
  pub path_good : IsWritablePath path
  pub utf8 : is_utf8 target ≡ true
  pub no_newline : list_any is_newline target ≡ false

-- Holds if the row can be written
abbrev pub IsWritableRow : TreeRow → Type 0
IsWritableRow (row.Dir path) = IsWritablePath path
IsWritableRow (row.File path mode bytes) = IsWritableFile path mode bytes
IsWritableRow (row.Link path target) = IsWritableLink path target

-- The description can be written
pub record IsWritable (d : Description) : Type 0 where
  pub timestamp : d.timestamp < 2 ^ 64
  pub utf8 : is_utf8 d.subject ≡ true
  pub subject : is_subject d.subject ≡ true
  pub rows : AllByRecursion IsWritableRow d.rows
