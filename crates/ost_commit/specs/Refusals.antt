-- The first row that is refused.
use Rattle.std.specs.Prelude.{◌≡◌, ℕ, suc, ◌+◌, List, [], ◌∷◌, ◌++◌, length, Bool, true, false, not, ◌&&◌, leb, if◌then◌else◌, Option, Some, None}
use Rattle.std.specs.List.{AllByRecursion}
use Rattle.fp_host.specs.Paths.{Elements, is_link_text}
use Rattle.ost_model.specs.declared.limits.TheConstants.{MOST_LEVELS, MOST_FILE_BYTES}
use Rattle.ost_model.specs.Contents.{is_permission}
use Rattle.ost_commit.specs.declared.limits.TheConstants.{MOST_NAMES}
use Rattle.ost_commit.specs.declared.row.TreeRow.{TreeRow}
use Rattle.ost_commit.specs.declared.row.TreeRow.TheVariants as row
use Rattle.ost_commit.specs.declared.built.BuildError.{BuildError}
use Rattle.ost_commit.specs.declared.built.BuildError.TheVariants as error
use Rattle.ost_commit.specs.Rows.{Said, no_entry, a_directory, content, row_path, says}

-- Tests whether a row is valid by itself: a directory's path has at most 64 elements, and that of a
-- file or a symlink at most 65; a file's permission bits are within 0775, and it has at most 1 GiB;
-- a symlink's text is valid
abbrev pub is_good_row : TreeRow → Bool
is_good_row (row.Dir path) = leb (length path) MOST_LEVELS
is_good_row (row.File path mode bytes) =
    leb (length path) (suc MOST_LEVELS)
    && (is_permission mode && leb (length bytes) MOST_FILE_BYTES)
is_good_row (row.Link path target) = leb (length path) (suc MOST_LEVELS) && is_link_text target

-- Holds if each row is valid by itself
abbrev pub AreGoodRows : List TreeRow → Type 0
AreGoodRows rows = AllByRecursion (λ r. is_good_row r ≡ true) rows

-- Tests whether there is no entry
abbrev pub is_nothing : Said → Bool
is_nothing no_entry = true
is_nothing a_directory = false
is_nothing (content d) = false

-- Tests whether the entry is a file or a symlink
abbrev pub is_content : Said → Bool
is_content no_entry = false
is_content a_directory = false
is_content (content d) = true

-- Tests whether a row may be added at a path with this entry: any row if there is no entry, and a
-- directory also if there is a directory
abbrev pub may_stand : TreeRow → Said → Bool
may_stand (row.Dir path) said = not (is_content said)
may_stand (row.File path mode bytes) said = is_nothing said
may_stand (row.Link path target) said = is_nothing said

-- Tests whether neither a file nor a symlink is above the path
abbrev pub is_clear : (Elements → Said) → Elements → Bool
is_clear said [] = true
is_clear said (x ∷ up) = not (is_content (said up)) && is_clear said up

-- The number of names below the root that an entry at a path adds: its own and those of the
-- directories above it, where there is no entry yet
abbrev pub new_names : (Elements → Said) → Elements → ℕ
new_names said [] = 0
new_names said (x ∷ up) = (if is_nothing (said (x ∷ up)) then 1 else 0) + new_names said up

-- Tests whether a row may be added to these entries, which have this number of names
abbrev pub is_taken : (Elements → Said) → ℕ → TreeRow → Bool
is_taken said names r = is_good_row r
    && (is_clear said (row_path r)
    && (may_stand r (said (row_path r)) && leb (names + new_names said (row_path r)) MOST_NAMES))

-- The number, counted from 1, of the first row that is refused, after the rows `before` with this
-- number of names
abbrev pub refused_remainder : List TreeRow → ℕ → List TreeRow → Option ℕ
refused_remainder before names [] = None
refused_remainder before names (r ∷ rs) =
    if is_taken (says before) names r
    then refused_remainder (before ++ r ∷ []) (names + new_names (says before) (row_path r)) rs
    else Some (length before + 1)

-- The number, counted from 1, of the first row that is refused
abbrev pub first_refused : List TreeRow → Option ℕ
first_refused rs = refused_remainder [] 0 rs

-- Holds if gathering the rows may fail with this error
abbrev pub IsRefusal : List TreeRow → BuildError → Type 0
IsRefusal rs (error.Row n) = first_refused rs ≡ Some n
IsRefusal rs error.Collision = ⊥
IsRefusal rs error.TooLarge = ⊥
IsRefusal rs error.NoMemory = Unit {0}
