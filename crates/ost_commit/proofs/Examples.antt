-- Worked rows, closed by computing.
use Rattle.std.proofs.Common.{◌≡◌, ℕ, List, [], ◌∷◌, ◌++◌, true, false, Some, None, refl}
use Rattle.std.specs.Prelude.{codes, replicate}
use Rattle.std.specs.Str.{is_utf8, chars}
use lib.Utf8.{encode}
use Rattle.fp_host.specs.Paths.{Elements}
use Rattle.fp_name.specs.Refs.{Ref, ref_text}
use Rattle.fp_base.specs.declared.object.ObjKind.TheVariants as kinds
use Rattle.ost_model.specs.declared.object.Object.{Object}
use Rattle.ost_model.specs.Binding.{binding_in}
use Rattle.ost_model.specs.Contents.{file_digest, link_digest}
use Rattle.ost_commit.specs.declared.row.TreeRow.{TreeRow}
use Rattle.ost_commit.specs.declared.row.TreeRow.TheVariants as row
use Rattle.ost_commit.specs.declared.built.BuiltObject.{BuiltObject}
use Rattle.ost_commit.specs.Rows.{no_entry, a_directory, content, says}
use Rattle.ost_commit.specs.Refusals.{is_taken, first_refused}
use Rattle.ost_commit.specs.Objects.{have_of}
use Rattle.ost_commit.specs.Commits.{bound_to}
use Rattle.ost_commit.specs.Sizes.{IsUnwritten}

abbrev a : List ℕ
a = codes "a"

abbrev b : List ℕ
b = codes "b"

abbrev folder : Elements → TreeRow
folder path = row.Dir path

-- a link, a file without bytes of the mode 0644 (octal)
abbrev link : Elements → TreeRow
link path = row.Link path (codes "x")

abbrev file : Elements → TreeRow
file path = row.File path 0x1A4 []

-- ---- what rows say: the file a/b, the link b, the directory a/c

module _ (bytes : List ℕ) where
  abbrev rows : List TreeRow
  rows = row.File (b ∷ a ∷ []) 0x1ED bytes ∷ link (b ∷ []) ∷ folder (codes "c" ∷ a ∷ []) ∷ []

  the_root : says rows [] ≡ a_directory
  the_root = refl

  above : says rows (a ∷ []) ≡ a_directory
  above = refl

  the_file : says rows (b ∷ a ∷ []) ≡ content (file_digest 0x1ED bytes)
  the_file = refl

  the_link : says rows (b ∷ []) ≡ content (link_digest (codes "x"))
  the_link = refl

  the_directory : says rows (codes "c" ∷ a ∷ []) ≡ a_directory
  the_directory = refl

  no_name : says rows (codes "d" ∷ a ∷ []) ≡ no_entry
  no_name = refl

  below_a_file : says rows (a ∷ b ∷ a ∷ []) ≡ no_entry
  below_a_file = refl

-- no rows are the empty directory
empty : says [] [] ≡ a_directory
empty = refl

-- ---- the first row that is refused

all_taken : first_refused (file (b ∷ a ∷ []) ∷ folder (a ∷ []) ∷ folder (a ∷ []) ∷ link (b ∷ []) ∷ []) ≡ None
unfolding is_utf8 chars encode
all_taken = refl

file_again : first_refused (file (b ∷ a ∷ []) ∷ file (b ∷ a ∷ []) ∷ []) ≡ Some 2
file_again = refl

directory_over_a_file : first_refused (file (b ∷ a ∷ []) ∷ folder (b ∷ a ∷ []) ∷ []) ≡ Some 2
directory_over_a_file = refl

link_over_a_directory : first_refused (file (b ∷ a ∷ []) ∷ link (a ∷ []) ∷ []) ≡ Some 2
unfolding is_utf8 chars encode
link_over_a_directory = refl

below_a_link : first_refused (folder (a ∷ []) ∷ link (b ∷ []) ∷ file (a ∷ b ∷ []) ∷ []) ≡ Some 3
unfolding is_utf8 chars encode
below_a_link = refl

-- the root is a directory
root_again : first_refused (folder [] ∷ []) ≡ None
root_again = refl

file_for_the_root : first_refused (file [] ∷ []) ≡ Some 1
file_for_the_root = refl

-- 0666 (octal)
mode_outside : first_refused (row.File (a ∷ []) 0x1B6 [] ∷ []) ≡ Some 1
mode_outside = refl

no_text : first_refused (row.Link (a ∷ []) [] ∷ []) ≡ Some 1
no_text = refl

as_deep_as_may_be : first_refused (folder (replicate 64 a) ∷ file (b ∷ replicate 64 a) ∷ []) ≡ None
as_deep_as_may_be = refl

too_deep : first_refused (folder (replicate 65 a) ∷ []) ≡ Some 1
too_deep = refl

in_too_deep : first_refused (file (b ∷ replicate 65 a) ∷ []) ≡ Some 1
in_too_deep = refl

-- with a/b two names come, where nothing is yet
last_names : is_taken (says []) 39998 (file (b ∷ a ∷ [])) ≡ true
last_names = refl

too_many_names : is_taken (says []) 39999 (file (b ∷ a ∷ [])) ≡ false
too_many_names = refl

one_name_of_two : is_taken (says (folder (a ∷ []) ∷ [])) 39999 (file (b ∷ a ∷ [])) ≡ true
one_name_of_two = refl

-- ---- objects, and the ref of a commit

module _ (d : List ℕ) (object other : Object) where
  abbrev two : List BuiltObject
  two = record { digest = a; kind = kinds.DirTree; object = object } ∷ record { digest = a; kind = kinds.File; object = other } ∷ []

  of_a_kind : have_of two a kinds.File ≡ Some other
  of_a_kind = refl

  of_no_digest : have_of two b kinds.File ≡ None
  of_no_digest = refl

bound : (r : Ref) → binding_in (bound_to r) ≡ Some (ref_text r ∷ [])
bound r = refl

-- ---- a dirtree of one file, `a`, has bytes

one_file_has_room : IsUnwritten (record { files = record { name = a; digest = replicate 32 7 } ∷ []; dirs = [] }) → ⊥
unfolding is_utf8 chars encode
one_file_has_room none = none.none (a ++ (0 ∷ replicate 32 7) ++ (2 ∷ 35 ∷ 36 ∷ [])) refl
