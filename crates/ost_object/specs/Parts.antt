-- The values of the parts of a container, each by its own bytes.
use Rattle.std.specs.Prelude.{◌≡◌, ⊤, ℕ, Bool, List, [], ◌∷◌, map, Option, Some, None, option_map, option_and_then}
use denote.Ref.{Bor}
use Rattle.std.specs.Option.{IsSome}
use Rattle.gv_value.specs.Reading.{value_of}
use Rattle.gv_value.specs.Shape.{Shape, Shapes, no_shapes, shape, tuple}
use Rattle.gv_value.specs.Tree.{Tree, Trees, no_trees, tree}
use Rattle.gv_value.specs.Views.{trees_from}
use Rattle.gv_decode.specs.declared.stepping.Elements.{Elements}
use Rattle.gv_decode.specs.Stepped.{elements_left, AreFewer}
use Rattle.ost_model.specs.Contents.{number_shape, bytes_shape, attributes_shape}
use Rattle.ost_model.specs.Types.{text_shape, related_shape, dirs_shape}
use Rattle.ost_model.specs.Fields.{FileRow, DirRow, file_in, dir_in, items_in, each_of}
use Rattle.ost_object.specs.Answers.{only}
use Rattle.ost_object.specs.Views.{tree_at}

-- ---- tuples

-- The values of members, by their types and the bytes of each
abbrev pub each_tree : Shapes → List (List ℕ) → Trees
each_tree (shape t ts) (c ∷ cs) = tree (tree_at t c) (each_tree ts cs)
each_tree _ _ = no_trees

-- Holds if there are as many members as types, and the bytes of each are a value of its type
abbrev pub AreEach : Shapes → List (List ℕ) → Type 0
AreEach no_shapes [] = ⊤
AreEach (shape t ts) (c ∷ cs) = IsSome (value_of t c) × AreEach ts cs
AreEach _ _ = ⊥

-- The types `say` of a file's name and its digest
abbrev pub file_shapes : Shapes
file_shapes = shape text_shape (shape bytes_shape no_shapes)

-- The types `sayay` of a directory's name and its two digests
abbrev pub dir_shapes : Shapes
dir_shapes = shape text_shape (shape bytes_shape (shape bytes_shape no_shapes))

-- The types `a(say)a(sayay)` of a dirtree's files and directories
abbrev pub rows_shapes : Shapes
rows_shapes = shape related_shape (shape dirs_shape no_shapes)

-- The types `uuua(ayay)` of a dirmeta's owner, group, mode and extended attributes
abbrev pub meta_shapes : Shapes
meta_shapes = shape number_shape
    (shape number_shape (shape number_shape (shape attributes_shape no_shapes)))

-- ---- arrays

-- Holds if the bytes of each row are a value of the type
abbrev pub AreRows : Shape → List (List ℕ) → Type 0
AreRows t [] = ⊤
AreRows t (c ∷ cs) = IsSome (value_of t c) × AreRows t cs

-- Holds if rows are left, and the bytes of each are a value of the type
abbrev pub AreLeft : Shape → Option (List (List ℕ)) → Type 0
AreLeft t None = ⊥
AreLeft t (Some cs) = AreRows t cs

-- The values of rows, by their type and the bytes of each
abbrev pub row_trees : Shape → List (List ℕ) → Trees
row_trees t cs = trees_from (map (tree_at t) cs)

-- The contents of the rows, if all rows have one and each of these passes a test
abbrev pub all_passing : {A : Type 0} → (A → Bool) → (Tree → Option A) → Shape
    → List (List ℕ) → Option (List A)
all_passing test one t cs = option_and_then (only test) (each_of one (row_trees t cs))

-- The contents of the rows that are left, if all rows have one and each of these passes a test
abbrev pub rows_passing : {A : Type 0} → (A → Bool) → (Tree → Option A) → Shape
    → Option (List (List ℕ)) → Option (List A)
rows_passing test one t left = option_and_then (all_passing test one t) left

-- The files of an array
abbrev pub files_in : Tree → Option (List FileRow)
files_in v = option_and_then (each_of file_in) (items_in v)

-- The directories of an array
abbrev pub dirs_in : Tree → Option (List DirRow)
dirs_in v = option_and_then (each_of dir_in) (items_in v)

-- Holds if `child` is the first of the rows that were left, and `others` are the rows after it
abbrev pub IsNext : Bor (List ℕ) → Elements → Elements → Type 0
IsNext child others rows =
    (elements_left rows ≡ option_map (λ cs. child.now ∷ cs) (elements_left others))
    × AreFewer child others rows

-- Holds if the step has the first of the rows that were left and the rows after it, or is `None`
-- and no row was left
abbrev pub IsStep : Option (Bor (List ℕ) × Elements) → Elements → Type 0
IsStep (Some s) rows = IsNext s.0 s.1 rows
IsStep None rows = elements_left rows ≡ Some []
