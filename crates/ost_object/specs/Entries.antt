-- The entries of a commit's metadata, by their bytes.
use Rattle.std.specs.Prelude.{◌≡◌, ⊤, ℕ, List, [], ◌∷◌, map, Result, Ok, Err}
use Rattle.std.specs.Option.{IsSome}
use Rattle.gv_value.specs.Reading.{value_of}
use Rattle.gv_value.specs.Shape.{Shape}
use Rattle.gv_value.specs.Tree.{Tree, Trees}
use Rattle.gv_value.specs.Views.{trees_from}
use Rattle.ost_model.specs.Types.{text_shape, dictionary_shape}
use Rattle.ost_object.specs.declared.error.ObjectError.{ObjectError}
use Rattle.ost_object.specs.declared.error.ObjectError.TheVariants as errors
use Rattle.ost_object.specs.Views.{tree_at}

-- The type `{sv}` of an entry
abbrev pub entry_shape : Shape
entry_shape = Shape.entry text_shape Shape.variant

-- The values of entries, by the bytes of each
abbrev pub entry_trees : List (List ℕ) → Trees
entry_trees entries = trees_from (map (tree_at entry_shape) entries)

-- The dictionary entry of a key and a value, by the bytes of each
abbrev pub pair_tree : List (List ℕ) → Tree
pair_tree (key ∷ value ∷ []) = Tree.entry (tree_at text_shape key) (tree_at Shape.variant value)
pair_tree _ = Tree.nothing

-- Holds if the bytes of each entry are a value of type `{sv}` in normal form
abbrev pub AreEntries : List (List ℕ) → Type 0
AreEntries [] = ⊤
AreEntries (entry ∷ others) = IsSome (value_of entry_shape entry) × AreEntries others

-- Holds if the bytes are metadata with these entries, each in normal form
pub record IsDivided (entries : List (List ℕ)) (bytes : List ℕ) : Type 0 where
  pub value : tree_at dictionary_shape bytes ≡ Tree.array (entry_trees entries)
  pub each : AreEntries entries

-- Holds if dividing metadata into entries may fail with this error: `Malformed` only if the bytes
-- aren't metadata, and `NoMemory` always
abbrev pub Undivided : ObjectError → List ℕ → Type 0
Undivided (errors.Malformed rule) bytes = tree_at dictionary_shape bytes ≡ Tree.nothing
Undivided errors.NoMemory bytes = ⊤

-- Holds if the result has the entries of metadata. It may be `Malformed` only if the bytes aren't
-- metadata, and `NoMemory` always.
abbrev pub Divides : {X : Type 0} → (X → List (List ℕ)) → Result X ObjectError → List ℕ → Type 0
Divides view (Ok x) bytes = IsDivided (view x) bytes
Divides view (Err e) bytes = Undivided e bytes
