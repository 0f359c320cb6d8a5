-- The extensions in a launch's text: for each extension point, the candidate that is found.
use Rattle.std.specs.Prelude.{ℕ, List, [], ◌∷◌, ◌++◌, fold, codes}
use Rattle.std.specs.List.{flat_map}
use Rattle.std.specs.Option.{option_map_or}
use Rattle.std.specs.BTreeSet.{insert_key}
use Rattle.std.specs.Cmp.Lexicographic.{slice_cmp}
use Rattle.std.specs.Ordering.{nat_cmp}
use Rattle.fp_name.specs.Hex.{hex}
use Rattle.fp_name.specs.Refs.{Ref, ref_text}
use Rattle.fp_small.specs.declared.state.State.{State}
use Rattle.fl_extension.specs.declared.point.Point.{Point}
use Rattle.fl_extension.specs.Found.{found_ref, row_of}

-- The deployed commit of a ref in hexadecimal; empty if the ref isn't deployed
abbrev pub commit_of : State → Ref → List ℕ
commit_of state r = option_map_or (λ row. hex row.commit) (row_of state r) []

-- The text `NAME=COMMIT;` of an extension
abbrev pub extension_with : State → List ℕ → Ref → List ℕ
extension_with state name r = name ++ (61 ∷ (commit_of state r ++ 59 ∷ []))

-- The text of the extension that is found for a point; empty if none is found
abbrev pub extension_of : State → Point → List ℕ
extension_of state point =
    option_map_or (extension_with state point.name) (found_ref state point) []

-- The texts of the extensions that are found for these points
unfoldable pub extensions_of : State → List Point → List ℕ
extensions_of state points = flat_map (extension_of state) points

-- ---- mounts

-- The line of a mount, `/app/DIRECTORY=REF` for an extension of the application,
-- `/usr/DIRECTORY=REF` for one of the runtime
abbrev pub mount_with : List ℕ → List ℕ → Ref → List ℕ
mount_with front directory r = front ++ (directory ++ (61 ∷ ref_text r))

-- The line of a point's mount; none if no extension is found
abbrev pub mount_of : List ℕ → State → Point → List (List ℕ)
mount_of front state point =
    option_map_or (λ r. mount_with front point.directory r ∷ []) (found_ref state point) []

-- The lines of these points' mounts
abbrev pub mounts_of : List ℕ → State → List Point → List (List ℕ)
mounts_of front state points = flat_map (mount_of front state) points

-- The ascending lines with one more inserted, unless it is among them
abbrev pub with_line : List (List ℕ) → List ℕ → List (List ℕ)
with_line = insert_key (slice_cmp nat_cmp)

-- The ascending lines with more inserted
unfoldable pub with_lines : List (List ℕ) → List (List ℕ) → List (List ℕ)
with_lines lines more = fold with_line lines more

-- The lines of all mounts of a launch, strictly ascending by their bytes
unfoldable pub mount_lines : State → List Point → List Point → List (List ℕ)
mount_lines state app_points runtime_points = with_lines
    (with_lines [] (mounts_of (codes "/app/") state app_points))
    (mounts_of (codes "/usr/") state runtime_points)
