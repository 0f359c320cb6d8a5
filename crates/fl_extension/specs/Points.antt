-- Extension points of metadata: the groups `[Extension NAME]` of flatpak-metadata(5).
use Rattle.std.specs.Prelude.{ℕ, Bool, not, ◌&&◌, ◌||◌, List, [], ◌∷◌, false, Option, Some, None, option_map, unwrap_or, codes, if◌then◌else◌}
use Rattle.std.specs.List.{list_all, flat_map}
use Rattle.std.specs.Option.{option_map_or}
use Rattle.std.specs.Str.{bytes_eq}
use Rattle.fp_host.specs.Paths.{is_element, cut}
use Rattle.fp_keyfile.specs.Grammar.{is_key_byte, is_blank, ends_so}
use Rattle.fp_keyfile.specs.KeyFile.{value_in}
use Rattle.fp_keyfile.specs.declared.group.Group.{Group}
use Rattle.fp_name.specs.Grammar.{is_id, is_branch}
use Rattle.fp_name.specs.Refs.{Ref, ref_with}
use Rattle.fp_name.specs.declared.kind.RefKind.TheVariants.{Runtime}
use Rattle.fp_small.specs.Order.{sorted_by}
use Rattle.fl_meta.specs.Separators.{entries_of}
use Rattle.fl_meta.specs.Metadata.{extension_of}
use Rattle.fl_extension.specs.declared.point.Point.{Point}

-- Tests whether the key has the value `true`
abbrev pub is_on : Group → List ℕ → Bool
is_on g key = option_map_or (λ value. bytes_eq value (codes "true")) (value_in g key) false

-- Tests whether a text is the path of a directory other than the root, without `=` and control
-- characters, and without a space or tab at its end. In a line `/app/DIRECTORY=VALUE` the first `=`
-- ends the directory, and blanks before it don't belong to the key.
abbrev pub is_directory : List ℕ → Bool
is_directory text = list_all is_element (cut text)
    && (list_all is_key_byte text && not (ends_so is_blank text))

-- ---- candidates

-- The versions that are tried: the entries of `versions`, else the value of `version`, else the
-- ref's own branch
abbrev pub versions_of : Group → Ref → List (List ℕ)
versions_of g r = option_map_or entries_of (value_in g (codes "versions"))
    (unwrap_or (value_in g (codes "version")) r.branch ∷ [])

-- The texts that weren't seen before, each of them once, at its first position
abbrev pub each_new : (List ℕ → Bool) → List (List ℕ) → List (List ℕ)
each_new seen [] = []
each_new seen (text ∷ texts) = if seen text then each_new seen texts
    else text ∷ each_new (λ other. bytes_eq other text || seen other) texts

-- The texts, each of them once, at its first position
abbrev pub each_once : List (List ℕ) → List (List ℕ)
each_once texts = each_new (λ text. false) texts

-- The runtime's ref at the branch of this version, if the version is a branch
abbrev pub candidate_of : List ℕ → List ℕ → List ℕ → List Ref
candidate_of name arch version =
    if is_branch version then ref_with Runtime name arch version ∷ [] else []

-- The candidates of the point of this NAME, in the order in which they are tried, each of them once
unfoldable pub candidates_of : Group → Ref → List ℕ → List Ref
candidates_of g r name = flat_map (candidate_of name r.arch) (each_once (versions_of g r))

-- The branch of a ref
abbrev pub branch_of : Ref → List ℕ
branch_of r = r.branch

-- ---- points

-- The point of a group with this NAME and directory
abbrev pub point_with : Group → Ref → List ℕ → List ℕ → Point
point_with g r name directory = record {
  name = name;
  directory = directory;
  candidates = candidates_of g r name;
  auto = not (is_on g (codes "no-autodownload"));
}

-- The point of a group with this NAME and `directory`, if that is a directory
abbrev pub point_at : Group → Ref → List ℕ → Option (List ℕ) → List Point
point_at g r name None = []
point_at g r name (Some directory) =
    if is_directory directory then point_with g r name directory ∷ [] else []

-- The point of a group with this NAME, if that is an ID and `subdirectories` isn't on
abbrev pub point_named : Group → Ref → List ℕ → List Point
point_named g r name = if is_id name && not (is_on g (codes "subdirectories"))
    then point_at g r name (value_in g (codes "directory")) else []

-- The point of a group, if it is a valid group `Extension NAME`
unfoldable pub point_of : Ref → Group → List Point
point_of r g = flat_map (point_named g r) (extension_of g)

-- There is a point
abbrev pub HasPoint : List Point → Type 0
HasPoint [] = ⊥
HasPoint (point ∷ points) = Unit {0}

-- The NAME of a point
abbrev pub name_of : Point → List ℕ
name_of point = point.name

-- The points of a ref's metadata, ascending by their names
unfoldable pub points_of : List Group → Ref → List Point
points_of file r = sorted_by name_of (flat_map (point_of r) file)
