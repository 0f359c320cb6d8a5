-- The runtimes, metadata and extension points of deployed commits, by the objects of a store and
-- the rows of a state.
use Rattle.std.specs.Prelude.{◌≡◌, ℕ, Bool, false, List, map, find, Option, None, option_map, option_to_list, if◌then◌else◌}
use Rattle.std.specs.List.{flat_map, AllByRecursion}
use Rattle.std.specs.Option.{option_map_or}
use Rattle.std.specs.Str.{bytes_eq}
use Rattle.fp_name.specs.Pins.{is_app}
use Rattle.fp_name.specs.Refs.{Ref, ref_text}
use Rattle.fp_small.specs.declared.state.RefRow.{RefRow}
use Rattle.ost_model.specs.Objects.{Have}
use Rattle.fl_meta.specs.declared.meta.Meta.{Meta}
use Rattle.fl_extension.specs.declared.point.Point.{Point}
use Rattle.fl_installed.specs.Metadata.{meta_said, runtime_named, points_in}
use Rattle.fl_installed.specs.Files.{metadata_in}

-- The runtime that a ref's commit names
abbrev pub runtime_at : Have → Ref → List ℕ → Option Ref
runtime_at have name commit = runtime_named name (metadata_in have commit)

-- Tests whether the other ref is `name`; false if there is none
abbrev pub is_name : Ref → Option Ref → Bool
is_name name other = option_map_or (λ o. bytes_eq (ref_text o) (ref_text name)) other false

-- Tests whether the deployed commit of the row names the runtime
abbrev pub names_it : Have → Ref → RefRow → Bool
names_it have runtime row = is_name runtime (runtime_at have row.name row.commit)

-- The first ref of these rows whose deployed commit names the runtime
abbrev pub first_user : Have → Ref → List RefRow → Option Ref
first_user have runtime rows = option_map (λ row. row.name) (find (names_it have runtime) rows)

-- A ref with its metadata, if that is valid
abbrev pub named_meta : Ref → List ℕ → Option (Ref × Meta)
named_meta name bytes = option_map (λ meta. (name, meta)) (meta_said name bytes)

-- An application with the metadata of its deployed commit, if that is valid; none for a runtime
abbrev pub meta_at : Have → RefRow → Option (Ref × Meta)
meta_at have row =
    if is_app row.name then named_meta row.name (metadata_in have row.commit) else None

-- The applications with their metadata, in the order of the rows
abbrev pub installed_metas : Have → List RefRow → List (Ref × Meta)
installed_metas have rows = flat_map (λ row. option_to_list (meta_at have row)) rows

-- A ref with the extension points of its deployed commit
abbrev pub points_at : Have → RefRow → Ref × List Point
points_at have row = (row.name, points_in row.name (metadata_in have row.commit))

-- The refs with their extension points, in the order of the rows
abbrev pub installed_points : Have → List RefRow → List (Ref × List Point)
installed_points have rows = map (points_at have) rows

-- The deployed commits of these rows have the same files `metadata` in `i` and `j`
abbrev pub SaySame : Have → Have → List RefRow → Type 0
SaySame i j rows = AllByRecursion (λ row. metadata_in j row.commit ≡ metadata_in i row.commit) rows
