-- The places of refs by their paths, in the order of the paths' texts.
use Rattle.std.specs.Prelude.{◌≡◌, ◌↔◌, ◌⊎◌, ℕ, List, [], ◌∷◌, codes, true, Option, Some, None, option_map, option_and_then, if◌then◌else◌, Contains, String, string_bytes}
use Rattle.std.specs.List.{AllByRecursion}
use Rattle.std.specs.Str.{bytes_eq}
use Rattle.std.specs.String.{string_cmp}
use Rattle.std.specs.BTreeMap.{insert_entry}
use Rattle.std.specs.Map.{values_of}
use Rattle.fp_host.specs.Paths.{Elements}
use Rattle.fp_host.specs.View.{View}
use Rattle.fp_host.specs.Calls.{IsFile}
use Rattle.fp_name.specs.Grammar.{is_remote_name}
use Rattle.fp_name.specs.Refs.{Ref, of_parts, if_ref}
use Rattle.ost_refs.specs.Places.{heads, remotes, place_path, is_place}
use Rattle.fp_small.specs.Walks.{IsLevel, IsTextOf}
use Rattle.ost_refs.specs.declared.listing.TheConstants.{HEAD_DEPTH, REMOTE_DEPTH}
use Rattle.ost_refs.specs.declared.place.RefPlace.{RefPlace}
use Rattle.ost_refs.specs.declared.place.RefPlace.TheVariants.{Head, Remote}

-- The ref with these four parts, if they are valid
abbrev pub ref_named : List ℕ → List ℕ → List ℕ → List ℕ → Option Ref
ref_named kind id arch branch = option_and_then if_ref (of_parts (kind ∷ id ∷ arch ∷ branch ∷ []))

-- The place of a remote's ref, if the name of the remote is valid
abbrev pub remote_named : List ℕ → Option Ref → Option RefPlace
remote_named origin r = if is_remote_name origin then option_map (Remote origin) r else None

-- The place whose file has this path in some store, by the last six elements of the path
abbrev pub place_named : Elements → Option RefPlace
place_named (branch ∷ arch ∷ id ∷ kind ∷ origin ∷ folder ∷ up) = if bytes_eq folder
    (codes "remotes") then remote_named origin (ref_named kind id arch branch)
    else option_map Head (ref_named kind id arch branch)
place_named _ = None

-- The paths at which refs can be: those with four elements below `refs/heads`, and those with five
-- below `refs/remotes`
pub record ArePaths (root : Elements) (v : View) (paths : List Elements) : Type 0 where
  pub each : (q : Elements) → Contains paths q
      ↔ (IsLevel HEAD_DEPTH (heads root) v q ⊎ IsLevel REMOTE_DEPTH (remotes root) v q)

-- Holds if the place, if there is one, was added to the map under the text of its path
abbrev pub Puts : {Z : Type 0} → Elements → Option RefPlace → List (String Z × RefPlace)
    → List (String Z × RefPlace) → Type 0
Puts q None es fs = fs ≡ es
Puts {Z} q (Some place) es fs =
    (key : String Z) × IsTextOf (string_bytes key) q × (fs ≡ insert_entry string_cmp es key place)

-- Holds if the place of the path was added to the map if there is a file at the path, and otherwise
-- nothing changed
abbrev pub Adds : {Z : Type 0} → Elements → View → List (String Z × RefPlace)
    → List (String Z × RefPlace) → Type 0
Adds q v es fs =
    (IsFile (v.names q) × Puts q (place_named q) es fs) ⊎ ((IsFile (v.names q) → ⊥) × (fs ≡ es))

-- The map has the places among these paths at which there is a file, under the texts of their paths
pub record AreFound {Z : Type 0} (root : Elements) (v : View) (paths : List Elements)
    (es : List (String Z × RefPlace)) : Type 0 where
  pub keyed : AllByRecursion (λ e. IsTextOf (string_bytes e.0) (place_path root e.1)) es
  pub each : (place : RefPlace) → Contains (values_of es) place
      ↔ ((is_place place ≡ true) × IsFile (v.names (place_path root place))
      × Contains paths (place_path root place))

-- If the paths are all paths at which refs can be, the map has the places at which there is a file
pub record Finds {Z : Type 0} (paths : List Elements) (v : View)
    (es : List (String Z × RefPlace)) : Type 0 where
  pub found : (root : Elements) → ArePaths root v paths → AreFound root v paths es
