-- The zone of each path: the nodes that may be there, whatever is at other paths.
use Rattle.std.specs.Prelude.{◌≡◌, ◌⊎◌, ◌≤◌, List, [], ◌∷◌, ◌++◌, ℕ, Bool, ◌||◌, ◌&&◌, if◌then◌else◌, length, take, drop, is_some, codes}
use Rattle.std.specs.Str.{bytes_eq}
use Rattle.fp_host.specs.Paths.{Elements}
use Rattle.fp_host.specs.Outcome.{Spot, gone, folder, holds, points}
use Rattle.fp_name.specs.Grammar.{is_id, is_arch, is_branch, is_remote_name}
use Rattle.fp_name.specs.Hex.{unhex}
use Rattle.fp_name.specs.Kinds.{kind_of}
use Rattle.fp_small.specs.Places.{repo}
use Rattle.fp_small.specs.declared.limits.TheConstants.{MOST_ELEMENTS}
use Rattle.ost_model.specs.Stores.{is_prefix, MayBePrefix, MayBeObject}
use Rattle.fp_name.specs.Grammar.{is_override}

-- The nodes that may be at a path: any; a file; a symlink; a file or symlink; a directory; what a
-- store may have below its `objects`. A path may also be absent.
pub data Zone : Type 0 where
  anything : Zone
  a_file : Zone
  a_link : Zone
  a_leaf : Zone
  a_folder : Zone
  -- A path directly below `repo/objects`, and one further below
  a_prefix : List ℕ → Zone
  an_object : Zone

-- The elements of a path, outermost first, in front of others
abbrev pub outward_onto : Elements → List (List ℕ) → List (List ℕ)
outward_onto [] more = more
outward_onto (x ∷ up) more = outward_onto up (x ∷ more)

-- The elements of a path, outermost first
abbrev pub outward : Elements → List (List ℕ)
outward p = outward_onto p []

-- Tests whether an element is this word
abbrev pub is : List ℕ → List ℕ → Bool
is word x = bytes_eq x word

-- The zone of a path that ends here; anything further below
abbrev pub here : Zone → List (List ℕ) → Zone
here z [] = z
here z (x ∷ rest) = anything

-- ---- the path of a ref, outermost first: its directories, and the zone at its end

-- The zone of a path that goes on with a branch
abbrev pub at_branch : (List (List ℕ) → Zone) → List (List ℕ) → Zone
at_branch end [] = a_folder
at_branch end (branch ∷ rest) = if is_branch branch then end rest else anything

-- The zone of a path that goes on with an architecture and a branch
abbrev pub at_arch : (List (List ℕ) → Zone) → List (List ℕ) → Zone
at_arch end [] = a_folder
at_arch end (arch ∷ rest) = if is_arch arch then at_branch end rest else anything

-- The zone of a path that goes on with an ID, an architecture and a branch
abbrev pub at_id : (List (List ℕ) → Zone) → List (List ℕ) → Zone
at_id end [] = a_folder
at_id end (id ∷ rest) = if is_id id then at_arch end rest else anything

-- The zone of a path that goes on with a ref
abbrev pub at_kind : (List (List ℕ) → Zone) → List (List ℕ) → Zone
at_kind end [] = a_folder
at_kind end (kind ∷ rest) = if is_some (kind_of kind) then at_id end rest else anything

-- ---- stores

-- Tests whether a name in the directory `xx` is an object's: 62 hexadecimal digits and its kind's
-- suffix
abbrev pub is_object_name : List ℕ → List ℕ → Bool
is_object_name xx name =
    is_prefix xx && (is_some (unhex (xx ++ take 62 name)) && (is (codes ".commit") (drop 62 name)
    || (is (codes ".dirtree") (drop 62 name) ||
    (is (codes ".dirmeta") (drop 62 name) || is (codes ".file") (drop 62 name)))))

-- The zone of a path below `objects` of a store that `export` made
abbrev pub zone_made_objects : List (List ℕ) → Zone
zone_made_objects [] = a_folder
zone_made_objects (xx ∷ []) = if is_prefix xx then a_folder else anything
zone_made_objects (xx ∷ name ∷ rest) = if is_object_name xx name then here a_leaf rest else anything

-- The zone of a path below `refs` of a store that `export` made
abbrev pub zone_heads : List (List ℕ) → Zone
zone_heads [] = a_folder
zone_heads (x ∷ rest) = if is (codes "heads") x then at_kind (here a_file) rest else anything

-- The zone of a path below `made/NAME`
abbrev pub zone_store : List (List ℕ) → Zone
zone_store [] = a_folder
zone_store (x ∷ rest) =
    if is (codes "config") x then here a_file rest
    else (if is (codes "refs") x then zone_heads rest
    else (if is (codes "objects") x then zone_made_objects rest else anything))

-- The zone of a path below `made`
abbrev pub zone_made : List (List ℕ) → Zone
zone_made [] = a_folder
zone_made (name ∷ rest) = zone_store rest

-- ---- the installation's own store

-- The zone of a path below `repo/objects`
abbrev pub zone_objects : List (List ℕ) → Zone
zone_objects [] = a_folder
zone_objects (xx ∷ []) = a_prefix xx
zone_objects (xx ∷ name ∷ rest) = an_object

-- The zone of a path below `repo/refs/remotes`
abbrev pub zone_remotes : List (List ℕ) → Zone
zone_remotes [] = a_folder
zone_remotes (origin ∷ rest) =
    if is_remote_name origin then at_kind (here a_file) rest else anything

-- The zone of a path below `repo/refs`
abbrev pub zone_refs : List (List ℕ) → Zone
zone_refs [] = a_folder
zone_refs (x ∷ rest) = if is (codes "heads") x then here a_folder rest
    else (if is (codes "remotes") x then zone_remotes rest else anything)

-- The zone of a path below `repo`
abbrev pub zone_repo : List (List ℕ) → Zone
zone_repo [] = a_folder
zone_repo (x ∷ rest) =
    if is (codes "objects") x then zone_objects rest
    else (if is (codes "tmp") x then here a_folder rest
    else (if is (codes "config") x then here a_file rest
    else (if is (codes "refs") x then zone_refs rest else anything)))

-- ---- the rest

-- The zone of a path in a branch directory
abbrev pub zone_branch : List (List ℕ) → Zone
zone_branch [] = a_folder
zone_branch (x ∷ rest) = if is (codes "active") x then here a_link rest
    else (if is_some (unhex x) then here a_folder rest else anything)

-- The zone of a path below `overrides`
abbrev pub zone_overrides : List (List ℕ) → Zone
zone_overrides [] = a_folder
zone_overrides (name ∷ rest) = if is_override name then here a_file rest else anything

-- Tests whether a name is that of a settings file: `config`, or one of layout 1
abbrev pub is_small : List ℕ → Bool
is_small x = is (codes "config") x || (is (codes "remotes.conf") x || is (codes "pins") x)

-- The zone of a path with these elements, outermost first
abbrev pub zone : List (List ℕ) → Zone
zone [] = a_folder
zone (x ∷ rest) =
    if is (codes "repo") x then zone_repo rest
    else (if is (codes "overrides") x then zone_overrides rest
    else (if is (codes "made") x then zone_made rest
    else (if is_small x then here a_file rest else at_kind zone_branch (x ∷ rest))))

-- The node is absent
abbrev pub IsGone : Spot → Type 0
IsGone spot = spot ≡ gone

-- The node is a file or absent
abbrev pub IsFileOrGone : Spot → Type 0
IsFileOrGone gone = Unit {0}
IsFileOrGone (holds id mode bytes) = Unit {0}
IsFileOrGone folder = ⊥
IsFileOrGone (points text) = ⊥

-- The node is a symlink or absent
abbrev pub IsLinkOrGone : Spot → Type 0
IsLinkOrGone gone = Unit {0}
IsLinkOrGone (points text) = Unit {0}
IsLinkOrGone folder = ⊥
IsLinkOrGone (holds id mode bytes) = ⊥

-- The node is a file, a symlink or absent
abbrev pub IsLeafOrGone : Spot → Type 0
IsLeafOrGone gone = Unit {0}
IsLeafOrGone (holds id mode bytes) = Unit {0}
IsLeafOrGone (points text) = Unit {0}
IsLeafOrGone folder = ⊥

-- The node is a directory or absent
abbrev pub IsFolderOrGone : Spot → Type 0
IsFolderOrGone gone = Unit {0}
IsFolderOrGone folder = Unit {0}
IsFolderOrGone (points text) = ⊥
IsFolderOrGone (holds id mode bytes) = ⊥

-- The zone of a path allows this node there
abbrev pub Fits : Zone → Elements → Spot → Type 0
Fits anything p spot = Unit {0}
Fits a_file p spot = IsFileOrGone spot
Fits a_link p spot = IsLinkOrGone spot
Fits a_leaf p spot = IsLeafOrGone spot
Fits a_folder p spot = IsFolderOrGone spot
Fits (a_prefix xx) p spot = MayBePrefix xx spot
Fits an_object p spot = MayBeObject repo p spot

-- The node may be at this path: the path's zone allows it, and a path with a node has at most 128
-- elements
pub record Allowed (p : Elements) (spot : Spot) : Type 0 where
  pub fits : Fits (zone (outward p)) p spot
  pub short : IsGone spot ⊎ (length p ≤ MOST_ELEMENTS)
