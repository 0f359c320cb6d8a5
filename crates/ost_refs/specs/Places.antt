-- The paths of the refs' files in a store.
use Rattle.std.specs.Prelude.{◌∷◌, codes, Bool, ◌&&◌}
use Rattle.fp_host.specs.Paths.{Elements}
use Rattle.fp_name.specs.Grammar.{is_remote_name}
use Rattle.fp_name.specs.Kinds.{kind_word}
use Rattle.fp_name.specs.Refs.{Ref, is_ref}
use Rattle.ost_refs.specs.declared.place.RefPlace.{RefPlace}
use Rattle.ost_refs.specs.declared.place.RefPlace.TheVariants.{Head, Remote}

-- The directory of the store's own refs, `refs/heads`
abbrev pub heads : Elements → Elements
heads root = codes "heads" ∷ codes "refs" ∷ root

-- The directory of the remotes' refs, `refs/remotes`
abbrev pub remotes : Elements → Elements
remotes root = codes "remotes" ∷ codes "refs" ∷ root

-- The path KIND/ID/ARCH/BRANCH below a directory
abbrev pub ref_below : Elements → Ref → Elements
ref_below up r = r.branch ∷ r.arch ∷ r.id ∷ kind_word r.kind ∷ up

-- The path of a ref's file in the store at `root`
abbrev pub place_path : Elements → RefPlace → Elements
place_path root (Head r) = ref_below (heads root) r
place_path root (Remote origin r) = ref_below (origin ∷ remotes root) r

-- Tests whether the names of a place are valid, as those of each place that a function takes or
-- returns are
abbrev pub is_place : RefPlace → Bool
is_place (Head r) = is_ref r
is_place (Remote origin r) = is_remote_name origin && is_ref r
