-- Rows that pass a test may stand where they stand.
use Rattle.std.proofs.Common.{◌≡◌, inr, List, Bool, true, false, not, ◌&&◌, ◌||◌, leb, length, refl, sym, subst}
use Rattle.std.specs.Prelude.{is_some}
use Rattle.std.specs.List.{list_all, list_any}
use Rattle.std.proofs.lemmas.Bool.{and_parts, leb-true}
use Rattle.fp_base.proofs.Options.{none_by_test}
use Rattle.fp_host.specs.Paths.{Elements, path_eq}
use Rattle.fp_host.specs.Outcome.{Spot, gone, folder, holds, points}
use Rattle.fp_host.proofs.Separate.{path_decides}
use Rattle.fp_name.specs.Hex.{is_digest}
use Rattle.fp_small.specs.Places.{repo}
use Rattle.ost_model.specs.Objects.{object_path, object_at, name_fault, has_good_bits}
use Rattle.ost_model.specs.Stores.{is_prefix, IsObject}
use Rattle.dep_states.specs.Samples.{rows_at}
use Rattle.dep_states.specs.Zones.{Zone, anything, a_file, a_link, a_leaf, a_folder, a_prefix, an_object, Fits, Allowed, zone, outward, IsFileOrGone, IsLinkOrGone, IsLeafOrGone, IsFolderOrGone}
use Rattle.dep_states.proofs.Empty.{allowed_gone}
use Rattle.dep_states.proofs.Rows.{each_at}
use Rattle.fl_samples.specs.Objects.{Stored}
use Rattle.fl_samples.proofs.Rows.{all_pass, some_passes}

abbrev pub is_file : Spot → Bool
is_file (holds id mode bytes) = true
is_file gone = false
is_file folder = false
is_file (points text) = false

abbrev pub is_link : Spot → Bool
is_link (points text) = true
is_link gone = false
is_link folder = false
is_link (holds id mode bytes) = false

abbrev pub is_folder : Spot → Bool
is_folder folder = true
is_folder gone = false
is_folder (points text) = false
is_folder (holds id mode bytes) = false

-- by cases, so that what isn't there isn't computed
abbrev pub is_named : Bool → Spot → Stored → Bool
is_named false spot o = false
is_named true spot o = is_digest o.digest && (has_good_bits spot && not (is_some (name_fault o.digest o.kind (object_at o.kind spot))))

abbrev pub is_object : Elements → Spot → Stored → Bool
is_object p spot o = is_named (path_eq p (object_path repo o.digest o.kind)) spot o

abbrev pub fits : List Stored → Zone → Elements → Spot → Bool
fits os anything p spot = true
fits os a_file p spot = is_file spot
fits os a_link p spot = is_link spot
fits os a_leaf p spot = is_file spot || is_link spot
fits os a_folder p spot = is_folder spot
fits os (a_prefix xx) p spot = is_folder spot && is_prefix xx
fits os an_object p spot = list_any (is_object p spot) os

file_fits : (spot : Spot) → is_file spot ≡ true → IsFileOrGone spot
file_fits gone t = tt
file_fits folder t = absurd cc
file_fits (holds id mode bytes) t = tt
file_fits (points text) t = absurd cc

link_fits : (spot : Spot) → is_link spot ≡ true → IsLinkOrGone spot
link_fits gone t = tt
link_fits folder t = absurd cc
link_fits (holds id mode bytes) t = absurd cc
link_fits (points text) t = tt

leaf_fits : (spot : Spot) → (is_file spot || is_link spot) ≡ true → IsLeafOrGone spot
leaf_fits gone t = tt
leaf_fits folder t = absurd cc
leaf_fits (holds id mode bytes) t = tt
leaf_fits (points text) t = tt

pub folder_is : (spot : Spot) → is_folder spot ≡ true → spot ≡ folder
folder_is gone t = absurd cc
folder_is folder t = refl
folder_is (holds id mode bytes) t = absurd cc
folder_is (points text) t = absurd cc

named_is : (b : Bool) (p : Elements) (spot : Spot) (o : Stored) → (b ≡ true → p ≡ object_path repo o.digest o.kind) → is_named b spot o ≡ true → IsObject repo p spot
named_is false p spot o same t = absurd cc
named_is true p spot o same t =
    let a = and_parts (is_digest o.digest) (has_good_bits spot && not (is_some (name_fault o.digest o.kind (object_at o.kind spot)))) t in
    let b = and_parts (has_good_bits spot) (not (is_some (name_fault o.digest o.kind (object_at o.kind spot)))) a.1 in
    record { digest = o.digest; kind = o.kind; digits = a.0; name = same refl; named = record { bits = b.0; good = none_by_test (name_fault o.digest o.kind (object_at o.kind spot)) b.1 } }

fits_is : (os : List Stored) (z : Zone) (p : Elements) (spot : Spot) → fits os z p spot ≡ true → Fits z p spot
fits_is os anything p spot t = tt
fits_is os a_file p spot t = file_fits spot t
fits_is os a_link p spot t = link_fits spot t
fits_is os a_leaf p spot t = leaf_fits spot t
fits_is os a_folder p spot t = subst IsFolderOrGone (sym (folder_is spot t)) tt
fits_is os (a_prefix xx) p spot t = let a = and_parts (is_folder spot) (is_prefix xx) t in inr (folder_is spot a.0, a.1)
fits_is os an_object p spot t =
    let o = some_passes (is_object p spot) os t in
    inr (named_is (path_eq p (object_path repo o.0.digest o.0.kind)) p spot o.0 (path_decides p (object_path repo o.0.digest o.0.kind)).0 o.2)

-- the row may stand there; these are objects
abbrev pub may_stand : List Stored → Elements × Spot → Bool
may_stand os row = fits os (zone (outward row.0)) row.0 row.1 && leb (length row.0) 128

allowed_is : (os : List Stored) (row : Elements × Spot) → may_stand os row ≡ true → Allowed row.0 row.1
allowed_is os row t =
    let a = and_parts (fits os (zone (outward row.0)) row.0 row.1) (leb (length row.0) 128) t in
    record { fits = fits_is os (zone (outward row.0)) row.0 row.1 a.0; short = inr (leb-true (length row.0) 128 a.1) }

pub all_allowed : (os : List Stored) (rs : List (Elements × Spot)) → list_all (may_stand os) rs ≡ true → (p : Elements) → Allowed p (rows_at rs p)
all_allowed os rs all = each_at Allowed allowed_gone rs (all_pass (may_stand os) (λ row. Allowed row.0 row.1) (allowed_is os) rs all)
