-- The file `metadata` that stands in the folder of a deployed commit.
use Rattle.std.proofs.Common.{◌≡◌, ℕ, List, Bool, true, false, leb, length, Option, Some, None, refl, sym, ◌∙◌, ap}
use Rattle.std.specs.Prelude.{if◌then◌else◌}
use Rattle.fp_host.specs.Frame.{AtEnd, Unchanged}
use Rattle.fp_host.specs.Moments.{Moments}
use Rattle.fp_host.specs.Outcome.{Spot, gone, folder, holds, points, shows}
use Rattle.fp_host.specs.Paths.{Elements}
use Rattle.fp_host.specs.View.{View}
use Rattle.fp_name.specs.Refs.{Ref}
use Rattle.fp_small.specs.Load.{loaded_of, Loads}
use Rattle.fp_small.specs.declared.loading.Loaded.{Loaded}
use Rattle.fp_small.specs.declared.loading.Loaded.TheVariants as loaded
use Rattle.ost_model.specs.declared.limits.TheConstants.{MOST_METADATA_FILE_BYTES}
use Rattle.fl_installed.specs.Deployed.{DeployedFiles, Deploys, deployed_files, short_file, metadata_path, bytes_loaded}

-- ---- it is what is loaded there

if_loaded : (b : Bool) (bytes : List ℕ) → bytes_loaded (if b then loaded.Bytes bytes else loaded.TooLong (length bytes)) ≡ (if b then Some bytes else None)
if_loaded true bytes = refl
if_loaded false bytes = refl

loaded_there : (spot : Spot) → bytes_loaded (loaded_of MOST_METADATA_FILE_BYTES spot) ≡ short_file spot
loaded_there gone = refl
loaded_there folder = refl
loaded_there (points text) = refl
loaded_there (holds id mode bytes) = if_loaded (leb (length bytes) MOST_METADATA_FILE_BYTES) bytes

pub file_loaded : (name : Ref) (commit : List ℕ) (path : Elements) (was : Loaded) (files : DeployedFiles) {a b : Option Moments} → path ≡ metadata_path name commit
    → AtEnd (λ u w. Loads path MOST_METADATA_FILE_BYTES u was) a b → Deploys a files → bytes_loaded was ≡ files name commit
file_loaded name commit path was files is tell d =
    let n = tell.goes.told d.moments d.told_is in
    ap bytes_loaded (n.3.is ∙ ap (λ (p : Elements). loaded_of MOST_METADATA_FILE_BYTES (shows d.moments.now p)) is)
    ∙ loaded_there (shows d.moments.now (metadata_path name commit))
    ∙ sym (ap (λ (f : DeployedFiles). f name commit) d.is)

-- a host that only looks goes on to have the same
pub still_deployed : {a b : Option Moments} {files : DeployedFiles} → Unchanged a b → Deploys a files → Deploys b files
still_deployed still d =
    let n = still.goes.told d.moments d.told_is in
    record { moments = n.0; told_is = n.1; is = d.is ∙ ap (λ (v : View). deployed_files (shows v)) (sym n.3.0) }
