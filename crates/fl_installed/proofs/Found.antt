-- The file `metadata`, found and read.
use Rattle.std.proofs.Common.{◌≡◌, ℕ, List, Option, Some, None, Result, Ok, Err, sym, ap, subst}
use Rattle.std.specs.Prelude.{IfOk, option_and_then}
use Rattle.fp_host.specs.Paths.{Elements}
use Rattle.fp_host.specs.declared.host.HostEnd.{HostEnd}
use Rattle.fp_base.specs.declared.object.ObjKind.TheVariants as kinds
use Rattle.ost_model.specs.Objects.{Have, Fault}
use Rattle.ost_model.specs.Order.{Place}
use Rattle.ost_model.specs.Look.{nothing, directory, file_at, look, look_fault, file_in}
use Rattle.ost_model.specs.Look.{Found as ModelFound}
use Rattle.ost_model.specs.Standing.{metadata_name}
use Rattle.ost_walk.specs.declared.ends.WalkEnd.{WalkEnd}
use Rattle.ost_walk.specs.declared.ends.WalkEnd.TheVariants as walks
use Rattle.ost_walk.specs.declared.found.Found.{Found}
use Rattle.ost_walk.specs.Ends.{EndsBy, IsFirst}
use Rattle.ost_walk.specs.Looked.{found_of, IsFound}
use Rattle.fl_installed.specs.Files.{digest_in, unless_faulty, metadata_digest, short_content, metadata_file}

-- ---- where it is

module _ (have : Have) (commit : List ℕ) where
  by_fault : {fault : Option (Place × Fault)} → look_fault have commit metadata_name ≡ fault → unless_faulty fault (file_in (look have commit metadata_name)) ≡ metadata_digest have commit
  unfolding metadata_digest
  by_fault is = ap (λ (fault : Option (Place × Fault)). unless_faulty fault (file_in (look have commit metadata_name))) (sym is)

  found_same : (f : ModelFound) (g : Found) → g ≡ found_of f → digest_in (Ok g) ≡ Ok (file_in f)
  found_same nothing g is = ap (λ (h : Found). digest_in (Ok h)) is
  found_same (directory e) g is = ap (λ (h : Found). digest_in (Ok h)) is
  found_same (file_at d) g is = ap (λ (h : Found). digest_in (Ok h)) is

  by_name : (looked : Result Found WalkEnd) → EndsBy (IsFound have commit metadata_name) (IsFirst (look_fault have commit metadata_name)) looked → IfOk (digest_in looked) (λ digest. digest ≡ metadata_digest have commit)
  by_name (Ok g) at = subst (λ (r : Result (Option (List ℕ)) HostEnd). IfOk r (λ digest. digest ≡ metadata_digest have commit)) (sym (found_same (look have commit metadata_name) g at.is)) (by_fault at.clean)
  by_name (Err (walks.Refused w)) at = by_fault at.is
  by_name (Err walks.HostFault) at = tt
  by_name (Err walks.RemoteFault) at = tt
  by_name (Err walks.NoMemory) at = tt

  -- what is answered of what was found at the path of `metadata`
  pub digest_told : (path : Elements) (looked : Result Found WalkEnd) → path ≡ metadata_name → EndsBy (IsFound have commit path) (IsFirst (look_fault have commit path)) looked
      → IfOk (digest_in looked) (λ digest. digest ≡ metadata_digest have commit)
  digest_told path looked is at = by_name looked (subst (λ (p : Elements). EndsBy (IsFound have commit p) (IsFirst (look_fault have commit p)) looked) is at)

-- ---- the file

pub file_there : (have : Have) (commit d : List ℕ) (result : Result (Option (List ℕ)) HostEnd) → Some d ≡ metadata_digest have commit
    → IfOk result (λ b. b ≡ short_content (have d kinds.File)) → IfOk result (λ b. b ≡ metadata_file have commit)
unfolding metadata_file
file_there have commit d result is read = subst (λ (x : Option (List ℕ)). IfOk result (λ b. b ≡ option_and_then (λ e. short_content (have e kinds.File)) x)) is read

pub file_away : (have : Have) (commit : List ℕ) → None ≡ metadata_digest have commit → None ≡ metadata_file have commit
unfolding metadata_file
file_away have commit is = ap (option_and_then (λ e. short_content (have e kinds.File))) is
