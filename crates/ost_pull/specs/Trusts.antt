-- Files and symlinks of the store that are trusted to match their digests.
use Rattle.std.specs.Prelude.{◌≡◌, ℕ, List, Option, Some, None}
use Rattle.fp_host.specs.Paths.{Elements}
use Rattle.fp_host.specs.Moments.{Moments}
use Rattle.fp_base.specs.declared.object.ObjKind.TheVariants as kinds
use Rattle.ost_model.specs.declared.object.Object.{Object}
use Rattle.ost_model.specs.Objects.{digest_fault, object_fault}
use Rattle.ost_pull.specs.declared.trusting.Trust.{Trust}
use Rattle.ost_pull.specs.declared.trusting.Trust.TheVariants as trusts
use Rattle.ost_pull.specs.Pulls.{HasTrueFilesNow}

-- There is an object, which has no fault if it matches its digest
pub record IsGoodIfTrue (d : List ℕ) (there : Option Object) : Type 0 where
  pub object : Object
  pub is : there ≡ Some object
  pub good : digest_fault d object ≡ None → object_fault d kinds.File (Some object) ≡ None

-- Names are trusted only if the store's files and symlinks match their digests
pub record MayTrust (trust : Trust) (root : Elements) (told : Option Moments) : Type 0 where
  pub names : trust ≡ trusts.Names → HasTrueFilesNow root told
