-- The digests and the objects of rows.
use Rattle.std.specs.Prelude.{◌≡◌, ℕ, List, [], ◌∷◌, Option, Some, None}
use Rattle.ost_model.specs.declared.object.Object.{Object}
use Rattle.ost_model.specs.declared.object.Object.TheVariants as objects
use Rattle.ost_model.specs.Contents.{file_digest, link_digest}
use Rattle.ost_commit.specs.declared.row.TreeRow.{TreeRow}
use Rattle.ost_commit.specs.declared.row.TreeRow.TheVariants as row

-- Holds if this is the digest of a row's file or symlink. For a directory's row, any digest is.
abbrev pub IsDigestOf : TreeRow → List ℕ → Type 0
IsDigestOf (row.Dir path) d = Unit {0}
IsDigestOf (row.File path mode bytes) d = d ≡ file_digest mode bytes
IsDigestOf (row.Link path target) d = d ≡ link_digest target

-- Holds if there is a digest for each row, in order
abbrev pub AreDigests : List TreeRow → List (List ℕ) → Type 0
AreDigests [] [] = Unit {0}
AreDigests [] (d ∷ ds) = ⊥
AreDigests (r ∷ rs) [] = ⊥
AreDigests (r ∷ rs) (d ∷ ds) = IsDigestOf r d × AreDigests rs ds

-- The object of a row's file or symlink
abbrev pub object_by : TreeRow → Option Object
object_by (row.Dir path) = None
object_by (row.File path mode bytes) = Some (objects.File mode bytes)
object_by (row.Link path target) = Some (objects.Link target)
