-- The kinds of objects: the word of each, and their equality.
use Rattle.std.specs.Prelude.{ℕ, Bool, true, false, List, codes}
use Rattle.fp_base.specs.declared.object.ObjKind.{ObjKind}
use Rattle.fp_base.specs.declared.object.ObjKind.TheVariants as kinds

-- The file extension of a kind's objects in a repository
abbrev pub kind_text : ObjKind → List ℕ
kind_text kinds.Commit = codes "commit"
kind_text kinds.DirTree = codes "dirtree"
kind_text kinds.DirMeta = codes "dirmeta"
kind_text kinds.File = codes "file"

-- Tests whether two kinds are equal
abbrev pub is_kind : ObjKind → ObjKind → Bool
is_kind kinds.Commit kinds.Commit = true
is_kind kinds.DirTree kinds.DirTree = true
is_kind kinds.DirMeta kinds.DirMeta = true
is_kind kinds.File kinds.File = true
is_kind _ _ = false
