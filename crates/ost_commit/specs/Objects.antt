-- The objects of a commit that was built.
use Rattle.std.specs.Prelude.{◌≡◌, List, [], ◌∷◌, Bool, true, false, ◌&&◌, Some, None, if◌then◌else◌}
use Rattle.std.specs.Str.{bytes_eq}
use Rattle.fp_base.specs.Objects.{is_kind}
use Rattle.fp_base.specs.declared.object.ObjKind.{ObjKind}
use Rattle.fp_base.specs.declared.object.ObjKind.TheVariants as kinds
use Rattle.ost_model.specs.declared.object.Object.TheVariants as objects
use Rattle.ost_model.specs.Contents.{file_digest, link_digest}
use Rattle.ost_model.specs.Objects.{Have, name_fault}
use Rattle.ost_commit.specs.declared.row.TreeRow.{TreeRow}
use Rattle.ost_commit.specs.declared.row.TreeRow.TheVariants as row
use Rattle.ost_commit.specs.declared.built.BuiltObject.{BuiltObject}

-- The object with this digest and this kind
abbrev pub have_of : List BuiltObject → Have
have_of [] d kind = None
have_of (o ∷ os) d kind =
    if bytes_eq o.digest d && is_kind o.kind kind then Some o.object else have_of os d kind

-- Holds if the object matches its digest
abbrev pub IsNamed : BuiltObject → Type 0
IsNamed o = name_fault o.digest o.kind (Some o.object) ≡ None

-- Holds if no two objects have the same digest and kind
abbrev pub AreApart : List BuiltObject → Type 0
AreApart [] = Unit {0}
AreApart (o ∷ os) = (have_of os o.digest o.kind ≡ None) × AreApart os

-- Holds if the object of the row's file or symlink is present
abbrev pub Holds : Have → TreeRow → Type 0
Holds have (row.Dir path) = Unit {0}
Holds have (row.File path mode bytes) =
    have (file_digest mode bytes) kinds.File ≡ Some (objects.File mode bytes)
Holds have (row.Link path target) =
    have (link_digest target) kinds.File ≡ Some (objects.Link target)
