-- Two kinds of objects are the same or not.
use Rattle.std.proofs.Common.{refl, true, ◌≡◌}
use Rattle.fp_base.specs.declared.object.ObjKind.TheVariants as kinds
use Rattle.fp_base.specs.declared.object.ObjKind.{ObjKind}
use Rattle.fp_base.specs.Objects.{is_kind}

pub kind_is : (k m : ObjKind) → is_kind k m ≡ true → k ≡ m
kind_is kinds.Commit kinds.Commit is = refl
kind_is kinds.Commit kinds.DirTree is = absurd (cc is)
kind_is kinds.Commit kinds.DirMeta is = absurd (cc is)
kind_is kinds.Commit kinds.File is = absurd (cc is)
kind_is kinds.DirTree kinds.Commit is = absurd (cc is)
kind_is kinds.DirTree kinds.DirTree is = refl
kind_is kinds.DirTree kinds.DirMeta is = absurd (cc is)
kind_is kinds.DirTree kinds.File is = absurd (cc is)
kind_is kinds.DirMeta kinds.Commit is = absurd (cc is)
kind_is kinds.DirMeta kinds.DirTree is = absurd (cc is)
kind_is kinds.DirMeta kinds.DirMeta is = refl
kind_is kinds.DirMeta kinds.File is = absurd (cc is)
kind_is kinds.File kinds.Commit is = absurd (cc is)
kind_is kinds.File kinds.DirTree is = absurd (cc is)
kind_is kinds.File kinds.DirMeta is = absurd (cc is)
kind_is kinds.File kinds.File is = refl

pub kind_same : (k : ObjKind) → is_kind k k ≡ true
kind_same kinds.Commit = refl
kind_same kinds.DirTree = refl
kind_same kinds.DirMeta = refl
kind_same kinds.File = refl
