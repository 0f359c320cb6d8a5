-- What is held in a place of work.
use Rattle.std.proofs.Common.{ap, inl, None, Some, sym, List, ℕ, ◌≡◌, ◌∙◌, if◌then◌else◌, refl}
use Rattle.fp_base.specs.declared.object.ObjKind.{ObjKind}
use Rattle.fp_base.specs.declared.object.ObjKind.TheVariants as kinds
use Rattle.fp_host.specs.Outcome.{shows}
use Rattle.fp_host.specs.View.{IsTree, View}
use Rattle.fp_host.specs.Paths.{Elements, absent}
use Rattle.fp_host.proofs.Shown.{held_file, held_link}
use Rattle.ost_model.specs.declared.object.Object.TheVariants as objects
use Rattle.ost_model.specs.Objects.{object_at, name_fault, unless, refused_mode, mode_fault}
use Rattle.ost_model.specs.declared.object.Object.{Object}
use Rattle.ost_store.specs.Stage.{IsHeld, IsKeepable}

pub held_object : (d : List ℕ) (kind : ObjKind) (t : Elements) (object : Object) (v : View) → IsTree v → IsHeld t object v → name_fault d kind (Some object) ≡ None → object_at kind (shows v t) ≡ Some object
held_object d kinds.File t (objects.Meta bytes) v tree held good = absurd (cc good)
held_object d kinds.Commit t (objects.Meta bytes) v tree held good = ap (object_at kinds.Commit) (held_file v t held.id 420 bytes tree held.name held.row)
held_object d kinds.DirTree t (objects.Meta bytes) v tree held good = ap (object_at kinds.DirTree) (held_file v t held.id 420 bytes tree held.name held.row)
held_object d kinds.DirMeta t (objects.Meta bytes) v tree held good = ap (object_at kinds.DirMeta) (held_file v t held.id 420 bytes tree held.name held.row)
held_object d kinds.File t (objects.File mode bytes) v tree held good = ap (object_at kinds.File) (held_file v t held.id mode bytes tree held.name held.row)
held_object d kinds.Commit t (objects.File mode bytes) v tree held good = absurd (cc good)
held_object d kinds.DirTree t (objects.File mode bytes) v tree held good = absurd (cc good)
held_object d kinds.DirMeta t (objects.File mode bytes) v tree held good = absurd (cc good)
held_object d kinds.File t (objects.Link text) v tree held good =
    ap (object_at kinds.File) (held_link v t text tree held) ∙ ap (λ b. if b then Some (objects.Link text) else None) (tree.linked t text (inl (sym held)))
held_object d kinds.Commit t (objects.Link text) v tree held good = absurd (cc good)
held_object d kinds.DirTree t (objects.Link text) v tree held good = absurd (cc good)
held_object d kinds.DirMeta t (objects.Link text) v tree held good = absurd (cc good)

pub leaf_there : (q : Elements) (object : Object) (v : View) → IsHeld q object v → v.names q ≡ absent → ⊥
leaf_there q (objects.Meta bytes) v h none = absurd (cc (sym h.name ∙ none))
leaf_there q (objects.File mode bytes) v h none = absurd (cc (sym h.name ∙ none))
leaf_there q (objects.Link text) v h none = absurd (cc (sym h ∙ none))

pub bits_kept : (o : Object) → IsKeepable o → mode_fault o ≡ None
bits_kept (objects.Meta bytes) keepable = refl
bits_kept (objects.File mode bytes) keepable = ap (λ b. unless b (refused_mode mode)) keepable
bits_kept (objects.Link text) keepable = refl
