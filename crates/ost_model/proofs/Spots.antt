-- Which object stands at a spot.
use Rattle.std.specs.Prelude.{if◌then◌else◌}
use Rattle.std.proofs.Common.{None, refl, ◌≡◌, Some, false, List, ℕ, true, ap, sym, Bool, ◌∙◌}
use Rattle.fp_base.specs.declared.object.ObjKind.{ObjKind}
use Rattle.fp_base.specs.declared.object.ObjKind.TheVariants as kinds
use Rattle.fp_host.specs.Outcome.{gone, folder, holds, points, Spot}
use Rattle.fp_host.specs.Paths.{is_link_text}
use Rattle.ost_model.specs.Objects.{object_at, may_be_link, Named, name_fault}
use Rattle.ost_model.specs.declared.object.Object.TheVariants as objects

pub none_gone : (kind : ObjKind) → object_at kind gone ≡ None
none_gone kinds.Commit = refl
none_gone kinds.DirTree = refl
none_gone kinds.DirMeta = refl
none_gone kinds.File = refl

pub none_folder : (kind : ObjKind) → object_at kind folder ≡ None
none_folder kinds.Commit = refl
none_folder kinds.DirTree = refl
none_folder kinds.DirMeta = refl
none_folder kinds.File = refl

pub held_meta : (kind : ObjKind) → may_be_link kind ≡ false → (id mode : ℕ) (bytes : List ℕ) → object_at kind (holds id mode bytes) ≡ Some (objects.Meta bytes)
held_meta kinds.Commit meta id mode bytes = refl
held_meta kinds.DirTree meta id mode bytes = refl
held_meta kinds.DirMeta meta id mode bytes = refl
held_meta kinds.File meta id mode bytes = absurd (cc meta)

pub link_there : (text : List ℕ) → is_link_text text ≡ true → object_at kinds.File (points text) ≡ Some (objects.Link text)
link_there text good = ap (λ b. if b then Some (objects.Link text) else None) good

pub link_good : (text : List ℕ) (spot : Spot) → object_at kinds.File spot ≡ Some (objects.Link text) → is_link_text text ≡ true
link_good text gone is = absurd (cc is)
link_good text folder is = absurd (cc is)
link_good text (holds id mode bytes) is = absurd (cc is)
link_good text (points t) is = go (is_link_text t) refl is
  where
    go : (b : Bool) → is_link_text t ≡ b → (if b then Some (objects.Link t) else None) ≡ Some (objects.Link text) → is_link_text text ≡ true
    go true at e = let same : t ≡ text = cc e in ap is_link_text (sym same) ∙ at
    go false at e = absurd (cc e)

-- what is Named is there
pub not_gone : (d : List ℕ) (kind : ObjKind) → Named d kind gone → ⊥
not_gone d kind named = absurd (cc (sym (ap (name_fault d kind) (none_gone kind)) ∙ named.good))
