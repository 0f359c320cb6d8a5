-- Where the objects of a folder stand.
use Rattle.std.proofs.Common.{refl, List, ℕ, inr, inl, subst, sym, ◌≡◌, ap, length, arith, Contains, true}
use Rattle.fp_base.specs.declared.object.ObjKind.{ObjKind}
use Rattle.fp_host.specs.Paths.{Elements, IsAbove}
use Rattle.fp_host.proofs.Above.{above_longer}
use Rattle.fp_name.specs.Hex.{is_digest}
use Rattle.fp_small.specs.Clear.{IsWithin}
use Rattle.fp_small.specs.Folders.{ancestors}
use Rattle.fp_small.proofs.Replacement.{ancestors_above}
use Rattle.ost_model.specs.Stores.{objects_folder}
use Rattle.ost_model.specs.Objects.{object_path}
use Rattle.ost_store.specs.ObjectNames.{IsObjectName, IsAboveObject}

pub object_within : (root : Elements) (d : List ℕ) (kind : ObjKind) → IsWithin (objects_folder root) (object_path root d kind)
object_within root d kind = inr (inr (inl refl))

pub below_work : (t : Elements) (d : List ℕ) (kind : ObjKind) (q : Elements) → q ≡ object_path t d kind → IsWithin t q
below_work t d kind q is = inr (subst (IsAbove t) (sym is) (inr (inr (inl refl))))

-- objects' names are equally long
pub not_both : (root q : Elements) → IsObjectName root q → IsAboveObject root q → ⊥
not_both root q name above = absurd (omega (arith, ap length name.at, above_longer q (object_path root above.digest above.kind) above.above))

pub above_object : (t : Elements) (d : List ℕ) (kind : ObjKind) (q : Elements) → is_digest d ≡ true → Contains (ancestors (object_path t d kind)) q → IsAboveObject t q
above_object t d kind q good has = record { digest = d; kind = kind; digits = good; above = ancestors_above (object_path t d kind) q has }
