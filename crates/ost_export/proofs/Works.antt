-- Work in the folder of an export.
use Rattle.std.proofs.Common.{◌≡◌, inl, inr, ℕ, List, true, Option, refl, sym, subst, codes}
use Rattle.fp_host.specs.Paths.{Elements, IsAbove}
use Rattle.fp_host.specs.View.{View}
use Rattle.fp_host.specs.Moments.{Moments, Always}
use Rattle.fp_host.specs.Frame.{Unchanged}
use Rattle.fp_host.proofs.Framed.{IsTold, keeps_refl, keeps_on, keeps_to}
use Rattle.fp_host.proofs.Goes.{stays, begins, goes_on}
use Rattle.fp_small.specs.Clear.{IsWithin}
use Rattle.fp_small.proofs.Keeping.{files_stay, files_on}
use Rattle.fp_small.proofs.Making.{free_at}
use Rattle.fp_name.specs.Hex.{is_digest}
use Rattle.fp_base.specs.declared.object.ObjKind.{ObjKind}
use Rattle.ost_model.specs.declared.object.Object.{Object}
use Rattle.ost_model.specs.Objects.{object_path}
use Rattle.ost_store.specs.Stage.{Stages}
use Rattle.ost_store.specs.Stays.{Stays}
use Rattle.ost_store.specs.ObjectNames.{IsAboveObject, AreOpen}
use Rattle.ost_store.proofs.ObjectPaths.{object_within, below_work, not_both, above_object}
use Rattle.ost_export.specs.Staging.{IsApart, Works}
use Rattle.ost_export.proofs.Paths.{off_object, branch_under, objects_branch}

pub works_refl : {t : Elements} {v : View} → Works t v v
works_refl = record { keeps = keeps_refl; files = files_stay }

pub works_same : {t : Elements} {v w : View} → w ≡ v → Works t v w
works_same {t = t} {v = v} same = subst (Works t v) (sym same) works_refl

pub works_on : {t : Elements} {u v w : View} → Works t u v → Works t v w → Works t u w
works_on first second = record { keeps = keeps_on first.keeps second.keeps; files = files_on first.files second.files }

pub staged_works : (t : Elements) (d : List ℕ) (kind : ObjKind) (object : Object) {u w : View} → is_digest d ≡ true → Stages (object_path t d kind) object u w → Works t u w
staged_works t d kind object good s = record {
  keeps = keeps_to
      (λ q spot h. elim h [
        | inl here ↦ inl (record { digest = d; kind = kind; digits = good; at = here.0 })
        | inr made ↦ inr (above_object t d kind q good made.0, made.1)
      ])
      (λ q e h. elim h [
        | inl here ↦ inl (record { digest = d; kind = kind; digits = good; at = here.0 })
        | inr made ↦ inr (above_object t d kind q good made.0, made.1)
      ])
      (λ q is. below_work t d kind q is)
      (λ q id within h. elim h [ inl here ↦ here.0 | inr made ↦ absurd (cc made.1) ])
      s.keeps;
  files = s.files;
}

-- ---- over the moments

pub works_start : {t : Elements} {a : Option Moments} → IsTold a → Always (Works t) a a
works_start told = stays told (λ u. works_refl) (λ u tree. works_refl)

pub works_stage : {a b c : Option Moments} (t p : Elements) (d : List ℕ) (kind : ObjKind) (object : Object) → is_digest d ≡ true → p ≡ object_path t d kind → IsTold b → Always (Stages p object) b c → Always (Works t) a b → Always (Works t) a c
works_stage t p d kind object good at told inner so_far =
    goes_on told so_far inner (λ u v w tree r q s. works_on r (staged_works t d kind object good (here s))) (λ u v w tree r q s e. works_on r (staged_works t d kind object good (here e)))
  where
    here : {v w : View} → Stages p object v w → Stages (object_path t d kind) object v w
    here {v = v} {w = w} s = subst (λ (q : Elements). Stages q object v w) at s

pub works_within : {t : Elements} {a b c : Option Moments} → IsTold b → Always (Works t) b c → Always (Works t) a b → Always (Works t) a c
works_within told inner so_far = goes_on told so_far inner (λ u v w tree r q s. works_on r s) (λ u v w tree r q s e. works_on r e)

pub works_looks : {t : Elements} {a b : Option Moments} → IsTold a → Unchanged a b → Always (Works t) a b
works_looks told still = begins told still.goes (λ u w tree same. works_same same) (λ u w tree same q. works_same same)

-- ---- the store beside it

module _ {root t : Elements} (apart : IsApart root t) {u w : View} (works : Works t u w) where
  pub works_stays : (d : List ℕ) (kind : ObjKind) → Stays (object_path root d kind) u w
  works_stays d kind = record {
    name = elim (works.keeps.names (object_path root d kind)) [
      | inl same ↦ same
      | inr put ↦ elim put [
        | inl name ↦ absurd (off_object apart d kind (below_work t name.digest name.kind (object_path root d kind) name.at))
        | inr made ↦ absurd (under made.0)
      ]
    ];
    row = λ id f is some. works.files.rows id f some;
  }
    where
      under : IsAboveObject t (object_path root d kind) → ⊥
      under made = by_place made.above
        where
          in_t : IsWithin t (object_path root d kind) → ⊥
          in_t h = off_object apart d kind h

          by_place : IsAbove (object_path root d kind) (object_path t made.digest made.kind) → ⊥
          by_place (inl is) = in_t (inr (subst (IsAbove t) (sym is) (inr (inl refl))))
          by_place (inr (inl is)) = in_t (inr (subst (IsAbove t) (sym is) (inl refl)))
          by_place (inr (inr (inl is))) = in_t (inl is)
          by_place (inr (inr (inr up))) = branch_under apart (codes "objects") objects_branch (object_path root d kind) (object_within root d kind) (inr up)

-- folders above the objects of the work folder stay free
pub works_open : {t : Elements} {u w : View} → Works t u w → AreOpen t u → AreOpen t w
works_open {t = t} {u = u} {w = w} works open_before = record {
  free = λ q above. elim (works.keeps.names q) [
    | inl same ↦ free_at u w q same (open_before.free q above)
    | inr put ↦ elim put [ inl name ↦ absurd (not_both t q name above) | inr made ↦ inr made.1 ]
  ];
}
