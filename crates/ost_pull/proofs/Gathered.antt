-- Files that are new and have bytes, in the work folder and on their way to their names.
use Rattle.std.proofs.Common.{◌≡◌, ◌⊎◌, inl, inr, ℕ, List, [], true, Option, Some, None, refl, sym, ◌∙◌, ap, subst, arith, Contains}
use Rattle.fp_host.specs.Paths.{Elements, Slot, file, IsAbove}
use Rattle.fp_host.specs.View.{View, Inode}
use Rattle.fp_host.specs.Outcome.{Spot}
use Rattle.fp_host.specs.Frame.{Keeps, NoPath}
use Rattle.fp_host.specs.Remote.{Holdings}
use Rattle.fp_host.proofs.Above.{above_longer}
use Rattle.fp_small.specs.Clear.{IsWithin, IsCleared}
use Rattle.fp_small.specs.Files.{KeepsFiles}
use Rattle.fp_small.specs.Folders.{ancestors}
use Rattle.fp_small.specs.Shares.{Shares}
use Rattle.fp_small.proofs.Replacement.{ancestors_above}
use Rattle.fp_name.specs.Hex.{is_digest}
use Rattle.fp_base.specs.declared.object.ObjKind.{ObjKind}
use Rattle.ost_model.specs.declared.object.Object.{Object}
use Rattle.ost_model.specs.Objects.{object_path}
use Rattle.ost_model.specs.Order.{In}
use Rattle.ost_store.specs.Gathers.{Gathers}
use Rattle.ost_store.specs.Stage.{Stages, WasStaged}
use Rattle.ost_pull.specs.Placing.{PlacesAll}
use Rattle.ost_pull.specs.Takes.{AreTaken}
use Rattle.ost_store.specs.ObjectNames.{IsObjectName}
use Rattle.ost_pull.specs.Work.{Works, Gathered, GathersAnew}

-- nothing was done
pub gathered_refl : {t : Elements} {v : View} → Gathered t v v
gathered_refl = record { new = record { each = λ id f none some. absurd (cc (none, some)) }; stay = λ q id at is. is }

pub gathered_same : {t : Elements} {u w : View} → w ≡ u → Gathered t u w
gathered_same {t = t} {u = u} same = subst (Gathered t u) (sym same) gathered_refl

-- a file that was there has the same bytes
row_kept : {v w : View} (keeps : KeepsFiles v w) (id : ℕ) (f g : Inode) → v.files id ≡ Some g → w.files id ≡ Some f → g ≡ f
row_kept keeps id f g old some = let same : Some g ≡ Some f = sym (keeps.rows id g old) ∙ some in cc same

bytes_kept : {v w : View} (keeps : KeepsFiles v w) (id : ℕ) (f g : Inode) → v.files id ≡ Some g → w.files id ≡ Some f → g.bytes ≡ [] → f.bytes ≡ []
bytes_kept keeps id f g old some empty = ap (λ (x : Inode). x.bytes) (sym (row_kept keeps id f g old some)) ∙ empty

-- one step after another
module _ {t : Elements} {u v w : View} (first : Gathered t u v) (second : Gathered t v w) (keeps : KeepsFiles v w) where
  by_row : (id : ℕ) (f : Inode) (row : Option Inode) → v.files id ≡ row → u.files id ≡ None → w.files id ≡ Some f → (f.bytes ≡ []) ⊎ ((q : Elements) × IsObjectName t q × (w.names q ≡ file id))
  by_row id f None old new some = second.new.each id f old some
  by_row id f (Some g) old new some = elim (first.new.each id g new old) [
    | inl empty ↦ inl (bytes_kept keeps id f g old some empty)
    | inr at ↦ inr (at.0, at.1, second.stay at.0 id at.1 at.2)
  ]

  pub gathered_on : Gathered t u w
  gathered_on = record {
    new = record { each = λ id f new some. by_row id f (v.files id) refl new some };
    stay = λ q id at is. second.stay q id at (first.stay q id at is);
  }

-- after a step that gave bytes to no file
module _ {t : Elements} {G : Elements → Spot → Type 0} {W : Elements → Slot → Type 0} {u v w : View} (first : Keeps G W NoPath u v) (second : Gathered t v w) (keeps : KeepsFiles v w) where
  after_row : (id : ℕ) (f : Inode) (row : Option Inode) → v.files id ≡ row → u.files id ≡ None → w.files id ≡ Some f → (f.bytes ≡ []) ⊎ ((q : Elements) × IsObjectName t q × (w.names q ≡ file id))
  after_row id f None old new some = second.new.each id f old some
  after_row id f (Some g) old new some = inl (bytes_kept keeps id f g old some (first.empty (λ q no. no) id g new old))

  pub gathered_after : Gathers (IsObjectName t) u w
  gathered_after = record { each = λ id f new some. after_row id f (v.files id) refl new some }

-- after the folder was cleared
module _ {t : Elements} {G : Elements → Spot → Type 0} {W : Elements → Slot → Type 0} {u v w : View} (first : Keeps G W NoPath u v) (cleared : IsCleared t v) (works : Works t v w) (second : Gathered t v w) where
  made_there : (q : Elements) (id : ℕ) → IsWithin t q → w.names q ≡ file id → u.files id ≡ None
  made_there q id within is = elim (works.keeps.held q id within is) [ inl none ↦ first.rows id none | inr had ↦ absurd (cc (sym had.2 ∙ cleared.gone had.0 had.1)) ]

  pub gathered_anew : GathersAnew t u w
  gathered_anew = record { gathers = gathered_after first second works.files; new = made_there }

-- an object that is staged
module _ (t : Elements) (d : List ℕ) (kind : ObjKind) (object : Object) {u w : View} (good : is_digest d ≡ true) (stages : Stages (object_path t d kind) object u w) (was : WasStaged (object_path t d kind) object u w) where
  stays_there : (q : Elements) (id : ℕ) → IsObjectName t q → u.names q ≡ file id → w.names q ≡ file id
  stays_there q id at is = elim (stages.keeps.names q) [
    | inl same ↦ same ∙ is
    | inr put ↦ elim put [
      | inl here ↦ absurd (cc (sym is ∙ ap u.names here.0 ∙ was.free))
      | inr made ↦
          let above : IsAbove (object_path t at.digest at.kind) (object_path t d kind) = subst (λ (p : Elements). IsAbove p (object_path t d kind)) at.at (ancestors_above (object_path t d kind) q made.0) in
          absurd (omega (arith, above_longer (object_path t at.digest at.kind) (object_path t d kind) above))
    ]
  ]

  pub gathered_staged : Gathered t u w
  gathered_staged = record {
    new = record {
      each = λ id f new some. elim (was.gathers.each id f new some) [
        | inl empty ↦ inl empty
        | inr put ↦ inr (put.0, record { digest = d; kind = kind; digits = good; at = put.1 }, put.2)
      ];
    };
    stay = stays_there;
  }

-- what gathered in the folder came to objects' names
module _ {root t : Elements} {url : List ℕ} {holds : Option Holdings} {kept : List (List ℕ × ObjKind)} {u v w : View} (gathers : Gathers (IsObjectName t) u v) (taken : AreTaken root t url holds kept v) (places : PlacesAll root t kept v w)
    {L : Elements → Type 0} (named : (o : List ℕ × ObjKind) → is_digest o.0 ≡ true → In kept o → L (object_path root o.0 o.1)) where
  came : (id : ℕ) (f : Inode) (row : Option Inode) → v.files id ≡ row → u.files id ≡ None → w.files id ≡ Some f → (f.bytes ≡ []) ⊎ ((q : Elements) × L q × Contains w.stood (q, file id))
  came id f None old new some = elim (places.empty.each id f old some) [ inl empty ↦ inl empty | inr none ↦ absurd none.1 ]
  came id f (Some g) old new some = elim (gathers.each id g new old) [
    | inl empty ↦ inl (bytes_kept places.files id f g old some empty)
    | inr put ↦
        let at = put.1 in
        let is : v.names (object_path t at.digest at.kind) ≡ file id = sym (ap v.names at.at) ∙ put.2 in
        elim (taken.are.only at.digest at.kind at.digits) [
          | inl none ↦ absurd (cc (sym is ∙ none))
          | inr has ↦ inr (
            object_path root at.digest at.kind,
            named (at.digest, at.kind) at.digits has,
            subst (λ (e : Slot). Contains w.stood (object_path root at.digest at.kind, e)) is (places.put (at.digest, at.kind) has),
          )
        ]
  ]

  pub shares_pulled : Shares L u w
  shares_pulled = record { each = λ id f new some. came id f (v.files id) refl new some }
