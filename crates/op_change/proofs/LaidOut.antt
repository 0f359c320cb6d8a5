-- A commit that is laid out.
use Rattle.std.proofs.Common.{◌≡◌, inl, inr, ℕ, List, [], ◌∷◌, Option, sym, ◌∙◌, ap, subst, arith}
use Rattle.fp_base.specs.declared.object.ObjKind.{ObjKind}
use Rattle.fp_host.specs.Paths.{Elements, absent, dir, IsAbove}
use Rattle.fp_host.specs.View.{View, IsTree}
use Rattle.fp_host.specs.Calls.{HasFolder}
use Rattle.fp_host.specs.Outcome.{shows}
use Rattle.fp_host.specs.Frame.{Frame, Keeps, AtEnd, NoPath}
use Rattle.fp_host.specs.Moments.{Moments, Goes}
use Rattle.fp_host.proofs.Ending.{ends_both, ends_frame, ends_in_tree, ends_on, ends_to}
use Rattle.fp_host.proofs.Framed.{IsTold, keeps_refl}
use Rattle.fp_host.proofs.Goes.{begins, goes_on}
use Rattle.fp_host.proofs.Above.{above_longer}
use Rattle.fp_small.specs.Folders.{ancestors, FoldersAt, DirsAt, AreFree, AreDirs}
use Rattle.fp_small.specs.Places.{repo}
use Rattle.fp_small.proofs.Keeping.{files_kept}
use Rattle.fp_small.proofs.Replacement.{ancestors_above, parent_in}
use Rattle.ost_model.specs.Objects.{object_path, object_at, store}
use Rattle.ost_model.specs.Order.{first_fault}
use Rattle.ost_checkout.specs.Checkout.{ChecksOut, WasCheckedOut, HasReserved, CanCheckOut}
use Rattle.dep_switch.proofs.Spots.{same_shown}
use Rattle.op_change.specs.LayingOut.{MakesAbove, LaysOut, folders_come, paths_come, WasLaidOut, CanLayOut}

module _ {commit : List ℕ} {to : Elements} where
  pub lays_start : {u : View} → LaysOut commit to u u
  lays_start = folders_come keeps_refl

  pub goes_made : {a b : Option Moments} → IsTold a → Frame (FoldersAt (ancestors to)) (DirsAt (ancestors to)) NoPath a b → Goes a b (LaysOut commit to) (LaysOut commit to)
  goes_made told frame = begins told frame.goes (λ u w t k. folders_come k) (λ u w t k e. folders_come k)

  pub goes_laid : {a b c : Option Moments} {root : Elements} → IsTold a → IsTold b → root ≡ repo → Frame (FoldersAt (ancestors to)) (DirsAt (ancestors to)) NoPath a b
      → Goes b c (ChecksOut root commit to) (ChecksOut root commit to) → Goes a c (LaysOut commit to) (LaysOut commit to)
  goes_laid {b = b} {c = c} told mid is frame checks =
      let here : Goes b c (ChecksOut repo commit to) (ChecksOut repo commit to) = subst (λ (r : Elements). Goes b c (ChecksOut r commit to) (ChecksOut r commit to)) is checks in
      goes_on {Q = MakesAbove to} mid (begins told frame.goes (λ u w t k. folders_come k) (λ u w t k e. e)) here
      (λ u v w t p q s. paths_come v t q s) (λ u v w t p q s last. paths_come v t q last)

after_any : (to : Elements) {a b c : Option Moments} {T Q : View → View → Type 0} → IsTold a → IsTold b → Frame (FoldersAt (ancestors to)) (DirsAt (ancestors to)) NoPath a b → AtEnd T b c → ((v w : View) → T v w → Q v w) → ((u v w : View) → Q v w → Q u w) → AtEnd Q a c
after_any to told mid frame last step forget = ends_on {Q = λ u v. Unit {0}} last (ends_to (ends_frame told frame) (λ u w k. tt)) mid (λ u v w tree q t. forget u v w (step v w t))

pub laid_end : {commit : List ℕ} {to root : Elements} {a b c : Option Moments} → IsTold a → IsTold b → root ≡ repo → Frame (FoldersAt (ancestors to)) (DirsAt (ancestors to)) NoPath a b → AtEnd (WasCheckedOut root commit to) b c → AtEnd (WasLaidOut commit to) a c
laid_end {commit = commit} {to = to} {b = b} {c = c} told mid is frame done =
    after_any to {Q = WasLaidOut commit to} told mid frame (subst (λ (r : Elements). AtEnd (WasCheckedOut r commit to) b c) is done) (λ v w d. d.whole) (λ u v w d. d)

pub reserved_end : {commit : List ℕ} (to : Elements) {root : Elements} {a b c : Option Moments} → IsTold a → IsTold b → root ≡ repo → Frame (FoldersAt (ancestors to)) (DirsAt (ancestors to)) NoPath a b → AtEnd (λ u w. (w ≡ u) × HasReserved root commit u) b c → AtEnd (λ u w. HasReserved repo commit w) a c
reserved_end {commit = commit} to {b = b} {c = c} told mid is frame done =
    after_any to {Q = λ u w. HasReserved repo commit w} told mid frame (subst (λ (r : Elements). AtEnd (λ u w. (w ≡ u) × HasReserved r commit u) b c) is done) (λ v w d. subst (HasReserved repo commit) (sym d.0) d.1) (λ u v w d. d)

-- ---- where it can be

pub object_stays : (to : Elements) {u v : View} → Keeps (FoldersAt (ancestors to)) (DirsAt (ancestors to)) NoPath u v → ((d : List ℕ) (kind : ObjKind) → IsAbove (object_path repo d kind) to → ⊥) → (d : List ℕ) (kind : ObjKind) → v.names (object_path repo d kind) ≡ u.names (object_path repo d kind)
object_stays to keeps above d kind = elim (keeps.names (object_path repo d kind)) [ inl same ↦ same | inr put ↦ absurd (above d kind (ancestors_above to (object_path repo d kind) put.0)) ]

pub store_stays : (to : Elements) {u v : View} → IsTree u → IsTree v → Keeps (FoldersAt (ancestors to)) (DirsAt (ancestors to)) NoPath u v → ((d : List ℕ) (kind : ObjKind) → IsAbove (object_path repo d kind) to → ⊥) → store repo (shows v) ≡ store repo (shows u)
store_stays to start last keeps above = λ i d kind. (ap (object_at kind) (same_shown start last (files_kept keeps) (object_path repo d kind) (object_stays to keeps above d kind))) i

still_free : (to : Elements) {u v : View} → Keeps (FoldersAt (ancestors to)) (DirsAt (ancestors to)) NoPath u v → u.names to ≡ absent → v.names to ≡ absent
still_free to keeps free = elim (keeps.names to) [ inl same ↦ same ∙ free | inr put ↦ absurd (omega (arith, above_longer to to (ancestors_above to to put.0))) ]

has_folder : (to : Elements) {v : View} → IsTree v → v.names to ≡ absent → AreDirs (ancestors to) v → HasFolder v to
has_folder [] {v = v} tree free dirs = cc (sym tree.root ∙ free)
has_folder (x ∷ up) {v = v} tree free dirs = elim (parent_in x up) [ inl is ↦ subst (λ (q : Elements). v.names q ≡ dir) (sym is) tree.root | inr has ↦ dirs.dirs up has ]

can_check : {commit : List ℕ} {to : Elements} {u v : View} → IsTree u → IsTree v → Keeps (FoldersAt (ancestors to)) (DirsAt (ancestors to)) NoPath u v → (AreFree (ancestors to) u → AreDirs (ancestors to) v) → CanLayOut commit to u → CanCheckOut repo commit to v
can_check {commit = commit} {to = to} {u = u} {v = v} start last keeps dirs can =
    let free = still_free to keeps can.free in
    record {
      apart = can.apart;
      free = free;
      above = has_folder to last free (dirs can.folders);
      whole = ap (λ have. first_fault have commit) (store_stays to start last keeps can.above) ∙ can.whole;
    }

-- the view where the checkout begins
pub record Begins (to : Elements) (u v : View) : Type 0 where
  pub tree : IsTree v
  pub keeps : Keeps (FoldersAt (ancestors to)) (DirsAt (ancestors to)) NoPath u v
  pub dirs : AreFree (ancestors to) u → AreDirs (ancestors to) v

pub ends_begins : {a b : Option Moments} (to : Elements) → IsTold a → IsTold b → Frame (FoldersAt (ancestors to)) (DirsAt (ancestors to)) NoPath a b → AtEnd (λ u w. AreFree (ancestors to) u → AreDirs (ancestors to) w) a b → AtEnd (Begins to) a b
ends_begins to told last frame dirs = ends_in_tree last (ends_both (ends_frame told frame) dirs) (λ u w tree q. record { tree = tree; keeps = q.0; dirs = q.1 })

pub can_begin : {commit : List ℕ} {to root : Elements} {u v : View} → root ≡ repo → IsTree u → Begins to u v → CanLayOut commit to u → CanCheckOut root commit to v
can_begin {commit = commit} {to = to} {v = v} is start begins can = subst (λ (r : Elements). CanCheckOut r commit to v) (sym is) (can_check start begins.tree begins.keeps begins.dirs can)
