-- Objects checked at their places.
use Rattle.std.proofs.Common.{◌≡◌, ℕ, suc, List, [], ◌∷◌, Option, Some, None, Result, Ok, Err, sym, ◌∙◌, ap, subst}
use Rattle.fp_base.specs.declared.object.ObjKind.{ObjKind}
use Rattle.fp_base.specs.declared.object.ObjKind.TheVariants as kinds
use Rattle.ost_model.specs.Fields.{TreeView}
use Rattle.ost_model.specs.Objects.{Have, Fault}
use Rattle.ost_model.specs.Order.{Place, first_of, walk_fault}
use Rattle.ost_walk.specs.declared.dirs.Dir.{Dir}
use Rattle.ost_walk.specs.declared.ends.WalkFault.{WalkFault}
use Rattle.ost_walk.specs.declared.ends.WalkEnd.{WalkEnd}
use Rattle.ost_walk.specs.declared.ends.WalkEnd.TheVariants as ends
use Rattle.ost_walk.specs.Ends.{RefusesBy, EndsBy, IsFaultOf, IsFirst, fault_of}
use Rattle.ost_walk.specs.Steps.{IsGood, IsTreeOf, IsTree, IsChecked, IsOpened, own_fault, heads_fault, tree_of, meta_of, limit_of}
use Rattle.ost_walk.proofs.Listed.{within_limits, first_one, first_found}

same_refusal : (d : List ℕ) (kind : ObjKind) {f g : Option Fault} (end : WalkEnd) → f ≡ g → RefusesBy (IsFaultOf d kind f) end → RefusesBy (IsFaultOf d kind g) end
same_refusal d kind end same r = subst (λ (f : Option Fault). RefusesBy (IsFaultOf d kind f) end) same r

pub meta_checked : (have : Have) (n : ℕ) (dir : Dir) → limit_of n dir.depth ≡ None → (r : Result (Unit {0}) WalkEnd)
    → EndsBy (λ _. IsGood have dir.meta kinds.DirMeta) (IsFaultOf dir.meta kinds.DirMeta (own_fault have dir.meta kinds.DirMeta)) r
    → EndsBy (λ _. IsChecked have n (meta_of dir)) (IsFaultOf dir.meta kinds.DirMeta (walk_fault have n (meta_of dir))) r
meta_checked have n dir low (Ok x) h = record { good = within_limits n (meta_of dir) (own_fault have dir.meta kinds.DirMeta) low ∙ h.good }
meta_checked have n dir low (Err end) h = same_refusal dir.meta kinds.DirMeta end (sym (within_limits n (meta_of dir) (own_fault have dir.meta kinds.DirMeta) low)) h

pub tree_checked : {A : Type 0} (view : A → TreeView) (have : Have) (n : ℕ) (dir : Dir) → limit_of n dir.depth ≡ None → (r : Result A WalkEnd)
    → EndsBy (λ t. IsTreeOf have dir.tree (view t)) (IsFaultOf dir.tree kinds.DirTree (own_fault have dir.tree kinds.DirTree)) r
    → EndsBy (λ t. IsTree have n dir (view t)) (IsFaultOf dir.tree kinds.DirTree (walk_fault have n (tree_of dir))) r
tree_checked view have n dir low (Ok x) h = record { good = within_limits n (tree_of dir) (own_fault have dir.tree kinds.DirTree) low ∙ h.good; read = h.read }
tree_checked view have n dir low (Err end) h = same_refusal dir.tree kinds.DirTree end (sym (within_limits n (tree_of dir) (own_fault have dir.tree kinds.DirTree) low)) h

module _ (test : ℕ → Place → Option Fault) (n : ℕ) where
  at_first : (p : Place) (ps : List Place) (w : WalkFault) → IsFaultOf p.digest p.kind (test n p) w → IsFirst (first_of test n (p ∷ ps)) w
  at_first p ps w is = record {
    depth = p.depth;
    is = first_found test n p ps (fault_of w.fault) is.fault_is
        ∙ ap (λ (d : List ℕ). Some (record { digest = d; kind = p.kind; depth = p.depth }, fault_of w.fault)) (sym is.digest)
        ∙ ap (λ (k : ObjKind). Some (record { digest = w.digest; kind = k; depth = p.depth }, fault_of w.fault)) (sym is.kind_is);
  }

  pub fault_first : (p : Place) (ps : List Place) (end : WalkEnd) → RefusesBy (IsFaultOf p.digest p.kind (test n p)) end → RefusesBy (IsFirst (first_of test n (p ∷ ps))) end
  fault_first p ps (ends.Refused w) is = at_first p ps w is
  fault_first p ps ends.HostFault is = tt
  fault_first p ps ends.RemoteFault is = tt
  fault_first p ps ends.NoMemory is = tt

pub tree_first : (have : Have) (n : ℕ) (dir : Dir) (end : WalkEnd) → RefusesBy (IsFaultOf dir.tree kinds.DirTree (walk_fault have n (tree_of dir))) end → RefusesBy (IsFirst (heads_fault have n dir)) end
tree_first have n dir end is = fault_first (walk_fault have) n (tree_of dir) (meta_of dir ∷ []) end is

pub meta_second : (have : Have) (n k : ℕ) (dir : Dir) (view : TreeView) (end : WalkEnd) → k ≡ suc n → IsTree have n dir view
    → RefusesBy (IsFaultOf dir.meta kinds.DirMeta (walk_fault have k (meta_of dir))) end → RefusesBy (IsFirst (heads_fault have n dir)) end
meta_second have n k dir view end at tree is =
    subst (λ f. RefusesBy (IsFirst f) end) (sym (first_one (walk_fault have) n (tree_of dir) (meta_of dir ∷ []) tree.good))
    (fault_first (walk_fault have) (suc n) (meta_of dir) [] end (subst (λ (m : ℕ). RefusesBy (IsFaultOf dir.meta kinds.DirMeta (walk_fault have m (meta_of dir))) end) at is))

pub both_good : (have : Have) (n k : ℕ) (dir : Dir) (view : TreeView) → k ≡ suc n → IsTree have n dir view → IsChecked have k (meta_of dir) → IsOpened have n dir view
both_good have n k dir view at tree meta = record {
  good = first_one (walk_fault have) n (tree_of dir) (meta_of dir ∷ []) tree.good ∙ first_one (walk_fault have) (suc n) (meta_of dir) [] (subst (λ (m : ℕ). walk_fault have m (meta_of dir) ≡ None) at meta.good);
  read = tree.read;
}
