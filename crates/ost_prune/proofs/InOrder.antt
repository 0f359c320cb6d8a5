-- The order in which objects go, where one name is taken away.
use Rattle.std.proofs.Common.{◌≡◌, ◌≢◌, inl, inr, ℕ, List, ◌∷◌, take, codes, true, false, refl, sym, ◌∙◌, ap}
use Rattle.std.specs.Prelude.{is_some}
use Rattle.std.proofs.lemmas.Bool.{both_ways}
use Rattle.fp_host.specs.Paths.{Elements, Slot, absent, under, at}
use Rattle.fp_host.specs.View.{View}
use Rattle.fp_host.specs.Calls.{unlinks, done}
use Rattle.fp_host.specs.Outcome.{gone, spot_of}
use Rattle.fp_host.proofs.Separate.{set_same, set_other, under_absent}
use Rattle.fp_name.specs.Hex.{hex, is_digest}
use Rattle.fp_base.specs.declared.object.ObjKind.{ObjKind}
use Rattle.ost_model.specs.Objects.{object_path, object_at}
use Rattle.ost_model.proofs.Stores.{one_name}
use Rattle.ost_prune.specs.Prune.{is_commit, CommitsFirst, IsUnused}
use Rattle.ost_store.specs.Names.{name_in}
use Rattle.ost_prune.proofs.Found.{none_gone}

abbrev Object : Type 0
Object = List ℕ × ObjKind

-- nothing counts where nothing has the name
absent_at : (names : Elements → Slot) (root : Elements) (o : Object) → names (name_in root o) ≡ absent → at names (name_in root o) ≡ absent
absent_at names root o none =
    let up : Elements = take 2 (hex o.0) ∷ codes "objects" ∷ root in
    ap (λ (e : Slot). under (at names up) e) none ∙ under_absent (at names up)

module _ (root : Elements) (keep : List (List ℕ)) {u : View} where
  -- something has the name of an object that is there
  not_absent : (o : Object) → IsUnused root keep u o → u.names (name_in root o) ≡ absent → ⊥
  not_absent o unused none =
      both_ways (is_some (object_at o.1 gone)) (none_gone o.1) (sym (ap (λ (e : Slot). is_some (object_at o.1 (spot_of u.files e))) (absent_at u.names root o none)) ∙ unused.there)

  -- a commit and another object have different names
  apart : (commit other : Object) → IsUnused root keep u commit → is_commit commit ≡ true → IsUnused root keep u other → is_commit other ≡ false → name_in root other ≢ name_in root commit
  apart commit other c is_one o is_none name =
      let one = one_name root other.0 commit.0 other.1 commit.1 o.digits c.digits name in
      let same : other ≡ commit = (λ j. (one.0 j, one.1 j)) in
      both_ways (is_commit other) is_none (ap is_commit same ∙ is_one)

  pub order_kept : (commit : Object) → IsUnused root keep u commit → is_commit commit ≡ true → CommitsFirst root keep u (done (unlinks (name_in root commit)) u)
  order_kept commit c is_one = record {
    first = inl (λ o unused is_none. set_other u.names (name_in root commit) absent (name_in root o) (apart commit o c is_one unused is_none));
  }

  pub order_broken : (commit other : Object) → IsUnused root keep u commit → is_commit commit ≡ true → IsUnused root keep u other → is_commit other ≡ false
      → CommitsFirst root keep u (done (unlinks (name_in root other)) u) → ⊥
  order_broken commit other c is_one o is_none order = elim order.first [
    | inl stay ↦ not_absent other o (sym (stay other o is_none) ∙ set_same u.names (name_in root other) absent (name_in root other) refl)
    | inr away ↦ not_absent commit c (sym (set_other u.names (name_in root other) absent (name_in root commit) (λ name. apart commit other c is_one o is_none (sym name))) ∙ away commit c is_one)
  ]
