-- A commit that stands goes on standing where its paths and the objects of its order stay.
use Rattle.std.proofs.Common.{◌≡◌, ℕ, List, refl, sym, ◌∙◌, ap, subst, Bool}
use Rattle.fp_host.specs.Paths.{Elements}
use Rattle.fp_host.specs.Outcome.{Disk}
use Rattle.fp_base.specs.declared.object.ObjKind.TheVariants as kinds
use Rattle.ost_model.specs.Objects.{object_at, object_path, store}
use Rattle.ost_model.specs.Order.{order, Agree}
use Rattle.ost_model.specs.Look.{Found, nothing, directory, file_at, look}
use Rattle.ost_model.specs.Standing.{expected, is_metadata, deploy_name, metadata_name, Stands, SameBelow, SameObjects}
use Rattle.ost_model.proofs.Places.{first_same}
use Rattle.ost_model.proofs.Looked.{file_reached, look_same}

module _ (root : Elements) (i j : Disk) (commit : List ℕ) where
  expected_same : (f : Found) → ((d : List ℕ) → f ≡ file_at d → j (object_path root d kinds.File) ≡ i (object_path root d kinds.File)) → expected root j f ≡ expected root i f
  expected_same nothing same = refl
  expected_same (directory e) same = refl
  expected_same (file_at d) same = same d refl

  pub stands_same : (reads : List ℕ → Bool) (dir : Elements) → Stands reads root i commit dir → SameBelow dir i j → SameObjects root commit i j
      → Stands reads root j commit dir
  stands_same reads dir s paths objects = record {
    paths = λ rest off. paths rest off ∙ s.paths rest off ∙ sym (found rest);
    whole = first_same (store root i) (store root j) commit agree ∙ s.whole;
    described = ap (is_metadata reads) (found metadata_name) ∙ s.described;
    no_deploy = looks deploy_name ∙ s.no_deploy;
  }
    where
      agree : Agree (store root i) (store root j) (order (store root i) commit)
      agree p h = ap (object_at p.kind) (objects p h)

      looks : (rest : Elements) → look (store root j) commit rest ≡ look (store root i) commit rest
      looks rest = look_same (store root i) (store root j) commit s.whole agree rest

      found : (rest : Elements) → expected root j (look (store root j) commit rest) ≡ expected root i (look (store root i) commit rest)
      found rest = ap (expected root j) (looks rest) ∙ expected_same (look (store root i) commit rest)
          (λ d h. let r = file_reached (store root i) commit s.whole rest d h in
          subst (λ k. j (object_path root d k) ≡ i (object_path root d k)) r.kind_is (subst (λ e. j (object_path root e r.place.kind) ≡ i (object_path root e r.place.kind)) r.digest_is (objects r.place r.within)))
