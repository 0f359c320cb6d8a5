-- What stands elsewhere than below the store's objects.
use Rattle.std.proofs.Common.{◌≡◌, inr, ℕ, List, [], ◌∷◌, refl, sym, ◌∙◌, ap, codes}
use Rattle.fp_base.proofs.Texts.{bytes_eq-false}
use Rattle.fp_host.specs.Paths.{Elements, IsAbove}
use Rattle.fp_name.specs.Refs.{Ref}
use Rattle.fp_small.specs.Clear.{IsWithin}
use Rattle.fp_small.specs.Places.{repo, tmp}
use Rattle.ost_model.specs.Stores.{objects_folder}
use Rattle.ost_refs.specs.Places.{place_path}
use Rattle.ost_refs.specs.declared.place.RefPlace.{RefPlace}
use Rattle.ost_refs.specs.declared.place.RefPlace.TheVariants.{Head, Remote}
use Rattle.dep_states.specs.Names.{config, override_path, commit_dir, deploy}
use Rattle.dep_states.specs.Zones.{outward}
use Rattle.dep_states.proofs.Deployed.{outward_append, top}
use Rattle.dep_states.proofs.Lasting.{second_below, top_in_repo, commit_kind}
use Rattle.dep_states.proofs.Switching.{second, word_no_repo}

module _ (q : Elements) (below : IsAbove (objects_folder repo) q) where
  in_repo : top q ≡ codes "repo"
  in_repo = top_in_repo (codes "objects") q (inr below)

  in_objects : second (outward q) ≡ codes "objects"
  in_objects = second_below (codes "objects") q (inr below)

  second_apart : (p : Elements) → q ≡ p → second (outward p) ≡ codes "objects"
  second_apart p at = sym (ap (λ (r : Elements). second (outward r)) at) ∙ in_objects

  pub off_work : IsWithin tmp q → ⊥
  off_work work = bytes_eq-false (codes "tmp") (codes "objects") refl (sym (second_below (codes "tmp") q work) ∙ in_objects)

  pub off_record : (name : Ref) (commit : List ℕ) → q ≡ deploy (commit_dir name commit) → ⊥
  off_record name commit at = word_no_repo name.kind (sym (ap top at) ∙ in_repo)

  pub off_commit : (name : Ref) (commit : List ℕ) → IsAbove (commit_dir name commit) q → ⊥
  off_commit name commit above = word_no_repo name.kind (sym (commit_kind name commit q above) ∙ in_repo)

  pub off_settings : q ≡ config → ⊥
  off_settings at = bytes_eq-false (codes "config") (codes "repo") refl (sym (ap top at) ∙ in_repo)

  pub off_override : (name : List ℕ) → q ≡ override_path name → ⊥
  off_override name at = bytes_eq-false (codes "overrides") (codes "repo") refl (sym (ap top at) ∙ in_repo)

  pub off_store_config : q ≡ codes "config" ∷ repo → ⊥
  off_store_config at = bytes_eq-false (codes "config") (codes "objects") refl (second_apart (codes "config" ∷ repo) at)

  pub off_ref : (place : RefPlace) → q ≡ place_path repo place → ⊥
  off_ref (Head r) at = bytes_eq-false (codes "refs") (codes "objects") refl (second_apart (place_path repo (Head r)) at)
  off_ref (Remote origin r) at = bytes_eq-false (codes "refs") (codes "objects") refl (second_apart (place_path repo (Remote origin r)) at)
