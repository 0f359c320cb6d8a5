-- Where a refresh puts no file: in a commit's folder, and below the store's objects.
use Rattle.std.proofs.Common.{◌≡◌, ◌≢◌, ◌⊎◌, inl, inr, ℕ, List, [], codes, length, refl, sym, ◌∙◌, ap, arith}
use Rattle.fp_base.proofs.Texts.{bytes_eq-false}
use Rattle.fp_host.specs.Paths.{Elements, Slot, IsAbove}
use Rattle.fp_host.specs.View.{View}
use Rattle.fp_host.proofs.Above.{above_rest, above_longer}
use Rattle.fp_name.specs.Kinds.{kind_word}
use Rattle.fp_name.specs.Refs.{Ref}
use Rattle.fp_small.specs.Places.{repo, tmp}
use Rattle.ost_model.specs.Stores.{objects_folder}
use Rattle.dep_states.specs.Links.{Links}
use Rattle.dep_states.specs.Names.{commit_dir}
use Rattle.dep_states.specs.Zones.{outward}
use Rattle.dep_states.proofs.Deployed.{outward_append, top}
use Rattle.dep_states.proofs.Lasting.{commit_no_work}
use Rattle.dep_states.proofs.Rows.{head_of}
use Rattle.dep_states.proofs.Switching.{second}
use Rattle.dep_states.proofs.Work.{outward_is}
use Rattle.fl_export.specs.Steps.{MayRefresh, some_export, some_work, store_folder, work_folder}
use Rattle.fl_export.proofs.Spared.{exports_top, no_repo, word_no_exports}

-- ---- a commit's folder

commit_top : (name : Ref) (commit : List ℕ) (q : Elements) → IsAbove (commit_dir name commit) q → top q ≡ kind_word name.kind
commit_top name commit q above = let below = above_rest (commit_dir name commit) q above in ap top below.1 ∙ ap head_of (outward_append below.0 (commit_dir name commit) [])

no_commit : (name : Ref) (commit : List ℕ) (q : Elements) (e : Slot) → IsAbove (commit_dir name commit) q → MayRefresh q e → ⊥
no_commit name commit q e above (some_export within) = word_no_exports name.kind (sym (commit_top name commit q above) ∙ exports_top q within)
no_commit name commit q e above (some_work work) = commit_no_work name commit q above (inr work)
no_commit name commit q e above (store_folder at is) = omega (arith, above_longer (commit_dir name commit) q above, ap length at)
no_commit name commit q e above (work_folder at is) = omega (arith, above_longer (commit_dir name commit) q above, ap length at)

pub refresh_links : {u w : View} → ((q : Elements) → (w.names q ≡ u.names q) ⊎ MayRefresh q (w.names q)) → Links u w
refresh_links {w = w} names = record {
  each = λ name commit q id above is. elim (names q) [ inl same ↦ inl (sym same ∙ is) | inr put ↦ absurd (no_commit name commit q (w.names q) above put) ];
}

-- ---- the store's objects

tmp_no_objects : codes "tmp" ≢ codes "objects"
tmp_no_objects = bytes_eq-false (codes "tmp") (codes "objects") refl

work_second : (q : Elements) → IsAbove tmp q → second (outward q) ≡ codes "tmp"
work_second q above = ap second (outward_is tmp q (inr above)).1

object_top : (q : Elements) → IsAbove (objects_folder repo) q → top q ≡ codes "repo"
object_top q below = ap head_of (outward_is (objects_folder repo) q (inr below)).1

object_second : (q : Elements) → IsAbove (objects_folder repo) q → second (outward q) ≡ codes "objects"
object_second q below = ap second (outward_is (objects_folder repo) q (inr below)).1

pub no_object_put : (q : Elements) (e : Slot) → IsAbove (objects_folder repo) q → MayRefresh q e → ⊥
no_object_put q e below (some_export within) = no_repo (sym (exports_top q within) ∙ object_top q below)
no_object_put q e below (some_work work) = tmp_no_objects (sym (work_second q work) ∙ object_second q below)
no_object_put q e below (store_folder at is) = omega (arith, above_longer (objects_folder repo) q below, ap length at)
no_object_put q e below (work_folder at is) = omega (arith, above_longer (objects_folder repo) q below, ap length at)
