-- Which objects are made while a commit is brought.
use Rattle.std.proofs.Common.{◌≡◌, inl, inr, ℕ, List, Bool, [], codes, refl, sym, ◌∙◌, ap, subst}
use Rattle.fp_host.specs.Paths.{Elements, file, IsAbove}
use Rattle.fp_host.specs.View.{View}
use Rattle.fp_host.specs.Frame.{Keeps, NoPath}
use Rattle.fp_name.specs.Kinds.{kind_word}
use Rattle.fp_name.specs.Refs.{Ref}
use Rattle.fp_small.specs.Clear.{IsWithin}
use Rattle.fp_small.specs.Folders.{ancestors, DirsAt}
use Rattle.fp_small.specs.Places.{repo, tmp}
use Rattle.fp_small.proofs.Keeping.{files_kept}
use Rattle.ost_model.specs.Stores.{objects_folder}
use Rattle.ost_store.specs.Created.{Creates, NoObject}
use Rattle.ost_store.proofs.Creating.{creates_frame, creates_on}
use Rattle.ost_checkout.specs.Checkout.{ChecksOutName}
use Rattle.dep_states.specs.Names.{commit_dir}
use Rattle.dep_states.proofs.Deployed.{outward_append, top}
use Rattle.dep_states.proofs.Elsewhere.{off_store_config, off_work}
use Rattle.dep_states.proofs.Lasting.{top_in_repo}
use Rattle.dep_states.proofs.Rows.{head_of}
use Rattle.dep_states.proofs.Switching.{word_no_repo}
use Rattle.op_change.specs.Furnishing.{Furnishes, readies, lays}
use Rattle.op_change.specs.LayingOut.{LaysOut, folders_come, paths_come}
use Rattle.op_change.specs.Readying.{ReadiesName, ReadiesStore}
use Rattle.op_change.specs.Rooms.{RoomAt, RoomName}
use Rattle.op_change.proofs.Apart.{dir_apart}
use Rattle.op_change.proofs.Changing.{lays_files}

ready_unstored : (u : View) (q : Elements) (id : ℕ) → IsAbove (objects_folder repo) q → ReadiesName u q (file id) → ⊥
ready_unstored u q id below (inl (inl new)) = off_store_config q below new.0
ready_unstored u q id below (inl (inr (inl made))) = cc made.1
ready_unstored u q id below (inl (inr (inr work))) = off_work q below (subst (IsWithin tmp) (sym work.is) (inr (inl refl)))
ready_unstored u q id below (inr made) = cc made.1

-- the store is made ready
ready_creates : {u w : View} → ReadiesStore u w → Creates repo NoObject u w
ready_creates {u = u} ready = creates_frame (ReadiesName u) ready.keeps (ready_unstored u)

-- room is made
pub room_creates : (name : Ref) (commit : List ℕ) (kept : Bool) {u w : View} → Keeps (RoomAt tmp (commit_dir name commit) kept) (RoomName tmp (commit_dir name commit) kept) NoPath u w → Creates repo NoObject u w
room_creates name commit kept room = creates_frame (RoomName tmp (commit_dir name commit) kept) room (λ q id below put. elim put [ inl work ↦ cc work.1 | inr folder ↦ cc folder.1.1 ])

module _ (name : Ref) (commit : List ℕ) where
  -- no object's name is in the commit's folder
  out_unstored : (u : View) (q : Elements) (id : ℕ) → IsAbove (objects_folder repo) q → ChecksOutName repo commit (commit_dir name commit) u q (file id) → ⊥
  out_unstored u q id below put =
      let first : top q ≡ kind_word name.kind = ap top put.at ∙ ap head_of (outward_append put.rest (commit_dir name commit) []) in
      word_no_repo name.kind (sym first ∙ top_in_repo (codes "objects") q (inr below))

  -- the commit is laid out
  lays_creates : {u w : View} → LaysOut commit (commit_dir name commit) u w → Creates repo NoObject u w
  lays_creates (folders_come made) = creates_frame (DirsAt (ancestors (commit_dir name commit))) made (λ q id below put. cc put.1)
  lays_creates (paths_come between tree made checks) =
      let keeps = checks.keeps (dir_apart name commit) in
      creates_on (creates_frame (DirsAt (ancestors (commit_dir name commit))) made (λ q id below put. cc put.1)) (creates_frame (ChecksOutName repo commit (commit_dir name commit) between) keeps (out_unstored between)) (files_kept made) (files_kept keeps)

  -- one after the other
  pub furnish_creates : {kept : Bool} {u w : View} → Furnishes commit (commit_dir name commit) kept u w → Creates repo NoObject u w
  furnish_creates (readies ready) = ready_creates ready
  furnish_creates (lays between tree ready is out) = creates_on (ready_creates ready) (lays_creates out) ready.files (lays_files name commit out)
