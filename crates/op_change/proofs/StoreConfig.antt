-- The store's `config` among the names that an operation changes.
use Rattle.std.proofs.Common.{◌≡◌, inl, inr, ℕ, List, [], ◌∷◌, Bool, Contains, codes, arith}
use Rattle.std.proofs.lemmas.List.Elements.{Contains-push_cases}
use Rattle.fp_base.specs.declared.object.ObjKind.{ObjKind}
use Rattle.fp_host.specs.Paths.{Slot, IsAbove}
use Rattle.fp_host.specs.View.{View}
use Rattle.fp_name.specs.Kinds.{kind_word}
use Rattle.fp_name.specs.Refs.{Ref}
use Rattle.fp_small.specs.Clear.{IsWithin}
use Rattle.fp_small.specs.Folders.{ancestors, DirsAt}
use Rattle.fp_small.specs.Places.{repo, tmp}
use Rattle.fp_small.specs.Replace.{folders_of, ReplacesName}
use Rattle.fp_small.proofs.Replacement.{ancestors_above}
use Rattle.ost_model.specs.Objects.{object_path}
use Rattle.ost_pull.specs.Pulls.{PullsName}
use Rattle.ost_pull.specs.Work.{WorksName}
use Rattle.dep_states.specs.Effects.{Effect, Write, effect_of, BringsCommit, brings, writes, moves, leaves, sets, migrates, layers, bares}
use Rattle.dep_states.specs.Names.{config, override_path, overrides_folder, commit_dir}
use Rattle.dep_states.proofs.Switching.{word_no_repo}
use Rattle.dep_switch.specs.Writing.{new_deploy, new_folder, the_link}
use Rattle.fp_small.specs.declared.op.Op.{Op}
use Rattle.fp_small.specs.declared.state.State.{State}
use Rattle.op_change.specs.Applied.{Brings, MayChange, MayWrite, ChangesName}
use Rattle.op_change.specs.Deploys.{DeploysName, work_goes, before_switch, at_active}
use Rattle.op_change.specs.Readying.{store_config}
use Rattle.op_change.specs.Rooms.{RoomName}
use Rattle.op_change.proofs.Apart.{work_in_tmp}
use Rattle.dep_switch.proofs.Sparing.{which as which_link}

pub no_tmp : IsAbove tmp store_config → ⊥
no_tmp (inl at) = cc at
no_tmp (inr (inl at)) = cc at
no_tmp (inr (inr none)) = none

module _ (name : Ref) (commit : List ℕ) where
  -- not in a commit's folder, and not above one
  pub no_dir : IsWithin (commit_dir name commit) store_config → ⊥
  no_dir (inl at) = cc at
  no_dir (inr (inl at)) = cc at
  no_dir (inr (inr (inl at))) = cc at
  no_dir (inr (inr (inr none))) = none

  no_above : IsAbove store_config (commit_dir name commit) → ⊥
  no_above (inl at) = cc at
  no_above (inr (inl at)) = cc at
  no_above (inr (inr (inl at))) = let is : kind_word name.kind ≡ codes "repo" = cc at in word_no_repo name.kind is
  no_above (inr (inr (inr (inl at)))) = cc at
  no_above (inr (inr (inr (inr (inl at))))) = cc at
  no_above (inr (inr (inr (inr (inr none))))) = none

  pub no_folder : (e : Slot) → DirsAt (ancestors (commit_dir name commit)) store_config e → ⊥
  no_folder e put = no_above (ancestors_above (commit_dir name commit) store_config put.0)

  pub no_room : (kept : Bool) (e : Slot) → RoomName tmp (commit_dir name commit) kept store_config e → ⊥
  no_room kept e (inl work) = no_tmp work.0
  no_room kept e (inr folder) = no_dir folder.1.0

  pub no_deployed : (e : Slot) → DeploysName name commit store_config e → ⊥
  no_deployed e (work_goes within none) = no_tmp (work_in_tmp (codes "active") store_config within)
  no_deployed e (before_switch (new_deploy at is)) = cc at
  no_deployed e (before_switch (new_folder has is)) = elim (which_link store_config has) [ inl at ↦ cc at | inr at ↦ cc at ]
  no_deployed e (before_switch (the_link at is)) = cc at
  no_deployed e (at_active at is) = cc at

-- ---- a pull

module _ (n : List ℕ) where
  no_above_work : (d : List ℕ) (kind : ObjKind) → IsAbove store_config (object_path (n ∷ tmp) d kind) → ⊥
  no_above_work d kind (inl at) = cc at
  no_above_work d kind (inr (inl at)) = cc at
  no_above_work d kind (inr (inr (inl at))) = cc at
  no_above_work d kind (inr (inr (inr (inl at)))) = cc at
  no_above_work d kind (inr (inr (inr (inr (inl at))))) = cc at
  no_above_work d kind (inr (inr (inr (inr (inr (inl at)))))) = cc at
  no_above_work d kind (inr (inr (inr (inr (inr (inr none)))))) = none

  no_above_object : (d : List ℕ) (kind : ObjKind) → IsAbove store_config (object_path repo d kind) → ⊥
  no_above_object d kind (inl at) = cc at
  no_above_object d kind (inr (inl at)) = cc at
  no_above_object d kind (inr (inr (inl at))) = cc at
  no_above_object d kind (inr (inr (inr (inl at)))) = cc at
  no_above_object d kind (inr (inr (inr (inr none)))) = none

  no_works : (e : Slot) → WorksName (n ∷ tmp) store_config e → ⊥
  no_works e (inl object) = cc object.at
  no_works e (inr (inl above)) = no_above_work above.0.digest above.0.kind above.0.above
  no_works e (inr (inr away)) = no_tmp (work_in_tmp n store_config away.0)

  pub no_pulled : (u : View) (e : Slot) → PullsName repo (n ∷ tmp) u store_config e → ⊥
  no_pulled u e (inl work) = no_works e work
  no_pulled u e (inr (inl object)) = cc object.at
  no_pulled u e (inr (inr above)) = no_above_object above.0.digest above.0.kind above.0.above

-- ---- a write

no_made : Contains (folders_of config) store_config → ⊥
no_made has = elim (Contains-push_cases (repo ∷ []) tmp store_config has) [
  | inr is ↦ cc is
  | inl first ↦ elim (Contains-push_cases [] repo store_config first) [ inl none ↦ omega (arith, none.1) | inr is ↦ cc is ]
]

no_config : (u : View) (e : Slot) → ReplacesName config u store_config e → ⊥
no_config u e (inl new) = cc new.0
no_config u e (inr (inl made)) = no_made made.0
no_config u e (inr (inr work)) = cc work.is

no_folders : (name : List ℕ) → Contains (folders_of (override_path name)) store_config → ⊥
no_folders name has = elim (Contains-push_cases (overrides_folder ∷ (repo ∷ [])) tmp store_config has) [
  | inr is ↦ cc is
  | inl first ↦ elim (Contains-push_cases (overrides_folder ∷ []) repo store_config first) [
    | inr is ↦ cc is
    | inl only ↦ elim (Contains-push_cases [] overrides_folder store_config only) [ inl none ↦ omega (arith, none.1) | inr is ↦ cc is ]
  ]
]

no_layer : (name : List ℕ) (u : View) (e : Slot) → ReplacesName (override_path name) u store_config e → ⊥
no_layer name u e (inl new) = cc new.0
no_layer name u e (inr (inl made)) = no_folders name made.0
no_layer name u e (inr (inr work)) = cc work.is

no_write : (write : Write) (u : View) (e : Slot) → MayWrite write u store_config e → ⊥
no_write (moves name commit) u e put = no_deployed name commit e put
no_write (leaves name) u e put = cc put.0
no_write sets u e put = no_config u e put
no_write migrates u e put = no_config u e put
no_write (layers row) u e put = no_layer row.name u e put
no_write (bares name) u e put = cc put.0

no_effect : (s : State) (e : Effect) → (BringsCommit e → ⊥) → (u : View) (x : Slot) → ChangesName s e u store_config x → ⊥
no_effect s (brings name remote commit) off u x put = absurd (off tt)
no_effect s (writes write) off u x put = no_write write u x put

-- no operation that brings no commit changes it
pub no_change : (s : State) (op : Op) → (Brings op → ⊥) → (u : View) (e : Slot) → MayChange s op u store_config e → ⊥
no_change s op off u e put = no_effect s (effect_of op) off u e put
