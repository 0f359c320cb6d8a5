-- Where the steps can be done: in a view that opens the state.
use Rattle.std.proofs.Common.{◌≡◌, ◌⊎◌, inl, inr, ℕ, List, [], ◌∷◌, Bool, true, false, None, codes, take, refl, sym, ◌∙◌, ap, subst, arith}
use Rattle.std.specs.Prelude.{◌&&◌}
use Rattle.std.proofs.lemmas.Bool.{and_parts}
use Rattle.fp_base.specs.declared.object.ObjKind.{ObjKind}
use Rattle.fp_base.proofs.Texts.{bytes_eq-false}
use Rattle.fp_host.specs.Paths.{Elements, Slot, absent, dir, IsAbove}
use Rattle.fp_host.specs.View.{View, IsTree}
use Rattle.fp_host.specs.Outcome.{Spot, shows}
use Rattle.fp_host.proofs.Above.{above_longer}
use Rattle.fp_host.proofs.Shown.{now_left}
use Rattle.fp_name.specs.Grammar.{is_id, is_arch, is_branch}
use Rattle.fp_name.specs.Hex.{hex}
use Rattle.fp_name.specs.Kinds.{kind_word}
use Rattle.fp_name.specs.Refs.{Ref, is_ref}
use Rattle.fp_name.specs.declared.kind.RefKind.{RefKind}
use Rattle.fp_name.specs.declared.kind.RefKind.TheVariants.{App, Runtime}
use Rattle.fp_small.specs.Folders.{IsFree}
use Rattle.fp_small.specs.Places.{repo, tmp}
use Rattle.fp_small.specs.declared.state.State.{State}
use Rattle.fp_small.proofs.Replacement.{ancestors_above}
use Rattle.ost_model.specs.Objects.{Have, object_path, store}
use Rattle.ost_model.specs.Order.{first_fault}
use Rattle.ost_model.specs.Stores.{MayBePrefix, objects_folder}
use Rattle.ost_pull.specs.Pulls.{CanPull}
use Rattle.dep_states.specs.Names.{commit_dir, branch_dir}
use Rattle.dep_states.specs.Sound.{Sound, Opens}
use Rattle.dep_states.specs.Zones.{Fits, IsFolderOrGone, zone, outward}
use Rattle.dep_states.proofs.Deployed.{top}
use Rattle.dep_states.proofs.Rows.{head_of}
use Rattle.dep_states.proofs.Switching.{word_no_repo}
use Rattle.dep_states.proofs.Zones.{unless_any}
use Rattle.dep_switch.proofs.Spots.{folder_free, file_free}
use Rattle.op_change.specs.Furnishing.{CanFurnish}
use Rattle.op_change.specs.LayingOut.{CanLayOut}
use Rattle.op_change.specs.Places.{pull_work}
use Rattle.op_change.specs.Readying.{store_config, refs_folder, heads_folder, a_head, ReadiesStore, CanReady}
use Rattle.op_change.proofs.Apart.{dir_apart, object_not_above, store_by}
use Rattle.op_change.proofs.Changing.{ready_object}
use Rattle.op_change.proofs.Cleared.{can_empty}
use Rattle.op_change.proofs.Pulling.{true_names}
use Rattle.op_change.proofs.Readied.{which}
use Rattle.op_change.proofs.Sparing.{which_of}

-- ---- what may stand at the folders of a ref

kind_seen : (k : RefKind) (p : Elements) (spot : Spot) → Fits (zone (kind_word k ∷ [])) p spot → IsFolderOrGone spot
kind_seen App p spot f = f
kind_seen Runtime p spot f = f

id_seen : (k : RefKind) (id : List ℕ) (p : Elements) (spot : Spot) → is_id id ≡ true → Fits (zone (kind_word k ∷ (id ∷ []))) p spot → IsFolderOrGone spot
id_seen App id p spot i f = unless_any (is_id id) _ p spot i f
id_seen Runtime id p spot i f = unless_any (is_id id) _ p spot i f

arch_seen : (k : RefKind) (id arch : List ℕ) (p : Elements) (spot : Spot) → is_id id ≡ true → is_arch arch ≡ true → Fits (zone (kind_word k ∷ (id ∷ (arch ∷ [])))) p spot → IsFolderOrGone spot
arch_seen App id arch p spot i a f = unless_any (is_arch arch) _ p spot a (unless_any (is_id id) _ p spot i f)
arch_seen Runtime id arch p spot i a f = unless_any (is_arch arch) _ p spot a (unless_any (is_id id) _ p spot i f)

branch_seen : (k : RefKind) (id arch branch : List ℕ) (p : Elements) (spot : Spot) → is_id id ≡ true → is_arch arch ≡ true → is_branch branch ≡ true → Fits (zone (kind_word k ∷ (id ∷ (arch ∷ (branch ∷ []))))) p spot → IsFolderOrGone spot
branch_seen App id arch branch p spot i a b f = unless_any (is_branch branch) _ p spot b (unless_any (is_arch arch) _ p spot a (unless_any (is_id id) _ p spot i f))
branch_seen Runtime id arch branch p spot i a b f = unless_any (is_branch branch) _ p spot b (unless_any (is_arch arch) _ p spot a (unless_any (is_id id) _ p spot i f))

prefix_free : (xx : List ℕ) (spot : Spot) → MayBePrefix xx spot → IsFolderOrGone spot
prefix_free xx spot (inl none) = subst IsFolderOrGone (sym none) tt
prefix_free xx spot (inr there) = subst IsFolderOrGone (sym there.0) tt

free_is : (v : View) (p q : Elements) → p ≡ q → IsFree v q → IsFree v p
free_is v p q at free = subst (IsFree v) (sym at) free

module _ {s : State} {v : View} (tree : IsTree v) (opens : Opens s v) where
  sound_now : Sound (shows v)
  sound_now = opens.sound (shows v) (now_left v)

  free_at : (q : Elements) → (Fits (zone (outward q)) q (shows v q) → IsFolderOrGone (shows v q)) → IsFree v q
  free_at q seen = folder_free tree q (seen ((sound_now.kinds q).fits))

  root_free : IsFree v []
  root_free = inr tree.root

  repo_free : IsFree v repo
  repo_free = free_at repo (λ f. f)

  tmp_free : IsFree v tmp
  tmp_free = free_at tmp (λ f. f)

  -- ---- a pull

  work_open : (q : Elements) → IsAbove q pull_work → (v.names q ≡ absent) ⊎ (v.names q ≡ dir)
  work_open q (inl at) = free_is v q tmp at tmp_free
  work_open q (inr (inl at)) = free_is v q repo at repo_free
  work_open q (inr (inr (inl at))) = free_is v q [] at root_free
  work_open q (inr (inr (inr none))) = absurd none

  object_open : (d : List ℕ) (kind : ObjKind) (q : Elements) → IsAbove q (object_path repo d kind) → IsFree v q
  object_open d kind q (inl at) = free_is v q _ at (free_at (take 2 (hex d) ∷ objects_folder repo) (λ f. prefix_free (take 2 (hex d)) _ f))
  object_open d kind q (inr (inl at)) = free_is v q (objects_folder repo) at (free_at (objects_folder repo) (λ f. f))
  object_open d kind q (inr (inr (inl at))) = free_is v q repo at repo_free
  object_open d kind q (inr (inr (inr (inl at)))) = free_is v q [] at root_free
  object_open d kind q (inr (inr (inr (inr none)))) = absurd none

  pub can_pull : CanPull repo pull_work v
  can_pull = record {
    true_names = true_names opens;
    low = omega arith;
    clears = record { no_root = λ e. cc e; below = can_empty pull_work tree opens };
    work_open = work_open;
    store_open = record { free = λ q above. object_open above.digest above.kind q above.above };
  }

  -- ---- a store that is made ready

  pub can_ready : CanReady v
  can_ready = record {
    config = record {
      entry = file_free tree store_config ((sound_now.kinds store_config).fits);
      folders = record { free = λ q has. elim (which_of q has) [ inl at ↦ free_is v q repo at repo_free | inr at ↦ free_is v q tmp at tmp_free ] };
      no_root = λ e. cc e;
      no_repo = λ e. cc e;
      no_tmp = λ e. bytes_eq-false (codes "config") (codes "tmp") refl (ap head_of e);
      no_work = no_work;
    };
    folders = record {
      free = λ q has. elim (which q has) [
        | inl at ↦ free_is v q repo (sym at) repo_free
        | inr other ↦ elim other [
          | inl at ↦ free_is v q refs_folder (sym at) (free_at refs_folder (λ f. f))
          | inr at ↦ free_is v q heads_folder (sym at) (free_at heads_folder (λ f. f))
        ]
      ];
    };
  }
    where
      no_work : IsAbove tmp store_config → ⊥
      no_work (inl at) = cc at
      no_work (inr (inl at)) = cc at
      no_work (inr (inr none)) = none

  -- ---- the folders above a commit's

  above_free : (name : Ref) (commit : List ℕ) → is_ref name ≡ true → (q : Elements) → IsAbove q (commit_dir name commit) → IsFree v q
  above_free name commit good q above =
      let parts = and_parts (is_id name.id) (is_arch name.arch && is_branch name.branch) good in
      let more = and_parts (is_arch name.arch) (is_branch name.branch) parts.1 in
      go parts.0 more.0 more.1 above
    where
      go : is_id name.id ≡ true → is_arch name.arch ≡ true → is_branch name.branch ≡ true → IsAbove q (commit_dir name commit) → IsFree v q
      go i a b (inl at) = free_is v q (branch_dir name) at (free_at (branch_dir name) (λ f. branch_seen name.kind name.id name.arch name.branch _ _ i a b f))
      go i a b (inr (inl at)) = free_is v q _ at (free_at (name.arch ∷ (name.id ∷ (kind_word name.kind ∷ []))) (λ f. arch_seen name.kind name.id name.arch _ _ i a f))
      go i a b (inr (inr (inl at))) = free_is v q _ at (free_at (name.id ∷ (kind_word name.kind ∷ [])) (λ f. id_seen name.kind name.id _ _ i f))
      go i a b (inr (inr (inr (inl at)))) = free_is v q _ at (free_at (kind_word name.kind ∷ []) (λ f. kind_seen name.kind _ _ f))
      go i a b (inr (inr (inr (inr (inl at))))) = free_is v q [] at root_free
      go i a b (inr (inr (inr (inr (inr none))))) = absurd none

  pub can_furnish : (name : Ref) (commit : List ℕ) (kept : Bool) → is_ref name ≡ true → (kept ≡ false → v.names (commit_dir name commit) ≡ absent) → first_fault (store repo (shows v)) commit ≡ None → CanFurnish commit (commit_dir name commit) kept v
  can_furnish name commit kept good free whole = record {
    store = can_ready;
    folder = λ is. record {
      apart = dir_apart name commit;
      above = object_not_above name commit;
      free = free is;
      folders = record { free = λ q has. above_free name commit good q (ancestors_above (commit_dir name commit) q has) };
      whole = whole;
    };
  }

-- ---- it can still be laid out once the store is ready

above_top : (name : Ref) (commit : List ℕ) (q : Elements) → IsAbove q (commit_dir name commit) → (q ≡ []) ⊎ (top q ≡ kind_word name.kind)
above_top name commit q (inl at) = inr (ap top at)
above_top name commit q (inr (inl at)) = inr (ap top at)
above_top name commit q (inr (inr (inl at))) = inr (ap top at)
above_top name commit q (inr (inr (inr (inl at)))) = inr (ap top at)
above_top name commit q (inr (inr (inr (inr (inl at))))) = inl at
above_top name commit q (inr (inr (inr (inr (inr none))))) = absurd none

no_repo_above : (name : Ref) (commit : List ℕ) (q : Elements) → IsAbove q (commit_dir name commit) → top q ≡ codes "repo" → ⊥
no_repo_above name commit q above in_repo = elim (above_top name commit q above) [
  | inl at ↦ bytes_eq-false [] (codes "repo") refl (sym (ap top at) ∙ in_repo)
  | inr at ↦ word_no_repo name.kind (sym at ∙ in_repo)
]

module _ (name : Ref) (commit : List ℕ) {u v : View} (ready : ReadiesStore u v) where
  dir_stays : v.names (commit_dir name commit) ≡ u.names (commit_dir name commit)
  dir_stays = elim (ready.keeps.names (commit_dir name commit)) [
    | inl same ↦ same
    | inr put ↦ absurd (elim put [
      | inl config ↦ elim config [
        | inl new ↦ cc new.0
        | inr other ↦ elim other [ inl made ↦ elim (which_of _ made.0) [ inl at ↦ cc at | inr at ↦ cc at ] | inr work ↦ cc work.is ]
      ]
      | inr made ↦ omega (arith, above_longer (commit_dir name commit) a_head (ancestors_above a_head _ made.0))
    ])
  ]

  above_stays : (q : Elements) → IsAbove q (commit_dir name commit) → IsFree u q → IsFree v q
  above_stays q above free = elim (ready.keeps.names q) [
    | inl same ↦ subst (λ (e : Slot). (e ≡ absent) ⊎ (e ≡ dir)) (sym same) free
    | inr put ↦ elim put [
      | inl config ↦ elim config [
        | inl new ↦ absurd (no_repo_above name commit q above (ap top new.0))
        | inr other ↦ elim other [ inl made ↦ inr made.1 | inr work ↦ absurd (no_repo_above name commit q above (ap top work.is)) ]
      ]
      | inr made ↦ inr made.1
    ]
  ]

  pub can_lay_next : IsTree u → IsTree v → CanLayOut commit (commit_dir name commit) u → CanLayOut commit (commit_dir name commit) v
  can_lay_next before after can = record {
    apart = can.apart;
    above = can.above;
    free = dir_stays ∙ can.free;
    folders = record { free = λ q has. above_stays q (ancestors_above (commit_dir name commit) q has) (can.folders.free q has) };
    whole = ap (λ (have : Have). first_fault have commit) (store_by before after ready.files (ready_object ready)) ∙ can.whole;
  }
