-- What each step changes.
use Rattle.std.proofs.Common.{◌≡◌, ◌≢◌, ◌⊎◌, inl, inr, ℕ, List, ◌∷◌, Bool, false, codes, refl, sym, ◌∙◌, subst, arith}
use Rattle.fp_base.specs.declared.object.ObjKind.{ObjKind}
use Rattle.fp_base.specs.declared.object.ObjKind.TheVariants as kinds
use Rattle.fp_host.specs.Paths.{Elements, Slot, absent, dir, file, IsAbove}
use Rattle.fp_host.specs.View.{View, Inode, IsTree}
use Rattle.fp_host.specs.Outcome.{shows}
use Rattle.fp_host.specs.Frame.{Keeps, NoPath}
use Rattle.fp_host.proofs.Above.{above_longer}
use Rattle.fp_name.specs.Refs.{Ref}
use Rattle.fp_small.specs.Clear.{IsWithin}
use Rattle.fp_small.specs.Files.{KeepsFiles}
use Rattle.fp_small.specs.Folders.{ancestors, DirsAt}
use Rattle.fp_small.specs.Places.{repo, tmp}
use Rattle.fp_small.specs.declared.state.State.{State}
use Rattle.fp_small.specs.declared.state.RefRow.{RefRow}
use Rattle.fp_small.proofs.Keeping.{files_stay, files_on, files_kept}
use Rattle.fp_small.proofs.Replacement.{ancestors_above}
use Rattle.dep_states.proofs.SharedAs.{shared_empty, shared_on}
use Rattle.fp_small.proofs.Within.{within_from}
use Rattle.ost_model.specs.Look.{Found, nothing, directory, file_at, look}
use Rattle.ost_model.specs.Objects.{object_path, store}
use Rattle.ost_checkout.specs.Checkout.{SlotOf, ChecksOutAt, ChecksOutName, ChecksOut}
use Rattle.ost_pull.specs.Pulls.{Pulls, PullsName}
use Rattle.ost_pull.specs.Work.{WorksName}
use Rattle.dep_states.specs.Frames.{KeptIn}
use Rattle.dep_states.specs.Lasting.{SharesAs}
use Rattle.dep_states.specs.Links.{WasStored, Links}
use Rattle.dep_states.specs.Names.{commit_dir}
use Rattle.dep_states.proofs.Lasting.{TakesFiles, takes_object}
use Rattle.dep_states.proofs.Lasting.TakesFiles.{store_config as takes_config}
use Rattle.dep_states.proofs.Linked.{links_refl, links_on, links_lasting, links_no_file, object_stored, stored_on}
use Rattle.dep_states.proofs.Work.{no_object_above}
use Rattle.dep_switch.proofs.Sparing.{which as which_link}
use Rattle.dep_switch.specs.Writing.{new_deploy, new_folder, the_link}
use Rattle.op_change.specs.Deploys.{DeploysName, work_goes, before_switch, at_active, Deploys}
use Rattle.op_change.specs.Bringing as names
use Rattle.op_change.specs.Bringing.{BringsName, ChangesFor}
use Rattle.op_change.specs.Furnishing.{Furnishes, readies, lays}
use Rattle.op_change.specs.LayingOut.{MakesAbove, LaysOut, folders_come, paths_come}
use Rattle.op_change.specs.Readying.{store_config, a_head, ReadiesName, ReadiesStore}
use Rattle.op_change.specs.Rooms.{RoomAt, RoomName}
use Rattle.op_change.proofs.Apart.{object_off_dir, object_not_above, work_in_tmp, dir_apart, same_store, store_by}
use Rattle.op_change.proofs.LaidOut.{object_stays}
use Rattle.op_change.proofs.Sparing.{which_of}
use Rattle.op_change.proofs.StoreConfig.{no_dir, no_folder, no_room, no_deployed, no_pulled}

-- ---- in general

module _ {s : State} {name : Ref} {commit : List ℕ} where
  pub changes_none : {u : View} → ChangesFor s name commit u u
  changes_none = record { names = λ q. inl refl; objects = λ d kind digits there. refl; config_stays = λ there. refl; files = files_stay; links = links_refl; printed = refl }

  pub changes_on : {u v w : View} → ChangesFor s name commit u v → ChangesFor s name commit v w → ChangesFor s name commit u w
  changes_on {u = u} {v = v} {w = w} first second = record {
    names = λ q. elim (second.names q) [
      | inl same ↦ elim (first.names q) [ inl was ↦ inl (same ∙ was) | inr put ↦ inr (subst (BringsName s name commit q) (sym same) put) ]
      | inr put ↦ inr put
    ];
    objects = λ d kind digits there.
        let before = first.objects d kind digits there in
        second.objects d kind digits (λ none. there (sym before ∙ none)) ∙ before;
    config_stays = λ there. let before = first.config_stays there in second.config_stays (λ none. there (sym before ∙ none)) ∙ before;
    files = files_on first.files second.files;
    links = links_on first.links second.links second.files;
    printed = second.printed ∙ first.printed;
  }

  -- what gives no object a name changes so
  pub changes_by : (W : Elements → Slot → Type 0) {u w : View} → ((q : Elements) (e : Slot) → W q e → BringsName s name commit q e) → ((d : List ℕ) (kind : ObjKind) (e : Slot) → W (object_path repo d kind) e → ⊥) → ((e : Slot) → W store_config e → ⊥)
      → ((q : Elements) → (w.names q ≡ u.names q) ⊎ W q (w.names q)) → KeepsFiles u w → Links u w → w.printed ≡ u.printed → ChangesFor s name commit u w
  changes_by W may off apart names files links printed = record {
    names = λ q. elim (names q) [ inl same ↦ inl same | inr put ↦ inr (may q _ put) ];
    objects = λ d kind digits there. elim (names (object_path repo d kind)) [ inl same ↦ same | inr put ↦ absurd (off d kind _ put) ];
    config_stays = λ there. elim (names store_config) [ inl same ↦ same | inr put ↦ absurd (apart _ put) ];
    files = files;
    links = links;
    printed = printed;
  }

-- ---- room

module _ (s : State) (name : Ref) (commit : List ℕ) (kept : Bool) where
  abbrev Room : Elements → Slot → Type 0
  Room = RoomName tmp (commit_dir name commit) kept

  pub room_off : (d : List ℕ) (kind : ObjKind) (e : Slot) → Room (object_path repo d kind) e → ⊥
  room_off d kind e (inl work) = no_object_above d kind work.0
  room_off d kind e (inr folder) = object_off_dir name commit d kind folder.1.0

  room_may : (kept ≡ false → KeptIn s name commit → ⊥) → (q : Elements) (e : Slot) → Room q e → BringsName s name commit q e
  room_may unkept q e (inl work) = names.some_work work.0
  room_may unkept q e (inr folder) = names.in_folder (unkept folder.0) folder.1.0

  room_no_file : (q : Elements) (id : ℕ) → Room q (file id) → ⊥
  room_no_file q id (inl work) = cc work.1
  room_no_file q id (inr folder) = cc folder.1.1

  pub room_changes : (kept ≡ false → KeptIn s name commit → ⊥) → {u w : View} → Keeps (RoomAt tmp (commit_dir name commit) kept) Room NoPath u w → ChangesFor s name commit u w
  room_changes unkept keeps = changes_by Room (room_may unkept) room_off (no_room name commit kept) keeps.names (files_kept keeps) (links_no_file Room keeps.names room_no_file) keeps.printed

  pub room_store : {u w : View} → IsTree u → IsTree w → Keeps (RoomAt tmp (commit_dir name commit) kept) Room NoPath u w → store repo (shows w) ≡ store repo (shows u)
  room_store before after keeps = same_store Room before after (files_kept keeps) keeps.names room_off

-- ---- a pull

module _ (s : State) (name : Ref) (commit : List ℕ) (n : List ℕ) where
  -- a folder above an object of the work folder
  above_work : (d : List ℕ) (kind : ObjKind) (q : Elements) (e : Slot) → IsAbove q (object_path (n ∷ tmp) d kind) → e ≡ dir → BringsName s name commit q e
  above_work d kind q e (inl at) is = names.some_work (subst (IsAbove tmp) (sym at) (inr (inr (inl refl))))
  above_work d kind q e (inr (inl at)) is = names.some_work (subst (IsAbove tmp) (sym at) (inr (inl refl)))
  above_work d kind q e (inr (inr (inl at))) is = names.some_work (subst (IsAbove tmp) (sym at) (inl refl))
  above_work d kind q e (inr (inr (inr (inl at)))) is = names.a_folder (names.for_work at) is
  above_work d kind q e (inr (inr (inr (inr (inl at))))) is = names.a_folder (names.above_head (subst (λ (p : Elements). IsAbove p a_head) (sym at) (inr (inr (inl refl))))) is
  above_work d kind q e (inr (inr (inr (inr (inr (inl at)))))) is = names.a_folder (names.above_head (subst (λ (p : Elements). IsAbove p a_head) (sym at) (inr (inr (inr (inl refl)))))) is
  above_work d kind q e (inr (inr (inr (inr (inr (inr none)))))) is = absurd none

  work_may : (q : Elements) (e : Slot) → WorksName (n ∷ tmp) q e → BringsName s name commit q e
  work_may q e (inl object) = names.some_work (subst (IsAbove tmp) (sym object.at) (inr (inr (inr (inl refl)))))
  work_may q e (inr (inl above)) = above_work above.0.digest above.0.kind q e above.0.above above.1
  work_may q e (inr (inr away)) = names.some_work (work_in_tmp n q away.0)

  pull_may : (u : View) (q : Elements) (e : Slot) → PullsName repo (n ∷ tmp) u q e → BringsName s name commit q e
  pull_may u q e (inl work) = work_may q e work
  pull_may u q e (inr (inl object)) = names.an_object object.digest object.kind object.digits object.at
  pull_may u q e (inr (inr above)) = names.a_folder (names.above_object above.0.digest above.0.kind above.0.digits above.0.above) above.1

  -- no object's name is one of the work folder's, or above one of them
  above_off : (d c : List ℕ) (kind k : ObjKind) → IsAbove (object_path repo d kind) (object_path (n ∷ tmp) c k) → ⊥
  above_off d c kind k (inl at) = cc at
  above_off d c kind k (inr (inl at)) = no_object_above d kind (subst (IsAbove tmp) (sym at) (inr (inl refl)))
  above_off d c kind k (inr (inr (inl at))) = cc at
  above_off d c kind k (inr (inr (inr (inl at)))) = cc at
  above_off d c kind k (inr (inr (inr (inr (inl at))))) = cc at
  above_off d c kind k (inr (inr (inr (inr (inr (inl at)))))) = cc at
  above_off d c kind k (inr (inr (inr (inr (inr (inr none)))))) = none

  work_off : (d : List ℕ) (kind : ObjKind) (e : Slot) → WorksName (n ∷ tmp) (object_path repo d kind) e → ⊥
  work_off d kind e (inl object) = cc object.at
  work_off d kind e (inr (inl above)) = above_off d above.0.digest kind above.0.kind above.0.above
  work_off d kind e (inr (inr away)) = no_object_above d kind (work_in_tmp n (object_path repo d kind) away.0)

  pull_off : (u : View) (d : List ℕ) (kind : ObjKind) (e : Slot) → u.names (object_path repo d kind) ≢ absent → PullsName repo (n ∷ tmp) u (object_path repo d kind) e → ⊥
  pull_off u d kind e there (inl work) = work_off d kind e work
  pull_off u d kind e there (inr (inl object)) = there object.free
  pull_off u d kind e there (inr (inr above)) = omega (arith, above_longer (object_path repo d kind) (object_path repo above.0.digest above.0.kind) above.0.above)

  -- a file comes to an object's name, or is work
  work_file : (q : Elements) (id : ℕ) → WorksName (n ∷ tmp) q (file id) → IsWithin tmp q
  work_file q id (inl object) = inr (subst (IsAbove tmp) (sym object.at) (inr (inr (inr (inl refl)))))
  work_file q id (inr (inl above)) = absurd (cc above.1)
  work_file q id (inr (inr away)) = absurd (cc away.1)

  pull_file : (u : View) (q : Elements) (id : ℕ) → PullsName repo (n ∷ tmp) u q (file id) → TakesFiles q ⊎ IsWithin tmp q
  pull_file u q id (inl work) = inr (work_file q id work)
  pull_file u q id (inr (inl object)) = inl (subst TakesFiles (sym object.at) (takes_object object.digest object.kind))
  pull_file u q id (inr (inr above)) = absurd (cc above.1)

  pub pull_changes : {u w : View} → Pulls repo (n ∷ tmp) u w → ChangesFor s name commit u w
  pull_changes {u = u} pull = record {
    names = λ q. elim (pull.keeps.names q) [ inl same ↦ inl same | inr put ↦ inr (pull_may u q _ put) ];
    objects = λ d kind digits there. elim (pull.keeps.names (object_path repo d kind)) [ inl same ↦ same | inr put ↦ absurd (pull_off u d kind _ there put) ];
    config_stays = λ there. elim (pull.keeps.names store_config) [ inl same ↦ same | inr put ↦ absurd (no_pulled n u _ put) ];
    files = pull.files;
    links = links_lasting (PullsName repo (n ∷ tmp) u) pull.keeps.names (pull_file u);
    printed = pull.keeps.printed;
  }

-- ---- a store that is made ready

pub ready_object : {u w : View} → ReadiesStore u w → (d : List ℕ) (kind : ObjKind) → w.names (object_path repo d kind) ≡ u.names (object_path repo d kind)
ready_object ready d kind = elim (ready.keeps.names (object_path repo d kind)) [
  | inl same ↦ same
  | inr put ↦ absurd (elim put [
    | inl config ↦ elim config [
      | inl new ↦ cc new.0
      | inr other ↦ elim other [ inl made ↦ elim (which_of _ made.0) [ inl at ↦ cc at | inr at ↦ cc at ] | inr work ↦ cc work.is ]
    ]
    | inr made ↦ omega (arith, above_longer (object_path repo d kind) a_head (ancestors_above a_head _ made.0))
  ])
]

module _ (s : State) (name : Ref) (commit : List ℕ) where
  folder_may : (q : Elements) (e : Slot) → (q ≡ repo) ⊎ (q ≡ tmp) → e ≡ dir → BringsName s name commit q e
  folder_may q e (inl at) is = names.a_folder (names.above_head (subst (λ (p : Elements). IsAbove p a_head) (sym at) (inr (inr (inl refl))))) is
  folder_may q e (inr at) is = names.a_folder (names.for_work at) is

  -- a file comes as the store's `config`, or is work
  ready_file : (u : View) (q : Elements) (id : ℕ) → ReadiesName u q (file id) → TakesFiles q ⊎ IsWithin tmp q
  ready_file u q id (inl (inl new)) = inl (takes_config new.0)
  ready_file u q id (inl (inr (inl made))) = absurd (cc made.1)
  ready_file u q id (inl (inr (inr work))) = inr (inr (subst (IsAbove tmp) (sym work.is) (inl refl)))
  ready_file u q id (inr made) = absurd (cc made.1)

  pub ready_changes : {u w : View} → ReadiesStore u w → ChangesFor s name commit u w
  ready_changes {u = u} {w = w} ready = record {
    names = λ q. elim (ready.keeps.names q) [
      | inl same ↦ inl same
      | inr put ↦ inr (elim put [
        | inl config ↦ elim config [
          | inl new ↦ names.a_config new.0 new.1
          | inr other ↦ elim other [ inl made ↦ folder_may q _ (which_of q made.0) made.1 | inr work ↦ names.some_work (subst (IsAbove tmp) (sym work.is) (inl refl)) ]
        ]
        | inr made ↦ names.a_folder (names.above_head (ancestors_above a_head q made.0)) made.1
      ])
    ];
    objects = λ d kind digits there. ready_object ready d kind;
    config_stays = ready.stays;
    files = ready.files;
    links = links_lasting (ReadiesName u) ready.keeps.names (ready_file u);
    printed = ready.keeps.printed;
  }

-- ---- a commit that is laid out

module _ (name : Ref) (commit : List ℕ) where
  pub lays_files : {u w : View} → LaysOut commit (commit_dir name commit) u w → KeepsFiles u w
  lays_files (folders_come made) = files_kept made
  lays_files (paths_come between tree made checks) = files_on (files_kept made) (files_kept (checks.keeps (dir_apart name commit)))

  -- no file that is new has bytes
  pub lays_shares : {L : Elements → Inode → Type 0} {u w : View} → LaysOut commit (commit_dir name commit) u w → SharesAs L u w
  lays_shares (folders_come made) = shared_empty made
  lays_shares (paths_come between tree made checks) = let keeps = checks.keeps (dir_apart name commit) in shared_on (shared_empty made) (shared_empty keeps) (files_kept keeps)

module _ (s : State) (name : Ref) (commit : List ℕ) where
  made_changes : {u w : View} → MakesAbove (commit_dir name commit) u w → ChangesFor s name commit u w
  made_changes made = changes_by (DirsAt (ancestors (commit_dir name commit)))
      (λ q e put. names.a_folder (names.above_commit (ancestors_above (commit_dir name commit) q put.0)) put.1)
      (λ d kind e put. object_not_above name commit d kind (ancestors_above (commit_dir name commit) _ put.0)) (no_folder name commit) made.names (files_kept made)
      (links_no_file (DirsAt (ancestors (commit_dir name commit))) made.names (λ q id put. cc put.1)) made.printed

  -- a file is the very one of its object, which was put at the object's name
  slot_stored : (v : View) (found : Found) (id : ℕ) → IsTree v → SlotOf repo v found (file id) → WasStored id v
  slot_stored v nothing id tree may = absurd may
  slot_stored v (directory row) id tree may = absurd (cc may)
  slot_stored v (file_at d) id tree may = object_stored v d kinds.File id tree (sym may)

  checks_links : {u w : View} → IsTree u → ChecksOut repo commit (commit_dir name commit) u w → Links u w
  checks_links {u = u} {w = w} tree checks = record {
    each = λ other text q id above is. elim (keeps.names q) [
      | inl same ↦ inl (sym same ∙ is)
      | inr put ↦ inr (inr (stored_on (files_kept keeps) (came q id put is)))
    ];
  }
    where
      keeps : Keeps (ChecksOutAt repo commit (commit_dir name commit) u) (ChecksOutName repo commit (commit_dir name commit) u) NoPath u w
      keeps = checks.keeps (dir_apart name commit)

      came : (q : Elements) (id : ℕ) → ChecksOutName repo commit (commit_dir name commit) u q (w.names q) → w.names q ≡ file id → WasStored id u
      came q id put is =
          let found = look (store repo (shows u)) commit put.rest in
          slot_stored u found id tree (subst (SlotOf repo u found) is put.may)

  checks_changes : {u w : View} → IsTree u → (KeptIn s name commit → ⊥) → ChecksOut repo commit (commit_dir name commit) u w → ChangesFor s name commit u w
  checks_changes {u = u} tree unkept checks =
      let keeps = checks.keeps (dir_apart name commit) in
      changes_by (λ q e. IsWithin (commit_dir name commit) q) (λ q e within. names.in_folder unkept within) (λ d kind e within. object_off_dir name commit d kind within) (λ e within. no_dir name commit within)
      (λ q. elim (keeps.names q) [ inl same ↦ inl same | inr put ↦ inr (subst (IsWithin (commit_dir name commit)) (sym put.at) (within_from (commit_dir name commit) put.rest)) ]) (files_kept keeps) (checks_links tree checks) keeps.printed

  pub lays_changes : {u w : View} → (KeptIn s name commit → ⊥) → LaysOut commit (commit_dir name commit) u w → ChangesFor s name commit u w
  lays_changes unkept (folders_come made) = made_changes made
  lays_changes unkept (paths_come between tree made checks) = changes_on (made_changes made) (checks_changes tree unkept checks)

  pub furnish_changes : {kept : Bool} {u w : View} → (kept ≡ false → KeptIn s name commit → ⊥) → Furnishes commit (commit_dir name commit) kept u w → ChangesFor s name commit u w
  furnish_changes unkept (readies ready) = ready_changes s name commit ready
  furnish_changes unkept (lays between tree ready is out) = changes_on (ready_changes s name commit ready) (lays_changes (unkept is) out)

  -- no name of an object changes
  lays_object : {u w : View} → LaysOut commit (commit_dir name commit) u w → (d : List ℕ) (kind : ObjKind) → w.names (object_path repo d kind) ≡ u.names (object_path repo d kind)
  lays_object (folders_come made) d kind = object_stays (commit_dir name commit) made (object_not_above name commit) d kind
  lays_object (paths_come between tree made checks) d kind =
      elim ((checks.keeps (dir_apart name commit)).names (object_path repo d kind)) [
        | inl same ↦ same ∙ object_stays (commit_dir name commit) made (object_not_above name commit) d kind
        | inr put ↦ absurd (object_off_dir name commit d kind (subst (IsWithin (commit_dir name commit)) (sym put.at) (within_from (commit_dir name commit) put.rest)))
      ]

  furnish_object : {kept : Bool} {u w : View} → Furnishes commit (commit_dir name commit) kept u w → (d : List ℕ) (kind : ObjKind) → w.names (object_path repo d kind) ≡ u.names (object_path repo d kind)
  furnish_object (readies ready) d kind = ready_object ready d kind
  furnish_object (lays between tree ready is out) d kind = lays_object out d kind ∙ ready_object ready d kind

  pub furnish_files : {kept : Bool} {u w : View} → Furnishes commit (commit_dir name commit) kept u w → KeepsFiles u w
  furnish_files (readies ready) = ready.files
  furnish_files (lays between tree ready is out) = files_on ready.files (lays_files name commit out)

  pub furnish_store : {kept : Bool} {u w : View} → IsTree u → IsTree w → Furnishes commit (commit_dir name commit) kept u w → store repo (shows w) ≡ store repo (shows u)
  furnish_store before after furnish = store_by before after (furnish_files furnish) (furnish_object furnish)

  -- ---- a commit that is deployed

  deploy_may : (q : Elements) (e : Slot) → DeploysName name commit q e → BringsName s name commit q e
  deploy_may q e (work_goes within none) = names.some_work (work_in_tmp (codes "active") q within)
  deploy_may q e (before_switch (new_deploy at is)) = names.a_record at is
  deploy_may q e (before_switch (new_folder has is)) = folder_may s name commit q e (which_link q has) is
  deploy_may q e (before_switch (the_link at is)) = names.some_work (subst (IsAbove tmp) (sym at) (inl refl))
  deploy_may q e (at_active at is) = names.at_active at is

  deploy_off : (d : List ℕ) (kind : ObjKind) (e : Slot) → DeploysName name commit (object_path repo d kind) e → ⊥
  deploy_off d kind e (work_goes within none) = no_object_above d kind (work_in_tmp (codes "active") (object_path repo d kind) within)
  deploy_off d kind e (before_switch (new_deploy at is)) = cc at
  deploy_off d kind e (before_switch (new_folder has is)) = elim (which_link (object_path repo d kind) has) [ inl at ↦ cc at | inr at ↦ cc at ]
  deploy_off d kind e (before_switch (the_link at is)) = cc at
  deploy_off d kind e (at_active at is) = cc at

  pub deploy_changes : {row : RefRow} {u w : View} → row.name ≡ name → row.commit ≡ commit → Deploys s row u w → ChangesFor s name commit u w
  deploy_changes {row = row} {w = w} named at deploys = changes_by (DeploysName name commit) deploy_may deploy_off (no_deployed name commit)
      (λ q. elim (deploys.names q) [ inl same ↦ inl same | inr put ↦ inr (subst (λ (n : Ref). DeploysName n commit q (w.names q)) named (subst (λ (c : List ℕ). DeploysName row.name c q (w.names q)) at put)) ])
      deploys.files deploys.links deploys.printed

  pub deploy_store : {row : RefRow} {u w : View} → row.name ≡ name → row.commit ≡ commit → IsTree u → IsTree w → Deploys s row u w → store repo (shows w) ≡ store repo (shows u)
  deploy_store {row = row} {w = w} named at before after deploys = same_store (DeploysName name commit) before after deploys.files
      (λ q. elim (deploys.names q) [ inl same ↦ inl same | inr put ↦ inr (subst (λ (n : Ref). DeploysName n commit q (w.names q)) named (subst (λ (c : List ℕ). DeploysName row.name c q (w.names q)) at put)) ])
      deploy_off
