-- Room, a pull, and what comes after it, one after another.
use Rattle.std.proofs.Common.{◌≡◌, ◌⊎◌, inl, inr, ℕ, List, [], ◌∷◌, Bool, true, false, Option, Some, None, codes, refl, sym, ◌∙◌, ap, subst, arith}
use Rattle.fp_base.specs.declared.object.ObjKind.{ObjKind}
use Rattle.fp_base.proofs.Texts.{bytes_eq-false}
use Rattle.fp_host.specs.Paths.{Elements, Slot, absent, IsAbove, dir}
use Rattle.fp_host.specs.View.{View, IsTree}
use Rattle.fp_host.specs.Outcome.{shows}
use Rattle.fp_host.specs.Frame.{Keeps, NoPath}
use Rattle.fp_host.specs.Remote.{Holdings}
use Rattle.fp_host.proofs.Above.{above_longer}
use Rattle.fp_host.proofs.Shown.{now_left}
use Rattle.fp_name.specs.Hex.{is_digest}
use Rattle.fp_name.specs.Refs.{Ref}
use Rattle.fp_small.specs.Clear.{IsWithin}
use Rattle.fp_small.specs.Places.{repo, tmp, new_name}
use Rattle.fp_small.specs.Shares.{Shares}
use Rattle.fp_small.specs.declared.state.State.{State}
use Rattle.fp_small.proofs.Replacement.{ancestors_above}
use Rattle.ost_model.specs.Objects.{Have, object_path, object_at, store, supply}
use Rattle.ost_model.specs.Order.{Agree, order, first_fault}
use Rattle.ost_model.specs.Remotes.{remote}
use Rattle.ost_model.specs.Standing.{deploy_name}
use Rattle.ost_model.proofs.Looked.{look_same}
use Rattle.ost_model.proofs.Places.{first_same}
use Rattle.ost_checkout.specs.Checkout.{HasReserved}
use Rattle.ost_pull.specs.Pulls.{HasTrueFiles, Pulls, PullsName, PullsSoundly, IsLackedName, WasPulled, WasRefused}
use Rattle.ost_pull.specs.Work.{WorksName}
use Rattle.dep_states.specs.Frames.{KeptIn}
use Rattle.dep_states.specs.Lasting.{IsLasting, SharesAs}
use Rattle.dep_states.specs.Lasting.IsLasting.{an_object}
use Rattle.dep_states.specs.Names.{commit_dir}
use Rattle.dep_states.specs.Sound.{Opens}
use Rattle.dep_states.proofs.Deployed.{top}
use Rattle.dep_states.proofs.SharedAs.{shared_empty, shared_on, shared_by}
use Rattle.dep_states.proofs.Rows.{head_of}
use Rattle.dep_states.proofs.Switching.{word_no_repo}
use Rattle.dep_states.proofs.Work.{no_object_above}
use Rattle.dep_switch.specs.Writing.{new_link}
use Rattle.dep_switch.proofs.Spots.{same_shown}
use Rattle.op_change.specs.Bringing.{AreTold, LeftName, work_gone, work_folder, unkept_gone}
use Rattle.op_change.specs.Brought.{supply_at, HasObjects}
use Rattle.op_change.specs.Fetching.{Fetches, WasFetched, HasNoDeploy, WasTurnedDown}
use Rattle.op_change.specs.Furnishing.{Furnishes, readies, lays, WasFurnished}
use Rattle.op_change.specs.LayingOut.{MakesAbove, LaysOut, folders_come, paths_come}
use Rattle.op_change.specs.Places.{pull_work}
use Rattle.op_change.specs.Readying.{ReadiesStore}
use Rattle.op_change.specs.Rooms.{RoomAt, RoomName, HasRoom}
use Rattle.fp_small.proofs.Keeping.{files_kept, files_on}
use Rattle.fp_small.proofs.Within.{within_from}
use Rattle.ost_store.proofs.Creating.{creates_to, creates_on, creates_off}
use Rattle.op_change.proofs.Creating.{room_creates, furnish_creates}
use Rattle.op_change.proofs.Apart.{dir_apart, work_in_tmp, store_by}
use Rattle.op_change.proofs.Changing.{changes_on, room_changes, room_store, pull_changes, ready_object, furnish_changes, furnish_files, furnish_store}
use Rattle.op_change.proofs.Folders.{lays_opens}
use Rattle.op_change.proofs.Pulling.{pull_opens, true_files, true_names, true_same}
use Rattle.op_change.proofs.Cleared.{room_opens}
use Rattle.op_change.proofs.Sparing.{ready_opens, which_of}
use Rattle.op_change.specs.Readying.{a_head}

-- ---- names that stay through all of it

abbrev first_of : List ℕ → ℕ
first_of [] = 0
first_of (x ∷ xs) = x

link_no_new : (k : ℕ) → new_link ≡ new_name k ∷ tmp → ⊥
link_no_new k at =
    let same : 97 ≡ 110 = ap (λ (q : Elements). first_of (head_of q)) at in
    absurd (omega (arith, same))

link_off_work : (e : Slot) → WorksName pull_work new_link e → e ≡ absent
link_off_work e (inl object) = absurd (cc object.at)
link_off_work e (inr (inl above)) = absurd (no_above above.0.digest above.0.kind above.0.above)
  where
    no_above : (d : List ℕ) (kind : ObjKind) → IsAbove new_link (object_path pull_work d kind) → ⊥
    no_above d kind (inl at) = cc at
    no_above d kind (inr (inl at)) = cc at
    no_above d kind (inr (inr (inl at))) = bytes_eq-false (codes "active") (codes "pull") refl (ap head_of at)
    no_above d kind (inr (inr (inr (inl at)))) = cc at
    no_above d kind (inr (inr (inr (inr (inl at))))) = cc at
    no_above d kind (inr (inr (inr (inr (inr (inl at)))))) = cc at
    no_above d kind (inr (inr (inr (inr (inr (inr none)))))) = none
link_off_work e (inr (inr away)) = away.1

link_pulled : (u : View) (e : Slot) → PullsName repo pull_work u new_link e → e ≡ absent
link_pulled u e (inl work) = link_off_work e work
link_pulled u e (inr (inl object)) = absurd (cc object.at)
link_pulled u e (inr (inr above)) = absurd (no_above above.0.digest above.0.kind above.0.above)
  where
    no_above : (d : List ℕ) (kind : ObjKind) → IsAbove new_link (object_path repo d kind) → ⊥
    no_above d kind (inl at) = bytes_eq-false (codes "tmp") (codes "objects") refl (ap (λ (q : Elements). head_of (tail_of q)) at)
      where
        tail_of : Elements → Elements
        tail_of [] = []
        tail_of (x ∷ up) = up
    no_above d kind (inr (inl at)) = cc at
    no_above d kind (inr (inr (inl at))) = cc at
    no_above d kind (inr (inr (inr (inl at)))) = cc at
    no_above d kind (inr (inr (inr (inr none)))) = none

link_ready : {u w : View} → ReadiesStore u w → w.names new_link ≡ u.names new_link
link_ready ready = elim (ready.keeps.names new_link) [
  | inl same ↦ same
  | inr put ↦ absurd (elim put [
    | inl config ↦ elim config [
      | inl new ↦ cc new.0
      | inr other ↦ elim other [ inl made ↦ elim (which_of _ made.0) [ inl at ↦ cc at | inr at ↦ cc at ] | inr work ↦ link_no_new work.number work.is ]
    ]
    | inr made ↦ elim_head (ancestors_above a_head _ made.0)
  ])
]
  where
    elim_head : IsAbove new_link a_head → ⊥
    elim_head (inl at) = cc at
    elim_head (inr (inl at)) = cc at
    elim_head (inr (inr (inl at))) = cc at
    elim_head (inr (inr (inr (inl at)))) = cc at
    elim_head (inr (inr (inr (inr none)))) = none

module _ (name : Ref) (commit : List ℕ) where
  link_above : IsAbove new_link (commit_dir name commit) → ⊥
  link_above (inl at) = cc at
  link_above (inr (inl at)) = word_no_repo name.kind (sym (ap top at))
  link_above (inr (inr (inl at))) = cc at
  link_above (inr (inr (inr (inl at)))) = cc at
  link_above (inr (inr (inr (inr (inl at))))) = cc at
  link_above (inr (inr (inr (inr (inr none))))) = none

  link_off_dir : IsWithin (commit_dir name commit) new_link → ⊥
  link_off_dir (inl at) = cc at
  link_off_dir (inr above) = omega (arith, above_longer (commit_dir name commit) new_link above)

  link_made : {u w : View} → MakesAbove (commit_dir name commit) u w → w.names new_link ≡ u.names new_link
  link_made made = elim (made.names new_link) [ inl same ↦ same | inr put ↦ absurd (link_above (ancestors_above (commit_dir name commit) new_link put.0)) ]

  link_lays : {u w : View} → LaysOut commit (commit_dir name commit) u w → w.names new_link ≡ u.names new_link
  link_lays (folders_come made) = link_made made
  link_lays (paths_come between tree made checks) = elim ((checks.keeps (dir_apart name commit)).names new_link) [
    | inl same ↦ same ∙ link_made made
    | inr put ↦ absurd (link_off_dir (subst (IsWithin (commit_dir name commit)) (sym put.at) (within_from (commit_dir name commit) put.rest)))
  ]

  link_furnished : {kept : Bool} {u w : View} → Furnishes commit (commit_dir name commit) kept u w → w.names new_link ≡ u.names new_link
  link_furnished (readies ready) = link_ready ready
  link_furnished (lays between tree ready is out) = link_lays out ∙ link_ready ready

-- the folder of the commit is no name of a pull
pub dir_pulled : (name : Ref) (commit : List ℕ) (u : View) (e : Slot) → PullsName repo pull_work u (commit_dir name commit) e → ⊥
dir_pulled name commit u e (inl (inl object)) = cc object.at
dir_pulled name commit u e (inl (inr (inl above))) = no_above above.0.digest above.0.kind above.0.above
  where
    no_above : (d : List ℕ) (kind : ObjKind) → IsAbove (commit_dir name commit) (object_path pull_work d kind) → ⊥
    no_above d kind (inl at) = word_no_repo name.kind (ap top at)
    no_above d kind (inr (inl at)) = cc at
    no_above d kind (inr (inr (inl at))) = cc at
    no_above d kind (inr (inr (inr (inl at)))) = cc at
    no_above d kind (inr (inr (inr (inr (inl at))))) = cc at
    no_above d kind (inr (inr (inr (inr (inr (inl at)))))) = cc at
    no_above d kind (inr (inr (inr (inr (inr (inr none)))))) = none
dir_pulled name commit u e (inl (inr (inr away))) = elim away.0 [ inl at ↦ cc at | inr above ↦ no_below above ]
  where
    no_below : IsAbove pull_work (commit_dir name commit) → ⊥
    no_below (inl at) = cc at
    no_below (inr (inl at)) = word_no_repo name.kind (sym (ap top at))
    no_below (inr (inr (inl at))) = cc at
    no_below (inr (inr (inr (inl at)))) = cc at
    no_below (inr (inr (inr (inr (inl at))))) = cc at
    no_below (inr (inr (inr (inr (inr none))))) = none
dir_pulled name commit u e (inr (inl object)) = cc object.at
dir_pulled name commit u e (inr (inr above)) = omega (arith, above_longer (commit_dir name commit) (object_path repo above.0.digest above.0.kind) above.0.above)

-- what a pull made lasts
pulled_lasts : {have : Have} {commit : List ℕ} {u v w : View} → Shares (IsLackedName repo have commit u) v w → SharesAs IsLasting v w
pulled_lasts shares = shared_by (λ q f is. an_object is.digest is.kind is.digits is.at) shares

-- ---- step by step

abbrev pub RoomMade : Ref → List ℕ → Bool → View → View → Type 0
RoomMade name commit kept u v = Keeps (RoomAt tmp (commit_dir name commit) kept) (RoomName tmp (commit_dir name commit) kept) NoPath u v

-- what is known after the pull
pub record AtPull (name : Ref) (commit url : List ℕ) (kept : Bool) (holds : Option Holdings) (u v : View) : Type 0 where
  pub between : View
  pub before : IsTree u
  pub tree : IsTree between
  pub room : RoomMade name commit kept u between
  pub has : HasRoom tmp (commit_dir name commit) kept between
  pub pull : PullsSoundly repo pull_work between v
  pub was : HasTrueFiles repo between → (held : Holdings) → holds ≡ Some held → WasPulled repo pull_work (supply_at held (Some url) between) commit between v

module _ (s : State) (name : Ref) (commit url : List ℕ) (kept : Bool) (holds : Option Holdings) (digits : is_digest commit ≡ true) (unkept : kept ≡ false → KeptIn s name commit → ⊥) where
  pub room_still : {u v : View} → RoomMade name commit kept u v → Opens s u → Opens s v
  room_still room opens = room_opens name commit kept digits unkept opens room.follows

  pub fetches_room : {u w : View} → RoomMade name commit kept u w → Fetches s name commit holds u w
  fetches_room room = record { opens = λ told opens. room_still room opens; changes = λ opens. room_changes s name commit kept unkept room }

  pub pulls_of : {u v w : View} → RoomMade name commit kept u v → PullsSoundly repo pull_work v w → Opens s u → Pulls repo pull_work v w
  pulls_of room pull opens = pull (true_names (room_still room opens))

  pulled_still : {u v w : View} → RoomMade name commit kept u v → PullsSoundly repo pull_work v w → Opens s u → Opens s w
  pulled_still room pull opens = pull_opens (codes "pull") (room_still room opens) (pulls_of room pull opens)

  pub fetches_pull : {u v w : View} → RoomMade name commit kept u v → PullsSoundly repo pull_work v w → Fetches s name commit holds u w
  fetches_pull room pull = record {
    opens = λ told opens. pulled_still room pull opens;
    changes = λ opens. changes_on (room_changes s name commit kept unkept room) (pull_changes s name commit (codes "pull") (pulls_of room pull opens));
  }

  module _ {u v : View} (p : AtPull name commit url kept holds u v) where
    same_before : store repo (shows p.between) ≡ store repo (shows u)
    same_before = room_store s name commit kept p.before p.tree p.room

    pub at_still : Opens s u → Opens s v
    at_still opens = pulled_still p.room p.pull opens

    pub at_room : Opens s u → Opens s p.between
    at_room opens = room_still p.room opens

    module _ (files : HasTrueFiles repo u) (held : Holdings) (told : holds ≡ Some held) where
      same_supply : supply_at held (Some url) p.between ≡ supply_at held (Some url) u
      same_supply = ap (λ (own : Have). supply own (remote held (Some url))) same_before

      pub was_pulled : WasPulled repo pull_work (supply_at held (Some url) u) commit p.between v
      was_pulled = subst (λ (have : Have). WasPulled repo pull_work have commit p.between v) same_supply (p.was (true_same same_before files) held told)

      pub agrees : Agree (supply_at held (Some url) u) (store repo (shows v)) (order (supply_at held (Some url) u) commit)
      agrees = was_pulled.pulled.stored (shows v) (now_left v)

      pub whole : first_fault (store repo (shows v)) commit ≡ None
      whole = first_same (supply_at held (Some url) u) (store repo (shows v)) commit agrees ∙ was_pulled.pulled.clean

    module _ (tree_v : IsTree v) where
      furnish_still : {w : View} → Furnishes commit (commit_dir name commit) kept v w → AreTold holds → Opens s u → Opens s w
      furnish_still (readies ready) told opens = ready_opens ready (at_still opens)
      furnish_still (lays between tree ready is out) told opens =
          lays_opens name commit digits (unkept is) tree (ap (λ (have : Have). first_fault have commit) (store_by tree_v tree ready.files (ready_object ready)) ∙ whole (true_files opens) told.0 told.1) out (ready_opens ready (at_still opens))

      pub fetches_furnish : {w : View} → Furnishes commit (commit_dir name commit) kept v w → Fetches s name commit holds u w
      fetches_furnish furnish = record {
        opens = λ told opens. furnish_still furnish told opens;
        changes = λ opens. changes_on (changes_on (room_changes s name commit kept unkept p.room) (pull_changes s name commit (codes "pull") (pulls_of p.room p.pull opens))) (furnish_changes s name commit unkept furnish);
      }

      module _ {w : View} (tree_w : IsTree w) (furnish : Furnishes commit (commit_dir name commit) kept v w) where
        same_after : store repo (shows w) ≡ store repo (shows v)
        same_after = furnish_store s name commit tree_v tree_w furnish

        object_after : (d : List ℕ) (kind : ObjKind) → store repo (shows w) d kind ≡ store repo (shows v) d kind
        object_after d kind = ap (λ (have : Have). have d kind) same_after

        object_before : (d : List ℕ) (kind : ObjKind) → store repo (shows p.between) d kind ≡ store repo (shows u) d kind
        object_before d kind = ap (λ (have : Have). have d kind) same_before

        pub agrees_after : (files : HasTrueFiles repo u) (held : Holdings) (told : holds ≡ Some held) → Agree (supply_at held (Some url) u) (store repo (shows w)) (order (supply_at held (Some url) u) commit)
        agrees_after files held told = λ place has. object_after place.digest place.kind ∙ agrees files held told place has

        has_objects : (held : Holdings) → holds ≡ Some held → Opens s u → HasObjects (supply_at held (Some url) u) commit u w
        has_objects held told opens = let was = was_pulled (true_files opens) held told in record {
          there = agrees_after (true_files opens) held told;
          stood = λ d kind good some. object_after d kind ∙ was.stood d kind good (λ none. some (sym (object_before d kind) ∙ none)) ∙ object_before d kind;
          others = λ d kind good none.
              object_after d kind ∙ ap (object_at kind) (same_shown p.tree tree_v (pulls_of p.room p.pull opens).files (object_path repo d kind) (was.others d kind good none)) ∙ object_before d kind;
        }

        link_after : (held : Holdings) → holds ≡ Some held → Opens s u → w.names new_link ≡ absent
        link_after held told opens = link_furnished name commit furnish ∙ (elim ((pulls_of p.room p.pull opens).keeps.names new_link) [
          | inl same ↦ same ∙ p.has.emptied.gone new_link (inl refl)
          | inr put ↦ link_pulled p.between (v.names new_link) put
        ])

        pub was_fetched : WasFurnished commit (commit_dir name commit) kept v w → WasFetched s name commit kept url holds u w
        was_fetched furnished = record {
          fetched = λ held told opens. record {
            clean = (was_pulled (true_files opens) held told).pulled.clean;
            objects = has_objects held told opens;
            link_free = link_after held told opens;
            laid = λ is. furnished.laid is (dir_apart name commit);
          };
          shares = λ held told opens. shared_on (shared_on (shared_empty p.room) (pulled_lasts (was_pulled (true_files opens) held told).shares) (pulls_of p.room p.pull opens).files) furnished.shares (furnish_files s name commit furnish);
          creates = λ held told opens.
              let pulled = (pulls_of p.room p.pull opens).files in
              let before = files_on (files_kept p.room) pulled in
              creates_to (λ o l. record { digits = l.digits; ordered = l.ordered; lacked = sym (object_before o.0 o.1) ∙ l.lacked }) (λ o l. record { digits = l.digits; ordered = l.ordered; lacked = object_before o.0 o.1 ∙ l.lacked })
              (creates_on (creates_off (room_creates name commit kept p.room) (was_pulled (true_files opens) held told).creates (files_kept p.room) pulled) (furnish_creates name commit furnish) before (furnish_files s name commit furnish));
        }

        -- the commit's root has no entry `deploy`
        pub not_reserved : HasReserved repo commit w → HasTrueFiles repo u → (held : Holdings) → holds ≡ Some held → HasNoDeploy (supply_at held (Some url) u) commit → ⊥
        not_reserved reserved files held told none =
            reserved.there (look_same (supply_at held (Some url) u) (store repo (shows w)) commit (was_pulled files held told).pulled.clean (agrees_after files held told) deploy_name ∙ none)

  -- ---- where the pull is refused

  refused_off : (d : List ℕ) (kind : ObjKind) {v w : View} → WasRefused pull_work v w → w.names (object_path repo d kind) ≡ v.names (object_path repo d kind)
  refused_off d kind refused = elim (refused.names (object_path repo d kind)) [
    | inl same ↦ same
    | inr other ↦ absurd (elim other [
      | inl within ↦ no_object_above d kind (work_in_tmp (codes "pull") (object_path repo d kind) within)
      | inr above ↦ omega (arith, above_longer (object_path repo d kind) pull_work above.0)
    ])
  ]

  room_left : {u v : View} → RoomMade name commit kept u v → (q : Elements) → (v.names q ≡ u.names q) ⊎ LeftName s name commit q (v.names q)
  room_left room q = elim (room.names q) [
    | inl same ↦ inl same
    | inr put ↦ inr (elim put [ inl work ↦ work_gone work.0 work.1 | inr folder ↦ unkept_gone (unkept folder.0) folder.1.0 folder.1.1 ])
  ]

  -- a folder above the work
  above_left : {u w : View} → IsTree u → IsTree w → (q : Elements) → IsAbove q pull_work → w.names q ≡ dir → (w.names q ≡ u.names q) ⊎ LeftName s name commit q (w.names q)
  above_left tree_u tree_w q (inl at) is = inr (work_folder (inr at) is)
  above_left tree_u tree_w q (inr (inl at)) is = inr (work_folder (inl at) is)
  above_left {u = u} tree_u tree_w q (inr (inr (inl at))) is = inl (is ∙ sym (ap u.names at ∙ tree_u.root))
  above_left tree_u tree_w q (inr (inr (inr none))) is = absurd none

  left_names : {u v w : View} → IsTree u → IsTree w → RoomMade name commit kept u v → WasRefused pull_work v w → (q : Elements) → (w.names q ≡ u.names q) ⊎ LeftName s name commit q (w.names q)
  left_names tree_u tree_w room refused q = elim (refused.names q) [
    | inl same ↦ elim (room_left room q) [ inl was ↦ inl (same ∙ was) | inr left ↦ inr (subst (LeftName s name commit q) (sym same) left) ]
    | inr other ↦ elim other [
      | inl within ↦ inr (work_gone (work_in_tmp (codes "pull") q within) (refused.gone q within))
      | inr above ↦ above_left tree_u tree_w q above.0 above.1
    ]
  ]

  pub turned_down : {u v w : View} → IsTree u → IsTree v → IsTree w → RoomMade name commit kept u v → PullsSoundly repo pull_work v w → WasRefused pull_work v w → WasTurnedDown s name commit url holds u w
  turned_down tree_u tree_v tree_w room pull refused = record {
    objects = λ held told opens none d kind good.
        ap (λ (have : Have). have d kind) (store_by tree_v tree_w (pulls_of room pull opens).files (λ c k. refused_off c k refused) ∙ room_store s name commit kept tree_u tree_v room);
    names = λ held told opens none. left_names tree_u tree_w room refused;
  }
