-- A ref that came gets its file.
use Rattle.std.proofs.Common.{◌≡◌, ◌≢◌, ◌⊎◌, inl, inr, true, ℕ, arith, List, [], ◌∷◌, ◌++◌, length, take, Some, refl, sym, ◌∙◌, ap, subst, codes, Contains}
use Rattle.fp_host.specs.Paths.{Elements, Slot, absent, dir, under, at, IsAbove}
use Rattle.fp_host.specs.View.{View, IsTree}
use Rattle.fp_host.specs.Outcome.{gone, spot_of, shows}
use Rattle.fp_host.proofs.Separate.{under_absent}
use Rattle.fp_host.proofs.Shown.{now_left}
use Rattle.fp_base.specs.declared.object.ObjKind.{ObjKind}
use Rattle.fp_name.specs.Grammar.{is_remote_name}
use Rattle.fp_name.specs.Hex.{hex, is_digest}
use Rattle.fp_name.specs.Refs.{Ref, is_ref}
use Rattle.fp_small.specs.Places.{repo, tmp, new_name}
use Rattle.fp_small.specs.declared.state.State.{State}
use Rattle.fp_small.specs.declared.state.RefRow.{RefRow}
use Rattle.ost_model.specs.Objects.{object_path, object_at, store}
use Rattle.ost_refs.specs.Files.{ref_in}
use Rattle.ost_refs.specs.declared.place.RefFile.TheVariants.{Digest}
use Rattle.dep_states.specs.Names.{config, remotes_conf, pins_file, commit_dir, ref_file}
use Rattle.dep_states.specs.Shown.{there, ref_seen, Shows}
use Rattle.dep_states.specs.After.{row_at}
use Rattle.dep_states.specs.Sound.{Keeps as KeepsCommit, Opens, is_remotes, is_pins}
use Rattle.dep_states.specs.Settled.{Settled, Used, HasBytes, HasOrigin}
use Rattle.dep_states.specs.Zones.{outward}
use Rattle.dep_states.proofs.Deployed.{top}
use Rattle.dep_states.proofs.Law.{frame_law}
use Rattle.dep_states.proofs.Single.{some_is}
use Rattle.dep_states.proofs.Sparing.{state_of_kept}
use Rattle.dep_states.proofs.Switching.{second, word_no_repo}
use Rattle.dep_states.proofs.Total.{ref_is}
use Rattle.dep_states.proofs.Switch.{file_same}
use Rattle.fp_small.proofs.Sharing.{shares_start}
use Rattle.ost_store.proofs.Staying.{same_shows}
use Rattle.dep_tidy.specs.Tidy.{MayTidy, some_work, ref_written, ref_folder, Tidies, SettledButWork, SettledButRef}
use Rattle.dep_tidy.specs.Steps.{Alters, RefAt, RefName, file_name, folder_name, work_name, HasRefFiles, Writes, rows_named}
use Rattle.dep_tidy.proofs.Views.{shows_along}
use Rattle.dep_tidy.proofs.Apart.{IsBeside, folder_shorter, name_above, old_no_repo, repo_no_config, tmp_no_refs}
use Rattle.dep_tidy.proofs.Clearing.{refs_spare}
use Rattle.dep_tidy.proofs.RowsKept.{in_at}
use Rattle.dep_tidy.proofs.RefFiles.{fewer_files, named_in, in_named}
use Rattle.dep_tidy.proofs.Pruned.{row_by_seen, seen_by_row, used_on}
use Rattle.dep_tidy.proofs.Joined.{tidy_links, beside_no_object, name_beside, settled_files}
use Rattle.dep_tidy.proofs.Ended.{says_bytes}

-- ---- what is beside objects is written

module _ {rows : List RefRow} {u w : View} (step : Alters (RefAt rows) (RefName rows) u w) where
  -- another name is as it was
  off_refs : (q : Elements) → (IsBeside q → ⊥) → w.names q ≡ u.names q
  off_refs q off = elim (step.names q) [ inl same ↦ same | inr put ↦ absurd (off (name_beside q (w.names q) put)) ]

  at_repo : (e : Slot) → RefName rows repo e → e ≡ dir
  at_repo e (file_name row has at f) = absurd (omega (arith, ap length at))
  at_repo e (folder_name row has at d) = d
  at_repo e (work_name k at) = absurd (omega (arith, ap length at))

  repo_stays : u.names repo ≡ dir → w.names repo ≡ u.names repo
  repo_stays is = elim (step.names repo) [ inl same ↦ same | inr put ↦ at_repo (w.names repo) put ∙ sym is ]

abbrev objects : Elements
objects = codes "objects" ∷ repo

-- no object is where their folder isn't
none_below : (n : Elements → Slot) (d : List ℕ) (kind : ObjKind) → n objects ≡ absent → at n (object_path repo d kind) ≡ absent
none_below n d kind none =
    let xx : Elements = take 2 (hex d) ∷ objects in
    ap (λ (e : Slot). under (under (under (at n repo) e) (n xx)) (n (object_path repo d kind))) none ∙ ap (λ (e : Slot). under (under e (n xx)) (n (object_path repo d kind))) (under_absent (at n repo))

module _ {rows : List RefRow} {u w : View} (tree : IsTree u) (step : Alters (RefAt rows) (RefName rows) u w) where
  object_stays : (d : List ℕ) (kind : ObjKind) → shows w (object_path repo d kind) ≡ shows u (object_path repo d kind)
  object_stays d kind =
      let p = object_path repo d kind in
      let xx : Elements = take 2 (hex d) ∷ objects in
      let off : w.names objects ≡ u.names objects = off_refs step objects (λ b. b.1 refl) in
      elim (tree.above (codes "objects") repo) [
        | inl none ↦ ap (spot_of w.files) (none_below w.names d kind (off ∙ none)) ∙ sym (ap (spot_of u.files) (none_below u.names d kind none))
        | inr is ↦ shows_along tree step.files p (off_refs step p (λ b. beside_no_object b d kind refl), (off_refs step xx (λ b. b.1 refl), (off, (repo_stays step is, off_refs step [] (λ b. cc b.0)))))
      ]

-- ---- at every moment

module _ (s : State) (name : Ref) {u w : View} (tree : IsTree u) (step : Writes (rows_named s name) u w) where
  may_write : (q : Elements) (e : Slot) → RefName (rows_named s name) q e → MayTidy s q e
  may_write q e (file_name row has at f) = ref_written row (named_in s name row has).0 at f
  may_write q e (folder_name row has at d) = ref_folder row (named_in s name row has).0 at d
  may_write q e (work_name k at) = some_work (subst (IsAbove tmp) (sym at) (name_above (new_name k)))

  names_written : (q : Elements) → (w.names q ≡ u.names q) ⊎ MayTidy s q (w.names q)
  names_written q = elim (step.alters.names q) [ inl same ↦ inl same | inr put ↦ inr (may_write q (w.names q) put) ]

  -- where all is settled nothing is written
  not_written : Opens s u → Settled (shows u) → w ≡ u
  not_written o settled = step.idle (fewer_files (λ r has. (named_in s name r has).0) (settled_files o settled))

  pub tidies_row : Tidies s u w
  tidies_row = record {
    opens = λ o. frame_law refs_spare step.alters.follows o;
    names = names_written;
    idle = λ o settled q. ap (λ (v : View). v.names q) (not_written o settled);
    unwritten = λ o settled. shares_start (not_written o settled);
    used = λ o d kind is. ap (object_at kind) (object_stays tree step.alters d kind);
    files = step.alters.files;
    links = tidy_links s names_written;
    printed = step.alters.printed;
  }

-- ---- at the end

module _ (s : State) (name : Ref) {u v : View} (tree : IsTree u) (next : IsTree v) (opens : Opens s u) (step : Alters (RefAt (rows_named s name)) (RefName (rows_named s name)) u v) (wrote : HasRefFiles (rows_named s name) v) where
  after : Opens s v
  after = frame_law refs_spare step.follows opens

  shown_then : Shows (shows u) s
  shown_then = opens.shown (shows u) (now_left u)

  shown_now : Shows (shows v) s
  shown_now = after.shown (shows v) (now_left v)

  same : (q : Elements) → (IsBeside q → ⊥) → shows v q ≡ shows u q
  same q off = same_shows tree next step.files q (off_refs step q off)

  was_there : (q : Elements) → (IsBeside q → ⊥) → shows v q ≢ gone → shows u q ≢ gone
  was_there q off some none = some (same q off ∙ none)

  used_still : (d : List ℕ) (kind : ObjKind) → Used (shows u) d kind → Used (shows v) d kind
  used_still = used_on opens after (λ d kind is. ap (object_at kind) (object_stays tree step d kind))

  keeps_still : (other : Ref) (commit : List ℕ) → is_ref other ≡ true → KeepsCommit (shows u) other commit → KeepsCommit (shows v) other commit
  keeps_still other commit good k = state_of_kept good shown_now (record { row = k.row; has = row_by_seen shown_then other k.row k.shown; of_row = k.of_row })

  off_dir : (other : Ref) (commit : List ℕ) → IsBeside (commit_dir other commit) → ⊥
  off_dir other commit b = word_no_repo other.kind b.0

  -- the row whose file comes to this place is that of the ref
  from_row : (origin : List ℕ) (other : Ref) (e : Slot) → RefName (rows_named s name) (ref_file origin other) e → (row : RefRow) × Contains (rows_named s name) row × (origin ≡ row.origin) × (row_at s other ≡ Some row)
  from_row origin other e (file_name row has at f) =
      let place = file_same origin row.origin other row.name at in
      (row, has, place.0, ap (λ (n : Ref). row_at s n) place.1 ∙ in_at s.refs row shown_then.refs_ascend (named_in s name row has).0)
  from_row origin other e (folder_name row has at d) = absurd (folder_shorter row.origin row.name (ref_file origin other) at refl)
  from_row origin other e (work_name k at) = absurd (tmp_no_refs (sym (ap (λ (p : Elements). second (outward p)) at)))

  row_named : (other : Ref) (row : RefRow) → row_at s other ≡ Some row → row.name ≡ other → Contains (rows_named s name) row → HasBytes (hex row.commit ++ 10 ∷ []) (shows v (ref_file row.origin other))
  row_named other row at named has =
      subst (λ (n : Ref). HasBytes (hex row.commit ++ 10 ∷ []) (shows v (ref_file row.origin n))) named (says_bytes row.commit (shows v (ref_file row.origin row.name)) (wrote.each row has))

  files_said : SettledButRef name (shows u) → (other : Ref) (row : RefRow) → ref_seen (shows v) other ≡ there row → HasBytes (hex row.commit ++ 10 ∷ []) (shows v (ref_file row.origin other))
  files_said before other row is =
      let at : row_at s other ≡ Some row = row_by_seen shown_now other row is in
      let named : row.name ≡ other = (ref_is (shows v) other row is).1 in
      let good : is_ref other ≡ true = (ref_is (shows v) other row is).0 in
      let q = ref_file row.origin other in
      elim (before.ref_files other row (seen_by_row shown_then other row good at)) [
        | inl it ↦ row_named other row at named (in_named s name row (ap (λ (n : Ref). row_at s n) (sym it) ∙ at))
        | inr had ↦ elim (step.names q) [
          | inl name_same ↦ subst (HasBytes (hex row.commit ++ 10 ∷ [])) (sym (same_shows tree next step.files q name_same)) had
          | inr put ↦
              let from = from_row row.origin other (v.names q) put in
              row_named other row at named (subst (Contains (rows_named s name)) (some_is (sym from.3 ∙ at)) from.1)
        ]
      ]

  others_none : SettledButRef name (shows u) → (origin : List ℕ) (other : Ref) → is_remote_name origin ≡ true → is_ref other ≡ true → shows v (ref_file origin other) ≢ gone → HasOrigin (shows v) other origin
  others_none before origin other remote good some =
      let q = ref_file origin other in
      elim (step.names q) [
        | inl name_same ↦
            let has = before.no_other origin other remote good (λ none. some (same_shows tree next step.files q name_same ∙ none)) in
            (has.0, seen_by_row shown_now other has.0 good (row_by_seen shown_then other has.0 has.1), has.2)
        | inr put ↦
            let from = from_row origin other (v.names q) put in
            (from.0, seen_by_row shown_now other from.0 good from.3, sym from.2)
      ]

  pub all_but_work : SettledButRef name (shows u) → SettledButWork (shows v)
  all_but_work before = record {
    used = λ d kind digits some. used_still d kind (before.used d kind digits (λ none. some (object_stays tree step d kind ∙ none)));
    dirs = λ other commit good digits some. keeps_still other commit good (before.dirs other commit good digits (was_there (commit_dir other commit) (off_dir other commit) some));
    ref_files = files_said before;
    no_other = others_none before;
    no_old = λ some.
        let none = before.no_old (was_there config (λ b. repo_no_config (sym b.0)) some) in
        (same remotes_conf (λ b. old_no_repo (is_remotes refl) b.0) ∙ none.0, same pins_file (λ b. old_no_repo (is_pins refl) b.0) ∙ none.1);
  }
