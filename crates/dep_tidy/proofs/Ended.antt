-- What is settled at the end.
use Rattle.std.proofs.Common.{◌≡◌, ◌≢◌, ◌⊎◌, inl, inr, true, ℕ, List, [], ◌∷◌, ◌++◌, Some, refl, sym, ◌∙◌, ap, subst, codes}
use Rattle.std.specs.Prelude.{map}
use Rattle.fp_host.specs.Paths.{Elements, Slot, absent, IsAbove}
use Rattle.fp_host.specs.View.{View, IsTree}
use Rattle.fp_host.specs.Calls.{IsFile}
use Rattle.fp_host.specs.Outcome.{Spot, gone, folder, holds, points, shows}
use Rattle.fp_host.specs.Frame.{Keeps, NoPath}
use Rattle.fp_host.specs.Reads.{is_ascending}
use Rattle.fp_host.proofs.Shown.{now_left}
use Rattle.fp_name.specs.Grammar.{is_remote_name}
use Rattle.fp_name.specs.Hex.{hex, is_digest}
use Rattle.fp_name.specs.Refs.{Ref, is_ref, ref_text}
use Rattle.fp_small.specs.Places.{repo, tmp}
use Rattle.fp_small.specs.Clear.{IsEmptied}
use Rattle.fp_small.proofs.Keeping.{files_kept}
use Rattle.fp_small.specs.declared.state.State.{State}
use Rattle.fp_small.specs.declared.state.RefRow.{RefRow}
use Rattle.ost_prune.specs.Prune.{Prunes}
use Rattle.ost_refs.specs.Files.{ref_in}
use Rattle.ost_refs.specs.declared.place.RefFile.TheVariants.{Digest}
use Rattle.ost_refs.proofs.Files.{read}
use Rattle.ost_store.proofs.Staying.{same_shows}
use Rattle.dep_states.specs.Names.{config, remotes_conf, pins_file, commit_dir, ref_file}
use Rattle.dep_states.specs.Shown.{there, ref_seen, ref_key, Shows}
use Rattle.dep_states.specs.After.{row_at}
use Rattle.dep_states.specs.Sound.{Keeps as KeepsCommit, Opens, is_remotes, is_pins}
use Rattle.dep_states.specs.Settled.{Settled, HasBytes, HasOrigin}
use Rattle.dep_states.specs.Zones.{outward}
use Rattle.dep_states.proofs.Deployed.{top}
use Rattle.dep_states.proofs.Sparing.{state_of_kept}
use Rattle.dep_states.proofs.Switching.{second, word_no_repo}
use Rattle.dep_states.proofs.Total.{ref_is}
use Rattle.dep_states.proofs.Switch.{file_same}
use Rattle.dep_tidy.specs.Kept.{kept_of}
use Rattle.dep_tidy.specs.Tidy.{IsFrom}
use Rattle.dep_tidy.specs.Steps.{Alters, UnkeptGone, UnkeptAbsent, HasNoUnkept, TakesOld, HasNoOld, OtherGone, OtherAbsent, HasNoOther, RefAt, RefName, file_name, folder_name, work_name, WroteFiles, IsSteady, IsCleared, HasRefs}
use Rattle.dep_tidy.specs.Pruned.{IsPruned}
use Rattle.dep_tidy.proofs.Views.{some_there, absent_gone}
use Rattle.dep_tidy.proofs.Apart.{old_no_repo, repo_no_config, refs_no_objects, tmp_no_refs}
use Rattle.dep_tidy.proofs.Clearing.{can_drop}
use Rattle.dep_tidy.proofs.Joined.{name_beside}
use Rattle.dep_tidy.proofs.Pruned.{opens_pruned, used_end, row_by_seen, seen_by_row}
use Rattle.dep_tidy.proofs.RowsKept.{at_in, in_at, kept_cases, from_cases}

-- ---- names that stay absent

-- where names only go
record OnlyGoes (v w : View) : Type 0 where
  names : (q : Elements) → (w.names q ≡ v.names q) ⊎ (w.names q ≡ absent)

goes_by : {G : Elements → Spot → Type 0} {W : Elements → Slot → Type 0} {v w : View} → ((q : Elements) (e : Slot) → W q e → e ≡ absent) → Keeps G W NoPath v w → OnlyGoes v w
goes_by goes keeps = record { names = λ q. elim (keeps.names q) [ inl same ↦ inl same | inr put ↦ inr (goes q _ put) ] }

module _ {v w : View} (only : OnlyGoes v w) where
  stays_absent : (q : Elements) → v.names q ≡ absent → w.names q ≡ absent
  stays_absent q none = elim (only.names q) [ inl same ↦ same ∙ none | inr gone_ ↦ gone_ ]

  stays_some : (q : Elements) → w.names q ≢ absent → w.names q ≡ v.names q
  stays_some q some = elim (only.names q) [ inl same ↦ same | inr gone_ ↦ absurd (some gone_) ]

  was_some : (q : Elements) → w.names q ≢ absent → v.names q ≢ absent
  was_some q some none = some (stays_absent q none)

  stays_empty : IsEmptied tmp v → IsEmptied tmp w
  stays_empty empty = record { gone = λ q above. stays_absent q (empty.gone q above) }

  stays_unkept : {s : State} → HasNoUnkept s v → HasNoUnkept s w
  stays_unkept none = record { none = λ name commit u. stays_absent (commit_dir name commit) (none.none name commit u) }

  stays_old : HasNoOld v → HasNoOld w
  stays_old none = record { old = λ some. let was = none.old (was_some config some) in (stays_absent remotes_conf was.0, stays_absent pins_file was.1) }

-- ---- what is taken away first

pub cleared : {s : State} {a b c : View} → IsEmptied tmp a → Keeps (UnkeptGone s) (UnkeptAbsent s) NoPath a b → HasNoUnkept s b → TakesOld b c → HasNoOld c → IsCleared s c
cleared empty folders dirs takes old =
    let first = goes_by (λ q e put. put.1) folders in
    let next = goes_by (λ q e put. put.1) takes.keeps in
    record { work = stays_empty next (stays_empty first empty); dirs = stays_unkept next dirs; old = old }

-- ---- then ref files

module _ (s : State) {v w : View} (step : Alters (RefAt s.refs) (RefName s.refs) v w) where
  -- what isn't in `repo` stays
  outside : (q : Elements) → top q ≢ codes "repo" → w.names q ≡ v.names q
  outside q off = elim (step.names q) [ inl same ↦ same | inr put ↦ absurd (off (name_beside q (w.names q) put).0) ]

  kept_cleared : WroteFiles s v w → IsCleared s v → IsCleared s w
  kept_cleared wrote was = record {
    work = record { gone = λ q above. wrote.work q above ∙ was.work.gone q above };
    dirs = record { none = λ name commit u. outside (commit_dir name commit) (λ e. word_no_repo name.kind e) ∙ was.dirs.none name commit u };
    old = record {
      old = λ some.
          let had = was.old.old (λ none. some (outside config (λ e. old_config e) ∙ none)) in
          (outside remotes_conf (old_no_repo (is_remotes refl)) ∙ had.0, outside pins_file (old_no_repo (is_pins refl)) ∙ had.1);
    };
  }
    where
      old_config : top config ≡ codes "repo" → ⊥
      old_config e = repo_no_config (sym e)

  -- the files that come are those of rows
  comes_from : is_ascending (map ref_key s.refs) ≡ true → (origin : List ℕ) (name : Ref) → IsFile (w.names (ref_file origin name)) → RefName s.refs (ref_file origin name) (w.names (ref_file origin name)) → IsFrom s origin name
  comes_from up origin name f (file_name row has at is) =
      let same = file_same origin row.origin name row.name at in
      record { row = row; has = ap (λ n. row_at s n) same.1 ∙ in_at s.refs row up has; is = sym same.0 }
  comes_from up origin name f (folder_name row has at is) = absurd (cc (f.1, is))
  comes_from up origin name f (work_name k at) = absurd (tmp_no_refs (sym (ap (λ (p : Elements). second (outward p)) at)))

  kept_others : is_ascending (map ref_key s.refs) ≡ true → HasNoOther s v → HasNoOther s w
  kept_others up none = record {
    none = λ origin name other f. elim (step.names (ref_file origin name)) [
      | inl same ↦ none.none origin name other (subst IsFile same f)
      | inr put ↦ other.other (comes_from up origin name f put)
    ];
  }

  pub refs_settled : {u : View} → Keeps (OtherGone s) (OtherAbsent s) NoPath u v → HasNoOther s v → WroteFiles s v w → Opens s v → IsCleared s u → HasRefs s w
  refs_settled dropped none wrote opens was =
      let goes = goes_by (λ q e put. put.1) dropped in
      record {
        cleared = kept_cleared wrote (record { work = stays_empty goes was.work; dirs = stays_unkept goes was.dirs; old = stays_old goes was.old });
        others = kept_others ((opens.shown (shows v) (now_left v)).refs_ascend) none;
        files = wrote.files opens;
      }

-- ---- and objects

-- what says a commit has its bytes
pub says_bytes : (commit : List ℕ) (spot : Spot) → ref_in spot ≡ Digest commit → HasBytes (hex commit ++ 10 ∷ []) spot
says_bytes commit gone is = cc is
says_bytes commit folder is = cc is
says_bytes commit (points text) is = cc is
says_bytes commit (holds id mode bytes) is = (read bytes commit is).0

file_of : {e : Slot} → (e ≡ absent) ⊎ IsFile e → e ≢ absent → IsFile e
file_of (inl none) some = absurd (some none)
file_of (inr f) some = f

module _ {s : State} {v w : View} (tree : IsTree v) (next : IsTree w) (opens : Opens s v) (steady : IsSteady v) (refs : HasRefs s v) (pruned : Prunes repo (kept_of s.refs) v w) (done : IsPruned (kept_of s.refs) v w) where
  goes : OnlyGoes v w
  goes = goes_by (λ q e put. put.1) pruned.keeps

  after : Opens s w
  after = opens_pruned opens steady pruned

  shown_now : Shows (shows w) s
  shown_now = after.shown (shows w) (now_left w)

  above_work : (x : List ℕ) (rest : Elements) → IsAbove tmp (rest ++ (x ∷ tmp))
  above_work x [] = inl refl
  above_work x (y ∷ rest) = inr (above_work x rest)

  -- the names of ref files are as they were
  file_name_same : (origin : List ℕ) (name : Ref) → w.names (ref_file origin name) ≡ v.names (ref_file origin name)
  file_name_same origin name = elim (pruned.keeps.names (ref_file origin name)) [ inl same ↦ same | inr put ↦ absurd (refs_no_objects (ap (λ (p : Elements). second (outward p)) put.0.name)) ]

  -- a ref that is shown is one of the rows
  seen_row : (name : Ref) (row : RefRow) → ref_seen (shows w) name ≡ there row → row_at s name ≡ Some row
  seen_row name row is = row_by_seen shown_now name row is

  dirs_kept : (name : Ref) (commit : List ℕ) → is_ref name ≡ true → is_digest commit ≡ true → shows w (commit_dir name commit) ≢ gone → KeepsCommit (shows w) name commit
  dirs_kept name commit good digits some = elim (kept_cases s name commit) [
    | inl kept ↦ state_of_kept good shown_now kept
    | inr off ↦ absurd (some_there next (commit_dir name commit) some (stays_absent goes (commit_dir name commit) (refs.cleared.dirs.none name commit (record { good = good; digits = digits; unkept = off }))))
  ]

  files_said : (name : Ref) (row : RefRow) → ref_seen (shows w) name ≡ there row → HasBytes (hex row.commit ++ 10 ∷ []) (shows w (ref_file row.origin name))
  files_said name row is =
      let at = at_in s.refs (ref_text name) row (seen_row name row is) in
      let named : row.name ≡ name = (ref_is (shows w) name row is).1 in
      let p = ref_file row.origin name in
      says_bytes row.commit (shows w p) (ap ref_in (same_shows tree next (files_kept pruned.keeps) p (file_name_same row.origin name)) ∙ subst (λ (n : Ref). ref_in (shows v (ref_file row.origin n)) ≡ Digest row.commit) named (refs.files.each row at.0))

  others_none : (origin : List ℕ) (name : Ref) → is_remote_name origin ≡ true → is_ref name ≡ true → shows w (ref_file origin name) ≢ gone → HasOrigin (shows w) name origin
  others_none origin name remote good some = elim (from_cases s origin name) [
    | inl from ↦ (from.row, seen_by_row shown_now name from.row good from.has, from.is)
    | inr off ↦
        let p = ref_file origin name in
        let there_ : v.names p ≢ absent = was_some goes p (some_there next p some) in
        absurd (refs.others.none origin name (record { remote = remote; good = good; other = off }) (file_of (can_drop tree opens origin name remote good) there_))
  ]

  old_none : shows w config ≢ gone → (shows w remotes_conf ≡ gone) × (shows w pins_file ≡ gone)
  old_none some =
      let none = (stays_old goes refs.cleared.old).old (some_there next config some) in
      (absent_gone next remotes_conf none.0, absent_gone next pins_file none.1)

  pub all_settled : Settled (shows w)
  all_settled = record {
    no_work = λ x rest. absent_gone next (rest ++ (x ∷ tmp)) (stays_absent goes (rest ++ (x ∷ tmp)) (refs.cleared.work.gone (rest ++ (x ∷ tmp)) (above_work x rest)));
    used = λ d kind digits some. used_end opens tree next steady after pruned done d kind digits some;
    dirs = dirs_kept;
    ref_files = files_said;
    no_other = others_none;
    no_old = old_none;
  }
