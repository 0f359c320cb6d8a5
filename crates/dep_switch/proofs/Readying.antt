-- A switch that is staged.
use Rattle.std.proofs.Common.{◌≡◌, ◌≢◌, ◌⊎◌, ◌≤◌, inl, inr, ℕ, List, [], ◌∷◌, ◌++◌, Bool, true, false, Option, Some, None, codes, length, refl, sym, ◌∙◌, ap, subst, Contains, arith}
use Rattle.std.specs.Prelude.{if◌then◌else◌, leb}
use Rattle.std.specs.Str.{bytes_eq}
use Rattle.std.proofs.lemmas.Bool.{le-leb}
use Rattle.fp_base.specs.declared.object.ObjKind.{ObjKind}
use Rattle.fp_base.proofs.Texts.{bytes_eq-same}
use Rattle.fp_host.specs.Paths.{Elements, Slot, absent, dir, file, link}
use Rattle.fp_host.specs.View.{View, IsTree}
use Rattle.fp_host.specs.Calls.{HasFolder, IsFile}
use Rattle.fp_host.specs.Outcome.{Spot, gone, folder, holds, holding, spot_of, Disk, Leaves, IsSettled, shows}
use Rattle.fp_host.specs.Frame.{AtEnd}
use Rattle.fp_host.specs.Moments.{Moments, Goes}
use Rattle.fp_host.proofs.Ending.{ends_in_tree, goes_known}
use Rattle.fp_host.proofs.Framed.{IsTold}
use Rattle.fp_host.proofs.Goes.{begins}
use Rattle.fp_host.proofs.Shown.{now_left}
use Rattle.fp_name.specs.Hex.{hex, is_digest}
use Rattle.fp_name.specs.Refs.{Ref, is_ref}
use Rattle.fp_small.specs.Folders.{ancestors, AreFree, IsFree}
use Rattle.fp_small.specs.Places.{repo, tmp}
use Rattle.fp_small.specs.declared.state.State.{State}
use Rattle.fp_small.specs.declared.state.RefRow.{RefRow}
use Rattle.ost_model.specs.Look.{Found, nothing, directory, file_at, look, next, at_root}
use Rattle.ost_model.specs.Fields.{CommitView, DirRow}
use Rattle.ost_model.specs.Objects.{object_path, store}
use Rattle.ost_model.specs.Order.{commit_at, root_row}
use Rattle.ost_model.specs.Standing.{expected, is_metadata, deploy_name, metadata_name, Stands}
use Rattle.ost_model.proofs.Local.{stands_same}
use Rattle.dep_states.specs.Lasting.IsLasting.{a_record}
use Rattle.dep_states.specs.Names.{commit_dir, deploy}
use Rattle.dep_states.specs.Deploy.{deploy_of}
use Rattle.dep_states.specs.Shown.{bad, there, read_of, read_file, row_in, deploy_at, small_most, Shows}
use Rattle.dep_states.specs.Sound.{reads_as, IsPrevious, Keeps, Sound, Opens}
use Rattle.dep_states.specs.Switch.{Prepared, Stages}
use Rattle.dep_states.proofs.Deployed.{top}
use Rattle.dep_states.proofs.Law.{frame_law}
use Rattle.dep_states.proofs.SharedAs.{shared_refl, shared_to}
use Rattle.dep_states.proofs.Sparing.{settled_same, state_of_kept}
use Rattle.dep_states.proofs.Switching.{word_no_repo}
use Rattle.dep_states.proofs.Deployed.{outward_append}
use Rattle.dep_states.proofs.Rows.{head_of}
use Rattle.dep_switch.specs.Rows.{IsAt}
use Rattle.dep_switch.specs.Writing.{data_of, new_link, HasFile, CanWrite, PreparesName, new_deploy, new_folder, the_link, Prepares, WasPrepared, CanPrepare}
use Rattle.dep_switch.specs.Staging.{row_deploy, IsPreparation, CanStage, Readies, IsStaged, WasStaged}
use Rattle.dep_switch.specs.declared.staged.Preparation.{Preparation}
use Rattle.dep_switch.proofs.Prepared.{prepares_start}
use Rattle.dep_switch.proofs.Sparing.{deploy_spares, prepares_spares, inside_deploy, which}
use Rattle.dep_switch.proofs.Spots.{shown_at, folder_dir, folder_free, same_shown}

-- ---- at every moment

pub readies : {s : State} {row : RefRow} {u w : View} → is_ref row.name ≡ true → is_digest row.commit ≡ true → Prepares (row_deploy row) (hex row.commit) u w → Readies s row u w
readies {row = row} good digest prepares = record {
  opens = λ opens off. frame_law (prepares_spares (hex row.commit) (deploy_spares row.name row.commit digest opens off)) prepares.follows opens;
  prepares = prepares;
  shares = shared_to (λ q f at. a_record row.name row.commit good digest at.0 at.1) prepares.shares;
}

-- ---- what stays

top_inside : (rest : Elements) (name : Ref) (commit : List ℕ) (p : Elements) → p ≡ rest ++ commit_dir name commit → top p ≡ codes "repo" → ⊥
top_inside rest name commit p at in_repo = word_no_repo name.kind (sym (ap head_of (outward_append rest (commit_dir name commit) [])) ∙ sym (ap top at) ∙ in_repo)

prepared_top : {p : Elements} → (p ≡ repo) ⊎ (p ≡ tmp) → top p ≡ codes "repo"
prepared_top (inl at) = ap top at
prepared_top (inr at) = ap top at

-- a path of the commit, but its `deploy`
inside_stays : (row : RefRow) (rest : Elements) → rest ≢ deploy_name → (e : Slot) → PreparesName (row_deploy row) (hex row.commit) (rest ++ commit_dir row.name row.commit) e → ⊥
inside_stays row rest off e (new_deploy at is) = off (inside_deploy rest row.name row.name row.commit row.commit (sym at))
inside_stays row rest off e (new_folder has is) = top_inside rest row.name row.commit (rest ++ commit_dir row.name row.commit) refl (prepared_top (which _ has))
inside_stays row rest off e (the_link at is) = top_inside rest row.name row.commit (rest ++ commit_dir row.name row.commit) refl (ap top at)

-- an object
object_stays : (row : RefRow) (d : List ℕ) (kind : ObjKind) (e : Slot) → PreparesName (row_deploy row) (hex row.commit) (object_path repo d kind) e → ⊥
object_stays row d kind e (new_deploy at is) = cc at
object_stays row d kind e (new_folder has is) = elim (which (object_path repo d kind) has) [ inl at ↦ cc at | inr at ↦ cc at ]
object_stays row d kind e (the_link at is) = cc at

module _ (row : RefRow) {u w : View} (before : IsTree u) (after : IsTree w) (prepares : Prepares (row_deploy row) (hex row.commit) u w) where
  shown_stays : (q : Elements) → ((e : Slot) → PreparesName (row_deploy row) (hex row.commit) q e → ⊥) → shows w q ≡ shows u q
  shown_stays q off = same_shown before after prepares.files q (elim (prepares.names q) [ inl same ↦ same | inr may ↦ absurd (off _ may) ])

  pub commit_stands : Stands (reads_as row.name.kind) repo (shows u) row.commit (commit_dir row.name row.commit) → Stands (reads_as row.name.kind) repo (shows w) row.commit (commit_dir row.name row.commit)
  commit_stands stands = stands_same repo (shows u) (shows w) row.commit (reads_as row.name.kind) (commit_dir row.name row.commit) stands
      (λ rest off. shown_stays (rest ++ commit_dir row.name row.commit) (λ e may. inside_stays row rest off e may))
      (λ place h. shown_stays (object_path repo place.digest place.kind) (λ e may. object_stays row place.digest place.kind e may))

-- ---- the record

bytes_read : (name : Ref) (id : ℕ) (bytes : List ℕ) (row : RefRow) → row.name ≡ name → deploy_of bytes ≡ Some (data_of row) → length bytes ≤ small_most → deploy_at name (hex row.commit) (holds id 420 bytes) ≡ there row
unfolding deploy_at
bytes_read name id bytes row is says short =
    ap (λ b. row_in name (hex row.commit) (if b then read_of (deploy_of bytes) else bad)) (le-leb (length bytes) small_most short)
    ∙ ap (λ o. row_in name (hex row.commit) (read_of o)) says
    ∙ ap (λ b. if b then there (record { name = name; origin = row.origin; commit = row.commit; timestamp = row.timestamp; previous = row.previous }) else bad) (bytes_eq-same (hex row.commit))
    ∙ ap (λ n. there (record { name = n; origin = row.origin; commit = row.commit; timestamp = row.timestamp; previous = row.previous })) (sym is)

file_shown : {p : Elements} {bytes : List ℕ} {w : View} → IsTree w → (made : HasFile p bytes w) → shows w p ≡ holds made.id 420 bytes
file_shown {p = p} {w = w} tree made = shown_at tree p ∙ ap (spot_of w.files) made.name ∙ ap (holding made.id) made.row

-- ---- staged

module _ {s : State} (row : RefRow) (bytes : List ℕ) {u w : View} (good : is_ref row.name ≡ true) (digest : is_digest row.commit ≡ true) (says : deploy_of bytes ≡ Some (data_of row)) (short : length bytes ≤ small_most)
    (before : IsTree u) (after : IsTree w) (prepares : Prepares (row_deploy row) (hex row.commit) u w) (done : WasPrepared (row_deploy row) (hex row.commit) bytes w) where
  module _ (can : CanStage s row u) where
    still_opens : Opens s w
    still_opens = (readies {s = s} {row = row} good digest prepares).opens can.opens can.moves

    recorded : deploy_at row.name (hex row.commit) (shows w (row_deploy row)) ≡ there row
    recorded = ap (deploy_at row.name (hex row.commit)) (file_shown after done.written) ∙ bytes_read row.name done.written.id bytes row refl says short

    kept : (commit : List ℕ) → IsPrevious row.previous commit → Keeps (shows w) row.name commit
    kept commit previous = let at = can.previous commit previous in
        state_of_kept good (still_opens.shown (shows w) (now_left w)) (record { row = at.0; has = at.1; of_row = inl at.2 })

    prepared : Prepared (shows w) row.name row
    prepared = record { good = good; stands = commit_stands row before after prepares can.stands; recorded = recorded; previous = kept }

    staged : IsStaged s row w
    staged = record {
      stages = record { opens = still_opens; prepared = λ disk left. subst (λ (i : Disk). Prepared i row.name row) (sym (settled_same after done.settled disk left)) prepared };
      moves = can.moves;
      linked = done.linked;
      settled = done.settled;
    }

  pub was_staged : WasStaged s row u w
  was_staged = record { staged = staged; linked = done.linked }

-- ---- where it may be

root_cases : (c : Option CommitView) → (at_root c ≡ nothing) ⊎ ((e : DirRow) × (at_root c ≡ directory e))
root_cases None = inl refl
root_cases (Some c) = inr (root_row c, refl)

-- the folder of a commit that stands is there
pub folder_stands : {reads : List ℕ → Bool} {disk : Disk} {commit : List ℕ} {p : Elements} → Stands reads repo disk commit p → disk p ≡ folder
folder_stands {reads = reads} {disk = disk} {commit = commit} {p = p} stands = elim (root_cases (commit_at (store repo disk) commit)) [
  | inr found ↦ stands.paths [] (λ e. cc e) ∙ ap (expected repo disk) found.1
  | inl none ↦ absurd (nothing_there none)
]
  where
    no_metadata : is_metadata reads gone ≡ true → ⊥
    no_metadata e = cc e

    nothing_there : at_root (commit_at (store repo disk) commit) ≡ nothing → ⊥
    nothing_there none = no_metadata (sym (ap (λ (f : Found). is_metadata reads (expected repo disk (next (store repo disk) (codes "metadata") f))) none) ∙ stands.described)

pub can_prepare : {s : State} {row : RefRow} {v : View} → IsTree v → CanStage s row v → CanPrepare (row_deploy row) v
can_prepare {s = s} {row = row} {v = v} tree can = record {
  write = record { above = folder_dir tree (commit_dir row.name row.commit) (folder_stands can.stands); free = can.deploy_free };
  folders = record { free = λ q has. elim (which q has) [ inl at ↦ subst (IsFree v) (sym at) repo_free | inr at ↦ subst (IsFree v) (sym at) tmp_free ] };
  link_free = can.link_free;
  apart = λ has. elim (which (row_deploy row) has) [ inl at ↦ cc at | inr at ↦ cc at ];
  other = λ same. cc same;
}
  where
    sound : Sound (shows v)
    sound = can.opens.sound (shows v) (now_left v)

    repo_free : IsFree v repo
    repo_free = folder_free tree repo ((sound.kinds repo).fits)

    tmp_free : IsFree v tmp
    tmp_free = folder_free tree tmp ((sound.kinds tmp).fits)

-- ---- call by call

pub goes_text : {deploy : Elements} {x y : List ℕ} {a b : Option Moments} → x ≡ y → Goes a b (Prepares deploy x) (Prepares deploy x) → Goes a b (Prepares deploy y) (Prepares deploy y)
goes_text {deploy = deploy} {a = a} {b = b} is goes = subst (λ (t : List ℕ). Goes a b (Prepares deploy t) (Prepares deploy t)) is goes

pub end_text : {deploy : Elements} {x y i j : List ℕ} {a b : Option Moments} → x ≡ y → i ≡ j → AtEnd (λ u w. WasPrepared deploy x i w) a b → AtEnd (λ u w. WasPrepared deploy y j w) a b
end_text {deploy = deploy} {y = y} {i = i} {a = a} {b = b} text bytes done =
    subst (λ (k : List ℕ). AtEnd (λ u w. WasPrepared deploy y k w) a b) bytes (subst (λ (t : List ℕ). AtEnd (λ u w. WasPrepared deploy t i w) a b) text done)

pub readies_start : {s : State} {row : RefRow} {u : View} → Readies s row u u
readies_start = record { opens = λ opens off. opens; prepares = prepares_start; shares = shared_refl }

module _ {s : State} {row : RefRow} {made : Preparation} (planned : IsPreparation s row made) where
  prepares_as : {u w : View} → Prepares made.deploy made.text u w → Prepares (row_deploy row) (hex row.commit) u w
  prepares_as {u = u} {w = w} prepares = subst (λ (p : Elements). Prepares p (hex row.commit) u w) planned.deploy (subst (λ (t : List ℕ). Prepares made.deploy t u w) planned.text prepares)

  prepared_as : {w : View} → WasPrepared made.deploy made.text made.bytes w → WasPrepared (row_deploy row) (hex row.commit) made.bytes w
  prepared_as {w = w} done = subst (λ (p : Elements). WasPrepared p (hex row.commit) made.bytes w) planned.deploy (subst (λ (t : List ℕ). WasPrepared made.deploy t made.bytes w) planned.text done)

  pub readies_as : {u w : View} → Prepares made.deploy made.text u w → Readies s row u w
  readies_as prepares = readies planned.name planned.digits (prepares_as prepares)

  pub readied : {a b : Option Moments} → IsTold a → Goes a b (Prepares made.deploy made.text) (Prepares made.deploy made.text) → Goes a b (Readies s row) (Readies s row)
  readied told goes = begins told goes (λ u w t r. readies_as r) (λ u w t r e. readies_as e)

  pub can_prepare_as : {v : View} → IsTree v → CanStage s row v → CanPrepare made.deploy v
  can_prepare_as {v = v} tree can = subst (λ (p : Elements). CanPrepare p v) (sym planned.deploy) (can_prepare tree can)

  pub staged_end : {a b : Option Moments} → IsTold a → IsTold b → Goes a b (Prepares made.deploy made.text) (Prepares made.deploy made.text) → AtEnd (λ u w. WasPrepared made.deploy made.text made.bytes w) a b → AtEnd (WasStaged s row) a b
  staged_end told mid goes done = ends_in_tree {Q = λ u w. IsTree u × Prepares made.deploy made.text u w × WasPrepared made.deploy made.text made.bytes w} mid
      (record { goes = begins told (goes_known goes done) (λ u w t r. tt) (λ u w t r q. (t, q.0, q.1)) })
      (λ u w after q. was_staged row made.bytes planned.name planned.digits planned.says planned.short q.0 after (prepares_as q.1) (prepared_as q.2))
