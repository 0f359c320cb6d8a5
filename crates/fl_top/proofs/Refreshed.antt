-- The exported files, brought in step with the state that changes left.
use Rattle.std.proofs.Common.{◌≡◌, ◌≢◌, ◌≤◌, ◌⊎◌, inl, inr, ℕ, Bool, true, false, List, [], ◌∷◌, ◌++◌, Option, Some, None, Result, Ok, Err, IsErrOf, OnOk, refl, sym, ◌∙◌, ap, subst, codes, arith}
use Rattle.fp_host.specs.Paths.{Elements, Slot}
use Rattle.fp_host.specs.View.{View, IsTree}
use Rattle.fp_host.specs.Outcome.{Disk, Leaves, Nothing, gone, shows}
use Rattle.fp_host.specs.Causes.{IsCaused}
use Rattle.fp_host.specs.Frame.{Frame, AtEnd, NoPath, NoName}
use Rattle.fp_host.specs.Moments.{Moments, Goes, Always, Rose}
use Rattle.fp_host.specs.Remote.{Holdings}
use Rattle.fp_host.specs.declared.host.HostEnd.{HostEnd}
use Rattle.fp_host.specs.declared.host.HostEnd.TheVariants as host
use Rattle.fp_host.proofs.Cause.{Rose-later}
use Rattle.fp_host.proofs.Ending.{ends_goes, ends_on, ends_to, goes_known}
use Rattle.fp_host.proofs.Framed.{IsTold}
use Rattle.fp_host.proofs.Goes.{goes_on, ends_tree}
use Rattle.fp_host.proofs.Settled.{settled_disk}
use Rattle.fp_host.proofs.Shown.{now_left}
use Rattle.fp_base.specs.declared.object.ObjKind.{ObjKind}
use Rattle.fp_base.proofs.Texts.{bytes_eq-false}
use Rattle.fp_name.specs.Hex.{hex}
use Rattle.fp_name.specs.Kinds.{kind_word}
use Rattle.fp_name.specs.Refs.{Ref}
use Rattle.fp_name.proofs.Refs.{word_apart}
use Rattle.fp_small.specs.Places.{repo, tmp}
use Rattle.fp_small.specs.Clear.{IsWithin}
use Rattle.dep_states.proofs.SharedAs.{shared_on, shared_by}
use Rattle.fp_small.specs.declared.op.Op.{Op}
use Rattle.fp_small.specs.declared.refusal.Refusal.{Refusal}
use Rattle.fp_small.specs.declared.state.State.{State}
use Rattle.ost_model.specs.Objects.{object_path, object_at, store}
use Rattle.ost_model.specs.Order.{In, order}
use Rattle.ost_walk.specs.Ends.{Outside}
use Rattle.dep_states.specs.Lasting.IsLasting.{an_export}
use Rattle.dep_states.specs.Names.{config, remotes_conf, pins_file, branch_dir, active, text_dir, commit_dir, deploy, ref_file}
use Rattle.dep_states.specs.Shown.{Shows, ref_seen}
use Rattle.dep_states.specs.Sound.{Keeps, IsOld, is_remotes, is_pins, IsSound, Opens}
use Rattle.dep_states.specs.Settled.{Settled, Used, HasBytes}
use Rattle.dep_states.specs.After.{Done, after_all}
use Rattle.dep_states.specs.Zones.{outward}
use Rattle.dep_states.proofs.Deployed.{top, outward_append}
use Rattle.dep_states.proofs.Law.{ref_same}
use Rattle.dep_states.proofs.Rows.{head_of}
use Rattle.dep_states.proofs.Single.{one_state}
use Rattle.dep_states.proofs.Switching.{second, word_no_repo}
use Rattle.dep_states.proofs.Usual.{opens_sound}
use Rattle.dep_states.proofs.Work.{work_second, work_top}
use Rattle.dep_open.specs.Open.{IsOpened, StaysUnread}
use Rattle.fl_export.specs.Placed.{exports, ExportsAre}
use Rattle.fl_export.specs.Steps.{exported_in, MayRefresh, some_export, some_work, store_folder, work_folder, Refreshes, WasRefreshed}
use Rattle.fl_export.proofs.Spared.{exports_top, no_repo}
use Rattle.fl_change.specs.World.{World, world_at}
use Rattle.fl_change.specs.Answer.{Answer, ops_of, has_acted, IsIdle}
use Rattle.fl_change.specs.Changes.{IsStill}
use Rattle.fl_change.specs.Ends.{end_of_host}
use Rattle.fl_change.specs.Performs.{OpensBy, SettlesOver, Acts, AreToldFor}
use Rattle.fl_change.specs.declared.end.RunEnd.{RunEnd}
use Rattle.fl_change.specs.declared.end.RunEnd.TheVariants as run
use Rattle.fl_change.proofs.Changing.{text_on, still_on}
use Rattle.fl_change.proofs.Created.{created_on}
use Rattle.fl_top.specs.Answer.{shown_answer, IsAtOnce}
use Rattle.fl_top.specs.Exports.{HasExports, LeavesExports, IsInStep, RefreshesShown, RefreshedShown, StepsAfter, InStepAfter, StandsAfter, IsHostEnd, PassesOn}
use Rattle.fl_top.specs.Moment.{IsJust, Runs, RunsChanges}
use Rattle.fl_top.specs.Return.{Stands, Completes, ChangesHaveEnded, IsGivenBy}
use Rattle.fl_top.specs.Told.{IsReady}
use Rattle.fl_top.proofs.Altering.{alter_on, alter_refreshes, alter_refreshed, rest_on, rest_refreshes}
use Rattle.fl_top.proofs.Ending.{prefix_all, before_last}
use Rattle.fl_top.proofs.Opening.{Changed, WasRefused, goes_failed, goes_changed, goes_refused}
use Rattle.fl_top.proofs.Over.{counts_shown}
use Rattle.fl_top.proofs.Starting.{IsLate, IsNoRefusal, over_late, shown_after, ready_sound, finishes_none}
use Rattle.fp_small.proofs.Keeping.{files_on}
use Rattle.fp_small.proofs.Within.{above_work}
use Rattle.fp_small.specs.Files.{KeepsFiles}
use Rattle.ost_store.proofs.Staying.{same_shows}

-- ---- where exported files are brought in step

data IsExportPlace (p : Elements) : Type 0 where
  at_exports : IsWithin exports p → IsExportPlace p
  at_repo : p ≡ repo → IsExportPlace p
  at_work : IsWithin tmp p → IsExportPlace p

place_of : {p : Elements} {e : Slot} → MayRefresh p e → IsExportPlace p
place_of (some_export within) = at_exports within
place_of (some_work above) = at_work (inr above)
place_of (store_folder is put) = at_repo is
place_of (work_folder is put) = at_work (inl is)

-- below `repo`, in another folder than work
in_repo_off : {p : Elements} {x : List ℕ} → top p ≡ codes "repo" → second (outward p) ≡ x → x ≢ [] → x ≢ codes "tmp" → IsExportPlace p → ⊥
in_repo_off {p = p} t s some off (at_exports within) = no_repo (sym (exports_top p within) ∙ t)
in_repo_off t s some off (at_repo e) = some (sym s ∙ ap (λ (q : Elements). second (outward q)) e)
in_repo_off {p = p} t s some off (at_work w) = off (sym s ∙ work_second p w)

object_off : (d : List ℕ) (kind : ObjKind) → IsExportPlace (object_path repo d kind) → ⊥
object_off d kind = in_repo_off {p = object_path repo d kind} {x = codes "objects"} refl refl (λ e. cc e) (bytes_eq-false (codes "objects") (codes "tmp") refl)

file_off : (origin : List ℕ) (name : Ref) → IsExportPlace (ref_file origin name) → ⊥
file_off origin name = in_repo_off {p = ref_file origin name} {x = codes "refs"} refl refl (λ e. cc e) (bytes_eq-false (codes "refs") (codes "tmp") refl)

-- elsewhere
top_off : {p : Elements} → top p ≢ codes "repo" → top p ≢ codes "exports" → IsExportPlace p → ⊥
top_off {p = p} r x (at_exports within) = x (exports_top p within)
top_off r x (at_repo e) = r (ap top e)
top_off {p = p} r x (at_work w) = r (work_top p w)

in_ref_off : (name : Ref) (rest : Elements) → IsExportPlace (rest ++ branch_dir name) → ⊥
in_ref_off name rest =
    let t : top (rest ++ branch_dir name) ≡ kind_word name.kind = ap head_of (outward_append rest (branch_dir name) []) in
    top_off {p = rest ++ branch_dir name} (λ e. word_no_repo name.kind (sym t ∙ e)) (λ e. word_apart name.kind (codes "exports") refl refl (sym t ∙ e))

-- at a path of this one name
name_off : {p : Elements} {x : List ℕ} → top p ≡ x → x ≢ codes "repo" → x ≢ codes "exports" → IsExportPlace p → ⊥
name_off is r e = top_off (λ t. r (sym is ∙ t)) (λ t. e (sym is ∙ t))

old_off : {p : Elements} → IsOld p → IsExportPlace p → ⊥
old_off (is_remotes same) = name_off {x = codes "remotes.conf"} (ap top same) (bytes_eq-false (codes "remotes.conf") (codes "repo") refl) (bytes_eq-false (codes "remotes.conf") (codes "exports") refl)
old_off (is_pins same) = name_off {x = codes "pins"} (ap top same) (bytes_eq-false (codes "pins") (codes "repo") refl) (bytes_eq-false (codes "pins") (codes "exports") refl)

config_off : IsExportPlace config → ⊥
config_off = name_off {x = codes "config"} refl (bytes_eq-false (codes "config") (codes "repo") refl) (bytes_eq-false (codes "config") (codes "exports") refl)

-- ---- what is settled stays settled

module _ (i j : Disk) (same : (p : Elements) → (IsExportPlace p → ⊥) → j p ≡ i p) where
  seen_same : (name : Ref) → ref_seen j name ≡ ref_seen i name
  seen_same name = ref_same i j name (λ good. (same (active name) (in_ref_off name (codes "active" ∷ [])), λ text at. same (deploy (text_dir name text)) (in_ref_off name (codes "deploy" ∷ (text ∷ [])))))

  store_same : store repo j ≡ store repo i
  store_same = λ k d kind. object_at kind (same (object_path repo d kind) (object_off d kind) k)

  keeps_on : {name : Ref} {commit : List ℕ} → Keeps i name commit → Keeps j name commit
  keeps_on k = record { row = k.row; shown = seen_same _ ∙ k.shown; of_row = k.of_row }

  used_on : {d : List ℕ} {kind : ObjKind} → Used i d kind → Used j d kind
  used_on u = record {
    name = u.name;
    commit = u.commit;
    place = u.place;
    kept = keeps_on u.kept;
    inside = subst (λ have. In (order have u.commit) u.place) (sym store_same) u.inside;
    digest_is = u.digest_is;
    kind_is = u.kind_is;
  }

  still_there : (p : Elements) → (IsExportPlace p → ⊥) → j p ≢ gone → i p ≢ gone
  still_there p off some none = some (same p off ∙ none)

  settled_on : ((x : List ℕ) (rest : Elements) → j (rest ++ (x ∷ tmp)) ≡ i (rest ++ (x ∷ tmp))) → Settled i → Settled j
  settled_on work s = record {
    no_work = λ x rest. work x rest ∙ s.no_work x rest;
    used = λ d kind digits some. used_on (s.used d kind digits (still_there (object_path repo d kind) (object_off d kind) some));
    dirs = λ name commit good digits some. keeps_on (s.dirs name commit good digits (still_there (commit_dir name commit) (in_ref_off name (hex commit ∷ [])) some));
    ref_files = λ name row is. subst (HasBytes (hex row.commit ++ 10 ∷ [])) (sym (same (ref_file row.origin name) (file_off row.origin name))) (s.ref_files name row (sym (seen_same name) ∙ is));
    no_other = λ origin name remote good some. let h = s.no_other origin name remote good (still_there (ref_file origin name) (file_off origin name) some) in (h.0, seen_same name ∙ h.1, h.2);
    no_old = λ some. let h = s.no_old (still_there config config_off some) in (same remotes_conf (old_off (is_remotes refl)) ∙ h.0, same pins_file (old_off (is_pins refl)) ∙ h.1);
  }

settled_refreshed : {t : State} {v w : View} → IsTree v → IsTree w → Refreshes t v w → WasRefreshed t v w → Settled (shows v) → Settled (shows w)
settled_refreshed {v = v} {w = w} tree next step was settled = settled_on (shows v) (shows w) same (λ x rest. same_shows tree next step.files (rest ++ (x ∷ tmp)) (was.work (rest ++ (x ∷ tmp)) (above_work x rest))) settled
  where
    same : (p : Elements) → (IsExportPlace p → ⊥) → shows w p ≡ shows v p
    same p off = same_shows tree next step.files p (elim (step.names p) [ inl is ↦ is | inr may ↦ absurd (off (place_of may)) ])

config_same : {t : State} {v w : View} → Refreshes t v w → w.names config ≡ v.names config
config_same step = elim (step.names config) [ inl same ↦ same | inr may ↦ absurd (config_off (place_of may)) ]

-- ---- what is exported stands

exports_left : {t : State} {v w : View} → IsTree w → Opens t w → WasRefreshed t v w → LeavesExports w
exports_left {t = t} {w = w} tree opens was disk left = subst HasExports (λ k q. (sym (one q)) k) (record { state = t; shown = opens.shown (shows w) (now_left w); are = was.exports_are })
  where
    one : (q : Elements) → disk q ≡ shows w q
    one q = settled_disk w tree was.lasts disk left q ∙ sym (settled_disk w tree was.lasts (shows w) (now_left w) q)

-- where the remotes tell what they hold, all is settled before
in_step : {Spares : Type 0} {t : State} {u v w : View} (holds : Option Holdings) → IsTree v → IsTree w → Opens t w → Refreshes t v w → WasRefreshed t v w → ((held : Holdings) → holds ≡ Some held → (Spares → Settled (shows u)) → Settled (shows v)) → IsInStep Spares holds u w
in_step {w = w} holds tree next opens step was settled =
    let left : LeavesExports w = exports_left next opens was in
    record {
      exports = left;
      rests = λ held is before. record { settled = settled_refreshed tree next step was (settled held is before); exports = left (shows w) (now_left w) };
    }

-- and whatever other remotes hold
pub step_anyhow : {Spares : Type 0} {held : Holdings} {given : Option Holdings} {u w : View} → given ≡ Some held → IsInStep Spares given u w → (holds : Option Holdings) → IsInStep Spares holds u w
step_anyhow {held = held} told step holds = record { exports = step.exports; rests = λ other is before. step.rests held told before }

-- and where more spares tidying
pub step_as : {S T : Type 0} {holds : Option Holdings} {u w : View} → (S → T) → IsInStep S holds u w → IsInStep T holds u w
step_as more step = record { exports = step.exports; rests = λ held is before. step.rests held is (λ spares. before (more spares)) }

-- ---- where all is at rest

-- the exports are right for a view that has the same names and files
still_right : {t : State} {u v : View} → IsTree u → IsTree v → KeepsFiles u v → IsStill u v → HasExports (shows u) → Opens t v → ExportsAre (exported_in t v) (shows v)
still_right {t = t} {v = v} before tree files still right opens =
    let has : HasExports (shows v) = subst HasExports (λ k q. (sym (same_shows before tree files q (still.names q))) k) right in
    let one : has.state ≡ t = one_state (shows v) has.state t has.shown (opens.shown (shows v) (now_left v)) in
    subst (λ (z : State). ExportsAre (exported_in z v) (shows v)) one has.are

-- so a refresh after it writes nothing
still_refreshed : {t : State} {u v w : View} → IsTree u → IsTree v → KeepsFiles u v → IsStill u v → HasExports (shows u) → Opens t v → Refreshes t v w → IsStill u w
still_refreshed {t = t} {v = v} {w = w} before tree files still right opens step =
    let are : ExportsAre (exported_in t v) (shows v) = still_right before tree files still right opens in
    let second : IsStill v w = record { names = step.idle opens are; unwritten = step.unwritten opens are } in
    still_on still second step.files

-- ---- the answer that was given

module _ (held : Holdings) (a : Answer) (before t : State) {u v w : View} (at : Shows (shows u) before) (after : t ≡ after_all before (ops_of a)) (late : IsAtOnce a.refusal → ⊥) (done : Completes held a u v) (step : Refreshes t v w) (opens : IsSound u → Opens t w) where
  just_left : IsSound u → (disk : Disk) → Leaves w disk → IsJust (ops_of a) u disk
  just_left sound disk left = record {
    shown = shown_after u before (ops_of a) disk at (subst (λ (z : State). Shows disk z) after ((opens sound).shown disk left));
    sound = (opens sound).sound disk left;
  }

  runs_left : (IsIdle a → a.refusal ≡ None) → Runs a u v → Runs a u w
  runs_left unrefused runs = record {
    said = a.pieces;
    so_far = before_last a (step.printed ∙ done.printed);
    prefix = λ sound disk left. prefix_all a a.pieces refl (just_left sound disk left);
    only_rests = λ idle s is. rest_on (runs.only_rests idle s is) (rest_refreshes (unrefused idle) step);
    untouched = λ at_once. absurd (late at_once);
  }

  stands_left : Stands a u w
  stands_left = record { said = a.pieces; so_far = before_last a (step.printed ∙ done.printed); just = just_left }

  completes_left : IsTree v → IsTree w → WasRefreshed t v w → Completes held a u w
  completes_left tree next was = record {
    printed = step.printed ∙ done.printed;
    just = just_left;
    shown = λ sound s is.
        let one : before ≡ s = one_state (shows u) before s at is in
        subst (λ (z : State). Shows (shows w) z) (after ∙ ap (λ (z : State). after_all z (ops_of a)) one) ((opens sound).shown (shows w) (now_left w));
    tidied = λ sound why. settled_refreshed tree next step was (done.tidied sound why);
    text = λ some s is. text_on (config_same step) step.files (done.text some s is);
    shares = λ ok. shared_on (done.shares ok) (shared_by (λ q f above. an_export above) was.shares) step.files;
    files = files_on done.files step.files;
    creates = λ ok s is. created_on held (world_at s u) (ops_of a) (done.creates ok s is) was.creates done.files step.files;
  }

-- ---- over each answer that counts

module _ {spares : Bool} (holds : Option Holdings) (May : Op → Type 0) (f : Holdings → World → Answer) (t : State) {u v w : View} (changed : Changed spares holds May f t u v) (step : Refreshes t v w) where
  opened : (held : Holdings) → holds ≡ Some held → IsSound u → Opens t w
  opened held is sound = step.opens (changed.opens (λ asks. (held, is)) sound)

  -- nothing was refused
  not_at_once : (a : Answer) → a.refusal ≡ None → IsAtOnce a.refusal → ⊥
  not_at_once a none at_once = subst IsAtOnce none at_once

  runs_on : IsTree v → RunsChanges holds May f u v → RunsChanges holds May f u w
  runs_on tree runs = record {
    runs = λ ready held is shown counts.
        let e = changed.done ready held is shown counts in
        runs_left held (shown_answer (f held) shown) changed.before t changed.at (changed.after ready held is shown counts) (not_at_once (shown_answer (f held) shown) e.0) e.1 step (opened held is) (λ idle. e.0) (runs.runs ready held is shown counts);
    changes = λ known. alter_on u v w (runs.changes known) (alter_refreshes step);
    rests = λ change ready held is shown counts rest idle.
        let e = changed.done ready held is shown counts in
        let opens = changed.opens (λ asks. (held, is)) (ready_sound changed.at ready) in
        still_refreshed changed.tree tree e.1.files (runs.rests tt ready held is shown counts rest idle) rest.exports opens step;
    untouched = λ none. absurd (none changed.before changed.at);
  }

  ended_on : IsTree v → IsTree w → WasRefreshed t v w → ChangesHaveEnded holds f (Ok tt) u w
  ended_on tree next was = record {
    ended = λ ready held is shown counts.
        let e = changed.done ready held is shown counts in (
          e.0,
          record {
            completes = completes_left held (shown_answer (f held) shown) changed.before t changed.at (changed.after ready held is shown counts) (not_at_once (shown_answer (f held) shown) e.0) e.1 step (opened held is) tree next was;
            exports = λ some sound. exports_left next (opened held is sound) was;
          },
        );
    given = λ by held. counts_shown (shown_answer (f held)) (shows u) changed.before changed.at;
    made = tt;
  }

  -- the host failed, or there was no memory: all that was acknowledged stands
  halted_on : (e : HostEnd) → ChangesHaveEnded holds f (Err (end_of_host e)) u w
  halted_on host.Fault = record { ended = λ ready held is shown counts. tt; given = λ by. absurd by; made = tt }
  halted_on host.NoMemory = record {
    ended = λ ready held is shown counts.
        let e = changed.done ready held is shown counts in
        stands_left held (shown_answer (f held) shown) changed.before t changed.at (changed.after ready held is shown counts) (not_at_once (shown_answer (f held) shown) e.0) e.1 step (opened held is);
    given = λ by. absurd by;
    made = tt;
  }

-- ---- the same where one was refused after an operation, by the state that is shown

-- what tells that an operation was done tells it of some, and else of none
acted_some : (ops : List Done) → true ≡ has_acted false ops → ops ≡ [] → ⊥
acted_some [] acted none = let clash : true ≡ false = acted in cc clash
acted_some (op ∷ ops) acted none = cc none

acted_none : (ops : List Done) → false ≡ has_acted false ops → ops ≡ []
acted_none [] acted = refl
acted_none (op ∷ ops) acted = let clash : false ≡ true = acted in absurd (cc clash)

module _ (holds : Option Holdings) (May : Op → Type 0) (f : Holdings → World → Answer) (late : IsLate f) (refusal : Refusal) {u v w : View} (was : WasRefused holds May f refusal true u v) (step : RefreshesShown v w) where
  -- where the answer's operations lead is what is shown
  moves : (a : Answer) → Opens (after_all was.before (ops_of a)) v → Refreshes (after_all was.before (ops_of a)) v w
  moves a opens = step.refreshes _ (opens.shown (shows v) (now_left v))

  runs_refused : IsTree v → RunsChanges holds May f u v → RunsChanges holds May f u w
  runs_refused tree runs = record {
    runs = λ ready held is shown counts.
        let a = shown_answer (f held) shown in
        let e = was.done ready held is shown counts in
        runs_left held a was.before (after_all was.before (ops_of a)) was.at refl (over_late (f held) (late held) shown) e.1 (moves a e.2) (λ sound. (moves a e.2).opens e.2) (λ idle. absurd (acted_some (ops_of a) e.3 idle.0)) (runs.runs ready held is shown counts);
    changes = λ known. alter_on u v w (runs.changes known) (alter_refreshed step);
    rests = λ change ready held is shown counts rest idle.
        let a = shown_answer (f held) shown in
        let e = was.done ready held is shown counts in
        still_refreshed was.tree tree e.1.files (runs.rests tt ready held is shown counts rest idle) rest.exports e.2 (moves a e.2);
    untouched = λ none. absurd (none was.before was.at);
  }

  ended_refused : IsTree v → IsTree w → RefreshedShown v w → ChangesHaveEnded holds f (Err (run.Refused refusal)) u w
  ended_refused tree next end = record {
    ended = λ ready held is shown counts.
        let a = shown_answer (f held) shown in
        let e = was.done ready held is shown counts in
        let opens : Opens (after_all was.before (ops_of a)) w = (moves a e.2).opens e.2 in
        let refreshed = end (after_all was.before (ops_of a)) (e.2.shown (shows v) (now_left v)) in (
          e.0,
          record {
            completes = completes_left held a was.before (after_all was.before (ops_of a)) was.at refl (over_late (f held) (late held) shown) e.1 (moves a e.2) (λ sound. opens) tree next refreshed;
            exports = λ some sound. exports_left next opens refreshed;
          },
        );
    given = λ by held. counts_shown (shown_answer (f held)) (shows u) was.before was.at;
    made = tt;
  }

  -- the host failed, or there was no memory: all that was acknowledged stands
  halted_refused : (e : HostEnd) → ChangesHaveEnded holds f (Err (end_of_host e)) u w
  halted_refused host.Fault = record { ended = λ ready held is shown counts. tt; given = λ by. absurd by; made = tt }
  halted_refused host.NoMemory = record {
    ended = λ ready held is shown counts.
        let a = shown_answer (f held) shown in
        let e = was.done ready held is shown counts in
        stands_left held a was.before (after_all was.before (ops_of a)) was.at refl (over_late (f held) (late held) shown) e.1 (moves a e.2) (λ sound. (moves a e.2).opens e.2);
    given = λ by. absurd by;
    made = tt;
  }

module _ {a b c : Option Moments} (holds : Option Holdings) (May : Op → Type 0) (f : Holdings → World → Answer) (late : IsLate f) (refusal : Refusal) (known_b : IsTold b) (known_c : IsTold c)
    (first : Goes a b (RunsChanges holds May f) (WasRefused holds May f refusal true)) (second : Always RefreshesShown b c) where
  seen_trees : AtEnd RefreshedShown b c → Goes b c RefreshesShown (λ v w. IsTree w × (RefreshesShown v w × RefreshedShown v w))
  seen_trees end = ends_tree known_c (goes_known second end) (λ v w tree q. (tree, q))

  goes_refused_on : AtEnd RefreshedShown b c → Goes a c (RunsChanges holds May f) (ChangesHaveEnded holds f (Err (run.Refused refusal)))
  goes_refused_on end = goes_on known_b first (seen_trees end)
      (λ u v w tree r q step. runs_refused holds May f late refusal q step tree r)
      (λ u v w tree r q step last. ended_refused holds May f late refusal q step tree last.0 last.1.1)

  goes_refused_off : (e : HostEnd) → Goes a c (RunsChanges holds May f) (ChangesHaveEnded holds f (Err (end_of_host e)))
  goes_refused_off e = goes_on known_b first second (λ u v w tree r q step. runs_refused holds May f late refusal q step tree r) (λ u v w tree r q step last. halted_refused holds May f late refusal q step e)

-- ---- where one was refused and no operation was done

stands_done : (held : Holdings) (a : Answer) {u v : View} → Completes held a u v → Stands a u v
stands_done held a done = record { said = a.pieces; so_far = before_last a done.printed; just = done.just }

module _ (holds : Option Holdings) (May : Op → Type 0) (f : Holdings → World → Answer) (refusal : Refusal) {u v : View} (was : WasRefused holds May f refusal false u v) where
  ended_unacted : ChangesHaveEnded holds f (Err (run.Refused refusal)) u v
  ended_unacted = record {
    ended = λ ready held is shown counts. let e = was.done ready held is shown counts in (e.0, finishes_none held (shown_answer (f held) shown) (acted_none (ops_of (shown_answer (f held) shown)) e.3) e.1);
    given = λ by held. counts_shown (shown_answer (f held)) (shows u) was.before was.at;
    made = tt;
  }

  halted_unacted : (e : HostEnd) → ChangesHaveEnded holds f (Err (end_of_host e)) u v
  halted_unacted host.Fault = record { ended = λ ready held is shown counts. tt; given = λ by. absurd by; made = tt }
  halted_unacted host.NoMemory = record {
    ended = λ ready held is shown counts. stands_done held (shown_answer (f held) shown) (was.done ready held is shown counts).1;
    given = λ by. absurd by;
    made = tt;
  }

module _ {a b c : Option Moments} (holds : Option Holdings) (May : Op → Type 0) (f : Holdings → World → Answer) (refusal : Refusal) (known_b : IsTold b)
    (first : Goes a b (RunsChanges holds May f) (WasRefused holds May f refusal false)) (second : Always (λ v w. w ≡ v) b c) where
  goes_unacted : (x : Result (Unit {0}) RunEnd) → ((u v : View) → WasRefused holds May f refusal false u v → ChangesHaveEnded holds f x u v) → Goes a c (RunsChanges holds May f) (ChangesHaveEnded holds f x)
  goes_unacted x ended = goes_on known_b first second
      (λ u v w tree r q same. subst (RunsChanges holds May f u) (sym same) r)
      (λ u v w tree r q same last. subst (ChangesHaveEnded holds f x u) (sym last) (ended u v q))

  goes_unacted_on : Goes a c (RunsChanges holds May f) (ChangesHaveEnded holds f (Err (run.Refused refusal)))
  goes_unacted_on = goes_unacted (Err (run.Refused refusal)) (λ u v q. ended_unacted holds May f refusal q)

  goes_unacted_off : (e : HostEnd) → Goes a c (RunsChanges holds May f) (ChangesHaveEnded holds f (Err (end_of_host e)))
  goes_unacted_off e = goes_unacted (Err (end_of_host e)) (λ u v q. halted_unacted holds May f refusal q e)

-- ---- the refresh as the last part of a change

module _ {spares : Bool} {a b c : Option Moments} (holds : Option Holdings) (May : Op → Type 0) (f : Holdings → World → Answer) (t : State) (known_b : IsTold b) (known_c : IsTold c)
    (first : Goes a b (RunsChanges holds May f) (Changed spares holds May f t)) (second : Always (Refreshes t) b c) where
  in_trees : AtEnd (WasRefreshed t) b c → Goes b c (Refreshes t) (λ v w. IsTree w × (Refreshes t v w × WasRefreshed t v w))
  in_trees end = ends_tree known_c (goes_known second end) (λ v w tree q. (tree, q))

  goes_refreshed : AtEnd (WasRefreshed t) b c → Goes a c (RunsChanges holds May f) (ChangesHaveEnded holds f (Ok tt))
  goes_refreshed end = goes_on known_b first (in_trees end) (λ u v w tree r q step. runs_on holds May f t q step tree r) (λ u v w tree r q step last. ended_on holds May f t q step tree last.0 last.1.1)

  goes_not_refreshed : (e : HostEnd) → Goes a c (RunsChanges holds May f) (ChangesHaveEnded holds f (Err (end_of_host e)))
  goes_not_refreshed e = goes_on known_b first second (λ u v w tree q k step. runs_on holds May f t k step tree q) (λ u v w tree q k step last. halted_on holds May f t k step e)

  exports_stand : IsTold a → AtEnd (WasRefreshed t) b c → AreToldFor May holds → AtEnd (λ u w. IsSound u → IsInStep (spares ≡ true) holds u w) a c
  exports_stand known_a end told = ends_on (ends_goes known_b (in_trees end)) (ends_goes known_a first) known_b
      (λ u v w tree q last sound. in_step holds tree last.0 (last.1.0.opens (q.opens told sound)) last.1.0 last.1.1 (q.settled (inl sound)))

-- ---- however the changes ended

-- a change that ends so
abbrev Whole : Option Moments → Option Moments → Option Holdings → (Op → Type 0) → (Holdings → World → Answer) → Result (Unit {0}) RunEnd → Type 0
Whole a c holds May f x = Goes a c (RunsChanges holds May f) (ChangesHaveEnded holds f x)

-- what is exported stands, where all was done
abbrev Stand : Bool → Option Moments → Option Moments → Option Holdings → (Op → Type 0) → Result (Unit {0}) RunEnd → Type 0
Stand spares a c holds May x = OnOk x (AreToldFor May holds → AtEnd (λ u w. IsSound u → IsInStep (spares ≡ true) holds u w) a c)

module _ {a c : Option Moments} (May : Op → Type 0) (f : Holdings → World → Answer) (s : State) (result : Result (Unit {0}) RunEnd) {u w : Outside} (spares : Bool)
    (late : IsLate f) (known : IsTold a) (known_u : IsTold u.told) (known_w : IsTold w.told) (known_c : IsTold c)
    (frame : Frame Nothing NoName NoPath a u.told) (unread : Goes a u.told StaysUnread StaysUnread) (tells : AtEnd (IsOpened s) a u.told) where
  goes_passed : (e : RunEnd) {before now : Bool} → IsNoRefusal e → Acts (Opens s) May f s before now (Err e) u w → Always (λ x y. y ≡ x) w.told c → Whole a c u.holdings May f (Err e)
  goes_passed e other works same = goes_on known_w (goes_failed May f s e other late known known_u frame unread tells works) same
      (λ x y z tree p q is. subst (RunsChanges u.holdings May f x) (sym is) p)
      (λ x y z tree p q is last. subst (ChangesHaveEnded u.holdings f (Err e) x) (sym last) q)

  pub goes_in_step : (r : Result State RunEnd) (acted : Bool) → Acts (Opens s) May f s false acted r u w → (spares ≡ false → AtEnd (SettlesOver u.holdings s r) u.told w.told) → Always (StepsAfter r acted) w.told c → (IsGivenBy result → AtEnd (InStepAfter r acted) w.told c) → PassesOn r result → Whole a c u.holdings May f result
  goes_in_step (Ok t) acted works settles steps end passes =
      let first = goes_changed spares May f s t late known known_u frame unread tells works settles in
      elim passes [
        | inl is ↦ subst (Whole a c u.holdings May f) (sym is) (goes_refreshed u.holdings May f t known_w known_c first steps (end (subst IsGivenBy (sym is) tt)))
        | inr failed ↦ elim failed [
          | inl is ↦ subst (Whole a c u.holdings May f) (sym is) (goes_not_refreshed u.holdings May f t known_w known_c first steps host.Fault)
          | inr is ↦ subst (Whole a c u.holdings May f) (sym is) (goes_not_refreshed u.holdings May f t known_w known_c first steps host.NoMemory)
        ]
      ]
  goes_in_step (Err (run.Refused refusal)) true works settles steps end passes =
      let first = goes_refused May f s refusal true late known known_u frame unread tells works in
      elim passes [
        | inl is ↦ subst (Whole a c u.holdings May f) (sym is) (goes_refused_on u.holdings May f late refusal known_w known_c first steps (end (subst IsGivenBy (sym is) tt)))
        | inr failed ↦ elim failed [
          | inl is ↦ subst (Whole a c u.holdings May f) (sym is) (goes_refused_off u.holdings May f late refusal known_w known_c first steps host.Fault)
          | inr is ↦ subst (Whole a c u.holdings May f) (sym is) (goes_refused_off u.holdings May f late refusal known_w known_c first steps host.NoMemory)
        ]
      ]
  goes_in_step (Err (run.Refused refusal)) false works settles steps end passes =
      let first = goes_refused May f s refusal false late known known_u frame unread tells works in
      elim passes [
        | inl is ↦ subst (Whole a c u.holdings May f) (sym is) (goes_unacted_on u.holdings May f refusal known_w first steps)
        | inr failed ↦ elim failed [
          | inl is ↦ subst (Whole a c u.holdings May f) (sym is) (goes_unacted_off u.holdings May f refusal known_w first steps host.Fault)
          | inr is ↦ subst (Whole a c u.holdings May f) (sym is) (goes_unacted_off u.holdings May f refusal known_w first steps host.NoMemory)
        ]
      ]
  goes_in_step (Err run.Fault) acted works settles steps end passes = subst (Whole a c u.holdings May f) (sym passes) (goes_passed run.Fault (λ refusal is. cc is) works steps)
  goes_in_step (Err run.RemoteFault) acted works settles steps end passes = subst (Whole a c u.holdings May f) (sym passes) (goes_passed run.RemoteFault (λ refusal is. cc is) works steps)
  goes_in_step (Err run.NoMemory) acted works settles steps end passes = subst (Whole a c u.holdings May f) (sym passes) (goes_passed run.NoMemory (λ refusal is. cc is) works steps)

  pub exports_in_step : (r : Result State RunEnd) (acted : Bool) → Acts (Opens s) May f s false acted r u w → (spares ≡ false → AtEnd (SettlesOver u.holdings s r) u.told w.told) → Always (StepsAfter r acted) w.told c → (IsGivenBy result → AtEnd (InStepAfter r acted) w.told c) → PassesOn r result → Stand spares a c u.holdings May result
  exports_in_step (Ok t) acted works settles steps end passes =
      let first = goes_changed spares May f s t late known known_u frame unread tells works settles in
      elim passes [
        | inl is ↦ subst (Stand spares a c u.holdings May) (sym is) (exports_stand u.holdings May f t known_w known_c first steps known (end (subst IsGivenBy (sym is) tt)))
        | inr failed ↦ elim failed [ inl is ↦ subst (Stand spares a c u.holdings May) (sym is) tt | inr is ↦ subst (Stand spares a c u.holdings May) (sym is) tt ]
      ]
  exports_in_step (Err (run.Refused refusal)) acted works settles steps end passes = elim passes [
    | inl is ↦ subst (Stand spares a c u.holdings May) (sym is) tt
    | inr failed ↦ elim failed [ inl is ↦ subst (Stand spares a c u.holdings May) (sym is) tt | inr is ↦ subst (Stand spares a c u.holdings May) (sym is) tt ]
  ]
  exports_in_step (Err run.Fault) acted works settles steps end passes = subst (Stand spares a c u.holdings May) (sym passes) tt
  exports_in_step (Err run.RemoteFault) acted works settles steps end passes = subst (Stand spares a c u.holdings May) (sym passes) tt
  exports_in_step (Err run.NoMemory) acted works settles steps end passes = subst (Stand spares a c u.holdings May) (sym passes) tt

-- where more spares tidying
pub stands_spared : (a c : Option Moments) (holds : Option Holdings) (May : Op → Type 0) (S T : Type 0) (x : Result (Unit {0}) RunEnd) → (S → T)
    → OnOk x (AreToldFor May holds → AtEnd (λ u w. IsSound u → IsInStep S holds u w) a c) → OnOk x (AreToldFor May holds → AtEnd (λ u w. IsSound u → IsInStep T holds u w) a c)
stands_spared a c holds May S T (Ok t) more stand = λ told. ends_to (stand told) (λ u w step sound. step_as more (step sound))
stands_spared a c holds May S T (Err e) more stand = tt

-- ---- the cause of a fault

-- two ends are one
clash_ends : {e d : RunEnd} {result : Result (Unit {0}) RunEnd} → result ≡ Err e → result ≡ Err d → e ≡ d
clash_ends {e = e} {d = d} first second = let both : Err e ≡ Err d = sym first ∙ second in cc both

-- a fault is the changes' own, or it came behind them
fault_passed : (r : Result State RunEnd) (result : Result (Unit {0}) RunEnd) → PassesOn r result → IsErrOf result run.Fault → IsErrOf r run.Fault ⊎ ((r ≢ Err run.Fault) × IsErrOf result run.Fault)
fault_passed (Ok t) result passes is = inr ((λ e. cc e), is)
fault_passed (Err (run.Refused refusal)) result passes is = inr ((λ e. cc e), is)
fault_passed (Err run.Fault) result passes is = inl refl
fault_passed (Err run.RemoteFault) result passes is = inr ((λ e. cc e), is)
fault_passed (Err run.NoMemory) result passes is = inr ((λ e. cc e), is)

-- and a fault of the remotes is the changes' own
pub remote_passed : (r : Result State RunEnd) (result : Result (Unit {0}) RunEnd) → PassesOn r result → IsErrOf result run.RemoteFault → IsErrOf r run.RemoteFault
remote_passed r result passes is = by r passes
  where
    none : IsHostEnd result → ⊥
    none failed = elim failed [ inl was ↦ cc (clash_ends was is) | inr was ↦ cc (clash_ends was is) ]

    by : (r : Result State RunEnd) → PassesOn r result → IsErrOf r run.RemoteFault
    by (Ok t) passes = elim passes [ inl was ↦ absurd (let both : Ok tt ≡ Err run.RemoteFault = sym was ∙ is in cc both) | inr failed ↦ absurd (none failed) ]
    by (Err (run.Refused refusal)) passes = elim passes [ inl was ↦ absurd (let both : run.Refused refusal ≡ run.RemoteFault = clash_ends was is in cc both) | inr failed ↦ absurd (none failed) ]
    by (Err run.Fault) passes = absurd (let both : run.Fault ≡ run.RemoteFault = clash_ends passes is in cc both)
    by (Err run.RemoteFault) passes = refl
    by (Err run.NoMemory) passes = absurd (let both : run.NoMemory ≡ run.RemoteFault = clash_ends passes is in cc both)

stands_after : (s : State) (r : Result State RunEnd) (v w : View) → OpensBy s r v w → Opens s v → StandsAfter r w
stands_after s (Ok t) v w by opens = by opens
stands_after s (Err (run.Refused refusal)) v w by opens = opens_sound (by opens).1
stands_after s (Err run.Fault) v w by opens = tt
stands_after s (Err run.RemoteFault) v w by opens = tt
stands_after s (Err run.NoMemory) v w by opens = tt

rose_on : (a b c : ℕ) → b ≤ c → Rose a b → Rose a c
rose_on a b c le rose = omega arith

pub caused_in_step : {a : Option Moments} (May : Op → Type 0) (f : Holdings → World → Answer) (s : State) (r : Result State RunEnd) (result : Result (Unit {0}) RunEnd) {acted : Bool} {u w : Outside} (before now : ℕ) → before ≤ u.host_faults → AtEnd (IsOpened s) a u.told
    → Acts (Opens s) May f s false acted r u w → PassesOn r result → IsCaused ((r ≢ Err run.Fault) × IsErrOf result run.Fault) w.told (StandsAfter r) w.host_faults now → IsCaused (AreToldFor May u.holdings × IsErrOf result run.Fault) a IsReady before now
caused_in_step May f s r result {u = u} {w = w} before now later tells works passes cause = record {
  later = omega (arith, later, works.host.later, cause.later);
  fault = λ is m told ready.
      let opened = tells.goes.told m told in
      let opens = opened.3.opens (ready_sound opened.3.shown ready) in
      elim (fault_passed r result passes is.1) [
        | inl first ↦ Rose-later before u.host_faults now later (rose_on u.host_faults w.host_faults now cause.later (works.host.fault (is.0, first) opened.0 opened.1 opens))
        | inr here ↦
            let changed = (works.opens is.0).goes.told opened.0 opened.1 in
            Rose-later before w.host_faults now (omega (arith, later, works.host.later)) (cause.fault here changed.0 changed.1 (stands_after s r opened.0.now changed.0.now changed.3 opens))
      ];
}
