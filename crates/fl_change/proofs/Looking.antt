-- What is looked up in the store before anything is done.
use Rattle.std.proofs.Common.{◌≡◌, Bool, ℕ, List, Option, Some, None, option_map, Result, Ok, Err, refl, sym, ◌∙◌, ap, subst}
use Rattle.fp_host.specs.Frame.{Unchanged}
use Rattle.fp_host.specs.Moments.{Moments}
use Rattle.fp_host.specs.Outcome.{shows}
use Rattle.fp_host.specs.Remote.{Holdings}
use Rattle.fp_host.proofs.Framed.{IsTold}
use Rattle.fp_name.specs.Refs.{Ref}
use Rattle.fp_small.specs.Places.{repo}
use Rattle.fp_small.specs.declared.state.State.{State}
use Rattle.fp_small.specs.declared.op.Op.{Op}
use Rattle.fp_small.specs.declared.op.Op.TheVariants.{Uninstall, Rollback}
use Rattle.fp_small.specs.declared.refusal.Refusal.{Refusal}
use Rattle.fp_small.specs.declared.refusal.Refusal.TheVariants as refusals
use Rattle.ost_model.specs.Objects.{Have, store}
use Rattle.ost_model.specs.Remotes.{Stores}
use Rattle.ost_model.proofs.Stored.{still_stored}
use Rattle.ost_walk.specs.Ends.{Outside}
use Rattle.dep_states.specs.After.{row_at}
use Rattle.fl_meta.specs.declared.meta.Meta.{Meta}
use Rattle.fl_extension.specs.declared.point.Point.{Point}
use Rattle.fl_installed.specs.Described.{described}
use Rattle.fl_installed.specs.Users.{first_user, installed_metas, installed_points}
use Rattle.fl_plan.specs.Unused.{unused_of}
use Rattle.fl_change.specs.World.{World, world_at}
use Rattle.fl_change.specs.Answer.{Answer, refusal_answer, unless, each_over}
use Rattle.fl_change.specs.Ends.{IsTried, or_refuse}
use Rattle.fl_change.specs.Performs.{Acts, Rests, Just}
use Rattle.fl_change.specs.Refs.{op_over, uninstall_over, drop_over, unused_over, previous_in, missing_refusal, rollback_over}
use Rattle.fl_change.specs.Turns.{IsRollback}
use Rattle.fl_change.specs.declared.end.RunEnd.{RunEnd}
use Rattle.fl_change.specs.declared.end.RunEnd.TheVariants.{Refused}
use Rattle.fl_change.proofs.Acting.{Known, acts_same, acts_refused, acts_looked}
use Rattle.fl_change.proofs.Asking.{acts_tried}
use Rattle.fl_change.proofs.Commands.{uninstall_used, uninstall_free, rollback_at, rollback_there}
use Rattle.fl_change.proofs.Targets.{stores_at, world_have}
use Rattle.fl_change.proofs.Working.{Looked, works_to}

-- what is told of the store there
abbrev pub TellsOf : {A : Type 0} → Option Moments → A → (Have → A) → Type 0
TellsOf told a f = (have : Have) → Stores repo told have → a ≡ f have

pub told_known : {A : Type 0} (s : State) (a : A) (f : Have → A) (u : Outside) → TellsOf u.told a f → Known (Rests s) u s (λ held x. f (world_at s x).have ≡ a)
told_known s a f u tells x first held known rests = ap f (world_have s x rests) ∙ sym (tells (store repo (shows x)) (stores_at u x first))

-- it is refused by what is known at the entry
pub refused_looked : {May : Op → Type 0} {s : State} (f : Holdings → World → Answer) (r : Refusal) {before : Bool} {u v : Outside} → IsTold v.told → Looked May u v → Known (Rests s) u s (λ held x. f held (world_at s x) ≡ refusal_answer r) → Acts (Rests s) May f s before before (Err (Refused r)) u v
refused_looked f r told looked known = acts_same f (λ held x. refusal_answer r) known
    (acts_looked (λ held x. refusal_answer r) told looked (acts_refused (λ held x. refusal_answer r) r told (λ x first held k rests. refl)))

-- it is another answer, by what is known at the entry
pub same_looked : {May : Op → Type 0} {s : State} (f g : Holdings → World → Answer) (r : Result State RunEnd) {before now : Bool} {u v w : Outside} → IsTold v.told → Looked May u v → Known (Rests s) u s (λ held x. f held (world_at s x) ≡ g held (world_at s x)) → Acts (Rests s) May g s before now r v w → Acts (Rests s) May f s before now r u w
same_looked f g r told looked known acts = acts_same f g known (acts_looked g told looked acts)

module _ (s : State) (n : Ref) where
  -- ---- the first application that names a runtime

  abbrev pub Deployed : List ℕ → Type 0
  Deployed origin = or_refuse (refusals.NotInstalled n) (option_map (λ row. row.origin) (row_at s n)) ≡ Ok origin

  pub used_by : (origin : List ℕ) (app copy : Ref) (user : Option Ref) {before : Bool} {u v : Outside} → IsTold v.told → Looked (Just (Uninstall n)) u v → Deployed origin → TellsOf u.told user (λ have. first_user have n s.refs) → user ≡ Some app → copy ≡ n → Acts (Rests s) (Just (Uninstall n)) (uninstall_over n) s before before (Err (Refused (refusals.RuntimeInUse copy app))) u v
  used_by origin app copy user {before = before} {u = u} {v = v} told looked deployed tells is same =
      subst (λ (c : Ref). Acts (Rests s) (Just (Uninstall n)) (uninstall_over n) s before before (Err (Refused (refusals.RuntimeInUse c app))) u v) (sym same)
      (refused_looked (uninstall_over n) (refusals.RuntimeInUse n app) told looked (λ x first held known rests.
      uninstall_used held (world_at s x) n app origin deployed (told_known s user (λ have. first_user have n s.refs) u tells x first held known rests ∙ is)))

  pub used_by_none : (origin : List ℕ) (user : Option Ref) (r : Result State RunEnd) {before now : Bool} {u v w : Outside} → IsTold v.told → Looked (Just (Uninstall n)) u v → Deployed origin → TellsOf u.told user (λ have. first_user have n s.refs) → user ≡ None → Acts (Rests s) (Just (Uninstall n)) (op_over (Uninstall n)) s before now r v w → Acts (Rests s) (Just (Uninstall n)) (uninstall_over n) s before now r u w
  used_by_none origin user r {u = u} told looked deployed tells is acts = same_looked (uninstall_over n) (op_over (Uninstall n)) r told looked (λ x first held known rests.
      uninstall_free held (world_at s x) n origin deployed (told_known s user (λ have. first_user have n s.refs) u tells x first held known rests ∙ is)) acts

  -- ---- what the commit before says

  abbrev pub WasAt : List ℕ → Type 0
  WasAt commit = previous_in n (row_at s n) ≡ Ok commit

  pub not_described : (commit : List ℕ) (refusal : Refusal) (said : Result Meta Refusal) {before : Bool} {u v : Outside} → IsTold v.told → Looked (IsRollback n) u v → WasAt commit → TellsOf u.told said (λ have. described have n commit) → said ≡ Err refusal → Acts (Rests s) (IsRollback n) (rollback_over n) s before before (Err (Refused refusal)) u v
  not_described commit refusal said {u = u} told looked was tells is = refused_looked (rollback_over n) refusal told looked (λ x first held known rests.
      rollback_at held (world_at s x) n commit (Err refusal) was (told_known s said (λ have. described have n commit) u tells x first held known rests ∙ is))

  abbrev goes : List ℕ → Meta → Holdings → World → Answer
  goes commit meta held x = unless (missing_refusal s meta.runtime) (op_over (Rollback n commit) held x)

  pub runtime_missing : (commit : List ℕ) (meta : Meta) (said : Result Meta Refusal) (e : RunEnd) {before : Bool} {u v : Outside} → IsTold v.told → Looked (IsRollback n) u v → WasAt commit → TellsOf u.told said (λ have. described have n commit) → said ≡ Ok meta → IsTried (missing_refusal s meta.runtime) (Err e) → Acts (Rests s) (IsRollback n) (rollback_over n) s before before (Err e) u v
  runtime_missing commit meta said e {u = u} told looked was tells is tried = same_looked (rollback_over n) (goes commit meta) (Err e) told looked
      (λ x first held known rests. rollback_at held (world_at s x) n commit (Ok meta) was (told_known s said (λ have. described have n commit) u tells x first held known rests ∙ is))
      (acts_tried (goes commit meta) told (missing_refusal s meta.runtime) e tried (λ q there x first held known rests. ap (λ (o : Option Refusal). unless o (op_over (Rollback n commit) held (world_at s x))) there))

  pub runtime_there : (commit : List ℕ) (copy : Ref) (meta : Meta) (said : Result Meta Refusal) (r : Result State RunEnd) {before now : Bool} {u v w : Outside} → IsTold v.told → Looked (IsRollback n) u v → WasAt commit → TellsOf u.told said (λ have. described have n commit) → said ≡ Ok meta → missing_refusal s meta.runtime ≡ None → copy ≡ n → Acts (Rests s) (Just (Rollback copy commit)) (op_over (Rollback copy commit)) s before now r v w → Acts (Rests s) (IsRollback n) (rollback_over n) s before now r u w
  runtime_there commit copy meta said r {before = before} {now = now} {u = u} {v = v} {w = w} told looked was tells is there same acts = same_looked (rollback_over n) (op_over (Rollback n commit)) r told looked
      (λ x first held known rests. rollback_there held (world_at s x) n commit meta was (told_known s said (λ have. described have n commit) u tells x first held known rests ∙ is) there)
      (works_to (λ op may. (commit, may)) (subst (λ (c : Ref). Acts (Rests s) (Just (Rollback c commit)) (op_over (Rollback c commit)) s before now r v w) same acts))

-- ---- the runtimes that nothing keeps

module _ (s : State) (metas : List (Ref × Meta)) (points : List (Ref × List Point)) where
  pub unused_known : (names : List Ref) (u v : Outside) → Unchanged u.told v.told → TellsOf u.told metas (λ have. installed_metas have s.refs) → TellsOf v.told points (λ have. installed_points have s.refs) → names ≡ unused_of s metas points → Known (Rests s) u s (λ held x. unused_over held (world_at s x) ≡ each_over drop_over names held (world_at s x))
  unused_known names u v still of_metas of_points are x first held known rests =
      let m = told_known s metas (λ have. installed_metas have s.refs) u of_metas x first held known rests in
      let p : installed_points (world_at s x).have s.refs ≡ points = ap (λ (h : Have). installed_points h s.refs) (world_have s x rests) ∙ sym (of_points (store repo (shows x)) (still_stored still (stores_at u x first))) in
      ap (λ (l : List Ref). each_over drop_over l held (world_at s x))
      (ap (λ (ms : List (Ref × Meta)). unused_of s ms (installed_points (world_at s x).have s.refs)) m ∙ ap (λ (ps : List (Ref × List Point)). unused_of s metas ps) p ∙ sym are)
