-- An operation that brings a commit: it is obtained, and its row is deployed.
use Rattle.std.proofs.Common.{◌≡◌, inl, inr, ℕ, List, false, Option, Some, None, Result, Ok, Err, refl, sym, ◌∙◌, ap, subst, arith}
use Rattle.std.specs.Prelude.{IsErrOf, IfOk, OnOk}
use Rattle.std.specs.Result.{IsErrAnd}
use Rattle.std.proofs.lemmas.Result.{err_from_is_err_and}
use Rattle.fp_base.specs.declared.object.ObjKind.{ObjKind}
use Rattle.fp_base.proofs.Options.{none_some}
use Rattle.fp_host.specs.Causes.{IsCaused}
use Rattle.fp_host.specs.Frame.{AtEnd}
use Rattle.fp_host.specs.Moments.{Moments, Always}
use Rattle.fp_host.specs.Outcome.{shows}
use Rattle.fp_host.specs.Remote.{Holdings}
use Rattle.fp_host.specs.View.{View, IsTree}
use Rattle.fp_host.specs.declared.host.HostEnd.{HostEnd}
use Rattle.fp_host.specs.declared.host.HostEnd.TheVariants as host_ends
use Rattle.fp_host.proofs.Cause.{passed_on}
use Rattle.fp_host.proofs.Ending.{ends_goes, ends_both, ends_on, ends_to, ends_in_tree, goes_known}
use Rattle.fp_host.proofs.Framed.{IsTold}
use Rattle.fp_host.proofs.Goes.{begins, goes_on}
use Rattle.fp_name.specs.Refs.{Ref}
use Rattle.fp_small.specs.Places.{repo}
use Rattle.dep_states.proofs.SharedAs.{shared_on}
use Rattle.fp_small.specs.declared.op.Op.{Op}
use Rattle.fp_small.specs.declared.refusal.Refusal.{Refusal}
use Rattle.fp_small.specs.declared.state.RefRow.{RefRow}
use Rattle.fp_small.specs.declared.state.RemoteRow.{RemoteRow}
use Rattle.fp_small.specs.declared.state.State.{State}
use Rattle.ost_model.specs.Objects.{Have, store}
use Rattle.ost_pull.specs.Pulls.{HasTrueFiles, IsLacked}
use Rattle.ost_store.specs.Created.{Creates}
use Rattle.ost_store.proofs.Creating.{creates_on}
use Rattle.ost_walk.specs.Ends.{Outside}
use Rattle.ost_walk.specs.PullEnds.{RefusesBy}
use Rattle.ost_walk.specs.declared.pull_end.PullEnd.{PullEnd}
use Rattle.ost_walk.proofs.Ended.{remotes_on}
use Rattle.dep_states.specs.After.{state_after, row_at}
use Rattle.dep_states.specs.Deploy.{goes_back_to}
use Rattle.dep_states.specs.Sound.{Opens}
use Rattle.dep_states.specs.Switch.{OpensEither}
use Rattle.dep_switch.specs.Rows.{IsAt, with_row}
use Rattle.dep_switch.specs.Staging.{CanStage}
use Rattle.op_change.specs.Applied.{Brings, url_for, done_with, op_refusal, have_for, ChangesBy, Applies, WasApplied, IsStarved}
use Rattle.op_change.specs.Attempts.{Attempts}
use Rattle.op_change.specs.Bringing.{AreTold, ChangesFor, LeavesNames}
use Rattle.op_change.specs.Brought.{row_brought, brought_refusal, commit_time, supply_at, HasObjects}
use Rattle.op_change.specs.Deploys.{Deploys, WasDeployed}
use Rattle.op_change.specs.Ends.{of_host, of_pull}
use Rattle.op_change.specs.Fetching.{Fetches}
use Rattle.op_change.specs.Obtaining.{WasObtained, Obtains}
use Rattle.op_change.specs.declared.ending.ApplyEnd.{ApplyEnd}
use Rattle.op_change.specs.declared.ending.ApplyEnd.TheVariants as ends
use Rattle.op_change.proofs.Brings.{supplied_true, where_told}
use Rattle.op_change.proofs.Brought.{IsBringing, pull_refused, pull_remote, pull_fault, refuses_with, at_url}
use Rattle.op_change.proofs.Changing.{changes_on, deploy_changes, deploy_store}
use Rattle.op_change.proofs.Pulling.{true_files}
use Rattle.op_change.proofs.Standing.{goes_back}
use Rattle.op_change.proofs.Plain.{err_with, never_refused, never_remote, host_fault, host_starved}

-- what the deploying of a row tells
pub record Deploying (s : State) (row : RefRow) (result : Result State HostEnd) (v w : Outside) : Type 0 where
  pub told : IsTold v.told
  pub last : IsTold w.told
  pub state : IfOk result (λ o. o ≡ with_row s row)
  pub moments : Always (Deploys s row) v.told w.told
  pub success : OnOk result (AtEnd (WasDeployed s row) v.told w.told)
  pub starved : IsErrOf result host_ends.NoMemory → AtEnd (λ x y. y ≡ x) v.told w.told
  pub host : IsCaused (IsErrOf result host_ends.Fault) v.told (CanStage s row) v.host_faults w.host_faults
  pub holdings : w.holdings ≡ v.holdings
  pub remote_faults : w.remote_faults ≡ v.remote_faults

opens_old : {s t : State} {w : View} → Opens s w → OpensEither s t w
opens_old opens = record { shown = λ disk left. inl (opens.shown disk left); sound = opens.sound }

module _ {s : State} {op : Op} {name : Ref} {commit : List ℕ} {origin : RemoteRow} (b : IsBringing s op name commit origin) where
  -- ---- while it is obtained

  changes_as : {u w : View} → ChangesFor s name commit u w → ChangesBy s op u w
  changes_as {u = u} changes = record {
    names = λ q. elim (changes.names q) [ inl same ↦ inl same | inr put ↦ inr (b.may u q _ put) ];
    config_stays = changes.config_stays;
    files = changes.files;
    links = changes.links;
    printed = changes.printed;
  }

  applies_fetches : {holds : Option Holdings} {u w : View} → Fetches s name commit holds u w → Applies s op holds u w
  applies_fetches fetches = record {
    either = λ held is opens. opens_old (fetches.opens (held, is b.brings) opens);
    refused = λ held is r refused opens. fetches.opens (held, is b.brings) opens;
    changes = λ opens. changes_as (fetches.changes (opens b.brings));
  }

  starved_fetches : {holds : Option Holdings} {u w : View} → Fetches s name commit holds u w → IsStarved s op holds u w
  starved_fetches fetches = record { opens = λ told opens. fetches.opens (told b.brings) opens; settings = λ on. absurd (b.off on) }

  caused : {F : Type 0} {holds : Option Holdings} {a : Option Moments} {C : View → Type 0} {before now : ℕ} → IsCaused (AreTold holds × F) a C before now → IsCaused ((Brings op → AreTold holds) × F) a C before now
  caused cause = record { later = cause.later; fault = λ f. cause.fault (f.0 b.brings, f.1) }

  not_obtained : (e : PullEnd) {u v : Outside} → IsTold u.told → Obtains s origin name commit (Err e) u v → Attempts s op (Err (of_pull e)) u v
  not_obtained e told o = record {
    same = o.same;
    answers = λ have x files. refuses_with have s op e (refuses have (o.answers have (at_url b.url x) (files b.brings)));
    plain = λ none. absurd (none b.brings);
    moments = begins told o.moments (λ x y t r. applies_fetches r) (λ x y t r q. applies_fetches q);
    success = tt;
    refused = λ r is. o.refused r (pull_refused {A = State} e r is);
    remote_fault = λ is. o.remote_fault (pull_remote {A = State} e is);
    starved = λ is. ends_to (ends_goes told o.moments) (λ x y q. starved_fetches q);
    host = caused (record { later = o.host.later; fault = λ is. o.host.fault (is.0, pull_fault {A = State} e is.1) });
    remote = remotes_on (λ is. pull_remote {A = State} e is) o.remote;
    unasked = λ none. absurd (none b.brings);
  }
    where
      refuses : (have : Have) → RefusesBy (λ r. brought_refusal have name commit ≡ Some r) e → RefusesBy (λ r. op_refusal have op ≡ Some r) e
      refuses have is = subst (λ (o : Option Refusal). RefusesBy (λ r. o ≡ Some r) e) (sym (b.refusal have)) is

  pub attempts_none : (e : PullEnd) (r : Result State ApplyEnd) → IsErrAnd r (λ y. y ≡ of_pull e) → {u v : Outside} → IsTold u.told → Obtains s origin name commit (Err e) u v → Attempts s op r u v
  attempts_none e r err {u = u} {v = v} told o = let p = err_from_is_err_and r err in
      subst (λ (x : Result State ApplyEnd). Attempts s op x u v) (sym p.1) (subst (λ (y : ApplyEnd). Attempts s op (Err y) u v) (sym p.2) (not_obtained e told o))

  -- ---- it is obtained

  pub record AtRow (holds : Option Holdings) (row : RefRow) (u v : View) : Type 0 where
    pub tree : IsTree v
    pub fetches : Fetches s name commit holds u v
    pub was : WasObtained s origin name commit holds row u v
    pub answers : HasTrueFiles repo u → (held : Holdings) → holds ≡ Some held → (op_refusal (have_for s op held u) op ≡ None) × (row.timestamp ≡ commit_time (have_for s op held u) commit)

  module _ (row : RefRow) (row_is : row ≡ row_brought s name origin.name commit row.timestamp) where
    at_row : {u v : Outside} → IsTold u.told → IsTold v.told → Obtains s origin name commit (Ok row) u v → AtEnd (AtRow u.holdings row) u.told v.told
    at_row told last o = ends_in_tree last
        (ends_both (ends_both (ends_goes told o.moments) (o.success row refl)) (supplied_true {url = url_for s op} {Q = λ have x y. (op_refusal have op ≡ None) × (row.timestamp ≡ commit_time have commit)} (ends_goes told o.moments)
        (λ have x files. let a = o.answers have (at_url b.url x) files in ends_to (ends_goes told o.moments) (λ x y q. (b.refusal have ∙ a.0, a.1)))))
        (λ x y tree q. record { tree = tree; fetches = q.0.0; was = q.0.1; answers = q.1 })

    after_is : (have : Have) → row.timestamp ≡ commit_time have commit → with_row s row ≡ state_after s (done_with have op)
    after_is have time = ap (with_row s) row_is ∙ ap (λ (t : ℕ). with_row s (row_brought s name origin.name commit t)) time ∙ b.state have

    applies_deploys : {holds : Option Holdings} {u v w : View} → AtRow holds row u v → Deploys s row v w → Applies s op holds u w
    applies_deploys {u = u} {w = w} p deploys = record {
      either = λ held is opens. let told = is b.brings in
          subst (λ (t : State). OpensEither s t w) (after_is (have_for s op held u) (p.answers (true_files opens) held told).1) (deploys.either (p.was.stages held told opens));
      refused = λ held is r refused opens. absurd (none_some (sym (p.answers (true_files opens) held (is b.brings)).0 ∙ refused));
      changes = λ opens. changes_as (changes_on (p.fetches.changes (opens b.brings)) (deploy_changes s name commit (ap (λ (r : RefRow). r.name) row_is) (ap (λ (r : RefRow). r.commit) row_is) deploys));
    }

    applied_deploys : {holds : Option Holdings} {u v w : View} → IsTree w → AtRow holds row u v → Deploys s row v w → WasDeployed s row v w → WasApplied s op holds u w
    applied_deploys {u = u} {v = v} {w = w} tree p deploys done = record {
      opens = λ held is opens. let told = is b.brings in
          subst (λ (t : State). Opens t w) (after_is (have_for s op held u) (p.answers (true_files opens) held told).1) (done.opens (p.was.stages held told opens));
      objects = λ held is opens. b.objects (have_for s op held u) u w (at_url_of (λ have. HasObjects have commit u w) held (objects_on (p.was.objects held (is b.brings) (opens b.brings))));
      shares = λ held is opens. shared_on (p.was.shares held (is b.brings) (opens b.brings)) deploys.shares deploys.files;
      creates = λ held is opens. b.created (have_for s op held u) u w (at_url_of (λ have. Creates repo (IsLacked repo have commit u) u w) held
          (creates_on (p.was.creates held (is b.brings) (opens b.brings)) deploys.creates (p.fetches.changes (opens b.brings)).files deploys.files));
      settled = done.settled;
      settings = λ on. absurd (b.off on);
    }
      where
        object_same : (d : List ℕ) (kind : ObjKind) → store repo (shows w) d kind ≡ store repo (shows v) d kind
        object_same d kind = ap (λ (have : Have). have d kind) (deploy_store s name commit (ap (λ (r : RefRow). r.name) row_is) (ap (λ (r : RefRow). r.commit) row_is) p.tree tree deploys)

        objects_on : {have : Have} → HasObjects have commit u v → HasObjects have commit u w
        objects_on o = record {
          there = λ place has. object_same place.digest place.kind ∙ o.there place has;
          stood = λ d kind digits some. object_same d kind ∙ o.stood d kind digits some;
          others = λ d kind digits none. object_same d kind ∙ o.others d kind digits none;
        }

        at_url_of : (P : Have → Type 0) (held : Holdings) → P (supply_at held (Some origin.url) u) → P (have_for s op held u)
        at_url_of P held p = subst (λ (url : Option (List ℕ)). P (supply_at held url u)) (sym b.url) p

    -- ---- it is deployed

    module _ {u v w : Outside} (told : IsTold u.told) (o : Obtains s origin name commit (Ok row) u v) where
      goes : {result : Result State HostEnd} → Deploying s row result v w → Always (Applies s op u.holdings) u.told w.told
      goes d = goes_on d.told (goes_known (begins told o.moments (λ x y t r. applies_fetches r) (λ x y t r q. applies_fetches q)) (at_row told d.told o)) d.moments
          (λ x y z t r q n. applies_deploys q.1 n) (λ x y z t r q n l. applies_deploys q.1 n)

      not_deployed : (e : HostEnd) → Deploying s row (Err e) v w → Attempts s op (Err (of_host e)) u w
      not_deployed e d = record {
        same = d.holdings ∙ o.same;
        answers = λ have x files. err_with have s op e;
        plain = λ none. absurd (none b.brings);
        moments = goes d;
        success = tt;
        refused = λ r is. absurd (never_refused {A = State} e (of_host e) refl r is);
        remote_fault = λ is. absurd (never_remote {A = State} e (of_host e) refl is);
        starved = λ is. ends_on (d.starved (host_starved {A = State} {B = State} e (of_host e) refl is)) (at_row told d.told o) d.told
            (λ x y z t q same. record { opens = λ told opens. subst (Opens s) (sym same) (q.fetches.opens (told b.brings) opens); settings = λ on. absurd (b.off on) });
        host = caused (where_told (omega (arith, o.host.later, d.host.later)) (λ known. passed_on _ _ (Opens s) (CanStage s row) _ _ _ told o.host.later (at_row told d.told o) d.host
            (λ is. host_fault {A = State} {B = State} e (of_host e) refl is) (λ x y t q opens. q.was.stages known.0 known.1 opens)));
        remote = record { later = omega (arith, o.remote.later, d.remote_faults); rose = λ is. absurd (never_remote {A = State} e (of_host e) refl is) };
        unasked = λ none. absurd (none b.brings);
      }

      pub attempts_not : (e : HostEnd) (r : Result State ApplyEnd) → IsErrAnd r (λ y. y ≡ of_host e) → Deploying s row (Err e) v w → Attempts s op r u w
      attempts_not e r err d = let p = err_from_is_err_and r err in
          subst (λ (x : Result State ApplyEnd). Attempts s op x u w) (sym p.1) (subst (λ (y : ApplyEnd). Attempts s op (Err y) u w) (sym p.2) (not_deployed e d))

      pub attempts : (t : State) → Deploying s row (Ok t) v w → Attempts s op (Ok t) u w
      attempts t d = record {
        same = d.holdings ∙ o.same;
        answers = λ have x files. let a = o.answers have (at_url b.url x) (files b.brings) in (b.refusal have ∙ a.0, d.state ∙ after_is have a.1);
        plain = λ none. absurd (none b.brings);
        moments = goes d;
        success = ends_in_tree {Q = λ x z. (y : View) × AtRow u.holdings row x y × (Deploys s row y z × WasDeployed s row y z)} d.last (ends_on (ends_both (ends_goes d.told d.moments) d.success) (at_row told d.told o) d.told (λ x y z t q n. (y, q, n)))
            (λ x z tree q. applied_deploys tree q.1 q.2.0 q.2.1);
        refused = λ r is. absurd (cc is);
        remote_fault = λ is. absurd (cc is);
        starved = λ is. absurd (cc is);
        host = record { later = omega (arith, o.host.later, d.host.later); fault = λ is. absurd (cc is.1) };
        remote = record { later = omega (arith, o.remote.later, d.remote_faults); rose = λ is. absurd (cc is) };
        unasked = λ none. absurd (none b.brings);
      }

-- ---- the names, where it is refused

pub names_none : (s : State) (origin : RemoteRow) (name : Ref) (commit : List ℕ) (e : PullEnd) (r : Result State ApplyEnd) → IsErrAnd r (λ y. y ≡ of_pull e) → {u v : Outside} → Obtains s origin name commit (Err e) u v
    → (x : Refusal) → IsErrOf r (ends.Refused x) → AtEnd (LeavesNames s name commit u.holdings) u.told v.told
names_none s origin name commit e r err o x is = let p = err_from_is_err_and r err in
    o.left_names x (pull_refused {A = State} e x (subst (λ (y : ApplyEnd). IsErrOf {T = State} (Err y) (ends.Refused x)) p.2 (sym p.1 ∙ is)))

pub names_not : (e : HostEnd) (r : Result State ApplyEnd) → IsErrAnd r (λ y. y ≡ of_host e) → (x : Refusal) → IsErrOf r (ends.Refused x) → ⊥
names_not e r err x is = let p = err_from_is_err_and r err in
    never_refused {A = State} e (of_host e) refl x (subst (λ (y : ApplyEnd). IsErrOf {T = State} (Err y) (ends.Refused x)) p.2 (sym p.1 ∙ is))

-- ---- where the row may be deployed

pub row_moves : (s : State) (name : Ref) (origin commit : List ℕ) (row : RefRow) → row ≡ row_brought s name origin commit row.timestamp → (IsAt s name commit → ⊥) → goes_back_to row.commit row.previous ≡ false
row_moves s name origin commit row is moves = ap (λ (r : RefRow). goes_back_to r.commit r.previous) is ∙ goes_back s name (row_at s name) commit refl moves
