-- The exported files of an installation that is opened for them alone.
use Rattle.std.proofs.Common.{◌≡◌, ◌≤◌, inl, inr, ℕ, Option, Result, Ok, Err, IsErrAnd, IsErrOf, OnOk, refl, sym, ◌∙◌, ap, subst, arith}
use Rattle.std.proofs.lemmas.Result.{err_from_is_err_and}
use Rattle.fp_host.specs.Paths.{Elements}
use Rattle.fp_host.specs.View.{View, IsTree}
use Rattle.fp_host.specs.Outcome.{Disk, Nothing, shows}
use Rattle.fp_host.specs.Causes.{IsCaused}
use Rattle.fp_host.specs.Frame.{Frame, AtEnd, NoPath, NoName}
use Rattle.fp_host.specs.Moments.{Moments, Goes, Always}
use Rattle.fp_host.specs.declared.host.HostEnd.{HostEnd}
use Rattle.fp_host.specs.declared.host.HostEnd.TheVariants as host
use Rattle.fp_host.proofs.Cause.{Rose-later}
use Rattle.fp_host.proofs.Ending.{ends_goes, ends_on, goes_known}
use Rattle.fp_host.proofs.Framed.{IsTold}
use Rattle.fp_host.proofs.Goes.{begins, goes_on}
use Rattle.fp_small.specs.Places.{repo}
use Rattle.fp_small.specs.declared.state.State.{State}
use Rattle.fp_small.proofs.Keeping.{files_on}
use Rattle.fp_small.proofs.Sharing.{shares_on, shares_to}
use Rattle.ost_model.specs.Objects.{store}
use Rattle.ost_store.proofs.Creating.{creates_on}
use Rattle.ost_store.proofs.Staying.{same_shows}
use Rattle.dep_states.specs.Sound.{IsSound, Opens}
use Rattle.dep_states.proofs.Linked.{links_still, links_on}
use Rattle.dep_states.proofs.Single.{one_state}
use Rattle.dep_open.specs.Open.{IsOpened, Opened}
use Rattle.dep_open.specs.declared.open_end.OpenEnd.TheVariants as open_ends
use Rattle.fl_export.specs.Exported.{exported}
use Rattle.fl_export.specs.Placed.{ExportsAre}
use Rattle.fl_export.specs.Steps.{exported_in, Refreshes, WasRefreshed}
use Rattle.fl_change.specs.Ends.{end_of_host}
use Rattle.fl_change.specs.declared.end.RunEnd.{RunEnd}
use Rattle.fl_change.specs.declared.end.RunEnd.TheVariants as run
use Rattle.fl_change.proofs.Same.{same_opens}
use Rattle.fl_top.specs.Exports.{RefreshesShown, RefreshedShown, IsHostEnd}
use Rattle.fl_top.specs.Return.{IsGivenBy}
use Rattle.fl_top.proofs.Opening.{goes_keeping}
use Rattle.fl_top.proofs.Over.{not_shown}
use Rattle.fl_top.proofs.Starting.{Keeping}

-- ---- nothing changed yet

kept_refreshes : {s : State} {u w : View} → Keeping u w → Refreshes s u w
kept_refreshes keeping = record {
  opens = same_opens keeping.follows;
  names = λ q. inl (keeping.names q);
  idle = λ opens are q. keeping.names q;
  unwritten = λ opens are. keeping.empty;
  files = keeping.files;
  links = links_still keeping.names;
  printed = keeping.printed;
}

kept_shown : {u w : View} → Keeping u w → RefreshesShown u w
kept_shown keeping = record { names = λ q. inl (keeping.names q); files = keeping.files; links = links_still keeping.names; printed = keeping.printed; refreshes = λ s at. kept_refreshes keeping }

-- ---- it was opened, and then refreshed

module _ {s : State} {u v w : View} (before : IsTree u) (tree : IsTree v) (keeping : Keeping u v) (step : Refreshes s v w) where
  seen : (q : Elements) → shows v q ≡ shows u q
  seen q = same_shows before tree keeping.files q (keeping.names q)

  are_on : ExportsAre (exported_in s u) (shows u) → ExportsAre (exported_in s v) (shows v)
  are_on are = subst (λ (disk : Disk). ExportsAre (exported (store repo disk) s) disk) (λ k q. (sym (seen q)) k) are

  then_refreshes : Refreshes s u w
  then_refreshes = record {
    opens = λ opens. step.opens (same_opens keeping.follows opens);
    names = λ q. elim (step.names q) [ inl same ↦ inl (same ∙ keeping.names q) | inr may ↦ inr may ];
    idle = λ opens are q. step.idle (same_opens keeping.follows opens) (are_on are) q ∙ keeping.names q;
    unwritten = λ opens are. shares_on keeping.empty (step.unwritten (same_opens keeping.follows opens) (are_on are)) step.files;
    files = files_on keeping.files step.files;
    links = links_on (links_still keeping.names) step.links step.files;
    printed = step.printed ∙ keeping.printed;
  }

  then_shown : IsOpened s u v → RefreshesShown u w
  then_shown opened = record {
    names = then_refreshes.names;
    files = then_refreshes.files;
    links = then_refreshes.links;
    printed = then_refreshes.printed;
    refreshes = λ t at. subst (λ (z : State). Refreshes z u w) (one_state (shows u) s t opened.shown at) then_refreshes;
  }

  then_refreshed : IsOpened s u v → WasRefreshed s v w → RefreshedShown u w
  then_refreshed opened was t at = subst (λ (z : State). WasRefreshed z u w) (one_state (shows u) s t opened.shown at) (record {
    exports_are = was.exports_are;
    lasts = was.lasts;
    work = λ q above. was.work q above ∙ keeping.names q;
    shares = shares_on (shares_to (λ q no. absurd no) keeping.empty) was.shares step.files;
    creates = creates_on keeping.creates was.creates keeping.files step.files;
  })

-- ---- the moments

-- it was opened
abbrev Begun : State → View → View → Type 0
Begun s u v = IsTree u × Keeping u v × IsOpened s u v

module _ {a b : Option Moments} (known : IsTold a) (frame : Frame Nothing NoName NoPath a b) where
  pub goes_no_further : Always RefreshesShown a b
  goes_no_further = begins known (goes_keeping known frame) (λ u w t r. kept_shown r) (λ u w t r q. kept_shown q)

  module _ {c : Option Moments} {s : State} (known_b : IsTold b) (tells : AtEnd (IsOpened s) a b) (steps : Always (Refreshes s) b c) where
    opening : Goes a b RefreshesShown (Begun s)
    opening = begins known (goes_known (goes_keeping known frame) tells) (λ u w t r. kept_shown r) (λ u w t r q. (t, q.0, q.1))

    pub goes_opened : Always RefreshesShown a c
    goes_opened = goes_on known_b opening steps (λ u v w tree p q step. then_shown q.0 tree q.1 step q.2) (λ u v w tree p q step last. then_shown q.0 tree q.1 step q.2)

    pub ends_opened : {T : Type 0} (r : Result T HostEnd) → OnOk r (AtEnd (WasRefreshed s) b c) → OnOk r (AtEnd RefreshedShown a c)
    ends_opened (Ok t) end = ends_on (ends_goes known_b (goes_known steps end)) (ends_goes known opening) known_b (λ u v w tree q last. then_refreshed q.0 tree q.1 last.0 q.2 last.1)
    ends_opened (Err e) end = tt

-- no state is shown
pub ends_damaged : {a b : Option Moments} {path : Elements} → AtEnd (Opened (Err (open_ends.Damaged path))) a b → AtEnd RefreshedShown a b
ends_damaged tells = record {
  goes = record {
    untold = tells.goes.untold;
    told = λ m is. let one = tells.goes.told m is in (one.0, one.1, one.2, λ s at. absurd (not_shown one.3 s at));
  };
}

-- ---- the cause of a fault

pub caused_opened : {a b : Option Moments} {s : State} {F : Type 0} (before between now : ℕ) → before ≤ between → AtEnd (IsOpened s) a b → IsCaused F b (Opens s) between now → IsCaused F a IsSound before now
caused_opened before between now later tells cause = record {
  later = omega (arith, later, cause.later);
  fault = λ is m told sound. let opened = tells.goes.told m told in Rose-later before between now later (cause.fault is opened.0 opened.1 (opened.3.opens sound));
}

pub caused_opening : {a : Option Moments} {F G : Type 0} {before now : ℕ} → IsCaused F a (λ v. Unit {0}) before now → (G → F) → IsCaused G a IsSound before now
caused_opening cause passes = record { later = cause.later; fault = λ is m told sound. cause.fault (passes is) m told tt }

-- of other work, over what it needs
pub caused_as : {a : Option Moments} {F G : Type 0} {P Q : View → Type 0} {before now : ℕ} → IsCaused F a P before now → (G → F) → ((v : View) → Q v → P v) → IsCaused G a Q before now
caused_as cause passes needs = record { later = cause.later; fault = λ is m told q. cause.fault (passes is) m told (needs m.now q) }

-- where no call is made
pub caused_by_none : {a : Option Moments} {G : Type 0} {Q : View → Type 0} {n : ℕ} → (G → ⊥) → IsCaused G a Q n n
caused_by_none none = record { later = omega arith; fault = λ is. absurd (none is) }

-- ---- the end of a `?`

pub host_ended : (r : Result (Unit {0}) RunEnd) (e : HostEnd) → IsErrAnd r (λ end. end ≡ end_of_host e) → IsHostEnd r
host_ended r e is = by e (let p = err_from_is_err_and r is in p.1 ∙ ap (λ (x : RunEnd). Err x) p.2)
  where
    by : (e : HostEnd) → r ≡ Err (end_of_host e) → IsHostEnd r
    by host.Fault was = inl was
    by host.NoMemory was = inr was

pub not_given : {r : Result (Unit {0}) RunEnd} → IsHostEnd r → IsGivenBy r → ⊥
not_given failed given = elim failed [ inl is ↦ subst IsGivenBy is given | inr is ↦ subst IsGivenBy is given ]

-- a fault there is the host's
pub host_fault : {T : Type 0} (o : Result T HostEnd) (r : Result (Unit {0}) RunEnd) (e : HostEnd) → o ≡ Err e → IsErrAnd r (λ end. end ≡ end_of_host e) → IsErrOf r run.Fault → IsErrOf o host.Fault
host_fault o r e was is fault = was ∙ ap (λ (x : HostEnd). Err x) (by e (let p = err_from_is_err_and r is in let both : Err (end_of_host e) ≡ Err run.Fault = sym (p.1 ∙ ap (λ (x : RunEnd). Err x) p.2) ∙ fault in cc both))
  where
    by : (e : HostEnd) → end_of_host e ≡ run.Fault → e ≡ host.Fault
    by host.Fault same = refl
    by host.NoMemory same = absurd (cc same)
