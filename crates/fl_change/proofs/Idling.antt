-- An update of all that has nothing to do, over an installation that isn't tidied.
use Rattle.std.proofs.Common.{◌≡◌, inr, inl, List, Bool, true, Option, Some, Result, Ok, Err, IsErrOf, refl, sym, ◌∙◌, subst}
use Rattle.fp_host.specs.Causes.{IsCounted}
use Rattle.fp_host.specs.Frame.{Unchanged}
use Rattle.fp_host.specs.Remote.{Holdings}
use Rattle.fp_host.specs.View.{View}
use Rattle.fp_host.proofs.Framed.{IsTold}
use Rattle.fp_small.specs.declared.refusal.Refusal.{Refusal}
use Rattle.fp_small.specs.declared.state.Layout.TheVariants.{Two}
use Rattle.fp_small.specs.declared.state.State.{State}
use Rattle.ost_walk.specs.Ends.{Outside, IsRemotes}
use Rattle.dep_states.specs.After.{HasOrder}
use Rattle.dep_states.specs.Deployed.{platform}
use Rattle.dep_states.specs.Sound.{Opens}
use Rattle.fl_words.specs.declared.command.Change.{Change}
use Rattle.fl_change.specs.Current.{updates_all, are_as_offered}
use Rattle.fl_change.specs.Performs.{AsksBy, Acts}
use Rattle.fl_change.specs.Turns.{changing, MayDo}
use Rattle.fl_change.specs.World.{world_at}
use Rattle.fl_change.specs.declared.end.RunEnd.{RunEnd}
use Rattle.fl_change.specs.declared.end.RunEnd.TheVariants.{Refused, Fault, RemoteFault, NoMemory}
use Rattle.fl_change.proofs.Acting.{ready_nothing, ready_halted, ready_looked, ready_host_failed, ready_remote_failed}
use Rattle.fl_change.proofs.Targets.{may_bring}
use Rattle.fl_change.proofs.Updates.{all_asked, all_is_nothing}
use Rattle.fl_change.proofs.Working.{Looked}

-- what was looked at before
pub record Peeks (result : Result Bool RunEnd) (u v : Outside) : Type 0 where
  pub still : Unchanged u.told v.told
  pub same : v.holdings ≡ u.holdings
  pub unrefused : (refusal : Refusal) → result ≡ Err (Refused refusal) → ⊥
  pub host : IsCounted (IsErrOf result Fault) u.told u.host_faults v.host_faults
  pub remote : IsRemotes (IsErrOf result RemoteFault) u.remote_faults v.remote_faults

stays_open : (s : State) (x : View) → Opens s x → Opens s x
stays_open s x opens = opens

module _ (changes : List Change) (s : State) (all : updates_all changes ≡ true) where
  asks : AsksBy (MayDo changes)
  asks = subst (λ (l : List Change). AsksBy (MayDo l)) (sym (all_asked changes all)) (let one = may_bring platform in (one.0, inr (inl one.1), one.2))

  looked_at : {result : Result Bool RunEnd} {u v : Outside} → Peeks result u v → Looked (MayDo changes) u v
  looked_at peeks = record { still = peeks.still; same = peeks.same; host = peeks.host.later; remote = peeks.remote.later; unasked = λ none. absurd (none asks) }

  -- the look failed
  pub idle_fails : (e : RunEnd) {before : Bool} {u v : Outside} → IsTold v.told → Peeks (Err e) u v → Acts (Opens s) (MayDo changes) (changing changes) s before before (Err e) u v
  idle_fails (Refused refusal) told peeks = absurd (peeks.unrefused refusal refl)
  idle_fails Fault told peeks = ready_host_failed (stays_open s) (changing changes) (looked_at peeks) (λ m is. peeks.host.fault refl m is tt)
  idle_fails RemoteFault told peeks = ready_remote_failed (stays_open s) (changing changes) asks (looked_at peeks) (peeks.remote.rose refl)
  idle_fails NoMemory told peeks = ready_looked (stays_open s) (changing changes) told (looked_at peeks) (ready_halted (stays_open s) (changing changes) told)

  -- each ref stands at what its remote offers
  abbrev pub AllOffered : Option Holdings → Type 0
  AllOffered holds = (held : Holdings) → holds ≡ Some held → (s.layout ≡ Two) × (are_as_offered held s ≡ true)

  pub idle_stays : {result : Result Bool RunEnd} {before : Bool} {u v : Outside} → HasOrder s → IsTold v.told → Peeks result u v → AllOffered u.holdings → Acts (Opens s) (MayDo changes) (changing changes) s before before (Ok s) u v
  idle_stays order told peeks offered = ready_looked (stays_open s) (changing changes) told (looked_at peeks)
      (ready_nothing (stays_open s) (changing changes) told (λ x first held known opens.
      let at = offered held (sym peeks.same ∙ known) in all_is_nothing held changes (world_at s x) all at.0 order at.1))

  -- it goes on after the look
  pub idle_goes_on : {result : Result Bool RunEnd} {r : Result State RunEnd} {before now : Bool} {u v w : Outside} → IsTold v.told → Peeks result u v → Acts (Opens s) (MayDo changes) (changing changes) s before now r v w → Acts (Opens s) (MayDo changes) (changing changes) s before now r u w
  idle_goes_on told peeks acts = ready_looked (stays_open s) (changing changes) told (looked_at peeks) acts
