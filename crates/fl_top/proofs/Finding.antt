-- The launch of an application, which is found over what the image gives.
use Rattle.std.proofs.Common.{◌≡◌, inl, [], Option, Result, Ok, Err, IsErrAnd, refl, sym, ◌∙◌, ap, subst}
use Rattle.fp_host.specs.View.{View}
use Rattle.fp_host.specs.Outcome.{Disk, shows}
use Rattle.fp_host.specs.Moments.{Moments, Goes}
use Rattle.fp_host.specs.Frame.{AtEnd, Unchanged}
use Rattle.fp_host.specs.declared.host.HostEnd.{HostEnd}
use Rattle.fp_host.specs.declared.host.HostEnd.TheVariants as host
use Rattle.fp_host.proofs.Framed.{IsTold}
use Rattle.fp_host.proofs.Goes.{ends, goes_on, knowing}
use Rattle.fp_host.proofs.Ending.{goes_known}
use Rattle.fp_name.specs.Refs.{Ref}
use Rattle.fp_small.specs.declared.refusal.Refusal.{Refusal}
use Rattle.fp_small.specs.declared.state.State.{State}
use Rattle.dep_states.specs.Shown.{Shows}
use Rattle.dep_open.specs.Open.{Reads}
use Rattle.dep_open.specs.declared.open_end.OpenEnd.{OpenEnd}
use Rattle.dep_open.specs.declared.open_end.OpenEnd.TheVariants as open_end
use Rattle.fl_launch.specs.declared.launching.LaunchText.{LaunchText}
use Rattle.fl_installed.specs.Deployed.{DeployedFiles, Deploys, deployed_files}
use Rattle.fl_installed.specs.Launching.{launch_in}
use Rattle.fl_change.specs.World.{world_in}
use Rattle.fl_change.specs.Ends.{end_of_host, end_of_open}
use Rattle.fl_change.specs.declared.end.RunEnd.{RunEnd}
use Rattle.fl_change.proofs.Working.{is_err}
use Rattle.fl_top.specs.Answer.{launch_over}
use Rattle.fl_top.specs.Telling.{IsFound, Finds}
use Rattle.fl_top.proofs.Stored.{HasFiles}
use Rattle.fl_top.proofs.Forwarding.{Looking}
use Rattle.fl_top.proofs.Over.{gives_world}

-- ---- the launch

not_opened : (files : DeployedFiles) (name : Ref) (e : OpenEnd) (u : View) → Reads u (Err e) → Finds (launch_over files name) (Err (end_of_open e)) (shows u)
not_opened files name (open_end.Damaged path) u is = inl (Err path, is, refl)
not_opened files name open_end.Fault u is = tt
not_opened files name open_end.NoMemory u is = tt

pub looks_unread : (files : DeployedFiles) (name : Ref) (e : OpenEnd) (r : Result LaunchText RunEnd) {a b : Option Moments} → Unchanged a b → AtEnd (λ u w. Reads u (Err e)) a b → IsErrAnd r (λ x. x ≡ end_of_open e) → Looking (launch_over files name) r a b
looks_unread files name e r {a = a} {b = b} still tell err =
    subst (λ (x : Result LaunchText RunEnd). Looking (launch_over files name) x a b) (sym (is_err r (end_of_open e) err))
    (record { goes = ends (goes_known still.goes tell) (λ u w q. (q.0.0, not_opened files name e u q.1)) })

by_host : (files : DeployedFiles) (name : Ref) (e : HostEnd) (disk : Disk) → Finds (launch_over files name) (Err (end_of_host e)) disk
by_host files name host.Fault disk = tt
by_host files name host.NoMemory disk = tt

pub looks_failed : (files : DeployedFiles) (name : Ref) (e : HostEnd) (r : Result LaunchText RunEnd) {a b c : Option Moments} → IsTold b → Unchanged a b → Unchanged b c → IsErrAnd r (λ x. x ≡ end_of_host e) → Looking (launch_over files name) r a c
looks_failed files name e r {a = a} {c = c} told still quiet err =
    subst (λ (x : Result LaunchText RunEnd). Looking (launch_over files name) x a c) (sym (is_err r (end_of_host e) err))
    (record { goes = goes_on told still.goes quiet.goes (λ u v w t p q n. n ∙ q.0) (λ u v w t p q n l. (l.0 ∙ q.0, by_host files name e (shows u))) })

module _ (files : DeployedFiles) (name : Ref) (s : State) (found : Result LaunchText Refusal) where
  abbrev over_files : View → Type 0
  over_files v = found ≡ launch_in (deployed_files (shows v)) s name []

  is_found : {u v : View} → v ≡ u → Shows (shows u) s → files ≡ deployed_files (shows u) → over_files v → IsFound (launch_over files name) found (shows u)
  is_found {u = u} same shown known is =
      inl (Ok (world_in s (shows u)), gives_world (shows u) s shown, ap (λ (f : DeployedFiles). launch_in f s name []) known ∙ sym (subst over_files same is))

  pub looks_launched : (r : Result LaunchText RunEnd) {a b c : Option Moments} → IsTold b → HasFiles a files → Unchanged a b → AtEnd (λ u w. Reads u (Ok s)) a b → Unchanged b c → ((others : DeployedFiles) → Deploys b others → found ≡ launch_in others s name [])
      → ((disk : Disk) → IsFound (launch_over files name) found disk → Finds (launch_over files name) r disk) → Looking (launch_over files name) r a c
  looks_launched r {a = a} {b = b} {c = c} told known still tell quiet tells gives =
      record { goes = goes_on told read launched (λ u v w t p q n. n ∙ q.0) (λ u v w t p q n l. (l.0 ∙ q.0, gives (shows u) (is_found q.0 q.1.0 q.1.1 l.1))) }
    where
      read : Goes a b (λ u w. w ≡ u) (λ u w. (w ≡ u) × (Shows (shows u) s × (files ≡ deployed_files (shows u))))
      read = knowing {P = λ v. files ≡ deployed_files (shows v)} known (goes_known still.goes tell) (λ u w k same. same) (λ u w k q. (q.0.0, (q.1, k)))

      launched : Goes b c (λ v w. w ≡ v) (λ v w. (w ≡ v) × over_files v)
      launched = knowing {P = over_files} (λ m is. tells (deployed_files (shows m.now)) (record { moments = m; told_is = is; is = refl })) quiet.goes (λ v w k same. same) (λ v w k q. (q.0, k))
