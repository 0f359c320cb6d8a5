use Rattle.std.proofs.Common.{◌≡◌, Err, Some, List, ℕ, refl, sym, subst, arith}
use Rattle.std.specs.Prelude.{IsErrOf}
use Rattle.std.proofs.lemmas.Result.{on_ok_weaker}
use Rattle.fp_host.proofs.Ending.{ends_start, ends_on, ends_both, ends_frame, ends_goes}
use Rattle.fp_small.specs.Clear.{CanClear}
use Rattle.fp_base.specs.declared.object.ObjKind.{ObjKind}
use Rattle.ost_walk.specs.declared.ends.WalkEnd.{WalkEnd}
use Rattle.ost_walk.specs.declared.ends.WalkEnd.TheVariants as ends
use Rattle.ost_walk.specs.declared.ends.WalkFault.{WalkFault}
use Rattle.ost_walk.specs.Ends.{RefusesBy}
use Rattle.ost_walk.specs.Surveys.{first_named, told_fault}
use Rattle.ost_pull.specs.Pulls.{CanPull}
use Rattle.ost_pull.specs.Takes.{AreTaken}
use Rattle.ost_store.specs.ObjectNames.{AreOpen}
use Rattle.ost_pull.proofs.Apart.{works_supplies}
use Rattle.ost_pull.proofs.Gathered.{gathered_anew}
use Rattle.ost_pull.proofs.Kept.{works_clear, works_within}
use Rattle.ost_pull.proofs.Taken.{passed, host_refuses, host_fault, host_remote, no_remotes, nothing_taken, cleared_open, taken_from}
use Rattle.ost_pull.proofs.Trusted.{trust_later}
use Rattle.ost_pull.proofs.gathering.gather.Goals as goal

pub returns-in-Ok : goal.returns-in-Ok
returns-in-Ok g c =
    let t = g.met.H.Host.is_tree in
    let root = c.args.root.now in
    let work = c.args.work.now in
    let holds = g.R.Remotes.holds c.args.remotes.now in
    record {
      any_moment = works_within (t c.clear.new.host) c.take_order.ensures.any_moment (works_clear (t c.args.host.now) c.clear.ensures.frame);
      same = c.take_order.ensures.same;
      on_success =
          on_ok_weaker c.take_order.result
          (λ stays. ends_on stays c.in-Ok.ensures.on_success (t c.clear.new.host) (λ u v w tree q s. s.on (subst (λ (l : List (List ℕ × ObjKind)). AreTaken root work c.args.url.now holds l v) (sym c.requires.empty) (nothing_taken q))))
          c.take_order.ensures.on_success;
      gathers =
          on_ok_weaker c.take_order.result
          (λ stays. ends_on (ends_both (ends_goes (t c.clear.new.host) c.take_order.ensures.any_moment) stays) (ends_both (ends_frame (t c.args.host.now) c.clear.ensures.frame) c.in-Ok.ensures.on_success) (t c.clear.new.host) (λ u v w tree first s. gathered_anew first.0 first.1 s.0 s.1.gathers))
          c.take_order.ensures.on_success;
      covers = λ have s.
          let from = works_supplies c.args.root.now c.args.work.now c.requires.apart (t c.args.host.now) (t c.clear.new.host) (works_clear (t c.args.host.now) c.clear.ensures.frame) refl s in
          on_ok_weaker c.take_order.result (λ covers. ends_on covers c.in-Ok.ensures.on_success (t c.clear.new.host) (λ u v w tree q s. s (nothing_taken q))) (c.take_order.ensures.covers have from c.requires.empty);
      refuses = λ have s trusted.
          c.take_order.ensures.refuses have (works_supplies root work c.requires.apart (t c.args.host.now) (t c.clear.new.host) (works_clear (t c.args.host.now) c.clear.ensures.frame) refl s)
          (taken_from c.in-Ok.ensures.on_success s.moments s.told_is (λ w q. subst (λ (l : List (List ℕ × ObjKind)). AreTaken root work c.args.url.now holds l w) (sym c.requires.empty) (nothing_taken q)))
          (trust_later c.requires.apart c.args.trust (t c.args.host.now) (t c.clear.new.host) (works_clear (t c.args.host.now) c.clear.ensures.frame) trusted);
      fault_has_cause =
          passed (CanPull c.args.root.now c.args.work.now) (AreOpen c.args.work.now) (t c.args.host.now) c.clear.ensures.fault_has_cause.later (ends_both (ends_frame (t c.args.host.now) c.clear.ensures.frame) c.in-Ok.ensures.on_success)
          c.take_order.ensures.fault_has_cause (λ is. is) (λ u v tree q can. cleared_open q.0 q.1 can);
      remote_fault_has_cause = c.take_order.ensures.remote_fault_has_cause;
    }

pub returns-in-Err : goal.returns-in-Err
returns-in-Err g c =
    let t = g.met.H.Host.is_tree in
    record {
      any_moment = works_clear (g.met.H.Host.is_tree c.args.host.now) c.clear.ensures.frame;
      same = refl {a = g.R.Remotes.holds c.args.remotes.now};
      on_success = tt;
      gathers = tt;
      covers = λ have s. tt;
      refuses = λ have s trusted. let refused = λ (w : WalkFault). first_named have c.args.commit.now ≡ Some (told_fault w) in subst (λ (e : WalkEnd). RefusesBy refused e) (sym c.walk_end.ensures) (host_refuses refused c.in-Err.end);
      fault_has_cause =
          passed (CanPull c.args.root.now c.args.work.now) (CanClear c.args.work.now) (t c.args.host.now) (omega arith) (ends_start (t c.args.host.now)) c.in-Err.ensures.fault_has_cause
          (λ is. host_fault c.in-Err.end (subst (λ (e : WalkEnd). IsErrOf {T = Unit {0}} (Err e) ends.HostFault) c.walk_end.ensures is)) (λ u v tree q can. subst (CanClear c.args.work.now) (sym q) can.clears);
      remote_fault_has_cause = no_remotes (λ is. host_remote c.in-Err.end (subst (λ (e : WalkEnd). IsErrOf {T = Unit {0}} (Err e) ends.RemoteFault) c.walk_end.ensures is)) (omega arith);
    }
