use Rattle.std.proofs.Common.{◌≡◌, Err, Some, sym, subst, arith}
use Rattle.std.specs.Prelude.{IsErrOf}
use Rattle.fp_host.proofs.Ending.{ends_both, ends_goes}
use Rattle.fp_small.specs.Clear.{CanClear}
use Rattle.ost_walk.specs.PullEnds.{RefusesBy}
use Rattle.ost_walk.proofs.Ended.{remotes_on}
use Rattle.ost_walk.specs.declared.pull_end.PullEnd.{PullEnd}
use Rattle.ost_walk.specs.declared.pull_end.PullEnd.TheVariants as ends
use Rattle.ost_pull.specs.Placing.{CanStore}
use Rattle.ost_pull.specs.Pulls.{CanPull, first_refusal}
use Rattle.ost_pull.proofs.Kept.{works_clear, works_within}
use Rattle.ost_pull.proofs.Taken.{passed, caused_later, no_fault, no_remotes}
use Rattle.ost_pull.proofs.Whole.{soundly_works, soundly_stores, pulled_at, can_store, can_clear, refused_at, walk_refused, none_refused, host_refuses, host_no_refusal, host_no_remote, host_is_fault, walk_is_fault, walk_is_remote}
use Rattle.ost_pull.proofs.pulling.pull_by.Goals as goal

pub returns-in-Ok-store_kept : goal.returns-in-Ok-store_kept
returns-in-Ok-store_kept g c =
    let t = g.met.H.Host.is_tree in
    record {
      same = c.gather.ensures.same;
      any_moment =
          soundly_stores c.requires c.gather.new.kept.items (t c.args.host.now) (t c.gather.new.host) c.gather.ensures.any_moment c.in-Ok.ensures.on_success
          (c.store_kept.ensures.any_moment c.args.url.now (g.R.Remotes.holds c.args.remotes.now));
      on_success = λ have s trusted.
          pulled_at c.requires c.gather.new.kept.items (t c.args.host.now) (t c.gather.new.host) (t c.store_kept.new.host) s c.gather.ensures.any_moment c.in-Ok.ensures.on_success c.in-Ok.ensures.gathers (c.in-Ok.ensures.covers have s) (c.in-Ok.ensures.refuses have s trusted)
          (c.in-Ok-store_kept.ensures.on_success c.args.url.now (g.R.Remotes.holds c.args.remotes.now));
      refuses = λ have s trusted. none_refused have c.args.commit.now (c.in-Ok.ensures.refuses have s trusted);
      refused_unchanged = λ r is. absurd (cc is);
      remote_fault_unchanged = λ is. absurd (cc is);
      fault_has_cause =
          let cause = c.store_kept.ensures.fault_has_cause c.args.url.now (g.R.Remotes.holds c.args.remotes.now) in
          no_fault (λ is. absurd (cc is)) (omega (arith, c.gather.ensures.fault_has_cause.later, cause.later));
      remote_fault_has_cause = no_remotes (λ is. absurd (cc is)) c.gather.ensures.remote_fault_has_cause.later;
    }

pub returns-in-Ok : goal.returns-in-Ok
returns-in-Ok g c =
    let t = g.met.H.Host.is_tree in
    let holds = g.R.Remotes.holds c.args.remotes.now in
    record {
      same = c.gather.ensures.same;
      any_moment =
          soundly_stores c.requires c.gather.new.kept.items (t c.args.host.now) (t c.gather.new.host) c.gather.ensures.any_moment c.in-Ok.ensures.on_success
          (c.store_kept.ensures.any_moment c.args.url.now (g.R.Remotes.holds c.args.remotes.now));
      on_success = λ have s trusted. tt;
      refuses = λ have s trusted. let first = first_refusal have c.args.commit.now in subst (RefusesBy (λ r. first ≡ Some r)) (sym c.from.ensures) (host_refuses (λ r. first ≡ Some r) c.in-Err-store_kept.end);
      refused_unchanged = λ r is. absurd (host_no_refusal c.in-Err-store_kept.end r (subst (λ (e : PullEnd). IsErrOf {T = Unit {0}} (Err e) (ends.Refused r)) c.from.ensures is));
      remote_fault_unchanged = λ is. absurd (host_no_remote c.in-Err-store_kept.end (subst (λ (e : PullEnd). IsErrOf {T = Unit {0}} (Err e) ends.RemoteFault) c.from.ensures is));
      fault_has_cause =
          passed (CanPull c.args.root.now c.args.work.now) (CanStore c.args.root.now c.args.work.now c.args.url.now holds c.gather.new.kept.items) (t c.args.host.now) c.gather.ensures.fault_has_cause.later
          (ends_both (ends_goes (t c.args.host.now) c.gather.ensures.any_moment) c.in-Ok.ensures.on_success) (c.in-Err-store_kept.ensures.fault_has_cause c.args.url.now holds)
          (λ is. host_is_fault c.in-Err-store_kept.end (subst (λ (e : PullEnd). IsErrOf {T = Unit {0}} (Err e) ends.HostFault) c.from.ensures is)) (λ u v tree q can. can_store c.requires q.0 q.1 can);
      remote_fault_has_cause = no_remotes (λ is. host_no_remote c.in-Err-store_kept.end (subst (λ (e : PullEnd). IsErrOf {T = Unit {0}} (Err e) ends.RemoteFault) c.from.ensures is)) c.gather.ensures.remote_fault_has_cause.later;
    }

pub returns-in-Ok-clear : goal.returns-in-Ok-clear
returns-in-Ok-clear g c =
    let t = g.met.H.Host.is_tree in
    record {
      same = c.gather.ensures.same;
      any_moment = soundly_works c.requires (t c.args.host.now) (works_within (t c.gather.new.host) (works_clear (t c.gather.new.host) c.clear.ensures.frame) c.gather.ensures.any_moment);
      on_success = λ have s trusted. tt;
      refuses = λ have s trusted.
          let first = first_refusal have c.args.commit.now in
          subst (λ (e : PullEnd). RefusesBy (λ r. first ≡ Some r) e) (sym c.from-in-Ok-clear.ensures) (walk_refused have c.args.commit.now c.in-Err.end (c.in-Err.ensures.refuses have s trusted));
      refused_unchanged = λ r is. refused_at (t c.args.host.now) (t c.gather.new.host) c.gather.ensures.any_moment c.clear.ensures.frame c.in-Ok-clear.ensures.on_success;
      remote_fault_unchanged = λ is. refused_at (t c.args.host.now) (t c.gather.new.host) c.gather.ensures.any_moment c.clear.ensures.frame c.in-Ok-clear.ensures.on_success;
      fault_has_cause = caused_later (λ is. walk_is_fault c.in-Err.end (subst (λ (e : PullEnd). IsErrOf {T = Unit {0}} (Err e) ends.HostFault) c.from-in-Ok-clear.ensures is)) c.clear.ensures.fault_has_cause.later c.in-Err.ensures.fault_has_cause;
      remote_fault_has_cause = remotes_on (λ is. walk_is_remote c.in-Err.end (subst (λ (e : PullEnd). IsErrOf {T = Unit {0}} (Err e) ends.RemoteFault) c.from-in-Ok-clear.ensures is)) c.in-Err.ensures.remote_fault_has_cause;
    }

pub returns : goal.returns
returns g c =
    let t = g.met.H.Host.is_tree in
    record {
      same = c.gather.ensures.same;
      any_moment = soundly_works c.requires (t c.args.host.now) (works_within (t c.gather.new.host) (works_clear (t c.gather.new.host) c.clear.ensures.frame) c.gather.ensures.any_moment);
      on_success = λ have s trusted. tt;
      refuses = λ have s trusted. let first = first_refusal have c.args.commit.now in subst (RefusesBy (λ r. first ≡ Some r)) (sym c.from-in-Err-clear.ensures) (host_refuses (λ r. first ≡ Some r) c.in-Err-clear.fault);
      refused_unchanged = λ r is. absurd (host_no_refusal c.in-Err-clear.fault r (subst (λ (e : PullEnd). IsErrOf {T = Unit {0}} (Err e) (ends.Refused r)) c.from-in-Err-clear.ensures is));
      remote_fault_unchanged = λ is. absurd (host_no_remote c.in-Err-clear.fault (subst (λ (e : PullEnd). IsErrOf {T = Unit {0}} (Err e) ends.RemoteFault) c.from-in-Err-clear.ensures is));
      fault_has_cause =
          passed (CanPull c.args.root.now c.args.work.now) (CanClear c.args.work.now) (t c.args.host.now) c.gather.ensures.fault_has_cause.later (ends_goes (t c.args.host.now) c.gather.ensures.any_moment) c.in-Err-clear.ensures.fault_has_cause
          (λ is. host_is_fault c.in-Err-clear.fault (subst (λ (e : PullEnd). IsErrOf {T = Unit {0}} (Err e) ends.HostFault) c.from-in-Err-clear.ensures is)) (λ u v tree works can. can_clear c.requires works can);
      remote_fault_has_cause = no_remotes (λ is. host_no_remote c.in-Err-clear.fault (subst (λ (e : PullEnd). IsErrOf {T = Unit {0}} (Err e) ends.RemoteFault) c.from-in-Err-clear.ensures is)) c.gather.ensures.remote_fault_has_cause.later;
    }
