use Rattle.std.proofs.Common.{Ok, subst}
use Rattle.fp_host.specs.Reads.{StatOf}
use Rattle.fp_host.specs.declared.host.Stat.{Stat}
use Rattle.fp_host.proofs.Looking.{looks_start, looks_stat}
use Rattle.fp_host.proofs.Ending.{ends_call, ends_to}
use Rattle.fp_small.proofs.Making.{stat_absent, stat_there}
use Rattle.ost_export.proofs.staging.is_absent.Goals as goal

pub returns-in_err-stat-clause-unchanged : goal.returns-in_err-stat-clause-unchanged
returns-in_err-stat-clause-unchanged g c = let t = g.met.H.Host.is_tree in looks_stat c.stat.ensures.step (looks_start (t c.args.host.now)) (t c.args.host.now)

pub returns-in-Absent-clause-unchanged : goal.returns-in-Absent-clause-unchanged
returns-in-Absent-clause-unchanged g c = let t = g.met.H.Host.is_tree in looks_stat c.stat.ensures.step (looks_start (t c.args.host.now)) (t c.args.host.now)

pub returns-in-Absent-clause-tells : goal.returns-in-Absent-clause-tells
returns-in-Absent-clause-tells g c =
    let t = g.met.H.Host.is_tree in
    ends_to (ends_call (t c.args.host.now) c.in_ok-stat.ensures.step) (λ u w s. stat_absent (subst (λ (r : Stat). StatOf c.args.path.now (Ok r) u w) c.in-Absent.is s))

pub returns-in_default : goal.returns-in_default
returns-in_default g c =
    let t = g.met.H.Host.is_tree in
    record {
      unchanged = looks_stat c.stat.ensures.step (looks_start (t c.args.host.now)) (t c.args.host.now);
      tells = ends_to (ends_call (t c.args.host.now) c.in_ok-stat.ensures.step) (λ u w s none. stat_there s c.in_default.not-Absent none);
      fault_has_cause = record { later = c.stat.ensures.fault_has_cause.later; fault = λ is. absurd (cc is) };
    }
