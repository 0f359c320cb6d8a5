use Rattle.std.proofs.Common.{inl, inr, Ok, refl, subst}
use Rattle.fp_host.specs.Reads.{StatOf}
use Rattle.fp_host.proofs.Looking.{looks_start, looks_stat}
use Rattle.fp_host.proofs.Ending.{ends_call, ends_to}
use Rattle.ost_refs.proofs.Stats.{stat_is_file, stat_of_file}
use Rattle.ost_refs.proofs.listing.add_place.Goals as goal

pub returns-in_err-stat-clause-unchanged : goal.returns-in_err-stat-clause-unchanged
returns-in_err-stat-clause-unchanged g c = let t = g.met.H.Host.is_tree in looks_stat c.stat.ensures.step (looks_start (t c.args.host.now)) (t c.args.host.now)

pub returns-in_err-put_place-in-File-clause-unchanged : goal.returns-in_err-put_place-in-File-clause-unchanged
returns-in_err-put_place-in-File-clause-unchanged g c = let t = g.met.H.Host.is_tree in looks_stat c.stat.ensures.step (looks_start (t c.args.host.now)) (t c.args.host.now)

pub returns-in_ok-put_place-in-File-clause-unchanged : goal.returns-in_ok-put_place-in-File-clause-unchanged
returns-in_ok-put_place-in-File-clause-unchanged g c = let t = g.met.H.Host.is_tree in looks_stat c.stat.ensures.step (looks_start (t c.args.host.now)) (t c.args.host.now)

pub returns-in_ok-put_place-in-File-clause-tells : goal.returns-in_ok-put_place-in-File-clause-tells
returns-in_ok-put_place-in-File-clause-tells g c =
    let t = g.met.H.Host.is_tree in
    ends_to (ends_call (t c.args.host.now) c.in_ok-stat.ensures.step) (λ u w s. inl (stat_is_file (subst (λ r. StatOf c.args.path.now (Ok r) u w) c.in-File.is s), c.in_ok-put_place-in-File.ensures))

pub returns-in_default : goal.returns-in_default
returns-in_default g c =
    let t = g.met.H.Host.is_tree in
    record {
      unchanged = looks_stat c.stat.ensures.step (looks_start (t c.args.host.now)) (t c.args.host.now);
      tells = ends_to (ends_call (t c.args.host.now) c.in_ok-stat.ensures.step) (λ u w s. inr (λ file. let is = stat_of_file s file in c.in_default.not-File is.0 is.1 is.2 is.3, refl));
      fault_has_cause = record { later = c.stat.ensures.fault_has_cause.later; fault = λ is. absurd (cc is) };
    }
