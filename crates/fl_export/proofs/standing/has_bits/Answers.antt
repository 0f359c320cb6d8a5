use Rattle.std.proofs.Common.{Ok, subst}
use Rattle.fp_host.specs.Reads.{StatOf}
use Rattle.fp_host.proofs.Looking.{looks_start, looks_stat}
use Rattle.fl_export.proofs.Tested.{tells_of, bits_told, no_bits_told}
use Rattle.fl_export.proofs.standing.has_bits.Goals as goal

pub returns-in_err-mode-clause-unchanged : goal.returns-in_err-mode-clause-unchanged
returns-in_err-mode-clause-unchanged g c = let t = g.met.H.Host.is_tree in looks_stat c.stat.ensures.step (looks_start (t c.args.host.now)) (t c.args.host.now)

pub returns-in-File-clause-unchanged : goal.returns-in-File-clause-unchanged
returns-in-File-clause-unchanged g c = let t = g.met.H.Host.is_tree in looks_stat c.stat.ensures.step (looks_start (t c.args.host.now)) (t c.args.host.now)

pub returns-in-File-clause-tells : goal.returns-in-File-clause-tells
returns-in-File-clause-tells g c = tells_of (g.met.H.Host.is_tree c.args.host.now) c.in_ok-mode.ensures.step (λ u w tree s. bits_told tree c.args.place.now c.in-File.id c.in-File.mode c.in-File.size (subst (λ r. StatOf c.args.place.now (Ok r) u w) c.in-File.is s))

pub returns-in_default : goal.returns-in_default
returns-in_default g c =
    let t = g.met.H.Host.is_tree in
    record {
      unchanged = looks_stat c.stat.ensures.step (looks_start (t c.args.host.now)) (t c.args.host.now);
      tells = tells_of (t c.args.host.now) c.in_ok-mode.ensures.step (λ u w tree s. no_bits_told tree c.args.place.now c.in_ok-mode.field-0 (λ id mode size is. c.in_default.not-File id mode size is) s);
      fault_has_cause = record { later = c.stat.ensures.fault_has_cause.later; fault = λ is. absurd (cc is) };
    }
