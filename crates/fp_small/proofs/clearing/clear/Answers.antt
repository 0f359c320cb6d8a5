use Rattle.std.proofs.Common.{ℕ, sym, subst}
use Rattle.std.proofs.lemmas.Result.{on_ok_weaker}
use Rattle.fp_host.proofs.Ending.{ends_to}
use Rattle.fp_small.specs.Clear.{Reaches, ReachesDown}
use Rattle.fp_small.proofs.Emptying.{reaches_down, most_reached}
use Rattle.fp_small.proofs.clearing.clear.Goals as goal

pub returns-clause-reach : goal.returns-clause-reach
returns-clause-reach g c = on_ok_weaker c.clear_within.result (λ r. ends_to r (λ u w s. most_reached (subst (λ (n : ℕ). Reaches c.args.path.now n u) c.levels_below.ensures s))) c.clear_within.ensures.reach

pub returns-clause-fault_has_cause : goal.returns-clause-fault_has_cause
returns-clause-fault_has_cause g c = record {
  later = c.clear_within.ensures.fault_has_cause.later;
  fault = λ is m told can. c.clear_within.ensures.fault_has_cause.fault is m told (subst (λ (n : ℕ). ReachesDown c.args.path.now n m.now) (sym c.levels_below.ensures) (reaches_down can));
}
