-- A take counts, tells nothing of what is left, and has its trait's bound from its own clause.
use Rattle.fp_realinput.proofs.Causes.{taken_cause, untold_takes}
use Rattle.fp_realinput.proofs.stdin_source.StdinSourceSource.TheImpl.Goals as goal

pub take-tells : goal.take-tells
take-tells g c = record {
  takes = untold_takes;
  within = c.ensures.within;
  later = c.ensures.counts.later;
  failed = taken_cause c.ensures.counts;
}
