-- Each call counts as the remotes below do, tells nothing of content, and has its trait's bounds from its own clauses.
use Rattle.std.proofs.Common.{refl}
use Rattle.std.proofs.lemmas.Option.{none-some}
use Rattle.fp_realinput.proofs.Causes.{remote_cause}
use Rattle.fpk_case_system.proofs.own_remotes.OwnRemotesRemotes.TheImpl.Goals as goal

pub node-tells : goal.node-tells
node-tells g c = record {
  same = refl;
  tells = λ held e. absurd (none-some held e);
  bits = c.ensures.bits;
  later = c.ensures.counts.later;
  failed = remote_cause c.ensures.counts;
}

pub read_at-tells : goal.read_at-tells
read_at-tells g c = record {
  same = refl;
  tells = λ held e. absurd (none-some held e);
  bound = c.ensures.bound;
  later = c.ensures.counts.later;
  failed = remote_cause c.ensures.counts;
  needs_no_memory = c.ensures.needs_no_memory;
}
