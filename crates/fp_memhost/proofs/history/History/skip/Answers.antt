use Rattle.fp_memhost.proofs.Logging.{numbered_skip}
use Rattle.fp_memhost.proofs.history.History.skip.Goals as goal

pub invariant_of-self : goal.invariant_of-self
invariant_of-self c = let h = c.saturating_add-self.ensures in
    record { agrees = c.args.self.now.agrees; numbered = numbered_skip c.args.self.now.calls _ _ h c.args.self.now.numbered; trees = c.args.self.now.trees }
