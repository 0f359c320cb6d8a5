use Rattle.fp_memhost.specs.Images.{opened}
use Rattle.fp_memhost.specs.Scenes.{seen}
use Rattle.fp_memhost.proofs.Beginning.{no_steps, no_numbers, no_trees}
use Rattle.fp_memhost.proofs.history.History.new.Goals as goal

pub invariant_of-result : goal.invariant_of-result
invariant_of-result c = record {
  agrees = no_steps (opened c.args.start) (seen c.args.scene) c.new-log.result.items c.new-log.ensures.items c.requires.same;
  numbered = no_numbers c.new-log.result.items c.new-log.ensures.items;
  trees = no_trees (opened c.args.start) c.new-log.result.items c.new-log.ensures.items c.requires.tree;
}
