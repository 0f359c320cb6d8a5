use Rattle.std.proofs.Common.{[], ◌++◌, sym, subst}
use Rattle.fp_base.proofs.Lists.{all_append}
use Rattle.fl_override.specs.Written.{CanWrite}
use Rattle.fl_override.specs.Overrides.{AllCanWrite}
use Rattle.fl_override.proofs.Sets.{last_written}
use Rattle.fl_override.proofs.override_set.OverrideSet.change.Goals as goal

pub invariant_of-self : goal.invariant_of-self
invariant_of-self c =
    let old : AllCanWrite c.as_layer.result.now = subst AllCanWrite (sym c.as_layer.ensures.mentions) c.self.invariant in
    let options = c.args.options.now in
    last_written c.in_ok-mentions.mentions _ c.in_ok-mentions.ensures.ascending c.in_ok-mentions.ensures.last
    (all_append CanWrite c.as_layer.result.now (options ++ []) old (all_append CanWrite options [] c.requires tt))
