use Rattle.std.proofs.Common.{◌∙◌, sym}
use Rattle.fp_small.proofs.ConfigReads.{config_parts}
use Rattle.fp_small.proofs.config_reading.settings_of.Goals as goal

pub pins_of-requires : goal.pins_of-requires
pins_of-requires c = (config_parts c.args.groups.now (sym c.is_config.ensures ∙ c.if-not-is_config.false)).parts
