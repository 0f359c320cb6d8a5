use Rattle.fp_small.proofs.ConfigReads.{quoted_is}
use Rattle.fp_small.proofs.config_reading.quoted_name.Goals as goal

pub returns : goal.returns
returns c = let h = c.in_ok-strip_prefix.ensures.cases in quoted_is c.args.header.now c.in_ok-strip_prefix.field-0.now c.strip_suffix.result (record { front = h.0; is = h.1; long = h.2 }) c.strip_suffix.ensures.cases
