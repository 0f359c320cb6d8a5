use Rattle.std.proofs.Common.{map, ap, ◌∙◌}
use Rattle.fl_context.specs.Latest.{mention_at}
use Rattle.fl_context.proofs.Merging.{mentions-insert}
use Rattle.fl_context.proofs.latest.take_mention.Goals as goal

pub returns : goal.returns
returns c = ap (map mention_at) c.in_ok-insert.ensures.entries ∙ mentions-insert c.args.latest.now.entries _ _
