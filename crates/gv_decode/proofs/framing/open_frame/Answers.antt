use Rattle.std.proofs.Common.{◌<◌, ◌-◌, ◌*◌, length, rules}
use Rattle.gv_value.specs.Framing.{offset_count, width_in}
use Rattle.gv_value.specs.Plans.{plan_shapes}
use Rattle.gv_decode.proofs.Tables.{many-not}
use Rattle.gv_decode.proofs.framing.open_frame.Goals as goal

pub returns-then-count-bytes-clause-offsets : goal.returns-then-count-bytes-clause-offsets
returns-then-count-bytes-clause-offsets c =
    let bytes = c.args.bytes.now in
    let count = offset_count (plan_shapes c.args.plans.now) in
    let many : length bytes < count = search rules in
    many-not (length bytes - count * width_in (length bytes)) count bytes many
