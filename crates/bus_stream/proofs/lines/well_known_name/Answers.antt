use Rattle.std.proofs.Common.{rules}
use Rattle.bus_stream.proofs.Names.{IsUtf8-from_well_known}
use Rattle.bus_stream.proofs.lines.well_known_name.Goals as goal

pub returns-in-Err : goal.returns-in-Err
returns-in-Err c = absurd (c.in-Err.ensures.cases.0 (IsUtf8-from_well_known c.args.bytes.now (search rules)))
