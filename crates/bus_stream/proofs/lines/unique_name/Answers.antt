use Rattle.std.proofs.Common.{rules}
use Rattle.bus_stream.proofs.Names.{IsUtf8-from_unique}
use Rattle.bus_stream.proofs.lines.unique_name.Goals as goal

pub returns-in-Err : goal.returns-in-Err
returns-in-Err c = absurd (c.in-Err.ensures.cases.0 (IsUtf8-from_unique c.args.bytes.now (search rules)))
