use Rattle.std.proofs.Common.{drop, flat_map}
use Rattle.gv_value.specs.Bytes.{le_bytes}
use Rattle.gv_encode.proofs.Steps.{Coming}
use Rattle.gv_encode.proofs.framing.append_offsets.Given as goal

abbrev pub invariant-loop-offset : goal.invariant-loop-offset
invariant-loop-offset l = Coming l.fn.out.items (flat_map (le_bytes l.size) l.offsets) l.out.items (flat_map (le_bytes l.size) (drop l.offset-index l.offsets))
