use Rattle.std.proofs.Common.{rules}
use Rattle.fp_name.proofs.HexTexts.{array_digest}
use Rattle.fp_name.proofs.digest.Digest.from_bytes.Goals as goal

pub invariant_of-result : goal.invariant_of-result
invariant_of-result c = array_digest c.args.bytes (search rules) (λ i. search rules)
