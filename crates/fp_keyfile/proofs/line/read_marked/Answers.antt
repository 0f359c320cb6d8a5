use Rattle.std.proofs.Common.{List, ℕ, subst, arith}
use Rattle.std.specs.Str.{IsCharBoundary}
use Rattle.std.proofs.lemmas.Str.{IsCharBoundary-after_ascii}
use Rattle.fp_keyfile.proofs.line.read_marked.Goals as goal

pub range_from-requires : goal.range_from-requires
range_from-requires c =
    let bytes = c.as_bytes.result.now in
    let boundary : IsCharBoundary bytes 1 = IsCharBoundary-after_ascii bytes 0 c.as_bytes.ensures.utf8 (omega arith) (omega arith) in
    λ _. subst (λ (t : List ℕ). IsCharBoundary t 1) c.as_bytes.ensures.value boundary
