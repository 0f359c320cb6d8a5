use Rattle.std.proofs.Common.{List, ℕ, ◌+◌, subst, arith}
use Rattle.std.specs.Str.{IsCharBoundary}
use Rattle.std.proofs.lemmas.Str.{IsCharBoundary-after_ascii}
use Rattle.fl_meta.proofs.separators.first_entry.Goals as goal

pub range_from-requires : goal.range_from-requires
range_from-requires c =
    let list = c.as_bytes.result.now in
    let end = c.in-Some.end in
    let h = c.in-Some.ensures in
    λ _. subst (λ (t : List ℕ). IsCharBoundary t (end + 1)) c.as_bytes.ensures.value (IsCharBoundary-after_ascii list end c.as_bytes.ensures.utf8 h.within (omega (arith, h.semicolon)))
