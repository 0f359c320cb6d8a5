use Rattle.std.proofs.Common.{◌≡◌, ℕ, ◌+◌, ◌-◌, ◌<◌, length, get_or, drop, ap, ◌∙◌, arith, rules}
use Rattle.gv_value.specs.Reading.{parted}
use Rattle.gv_decode.proofs.Partings.{parts-at}
use Rattle.gv_decode.proofs.variants.variant_parts.Goals as goal

pub returns-then-bytes-at-eq0 : goal.returns-then-bytes-at-eq0
returns-then-bytes-at-eq0 c =
    let l = c.loop-at in
    let bytes = c.args.bytes.now in
    let i = l.at - 1 in
    let lt : i < length bytes = omega arith in
    let zero_at : get_or bytes i 0 ≡ 0 = search rules in
    let same : i + 1 ≡ l.at = omega arith in
    parts-at bytes i lt zero_at (ap (λ (n : ℕ). parted (drop n bytes)) same ∙ l.invariant.none)
