use Rattle.std.proofs.Common.{◌≡◌, ◌≤◌, true, length, ap, ◌∙◌, rules}
use Rattle.gv_value.specs.declared.limits.TheConstants.{MOST_BYTES, MOST_DEPTH}
use Rattle.gv_value.specs.Reading.{value_at, value_of}
use Rattle.gv_value.specs.Shape.{Shape, is_type}
use Rattle.gv_value.specs.Views.{shape_of}
use Rattle.gv_decode.proofs.Exactly.{value_of-is, passes-spelled, passes-none}
use Rattle.gv_decode.proofs.Passing.{passes-same}
use Rattle.gv_decode.proofs.decoding.check_normal.Goals as goal

pub returns-clause-normal : goal.returns-clause-normal
returns-clause-normal c =
    let t = shape_of c.args.of.now in
    let bytes = c.args.bytes.now in
    let is : is_type t ≡ true = search rules in
    let short : length bytes ≤ MOST_BYTES = search rules in
    passes-spelled c.check.result t bytes
    (passes-same c.check.result _ (value_of t bytes) (ap (λ (s : Shape). value_at MOST_DEPTH s bytes) c.in_ok-plan.ensures.type ∙ value_of-is t bytes is short) c.check.ensures)

pub returns-clause-not_normal : goal.returns-clause-not_normal
returns-clause-not_normal c =
    let t = shape_of c.args.of.now in
    let bytes = c.args.bytes.now in
    let is : is_type t ≡ true = search rules in
    let short : length bytes ≤ MOST_BYTES = search rules in
    passes-none c.check.result t bytes
    (passes-same c.check.result _ (value_of t bytes) (ap (λ (s : Shape). value_at MOST_DEPTH s bytes) c.in_ok-plan.ensures.type ∙ value_of-is t bytes is short) c.check.ensures)
