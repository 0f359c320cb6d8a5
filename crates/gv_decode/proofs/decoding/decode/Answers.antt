use Rattle.std.proofs.Common.{◌≡◌, ◌≤◌, true, length, ap, ◌∙◌, rules}
use Rattle.gv_value.specs.declared.limits.TheConstants.{MOST_BYTES, MOST_DEPTH}
use Rattle.gv_value.specs.Reading.{value_at, value_of}
use Rattle.gv_value.specs.Shape.{Shape, is_type}
use Rattle.gv_value.specs.Views.{shape_of, plain}
use Rattle.gv_decode.proofs.Exactly.{value_of-is, exactly-spelled, exactly-none}
use Rattle.gv_decode.proofs.Rooms.{gives-same}
use Rattle.gv_decode.proofs.decoding.decode.Goals as goal

pub returns-clause-spelled : goal.returns-clause-spelled
returns-clause-spelled c =
    let t = shape_of c.args.of.now in
    let bytes = c.args.bytes.now in
    let is : is_type t ≡ true = search rules in
    let short : length bytes ≤ MOST_BYTES = search rules in
    exactly-spelled c.read.result t bytes
    (gives-same plain c.read.result _ (value_of t bytes) (ap (λ (s : Shape). value_at MOST_DEPTH s bytes) c.in_ok-plan.ensures.type ∙ value_of-is t bytes is short) c.read.ensures)

pub returns-clause-not_normal : goal.returns-clause-not_normal
returns-clause-not_normal c =
    let t = shape_of c.args.of.now in
    let bytes = c.args.bytes.now in
    let is : is_type t ≡ true = search rules in
    let short : length bytes ≤ MOST_BYTES = search rules in
    exactly-none c.read.result t bytes
    (gives-same plain c.read.result _ (value_of t bytes) (ap (λ (s : Shape). value_at MOST_DEPTH s bytes) c.in_ok-plan.ensures.type ∙ value_of-is t bytes is short) c.read.ensures)
