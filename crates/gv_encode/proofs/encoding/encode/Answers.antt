use Rattle.std.proofs.Common.{◌≡◌, ◌≤◌, true, length, sym, subst, IsTrue, rules}
use Rattle.std.proofs.lemmas.Bool.{and_parts}
use Rattle.gv_value.specs.declared.limits.TheConstants.{MOST_BYTES, MOST_DEPTH}
use Rattle.gv_value.proofs.Exact.{spells_values}
use Rattle.gv_value.specs.Shape.{Shape, is_type}
use Rattle.gv_value.specs.Spelling.{fits, fits_within, spelling}
use Rattle.gv_value.specs.Views.{shape_of, plain}
use Rattle.gv_encode.proofs.encoding.encode.Goals as goal

pub write-requires-clause-fits : goal.write-requires-clause-fits
write-requires-clause-fits c =
    let t = shape_of c.args.of.now in
    let v = plain c.args.value.now in
    let is : fits t v ≡ true = search rules in
    subst (λ (s : Shape). IsTrue (fits_within MOST_DEPTH s v)) (sym c.in_ok-plan.ensures.type) (and_parts (is_type t) (fits_within MOST_DEPTH t v) is).1

pub returns-clause-spelled : goal.returns-clause-spelled
returns-clause-spelled c =
    let t = shape_of c.args.of.now in
    let v = plain c.args.value.now in
    let is : fits t v ≡ true = search rules in
    let bytes : c.from_vec.result ≡ spelling v t = search rules in
    let short : length c.from_vec.result ≤ MOST_BYTES = search rules in
    (spells_values t v c.from_vec.result).1 (is, bytes, short)
