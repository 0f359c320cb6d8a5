use Rattle.std.proofs.Common.{◌≡◌, ℕ, ◌<◌, ◌^◌, length, sym, ap, ◌∙◌, subst, rules}
use Rattle.gv_value.specs.Bytes.{le_value}
use Rattle.gv_value.proofs.Known.{AllBelow-fits}
use Rattle.gv_decode.proofs.Bounds.{little-is, value-below}
use Rattle.gv_decode.proofs.numbers.number.Goals as goal

pub returns-clause-value : goal.returns-clause-value
returns-clause-value c = c.read_uint.ensures ∙ little-is c.args.bytes.now _ (search rules)

pub returns-clause-below : goal.returns-clause-below
returns-clause-below c =
    let whole : c.read_uint.result ≡ le_value c.args.bytes.now = c.read_uint.ensures ∙ little-is c.args.bytes.now _ (search rules) in
    subst (λ (x : ℕ). x < 256 ^ length c.args.bytes.now) (sym whole) (value-below c.args.bytes.now (AllBelow-fits c.args.bytes.now c.type_inv.bytes))
