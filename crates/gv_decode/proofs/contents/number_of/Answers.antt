use Rattle.std.proofs.Common.{◌∙◌, sym, ap, Some, ℕ, rules}
use Rattle.gv_value.proofs.Known.{AllBelow-fits}
use Rattle.gv_decode.proofs.Basics.{number_at-is, number_at-not}
use Rattle.gv_decode.proofs.contents.number_of.Goals as goal

pub returns-then-bytes-size-clause-value : goal.returns-then-bytes-size-clause-value
returns-then-bytes-size-clause-value c = number_at-not c.args.size c.args.bytes.now (λ e. search rules)

pub returns-clause-value : goal.returns-clause-value
returns-clause-value c =
    number_at-is c.args.size c.args.bytes.now (AllBelow-fits c.args.bytes.now c.type_inv.bytes) (search rules) ∙ ap (λ (n : ℕ). Some n) (sym c.number.ensures.value)
