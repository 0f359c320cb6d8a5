use Rattle.std.proofs.Common.{sym, ap, ◌∙◌}
use Rattle.fp_keyfile.specs.Lines.{entry_at}
use Rattle.fp_keyfile.proofs.Cuts.{entry_found, entry_refused}
use Rattle.fp_keyfile.proofs.line.read_entry.Goals as goal

pub returns-in_default : goal.returns-in_default
returns-in_default c = ap entry_at c.in_default.ensures

pub returns-then-is_pair_key : goal.returns-then-is_pair_key
returns-then-is_pair_key c =
    let before = c.in-Some.key in
    let remainder = c.in-Some.value in
    let cut = sym c.in-Some.ensures in
    entry_found c.args.text.now before.now remainder.now c.trim_end-key.result.now c.trim_front-value.result.now cut c.trim_end-key.ensures c.trim_front-value.ensures (sym c.is_pair_key.ensures ∙ c.if-is_pair_key.true)

pub returns-else-is_pair_key : goal.returns-else-is_pair_key
returns-else-is_pair_key c =
    let before = c.in-Some.key in
    let remainder = c.in-Some.value in
    let cut = sym c.in-Some.ensures in
    entry_refused c.args.text.now before.now remainder.now c.trim_end-key.result.now cut c.trim_end-key.ensures (sym c.is_pair_key.ensures ∙ c.if-is_pair_key.false)
