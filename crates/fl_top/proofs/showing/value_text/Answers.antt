use Rattle.std.proofs.Common.{List, ℕ, ap, sym, ◌∙◌, rules}
use Rattle.fp_small.specs.declared.refusal.Refusal.TheVariants.{MalformedValue}
use Rattle.fl_change.specs.Answer.{refusal_answer}
use Rattle.gv_value.specs.Views.{shape_of}
use Rattle.fl_top.proofs.Shown.{value_told, value_bad}
use Rattle.fl_top.proofs.showing.value_text.Goals as goal

pub returns-then-branch : goal.returns-then-branch
returns-then-branch c = value_told c.args.of.now c.args.bytes.now c.from_string.result (shape_of c.as_type.result.now) c.as_type.ensures (sym c.in_ok-is_normal.ensures ∙ c.if-branch.true) (search rules)

pub returns : goal.returns
returns c = value_bad c.args.of.now c.args.bytes.now (shape_of c.as_type.result.now) c.as_type.ensures (sym c.in_ok-is_normal.ensures ∙ c.if-branch.false) ∙ ap (λ (d : List ℕ). refusal_answer (MalformedValue d)) (sym c.meta_digest-digest.ensures)
