use Rattle.std.proofs.Common.{sym, ◌∙◌}
use Rattle.fl_words.proofs.Counts.{printed, is_one, no_number, out_of_range, not_printed}
use Rattle.fl_words.proofs.app_count.AppCount.parse.Goals.{else-is_count-via-then-is_count+in_ok-is_printed+else-branch, else-is_count-via-else-is_count}
use Rattle.fl_words.proofs.app_count.AppCount.parse.Goals as goal

pub returns-in_default-clause-bad : goal.returns-in_default-clause-bad
returns-in_default-clause-bad c = λ bad. no_number c.args.text.now c.parse.result c.in_default.field-0 c.in_default.is c.parse.ensures.value.0

pub returns-then-branch-clause-ok : goal.returns-then-branch-clause-ok
returns-then-branch-clause-ok c = printed c.args.text.now c.in-Ok.number (sym c.is_count.ensures ∙ c.if-is_count.true) (sym c.in_ok-is_printed.ensures ∙ c.if-branch.true)

pub returns-then-branch-clause-good : goal.returns-then-branch-clause-good
returns-then-branch-clause-good c = is_one c.args.text.now c.in-Ok.number (sym c.is_count.ensures ∙ c.if-is_count.true) (sym c.in_ok-is_printed.ensures ∙ c.if-branch.true)

pub returns-else-is_count-clause-bad : goal.returns-else-is_count-clause-bad
returns-else-is_count-clause-bad c = λ bad. elim c.else-is_count.branch [
  | else-is_count-via-then-is_count+in_ok-is_printed+else-branch w ↦ not_printed c.args.text.now c.parse.result c.in-Ok.number c.in-Ok.is c.parse.ensures.value.0 (sym w.in_ok-is_printed.ensures ∙ w.if-branch.false)
  | else-is_count-via-else-is_count w ↦ out_of_range c.args.text.now c.parse.result c.in-Ok.number c.in-Ok.is c.parse.ensures.value.0 (sym c.is_count.ensures ∙ w.if-is_count.false)
]
