use Rattle.std.proofs.Common.{◌≡◌, ◌++◌, ◌∷◌, [], length, sym, ap, ◌∙◌, rules, arith, append_assoc, length-append}
use Rattle.std.proofs.lemmas.List.{append-nil}
use Rattle.fp_base.proofs.Lines.{remainder_is_shorter}
use Rattle.ost_description.specs.Descriptions.{rows_in, pieces}
use Rattle.ost_description.proofs.LineLemmas.{rows_step, rows_stop, rows_end, unformed_step, unformed_stop, unformed_end}
use Rattle.ost_description.proofs.reading.lines_of.Goals as goal

pub returns-in_default-2-clause-rows : goal.returns-in_default-2-clause-rows
returns-in_default-2-clause-rows c =
    let stop = rows_stop c.loop-line.rest.now c.in-Some.line.now c.in-Some.more.now (search rules) (search rules) in
    sym (c.loop-line.invariant.rows ∙ ap (λ rs. c.loop-line.rows.items ++ rs) stop ∙ append-nil c.loop-line.rows.items)

pub returns-in_default-2-clause-unformed : goal.returns-in_default-2-clause-unformed
returns-in_default-2-clause-unformed c =
    let stop = unformed_stop c.loop-line.number c.loop-line.rest.now c.in-Some.line.now c.in-Some.more.now (search rules) (search rules) in
    sym (c.loop-line.invariant.unformed ∙ stop)

pub loop-line-smaller : goal.loop-line-smaller
loop-line-smaller c = remainder_is_shorter c.loop-line.rest.now c.in-Some.line.now c.in-Some.more.now (search rules)

pub loop-line-preserved : goal.loop-line-preserved
loop-line-preserved c =
    let shorter = remainder_is_shorter c.loop-line.rest.now c.in-Some.line.now c.in-Some.more.now (search rules) in
    let rows = rows_step c.loop-line.rest.now c.in-Some.line.now c.in-Some.more.now c.in-Some-2.row (search rules) (search rules) in
    let unformed = unformed_step c.loop-line.number c.loop-line.rest.now c.in-Some.line.now c.in-Some.more.now c.in-Some-2.row (search rules) (search rules) in
    let pushed : c.push.new.self.items ≡ c.loop-line.rows.items ++ c.in-Some-2.row ∷ [] = search rules in
    record {
      rows = c.loop-line.invariant.rows ∙ ap (λ rs. c.loop-line.rows.items ++ rs) rows
          ∙ sym (append_assoc c.loop-line.rows.items (c.in-Some-2.row ∷ []) (rows_in (pieces c.in-Some.more.now)))
          ∙ ap (λ rs. rs ++ rows_in (pieces c.in-Some.more.now)) (sym pushed);
      unformed = c.loop-line.invariant.unformed ∙ unformed;
      few = omega (arith, shorter, c.loop-line.invariant.few, ap (λ rs. length rs) pushed, length-append c.loop-line.rows.items (c.in-Some-2.row ∷ []));
      number = omega (arith, shorter, c.loop-line.invariant.number);
    }

pub returns-clause-rows : goal.returns-clause-rows
returns-clause-rows c =
    sym (c.loop-line.invariant.rows ∙ ap (λ rs. c.loop-line.rows.items ++ rs) (rows_end c.loop-line.rest.now (search rules)) ∙ append-nil c.loop-line.rows.items)

pub returns-clause-unformed : goal.returns-clause-unformed
returns-clause-unformed c =
    c.leftover.ensures ∙ sym (c.loop-line.invariant.unformed ∙ unformed_end c.loop-line.number c.loop-line.rest.now (search rules))
