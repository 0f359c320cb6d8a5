use Rattle.std.proofs.Common.{cond, false, length, take, ◌-◌, ap, ◌∙◌}
use Rattle.std.specs.Prelude.{codes}
use Rattle.std.proofs.lemmas.Str.Pattern.{ends_text}
use Rattle.fl_meta.specs.Patterns.{are_bus_elements, is_bus_name, is_pattern}
use Rattle.fl_meta.proofs.pattern.is_pattern.Goals as goal

pub returns-in-None : goal.returns-in-None
unfolding is_pattern
returns-in-None c =
    let text = c.args.text.now in
    c.is_bus_name.ensures ∙ ap (λ b. cond b (are_bus_elements (take (length text - 2) text)) (is_bus_name text)) (ends_text false (codes ".*") text c.in-None.ensures.cases)
