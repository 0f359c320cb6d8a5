use Rattle.std.proofs.Common.{lit<, Some, None, length, sym, ap, ◌∙◌, arith, rules}
use Rattle.std.proofs.lemmas.Bool.{and_right}
use Rattle.fp_name.proofs.Cuts.{cuts_once}
use Rattle.fp_name.proofs.Elements.{are_elements-on, are_elements-none, enough_dots, few_dots}
use Rattle.fp_name.proofs.grammar.has_elements.Goals as goal

pub returns-then-not-is_inner_element : goal.returns-then-not-is_inner_element
returns-then-not-is_inner_element c =
    let rest = c.loop-element.rest.now in
    let cut = cuts_once 46 rest (Some (c.in-Some.element, c.in-Some.remainder)) c.in-Some.ensures.cases (lit< tt) in
    let bad = sym c.is_inner_element.ensures ∙ c.if-not-is_inner_element.true in
    sym (and_right _ _ (sym c.loop-element.invariant.elements ∙ are_elements-none c.in-Some.element.now c.in-Some.remainder.now rest cut.0 bad))

pub loop-element-preserved : goal.loop-element-preserved
loop-element-preserved c =
    let rest = c.loop-element.rest.now in
    let cut = cuts_once 46 rest (Some (c.in-Some.element, c.in-Some.remainder)) c.in-Some.ensures.cases (lit< tt) in
    let good = sym c.is_inner_element.ensures ∙ c.if-not-is_inner_element.false in
    record {
      is_text = search rules;
      count = omega (arith, c.loop-element.invariant.count, ap length cut.0);
      elements = are_elements-on c.in-Some.element.now c.in-Some.remainder.now rest cut.0 good ∙ c.loop-element.invariant.elements;
      bound = omega (arith, c.loop-element.invariant.bound, cut.1);
    }

pub returns-then-dots-ge-FEWEST_DOTS : goal.returns-then-dots-ge-FEWEST_DOTS
returns-then-dots-ge-FEWEST_DOTS c =
    let rest = c.loop-element.rest.now in
    c.is_end_element.ensures ∙ enough_dots c.loop-element.dots rest c.args.text.now (cuts_once 46 rest None c.in_default.ensures.cases (lit< tt)) c.loop-element.invariant.count c.loop-element.invariant.elements c.if-dots-ge-FEWEST_DOTS.true

pub returns-else-dots-ge-FEWEST_DOTS : goal.returns-else-dots-ge-FEWEST_DOTS
returns-else-dots-ge-FEWEST_DOTS c =
    let rest = c.loop-element.rest.now in
    few_dots c.loop-element.dots rest c.args.text.now (cuts_once 46 rest None c.in_default.ensures.cases (lit< tt)) c.loop-element.invariant.count c.if-dots-ge-FEWEST_DOTS.false
