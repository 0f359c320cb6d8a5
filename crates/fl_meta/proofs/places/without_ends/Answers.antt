use Rattle.std.proofs.Common.{sym, ◌∙◌, rules}
use Rattle.fl_meta.proofs.Normal.{without_ends-cut, without_ends-none, shorter-cut}
use Rattle.fl_meta.proofs.places.without_ends.Goals as goal

pub loop-front-smaller : goal.loop-front-smaller
loop-front-smaller c = shorter-cut c.loop-front.rest.now c.in-Some.front.now c.in-Some.ensures

pub loop-front-preserved : goal.loop-front-preserved
loop-front-preserved c = record {
  is_text = search rules;
  same = sym (without_ends-cut c.loop-front.rest.now c.in-Some.front.now c.in-Some.ensures) ∙ c.loop-front.invariant.same;
}

pub returns : goal.returns
returns c = sym (without_ends-none c.loop-front.rest.now c.in_default.ensures) ∙ c.loop-front.invariant.same
