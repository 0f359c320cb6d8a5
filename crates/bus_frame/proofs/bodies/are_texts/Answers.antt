use Rattle.std.proofs.Common.{sym, ◌∙◌}
use Rattle.bus_frame.specs.Places.{place_of}
use Rattle.bus_frame.proofs.TextSteps.{looked, looks_none, looks_out, looks_more}
use Rattle.bus_frame.proofs.bodies.are_texts.Goals as goal

pub returns-then-is_empty : goal.returns-then-is_empty
returns-then-is_empty c =
    looked c.args.little (place_of c.loop.next) _ _ (sym c.is_empty.ensures ∙ c.if-is_empty.true) c.loop.invariant

pub returns-in_default : goal.returns-in_default
returns-in_default c =
    looks_none c.args.little (place_of c.loop.next) _ _ _ c.loop-test.true (sym c.is_empty.ensures ∙ c.if-is_empty.false) c.loop.invariant c.in_default.ensures

pub loop-preserved : goal.loop-preserved
loop-preserved c =
    looks_more c.args.little (place_of c.loop.next) _ _ _ _ _ c.loop-test.true (sym c.is_empty.ensures ∙ c.if-is_empty.false) c.loop.invariant c.in-Some.ensures

pub returns : goal.returns
returns c = c.is_empty-2.ensures ∙ looks_out c.args.little (place_of c.loop.next) _ _ _ c.loop-test.false c.loop.invariant
