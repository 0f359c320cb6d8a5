use Rattle.std.proofs.Common.{sym, ◌∙◌}
use Rattle.bus_frame.specs.Places.{place_of}
use Rattle.bus_frame.proofs.TextSteps.{collected, collects_none, collects_out, collects_more}
use Rattle.bus_frame.proofs.bodies.texts.Goals as goal

pub returns-then-is_empty : goal.returns-then-is_empty
returns-then-is_empty c =
    collected c.args.little c.loop.texts.items (place_of c.loop.next) _ _ (sym c.is_empty.ensures ∙ c.if-is_empty.true) c.loop.invariant

pub returns-in_default : goal.returns-in_default
returns-in_default c =
    collects_none c.args.little c.loop.texts.items (place_of c.loop.next) _ _ _ c.loop-test.true (sym c.is_empty.ensures ∙ c.if-is_empty.false) c.loop.invariant c.in_default.ensures

pub loop-preserved : goal.loop-preserved
loop-preserved c =
    rw (c.in_ok-push.ensures.items, c.in_ok-from_str.ensures)
    (collects_more c.args.little c.loop.texts.items (place_of c.loop.next) _ _ _ _ _ c.loop-test.true (sym c.is_empty.ensures ∙ c.if-is_empty.false) c.loop.invariant c.in-Some.ensures)

pub returns-then-not-is_empty : goal.returns-then-not-is_empty
returns-then-not-is_empty c =
    collects_out c.args.little c.loop.texts.items (place_of c.loop.next) _ _ _ c.loop-test.false (sym c.is_empty-2.ensures ∙ c.if-not-is_empty.true) c.loop.invariant

pub returns : goal.returns
returns c =
    collected c.args.little c.loop.texts.items (place_of c.loop.next) _ _ (sym c.is_empty-2.ensures ∙ c.if-not-is_empty.false) c.loop.invariant
