use Rattle.std.proofs.Common.{sym, subst, rules, arith}
use Rattle.fl_top.specs.Input.{IsWhole}
use Rattle.fl_top.proofs.Reading.{nothing_yet, reads_more, whole, taken, too_long, err_stops, few_yet, not_after}
use Rattle.fl_top.proofs.input.read_input.Goals as goal

pub loop-bytes-init : goal.loop-bytes-init
loop-bytes-init g c = record {
  room = search rules;
  few = few_yet _ c.new-bytes.ensures.items;
  reads = nothing_yet _ _ c.new-bytes.ensures.items;
  later = omega arith;
}

pub returns-in_err-take_some-clause-stops : goal.returns-in_err-take_some-clause-stops
returns-in_err-take_some-clause-stops g c =
    err_stops _ _ _ _ _ _ c.from_residual-in_err-take_some.ensures.1 c.loop-bytes.invariant.later c.in_err-take_some.ensures.stops

pub returns-then-not-branch-clause-ok : goal.returns-then-not-branch-clause-ok
returns-then-not-branch-clause-ok g c =
    subst (IsWhole (g.I.Source.left c.args.input.now)) (sym c.from_vec.ensures)
    (whole _ _ _ _ _ _ c.loop-bytes.invariant.reads c.in_ok-take_some.ensures.ok c.if-not-branch.true c.loop-bytes.invariant.few)

pub returns-then-not-branch-clause-taken : goal.returns-then-not-branch-clause-taken
returns-then-not-branch-clause-taken g c = taken _ _ _ _ _ _ c.loop-bytes.invariant.reads c.in_ok-take_some.ensures.ok c.if-not-branch.true

pub returns-then-len-gt-MOST_INPUT-clause-stops : goal.returns-then-len-gt-MOST_INPUT-clause-stops
returns-then-len-gt-MOST_INPUT-clause-stops g c =
    too_long _ _ _ (reads_more _ _ _ _ _ _ c.loop-bytes.invariant.reads c.in_ok-take_some.ensures.ok) (omega arith)

pub loop-bytes-preserved : goal.loop-bytes-preserved
loop-bytes-preserved g c = record {
  room = c.loop-bytes.invariant.room;
  few = omega arith;
  reads = reads_more _ _ _ _ _ _ c.loop-bytes.invariant.reads c.in_ok-take_some.ensures.ok;
  later = not_after _ _ _ c.loop-bytes.invariant.later c.take_some.ensures.later;
}
