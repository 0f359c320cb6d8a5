use Rattle.std.proofs.Common.{sym, ◌∙◌, length}
use Rattle.std.proofs.lemmas.Result.{err_from_is_err_and}
use Rattle.bus_frame.specs.Places.{place_of}
use Rattle.bus_frame.specs.Fields.{known_of, none_known, fields_at}
use Rattle.bus_frame.proofs.FieldSteps.{fields_done, fields_out, fields_none, fields_broken, fields_more}
use Rattle.bus_frame.proofs.known.known_fields.Goals as goal

pub returns-then-is_empty : goal.returns-then-is_empty
returns-then-is_empty c =
    fields_done c.args.little (known_of c.loop.known) (place_of c.loop.next) _ _ (sym c.is_empty.ensures ∙ c.if-is_empty.true) c.loop.invariant

pub returns-in_default : goal.returns-in_default
returns-in_default c =
    fields_none c.args.little (known_of c.loop.known) (place_of c.loop.next) _ _ _ c.loop-test.true (sym c.is_empty.ensures ∙ c.if-is_empty.false) c.loop.invariant c.in_default.ensures

pub returns-in_err-known : goal.returns-in_err-known
returns-in_err-known c =
    let p = err_from_is_err_and c.from_residual.result c.from_residual.ensures.1 in
    rw (p.1, p.2) (fields_broken c.args.little (known_of c.loop.known) (place_of c.loop.next) _ _ _ c.loop-test.true (sym c.is_empty.ensures ∙ c.if-is_empty.false) c.loop.invariant _ _ _ c.in-Some.ensures c.in_err-known.ensures)

pub loop-preserved : goal.loop-preserved
loop-preserved c =
    fields_more c.args.little (known_of c.loop.known) (place_of c.loop.next) _ _ _ c.loop-test.true (sym c.is_empty.ensures ∙ c.if-is_empty.false) c.loop.invariant _ _ _ c.in-Some.ensures c.in_ok-known.ensures

pub returns-then-not-is_empty : goal.returns-then-not-is_empty
returns-then-not-is_empty c =
    fields_out c.args.little (known_of c.loop.known) (place_of c.loop.next) _ _ _ c.loop-test.false (sym c.is_empty-2.ensures ∙ c.if-not-is_empty.true) c.loop.invariant

pub returns : goal.returns
returns c =
    fields_done c.args.little (known_of c.loop.known) (place_of c.loop.next) _ _ (sym c.is_empty-2.ensures ∙ c.if-not-is_empty.false) c.loop.invariant
