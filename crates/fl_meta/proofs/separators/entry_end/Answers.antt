use Rattle.std.proofs.Common.{◌≡◌, false, not, get_or, refl, sym, ap, subst, ◌∙◌, arith}
use Rattle.std.proofs.lemmas.Bool.{and_parts, eqb-true, not-true}
use Rattle.fl_meta.specs.Separators.{is_semicolon, escapes, separates}
use Rattle.fl_meta.proofs.Whole.{IsWhole, escapes_next, whole_next, entries_at, entries_whole, take_whole}
use Rattle.fl_meta.proofs.separators.entry_end.Goals as goal

pub loop-end-init : goal.loop-end-init
loop-end-init c = record { within = omega arith; whole = tt; told = refl }

pub returns-then-separates : goal.returns-then-separates
returns-then-separates c =
    let list = c.args.list.now in
    let end = c.loop-end.end in
    let escaped = c.loop-end.escaped in
    let byte = get_or list end 0 in
    let both = and_parts (is_semicolon byte) (not escaped) (sym c.separates.ensures ∙ c.if-separates.true) in
    let is : byte ≡ 59 = eqb-true byte 59 both.0 in
    record {
      within = c.loop-end-test.true;
      semicolon = is;
      entries = entries_at list end byte c.loop-end-test.true refl is c.loop-end.invariant.whole (sym c.loop-end.invariant.told ∙ not-true escaped both.1);
    }

pub loop-end-preserved : goal.loop-end-preserved
loop-end-preserved c =
    let list = c.args.list.now in
    let end = c.loop-end.end in
    let byte = get_or list end 0 in
    let told = c.loop-end.invariant.told in
    record {
      within = omega arith;
      whole = whole_next list end c.loop-end-test.true c.loop-end.invariant.whole (ap (λ e. separates e byte) (sym told) ∙ sym c.separates.ensures ∙ c.if-separates.false);
      told = c.escapes-escaped.ensures ∙ ap (λ e. escapes e byte) told ∙ sym (escapes_next false list end c.loop-end-test.true);
    }

pub returns : goal.returns
returns c =
    let list = c.args.list.now in
    entries_whole false list (subst (IsWhole false) (take_whole list c.loop-end.end (omega arith)) c.loop-end.invariant.whole)
