use Rattle.std.proofs.Common.{◌+◌, ◌-◌, length, leb, ap, sym, ◌∙◌, arith}
use Rattle.std.proofs.lemmas.Bool.{and_right}
use Rattle.std.proofs.lemmas.Bool.Decides.{nat_tests}
use Rattle.gv_value.specs.declared.limits.TheConstants.{MOST_OPEN, MOST_SIGNATURE_BYTES}
use Rattle.gv_value.specs.Texts.{after_type, are_types}
use Rattle.gv_value.proofs.SignatureSteps.{type-shorter, type_goes, type_stops}
use Rattle.gv_value.proofs.signatures.is_signature.Goals as goal

pub types-smaller : goal.types-smaller
types-smaller c = type-shorter (MOST_OPEN + MOST_OPEN) MOST_OPEN MOST_OPEN c.types.left.now c.in-Some.rest.now (sym c.in-Some.ensures)

pub types-preserved : goal.types-preserved
types-preserved c =
    let l = c.types in
    let less = type-shorter (MOST_OPEN + MOST_OPEN) MOST_OPEN MOST_OPEN l.left.now c.in-Some.rest.now (sym c.in-Some.ensures) in
    record {
      fuel = l.invariant.fuel - 1;
      enough = omega (arith, l.invariant.enough);
      so_far = l.invariant.so_far ∙ type_goes (after_type (MOST_OPEN + MOST_OPEN) MOST_OPEN MOST_OPEN) (type-shorter (MOST_OPEN + MOST_OPEN) MOST_OPEN MOST_OPEN) l.invariant.fuel l.left.now c.in-Some.rest.now l.invariant.enough (sym c.in-Some.ensures);
    }

pub returns-in-None : goal.returns-in-None
returns-in-None c =
    let l = c.types in
    let text = c.args.text.now in
    sym (and_right (leb (length text) MOST_SIGNATURE_BYTES) (are_types (after_type (MOST_OPEN + MOST_OPEN) MOST_OPEN MOST_OPEN) (length text) text)
    (l.invariant.so_far ∙ type_stops (after_type (MOST_OPEN + MOST_OPEN) MOST_OPEN MOST_OPEN) (type-shorter (MOST_OPEN + MOST_OPEN) MOST_OPEN MOST_OPEN) l.invariant.fuel l.left.now (grind (arith, nat_tests)) (sym c.in-None.ensures)))
