use Rattle.std.proofs.Common.{◌≡◌, ◌∙◌, ap, sym, List, ℕ, length, Some, arith}
use Rattle.fp_host.specs.Reads.{is_ascending}
use Rattle.fp_keyfile.specs.Lines.{lines_of}
use Rattle.fp_small.proofs.OldReads.{not_ended, not_patterns, not_ascending, too_many, pins_are, same_end}
use Rattle.fp_small.proofs.old_pins.read_pins.Goals.{then-not-are_ascending-via-then-not-are_ascending, then-not-are_ascending-via-else-not-are_ascending+then-len-gt-MOST_PINS}
use Rattle.fp_small.proofs.old_pins.read_pins.Goals as goal

pub returns-then-not-is_ended-clause-bad : goal.returns-then-not-is_ended-clause-bad
returns-then-not-is_ended-clause-bad c = λ bad. not_ended c.args.bytes.now (sym c.is_ended.ensures ∙ c.if-not-is_ended.true)

pub returns-in_err-pins-clause-bad : goal.returns-in_err-pins-clause-bad
returns-in_err-pins-clause-bad c = λ bad. not_patterns c.args.bytes.now (c.in_err-pins.ensures.bad (same_end c.from_residual.result c.in_err-pins.field-0.0 c.from_residual.ensures.1 bad))

pub returns-then-not-are_ascending-clause-bad : goal.returns-then-not-are_ascending-clause-bad
returns-then-not-are_ascending-clause-bad c =
    let lines : c.deref.result.now ≡ lines_of c.args.bytes.now = c.deref.ensures.value ∙ c.in_ok-pins.ensures.ok in
    let count = ap (λ (xs : List (List ℕ)). length xs) c.in_ok-pins.ensures.ok in
    λ bad. elim c.then-not-are_ascending.branch [
      | then-not-are_ascending-via-then-not-are_ascending w ↦ not_ascending c.args.bytes.now (ap is_ascending (sym lines) ∙ sym w.if-not-are_ascending.ensures)
      | then-not-are_ascending-via-else-not-are_ascending+then-len-gt-MOST_PINS w ↦ too_many c.args.bytes.now (omega (arith, count, w.len.ensures, w.if-len-gt-MOST_PINS.true))
    ]

pub returns-clause-ok : goal.returns-clause-ok
returns-clause-ok c =
    let lines : c.deref.result.now ≡ lines_of c.args.bytes.now = c.deref.ensures.value ∙ c.in_ok-pins.ensures.ok in
    let count = ap (λ (xs : List (List ℕ)). length xs) c.in_ok-pins.ensures.ok in
    pins_are c.args.bytes.now (sym c.is_ended.ensures ∙ c.if-not-is_ended.false) c.in_ok-pins.ensures.good (ap is_ascending (sym lines) ∙ sym c.are_ascending.ensures ∙ c.if-not-are_ascending.false) (omega (arith, count, c.len.ensures, c.if-len-gt-MOST_PINS.false))
    ∙ ap (λ (xs : List (List ℕ)). Some xs) (sym (c.from_vec.ensures ∙ c.in_ok-pins.ensures.ok))
