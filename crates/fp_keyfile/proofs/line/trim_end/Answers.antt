use Rattle.std.proofs.Common.{◌≡◌, ◌<◌, ◌-◌, ℕ, false, get_or, take, sym, ap, ◌∙◌, arith}
use Rattle.std.proofs.lemmas.Str.{IsCharBoundary-before_ascii}
use Rattle.fp_keyfile.specs.Grammar.{is_blank}
use Rattle.fp_keyfile.specs.Lines.{trimmed_end}
use Rattle.fp_keyfile.proofs.Texts
use Rattle.fp_keyfile.proofs.line.trim_end.Goals as goal
use Rattle.fp_keyfile.proofs.line.trim_end.Goals.{then-loop-end-test+else-is_blank, else-loop-end-test}

pub loop-end-preserved : goal.loop-end-preserved
loop-end-preserved c =
    let bytes = c.as_bytes-bytes.result.now in
    let end = c.loop-end.end in
    let blank = sym c.is_blank.ensures ∙ c.if-is_blank.true in
    record {
      boundary = IsCharBoundary-before_ascii bytes (end - 1) (omega arith) (Texts.ascii_blank.below _ blank);
      rest = Texts.trimmed_end-take is_blank bytes end c.loop-end-test.true c.loop-end.invariant.boundary.0 blank ∙ c.loop-end.invariant.rest;
    }

pub returns : goal.returns
returns c =
    let bytes = c.as_bytes-bytes.result.now in
    let end = c.loop-end.end in
    let stops : 0 < end → is_blank (get_or bytes (end - 1) 0) ≡ false =
    elim c.loop-end-test.branch [
      | then-loop-end-test+else-is_blank w ↦ λ _. sym w.is_blank.ensures ∙ w.if-is_blank.false
      | else-loop-end-test w ↦ λ pos. absurd (omega arith)
    ] in
    let kept = sym (Texts.trimmed_end_stops is_blank bytes end c.loop-end.invariant.boundary.0 stops) ∙ c.loop-end.invariant.rest in
    let none : end - 0 ≡ end = omega arith in
    c.range.ensures.value ∙ ap (λ (n : ℕ). take n c.args.text.now) none ∙ ap (take end) (sym c.as_bytes-bytes.ensures.value) ∙ kept ∙ ap (trimmed_end is_blank) c.as_bytes-bytes.ensures.value
