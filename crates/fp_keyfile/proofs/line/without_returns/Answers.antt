use Rattle.std.proofs.Common.{◌≡◌, ◌<◌, ◌-◌, true, false, get_or, sym, ◌∙◌, arith}
use Rattle.std.proofs.lemmas.Bool.Decides.{nat_tests}
use Rattle.fp_keyfile.specs.Grammar.{is_return}
use Rattle.fp_keyfile.proofs.Texts.{trimmed_end-take, trimmed_end_stops}
use Rattle.fp_keyfile.proofs.line.without_returns.Goals as goal
use Rattle.fp_keyfile.proofs.line.without_returns.Goals.{then-loop-end-test+else-line-end-eq13, else-loop-end-test}

pub loop-end-preserved : goal.loop-end-preserved
loop-end-preserved c =
    let line = c.args.line.now in
    let end = c.loop-end.end in
    let last : is_return (get_or line (end - 1) 0) ≡ true = grind (arith, nat_tests) in
    record {
      within = omega arith;
      rest = trimmed_end-take is_return line end c.loop-end-test.true c.loop-end.invariant.within last ∙ c.loop-end.invariant.rest;
    }

pub returns : goal.returns
returns c =
    let line = c.args.line.now in
    let end = c.loop-end.end in
    let stops : 0 < end → is_return (get_or line (end - 1) 0) ≡ false =
    elim c.loop-end-test.branch [
      | then-loop-end-test+else-line-end-eq13 w ↦ λ _. grind (arith, nat_tests)
      | else-loop-end-test w ↦ λ pos. absurd (omega arith)
    ] in
    sym (trimmed_end_stops is_return line end c.loop-end.invariant.within stops) ∙ c.loop-end.invariant.rest
