use Rattle.std.proofs.Common.{◌≡◌, ◌∷◌, ◌++◌, ◌+◌, ◌-◌, ℕ, List, None, Some, take, drop, arith, ap, sym, subst, ◌∙◌}
use Rattle.std.proofs.lemmas.Str.Pattern.{rfind_char}
use Rattle.bus_rules.proofs.Splits.{Misses, split_at, misses_remainder}
use Rattle.bus_rules.proofs.reading.at_last_dot.Goals as goal

pub returns-in_err-at : goal.returns-in_err-at
returns-in_err-at c = rw c.from_residual.ensures (rfind_char 46 c.args.text.now None c.in_err-at.ensures.cases (omega arith))

pub returns : goal.returns
returns c =
    let text = c.args.text.now in
    let at = c.in_ok-at.at in
    let found = rfind_char 46 text (Some at) c.in_ok-at.ensures.cases (omega arith) in
    let all : at - 0 ≡ at = omega arith in
    let front : c.range.result.now ≡ take at text = c.range.ensures.value ∙ ap (λ (n : ℕ). take n text) all in
    let back : c.range_from.result.now ≡ drop (at + 1) text = c.range_from.ensures.value in (
      split_at 46 text at found.0 found.1 ∙ ap (λ (l : List ℕ). l ++ 46 ∷ drop (at + 1) text) (sym front) ∙ ap (λ (l : List ℕ). c.range.result.now ++ 46 ∷ l) (sym back),
      subst (Misses 46) (sym back) (misses_remainder 46 text at found.0 found.2),
    )
