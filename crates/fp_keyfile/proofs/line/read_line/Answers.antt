use Rattle.std.proofs.Common.{ℕ, eqb, sym, ap, ◌∙◌}
use Rattle.std.specs.List.{list_all, list_any}
use Rattle.fp_keyfile.specs.Grammar.{is_blank}
use Rattle.fp_keyfile.specs.Lines.{marked}
use Rattle.fp_keyfile.proofs.Cuts.{line_no_text, line_blank, line_marked}
use Rattle.fp_keyfile.proofs.line.read_line.Goals as goal

pub returns-in_default : goal.returns-in_default
returns-in_default c = line_no_text c.args.line.now c.without_returns.result.now c.without_returns.ensures c.in_default.ensures.cases.0

pub returns-then-are_blank : goal.returns-then-are_blank
returns-then-are_blank c =
    let text = c.without_returns.result.now in
    let same = sym (c.as_bytes-bytes.ensures.value ∙ c.in-Ok.ensures.cases.0) in
    let zeros = ap (list_any (λ (b : ℕ). eqb b 0)) same ∙ sym c.has_zero.ensures ∙ c.if-has_zero.false in
    let blank = ap (list_all is_blank) same ∙ sym c.are_blank.ensures ∙ c.if-are_blank.true in
    line_blank c.args.line.now text (record { is = c.without_returns.ensures; utf8 = c.in-Ok.ensures.cases.1 }) zeros blank

pub returns-else-are_blank : goal.returns-else-are_blank
returns-else-are_blank c =
    let text = c.without_returns.result.now in
    let same = sym (c.as_bytes-bytes.ensures.value ∙ c.in-Ok.ensures.cases.0) in
    let zeros = ap (list_any (λ (b : ℕ). eqb b 0)) same ∙ sym c.has_zero.ensures ∙ c.if-has_zero.false in
    let blank = ap (list_all is_blank) same ∙ sym c.are_blank.ensures ∙ c.if-are_blank.false in
    c.read_marked.ensures ∙ ap marked c.in-Ok.ensures.cases.0 ∙ line_marked c.args.line.now text (record { is = c.without_returns.ensures; utf8 = c.in-Ok.ensures.cases.1 }) zeros blank
