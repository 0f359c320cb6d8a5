use Rattle.std.proofs.Common.{ℕ, List, sym, ◌∙◌, ap, false, [], Some, ◌^◌, ◌-◌}
use Rattle.std.specs.Fmt.{styled_digits_output, padded_integral, format_spec, digits}
use Rattle.std.specs.Option.{option_map}
use Rattle.fl_lines.proofs.Escapes.{pushed-plain, pushed-marked}
use Rattle.fl_lines.proofs.escaping.push_escaped.Goals as goal

pub returns-then-not-is_escaped : goal.returns-then-not-is_escaped
returns-then-not-is_escaped c =
    pushed-plain _ _ _ c.args.letter (sym c.is_escaped.ensures ∙ c.if-not-is_escaped.true) c.push.ensures.bytes

pub returns : goal.returns
returns c =
    let two = λ (n : List ℕ). padded_integral (format_spec 32 0 4 2 (2 ^ 64 - 1)) false [] n in
    pushed-marked _ _ _ c.args.letter (styled_digits_output c.in_radix.result c.laid_out.result) (sym c.is_escaped.ensures ∙ c.if-not-is_escaped.false) (rw c.laid_out.ensures (ap (option_map two) (c.in_radix.ensures ∙ ap (λ n. Some (digits 16 false n)) c.from-code.ensures))) c.write.ensures.bytes
