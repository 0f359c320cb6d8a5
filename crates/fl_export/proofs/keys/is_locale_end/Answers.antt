use Rattle.std.proofs.Common.{cond, false, length, take, ◌-◌, sym, ap}
use Rattle.std.specs.Prelude.{codes}
use Rattle.std.proofs.lemmas.Str.Pattern.{ends_text}
use Rattle.fl_export.specs.Keys.{is_locale, is_locale_end}
use Rattle.fl_export.proofs.keys.is_locale_end.Goals as goal

pub returns-in-None : goal.returns-in-None
unfolding is_locale_end
returns-in-None c =
    let text = c.args.text.now in
    ap (λ b. cond b (is_locale (take (length text - 1) text)) false) (ends_text false (codes "]") text c.in-None.ensures.cases)
