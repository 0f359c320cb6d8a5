use Rattle.std.proofs.Common.{map, string_bytes, sym, ap, ◌∙◌}
use Rattle.std.specs.List.{find}
use Rattle.fl_words.specs.Forms.{reads}
use Rattle.fl_words.proofs.Finding.{passed_on}
use Rattle.fl_words.proofs.reading.read_words.Goals as goal

pub returns-in-Some-clause-bad : goal.returns-in-Some-clause-bad
returns-in-Some-clause-bad c =
    let words = map string_bytes c.args.words.now in
    passed_on c.command.result words c.in-Some.form (ap (find (reads words)) (sym c.all.ensures) ∙ sym c.in_ok-form.ensures ∙ c.in-Some.is) c.command.ensures.bad
