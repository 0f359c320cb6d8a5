use Rattle.std.proofs.Common.{map, string_bytes, sym, ap, ◌∙◌}
use Rattle.fl_words.proofs.LineWords.{is_record}
use Rattle.fl_words.proofs.batch.read_record.Goals as goal

pub returns-in-Some-clause-ok : goal.returns-in-Some-clause-ok
returns-in-Some-clause-ok c =
    let words = map string_bytes c.deref.result.now in
    is_record words c.args.line.now c.in_ok-read_words.field-0 (ap (map string_bytes) c.deref.ensures.value ∙ c.in_ok-words.ensures.ok) c.in_ok-read_words.ensures.ok
    ∙ sym c.change_of.ensures ∙ c.in-Some.is

pub returns-clause-bad : goal.returns-clause-bad
returns-clause-bad c =
    let words = map string_bytes c.deref.result.now in
    is_record words c.args.line.now c.in_ok-read_words.field-0 (ap (map string_bytes) c.deref.ensures.value ∙ c.in_ok-words.ensures.ok) c.in_ok-read_words.ensures.ok
    ∙ sym c.change_of.ensures ∙ c.in-None.is
