use Rattle.std.proofs.Common.{map, rules, string_bytes}
use Rattle.fl_words.proofs.LineWords.{bad_word, passed_on}
use Rattle.fl_words.specs.Batch.{words_left}
use Rattle.fl_words.proofs.batch.read_line.Goals as goal

pub returns-in_err-add_word-clause-bad : goal.returns-in_err-add_word-clause-bad
returns-in_err-add_word-clause-bad c =
    let e = c.in_err-add_word.field-0.0 in
    passed_on c.from_residual.result e c.args.line.now c.from_residual.ensures.1
    (bad_word (map string_bytes c.loop-rest.words.items) (words_left c.first_word.result.1) c.in-Some.text.now c.first_word.result.0.now c.args.line.now e (search rules) c.first_word.ensures.words c.in_err-add_word.ensures.bad)
