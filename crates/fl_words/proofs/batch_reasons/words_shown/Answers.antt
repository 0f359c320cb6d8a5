use Rattle.std.proofs.Common.{map, string_bytes, ap, ◌∙◌}
use Rattle.fl_words.specs.Batch.{words_left}
use Rattle.fl_words.specs.Reasons.{words_shown}
use Rattle.fl_words.proofs.FirstWords.{one_shown}
use Rattle.fl_words.proofs.batch_reasons.words_shown.Goals as goal

pub loop-rest-preserved : goal.loop-rest-preserved
loop-rest-preserved c =
    one_shown (map string_bytes c.loop-rest.words.items) _ c.first_word.result.0.now (words_left c.first_word.result.1) (words_left c.loop-rest.rest) (words_shown c.args.line.now)
    c.in_ok-show_word.ensures (ap words_left c.in-Some.is ∙ c.first_word.ensures.words) c.loop-rest.invariant
