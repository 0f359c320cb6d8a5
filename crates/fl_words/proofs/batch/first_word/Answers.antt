use Rattle.std.proofs.Common.{List, ℕ, ◌∷◌, ◌+◌, take, sym, ap, ◌∙◌}
use Rattle.std.proofs.lemmas.List.{take_rest}
use Rattle.fl_words.specs.Batch.{words_in}
use Rattle.fl_words.proofs.LineWords.{words_at, words_last}
use Rattle.fl_words.proofs.batch.first_word.Goals as goal

pub returns-in-Some-clause-words : goal.returns-in-Some-clause-words
returns-in-Some-clause-words c =
    let text = c.args.text.now in
    let end = c.in-Some.end in
    words_at text end (sym c.in-Some.ensures) ∙ ap (λ (rest : List ℕ). take end text ∷ words_in rest) (sym (take_rest text (end + 1)))

pub returns-in-None-clause-words : goal.returns-in-None-clause-words
returns-in-None-clause-words c = words_last c.args.text.now (sym c.in-None.ensures)
