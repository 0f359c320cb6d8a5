use Rattle.std.proofs.Common.{map, string_bytes, ap, sym, ◌∙◌}
use Rattle.std.proofs.lemmas.List.{take_rest, drop-map}
use Rattle.fl_words.proofs.values.words_from.Goals as goal

pub returns-then-place-words : goal.returns-then-place-words
returns-then-place-words c =
    ap (map string_bytes) (take_rest c.args.words.now c.args.place) ∙ sym (drop-map string_bytes c.args.place c.args.words.now)
