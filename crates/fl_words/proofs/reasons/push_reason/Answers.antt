use Rattle.std.proofs.Common.{map, string_bytes, arith}
use Rattle.std.proofs.lemmas.List.{length-map}
use Rattle.fl_words.proofs.Beginnings.{most-within}
use Rattle.fl_words.proofs.reasons.push_reason.Goals as goal

pub push_why-requires : goal.push_why-requires
push_why-requires c =
    let words = c.args.words.now in
    omega (arith, c.in_ok-index.ensures, most-within c.args.forms.now (map string_bytes words), length-map words string_bytes)
