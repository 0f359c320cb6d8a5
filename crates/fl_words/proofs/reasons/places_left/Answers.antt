use Rattle.std.proofs.Common.{string_bytes}
use Rattle.std.proofs.lemmas.List.{take-map}
use Rattle.fl_words.proofs.reasons.places_left.Goals as goal

pub returns : goal.returns
returns c = rw (take-map string_bytes c.args.count c.args.words.now, ← c.slots.ensures) c.left_after.ensures
