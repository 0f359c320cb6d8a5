use Rattle.std.proofs.Common.{◌≡◌, ◌++◌, take, map, string_bytes}
use Rattle.std.specs.Prelude.{flat_map}
use Rattle.fl_words.specs.Forms.{place_of}
use Rattle.fl_words.specs.Reasons.{named_place}
use Rattle.fl_words.proofs.reasons.push_places.Given as goal

abbrev pub invariant-loop-slot : goal.invariant-loop-slot
invariant-loop-slot l = string_bytes l.text ≡ string_bytes l.fn.text ++ flat_map named_place (map place_of (take l.slot-index l.slots))
