use Rattle.std.proofs.Common.{◌≡◌, drop, map}
use Rattle.std.specs.List.{list_all}
use Rattle.fl_words.specs.Forms.{place_of, repeats}
use Rattle.fl_words.proofs.reading.all_repeat.Given as goal

abbrev pub invariant-loop-slot : goal.invariant-loop-slot
invariant-loop-slot l = list_all repeats (map place_of l.slots) ≡ list_all repeats (map place_of (drop l.slot-index l.slots))
