use Rattle.std.proofs.Common.{◌≡◌, ◌+◌, drop, map, string_bytes}
use Rattle.fl_words.specs.Forms.{place_of, reach}
use Rattle.fl_words.proofs.reading.reach.Given as goal

abbrev pub invariant-loop-word : goal.invariant-loop-word
invariant-loop-word l = record {
  counted : l.count ≡ l.word-index;
  reached : reach (map place_of l.slots) (map string_bytes l.words) ≡ l.count + reach (map place_of l.left) (map string_bytes (drop l.word-index l.words));
}
