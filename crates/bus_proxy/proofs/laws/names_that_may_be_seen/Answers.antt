use Rattle.std.proofs.Common.{refl}
use Rattle.std.specs.Str.{is_utf8, chars}
use Rattle.std.specs.Char.{encode_utf8}
use Rattle.bus_frame.specs.Places.{aligned_at, number_at, text_at, long_text_at}
use Rattle.bus_frame.specs.Values.{array_head_at}
use Rattle.bus_frame.specs.Bodies.{texts_at, elements_place, names_place, names_in}
use Rattle.bus_frame.specs.Writing.{names_bytes, with_names_bytes}
use Rattle.bus_policy.specs.Levels.{pattern_matches}
use Rattle.bus_proxy.proofs.laws.names_that_may_be_seen.Goals as goal

pub returns : goal.returns
unfolding is_utf8 chars encode_utf8 names_in names_place elements_place texts_at array_head_at long_text_at text_at number_at aligned_at names_bytes with_names_bytes pattern_matches
returns c = refl
