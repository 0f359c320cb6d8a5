-- The lines that a filter prints for a recording.
use Rattle.std.specs.Prelude.{ℕ, List, [], ◌∷◌, ◌++◌, map, reverse, codes, Option, option_map}
use Rattle.hex.specs.Hex.{encode_lower}
use Rattle.fp_small.specs.declared.refusal.Refusal.{Refusal}
use Rattle.fp_small.specs.declared.refusal.Refusal.TheVariants.{BadMessage}
use Rattle.fl_lines.specs.PrintedWords.{side_word}
use Rattle.bus_stream.specs.declared.recording.Recording.{Recording}
use Rattle.bus_policy.specs.declared.policy.PolicyRule.{PolicyRule}
use Rattle.bus_proxy.specs.declared.out.Out.{Out}
use Rattle.bus_proxy.specs.Arrivals.{End, events, end_of}
use Rattle.bus_proxy.specs.Outs.{setting, forwarded}

-- Lines, and the refusal that ends them, if there is one
pub record Filtered : Type 0 where
  pub lines : List (List ℕ)
  pub refusal : Option Refusal

-- The line of a message: the side to which it goes, and its bytes
abbrev pub out_text : Out → List ℕ
out_text out = side_word out.to ++ (codes " " ++ (encode_lower out.bytes ++ 10 ∷ []))

-- The refusal of a side's message that breaks a rule, with the number of whole messages of that
-- side before it
abbrev pub broken : End → Refusal
broken end = BadMessage end.0 end.1 end.2

-- The output of filtering a recording: a line for each message that the policy forwards, shortens
-- or answers; and a refusal, if a message breaks a rule or the recording ends within one
abbrev pub filtered : List PolicyRule → Recording → Filtered
filtered rules recording = record {
  lines = map out_text (forwarded (setting rules recording.client recording.owners)
      (events (reverse recording.pieces)));
  refusal = option_map broken (end_of (reverse recording.pieces));
}
