use Rattle.std.proofs.Common.{List, ℕ, ap, ◌∙◌}
use Rattle.bus_policy.specs.Levels.{pattern_matches}
use Rattle.bus_policy.proofs.Flags.{or_next}
use Rattle.bus_policy.proofs.peer.add_meant.Goals as goal

pub loop-i-preserved : goal.loop-i-preserved
loop-i-preserved c =
    or_next (λ rule. pattern_matches rule.pattern c.args.name.now) c.args.rules.now c.args.meant.now.items c.loop-i.meant.items c.raise.new.flags.items c.loop-i.i c.matches_name-is_meant.result c.index-rules-i.result c.loop-i-test.true c.index-rules-i.is (c.matches_name-is_meant.ensures ∙ ap (λ (p : List ℕ). pattern_matches p c.args.name.now) (c.as_bytes.ensures.value ∙ c.as_str.ensures)) c.loop-i.invariant c.raise.ensures
