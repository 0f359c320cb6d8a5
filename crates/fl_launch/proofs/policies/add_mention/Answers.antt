use Rattle.std.proofs.Common.{◌≡◌, Bool, true, ◌&&◌, sym, ap, ◌∙◌}
use Rattle.std.proofs.lemmas.Bool.{and_parts}
use Rattle.fl_meta.specs.Patterns.{is_pattern}
use Rattle.fl_context.specs.Grants.{is_granted}
use Rattle.fl_override.specs.Written.{is_in}
use Rattle.fl_launch.proofs.Patterns.{same_pattern}
use Rattle.fl_launch.proofs.policies.add_mention.Goals as goal

last_of : (a b p : Bool) → (a && (b && p)) ≡ true → p ≡ true
last_of a b p h = (and_parts b p (and_parts a (b && p) h).1).1

pub add_rule-requires : goal.add_rule-requires
add_rule-requires c =
    let m = c.args.mention.now in
    same_pattern c.as_str-pattern.result.now
    (ap is_pattern c.as_str-pattern.ensures ∙ last_of (is_in c.args.bus m) (is_granted m.value) (is_pattern m.permission.name) (sym c.is_on_bus.ensures ∙ c.if-not-is_on_bus.false))
