use Rattle.std.proofs.Common.{◌≡◌, drop}
use Rattle.fl_context.specs.Grants.{value_in}
use Rattle.fl_context.proofs.grants.Grants.value.Given as goal

abbrev pub invariant-loop-mention : goal.invariant-loop-mention
invariant-loop-mention l = value_in l.self l.permission ≡ value_in (drop l.mention-index l.mention-items) l.permission
