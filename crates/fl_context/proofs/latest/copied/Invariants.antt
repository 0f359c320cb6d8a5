use Rattle.std.proofs.Common.{◌≡◌, ◌++◌, map}
use Rattle.fl_context.specs.Latest.{mention_at, mentions_of}
use Rattle.fl_context.proofs.latest.copied.Given as goal

-- the copies so far, and what is left
abbrev pub invariant-loop-permission : goal.invariant-loop-permission
invariant-loop-permission l = l.layer ++ map mention_at l.permission-iterator ≡ mentions_of l.latest
