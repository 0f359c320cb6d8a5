-- Reading that ends with a value, or with the rule that is broken.
use Rattle.std.specs.Prelude.{◌≡◌, Result, Ok, Err}
use Rattle.fp_base.specs.declared.frame_rule.FrameRule.{FrameRule}

-- Holds if a function's result, mapped by `view`, equals the one that a specification defines: both
-- have equal values, or both are the same broken rule
abbrev pub Reads : {X Y : Type 0} → (X → Y) → Result X FrameRule → Result Y FrameRule → Type 0
Reads view (Ok x) read = read ≡ Ok (view x)
Reads view (Err rule) read = read ≡ Err rule
