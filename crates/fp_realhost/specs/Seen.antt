-- The part of a host over a real directory that contracts see.
use Rattle.std.specs.Prelude.{ℕ, Bool}

pub record Seen : Type 0 where
  -- The number of failed calls
  pub faults : ℕ
  -- Whether no change waits for a sync
  pub is_settled : Bool
  -- The number of bytes printed
  pub printed : ℕ
