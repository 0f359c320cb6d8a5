-- The bytes read from the standard input that it keeps.
use Rattle.std.specs.Prelude.{◌≡◌, ℕ, List, [], ◌++◌, take, Option, IfSome, MatchOption}
use Rattle.fp_host.specs.declared.source.Taken.{Taken}
use Rattle.fp_host.specs.declared.source.Taken.TheVariants as source

-- The standard input as contracts see it: the number of failed reads, and the bytes read so far, if
-- they are still kept
pub record InputView : Type 0 where
  pub faults : ℕ
  pub kept : Option (List ℕ)

-- The bytes that a read put into the buffer
abbrev pub taken_bytes : Taken → List ℕ → List ℕ
taken_bytes (source.Took n) into = take n into
taken_bytes source.End into = []
taken_bytes source.Failed into = []

-- Holds if the kept bytes after a read are those before followed by the new ones, or none are kept
-- any more; bytes that were not kept before are not kept later
abbrev pub KeepsMore : Option (List ℕ) → List ℕ → Option (List ℕ) → Type 0
KeepsMore before more now = IfSome now (λ all. MatchOption before ⊥ (λ kept. all ≡ kept ++ more))
