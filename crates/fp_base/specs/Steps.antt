-- Reading step by step: each step returns a value, or nothing if the input isn't as it requires.
use Rattle.std.specs.Prelude.{◌≡◌, Bool, if◌then◌else◌, Option, Some, None, option_and_then}

-- Runs the second step on the value of the first; nothing if the first returned nothing
infixl 10 ◌>>=◌
abbrev pub ◌>>=◌ : {A B : Type 0} → Option A → (A → Option B) → Option B
o >>= f = option_and_then f o

-- The value if the test holds, else nothing
abbrev pub where_it : {A : Type 0} → Bool → A → Option A
where_it test x = if test then Some x else None

-- Holds if a function's `Option`, mapped by `view`, equals the one that a specification defines:
-- both have equal values, or both are nothing
abbrev pub Gives : {X Y : Type 0} → (X → Y) → Option X → Option Y → Type 0
Gives view (Some x) read = read ≡ Some (view x)
Gives view None read = read ≡ None
