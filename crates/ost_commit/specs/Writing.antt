-- The errors of writing objects.
use Rattle.std.specs.Prelude.{◌≡◌, ℕ, List, Result, Err}
use Rattle.gv_value.specs.Shape.{Shape}
use Rattle.gv_value.specs.Tree.{Tree}
use Rattle.gv_value.specs.Spelled.{Spelled}
use Rattle.fp_base.specs.declared.rule.Rule.{Rule}
use Rattle.ost_object.specs.declared.error.ObjectError.{ObjectError}
use Rattle.ost_object.specs.declared.error.ObjectError.TheVariants as objects
use Rattle.ost_commit.specs.declared.built.BuildError.{BuildError}
use Rattle.ost_commit.specs.declared.built.BuildError.TheVariants as error

-- Holds if writing may fail with this error. `large` is the condition for `TooLarge`.
abbrev pub IsWantOfRoom : Type 0 → BuildError → Type 0
IsWantOfRoom large (error.Row n) = ⊥
IsWantOfRoom large error.Collision = ⊥
IsWantOfRoom large error.TooLarge = large
IsWantOfRoom large error.NoMemory = Unit {0}

-- Holds if the value has no serialised form of the type, of at most 16 MiB
abbrev pub HasNoBytes : Shape → Tree → Type 0
HasNoBytes t v = (bytes : List ℕ) → Spelled t v bytes → ⊥

-- Holds if the object was not written, because it breaks a rule
abbrev pub IsRefused : Result (List ℕ) ObjectError → Type 0
IsRefused bytes = (rule : Rule) × (bytes ≡ Err (objects.Malformed rule))
