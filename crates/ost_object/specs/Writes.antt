-- The results of writing objects, by what the definitions read. `NoMemory` is always possible.
use Rattle.std.specs.Prelude.{◌≡◌, ◌≢◌, ℕ, ⊤, List, Option, unwrap_or, Result, Ok, Err}
use Rattle.gv_value.specs.Shape.{Shape}
use Rattle.gv_value.specs.Spelled.{Spelled}
use Rattle.gv_value.specs.Tree.{Tree}
use Rattle.fp_base.specs.declared.rule.Rule.{Rule}
use Rattle.fp_base.specs.declared.rule.Rule.TheVariants as rules
use Rattle.ost_object.specs.declared.error.ObjectError.{ObjectError}
use Rattle.ost_object.specs.declared.error.ObjectError.TheVariants as errors

-- ---- bytes that read as an object

-- Holds if writing an object may fail with this error: `Malformed` only if no bytes read as the
-- object. The rule is the first after `Value` that the object breaks, or `Value` if it breaks none
-- of them.
abbrev pub Refuses : {Y : Type 0} → (List ℕ → Result Y Rule) → (Y → Option Rule)
    → ObjectError → Y → Type 0
Refuses read breaks (errors.Malformed rule) y =
    (rule ≡ unwrap_or (breaks y) rules.Value) × ((bytes : List ℕ) → read bytes ≢ Ok y)
Refuses read breaks errors.NoMemory y = ⊤

-- Holds if the result is bytes that read as the object. It may be `Malformed` only if there are
-- none, and `NoMemory` always.
abbrev pub Writes : {Y : Type 0} → (List ℕ → Result Y Rule) → (Y → Option Rule)
    → Result (List ℕ) ObjectError → Y → Type 0
Writes read breaks (Ok bytes) y = read bytes ≡ Ok y
Writes read breaks (Err e) y = Refuses read breaks e y

-- ---- bytes that are a value of a type

-- Holds if encoding a value may fail with this error: `Malformed` with the rule `Value` only if the
-- value has no serialised form of the type, and `NoMemory` always
abbrev pub HasNoSpelling : ObjectError → Shape → Tree → Type 0
HasNoSpelling (errors.Malformed rule) t v =
    (rule ≡ rules.Value) × ((bytes : List ℕ) → Spelled t v bytes → ⊥)
HasNoSpelling errors.NoMemory t v = ⊤

-- Holds if the result is the serialised form of the value. It may be `Malformed` only if there is
-- none, and `NoMemory` always.
abbrev pub Spells : Result (List ℕ) ObjectError → Shape → Tree → Type 0
Spells (Ok bytes) t v = Spelled t v bytes
Spells (Err e) t v = HasNoSpelling e t v
