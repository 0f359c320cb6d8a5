-- The results of reading objects, by what the definitions read. `NoMemory` is always possible.
use Rattle.std.specs.Prelude.{◌≡◌, ⊤, List, [], ◌∷◌, Bool, if◌then◌else◌, Option, Some, None, option_map, option_and_then, Result, Ok, Err}
use Rattle.std.specs.Option.{IsSome}
use Rattle.fp_base.specs.declared.rule.Rule.{Rule}
use Rattle.fp_base.specs.declared.rule.Rule.TheVariants as rules
use Rattle.ost_object.specs.declared.error.ObjectError.{ObjectError}
use Rattle.ost_object.specs.declared.error.ObjectError.TheVariants as errors

-- A thing as it is
abbrev pub as_is : {A : Type 0} → A → A
as_is a = a

-- ---- something that is present, or one rule that is broken

-- Holds if reading may fail with this error: `Malformed` with this rule only if nothing is present,
-- and `NoMemory` always
abbrev pub Misses : {Y : Type 0} → Rule → ObjectError → Option Y → Type 0
Misses broken (errors.Malformed rule) there = (rule ≡ broken) × (there ≡ None)
Misses broken errors.NoMemory there = ⊤

-- Holds if the result, seen by a view, is what is present. It may be `Malformed` with this rule
-- only if nothing is present, and `NoMemory` always.
abbrev pub Tries : {X Y : Type 0} → Rule → (X → Y) → Result X ObjectError → Option Y → Type 0
Tries broken view (Ok x) there = there ≡ Some (view x)
Tries broken view (Err e) there = Misses broken e there

-- Holds if the result, seen by a view, is the value that is present. It may be `Malformed` with the
-- rule `Value` only if there is none, and `NoMemory` always.
abbrev pub Finds : {X Y : Type 0} → (X → Y) → Result X ObjectError → Option Y → Type 0
Finds = Tries rules.Value

-- Holds if the result is `Ok` only if a value is present, and `Malformed` with the rule `Value`
-- only if there is none. It may always be `NoMemory`.
abbrev pub Holds : {X Y : Type 0} → Result X ObjectError → Option Y → Type 0
Holds (Ok x) there = IsSome there
Holds (Err e) there = Misses rules.Value e there

-- The item, if it passes the test
unfoldable pub passing : {A : Type 0} → (A → Bool) → A → Option A
passing test a = if test a then Some a else None

-- All of the items, if each passes the test
abbrev pub only : {A : Type 0} → (A → Bool) → List A → Option (List A)
only test [] = Some []
only test (a ∷ others) =
    option_and_then (λ b. option_map (λ bs. b ∷ bs) (only test others)) (passing test a)

-- ---- an object, or the first rule that is broken

-- Holds if reading an object may fail with this error: `Malformed` with the rule that the
-- definitions find broken, and `NoMemory` always
abbrev pub Breaks : {Y : Type 0} → ObjectError → Result Y Rule → Type 0
Breaks (errors.Malformed rule) read = read ≡ Err rule
Breaks errors.NoMemory read = ⊤

-- Holds if the result, seen by a view, is what the definitions read. It may be `Malformed` with the
-- rule that they find broken, and `NoMemory` always.
abbrev pub Reads : {X Y : Type 0} → (X → Y) → Result X ObjectError → Result Y Rule → Type 0
Reads view (Ok x) read = read ≡ Ok (view x)
Reads view (Err e) read = Breaks e read

-- A part of what is read
abbrev pub mapped : {A B : Type 0} → (A → B) → Result A Rule → Result B Rule
mapped part (Ok a) = Ok (part a)
mapped part (Err rule) = Err rule
