-- The results of readers of the code, by what the definitions read.
use Rattle.std.specs.Prelude.{◌≡◌, ⊤, Option, Some, None, Result, Ok, Err}
use Rattle.gv_value.specs.declared.error.TypeError.{TypeError}
use Rattle.gv_value.specs.declared.error.TypeError.TheVariants as errors

-- `Bad` is returned only if nothing is read. `NoMemory` promises nothing.
abbrev pub Fails : {Y : Type 0} → TypeError → Option Y → Type 0
Fails errors.Bad read = read ≡ None
Fails errors.NoMemory read = ⊤

-- `Ok` is returned only with what is read, as seen by `view`, and `Bad` only if nothing is read
abbrev pub Reads : {X Y : Type 0} → (X → Y) → Result X TypeError → Option Y → Type 0
Reads view (Ok x) read = read ≡ Some (view x)
Reads view (Err e) read = Fails e read
