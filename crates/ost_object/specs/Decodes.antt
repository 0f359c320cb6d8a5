-- The results of decoding a value that was kept as bytes. `NoMemory` is always possible.
use Rattle.std.specs.Prelude.{◌≡◌, Result, Ok, Err}
use Rattle.gv_value.specs.declared.value.GvValue.{GvValue}
use Rattle.gv_value.specs.Shape.{Shape}
use Rattle.gv_value.specs.Tree.{Tree}
use Rattle.gv_value.specs.Views.{plain}
use Rattle.ost_object.specs.declared.error.ObjectError.{ObjectError}
use Rattle.ost_object.specs.Writes.{HasNoSpelling}

-- Holds if the result is the value. It may be `Malformed` only if the value has no serialised form
-- of the type, and `NoMemory` always.
abbrev pub Decodes : Result GvValue ObjectError → Shape → Tree → Type 0
Decodes (Ok value) t v = plain value ≡ v
Decodes (Err e) t v = HasNoSpelling e t v
