-- The installed candidate of an extension point.
use Rattle.std.specs.Prelude.{ℕ, Bool, Option, option_and_then, slice_get}
use Rattle.std.specs.List.{find, list_any, position}
use Rattle.std.specs.Str.{bytes_eq}
use Rattle.fp_name.specs.Refs.{Ref, ref_text}
use Rattle.fp_small.specs.declared.state.RefRow.{RefRow}
use Rattle.fp_small.specs.declared.state.State.{State}
use Rattle.fl_extension.specs.declared.point.Point.{Point}

-- Tests whether a ref is deployed in this state
abbrev pub has_ref : State → Ref → Bool
has_ref state r = list_any (λ row. bytes_eq (ref_text row.name) (ref_text r)) state.refs

-- The row of a ref, if it is deployed
abbrev pub row_of : State → Ref → Option RefRow
row_of state r = find (λ row. bytes_eq (ref_text row.name) (ref_text r)) state.refs

-- The index of the point's first candidate that is deployed, if any
abbrev pub found_place : Point → State → Option ℕ
found_place point state = position (has_ref state) point.candidates

-- The point's first candidate that is deployed, if any
abbrev pub found_ref : State → Point → Option Ref
found_ref state point = option_and_then (slice_get point.candidates) (found_place point state)
