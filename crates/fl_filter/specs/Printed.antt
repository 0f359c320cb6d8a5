-- The lines that are printed, at every moment and at the end.
use Rattle.std.specs.Prelude.{◌≡◌, ℕ, List, ◌++◌, map, Option, Some, None, option_map, Result, Ok, Err}
use Rattle.std.specs.List.{concat}
use Rattle.fp_host.specs.View.{View}
use Rattle.fp_host.specs.declared.host.HostEnd.{HostEnd}
use Rattle.fp_host.specs.declared.host.HostEnd.TheVariants as host
use Rattle.fp_small.specs.declared.refusal.Refusal.{Refusal}
use Rattle.bus_proxy.specs.declared.error.FilterError.{FilterError}
use Rattle.bus_proxy.specs.declared.error.FilterError.TheVariants as error
use Rattle.bus_proxy.specs.declared.out.Out.{Out}
use Rattle.bus_proxy.specs.Arrivals.{Pieces, events, breach}
use Rattle.bus_proxy.specs.Outs.{Setting, forwarded}
use Rattle.fl_filter.specs.declared.end.FilterEnd.{FilterEnd}
use Rattle.fl_filter.specs.declared.end.FilterEnd.TheVariants.{Refused, Fault, NoMemory}
use Rattle.fl_filter.specs.Filtered.{Filtered, out_text, broken}

-- The `FilterEnd` that a `HostEnd` is converted to
abbrev pub end_of : HostEnd → FilterEnd
end_of host.Fault = Fault
end_of host.NoMemory = NoMemory

-- The `FilterEnd` that a `FilterError` is converted to: a broken rule is a refusal
abbrev pub end_by : FilterError → FilterEnd
end_by (error.Bad side index rule) = Refused (broken (side, index, rule))
end_by error.NoMemory = NoMemory

-- The view in which these lines are printed too, and nothing else has changed
abbrev pub with_lines : List (List ℕ) → View → View
with_lines lines v = record v { printed = v.printed ++ concat lines }

-- The first of these lines, none or some or all of them, were printed, and nothing else has changed
pub record PrintsFirst (lines : List (List ℕ)) (u w : View) : Type 0 where
  pub said : List (List ℕ)
  pub left : List (List ℕ)
  pub first : lines ≡ said ++ left
  pub is : w ≡ with_lines said u

-- All of these lines were printed; or memory ran out, and the first of them were, none or some or
-- all. Nothing is stated after a fault.
abbrev pub PrintedAll : List (List ℕ) → Result (Unit {0}) HostEnd → View → View → Type 0
PrintedAll lines (Ok t) u w = w ≡ with_lines lines u
PrintedAll lines (Err host.Fault) u w = Unit {0}
PrintedAll lines (Err host.NoMemory) u w = PrintsFirst lines u w

-- The result is this refusal; `Ok` if there is none
abbrev pub IsRefusedBy : Option Refusal → Result (Unit {0}) FilterEnd → Type 0
IsRefusedBy refusal (Ok t) = refusal ≡ None
IsRefusedBy refusal (Err (Refused r)) = refusal ≡ Some r
IsRefusedBy refusal (Err Fault) = ⊥
IsRefusedBy refusal (Err NoMemory) = ⊥

-- All lines were printed, and the result is this refusal or none; or memory ran out, and the first
-- lines were printed, none or some or all. Nothing is stated after a fault.
abbrev pub Printed : Filtered → Result (Unit {0}) FilterEnd → View → View → Type 0
Printed f (Ok t) u w = (f.refusal ≡ None) × (w ≡ with_lines f.lines u)
Printed f (Err (Refused r)) u w = (f.refusal ≡ Some r) × (w ≡ with_lines f.lines u)
Printed f (Err Fault) u w = Unit {0}
Printed f (Err NoMemory) u w = PrintsFirst f.lines u w

-- ---- the pieces fed so far

-- `lines` are the lines for the pieces fed that follow those of the messages already sent
abbrev pub Remains : Setting → Pieces → List Out → List (List ℕ) → Type 0
Remains s fed given lines = map out_text (forwarded s (events fed)) ≡ map out_text given ++ lines

-- These lines, and the refusal for the rule that the pieces fed break, if they break one
abbrev pub remaining : Pieces → List (List ℕ) → Filtered
remaining fed lines = record { lines = lines; refusal = option_map broken (breach fed) }
