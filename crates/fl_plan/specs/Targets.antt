-- The refs that an update includes.
use Rattle.std.specs.Prelude.{Bool, List, [], ◌∷◌, ◌++◌, map, filter, Option, Some, None}
use Rattle.fp_name.specs.Refs.{Ref}
use Rattle.fp_name.specs.Pins.{same_kind}
use Rattle.fp_name.specs.declared.kind.RefKind.{RefKind}
use Rattle.fp_name.specs.declared.kind.RefKind.TheVariants.{App, Runtime}
use Rattle.fp_small.specs.declared.state.State.{State}
use Rattle.fp_small.specs.declared.state.RefRow.{RefRow}

-- Tests whether the ref is of this kind
abbrev pub is_kind : RefKind → Ref → Bool
is_kind kind name = same_kind kind name.kind

-- The refs of the rows, in their order
abbrev pub names_of : List RefRow → List Ref
names_of rows = map (λ row. row.name) rows

-- The refs of a kind, in the order of the rows
abbrev pub names_in : RefKind → List RefRow → List Ref
names_in kind rows = filter (is_kind kind) (names_of rows)

-- The refs that an update includes: the given one, or else the installed runtimes and then the
-- installed applications, each in the order of the state
abbrev pub targets_of : State → Option Ref → List Ref
targets_of state None = names_in Runtime state.refs ++ names_in App state.refs
targets_of state (Some name) = name ∷ []
