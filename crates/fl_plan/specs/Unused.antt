-- Detection of unused runtimes.
use Rattle.std.specs.Prelude.{Bool, not, ◌&&◌, ◌||◌, List, filter}
use Rattle.std.specs.List.{list_any}
use Rattle.fp_name.specs.Refs.{Ref}
use Rattle.fp_name.specs.Pins.{pin_matches}
use Rattle.fp_name.specs.declared.kind.RefKind.TheVariants.{App, Runtime}
use Rattle.fp_small.specs.declared.state.State.{State}
use Rattle.fl_meta.specs.declared.meta.Meta.{Meta}
use Rattle.fl_extension.specs.declared.point.Point.{Point}
use Rattle.fl_extension.specs.Found.{found_ref}
use Rattle.fl_installed.specs.Users.{is_name}
use Rattle.fl_plan.specs.Targets.{is_kind, names_of}

-- Tests whether an application's metadata names the runtime
abbrev pub is_named : List (Ref × Meta) → Ref → Bool
is_named metas name = list_any (λ app. is_name name app.1.runtime) metas

-- Tests whether a pin matches the ref
abbrev pub is_pinned : State → Ref → Bool
is_pinned state name = list_any (λ pin. pin_matches pin name) state.pins

-- Tests whether an application names the runtime, or a pin matches it
abbrev pub is_needed : State → List (Ref × Meta) → Ref → Bool
is_needed state metas name = is_named metas name || is_pinned state name

-- Tests whether the ref is the one that is found for one of the points
abbrev pub one_finds : State → Ref → List Point → Bool
one_finds state name points = list_any (λ point. is_name name (found_ref state point)) points

-- Tests whether the extensions of the ref are kept: it is an application, or a runtime that is
-- needed
abbrev pub is_owner : State → List (Ref × Meta) → Ref → Bool
is_owner state metas name = is_kind App name || is_needed state metas name

-- Tests whether the ref is found for a point of an application or of a needed runtime
abbrev pub is_extension : State → List (Ref × Meta) → List (Ref × List Point) → Ref → Bool
is_extension state metas points name =
    list_any (λ owner. is_owner state metas owner.0 && one_finds state name owner.1) points

-- Tests whether the ref is a runtime that is neither needed nor kept as an extension
abbrev pub is_unused : State → List (Ref × Meta) → List (Ref × List Point) → Ref → Bool
is_unused state metas points name =
    is_kind Runtime name && not (is_needed state metas name || is_extension state metas points name)

-- The installed runtimes that nothing uses, in the order of the state; `metas` is the metadata of
-- the installed applications, and `points` the extension points of the installed refs
abbrev pub unused_of : State → List (Ref × Meta) → List (Ref × List Point) → List Ref
unused_of state metas points = filter (is_unused state metas points) (names_of state.refs)
