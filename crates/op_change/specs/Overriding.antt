-- Setting and dropping an override in a state.
use Rattle.std.specs.Prelude.{ℕ, List}
use Rattle.fp_host.specs.Paths.{Elements, Slot}
use Rattle.fp_host.specs.View.{View}
use Rattle.fp_small.specs.Clear.{AbsentAt}
use Rattle.fp_small.specs.Order.{replaced, removed}
use Rattle.fp_small.specs.declared.state.OverrideRow.{OverrideRow}
use Rattle.fp_small.specs.declared.state.State.{State}
use Rattle.dep_states.specs.Shown.{override_key}

-- The state with the override, in place of the one with its name
abbrev pub with_layer : State → OverrideRow → State
with_layer s row = record s { overrides = replaced override_key s.overrides row }

-- The state without the override of this name
abbrev pub without_layer : State → List ℕ → State
without_layer s name = record s { overrides = removed override_key s.overrides name }

-- The name `p` may become absent, whatever the view `u` before
abbrev pub AbsentAtPath : Elements → View → Elements → Slot → Type 0
AbsentAtPath p u q e = AbsentAt p q e
