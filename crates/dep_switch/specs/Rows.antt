-- States with another row for a ref, or with none.
use Rattle.std.specs.Prelude.{◌≡◌, ℕ, List}
use Rattle.fp_name.specs.Refs.{Ref, ref_text}
use Rattle.fp_small.specs.Order.{replaced, removed}
use Rattle.fp_small.specs.declared.state.State.{State}
use Rattle.fp_small.specs.declared.state.RefRow.{RefRow}
use Rattle.dep_states.specs.After.{with_refs, HasRow}
use Rattle.dep_states.specs.Shown.{ref_key}

-- The state with this row instead of the one of its ref
abbrev pub with_row : State → RefRow → State
with_row s row = with_refs s (replaced ref_key s.refs row)

-- The state without the ref
abbrev pub without_row : State → Ref → State
without_row s name = with_refs s (removed ref_key s.refs (ref_text name))

-- The ref is deployed at this commit
abbrev pub IsAt : State → Ref → List ℕ → Type 0
IsAt s name commit = HasRow s name (λ row. row.commit ≡ commit)
