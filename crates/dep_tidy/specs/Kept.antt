-- The commits that a state keeps.
use Rattle.std.specs.Prelude.{ℕ, List, [], ◌∷◌, Option, Some, None}
use Rattle.fp_small.specs.declared.state.RefRow.{RefRow}
use Rattle.fp_small.specs.declared.state.Previous.{Previous}
use Rattle.ost_model.specs.Order.{each_in}
use Rattle.dep_states.specs.Sound.{IsKeptBy}

-- The previous commit, as a list
abbrev pub previous_commits : Option Previous → List (List ℕ)
previous_commits None = []
previous_commits (Some p) = p.commit ∷ []

-- The commits that a row keeps: its own, and then its previous one
abbrev pub kept_by : RefRow → List (List ℕ)
kept_by row = row.commit ∷ previous_commits row.previous

-- The commits that rows keep: of each row its own, and then its previous one
abbrev pub kept_of : List RefRow → List (List ℕ)
kept_of rows = each_in kept_by rows

-- There is a row, and it keeps the commit
abbrev pub IsKeptAt : Option RefRow → List ℕ → Type 0
IsKeptAt None commit = ⊥
IsKeptAt (Some row) commit = IsKeptBy row commit
