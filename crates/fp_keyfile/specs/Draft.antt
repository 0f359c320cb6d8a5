-- A key file while it is being parsed, as the code represents it.
use Rattle.std.specs.Prelude.{◌≡◌, ℕ, List, [], map, slice_index_or, Option, Some, None, Result, Ok, Err}
use Rattle.std.specs.List.{All, position}
use Rattle.std.specs.Option.{option_map}
use Rattle.std.specs.Str.{bytes_eq}
use Rattle.fp_keyfile.specs.declared.group.Group.{Group}
use Rattle.fp_keyfile.specs.declared.table.Table.{Table}
use Rattle.fp_keyfile.specs.declared.draft.Draft.{Draft}
use Rattle.fp_keyfile.specs.declared.draft.LineError.{LineError}
use Rattle.fp_keyfile.specs.declared.draft.LineError.TheVariants as errors
use Rattle.fp_base.specs.declared.key_rule.KeyRule.{KeyRule}
use Rattle.fp_keyfile.specs.KeyFile.{names_of, keys_of, Reading}
use Rattle.fp_keyfile.specs.Index.{Indexes}

-- The group of a table
abbrev pub group_of : Table → Group
group_of t = t.group

-- The groups of a draft
abbrev pub groups_of : Draft → List Group
groups_of d = map group_of d.tables.items

-- The name of the group at an index
abbrev pub name_at : List Group → ℕ → List ℕ
name_at file at = slice_index_or (names_of file) at []

-- The groups of a draft and the name of its current group, as `KeyFile` defines the state of
-- parsing
abbrev pub reading : Draft → Reading
reading d = record { file = groups_of d; group = option_map (name_at (groups_of d)) d.current }

-- The current group, if there is one, is the first one with its name
abbrev pub IsCurrent : List Group → Option ℕ → Type 0
IsCurrent file None = Unit {0}
IsCurrent file (Some at) = position (λ n. bytes_eq n (name_at file at)) (names_of file) ≡ Some at

-- The index of a table has exactly the keys of its group
abbrev pub IsIndexedTable : Table → Type 0
IsIndexedTable t = Indexes t.places (keys_of t.group.pairs)

-- The indices of a draft are right, and its current group is the first one with its name
pub record IsIndexed (d : Draft) : Type 0 where
  pub groups : Indexes d.places (names_of (groups_of d))
  pub tables : All IsIndexedTable d.tables.items
  pub current : IsCurrent (groups_of d) d.current

-- A step of parsing returned, and left in the draft, what `step` defines, unless memory ran out
abbrev pub Takes : Result (Unit {0}) LineError → Draft → Result Reading KeyRule → Type 0
Takes (Ok _) d step = IsIndexed d × (step ≡ Ok (reading d))
Takes (Err errors.NoMemory) d step = Unit {0}
Takes (Err (errors.Rule rule)) d step = step ≡ Err rule
