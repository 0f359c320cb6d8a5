-- The file `deploy`: a GVariant of type `(sstm(st))` in normal form.
use Rattle.std.specs.Prelude.{◌≡◌, ⊤, ℕ, List, Bool, false, Option, Some, None, option_map, option_and_then, Result, Ok, Err, if◌then◌else◌}
use Rattle.std.specs.Str.{bytes_eq}
use Rattle.fp_name.specs.Grammar.{is_remote_name}
use Rattle.fp_name.specs.Hex.{hex, unhex}
use Rattle.fp_small.specs.declared.state.Previous.{Previous}
use Rattle.gv_value.specs.declared.basic.Basic.TheVariants as basics
use Rattle.gv_value.specs.Shape.{Shape, basic, maybe, tuple, no_shapes, shape}
use Rattle.gv_value.specs.Tree.{Content, Tree, no_trees, tree}
use Rattle.gv_value.specs.Reading.{value_of}
use Rattle.ost_model.specs.Fields.{text_in, text_value}
use Rattle.ost_model.specs.Types.{text_shape, time_shape}
use Rattle.dep_states.specs.declared.deploy.DeployData.{DeployData}
use Rattle.dep_states.specs.declared.deploy.DeployError.{DeployError}
use Rattle.dep_states.specs.declared.deploy.DeployError.TheVariants as errors

-- The type `(sstm(st))`: origin, commit, timestamp, and the previous commit with its timestamp, if
-- any
abbrev pub deploy_shape : Shape
deploy_shape = tuple (shape text_shape (shape text_shape (shape time_shape (shape
    (maybe (tuple (shape text_shape (shape time_shape no_shapes)))) no_shapes))))

-- The digest whose 64 hexadecimal digits a value is; nothing for any other value
abbrev pub digest_in : Tree → Option (List ℕ)
digest_in v = option_and_then unhex (text_in v)

-- The number that a value of type `t` is; nothing for any other value. It is little endian here,
-- unlike the numbers in OSTree's objects.
abbrev pub time_in : Tree → Option ℕ
time_in (Tree.leaf basics.Uint64 (Content.number n)) = Some n
time_in _ = None

-- The text, if it is a remote's name
abbrev pub if_remote_name : List ℕ → Option (List ℕ)
if_remote_name text = if is_remote_name text then Some text else None

-- The remote's name that a value is; nothing for any other value
abbrev pub origin_in : Tree → Option (List ℕ)
origin_in v = option_and_then if_remote_name (text_in v)

-- The previous commit with its parts; nothing if a part is missing
abbrev pub previous_from : Option (List ℕ) → Option ℕ → Option (Option Previous)
previous_from commit time =
    option_and_then (λ c. option_map (λ t. Some (record { commit = c; timestamp = t })) time) commit

-- The previous commit that a value is, which may be none; nothing for a value of another form
abbrev pub previous_in : Tree → Option (Option Previous)
previous_in Tree.nothing = Some None
previous_in (Tree.just (Tree.tuple (tree commit (tree time no_trees)))) =
    previous_from (digest_in commit) (time_in time)
previous_in _ = None

-- Tests whether the previous commit is this commit, which isn't allowed
abbrev pub goes_back_to : List ℕ → Option Previous → Bool
goes_back_to commit None = false
goes_back_to commit (Some p) = bytes_eq p.commit commit

-- The data, if the previous commit is another one
abbrev pub if_moves : DeployData → Option DeployData
if_moves d = if goes_back_to d.commit d.previous then None else Some d

-- The data with its parts, if none is missing and the previous commit is another one
abbrev pub deploy_from : Option (List ℕ) → Option (List ℕ) → Option ℕ → Option (Option Previous)
    → Option DeployData
deploy_from origin commit time previous =
    option_and_then (λ o. option_and_then (λ c. option_and_then (λ t. option_and_then (λ p.
    if_moves (record { origin = o; commit = c; timestamp = t; previous = p }))
    previous) time) commit) origin

-- The data that a value is; nothing for a value of another form
abbrev pub deploy_in : Tree → Option DeployData
deploy_in (Tree.tuple (tree origin (tree commit (tree time (tree previous no_trees))))) =
    deploy_from (origin_in origin) (digest_in commit) (time_in time) (previous_in previous)
deploy_in _ = None

-- The data that the bytes of a `deploy` are; nothing for any other bytes
unfoldable pub deploy_of : List ℕ → Option DeployData
deploy_of bytes = option_and_then deploy_in (value_of deploy_shape bytes)

-- ---- the value of the data

-- The value of a timestamp
abbrev pub time_tree : ℕ → Tree
time_tree n = Tree.leaf basics.Uint64 (Content.number n)

-- The value of a previous commit
abbrev pub back_tree : Previous → Tree
back_tree p = Tree.tuple (tree (text_value (hex p.commit)) (tree (time_tree p.timestamp) no_trees))

-- The value of a previous commit, if any
abbrev pub previous_tree : Option Previous → Tree
previous_tree None = Tree.nothing
previous_tree (Some p) = Tree.just (back_tree p)

-- The value of the data
abbrev pub deploy_tree : DeployData → Tree
deploy_tree d = Tree.tuple
    (tree (text_value d.origin)
    (tree (text_value (hex d.commit))
    (tree (time_tree d.timestamp) (tree (previous_tree d.previous) no_trees))))

-- ---- results of reading; nothing is promised when memory runs out

-- The cause of an error: `Bad` is returned only if there is nothing to find
abbrev pub Misses : {Y : Type 0} → DeployError → Option Y → Type 0
Misses errors.Bad there = there ≡ None
Misses errors.NoMemory there = ⊤

-- The result, as `view` shows it, is what is there
abbrev pub Finds : {X Y : Type 0} → (X → Y) → Result X DeployError → Option Y → Type 0
Finds view (Ok x) there = there ≡ Some (view x)
Finds view (Err e) there = Misses e there

-- The result is what is there
abbrev pub Says : {X : Type 0} → Result X DeployError → Option X → Type 0
Says (Ok x) there = there ≡ Some x
Says (Err e) there = Misses e there
