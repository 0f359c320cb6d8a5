-- The text of a launch as that of a key file's groups, followed by the mounts.
use Rattle.std.specs.Prelude.{◌≡◌, ℕ, true, List, [], ◌∷◌, ◌++◌, codes, Option, Some, None, Ok}
use Rattle.std.specs.List.{list_all, AllByRecursion}
use Rattle.std.specs.Str.{is_utf8}
use Rattle.fp_keyfile.specs.declared.group.Group.{Group}
use Rattle.fp_keyfile.specs.declared.group.Pair.{Pair}
use Rattle.fp_keyfile.specs.Grammar.{is_value}
use Rattle.fp_keyfile.specs.KeyFile.{is_good_pair, file_of, text_of}
use Rattle.fp_keyfile.specs.Lines.{entry, line_says}
use Rattle.fp_name.specs.Grammar.{is_id}
use Rattle.fp_name.specs.Hex.{is_digest}
use Rattle.fp_name.specs.Refs.{Ref, is_ref, ref_text}
use Rattle.fp_small.specs.declared.state.RefRow.{RefRow}
use Rattle.fp_small.specs.declared.state.State.{State}
use Rattle.fl_meta.specs.declared.permission.Mention.{Mention}
use Rattle.fl_extension.specs.Points.{is_directory}
use Rattle.fl_extension.specs.declared.point.Point.{Point}
use Rattle.fl_context.specs.Grants.{IsAscending}
use Rattle.fl_override.specs.Overrides.{AllCanWrite}
use Rattle.fl_override.specs.Written.{pair_if}
use Rattle.fl_launch.specs.Granted.{granted_groups, has_session_bus}
use Rattle.fl_launch.specs.Extensions.{commit_of, extensions_of, mount_with, mount_lines}
use Rattle.fl_launch.specs.Launch.{word, mounts, text_with}
use Rattle.fl_launch.specs.Layers.{granted_by}

-- The pair of a key and a value
abbrev pub pair_of : List ℕ → List ℕ → Pair
pair_of key value = record { key = key; value = value }

-- The pair of the command, if there is one
abbrev pub command_pairs : Option (List ℕ) → List Pair
command_pairs None = []
command_pairs (Some command) = pair_of (codes "command") command ∷ []

-- The pairs of the group `Application`
abbrev pub application_pairs : Ref → Ref → Option (List ℕ) → List Pair
application_pairs name runtime command =
    pair_of (codes "name") name.id ∷ pair_of (codes "runtime") (ref_text runtime)
    ∷ command_pairs command

-- The pairs of the group `Instance`
abbrev pub instance_pairs : State → Ref → Ref → List Point → List Point → List Mention → List Pair
instance_pairs state name runtime app_points runtime_points grants =
    pair_of (codes "app-commit") (commit_of state name)
    ∷ pair_of (codes "runtime-commit") (commit_of state runtime) ∷ pair_of (codes "arch") name.arch
    ∷ pair_of (codes "branch") name.branch
    ∷ (pair_if (codes "app-extensions") (extensions_of state app_points)
    ++ (pair_if (codes "runtime-extensions") (extensions_of state runtime_points)
    ++ pair_of (codes "session-bus-proxy") (word (has_session_bus grants)) ∷ []))

-- The group with this name and these pairs
abbrev pub group : List ℕ → List Pair → Group
group name pairs = record { name = name; pairs = pairs }

-- The groups of a launch's text, without the mounts
unfoldable pub launch_groups : State → Ref → Ref → List Point → List Point → Option (List ℕ)
    → List Mention → List Group
launch_groups state name runtime app_points runtime_points command grants =
    group (codes "Application") (application_pairs name runtime command)
    ∷ group (codes "Instance") (instance_pairs state name runtime app_points runtime_points grants)
    ∷ granted_groups grants

-- The text of a launch is that of its groups, followed by the mounts
abbrev pub TextIsOfGroups : Type 0
TextIsOfGroups = (state : State) (name runtime : Ref) (app_points runtime_points : List Point)
    (command : Option (List ℕ)) (grants : List Mention)
    → text_with state name runtime app_points runtime_points command grants
    ≡ text_of (launch_groups state name runtime app_points runtime_points command grants)
    ++ mounts (mount_lines state app_points runtime_points)

-- The groups of a launch read back unchanged, so no value is read as another line, if names,
-- commits and the command are valid values of a key file, and the permissions can be written
abbrev pub GroupsReadBack : Type 0
GroupsReadBack = (state : State) (name runtime : Ref) (app_points runtime_points : List Point)
    (command : Option (List ℕ)) (grants : List Mention)
    → list_all is_good_pair (application_pairs name runtime command) ≡ true
    → list_all is_good_pair (instance_pairs state name runtime app_points runtime_points grants)
    ≡ true
    → AllCanWrite grants → IsAscending grants
    → file_of (text_of (launch_groups state name runtime app_points runtime_points command grants))
    ≡ Ok (launch_groups state name runtime app_points runtime_points command grants)

-- The command, if there is one, is a valid value of a key file
abbrev pub IsCommand : Option (List ℕ) → Type 0
IsCommand None = Unit {0}
IsCommand (Some command) = (is_value command ≡ true) × (is_utf8 command ≡ true)

-- The point's name is a valid ID
abbrev pub HasName : Point → Type 0
HasName p = is_id p.name ≡ true

-- The row's commit is a valid digest
abbrev pub HasDigest : RefRow → Type 0
HasDigest row = is_digest row.commit ≡ true

-- The parts of a launch are valid: its refs, the digests of commits, the names of extension points,
-- and the command
pub record IsLaunchable (state : State) (name runtime : Ref) (app_points runtime_points : List Point)
    (command : Option (List ℕ)) : Type 0 where
  pub name_is : is_ref name ≡ true
  pub runtime_is : is_ref runtime ≡ true
  pub commits : AllByRecursion HasDigest state.refs
  pub of_app : AllByRecursion HasName app_points
  pub of_runtime : AllByRecursion HasName runtime_points
  pub command_is : IsCommand command

-- The groups of a launch with valid parts read back unchanged, for any mentions that can be written
abbrev pub LaunchReadsBack : Type 0
LaunchReadsBack = (state : State) (name runtime : Ref) (app_points runtime_points : List Point)
    (command : Option (List ℕ)) (mentions : List Mention)
    → IsLaunchable state name runtime app_points runtime_points command → AllCanWrite mentions
    → file_of (text_of (launch_groups state name runtime app_points runtime_points command
    (granted_by mentions)))
    ≡ Ok (launch_groups state name runtime app_points runtime_points command (granted_by mentions))

-- The line of a mount reads back as a pair: the directory below `/app` or `/usr`, and the ref
abbrev pub MountReadsBack : List ℕ → Type 0
MountReadsBack front = (directory : List ℕ) (r : Ref) → is_directory directory ≡ true
    → is_utf8 directory ≡ true → is_ref r ≡ true
    → line_says (mount_with front directory r) ≡ Ok (entry (front ++ directory) (ref_text r))
