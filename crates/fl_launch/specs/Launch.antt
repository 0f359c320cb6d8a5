-- The text of a launch, which describes its sandbox in the style of the file `/.flatpak-info`
-- (flatpak-run(1)).
use Rattle.std.specs.Prelude.{ℕ, Bool, List, [], ◌∷◌, ◌++◌, ◌==◌, length, codes, Option, Some, None, if◌then◌else◌}
use Rattle.std.specs.List.{flat_map}
use Rattle.std.specs.Option.{option_map_or}
use Rattle.fp_keyfile.specs.KeyFile.{pair_text, group_text, text_of}
use Rattle.fp_name.specs.Refs.{Ref, ref_text}
use Rattle.fp_small.specs.declared.state.State.{State}
use Rattle.fl_meta.specs.declared.meta.Meta.{Meta}
use Rattle.fl_meta.specs.declared.permission.Mention.{Mention}
use Rattle.fl_extension.specs.declared.point.Point.{Point}
use Rattle.fl_launch.specs.Granted.{granted_groups, has_session_bus}
use Rattle.fl_launch.specs.Extensions.{commit_of, extensions_of, mount_lines}

-- The line `[NAME]` of a group
unfoldable pub header : List ℕ → List ℕ
header name = group_text (record { name = name; pairs = [] })

-- The line `KEY=VALUE` of a pair
unfoldable pub line : List ℕ → List ℕ → List ℕ
line key value = pair_text (record { key = key; value = value })

-- The line of a pair; empty if the value is empty
unfoldable pub line_if : List ℕ → List ℕ → List ℕ
line_if key value = if length value == 0 then [] else line key value

-- ---- the heading

-- The command of the options, or else that of the metadata
abbrev pub command_of : Option (List ℕ) → Option (List ℕ) → Option (List ℕ)
command_of (Some word) named = Some word
command_of None named = named

-- The line of the command; empty if there is none
unfoldable pub command_line : Option (List ℕ) → List ℕ
command_line command = option_map_or (line (codes "command")) command []

-- The text of the group `Application`
unfoldable pub application : Ref → Ref → Option (List ℕ) → List ℕ
application name runtime command =
    header (codes "Application")
    ++ (line (codes "name") name.id
    ++ (line (codes "runtime") (ref_text runtime) ++ command_line command))

-- The first lines of the group `Instance`: its header, the commits of the application and its
-- runtime, the architecture and the branch
unfoldable pub commits : State → Ref → Ref → List ℕ
commits state name runtime =
    header (codes "Instance")
    ++ (line (codes "app-commit") (commit_of state name)
    ++ (line (codes "runtime-commit") (commit_of state runtime)
    ++ (line (codes "arch") name.arch ++ line (codes "branch") name.branch)))

-- The lines with the extensions of the application and of its runtime
unfoldable pub extension_lines : State → List Point → List Point → List ℕ
extension_lines state app_points runtime_points =
    line_if (codes "app-extensions") (extensions_of state app_points)
    ++ line_if (codes "runtime-extensions") (extensions_of state runtime_points)

-- The value of `session-bus-proxy`: the bus goes through a proxy, unless the socket of the session
-- bus is granted
abbrev pub word : Bool → List ℕ
word b = if b then codes "false" else codes "true"

-- The line that records whether the session bus goes through a proxy
unfoldable pub proxy_line : List Mention → List ℕ
proxy_line grants = line (codes "session-bus-proxy") (word (has_session_bus grants))

-- ---- the mounts

-- The line with its newline
abbrev pub closed_line : List ℕ → List ℕ
closed_line text = text ++ 10 ∷ []

-- The text of the group `Mounts`; empty if there are no lines
unfoldable pub mounts : List (List ℕ) → List ℕ
mounts lines =
    if length lines == 0 then [] else header (codes "Mounts") ++ flat_map closed_line lines

-- ---- the whole text

-- The text of a launch with this runtime, command and permissions
abbrev pub text_with : State → Ref → Ref → List Point → List Point → Option (List ℕ)
    → List Mention → List ℕ
text_with state name runtime app_points runtime_points command grants =
    application name runtime command
    ++ (commits state name runtime ++ (extension_lines state app_points runtime_points
    ++ (proxy_line grants ++
    (text_of (granted_groups grants) ++ mounts (mount_lines state app_points runtime_points)))))

-- The text of the launch of a ref, whose metadata names a runtime
unfoldable pub launch_text : State → Ref → Meta → List Point → List Point → Option (List ℕ)
    → List Mention → List ℕ
launch_text state name app app_points runtime_points command grants =
    option_map_or (λ runtime. text_with state name runtime app_points runtime_points
    (command_of command app.command) grants) app.runtime []
