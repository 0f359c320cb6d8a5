-- The launch of an installed application with a user's options.
use Rattle.std.specs.Prelude.{ℕ, List, Result, Ok, Err}
use Rattle.fp_name.specs.Refs.{Ref}
use Rattle.fp_small.specs.declared.refusal.Refusal.{Refusal}
use Rattle.fp_small.specs.declared.state.State.{State}
use Rattle.fl_meta.specs.declared.permission.Mention.{Mention}
use Rattle.fl_options.specs.Options.{layer_of, last_command}
use Rattle.fl_installed.specs.Deployed.{DeployedFiles}
use Rattle.fl_launch.specs.Launch.{launch_text}
use Rattle.fl_launch.specs.Layers.{all_mentions, granted_by}
use Rattle.fl_launch.specs.declared.launching.LaunchText.{LaunchText}
use Rattle.fl_installed.specs.declared.parts.LaunchParts.{LaunchParts}
use Rattle.fl_installed.specs.Parts.{parts_in}

-- The permissions of a launch: the last mention of each permission in its five layers
abbrev pub grants_with : State → Ref → List (List ℕ) → LaunchParts → List Mention
grants_with state name options parts =
    granted_by (all_mentions state name.id parts.app.meta parts.runtime.meta (layer_of options))

-- The text of a launch with these permissions
abbrev pub text_with : State → Ref → List (List ℕ) → LaunchParts → List Mention → List ℕ
text_with state name options parts grants = launch_text state name parts.app.meta parts.app.points
    parts.runtime.points (last_command options) grants

-- The launch of an application with these parts and options
unfoldable pub launch_of : State → Ref → List (List ℕ) → LaunchParts → LaunchText
launch_of state name options parts =
    record {
      text = text_with state name options parts (grants_with state name options parts);
      grants = grants_with state name options parts;
    }

-- The launch of an application with these parts, unless they were refused
abbrev pub with_parts : State → Ref → List (List ℕ) → Result LaunchParts Refusal
    → Result LaunchText Refusal
with_parts state name options (Ok parts) = Ok (launch_of state name options parts)
with_parts state name options (Err refusal) = Err refusal

-- The launch of an installed application, or the first refusal: the application isn't installed,
-- its metadata isn't valid, its runtime isn't installed, or the runtime's metadata isn't valid
unfoldable pub launch_in : DeployedFiles → State → Ref → List (List ℕ) → Result LaunchText Refusal
launch_in files state name options = with_parts state name options (parts_in files state name)
