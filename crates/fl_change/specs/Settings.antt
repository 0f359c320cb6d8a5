-- The refusals of changes of the settings.
use Rattle.std.specs.Prelude.{ℕ, ◌+◌, List, length, nat_le, find, Option, Some, None, option_map, if◌then◌else◌}
use Rattle.std.specs.Str.{bytes_eq}
use Rattle.fp_base.specs.declared.what.What.TheVariants.{Pins, Remotes}
use Rattle.fp_name.specs.Refs.{Ref}
use Rattle.fp_small.specs.Config.{name_of}
use Rattle.fp_small.specs.Order.{has_name}
use Rattle.fp_small.specs.declared.limits.TheConstants.{MOST_PINS, MOST_REMOTES}
use Rattle.fp_small.specs.declared.state.State.{State}
use Rattle.fp_small.specs.declared.state.RefRow.{RefRow}
use Rattle.fp_small.specs.declared.state.RemoteRow.{RemoteRow}
use Rattle.fp_small.specs.declared.refusal.Refusal.{Refusal}
use Rattle.fp_small.specs.declared.refusal.Refusal.TheVariants.{NoSuchRemote, RemoteExists, RemoteInUse, PinExists, NoSuchPin, Limit}
use Rattle.fl_meta.specs.Names.{is_among}

-- The refusal of adding a pin that exists, or one more than 1,024
abbrev pub add_pin_refusal : List (List ℕ) → List ℕ → Option Refusal
add_pin_refusal pins pin = if is_among pins pin then Some (PinExists pin)
    else (if nat_le MOST_PINS (length pins) then Some (Limit Pins (MOST_PINS + 1)) else None)

-- The refusal of dropping a pin that doesn't exist
abbrev pub drop_pin_refusal : List (List ℕ) → List ℕ → Option Refusal
drop_pin_refusal pins pin = if is_among pins pin then None else Some (NoSuchPin pin)

-- The refusal of adding a remote whose name exists, or one more than 256
abbrev pub add_remote_refusal : List RemoteRow → List ℕ → Option Refusal
add_remote_refusal remotes name = if has_name name_of remotes name then Some (RemoteExists name)
    else (if nat_le MOST_REMOTES (length remotes)
    then Some (Limit Remotes (MOST_REMOTES + 1)) else None)

-- The refusal for a remote that doesn't exist
abbrev pub remote_refusal : List RemoteRow → List ℕ → Option Refusal
remote_refusal remotes name =
    if has_name name_of remotes name then None else Some (NoSuchRemote name)

-- The first of these rows' refs that comes from the remote
abbrev pub first_from : List ℕ → List RefRow → Option Ref
first_from remote rows =
    option_map (λ row. row.name) (find (λ row. bytes_eq row.origin remote) rows)

-- The refusal of dropping a remote that this ref comes from; nothing if there is no such ref
abbrev pub in_use_refusal : List ℕ → Option Ref → Option Refusal
in_use_refusal remote name = option_map (RemoteInUse remote) name

-- The refusal of dropping a remote that doesn't exist or that a deployed ref comes from
abbrev pub drop_remote_refusal : State → List ℕ → Option Refusal
drop_remote_refusal s name = if has_name name_of s.remotes name
    then in_use_refusal name (first_from name s.refs) else Some (NoSuchRemote name)
