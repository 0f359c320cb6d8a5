-- The files `remotes.conf` and `pins` of an installation of layout 1.
use Rattle.std.specs.Prelude.{◌≡◌, ◌≤◌, ◌&&◌, ◌==◌, ℕ, Bool, true, nat_le, List, [], ◌∷◌, length, map, Option, Some, None, Result, Ok, Err, if◌then◌else◌}
use Rattle.std.specs.List.{list_all}
use Rattle.std.specs.Option.{is_some}
use Rattle.fp_keyfile.specs.declared.group.Group.{Group}
use Rattle.fp_keyfile.specs.declared.fault.KeyFault.{KeyFault}
use Rattle.fp_keyfile.specs.KeyFile.{file_of}
use Rattle.fp_keyfile.specs.Lines.{lines_of}
use Rattle.fp_small.specs.declared.limits.TheConstants.{MOST_REMOTES, MOST_PINS}
use Rattle.fp_small.specs.Config.{remote_of, remotes_in, name_of, is_row}
use Rattle.fp_host.specs.Reads.{is_ascending}
use Rattle.fp_name.specs.Pins.{is_pin}
use Rattle.fp_small.specs.Order.{sorted_by}
use Rattle.fp_small.specs.declared.state.RemoteRow.{RemoteRow}

-- ---- `remotes.conf`: a key file

-- Tests whether groups are a `remotes.conf`: each is a remote, and there are at most 256
abbrev pub are_remotes : List Group → Bool
are_remotes file =
    list_all (λ g. is_some (remote_of g)) file && nat_le (length (remotes_in file)) MOST_REMOTES

-- The remotes of the groups of a `remotes.conf`, in order of their names; nothing for any other
-- groups
abbrev pub remotes_seen : List Group → Option (List RemoteRow)
remotes_seen file = if are_remotes file then Some (sorted_by name_of (remotes_in file)) else None

-- The remotes of a parsed key file; nothing if it wasn't parsed
abbrev pub remotes_read : Result (List Group) KeyFault → Option (List RemoteRow)
remotes_read (Ok file) = remotes_seen file
remotes_read (Err fault) = None

-- The remotes that the bytes of a `remotes.conf` parse to; nothing for any other bytes
unfoldable pub remotes_of : List ℕ → Option (List RemoteRow)
remotes_of bytes = remotes_read (file_of bytes)

-- ---- `pins`: one pattern a line

-- Tests whether the last byte is a newline; true if there are no bytes
abbrev pub is_ended : List ℕ → Bool
is_ended [] = true
is_ended (b ∷ []) = b == 10
is_ended (b ∷ c ∷ bytes) = is_ended (c ∷ bytes)

-- Tests whether lines are patterns, strictly ascending, and at most 1,024
abbrev pub are_pins : List (List ℕ) → Bool
are_pins lines = list_all is_pin lines && (is_ascending lines && nat_le (length lines) MOST_PINS)

-- The pins that the bytes of a `pins` parse to; nothing for any other bytes
unfoldable pub pins_of : List ℕ → Option (List (List ℕ))
pins_of bytes = if is_ended bytes && are_pins (lines_of bytes) then Some (lines_of bytes) else None

-- ---- valid remotes and pins

-- Valid remotes: their names and URLs are valid, they ascend strictly, and there are at most 256
pub record AreRows (rows : List RemoteRow) : Type 0 where
  pub good : list_all is_row rows ≡ true
  pub ascend : is_ascending (map name_of rows) ≡ true
  pub few : length rows ≤ MOST_REMOTES

-- Valid pins: they are patterns, ascend strictly, and are at most 1,024
pub record ArePatterns (pins : List (List ℕ)) : Type 0 where
  pub good : list_all is_pin pins ≡ true
  pub ascend : is_ascending pins ≡ true
  pub few : length pins ≤ MOST_PINS
