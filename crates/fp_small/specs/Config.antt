-- The file `config`: the remotes and the pins of an installation of layout 2, as a key file.
use Rattle.std.specs.Prelude.{◌≡◌, ◌≤◌, ℕ, Bool, true, false, ◌&&◌, ◌||◌, ◌-◌, nat_le, List, [], ◌∷◌, ◌++◌, length, take, drop, map, codes, Option, Some, None, Result, Ok, Err, if◌then◌else◌}
use Rattle.std.specs.List.{list_all, list_any, filter_map}
use Rattle.std.specs.Option.{option_and_then, is_some}
use Rattle.std.specs.Str.{bytes_eq}
use Rattle.fp_host.specs.Reads.{is_ascending}
use Rattle.fp_name.specs.Grammar.{is_remote_name, is_url}
use Rattle.fp_name.specs.Pins.{is_pin}
use Rattle.fp_keyfile.specs.declared.group.Pair.{Pair}
use Rattle.fp_keyfile.specs.declared.group.Group.{Group}
use Rattle.fp_keyfile.specs.declared.fault.KeyFault.{KeyFault}
use Rattle.fp_keyfile.specs.KeyFile.{file_of, text_of, keys_at}
use Rattle.fp_small.specs.Order.{sorted_by}
use Rattle.fp_small.specs.declared.limits.TheConstants.{MOST_REMOTES, MOST_PINS}
use Rattle.fp_small.specs.declared.state.RemoteRow.{RemoteRow}
use Rattle.fp_small.specs.declared.config.Settings.{Settings}

-- The name of a remote
abbrev pub name_of : RemoteRow → List ℕ
name_of row = row.name

-- ---- reading

-- Tests whether the pairs are exactly this one
abbrev pub is_pair : List Pair → List ℕ → List ℕ → Bool
is_pair [] key value = false
is_pair (p ∷ []) key value = bytes_eq p.key key && bytes_eq p.value value
is_pair (p ∷ q ∷ pairs) key value = false

-- Tests whether a group is `installation` with exactly the pair `layout=2`
abbrev pub is_layout : Group → Bool
is_layout g = bytes_eq g.name (codes "installation") && is_pair g.pairs (codes "layout") (codes "2")

-- Tests whether a pair is a pin: a pattern with the value `true`
abbrev pub is_pin_pair : Pair → Bool
is_pin_pair p = is_pin p.key && bytes_eq p.value (codes "true")

-- Tests whether a group is `pins` and has only pins
abbrev pub is_pins : Group → Bool
is_pins g = bytes_eq g.name (codes "pins") && list_all is_pin_pair g.pairs

-- The text before the NAME in a header `remote "NAME"`
abbrev pub remote_front : List ℕ
remote_front = codes "remote \""

-- Tests whether a header is `remote "NAME"`, whatever NAME is
abbrev pub is_quoted : List ℕ → Bool
is_quoted header = nat_le 9 (length header) && bytes_eq (take 8 header) remote_front
    && bytes_eq (drop (length header - 1) header) (codes "\"")

-- The NAME of a header `remote "NAME"`; nothing for any other header
abbrev pub quoted_name : List ℕ → Option (List ℕ)
quoted_name header =
    if is_quoted header then Some (take (length header - 9) (drop 8 header)) else None

-- The remote with a valid name and exactly the pair `url=URL` with a valid URL; else nothing
abbrev pub row_of : List ℕ → List Pair → Option RemoteRow
row_of name [] = None
row_of name (p ∷ []) = if bytes_eq p.key (codes "url") && is_remote_name name && is_url p.value
    then Some (record { name = name; url = p.value }) else None
row_of name (p ∷ q ∷ pairs) = None

-- The remote that a group defines; nothing if it defines none
unfoldable pub remote_of : Group → Option RemoteRow
remote_of g = option_and_then (λ name. row_of name g.pairs) (quoted_name g.name)

-- Tests whether a group may be in a `config`: it is the layout, the pins or a remote
abbrev pub is_part : Group → Bool
is_part g = is_layout g || is_pins g || is_some (remote_of g)

-- The remotes that groups define, in order
abbrev pub remotes_in : List Group → List RemoteRow
remotes_in file = filter_map remote_of file

-- The pins of the group `pins`, in order; none if there is no such group
abbrev pub pins_in : List Group → List (List ℕ)
pins_in file = keys_at file (codes "pins")

-- Tests whether groups are a `config`: one is the layout, each is the layout, the pins or a remote,
-- and there are at most 256 remotes and 1,024 pins
unfoldable pub is_config : List Group → Bool
is_config file = list_any is_layout file && list_all is_part file
    && nat_le (length (remotes_in file)) MOST_REMOTES && nat_le (length (pins_in file)) MOST_PINS

-- The settings of the groups of a `config`, in order of their names; nothing for any other groups
abbrev pub settings_of : List Group → Option Settings
settings_of file = if is_config file
    then Some (record {
      remotes = sorted_by name_of (remotes_in file);
      pins = sorted_by (λ pin. pin) (pins_in file);
    }) else None

-- The settings of a parsed key file; nothing if it wasn't parsed
abbrev pub settings_read : Result (List Group) KeyFault → Option Settings
settings_read (Ok file) = settings_of file
settings_read (Err fault) = None

-- The settings that the bytes of a `config` parse to; nothing for any other bytes
unfoldable pub config_of : List ℕ → Option Settings
config_of bytes = settings_read (file_of bytes)

-- ---- writing

-- The group `installation`
abbrev pub layout_group : Group
layout_group = record {
  name = codes "installation";
  pairs = record { key = codes "layout"; value = codes "2" } ∷ [];
}

-- The group of a remote
abbrev pub remote_group : RemoteRow → Group
remote_group row = record {
  name = remote_front ++ (row.name ++ codes "\"");
  pairs = record { key = codes "url"; value = row.url } ∷ [];
}

-- The pair of a pin
abbrev pub pin_pair : List ℕ → Pair
pin_pair pin = record { key = pin; value = codes "true" }

-- The group `pins`; no group if there are no pins
abbrev pub pins_groups : List (List ℕ) → List Group
pins_groups [] = []
pins_groups (pin ∷ pins) = record { name = codes "pins"; pairs = map pin_pair (pin ∷ pins) } ∷ []

-- The groups of a `config` with these settings
abbrev pub config_file : Settings → List Group
config_file s = layout_group ∷ (map remote_group s.remotes ++ pins_groups s.pins)

-- The bytes of a `config` with these settings
unfoldable pub config_text : Settings → List ℕ
config_text s = text_of (config_file s)

-- ---- valid settings

-- Tests whether a remote's name and URL are valid
abbrev pub is_row : RemoteRow → Bool
is_row row = is_remote_name row.name && is_url row.url

-- Valid settings: the names, URLs and patterns are valid, remotes and pins ascend strictly, and
-- there are at most 256 remotes and 1,024 pins
pub record IsSettings (s : Settings) : Type 0 where
  pub rows : list_all is_row s.remotes ≡ true
  pub patterns : list_all is_pin s.pins ≡ true
  pub remotes_ascend : is_ascending (map name_of s.remotes) ≡ true
  pub pins_ascend : is_ascending s.pins ≡ true
  pub few_remotes : length s.remotes ≤ MOST_REMOTES
  pub few_pins : length s.pins ≤ MOST_PINS
