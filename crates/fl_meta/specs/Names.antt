-- The words of flatpak-metadata(5): the names of groups and keys, and the permissions of each list.
use Rattle.std.specs.Prelude.{ℕ, Bool, List, [], ◌∷◌, Option, Some, None, codes, if◌then◌else◌}
use Rattle.std.specs.List.{list_any, find}
use Rattle.std.specs.Str.{bytes_eq}
use Rattle.fl_meta.specs.declared.permission.PermList.{PermList}
use Rattle.fl_meta.specs.declared.permission.PermList.TheVariants as lists
use Rattle.fl_meta.specs.declared.permission.Value.{Value}
use Rattle.fl_meta.specs.declared.permission.Value.TheVariants as values

-- Tests whether a text is one of these
abbrev pub is_among : List (List ℕ) → List ℕ → Bool
is_among words text = list_any (bytes_eq text) words

-- The known names of `shared`
abbrev pub shared_names : List (List ℕ)
shared_names = codes "network" ∷ codes "ipc" ∷ []

-- The known names of `sockets`
abbrev pub socket_names : List (List ℕ)
socket_names = codes "x11" ∷ codes "wayland" ∷ codes "fallback-x11" ∷ codes "pulseaudio"
    ∷ codes "session-bus" ∷ codes "system-bus" ∷ codes "ssh-auth" ∷ codes "pcsc" ∷ codes "cups" ∷ []

-- The known names of `devices`
abbrev pub device_names : List (List ℕ)
device_names = codes "dri" ∷ codes "kvm" ∷ codes "shm" ∷ codes "all" ∷ []

-- The known names of `features`
abbrev pub feature_names : List (List ℕ)
feature_names = codes "devel" ∷ codes "multiarch" ∷ codes "bluetooth" ∷ codes "canbus"
    ∷ codes "per-app-dev-shm" ∷ []

-- The list of a name in the value of this list: the list itself if it knows the name, else that of
-- unknown names. The lists that have none know all names.
abbrev pub list_with : PermList → List ℕ → PermList
list_with lists.Shared name =
    if is_among shared_names name then lists.Shared else lists.UnknownShared
list_with lists.Sockets name =
    if is_among socket_names name then lists.Sockets else lists.UnknownSockets
list_with lists.Devices name =
    if is_among device_names name then lists.Devices else lists.UnknownDevices
list_with lists.Features name =
    if is_among feature_names name then lists.Features else lists.UnknownFeatures
list_with list name = list

-- The key of a list in the group `Context`; empty for a list that has a group of its own
abbrev pub key_of : PermList → List ℕ
key_of lists.Shared = codes "shared"
key_of lists.Sockets = codes "sockets"
key_of lists.Devices = codes "devices"
key_of lists.Features = codes "features"
key_of lists.Filesystems = codes "filesystems"
key_of lists.Persistent = codes "persistent"
key_of lists.UnknownShared = codes "unknown-shared"
key_of lists.UnknownSockets = codes "unknown-sockets"
key_of lists.UnknownDevices = codes "unknown-devices"
key_of lists.UnknownFeatures = codes "unknown-features"
key_of lists.UnknownSessionBus = codes "unknown-session-bus"
key_of lists.UnknownSystemBus = codes "unknown-system-bus"
key_of lists.Environment = []
key_of lists.SessionBus = []
key_of lists.SystemBus = []

-- The lists whose keys metadata and overrides have
abbrev pub metadata_lists : List PermList
metadata_lists = lists.Shared ∷ lists.Sockets ∷ lists.Devices ∷ lists.Features ∷ lists.Filesystems
    ∷ lists.Persistent ∷ []

-- The lists of unknown names, whose keys only overrides have
abbrev pub unknown_lists : List PermList
unknown_lists = lists.UnknownShared ∷ lists.UnknownSockets ∷ lists.UnknownDevices
    ∷ lists.UnknownFeatures ∷ lists.UnknownSessionBus ∷ lists.UnknownSystemBus ∷ []

-- The list among these with this key
abbrev pub with_key : List ℕ → List PermList → Option PermList
with_key key among = find (λ list. bytes_eq key (key_of list)) among

-- The list with this key in metadata and overrides
abbrev pub list_of_key : List ℕ → Option PermList
list_of_key key = with_key key metadata_lists

-- The list of unknown names with this key
abbrev pub list_of_unknown_key : List ℕ → Option PermList
list_of_unknown_key key = with_key key unknown_lists

-- The word of a level of a bus policy, or the text of a variable; empty for other values
abbrev pub word_of : Value → List ℕ
word_of (values.Text text) = text
word_of values.NoBus = codes "none"
word_of values.See = codes "see"
word_of values.Talk = codes "talk"
word_of values.Own = codes "own"
word_of value = []

-- The levels of a bus policy
abbrev pub levels : List Value
levels = values.NoBus ∷ values.See ∷ values.Talk ∷ values.Own ∷ []

-- The level with this word
abbrev pub level_of : List ℕ → Option Value
level_of text = find (λ level. bytes_eq text (word_of level)) levels

-- The access of a filesystem with this ending, such as `ro` in `/srv:ro`
abbrev pub access_of : List ℕ → Option Value
access_of text =
    if bytes_eq text (codes "ro") then Some values.Ro
    else (if bytes_eq text (codes "rw") then Some values.Rw
    else (if bytes_eq text (codes "create") then Some values.Create else None))
