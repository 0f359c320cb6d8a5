-- Calls to the bus itself (xdg-dbus-proxy(1)).
use Rattle.std.specs.Prelude.{ℕ, Bool, true, false, ◌||◌, ◌&&◌, if◌then◌else◌, List, [], ◌∷◌, codes, is_none, unwrap_or}
use Rattle.std.specs.List.{list_any}
use Rattle.std.specs.Str.{bytes_eq}
use Rattle.bus_frame.specs.declared.header.Header.{Header}
use Rattle.bus_frame.specs.declared.names.TheConstants.{BUS_NAME}
use Rattle.bus_rules.specs.Rules.{says}
use Rattle.bus_policy.specs.declared.driver.Handler.{Handler}
use Rattle.bus_policy.specs.declared.driver.Handler.TheVariants as handler
use Rattle.bus_policy.specs.declared.driver.TheConstants.{INTROSPECTABLE, PEER}
use Rattle.bus_policy.specs.declared.level.Level.TheVariants as level

-- The name of the bus itself
abbrev pub driver : List ℕ
driver = BUS_NAME.now

-- Tests whether a message is for the bus: its destination is the bus's name or is missing
abbrev pub is_to_driver : Header → Bool
is_to_driver h = is_none h.destination || says h.destination driver

-- The interface of a call; the bus's own interface if none is named
abbrev pub called_interface : Header → List ℕ
called_interface h = unwrap_or h.interface driver

-- The member of a call; empty if none is named
abbrev pub called_member : Header → List ℕ
called_member h = unwrap_or h.member []

-- Tests whether a name is in a list
abbrev pub is_among : List ℕ → List (List ℕ) → Bool
is_among name = list_any (bytes_eq name)

-- The decision for a call of the bus's own interface, by its member
abbrev pub own_handler : List ℕ → Handler
own_handler member =
    if is_among member (codes "Hello" ∷ codes "RemoveMatch" ∷ codes "GetId" ∷ []) then handler.Pass
    else (if is_among member (codes "ListNames" ∷ codes "ListActivatableNames" ∷ [])
    then handler.FilterNameListReply
    else (if is_among member (codes "AddMatch" ∷ []) then handler.ValidateMatch
    else (if is_among member
    (codes "NameHasOwner" ∷ codes "GetNameOwner" ∷ codes "GetConnectionUnixProcessID"
    ∷ codes "GetConnectionUnixUser" ∷ codes "GetConnectionCredentials" ∷ [])
    then handler.Validate level.See
    else (if is_among member (codes "StartServiceByName" ∷ []) then handler.Validate level.Talk
    else (if is_among member
    (codes "RequestName" ∷ codes "ReleaseName" ∷ codes "ListQueuedOwners" ∷ [])
    then handler.Validate level.Own
    else handler.Deny)))))

-- The decision for a call of another interface of the bus
abbrev pub other_handler : (interface member : List ℕ) → Handler
other_handler interface member =
    if (bytes_eq interface INTROSPECTABLE.now
    && bytes_eq member (codes "Introspect"))
    || (bytes_eq interface PEER.now
    && (bytes_eq member (codes "Ping") || bytes_eq member (codes "GetMachineId"))) then handler.Pass
    else handler.Deny

-- The decision for a call to the bus
unfoldable pub handler_of : Header → Handler
handler_of h =
    if bytes_eq (called_interface h) driver then own_handler (called_member h)
    else other_handler (called_interface h) (called_member h)

-- Tests whether a decision filters the names of the reply
abbrev pub filters_reply : Handler → Bool
filters_reply handler.Pass = false
filters_reply handler.FilterNameListReply = true
filters_reply handler.ValidateMatch = false
filters_reply (handler.Validate level) = false
filters_reply handler.Deny = false

-- Tests whether a call is for the bus and lists its names
abbrev pub is_listing : Header → Bool
is_listing h = is_to_driver h && filters_reply (handler_of h)
