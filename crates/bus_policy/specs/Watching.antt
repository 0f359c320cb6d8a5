-- The knowledge after events, and that a watch has it.
use Rattle.std.specs.Prelude.{◌≡◌, ℕ, ◌+◌, Bool, true, false, ◌||◌, ◌&&◌, ◌==◌, not, if◌then◌else◌, List, [], ◌∷◌, map, nat_eq, nat_le, Option, Some, None, is_some}
use Rattle.indexmap.specs.IndexMap.{get, get_by_text, index_map_len}
use Rattle.indexmap.specs.IndexSet as set
use Rattle.std.specs.List.{list_any}
use Rattle.std.specs.Str.{bytes_eq}
use Rattle.bus_frame.specs.declared.header.Header.{Header}
use Rattle.fp_base.specs.declared.side.Side.{Side}
use Rattle.bus_rules.specs.Rules.{says}
use Rattle.bus_policy.specs.declared.level.Level.{Level}
use Rattle.bus_policy.specs.declared.level.Level.TheVariants as level
use Rattle.bus_policy.specs.declared.policy.RuleKind.{RuleKind}
use Rattle.bus_policy.specs.declared.policy.PolicyRule.{PolicyRule}
use Rattle.bus_policy.specs.declared.peer.Peer.{Peer}
use Rattle.bus_policy.specs.declared.calls.ClientCalls.{ClientCalls}
use Rattle.bus_policy.specs.declared.calls.WaitingCalls.{WaitingCalls}
use Rattle.bus_policy.specs.declared.watch.Watch.{Watch}
use Rattle.bus_policy.specs.declared.peer.RawNews.{RawNews}
use Rattle.bus_policy.specs.declared.peer.RawNews.TheVariants as raw
use Rattle.bus_policy.specs.declared.verdict.Verdict.{Verdict}
use Rattle.bus_policy.specs.Levels.{greater, rules_level, allows, pattern_matches}
use Rattle.bus_policy.specs.Events.{Event, Judged, is_unique_like, is_call, wants_no_reply, is_forwarded, name_given, names_of, is_addressed_by, has_written, is_bus_call, is_client_reply, was_used, client_waits, names_wait, is_reused, peer_waits}
use Rattle.bus_policy.specs.Driver.{driver}
use Rattle.bus_policy.specs.Verdicts.{Sight, verdict_in}

-- ---- the knowledge

-- The level that the rules give to a name that a peer had; `None` for a unique name
abbrev pub name_level : List PolicyRule → List ℕ → Level
name_level rules name = if is_unique_like name then level.None else rules_level rules name

-- The greatest level that the rules give to some names
abbrev pub names_level : List PolicyRule → List (List ℕ) → Level
names_level rules [] = level.None
names_level rules (name ∷ names) = greater (name_level rules name) (names_level rules names)

-- The level if the test holds, else `None`
abbrev pub level_if : Bool → Level → Level
level_if b l = if b then l else level.None

-- The level of a name: the bus has `Talk`; a unique name has one by the names that it had, whether
-- it wrote to the client, and whether it is the client's; and another name has one by the rules
abbrev pub level_by_parts : List PolicyRule → Option (List ℕ) → List ℕ → Level → Bool → Level
level_by_parts rules client name had wrote =
    if bytes_eq name driver then level.Talk
    else (if is_unique_like name
    then greater had (greater (level_if wrote level.See) (level_if (says client name) level.Talk))
    else rules_level rules name)

-- Well-known names with their owners' unique names
abbrev pub Owners : Type 0
Owners = List (List ℕ × List ℕ)

-- The level of a name after events
abbrev pub level_after : List PolicyRule → Option (List ℕ) → Owners → List Judged → List ℕ → Level
level_after rules client owners noted name =
    level_by_parts rules client name (names_level rules (names_of owners noted name))
    (has_written noted name)

-- Tests whether a rule's pattern matches a peer or a name that the peer had
abbrev pub is_meant : List (List ℕ) → List ℕ → PolicyRule → Bool
is_meant names peer rule =
    pattern_matches rule.pattern peer || list_any (pattern_matches rule.pattern) names

-- Tests whether a rule lets a call to a peer, or a broadcast of a peer, pass after events
abbrev pub leave_after : List PolicyRule → Owners → List Judged → RuleKind → List ℕ → Header → Bool
leave_after rules owners noted kind peer header =
    list_any (λ rule. allows kind header rule.grant
    && is_meant (names_of owners noted peer) peer rule) rules

-- The waiting calls of the client with a serial, by their properties
abbrev pub calls_by : (waits list_names reused : Bool) → Option WaitingCalls
calls_by waits list_names reused =
    if waits then Some (record { list_names = list_names; reused = reused }) else None

-- The waiting calls of the client with a serial after events
abbrev pub calls_after : List Judged → ℕ → Option WaitingCalls
calls_after noted serial =
    calls_by (client_waits noted serial) (names_wait noted serial) (is_reused noted serial)

-- The knowledge after events
abbrev pub sight_after : List PolicyRule → Option (List ℕ) → Owners → List Judged → Sight
sight_after rules client owners noted = record {
  level_of = level_after rules client owners noted;
  gives_leave = leave_after rules owners noted;
  calls_waiting = calls_after noted;
  peer_waits = peer_waits noted;
}

-- The verdict on a message after events
abbrev pub verdict_after : List PolicyRule → Option (List ℕ) → Owners → List Judged
    → Event → Verdict
verdict_after rules client owners noted e = verdict_in (sight_after rules client owners noted) e

-- The events of a filter, the latest first, each with the filter's verdict
abbrev pub judged : List PolicyRule → Option (List ℕ) → Owners → List Event → List Judged
judged rules client owners [] = []
judged rules client owners (e ∷ before) =
    let noted = judged rules client owners before in
    record { event = e; verdict = verdict_after rules client owners noted e } ∷ noted

-- ---- the knowledge of a watch

-- The rules of a watch's policy
abbrev pub rules_of : {S H : Type 0} → Watch S H → List PolicyRule
rules_of w = w.policy

-- The client's name, if the watch has it
abbrev pub client_of : {S H : Type 0} → Watch S H → Option (List ℕ)
client_of w = w.client

-- The facts known of a peer: the level of the names that it had, whether it wrote to the client,
-- for each rule whether its pattern matches a name that it had, and which of its calls wait
pub record Known : Type 0 where
  pub had : Level
  pub wrote : Bool
  pub meant : List Bool
  pub waits : ℕ → Bool

-- The facts known of a peer before any event about it
abbrev pub unknown : List PolicyRule → Known
unknown rules = record {
  had = level.None;
  wrote = false;
  meant = map (λ rule. false) rules;
  waits = λ serial. false;
}

-- The facts that a watch stores of a peer
abbrev pub known_of : {S H : Type 0} → List PolicyRule → Option (Peer S H) → Known
known_of rules None = unknown rules
known_of rules (Some peer) = record {
  had = peer.had;
  wrote = peer.wrote;
  meant = peer.meant.items;
  waits = λ serial. set.contains nat_eq peer.waiting serial;
}

-- The facts known of a peer by the names that it had
abbrev pub known_by : List PolicyRule → List (List ℕ) → Bool → (ℕ → Bool) → Known
known_by rules names wrote waits = record {
  had = names_level rules names;
  wrote = wrote;
  meant = map (λ rule. list_any (pattern_matches rule.pattern) names) rules;
  waits = waits;
}

-- The facts known of a peer after events
abbrev pub known_after : List PolicyRule → Owners → List Judged → List ℕ → Known
known_after rules owners noted name =
    known_by rules (names_of owners noted name) (has_written noted name) (peer_waits noted name)

-- The flags, each set if it was set or `test` holds for its rule
abbrev pub or_each : (PolicyRule → Bool) → List PolicyRule → List Bool → List Bool
or_each test [] flags = flags
or_each test (rule ∷ rules) [] = []
or_each test (rule ∷ rules) (flag ∷ flags) = (test rule || flag) ∷ or_each test rules flags

-- The facts known of a peer with one more name
abbrev pub with_name : List PolicyRule → List ℕ → Known → Known
with_name rules name k = record k {
  had = greater (name_level rules name) k.had;
  meant = or_each (λ rule. pattern_matches rule.pattern name) rules k.meant;
}

-- The facts known of a peer after a message to the client
abbrev pub with_message : Known → Known
with_message k = record k { wrote = true }

-- The facts known of a peer with one more waiting call
abbrev pub with_call : ℕ → Known → Known
with_call serial k = record k { waits = λ n. if serial == n then true else k.waits n }

-- The facts known of a peer without the waiting call of a serial
abbrev pub without_call : ℕ → Known → Known
without_call serial k = record k { waits = λ n. if serial == n then false else k.waits n }

-- A change, if the test holds
abbrev pub changed_if : Bool → (Known → Known) → Known → Known
changed_if b change k = if b then change k else k

-- The facts known of a peer after a message, if it was for the client
abbrev pub with_message_if : Bool → Known → Known
with_message_if true k = with_message k
with_message_if false k = k

-- The facts known of a peer with one more waiting call, if there is a serial
abbrev pub with_call_if : Option ℕ → Known → Known
with_call_if None k = k
with_call_if (Some serial) k = with_call serial k

-- The facts known of a peer after one more event: a name that it has now, or a message, which may
-- be for the client and a call that waits
abbrev pub with_news : List PolicyRule → RawNews → Known → Known
with_news rules (raw.Name name) k = with_name rules name.now k
with_news rules (raw.Message wrote call) k = with_message_if wrote (with_call_if call k)

-- Tests whether a rule's pattern matches a name
abbrev pub speaks_of : List PolicyRule → List ℕ → Bool
speaks_of rules name = list_any (λ rule. pattern_matches rule.pattern name) rules

-- Tests whether an event can add something to what is known of a peer
abbrev pub tells : List PolicyRule → RawNews → Bool
tells rules (raw.Name name) = speaks_of rules name.now
tells rules (raw.Message wrote call) = wrote || is_some call

-- The facts known of a peer with one more name, if there is a name
abbrev pub with_name_if : List PolicyRule → Option (List ℕ) → Known → Known
with_name_if rules None k = k
with_name_if rules (Some name) k = with_name rules name k

-- The name that an event gives to a peer with a unique name
abbrev pub name_told : List ℕ → Judged → Option (List ℕ)
name_told peer j = if is_unique_like peer then name_given peer j.event else None

-- The facts known of a peer after one more event
abbrev pub with_event : List PolicyRule → Judged → List ℕ → Known → Known
with_event rules j peer k = record (with_name_if rules (name_told peer j) k) {
  wrote = (is_unique_like peer && is_addressed_by peer j.event) || k.wrote;
  waits = λ serial. if is_bus_call peer serial j then true
      else (if is_client_reply peer serial j then false else k.waits serial);
}

-- The serial of a message that is a forwarded call and expects a reply
abbrev pub waiting_call : Header → Verdict → Option ℕ
waiting_call h verdict =
    if is_call h && not (wants_no_reply h) && is_forwarded verdict then Some h.serial else None

-- An event with its verdict
abbrev pub judged_event : Side → Header → List ℕ → Verdict → Judged
judged_event side header bytes verdict =
    record { event = record { side = side; header = header; bytes = bytes }; verdict = verdict }

-- Tests whether there is a highest serial so far, and it is this serial or above it
abbrev pub is_up_to : Option ℕ → ℕ → Bool
is_up_to None serial = false
is_up_to (Some highest) serial = nat_le serial highest

-- The waiting calls with a serial after one more call: `silent` if it expects no reply, `lists` if
-- it lists names, `used` if the serial was used before
abbrev pub calls_with : (silent lists used : Bool) → Option WaitingCalls → Option WaitingCalls
calls_with true lists used None = None
calls_with true lists used (Some calls) = Some (record calls { reused = used })
calls_with false lists used None = Some (record { list_names = lists; reused = used })
calls_with false lists used (Some calls) =
    Some (record { list_names = calls.list_names || lists; reused = used })

-- The waiting calls of the client are those after these events, and the highest serial is that of
-- its forwarded calls
pub record CallsAt {S H : Type 0} (calls : ClientCalls S H) (noted : List Judged) : Type 0 where
  pub waiting : (serial : ℕ) → get nat_eq calls.waiting serial ≡ calls_after noted serial
  pub used : (serial : ℕ) → is_up_to calls.highest serial ≡ was_used noted serial

-- No peer is stored of which nothing is known
abbrev pub KeepsKnown : {S H : Type 0} → List PolicyRule → (List ℕ → Option (Peer S H)) → Type 0
KeepsKnown rules peers =
    (name : List ℕ) → known_of rules (peers name) ≡ unknown rules → peers name ≡ None

-- A watch has the knowledge after these events
pub record WatchAt {S H : Type 0} (w : Watch S H) (owners : Owners) (noted : List Judged) : Type 0
  where
    pub peers : (name : List ℕ) → known_of (rules_of w) (get_by_text w.peers name)
        ≡ known_after (rules_of w) owners noted name
    pub kept : KeepsKnown (rules_of w) (get_by_text w.peers)
    pub calls : CallsAt w.calls noted

-- The number of stored peers and of serials with waiting calls of the client
abbrev pub count_kept : {S H : Type 0} → Watch S H → ℕ
count_kept w = index_map_len w.peers + index_map_len w.calls.waiting

-- ---- the answers of a watch

-- Tests whether a rule lets a call to a peer, or a broadcast of a peer, pass; each flag is true if
-- the rule's pattern matches a name that the peer had
abbrev pub any_leave : RuleKind → List ℕ → Header → List PolicyRule → List Bool → Bool
any_leave kind peer header [] meant = false
any_leave kind peer header (rule ∷ rules) [] =
    (allows kind header rule.grant && pattern_matches rule.pattern peer)
    || any_leave kind peer header rules []
any_leave kind peer header (rule ∷ rules) (m ∷ meant) =
    (allows kind header rule.grant && (pattern_matches rule.pattern peer || m))
    || any_leave kind peer header rules meant

-- The knowledge before an event, by the facts known of the peers and of the client's calls
abbrev pub sight_by : List PolicyRule → Option (List ℕ) → (List ℕ → Known)
    → (ℕ → Option WaitingCalls) → Sight
sight_by rules client known calls = record {
  level_of = λ name. level_by_parts rules client name (known name).had (known name).wrote;
  gives_leave = λ kind peer header. any_leave kind peer header rules (known peer).meant;
  calls_waiting = calls;
  peer_waits = λ peer serial. (known peer).waits serial;
}

-- The knowledge that a watch has
unfoldable pub sight_of : {S H : Type 0} → Watch S H → Sight
sight_of w = sight_by (rules_of w) (client_of w)
    (λ name. known_of (rules_of w) (get_by_text w.peers name))
    (λ serial. get nat_eq w.calls.waiting serial)

-- A message that a side sent, with its header
abbrev pub event : Side → Header → List ℕ → Event
event side header bytes = record { side = side; header = header; bytes = bytes }
