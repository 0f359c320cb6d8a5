-- Laws of what a filter lets through, after any events with any verdicts.
use Rattle.std.specs.Prelude.{◌≡◌, ◌⊎◌, ℕ, Bool, true, false, ◌&&◌, not, if◌then◌else◌, List, [], ◌∷◌, ◌++◌, Option, Some, None, is_some}
use Rattle.std.specs.List.{list_any}
use Rattle.bus_frame.specs.declared.header.Header.{Header}
use Rattle.bus_frame.specs.Bodies.{three_texts, names_in}
use Rattle.bus_policy.specs.declared.level.Level.{Level}
use Rattle.bus_policy.specs.declared.level.Level.TheVariants as level
use Rattle.bus_policy.specs.declared.policy.RuleKind.{RuleKind}
use Rattle.bus_policy.specs.declared.policy.PolicyRule.{PolicyRule}
use Rattle.bus_policy.specs.declared.verdict.Verdict.{Verdict}
use Rattle.bus_policy.specs.declared.verdict.Verdict.TheVariants as verdict
use Rattle.bus_policy.specs.Levels.{is_at_least}
use Rattle.bus_policy.specs.Driver.{is_listing}
use Rattle.bus_policy.specs.Events.{Event, Judged, is_bus_side, is_call, is_return, is_reply, wants_no_reply, tells_owner, is_forwarded, is_sent, is_sent_as, is_client_call, is_bus_reply, was_used, client_waits, names_wait, peer_waits}
use Rattle.bus_policy.specs.Verdicts.{is_of_driver, is_list}
use Rattle.bus_policy.specs.Watching.{Owners, unknown, known_after, level_after, leave_after, verdict_after}

-- `Fact` holds for each message, after any events, under any policy
abbrev pub OfEach : (List PolicyRule → Option (List ℕ) → Owners → List Judged → Event → Type 0) → Type 0
OfEach Fact =
    (rules : List PolicyRule) (client : Option (List ℕ)) (owners : Owners) (noted : List Judged)
    (e : Event) → Fact rules client owners noted e

-- ---- replies

-- A call of the client with this serial waits for a reply: it was forwarded and expects one, and no
-- reply was forwarded since
pub record Awaits (noted : List Judged) (serial : ℕ) : Type 0 where
  pub since : List Judged
  pub call : Judged
  pub before : List Judged
  pub parts : noted ≡ since ++ call ∷ before
  pub is : is_client_call serial call ≡ true
  pub none : list_any (is_bus_reply serial) since ≡ false

-- A message is the reply to a waiting call
abbrev pub AnswersCall : List Judged → Event → Type 0
AnswersCall noted e = (serial : ℕ) × (e.header.reply_serial ≡ Some serial) × Awaits noted serial

-- A return or an error of the bus's side is forwarded only to a call that waits for it
abbrev pub RepliesAreAwaited : Type 0
RepliesAreAwaited = OfEach (λ rules client owners noted e.
    is_bus_side e.side ≡ true → is_reply e.header ≡ true
    → is_forwarded (verdict_after rules client owners noted e) ≡ true → AnswersCall noted e)

-- Tests whether a verdict is an error of the filter's own
abbrev pub is_refusal : Verdict → Bool
is_refusal verdict.Pass = false
is_refusal verdict.FilterNameList = false
is_refusal verdict.Deny = true
is_refusal verdict.Hide = true
is_refusal verdict.Drop = false

-- A message is a call of the client that expects a reply
abbrev pub IsRefusedCall : Event → Type 0
IsRefusedCall e = (is_bus_side e.side ≡ false) × (is_call e.header ≡ true)
    × (wants_no_reply e.header ≡ false)

-- The filter's own errors answer only calls of the client that expect a reply
abbrev pub RefusalsAnswerCalls : Type 0
RefusalsAnswerCalls = OfEach (λ rules client owners noted e.
    is_refusal (verdict_after rules client owners noted e) ≡ true → IsRefusedCall e)

-- ---- lists of names

-- A message is a return of the bus itself with this reply serial
pub record IsReturn (e : Event) (serial : ℕ) : Type 0 where
  pub side : is_bus_side e.side ≡ true
  pub is : is_return e.header ≡ true
  pub driver : is_of_driver e.header ≡ true
  pub answers : e.header.reply_serial ≡ Some serial

-- Tests whether a forwarded call of the client with a serial ever listed names
abbrev pub has_listed : List Judged → ℕ → Bool
has_listed noted serial = list_any (λ j. is_sent_as serial j && is_listing j.event.header) noted

-- A return of the bus to a serial with which the client ever listed names passes unchanged only if
-- it isn't a list
abbrev pub NamesStayFiltered : Type 0
NamesStayFiltered = OfEach (λ rules client owners noted e. (serial : ℕ)
    → IsReturn e serial → has_listed noted serial ≡ true
    → verdict_after rules client owners noted e ≡ verdict.Pass → is_list e.header ≡ false)

-- Each forwarded call of the client has a higher serial than those before it
abbrev pub Rising : List Judged → Type 0
Rising [] = Unit {0}
Rising (j ∷ before) =
    (is_sent j ≡ true → was_used before j.event.header.serial ≡ false) × Rising before

-- The verdict on a return of the bus, if only the waiting calls decide: the names are filtered if
-- one of the calls lists names
abbrev pub return_by_calls : List Judged → Event → ℕ → Verdict
return_by_calls noted e serial =
    if not (client_waits noted serial) then verdict.Drop
    else (if not (names_wait noted serial) then verdict.Pass
    else (if is_some (names_in e.header e.bytes) then verdict.FilterNameList
    else verdict.Drop))

-- If the client's serials rise, only the waiting calls decide the verdict on a return of the bus
abbrev pub RisingSerialsLoseNothing : Type 0
RisingSerialsLoseNothing = OfEach (λ rules client owners noted e. (serial : ℕ)
    → Rising noted → IsReturn e serial
    → verdict_after rules client owners noted e ≡ return_by_calls noted e serial)

-- Tests whether a message is a reply but not a return of the bus: an error, or a return of a peer
abbrev pub is_plain_reply : Header → Bool
is_plain_reply h = is_reply h && not (is_return h && is_of_driver h)

-- A reply that isn't a return of the bus passes if a call waits for it, else it is dropped
abbrev pub OthersPassOnce : Type 0
OthersPassOnce = OfEach (λ rules client owners noted e. (serial : ℕ)
    → is_bus_side e.side ≡ true → is_plain_reply e.header ≡ true
    → e.header.reply_serial ≡ Some serial
    → verdict_after rules client owners noted e
    ≡ (if client_waits noted serial then verdict.Pass else verdict.Drop))

-- ---- names

-- A name that has a level still has it after one more event
abbrev pub LevelsStay : Type 0
LevelsStay = (rules : List PolicyRule) (client : Option (List ℕ)) (owners : Owners)
    (noted : List Judged) (later : Judged) (wanted : Level) (name : List ℕ)
    → is_at_least wanted (level_after rules client owners noted name) ≡ true
    → is_at_least wanted (level_after rules client owners (later ∷ noted) name) ≡ true

-- A signal `NameOwnerChanged` is dropped if the client may not see the name
abbrev pub HiddenOwnersAreUntold : Type 0
HiddenOwnersAreUntold = OfEach (λ rules client owners noted e. (name old new : List ℕ)
    → is_bus_side e.side ≡ true → tells_owner e.header ≡ true
    → three_texts e.header e.bytes ≡ Some (name, old, new)
    → is_at_least level.See (level_after rules client owners noted name) ≡ false
    → verdict_after rules client owners noted e ≡ verdict.Drop)

-- A signal `NameOwnerChanged` is dropped if its body isn't three strings
abbrev pub BadOwnersAreUntold : Type 0
BadOwnersAreUntold = OfEach (λ rules client owners noted e.
    is_bus_side e.side ≡ true → tells_owner e.header ≡ true → three_texts e.header e.bytes ≡ None
    → verdict_after rules client owners noted e ≡ verdict.Drop)

-- ---- what needn't be stored

-- Nothing is known of a name
abbrev pub IsUnheardOf : List PolicyRule → Owners → List Judged → List ℕ → Type 0
IsUnheardOf rules owners noted name = known_after rules owners noted name ≡ unknown rules

-- The answers about a name are those at the start: its level, the messages that the rules let pass,
-- and no waiting call
pub record AsAtFirst (rules : List PolicyRule) (client : Option (List ℕ)) (owners : Owners)
    (noted : List Judged) (name : List ℕ) : Type 0 where
  pub level : level_after rules client owners noted name ≡ level_after rules client [] [] name
  pub leave : (kind : RuleKind) (header : Header)
      → leave_after rules owners noted kind name header ≡ leave_after rules [] [] kind name header
  pub waits : (serial : ℕ) → peer_waits noted name serial ≡ false

-- The answers about a name of which nothing is known are those at the start
abbrev pub UnheardOfIsAsAtFirst : Type 0
UnheardOfIsAsAtFirst = (rules : List PolicyRule) (client : Option (List ℕ)) (owners : Owners)
    (noted : List Judged) (name : List ℕ) → IsUnheardOf rules owners noted name
    → AsAtFirst rules client owners noted name

-- The facts known of a name of which nothing was known depend only on the later events
abbrev pub LaterEventsTellAll : Type 0
LaterEventsTellAll = (rules : List PolicyRule) (owners : Owners) (later noted : List Judged)
    (name : List ℕ) → IsUnheardOf rules owners noted name
    → known_after rules owners (later ++ noted) name ≡ known_after rules [] later name
