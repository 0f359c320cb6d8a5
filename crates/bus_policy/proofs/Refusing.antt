-- What is refused is a call of the client that wants a reply.
use Rattle.std.proofs.Common.{◌≡◌, ℕ, Bool, true, false, List, Option, Some, None, refl, sym, ap, ◌∙◌, inl, inr}
use Rattle.std.specs.Prelude.{◌||◌, ◌&&◌, if◌then◌else◌, codes, is_some}
use Rattle.std.specs.Option.{option_map_or}
use Rattle.std.specs.Str.{bytes_eq}
use Rattle.std.proofs.lemmas.Bool.{cases_Bool, false≢true}
use Rattle.bus_frame.specs.declared.header.Header.{Header}
use Rattle.bus_frame.specs.declared.message.MessageType.{MessageType}
use Rattle.bus_frame.specs.declared.message.MessageType.TheVariants as type
use Rattle.fp_base.specs.declared.side.Side.{Side}
use Rattle.fp_base.specs.declared.side.Side.TheVariants as side
use Rattle.bus_frame.specs.Bodies.{first_text, names_in}
use Rattle.bus_policy.specs.declared.calls.WaitingCalls.{WaitingCalls}
use Rattle.bus_policy.specs.declared.level.Level.{Level}
use Rattle.bus_policy.specs.declared.level.Level.TheVariants as level
use Rattle.bus_policy.specs.declared.policy.RuleKind.TheVariants as kind
use Rattle.bus_policy.specs.declared.driver.Handler.{Handler}
use Rattle.bus_policy.specs.declared.driver.Handler.TheVariants as handler
use Rattle.bus_policy.specs.declared.verdict.Verdict.{Verdict}
use Rattle.bus_policy.specs.declared.verdict.Verdict.TheVariants as verdict
use Rattle.bus_policy.specs.Driver.{driver, handler_of}
use Rattle.bus_policy.specs.Events.{Event, is_bus_side, is_call_type, is_call, wants_no_reply}
use Rattle.bus_policy.specs.Verdicts.{Sight, has_level, pass_if, refused, holds_word, match_call, name_call, driver_call, call_to, client_call, client_reply, client_signal, of_client, may_name, reply_to, bus_reply, bus_signal, of_bus, verdict_in}
use Rattle.bus_policy.specs.Watching.{sight_after}
use Rattle.bus_policy.specs.Laws.{is_refusal, IsRefusedCall, RefusalsAnswerCalls}

refused_wants : (sight : Sight) (h : Header) (name : List ℕ) → is_refusal (refused sight h name) ≡ true → wants_no_reply h ≡ false
refused_wants sight h name e = elim (cases_Bool (wants_no_reply h)) [
  | inl x ↦ absurd (false≢true (sym (ap (λ (b : Bool). is_refusal (if b then verdict.Drop else (if has_level sight level.See name then verdict.Deny else verdict.Hide))) x) ∙ e))
  | inr x ↦ x
]

-- one that passes or is refused
either_wants : (leave : Bool) (sight : Sight) (h : Header) (name : List ℕ) → is_refusal (if leave then verdict.Pass else refused sight h name) ≡ true → wants_no_reply h ≡ false
either_wants true sight h name e = absurd (false≢true e)
either_wants false sight h name e = refused_wants sight h name e

or_passes : (held : Bool) (sight : Sight) (h : Header) (name : List ℕ) → is_refusal (if held then refused sight h name else verdict.Pass) ≡ true → wants_no_reply h ≡ false
or_passes true sight h name e = refused_wants sight h name e
or_passes false sight h name e = absurd (false≢true e)

match_wants : (sight : Sight) (h : Header) (rule : Option (List ℕ)) → is_refusal (match_call sight h rule) ≡ true → wants_no_reply h ≡ false
match_wants sight h None e = refused_wants sight h driver e
match_wants sight h (Some rule) e = or_passes (holds_word (codes "eavesdrop") rule) sight h driver e

name_wants : (sight : Sight) (h : Header) (wanted : Level) (name : Option (List ℕ)) → is_refusal (name_call sight h wanted name) ≡ true → wants_no_reply h ≡ false
name_wants sight h wanted None e = refused_wants sight h driver e
name_wants sight h wanted (Some name) e = either_wants (has_level sight wanted name) sight h name e

driver_wants : (sight : Sight) (h : Header) (handled : Handler) (argument : Option (List ℕ)) → is_refusal (driver_call sight h handled argument) ≡ true → wants_no_reply h ≡ false
driver_wants sight h handler.Pass argument e = absurd (false≢true e)
driver_wants sight h handler.FilterNameListReply argument e = absurd (false≢true e)
driver_wants sight h handler.ValidateMatch argument e = match_wants sight h argument e
driver_wants sight h (handler.Validate wanted) argument e = name_wants sight h wanted argument e
driver_wants sight h handler.Deny argument e = refused_wants sight h driver e

named_wants : (to_driver : Bool) (sight : Sight) (e : Event) (name : List ℕ)
    → is_refusal (if to_driver then driver_call sight e.header (handler_of e.header) (first_text e.header e.bytes) else call_to sight e.header name) ≡ true → wants_no_reply e.header ≡ false
named_wants true sight e name is = driver_wants sight e.header (handler_of e.header) (first_text e.header e.bytes) is
named_wants false sight e name is = either_wants (has_level sight level.Talk name || sight.gives_leave kind.Call name e.header) sight e.header name is

call_wants : (sight : Sight) (e : Event) (name : Option (List ℕ)) → is_refusal (client_call sight e name) ≡ true → wants_no_reply e.header ≡ false
call_wants sight e None is = driver_wants sight e.header (handler_of e.header) (first_text e.header e.bytes) is
call_wants sight e (Some name) is = named_wants (bytes_eq name driver) sight e name is

-- ---- what is never refused

passed : (leave : Bool) → is_refusal (pass_if leave) ≡ false
passed true = refl
passed false = refl

client_wants : (sight : Sight) (e : Event) (kind : MessageType) → is_refusal (of_client sight e kind) ≡ true → (is_call_type kind ≡ true) × (wants_no_reply e.header ≡ false)
client_wants sight e type.MethodCall is = (refl, call_wants sight e e.header.destination is)
client_wants sight e type.MethodReturn is = absurd (false≢true (sym (passed (client_reply sight e.header.destination e.header.reply_serial)) ∙ is))
client_wants sight e type.Error is = absurd (false≢true (sym (passed (client_reply sight e.header.destination e.header.reply_serial)) ∙ is))
client_wants sight e type.Signal is = absurd (false≢true (sym (passed (client_signal sight e.header.destination)) ∙ is))
client_wants sight e (type.Unknown n) is = absurd (false≢true is)

reply_never : (named some : Bool) → is_refusal (if named then (if some then verdict.FilterNameList else verdict.Drop) else verdict.Pass) ≡ false
reply_never true true = refl
reply_never true false = refl
reply_never false some = refl

calls_never : (e : Event) (calls : Option WaitingCalls) → is_refusal (option_map_or (reply_to e) calls verdict.Drop) ≡ false
calls_never e None = refl
calls_never e (Some calls) = reply_never (may_name e.header calls) (is_some (names_in e.header e.bytes))

due_never : (sight : Sight) (e : Event) (reply : Option ℕ) → is_refusal (bus_reply sight e reply) ≡ false
due_never sight e None = refl
due_never sight e (Some serial) = calls_never e (sight.calls_waiting serial)

bus_never : (sight : Sight) (e : Event) (kind : MessageType) → is_refusal (of_bus sight e kind) ≡ false
bus_never sight e type.MethodCall = refl
bus_never sight e type.MethodReturn = due_never sight e e.header.reply_serial
bus_never sight e type.Error = due_never sight e e.header.reply_serial
bus_never sight e type.Signal = passed (bus_signal sight e)
bus_never sight e (type.Unknown n) = refl

by_side : (from_bus : Bool) (sight : Sight) (e : Event) → is_refusal (if from_bus then of_bus sight e e.header.kind else of_client sight e e.header.kind) ≡ true
    → (from_bus ≡ false) × (is_call e.header ≡ true) × (wants_no_reply e.header ≡ false)
by_side true sight e is = absurd (false≢true (sym (bus_never sight e e.header.kind) ∙ is))
by_side false sight e is = let wants = client_wants sight e e.header.kind is in (refl, wants.0, wants.1)

refused_call : (sight : Sight) (e : Event) → is_refusal (verdict_in sight e) ≡ true → IsRefusedCall e
unfolding verdict_in
refused_call sight e is = by_side (is_bus_side e.side) sight e is

pub refusals_answer : RefusalsAnswerCalls
refusals_answer rules client owners noted e is = refused_call (sight_after rules client owners noted) e is
