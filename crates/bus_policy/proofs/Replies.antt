-- Laws of replies.
use Rattle.std.proofs.Common.{◌≡◌, ◌==◌, ◌≤◌, ℕ, Bool, true, false, List, [], ◌∷◌, ◌++◌, Option, Some, None, refl, sym, ap, subst, ◌∙◌, inl, inr, arith}
use Rattle.std.specs.Prelude.{◌||◌, ◌&&◌, not, nat_le, if◌then◌else◌, is_some}
use Rattle.std.specs.Option.{option_map_or}
use Rattle.std.specs.List.{list_any}
use Rattle.std.proofs.lemmas.Bool.{and_parts, and_from, or_cases, or_from, cases_Bool, eqb-true, false≢true, or_right, or_left, not-true}
use Rattle.bus_frame.specs.declared.header.Header.{Header}
use Rattle.bus_frame.specs.declared.message.MessageType.{MessageType}
use Rattle.bus_frame.specs.declared.message.MessageType.TheVariants as type
use Rattle.bus_frame.specs.Bodies.{names_in}
use Rattle.bus_policy.specs.declared.calls.WaitingCalls.{WaitingCalls}
use Rattle.bus_policy.specs.declared.verdict.Verdict.{Verdict}
use Rattle.bus_policy.specs.declared.verdict.Verdict.TheVariants as verdict
use Rattle.bus_policy.specs.Driver.{is_listing}
use Rattle.bus_policy.specs.Events.{Event, Judged, is_bus_side, is_return_type, is_reply_type, is_return, is_reply, wants_no_reply, is_forwarded, is_sent, is_sent_as, is_client_call, is_bus_reply, was_used, since_reply, client_waits, names_wait, is_reused}
use Rattle.bus_policy.specs.Verdicts.{Sight, is_of_driver, is_list, may_name, reply_to, bus_reply, of_bus, of_client, verdict_in}
use Rattle.bus_policy.specs.Watching.{calls_by, calls_after, sight_after}
use Rattle.bus_policy.specs.Laws.{Awaits, AnswersCall, RepliesAreAwaited, IsReturn, has_listed, NamesStayFiltered, Rising, return_by_calls, RisingSerialsLoseNothing, is_plain_reply, OthersPassOnce}
use Rattle.bus_policy.proofs.Calling.{since_some, sent_uses}

-- ---- replies of the bus's side

by_kind : (sight : Sight) (e : Event) (kind : MessageType) → is_reply_type kind ≡ true → of_bus sight e kind ≡ bus_reply sight e e.header.reply_serial
by_kind sight e type.MethodCall is = absurd (false≢true is)
by_kind sight e type.MethodReturn is = refl
by_kind sight e type.Error is = refl
by_kind sight e type.Signal is = absurd (false≢true is)
by_kind sight e (type.Unknown n) is = absurd (false≢true is)

pub reply_verdict : (sight : Sight) (e : Event) → is_bus_side e.side ≡ true → is_reply e.header ≡ true → verdict_in sight e ≡ bus_reply sight e e.header.reply_serial
unfolding verdict_in
reply_verdict sight e side is =
    ap (λ (b : Bool). if b then of_bus sight e e.header.kind else of_client sight e e.header.kind) side ∙ by_kind sight e e.header.kind is

return_replies : (kind : MessageType) → is_return_type kind ≡ true → is_reply_type kind ≡ true
return_replies type.MethodCall is = is
return_replies type.MethodReturn is = refl
return_replies type.Error is = absurd (false≢true is)
return_replies type.Signal is = is
return_replies (type.Unknown n) is = is

-- ---- each is awaited

awaits_step : (j : Judged) (before : List Judged) (serial : ℕ) → (client_waits before serial ≡ true → Awaits before serial) → (ended called : Bool) → is_bus_reply serial j ≡ ended → is_client_call serial j ≡ called
    → (if ended then false else called || client_waits before serial) ≡ true → Awaits (j ∷ before) serial
awaits_step j before serial so_far true called ended_is called_is e = absurd (false≢true e)
awaits_step j before serial so_far false true ended_is called_is e = record { since = []; call = j; before = before; parts = refl; is = called_is; none = refl }
awaits_step j before serial so_far false false ended_is called_is e =
    let more = so_far e in
    record {
      since = j ∷ more.since;
      call = more.call;
      before = more.before;
      parts = ap (λ (l : List Judged). j ∷ l) more.parts;
      is = more.is;
      none = or_from (is_bus_reply serial j) (list_any (is_bus_reply serial) more.since) ended_is more.none;
    }

awaits : (noted : List Judged) (serial : ℕ) → client_waits noted serial ≡ true → Awaits noted serial
awaits [] serial e = absurd (false≢true e)
awaits (j ∷ before) serial e = awaits_step j before serial (awaits before serial) (is_bus_reply serial j) (is_client_call serial j) refl refl e

waits_by : (e : Event) (waits listed reused : Bool) → is_forwarded (option_map_or (reply_to e) (calls_by waits listed reused) verdict.Drop) ≡ true → waits ≡ true
waits_by e true listed reused is = refl
waits_by e false listed reused is = absurd (false≢true is)

answers : (sight : Sight) (noted : List Judged) (e : Event) (reply : Option ℕ) → sight.calls_waiting ≡ calls_after noted → is_forwarded (bus_reply sight e reply) ≡ true → (serial : ℕ) × (reply ≡ Some serial) × Awaits noted serial
answers sight noted e None same is = absurd (false≢true is)
answers sight noted e (Some serial) same is =
    let due = ap (λ (calls : ℕ → Option WaitingCalls). is_forwarded (option_map_or (reply_to e) (calls serial) verdict.Drop)) same in
    (serial, refl, awaits noted serial (waits_by e (client_waits noted serial) (names_wait noted serial) (is_reused noted serial) (sym due ∙ is)))

pub replies_awaited : RepliesAreAwaited
replies_awaited rules client owners noted e side is sent =
    answers (sight_after rules client owners noted) noted e e.header.reply_serial refl (sym (ap is_forwarded (reply_verdict (sight_after rules client owners noted) e side is)) ∙ sent)

-- ---- a return of the bus itself

abbrev pub reply_with : (of_return driver list some : Bool) → WaitingCalls → Verdict
reply_with of_return driver list some calls =
    if (of_return && driver) && (calls.list_names || (calls.reused && list)) then (if some then verdict.FilterNameList else verdict.Drop) else verdict.Pass

abbrev pub some_names : Event → Bool
some_names e = is_some (names_in e.header e.bytes)

pub return_verdict : (sight : Sight) (noted : List Judged) (e : Event) (serial : ℕ) → sight.calls_waiting ≡ calls_after noted → IsReturn e serial
    → verdict_in sight e ≡ option_map_or (reply_with true true (is_list e.header) (some_names e)) (calls_after noted serial) verdict.Drop
return_verdict sight noted e serial same r =
    reply_verdict sight e r.side (return_replies e.header.kind r.is)
    ∙ ap (bus_reply sight e) r.answers
    ∙ (λ i. option_map_or (reply_with (r.is i) (r.driver i) (is_list e.header) (some_names e)) (same i serial) verdict.Drop)

-- ---- names stay filtered

waits_used : (noted : List Judged) (serial : ℕ) → client_waits noted serial ≡ true → was_used noted serial ≡ true
waits_used noted serial =
    since_some serial (λ before j. is_client_call serial j) (λ j. is_sent j && nat_le serial j.event.header.serial)
    (λ before j e. sent_uses serial j (and_parts (is_sent_as serial j) (not (wants_no_reply j.event.header)) e).0) noted

listed_used : (noted : List Judged) (serial : ℕ) → has_listed noted serial ≡ true → was_used noted serial ≡ true
listed_used [] serial e = e
listed_used (j ∷ before) serial e =
    elim (or_cases (is_sent_as serial j && is_listing j.event.header) (has_listed before serial) e) [
      | inl x ↦ or_left (is_sent j && nat_le serial j.event.header.serial) (was_used before serial) (sent_uses serial j (and_parts (is_sent_as serial j) (is_listing j.event.header) x).0)
      | inr x ↦ or_right (is_sent j && nat_le serial j.event.header.serial) (was_used before serial) (listed_used before serial x)
    ]

listed_step : (ended sent silent lists waits listing reused used listed : Bool) → (waits ≡ true → used ≡ true) → (listed ≡ true → used ≡ true) → (listed ≡ true → waits ≡ true → (listing || reused) ≡ true)
    → ((sent && lists) || listed) ≡ true → (if ended then false else (sent && not silent) || waits) ≡ true
    → ((if ended then false else ((sent && not silent) && lists) || listing) || (if ended then false else (sent && used) || reused)) ≡ true
listed_step true sent silent lists waits listing reused used listed f g h e w = absurd (false≢true w)
listed_step false true true lists waits listing reused used listed f g h e w = or_right listing (used || reused) (or_left used reused (f w))
listed_step false true false true waits listing reused used listed f g h e w = refl
listed_step false true false false waits listing reused used listed f g h e w = or_right listing (used || reused) (or_left used reused (g e))
listed_step false false silent lists waits listing reused used listed f g h e w = h e w

listed_waits : (noted : List Judged) (serial : ℕ) → has_listed noted serial ≡ true → client_waits noted serial ≡ true → (names_wait noted serial || is_reused noted serial) ≡ true
listed_waits [] serial e w = absurd (false≢true e)
listed_waits (j ∷ before) serial e w =
    listed_step (is_bus_reply serial j) (is_sent_as serial j) (wants_no_reply j.event.header) (is_listing j.event.header) (client_waits before serial) (names_wait before serial) (is_reused before serial) (was_used before serial) (has_listed before serial)
    (waits_used before serial) (listed_used before serial) (listed_waits before serial) e w

abbrev pub passes : Verdict → Bool
passes verdict.Pass = true
passes verdict.FilterNameList = false
passes verdict.Deny = false
passes verdict.Hide = false
passes verdict.Drop = false

filters : (some : Bool) → passes (if some then verdict.FilterNameList else verdict.Drop) ≡ false
filters true = refl
filters false = refl

no_list : (list some waits listing reused : Bool) → (waits ≡ true → (listing || reused) ≡ true) → passes (option_map_or (reply_with true true list some) (calls_by waits listing reused) verdict.Drop) ≡ true → list ≡ false
no_list false some waits listing reused f e = refl
no_list true some false listing reused f e = absurd (false≢true e)
no_list true some true true reused f e = absurd (false≢true (sym (filters some) ∙ e))
no_list true some true false true f e = absurd (false≢true (sym (filters some) ∙ e))
no_list true some true false false f e = absurd (false≢true (f refl))

pub names_filtered : NamesStayFiltered
names_filtered rules client owners noted e serial r listed passed =
    let is = return_verdict (sight_after rules client owners noted) noted e serial refl r in
    no_list (is_list e.header) (some_names e) (client_waits noted serial) (names_wait noted serial) (is_reused noted serial) (listed_waits noted serial listed) (sym (ap passes is) ∙ ap passes passed)

-- ---- rising serials

fresh : (before : List Judged) (j : Judged) (serial : ℕ) → (is_sent j ≡ true → was_used before j.event.header.serial ≡ false) → (is_sent_as serial j && was_used before serial) ≡ false
fresh before j serial rises = elim (cases_Bool (is_sent_as serial j)) [
  | inl e ↦
      let parts = and_parts (is_sent j) (j.event.header.serial == serial) e in
      let same : j.event.header.serial ≡ serial = eqb-true j.event.header.serial serial parts.1 in
      (λ i. e i && was_used before serial) ∙ ap (was_used before) (sym same) ∙ rises parts.0
  | inr e ↦ ap (λ (b : Bool). b && was_used before serial) e
]

ended_or_not : (ended : Bool) → (if ended then false else false) ≡ false
ended_or_not true = refl
ended_or_not false = refl

never_reused : (noted : List Judged) (serial : ℕ) → Rising noted → is_reused noted serial ≡ false
never_reused [] serial rises = refl
never_reused (j ∷ before) serial rises =
    (λ i. if is_bus_reply serial j then false else (fresh before j serial rises.0 i || never_reused before serial rises.1 i)) ∙ ended_or_not (is_bus_reply serial j)

by_calls : (list some waits listing : Bool) → option_map_or (reply_with true true list some) (calls_by waits listing false) verdict.Drop
    ≡ (if not waits then verdict.Drop else (if not listing then verdict.Pass else (if some then verdict.FilterNameList else verdict.Drop)))
by_calls list some true true = refl
by_calls list some true false = refl
by_calls list some false listing = refl

pub rising_lose_nothing : RisingSerialsLoseNothing
rising_lose_nothing rules client owners noted e serial rises r =
    return_verdict (sight_after rules client owners noted) noted e serial refl r
    ∙ ap (λ (reused : Bool). option_map_or (reply_with true true (is_list e.header) (some_names e)) (calls_by (client_waits noted serial) (names_wait noted serial) reused) verdict.Drop) (never_reused noted serial rises)
    ∙ by_calls (is_list e.header) (some_names e) (client_waits noted serial) (names_wait noted serial)

-- ---- other replies

plainly : (e : Event) (waits listing reused : Bool) → (is_return e.header && is_of_driver e.header) ≡ false → option_map_or (reply_to e) (calls_by waits listing reused) verdict.Drop ≡ (if waits then verdict.Pass else verdict.Drop)
plainly e true listing reused is = ap (λ (b : Bool). if b && (listing || (reused && is_list e.header)) then (if some_names e then verdict.FilterNameList else verdict.Drop) else verdict.Pass) is
plainly e false listing reused is = refl

pub others_pass : OthersPassOnce
others_pass rules client owners noted e serial side plain answers =
    let parts = and_parts (is_reply e.header) (not (is_return e.header && is_of_driver e.header)) plain in
    let sight = sight_after rules client owners noted in
    reply_verdict sight e side parts.0
    ∙ ap (bus_reply sight e) answers
    ∙ plainly e (client_waits noted serial) (names_wait noted serial) (is_reused noted serial) (not-true (is_return e.header && is_of_driver e.header) parts.1)
