-- The client's calls, with an event more.
use Rattle.std.proofs.Common.{◌≡◌, ◌==◌, ◌≤◌, ℕ, Bool, true, false, List, [], ◌∷◌, Option, Some, None, refl, sym, ap, subst, ◌∙◌, inl, inr, arith}
use Rattle.std.specs.Prelude.{◌||◌, ◌&&◌, not, nat_eq, nat_le, if◌then◌else◌}
use Rattle.std.specs.List.{list_any}
use mathlib.Core.Bool.{and-false, and-true}
use Rattle.std.proofs.lemmas.Bool.{and_parts, and_from, or_cases, cases_Bool, eqb-true, le-leb, false≢true, or_right, or_left}
use Rattle.indexmap.specs.IndexMap.{get}
use Rattle.bus_frame.specs.declared.header.Header.{Header}
use Rattle.fp_base.specs.declared.side.Side.TheVariants as side
use Rattle.bus_policy.specs.declared.calls.WaitingCalls.{WaitingCalls}
use Rattle.bus_policy.specs.declared.calls.ClientCalls.{ClientCalls}
use Rattle.bus_policy.specs.declared.verdict.Verdict.{Verdict}
use Rattle.bus_policy.specs.Driver.{is_listing}
use Rattle.bus_policy.specs.Events.{Judged, is_call, is_reply, wants_no_reply, is_forwarded, is_serial, is_sent, is_sent_as, is_client_call, is_bus_reply, was_used, since_reply, client_waits, names_wait, is_reused}
use Rattle.bus_policy.specs.Watching.{calls_by, calls_after, is_up_to, calls_with, CallsAt, judged_event}

-- ---- since the last reply

since_step : (ended one more other others : Bool) → (one ≡ true → other ≡ true) → (more ≡ true → others ≡ true)
    → (if ended then false else one || more) ≡ true → (if ended then false else other || others) ≡ true
since_step true one more other others f g e = absurd (false≢true e)
since_step false one more other others f g e = elim (or_cases one more e) [ inl x ↦ or_left other others (f x) | inr x ↦ or_right other others (g x) ]

pub since_more : (serial : ℕ) (p q : List Judged → Judged → Bool) → ((before : List Judged) (j : Judged) → p before j ≡ true → q before j ≡ true) → (noted : List Judged)
    → since_reply serial p noted ≡ true → since_reply serial q noted ≡ true
since_more serial p q f [] e = e
since_more serial p q f (j ∷ before) e =
    since_step (is_bus_reply serial j) (p before j) (since_reply serial p before) (q before j) (since_reply serial q before) (f before j) (since_more serial p q f before) e

some_step : (ended one more other others : Bool) → (one ≡ true → other ≡ true) → (more ≡ true → others ≡ true) → (if ended then false else one || more) ≡ true → (other || others) ≡ true
some_step true one more other others f g e = absurd (false≢true e)
some_step false one more other others f g e = elim (or_cases one more e) [ inl x ↦ or_left other others (f x) | inr x ↦ or_right other others (g x) ]

pub since_some : (serial : ℕ) (p : List Judged → Judged → Bool) (q : Judged → Bool) → ((before : List Judged) (j : Judged) → p before j ≡ true → q j ≡ true) → (noted : List Judged)
    → since_reply serial p noted ≡ true → list_any q noted ≡ true
since_some serial p q f [] e = e
since_some serial p q f (j ∷ before) e = some_step (is_bus_reply serial j) (p before j) (since_reply serial p before) (q j) (list_any q before) (f before j) (since_some serial p q f before) e

-- calls of which one lists names wait
pub names_waiting : (noted : List Judged) (serial : ℕ) → names_wait noted serial ≡ true → client_waits noted serial ≡ true
names_waiting noted serial =
    since_more serial (λ before j. is_client_call serial j && is_listing j.event.header) (λ before j. is_client_call serial j)
    (λ before j e. (and_parts (is_client_call serial j) (is_listing j.event.header) e).0) noted

-- a call with a serial uses it
pub sent_uses : (serial : ℕ) (j : Judged) → is_sent_as serial j ≡ true → (is_sent j && nat_le serial j.event.header.serial) ≡ true
sent_uses serial j e =
    let parts = and_parts (is_sent j) (j.event.header.serial == serial) e in
    let same : j.event.header.serial ≡ serial = eqb-true j.event.header.serial serial parts.1 in
    and_from (is_sent j) (nat_le serial j.event.header.serial) parts.0 (le-leb serial j.event.header.serial (omega arith))

-- where a call was no first use of a serial, the serial was used
pub reused_used : (noted : List Judged) (serial : ℕ) → is_reused noted serial ≡ true → was_used noted serial ≡ true
reused_used noted serial =
    since_some serial (λ before j. is_sent_as serial j && was_used before serial) (λ j. is_sent j && nat_le serial j.event.header.serial)
    (λ before j e. sent_uses serial j (and_parts (is_sent_as serial j) (was_used before serial) e).0) noted

-- ---- a call

abbrev pub is_there : Option WaitingCalls → Bool
is_there None = false
is_there (Some calls) = true

some_none : {calls : WaitingCalls} → None ≡ Some calls → ⊥
some_none e = false≢true (ap is_there e)

used_or : (used reused : Bool) → (reused ≡ true → used ≡ true) → used ≡ (used || reused)
used_or true reused f = refl
used_or false false f = refl
used_or false true f = absurd (false≢true (f refl))

listed_or : (lists listed : Bool) → (listed || lists) ≡ (lists || listed)
listed_or true true = refl
listed_or true false = refl
listed_or false true = refl
listed_or false false = refl

none_listed : (lists listed : Bool) → (listed ≡ true → false ≡ true) → lists ≡ (lists || listed)
none_listed true listed f = refl
none_listed false false f = refl
none_listed false true f = absurd (false≢true (f refl))

entry_is : (silent lists waits listed reused used : Bool) → (listed ≡ true → waits ≡ true) → (reused ≡ true → used ≡ true)
    → calls_with silent lists used (calls_by waits listed reused) ≡ calls_by (not silent || waits) ((not silent && lists) || listed) (used || reused)
entry_is true lists true listed reused used f g = λ i. Some (record { list_names = listed; reused = used_or used reused g i })
entry_is true lists false listed reused used f g = refl
entry_is false lists true listed reused used f g = λ i. Some (record { list_names = listed_or lists listed i; reused = used_or used reused g i })
entry_is false lists false listed reused used f g = λ i. Some (record { list_names = none_listed lists listed f i; reused = used_or used reused g i })

-- what is known of the calls with a serial, with a call that has it, or another
abbrev pub with_call_if : (sent silent lists used waits listed reused : Bool) → Option WaitingCalls
with_call_if sent silent lists used waits listed reused =
    calls_by ((sent && not silent) || waits) (((sent && not silent) && lists) || listed) ((sent && used) || reused)

sent_as : (noted : List Judged) (h : Header) (bytes : List ℕ) (v : Verdict) (s : ℕ) (b : Bool) → is_sent_as s (judged_event side.Client h bytes v) ≡ b
    → calls_after (judged_event side.Client h bytes v ∷ noted) s ≡ with_call_if b (wants_no_reply h) (is_listing h) (was_used noted s) (client_waits noted s) (names_wait noted s) (is_reused noted s)
sent_as noted h bytes v s b e = ap (λ (sent : Bool). with_call_if sent (wants_no_reply h) (is_listing h) (was_used noted s) (client_waits noted s) (names_wait noted s) (is_reused noted s)) e

serial_sent : (h : Header) (bytes : List ℕ) (v : Verdict) (s : ℕ) → is_call h ≡ true → is_forwarded v ≡ true → is_sent_as s (judged_event side.Client h bytes v) ≡ (h.serial == s)
serial_sent h bytes v s call sent = λ i. (call i && sent i) && (h.serial == s)

pub calls_sent : {S H : Type 0} (old new : ClientCalls S H) (noted : List Judged) (h : Header) (bytes : List ℕ) (v : Verdict) (put : Option WaitingCalls) → is_call h ≡ true → is_forwarded v ≡ true → CallsAt old noted
    → put ≡ calls_with (wants_no_reply h) (is_listing h) (is_up_to old.highest h.serial) (get nat_eq old.waiting h.serial)
    → ((s : ℕ) → get nat_eq new.waiting s ≡ (if h.serial == s then put else get nat_eq old.waiting s))
    → ((s : ℕ) → is_up_to new.highest s ≡ (nat_le s h.serial || is_up_to old.highest s))
    → CallsAt new (judged_event side.Client h bytes v ∷ noted)
calls_sent old new noted h bytes v put call sent at put_is waiting highest = record {
  waiting = λ s. waiting s ∙ elim (cases_Bool (h.serial == s)) [
    | inl e ↦
        let same : h.serial ≡ s = eqb-true h.serial s e in
        ap (λ (b : Bool). if b then put else get nat_eq old.waiting s) e
        ∙ put_is
        ∙ (λ i. calls_with (wants_no_reply h) (is_listing h) (at.used h.serial i) (at.waiting h.serial i))
        ∙ ap (λ (n : ℕ). calls_with (wants_no_reply h) (is_listing h) (was_used noted n) (calls_after noted n)) same
        ∙ entry_is (wants_no_reply h) (is_listing h) (client_waits noted s) (names_wait noted s) (is_reused noted s) (was_used noted s) (names_waiting noted s) (reused_used noted s)
        ∙ sym (sent_as noted h bytes v s true (serial_sent h bytes v s call sent ∙ e))
    | inr e ↦
        ap (λ (b : Bool). if b then put else get nat_eq old.waiting s) e
        ∙ at.waiting s
        ∙ sym (sent_as noted h bytes v s false (serial_sent h bytes v s call sent ∙ e))
  ];
  used = λ s. highest s ∙ ap (λ (b : Bool). nat_le s h.serial || b) (at.used s) ∙ sym (λ i. ((call i && sent i) && nat_le s h.serial) || was_used noted s);
}

-- ---- what is no call

unsent_calls : (noted : List Judged) (h : Header) (bytes : List ℕ) (v : Verdict) (s : ℕ) → (is_call h && is_forwarded v) ≡ false
    → calls_after noted s ≡ calls_after (judged_event side.Client h bytes v ∷ noted) s
unsent_calls noted h bytes v s e = sym (sent_as noted h bytes v s false (ap (λ (b : Bool). b && (h.serial == s)) e))

pub calls_unsent : {S H : Type 0} (calls : ClientCalls S H) (noted : List Judged) (h : Header) (bytes : List ℕ) (v : Verdict) → (is_call h && is_forwarded v) ≡ false → CallsAt calls noted
    → CallsAt calls (judged_event side.Client h bytes v ∷ noted)
calls_unsent calls noted h bytes v e at = record {
  waiting = λ s. at.waiting s ∙ unsent_calls noted h bytes v s e;
  used = λ s. at.used s ∙ sym (ap (λ (b : Bool). (b && nat_le s h.serial) || was_used noted s) e);
}

-- ---- a reply

abbrev pub with_reply_if : (ended waits listed reused : Bool) → Option WaitingCalls
with_reply_if ended waits listed reused = calls_by (if ended then false else waits) (if ended then false else listed) (if ended then false else reused)

replied_as : (noted : List Judged) (h : Header) (bytes : List ℕ) (v : Verdict) (s : ℕ) (b : Bool) → is_bus_reply s (judged_event side.Bus h bytes v) ≡ b
    → calls_after (judged_event side.Bus h bytes v ∷ noted) s ≡ with_reply_if b (client_waits noted s) (names_wait noted s) (is_reused noted s)
replied_as noted h bytes v s b e = ap (λ (ended : Bool). with_reply_if ended (client_waits noted s) (names_wait noted s) (is_reused noted s)) e

serial_ended : (h : Header) (bytes : List ℕ) (v : Verdict) (n s : ℕ) → is_reply h ≡ true → is_forwarded v ≡ true → h.reply_serial ≡ Some n → is_bus_reply s (judged_event side.Bus h bytes v) ≡ (n == s)
serial_ended h bytes v n s reply sent answers = (λ i. (reply i && is_serial (answers i) s) && sent i) ∙ and-true (n == s)

pub calls_ended : {S H : Type 0} (old new : ClientCalls S H) (noted : List Judged) (h : Header) (bytes : List ℕ) (v : Verdict) (n : ℕ) → is_reply h ≡ true → is_forwarded v ≡ true → h.reply_serial ≡ Some n → CallsAt old noted
    → ((s : ℕ) → get nat_eq new.waiting s ≡ (if n == s then None else get nat_eq old.waiting s)) → new.highest ≡ old.highest → CallsAt new (judged_event side.Bus h bytes v ∷ noted)
calls_ended old new noted h bytes v n reply sent answers at waiting highest = record {
  waiting = λ s. waiting s ∙ elim (cases_Bool (n == s)) [
    | inl e ↦
        ap (λ (b : Bool). if b then None else get nat_eq old.waiting s) e
        ∙ sym (replied_as noted h bytes v s true (serial_ended h bytes v n s reply sent answers ∙ e))
    | inr e ↦
        ap (λ (b : Bool). if b then None else get nat_eq old.waiting s) e
        ∙ at.waiting s
        ∙ sym (replied_as noted h bytes v s false (serial_ended h bytes v n s reply sent answers ∙ e))
  ];
  used = λ s. ap (λ (o : Option ℕ). is_up_to o s) highest ∙ at.used s;
}

pub calls_unended : {S H : Type 0} (calls : ClientCalls S H) (noted : List Judged) (h : Header) (bytes : List ℕ) (v : Verdict) → ((s : ℕ) → is_bus_reply s (judged_event side.Bus h bytes v) ≡ false) → CallsAt calls noted
    → CallsAt calls (judged_event side.Bus h bytes v ∷ noted)
calls_unended calls noted h bytes v e at = record {
  waiting = λ s. at.waiting s ∙ sym (replied_as noted h bytes v s false (e s));
  used = at.used;
}

-- no reply that is forwarded
pub no_reply : (h : Header) (bytes : List ℕ) (v : Verdict) (s : ℕ) → is_reply h ≡ false → is_bus_reply s (judged_event side.Bus h bytes v) ≡ false
no_reply h bytes v s e = λ i. (e i && is_serial h.reply_serial s) && is_forwarded v

pub not_forwarded : (h : Header) (bytes : List ℕ) (v : Verdict) (s : ℕ) → is_forwarded v ≡ false → is_bus_reply s (judged_event side.Bus h bytes v) ≡ false
not_forwarded h bytes v s e = ap (λ (b : Bool). (is_reply h && is_serial h.reply_serial s) && b) e ∙ and-false (is_reply h && is_serial h.reply_serial s)

pub no_serial : (h : Header) (bytes : List ℕ) (v : Verdict) (s : ℕ) → h.reply_serial ≡ None → is_bus_reply s (judged_event side.Bus h bytes v) ≡ false
no_serial h bytes v s e = ap (λ (o : Option ℕ). (is_reply h && is_serial o s) && is_forwarded v) e ∙ ap (λ (b : Bool). b && is_forwarded v) (and-false (is_reply h))

-- ---- what stays

-- where no call waits after one more, none waited
calls_none : (silent lists used : Bool) (calls : Option WaitingCalls) → None ≡ calls_with silent lists used calls → calls ≡ None
calls_none true lists used None e = refl
calls_none true lists used (Some calls) e = absurd (some_none e)
calls_none false lists used None e = refl
calls_none false lists used (Some calls) e = absurd (some_none e)

pub none_put : (before : ℕ → Option WaitingCalls) (silent lists used : Bool) (serial : ℕ) → None ≡ calls_with silent lists used (before serial)
    → (s : ℕ) → before s ≡ (if serial == s then calls_with silent lists used (before serial) else before s)
none_put before silent lists used serial none s = elim (cases_Bool (serial == s)) [
  | inl e ↦
      ap before (sym (eqb-true serial s e)) ∙ calls_none silent lists used (before serial) none ∙ none
      ∙ sym (ap (λ (b : Bool). if b then calls_with silent lists used (before serial) else before s) e)
  | inr e ↦ sym (ap (λ (b : Bool). if b then calls_with silent lists used (before serial) else before s) e)
]
