-- What an event tells of a peer.
use Rattle.std.proofs.Common.{◌≡◌, ◌==◌, ℕ, Bool, true, false, List, Option, Some, None, refl, sym, ap, ◌∙◌, inl, inr}
use Rattle.std.specs.Prelude.{◌||◌, ◌&&◌, not, if◌then◌else◌, is_some}
use Rattle.std.specs.Option.{option_map_or}
use Rattle.std.specs.Str.{bytes_eq}
use mathlib.Core.Bool.{and-false, and-true}
use Rattle.std.proofs.lemmas.Bool.{and_parts, cases_Bool, false≢true}
use Rattle.std.proofs.lemmas.Slice.Eq.{bytes_eq-Decides}
use Rattle.bus_frame.specs.declared.header.Header.{Header}
use Rattle.bus_frame.specs.declared.message.MessageType.{MessageType}
use Rattle.bus_frame.specs.declared.message.MessageType.TheVariants as type
use Rattle.fp_base.specs.declared.side.Side.TheVariants as side
use Rattle.bus_frame.specs.Bodies.{three_texts}
use Rattle.bus_rules.specs.Rules.{says}
use Rattle.bus_policy.specs.Driver.{driver}
use Rattle.bus_policy.specs.declared.policy.PolicyRule.{PolicyRule}
use Rattle.bus_policy.specs.declared.verdict.Verdict.{Verdict}
use Rattle.bus_policy.specs.Events.{Judged, is_unique_like, is_call_type, is_signal_type, is_call, is_reply, is_signal, wants_no_reply, tells_owner, is_forwarded, is_serial, new_owner, is_addressed_by, is_bus_call, is_client_reply}
use Rattle.bus_policy.specs.Watching.{Known, with_name, with_name_if, name_told, with_message_if, with_call_if, without_call, waiting_call, with_event, judged_event}
use Rattle.bus_policy.proofs.Opening.{both_unique}

abbrev pub changed : List PolicyRule → Option (List ℕ) → Bool → (ℕ → Bool) → (ℕ → Bool) → Known → Known
changed rules named wrote call done k = record (with_name_if rules named k) {
  wrote = wrote || k.wrote;
  waits = λ s. if call s then true else (if done s then false else k.waits s);
}

event_is : (rules : List PolicyRule) (j : Judged) (q : List ℕ) (k : Known) (named : Option (List ℕ)) (wrote : Bool) (call done : ℕ → Bool)
    → name_told q j ≡ named → (is_unique_like q && is_addressed_by q j.event) ≡ wrote → ((s : ℕ) → is_bus_call q s j ≡ call s) → ((s : ℕ) → is_client_reply q s j ≡ done s)
    → with_event rules j q k ≡ changed rules named wrote call done k
event_is rules j q k named wrote call done n w c d = λ i. changed rules (n i) (w i) (λ s. c s i) (λ s. d s i) k

none_told : (u : Bool) → ◌≡◌ {A = Option (List ℕ)} (if u then None else None) None
none_told true = refl
none_told false = refl

-- ---- a reply of the client

pub settled : (rules : List PolicyRule) (peer q : List ℕ) (m : ℕ) (h : Header) (bytes : List ℕ) (v : Verdict) (k : Known)
    → is_reply h ≡ true → is_forwarded v ≡ true → h.destination ≡ Some peer → h.reply_serial ≡ Some m
    → (if bytes_eq peer q then without_call m k else k) ≡ with_event rules (judged_event side.Client h bytes v) q k
settled rules peer q m h bytes v k reply forwarded to answers =
    let j = judged_event side.Client h bytes v in
    let done : (s : ℕ) → is_client_reply q s j ≡ (bytes_eq peer q && (m == s)) =
    λ s. (λ i. (((true && reply i) && says (to i) q) && is_serial (answers i) s) && forwarded i) ∙ and-true (bytes_eq peer q && (m == s)) in
    by (bytes_eq peer q) ∙ sym (event_is rules j q k None false (λ s. false) (λ s. bytes_eq peer q && (m == s)) (none_told (is_unique_like q)) (and-false (is_unique_like q)) (λ s. refl) done)
  where
    by : (b : Bool) → (if b then without_call m k else k) ≡ changed rules None false (λ s. false) (λ s. b && (m == s)) k
    by true = refl
    by false = refl

-- ---- an owner

-- the bus isn't a unique name
not_driver : (sender : Option (List ℕ)) (q : List ℕ) (b : Bool) → says sender driver ≡ true → (is_unique_like q && (says sender q && b)) ≡ false
not_driver None q b e = absurd (false≢true e)
not_driver (Some s) q b e =
    let same : s ≡ driver = (bytes_eq-Decides s driver).0 e in
    elim (cases_Bool (bytes_eq s q)) [
      | inl h ↦
          let unique : is_unique_like q ≡ false = ap is_unique_like (sym ((bytes_eq-Decides s q).0 h)) ∙ ap is_unique_like same in
          ap (λ (u : Bool). u && (bytes_eq s q && b)) unique
      | inr h ↦ ap (λ (t : Bool). is_unique_like q && (t && b)) h ∙ and-false (is_unique_like q)
    ]

signal_no_call : (kind : MessageType) → is_signal_type kind ≡ true → is_call_type kind ≡ false
signal_no_call type.MethodCall e = absurd (false≢true e)
signal_no_call type.MethodReturn e = refl
signal_no_call type.Error e = refl
signal_no_call type.Signal e = refl
signal_no_call (type.Unknown n) e = refl

pub owned : (rules : List PolicyRule) (name other owner q : List ℕ) (h : Header) (bytes : List ℕ) (v : Verdict) (k : Known)
    → tells_owner h ≡ true → three_texts h bytes ≡ Some (name, other, owner)
    → (if is_unique_like owner && bytes_eq owner q then with_name rules name k else k) ≡ with_event rules (judged_event side.Bus h bytes v) q k
owned rules name other owner q h bytes v k tells texts =
    let j = judged_event side.Bus h bytes v in
    let outer = and_parts ((is_signal h && says h.sender driver) && says h.interface driver) (says h.member _) tells in
    let inner = and_parts (is_signal h && says h.sender driver) (says h.interface driver) outer.0 in
    let first = and_parts (is_signal h) (says h.sender driver) inner.0 in
    let named : Option (List ℕ) = if is_unique_like q then (if bytes_eq owner q then Some name else None) else None in
    let given : new_owner j.event ≡ Some (name, owner) = (λ i. if tells i then option_map_or (λ t. Some (t.0, t.2)) (texts i) None else None) in
    let told : name_told q j ≡ named = ap (λ (o : Option (List ℕ × List ℕ)). if is_unique_like q then option_map_or (λ g. if bytes_eq g.1 q then Some g.0 else None) o None else None) given in
    let silent : (s : ℕ) → is_bus_call q s j ≡ false = λ s. ap (λ (c : Bool). (((c && says h.sender q) && (h.serial == s)) && not (wants_no_reply h)) && is_forwarded v) (signal_no_call h.kind first.0) in
    ap (λ (b : Bool). if b then with_name rules name k else k) (both_unique owner q)
    ∙ by (is_unique_like q) (bytes_eq owner q)
    ∙ sym (event_is rules j q k named false (λ s. false) (λ s. false) told (not_driver h.sender q (is_some h.destination) first.1) silent (λ s. refl))
  where
    by : (u e : Bool) → (if u && e then with_name rules name k else k) ≡ changed rules (if u then (if e then Some name else None) else None) false (λ s. false) (λ s. false) k
    by true true = refl
    by true false = refl
    by false e = refl

-- ---- a sender

calls_as : (call wants sent e : Bool) → ((((call && true) && e) && wants) && sent) ≡ (((call && wants) && sent) && e)
calls_as true true true true = refl
calls_as true true true false = refl
calls_as true true false true = refl
calls_as true true false false = refl
calls_as true false sent true = refl
calls_as true false true false = refl
calls_as true false false false = refl
calls_as false wants sent e = refl

calls_not : (call wants sent e : Bool) → ((((call && false) && e) && wants) && sent) ≡ false
calls_not true wants sent e = refl
calls_not false wants sent e = refl

pub sent : (rules : List PolicyRule) (s q : List ℕ) (h : Header) (bytes : List ℕ) (v : Verdict) (k : Known) → tells_owner h ≡ false → h.sender ≡ Some s
    → (if bytes_eq s q then with_message_if (is_unique_like s && is_some h.destination) (with_call_if (waiting_call h v) k) else k) ≡ with_event rules (judged_event side.Bus h bytes v) q k
sent rules s q h bytes v k tells from =
    let j = judged_event side.Bus h bytes v in
    let given : new_owner j.event ≡ None = (λ i. if tells i then option_map_or (λ t. Some (t.0, t.2)) (three_texts h bytes) None else None) in
    let told : name_told q j ≡ None = ap (λ (o : Option (List ℕ × List ℕ)). if is_unique_like q then option_map_or (λ g. if bytes_eq g.1 q then Some g.0 else None) o None else None) given ∙ none_told (is_unique_like q) in
    let wrote : (is_unique_like q && is_addressed_by q j.event) ≡ (is_unique_like q && (bytes_eq s q && is_some h.destination)) = ap (λ (o : Option (List ℕ)). is_unique_like q && (says o q && is_some h.destination)) from in
    let called : (n : ℕ) → is_bus_call q n j ≡ ((((is_call h && bytes_eq s q) && (h.serial == n)) && not (wants_no_reply h)) && is_forwarded v) =
    λ n. ap (λ (o : Option (List ℕ)). (((is_call h && says o q) && (h.serial == n)) && not (wants_no_reply h)) && is_forwarded v) from in
    by (bytes_eq s q) refl
    ∙ sym (event_is rules j q k None (is_unique_like q && (bytes_eq s q && is_some h.destination)) (λ n. (((is_call h && bytes_eq s q) && (h.serial == n)) && not (wants_no_reply h)) && is_forwarded v) (λ n. false) told wrote called (λ n. refl))
  where
    told_so : (w c : Bool) → with_message_if w (with_call_if (if c then Some h.serial else None) k) ≡ changed rules None w (λ n. c && (h.serial == n)) (λ n. false) k
    told_so true true = refl
    told_so true false = refl
    told_so false true = refl
    told_so false false = refl

    by : (b : Bool) → bytes_eq s q ≡ b
        → (if b then with_message_if (is_unique_like s && is_some h.destination) (with_call_if (waiting_call h v) k) else k)
        ≡ changed rules None (is_unique_like q && (b && is_some h.destination)) (λ n. (((is_call h && b) && (h.serial == n)) && not (wants_no_reply h)) && is_forwarded v) (λ n. false) k
    by true e =
        ap (λ (l : List ℕ). with_message_if (is_unique_like l && is_some h.destination) (with_call_if (waiting_call h v) k)) ((bytes_eq-Decides s q).0 e)
        ∙ told_so (is_unique_like q && is_some h.destination) ((is_call h && not (wants_no_reply h)) && is_forwarded v)
        ∙ (λ i. changed rules None (is_unique_like q && is_some h.destination) (λ n. sym (calls_as (is_call h) (not (wants_no_reply h)) (is_forwarded v) (h.serial == n)) i) (λ n. false) k)
    by false e =
        sym (λ i. changed rules None (and-false (is_unique_like q) i) (λ n. calls_not (is_call h) (not (wants_no_reply h)) (is_forwarded v) (h.serial == n) i) (λ n. false) k)
