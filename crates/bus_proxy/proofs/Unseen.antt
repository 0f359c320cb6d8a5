-- Names that may not be seen change nothing that is given.
use Rattle.std.proofs.Common.{◌≡◌, ◌==◌, ℕ, ◌-◌, Bool, true, false, List, [], ◌∷◌, ◌++◌, length, take, drop, Option, Some, None, refl, sym, ap, subst, ◌∙◌, inl, inr}
use Rattle.std.specs.Prelude.{◌||◌, ◌&&◌, ◌⊎◌, not, nat_le, if◌then◌else◌, is_some, option_map}
use Rattle.std.specs.Option.{option_map_or, option_to_list}
use Rattle.std.specs.List.{list_any, filter_map, cons_option, filter, AllByRecursion}
use Rattle.std.specs.Str.{bytes_eq}
use mathlib.Core.Bool.{and-false}
use Rattle.std.proofs.lemmas.Bool.{cases_Bool, false≢true}
use Rattle.fp_base.specs.declared.side.Side.{Side}
use Rattle.fp_base.specs.declared.side.Side.TheVariants as side
use Rattle.bus_frame.specs.declared.header.Header.{Header}
use Rattle.bus_frame.specs.declared.message.MessageType.{MessageType}
use Rattle.bus_frame.specs.declared.message.MessageType.TheVariants as type
use Rattle.bus_frame.specs.Bodies.{names_in, three_texts}
use Rattle.bus_frame.specs.Writing.{number_bytes, names_bytes, with_body, with_names_bytes}
use Rattle.bus_policy.specs.declared.level.Level.TheVariants as level
use Rattle.bus_policy.specs.declared.policy.PolicyRule.{PolicyRule}
use Rattle.bus_policy.specs.declared.verdict.Verdict.{Verdict}
use Rattle.bus_policy.specs.declared.verdict.Verdict.TheVariants as verdict
use Rattle.bus_policy.specs.Levels.{is_at_least, allows}
use Rattle.bus_policy.specs.Driver.{handler_of, is_listing}
use Rattle.bus_policy.specs.Events.{Event, Judged, is_bus_side, is_return_type, is_signal_type, is_return, is_signal, is_unique_like, wants_no_reply, tells_owner, new_owner, name_given, name_owned, is_addressed_by, is_forwarded, is_sent, is_bus_reply, is_bus_call, is_client_reply, was_used, client_waits, names_wait, is_reused, peer_waits}
use Rattle.bus_policy.specs.Verdicts.{Sight, is_list, verdict_in}
use Rattle.bus_policy.specs.Watching.{Owners, names_level, level_by_parts, is_meant, calls_by, calls_after, sight_after, level_after, verdict_after}
use Rattle.bus_policy.specs.Laws.{IsReturn}
use Rattle.bus_policy.proofs.Replies.{reply_with, return_verdict}
use Rattle.bus_proxy.specs.declared.out.Out.{Out}
use Rattle.bus_proxy.specs.Arrivals.{other_side}
use Rattle.bus_proxy.specs.Outs.{Setting, Levels, seen_names, reduced, out_by, judged_by, level_in, out_after, forwarded}
use Rattle.bus_proxy.specs.Laws.{verdict_on, with_body_of, DifferUnseen, AlikeButUnseen, UnseenNamesChangeNothing, AreSeen, LeftNamesAreSeen}

-- ---- events from which the same is known

record SameStep (j k : Judged) : Type 0 where
  named : (q : List ℕ) → name_given q j.event ≡ name_given q k.event
  addressed : (q : List ℕ) → is_addressed_by q j.event ≡ is_addressed_by q k.event
  sent : is_sent j ≡ is_sent k
  serial : j.event.header.serial ≡ k.event.header.serial
  silent : wants_no_reply j.event.header ≡ wants_no_reply k.event.header
  listing : is_listing j.event.header ≡ is_listing k.event.header
  replied : (n : ℕ) → is_bus_reply n j ≡ is_bus_reply n k
  called : (q : List ℕ) (n : ℕ) → is_bus_call q n j ≡ is_bus_call q n k
  answered : (q : List ℕ) (n : ℕ) → is_client_reply q n j ≡ is_client_reply q n k

record SameKnown (one other : List Judged) : Type 0 where
  names : (q : List ℕ) → filter_map (λ j. name_given q j.event) one ≡ filter_map (λ j. name_given q j.event) other
  wrote : (q : List ℕ) → list_any (λ j. is_addressed_by q j.event) one ≡ list_any (λ j. is_addressed_by q j.event) other
  used : (n : ℕ) → was_used one n ≡ was_used other n
  waits : (n : ℕ) → client_waits one n ≡ client_waits other n
  listed : (n : ℕ) → names_wait one n ≡ names_wait other n
  reused : (n : ℕ) → is_reused one n ≡ is_reused other n
  peers : (q : List ℕ) (n : ℕ) → peer_waits one q n ≡ peer_waits other q n

known_none : SameKnown [] []
known_none = record {
  names = λ q. refl;
  wrote = λ q. refl;
  used = λ n. refl;
  waits = λ n. refl;
  listed = λ n. refl;
  reused = λ n. refl;
  peers = λ q n. refl;
}

known_more : (one other : List Judged) (j k : Judged) → SameKnown one other → SameStep j k → SameKnown (j ∷ one) (k ∷ other)
known_more one other j k same step = record {
  names = λ q i. cons_option (step.named q i) (same.names q i);
  wrote = λ q i. step.addressed q i || same.wrote q i;
  used = λ n i. (step.sent i && nat_le n (step.serial i)) || same.used n i;
  waits = λ n i. if step.replied n i then false else ((step.sent i && (step.serial i == n)) && not (step.silent i)) || same.waits n i;
  listed = λ n i. if step.replied n i then false else (((step.sent i && (step.serial i == n)) && not (step.silent i)) && step.listing i) || same.listed n i;
  reused = λ n i. if step.replied n i then false else ((step.sent i && (step.serial i == n)) && same.used n i) || same.reused n i;
  peers = λ q n i. if step.called q n i then true else (if step.answered q n i then false else same.peers q n i);
}

sight_alike : (rules : List PolicyRule) (client : Option (List ℕ)) (owners : Owners) (one other : List Judged) → SameKnown one other → sight_after rules client owners one ≡ sight_after rules client owners other
sight_alike rules client owners one other same = λ i. record {
  level_of = λ name. level_by_parts rules client name
      (names_level rules (if is_unique_like name then same.names name i ++ filter_map (name_owned name) owners else []))
      (is_unique_like name && same.wrote name i);
  gives_leave = λ kind peer header.
      list_any (λ rule. allows kind header rule.grant && is_meant (if is_unique_like peer then same.names peer i ++ filter_map (name_owned peer) owners else []) peer rule) rules;
  calls_waiting = λ n. calls_by (same.waits n i) (same.listed n i) (same.reused n i);
  peer_waits = λ q n. same.peers q n i;
}

-- ---- one event

step_refl : (j : Judged) → SameStep j j
step_refl j = record {
  named = λ q. refl;
  addressed = λ q. refl;
  sent = refl;
  serial = refl;
  silent = refl;
  listing = refl;
  replied = λ n. refl;
  called = λ q n. refl;
  answered = λ q n. refl;
}

return_no_signal : (kind : MessageType) → is_return_type kind ≡ true → is_signal_type kind ≡ false
return_no_signal type.MethodCall is = refl
return_no_signal type.MethodReturn is = refl
return_no_signal type.Error is = refl
return_no_signal type.Signal is = absurd (false≢true is)
return_no_signal (type.Unknown n) is = refl

no_first : (a b c d : Bool) → a ≡ false → (((a && b) && c) && d) ≡ false
no_first a b c d e = ap (λ (x : Bool). ((x && b) && c) && d) e

no_owner : (h : Header) → is_return h ≡ true → tells_owner h ≡ false
no_owner h is = no_first (is_signal h) _ _ _ (return_no_signal h.kind is)

none_given : (e : Event) (q : List ℕ) → is_return e.header ≡ true → name_given q e ≡ None
none_given e q is =
    let none : new_owner e ≡ None =
    ap (λ (b : Bool). if is_bus_side e.side && b then option_map_or (λ t. Some (t.0, t.2)) (three_texts e.header e.bytes) None else None) (no_owner e.header is)
    ∙ ap (λ (b : Bool). if b then option_map_or (λ t. Some (t.0, t.2)) (three_texts e.header e.bytes) None else None) (and-false (is_bus_side e.side)) in
    ap (λ (o : Option (List ℕ × List ℕ)). option_map_or (λ g. if bytes_eq g.1 q then Some g.0 else None) o None) none

same_listing : (h : Header) (n : ℕ) → is_listing h ≡ is_listing (record h { body_len = n })
unfolding handler_of
same_listing h n = refl

step_other_body : (e f : Event) (v : Verdict) → is_return e.header ≡ true → SameStep (record { event = e; verdict = v }) (record { event = with_body_of f e; verdict = v })
step_other_body e f v is = record {
  named = λ q. none_given e q is ∙ sym (none_given (with_body_of f e) q is);
  addressed = λ q. refl;
  sent = refl;
  serial = refl;
  silent = refl;
  listing = same_listing e.header f.header.body_len;
  replied = λ n. refl;
  called = λ q n. refl;
  answered = λ q n. refl;
}

-- ---- one event's verdict, and what it gives

return_of_other : (e f : Event) (serial : ℕ) → IsReturn e serial → IsReturn (with_body_of f e) serial
return_of_other e f serial r = record { side = r.side; is = r.is; driver = r.driver; answers = r.answers }

some_is : {A : Type 0} (o : Option A) (x : A) → o ≡ Some x → is_some o ≡ true
some_is o x e = ap is_some e

same_verdict : (sight : Sight) (noted : List Judged) (e f : Event) (serial : ℕ) (names others : List (List ℕ)) → sight.calls_waiting ≡ calls_after noted → IsReturn e serial
    → names_in e.header e.bytes ≡ Some names → names_in (with_body_of f e).header f.bytes ≡ Some others → verdict_in sight (with_body_of f e) ≡ verdict_in sight e
same_verdict sight noted e f serial names others same r listed relisted =
    return_verdict sight noted (with_body_of f e) serial same (return_of_other e f serial r)
    ∙ ap (λ (some : Bool). option_map_or (reply_with true true (is_list e.header) some) (calls_after noted serial) verdict.Drop) (some_is _ others relisted ∙ sym (some_is _ names listed))
    ∙ sym (return_verdict sight noted e serial same r)

same_bytes : (h : Header) (n : ℕ) (message other : List ℕ) (names : List (List ℕ)) → take 4 other ≡ take 4 message → take (h.body_at - 8) (drop 8 other) ≡ take (h.body_at - 8) (drop 8 message)
    → with_names_bytes (record h { body_len = n }) other names ≡ with_names_bytes h message names
unfolding with_names_bytes
same_bytes h n message other names start fields =
    let body = names_bytes h.little h.body_at names in
    λ i. start i ++ number_bytes h.little (length body) ++ fields i ++ body

reduced_is : (level_of : Levels) (e : Event) (names : List (List ℕ)) → names_in e.header e.bytes ≡ Some names → reduced level_of e ≡ Some (with_names_bytes e.header e.bytes (seen_names level_of names))
reduced_is level_of e names is = ap (option_map (λ (names : List (List ℕ)). with_names_bytes e.header e.bytes (seen_names level_of names))) is

same_reduced : (level_of : Levels) (e f : Event) (names others : List (List ℕ)) → names_in e.header e.bytes ≡ Some names → names_in (with_body_of f e).header f.bytes ≡ Some others
    → take 4 f.bytes ≡ take 4 e.bytes → take (e.header.body_at - 8) (drop 8 f.bytes) ≡ take (e.header.body_at - 8) (drop 8 e.bytes) → seen_names level_of others ≡ seen_names level_of names
    → reduced level_of (with_body_of f e) ≡ reduced level_of e
same_reduced level_of e f names others listed relisted start fields seen =
    reduced_is level_of (with_body_of f e) others relisted
    ∙ ap Some
    (same_bytes e.header f.header.body_len e.bytes f.bytes (seen_names level_of others) start fields
    ∙ ap (with_names_bytes e.header e.bytes) seen)
    ∙ sym (reduced_is level_of e names listed)

-- ---- all events

level_alike : (s : Setting) (one other : List Event) → SameKnown (judged_by s one) (judged_by s other) → level_in s one ≡ level_in s other
level_alike s one other same = ap (λ (sight : Sight). sight.level_of) (sight_alike s.rules s.client s.owners (judged_by s one) (judged_by s other) same)

verdict_alike : (s : Setting) (one other : List Event) (e : Event) → SameKnown (judged_by s one) (judged_by s other) → verdict_on s one e ≡ verdict_on s other e
verdict_alike s one other e same = ap (λ (sight : Sight). verdict_in sight e) (sight_alike s.rules s.client s.owners (judged_by s one) (judged_by s other) same)

out_alike : (s : Setting) (one other : List Event) (e : Event) → SameKnown (judged_by s one) (judged_by s other) → out_after s one e ≡ out_after s other e
out_alike s one other e same = λ i. out_by (level_alike s one other same i) s.client e (verdict_alike s one other e same i)

-- of the two events that differ, over the same events before
body_verdict : (s : Setting) (before : List Event) (e f : Event) (d : DifferUnseen s before e f) → verdict_on s before (with_body_of f e) ≡ verdict_on s before e
body_verdict s before e f d =
    let noted = judged_by s before in
    same_verdict (sight_after s.rules s.client s.owners noted) noted e f d.serial d.names d.others refl d.is d.listed (sym (ap (λ (g : Event). names_in g.header f.bytes) d.same) ∙ d.relisted)

body_out : (s : Setting) (before : List Event) (e f : Event) → DifferUnseen s before e f → out_after s before (with_body_of f e) ≡ out_after s before e
body_out s before e f d =
    let level_of = level_in s before in
    let relisted = sym (ap (λ (g : Event). names_in g.header f.bytes) d.same) ∙ d.relisted in
    let shorter : reduced level_of (with_body_of f e) ≡ reduced level_of e = same_reduced level_of e f d.names d.others d.listed relisted d.start d.fields d.seen in
    ap (out_by level_of s.client (with_body_of f e)) (body_verdict s before e f d ∙ d.reduced)
    ∙ ap (option_map (λ (bytes : List ℕ). record { to = other_side e.side; bytes = bytes })) shorter
    ∙ sym (ap (out_by level_of s.client e) d.reduced)

known_alike : (s : Setting) (one other : List Event) → AlikeButUnseen s one other → SameKnown (judged_by s one) (judged_by s other)
known_alike s [] [] alike = known_none
known_alike s [] (f ∷ others) alike = absurd alike
known_alike s (e ∷ before) [] alike = absurd alike
known_alike s (e ∷ before) (f ∷ others) alike =
    let same = known_alike s before others alike.1 in
    let noted = judged_by s before in
    let v = verdict_on s before e in
    elim alike.0 [
      | inl equal ↦
          let step : SameStep (record { event = e; verdict = v }) (record { event = f; verdict = verdict_on s others f }) =
          subst (λ (k : Judged). SameStep (record { event = e; verdict = v }) k) (λ i. record { event = equal i; verdict = (verdict_alike s before others e same ∙ ap (verdict_on s others) equal) i }) (step_refl (record { event = e; verdict = v })) in
          known_more noted (judged_by s others) _ _ same step
      | inr d ↦
          let same_verdicts : v ≡ verdict_on s others f = sym (body_verdict s before e f d) ∙ verdict_alike s before others (with_body_of f e) same ∙ ap (verdict_on s others) (sym d.same) in
          let step : SameStep (record { event = e; verdict = v }) (record { event = f; verdict = verdict_on s others f }) =
          subst (λ (k : Judged). SameStep (record { event = e; verdict = v }) k) (λ i. record { event = (sym d.same) i; verdict = same_verdicts i }) (step_other_body e f v d.is.is) in
          known_more noted (judged_by s others) _ _ same step
    ]

pub unseen_nothing : UnseenNamesChangeNothing
unseen_nothing s [] [] alike = refl
unseen_nothing s [] (f ∷ others) alike = absurd alike
unseen_nothing s (e ∷ before) [] alike = absurd alike
unseen_nothing s (e ∷ before) (f ∷ others) alike =
    let same = known_alike s before others alike.1 in
    let out : out_after s before e ≡ out_after s others f =
    elim alike.0 [
      | inl equal ↦ out_alike s before others e same ∙ ap (out_after s others) equal
      | inr d ↦ sym (body_out s before e f d) ∙ out_alike s before others (with_body_of f e) same ∙ ap (out_after s others) (sym d.same)
    ] in
    λ i. unseen_nothing s before others alike.1 i ++ option_to_list (out i)

-- ---- the names that are left

seen_more : (test : List ℕ → Bool) (name : List ℕ) (more : List (List ℕ)) (b : Bool) → test name ≡ b → AllByRecursion (λ (n : List ℕ). test n ≡ true) more → AllByRecursion (λ (n : List ℕ). test n ≡ true) (if b then name ∷ more else more)
seen_more test name more true e all = (e, all)
seen_more test name more false e all = all

all_seen : (test : List ℕ → Bool) (names : List (List ℕ)) → AllByRecursion (λ (name : List ℕ). test name ≡ true) (filter test names)
all_seen test [] = tt
all_seen test (name ∷ names) = seen_more test name (filter test names) (test name) refl (all_seen test names)

some_inner : {A : Type 0} (o : Option A) (f : A → List ℕ) (bytes : List ℕ) → option_map f o ≡ Some bytes → (x : A) × (bytes ≡ f x)
some_inner None f bytes e = absurd (false≢true (ap is_some e))
some_inner (Some x) f bytes e = (x, sym (ap (λ (p : Option (List ℕ)). option_map_or (λ (l : List ℕ). l) p []) e))

pub left_seen : LeftNamesAreSeen
left_seen s before e bytes is =
    let level_of = level_in s before in
    let found = some_inner (names_in e.header e.bytes) (λ (names : List (List ℕ)). with_names_bytes e.header e.bytes (seen_names level_of names)) bytes is in
    (seen_names level_of found.0, found.1, all_seen (λ name. is_at_least level.See (level_of name)) found.0)
