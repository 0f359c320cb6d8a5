-- What a watch knows is what is known after the events that it noted.
use Rattle.std.proofs.Common.{◌≡◌, ℕ, Bool, true, false, List, [], ◌∷◌, ◌++◌, Option, Some, None, refl, sym, ap, subst, ◌∙◌}
use Rattle.std.specs.Prelude.{◌||◌, ◌&&◌, if◌then◌else◌, map, unwrap_or}
use Rattle.std.specs.List.{list_any, filter_map, cons_option}
use Rattle.indexmap.specs.IndexMap.{get_by_text}
use Rattle.bus_frame.specs.declared.header.Header.{Header}
use Rattle.bus_policy.specs.declared.policy.PolicyRule.{PolicyRule}
use Rattle.bus_policy.specs.declared.policy.RuleKind.{RuleKind}
use Rattle.bus_policy.specs.declared.watch.Watch.{Watch}
use Rattle.bus_policy.specs.Levels.{pattern_matches}
use Rattle.bus_policy.specs.Events.{Judged, is_unique_like, name_given, name_owned, names_of, is_addressed_by, has_written, peer_waits}
use Rattle.bus_policy.specs.Watching.{Owners, KeepsKnown, CallsAt, calls_after, known_of, known_by, known_after, or_each, with_name, with_name_if, name_told, with_event, rules_of, client_of, WatchAt, sight_by, sight_of, sight_after, level_after, leave_after, any_leave}
use Rattle.bus_policy.proofs.Leave.{all_flags}

leave_same : (rules : List PolicyRule) (owners : Owners) (noted : List Judged) → (λ kind peer header. any_leave kind peer header rules (known_after rules owners noted peer).meant) ≡ leave_after rules owners noted
leave_same rules owners noted = λ i kind peer header. all_flags kind peer header (names_of owners noted peer) rules i

pub sight_same : {S H : Type 0} (w : Watch S H) (owners : Owners) (noted : List Judged) → WatchAt w owners noted → sight_of w ≡ sight_after (rules_of w) (client_of w) owners noted
unfolding sight_of
sight_same w owners noted at =
    let known : sight_of w ≡ sight_by (rules_of w) (client_of w) (known_after (rules_of w) owners noted) (calls_after noted) =
    λ i. sight_by (rules_of w) (client_of w) (λ name. at.peers name i) (λ serial. at.calls.waiting serial i) in
    known ∙ (λ i. record {
      level_of = level_after (rules_of w) (client_of w) owners noted;
      gives_leave = leave_same (rules_of w) owners noted i;
      calls_waiting = calls_after noted;
      peer_waits = peer_waits noted;
    })

-- ---- an event more

flags_more : (name : List ℕ) (names : List (List ℕ)) (rules : List PolicyRule)
    → map (λ rule. list_any (pattern_matches rule.pattern) (name ∷ names)) rules ≡ or_each (λ rule. pattern_matches rule.pattern name) rules (map (λ rule. list_any (pattern_matches rule.pattern) names) rules)
flags_more name names [] = refl
flags_more name names (rule ∷ rules) = ap (λ (l : List Bool). (pattern_matches rule.pattern name || list_any (pattern_matches rule.pattern) names) ∷ l) (flags_more name names rules)

pub known_by-name : (rules : List PolicyRule) (name : List ℕ) (names : List (List ℕ)) (wrote : Bool) (waits : ℕ → Bool) → known_by rules (name ∷ names) wrote waits ≡ with_name rules name (known_by rules names wrote waits)
known_by-name rules name names wrote waits = λ i. record (known_by rules (name ∷ names) wrote waits) { meant = flags_more name names rules i }

-- names by an event, where it gives one to this peer
names_next : (rules : List PolicyRule) (told : Option (List ℕ)) (names : List (List ℕ)) (wrote : Bool) (waits : ℕ → Bool)
    → known_by rules (cons_option told names) wrote waits ≡ with_name_if rules told (known_by rules names wrote waits)
names_next rules None names wrote waits = refl
names_next rules (Some name) names wrote waits = known_by-name rules name names wrote waits

pub names_told : (owners : Owners) (noted : List Judged) (j : Judged) (q : List ℕ) → names_of owners (j ∷ noted) q ≡ cons_option (name_told q j) (names_of owners noted q)
names_told owners noted j q = by (is_unique_like q) (name_given q j.event)
  where
    by : (u : Bool) (given : Option (List ℕ))
        → (if u then cons_option given (filter_map (λ x. name_given q x.event) noted) ++ filter_map (name_owned q) owners else [])
        ≡ cons_option (if u then given else None) (if u then filter_map (λ x. name_given q x.event) noted ++ filter_map (name_owned q) owners else [])
    by true None = refl
    by true (Some name) = refl
    by false given = refl

pub written_next : (noted : List Judged) (j : Judged) (q : List ℕ) → has_written (j ∷ noted) q ≡ ((is_unique_like q && is_addressed_by q j.event) || has_written noted q)
written_next noted j q = by (is_unique_like q) (is_addressed_by q j.event)
  where
    by : (u a : Bool) → (u && (a || list_any (λ x. is_addressed_by q x.event) noted)) ≡ ((u && a) || (u && list_any (λ x. is_addressed_by q x.event) noted))
    by true a = refl
    by false a = refl

pub known_next : (rules : List PolicyRule) (owners : Owners) (noted : List Judged) (j : Judged) (q : List ℕ) → with_event rules j q (known_after rules owners noted q) ≡ known_after rules owners (j ∷ noted) q
known_next rules owners noted j q =
    let names = names_of owners noted q in
    let told = name_told q j in
    sym
    (ap (λ (l : List (List ℕ)). known_by rules l (has_written (j ∷ noted) q) (peer_waits (j ∷ noted) q)) (names_told owners noted j q)
    ∙ ap (λ (b : Bool). known_by rules (cons_option told names) b (peer_waits (j ∷ noted) q)) (written_next noted j q)
    ∙ (λ i. record (names_next rules told names (has_written noted q) (peer_waits noted q) i) {
      wrote = (is_unique_like q && is_addressed_by q j.event) || has_written noted q;
      waits = peer_waits (j ∷ noted) q;
    }))

-- an event noted
pub watch_next : {S H : Type 0} (old new : Watch S H) (owners : Owners) (noted : List Judged) (j : Judged) → rules_of new ≡ rules_of old
    → ((q : List ℕ) → known_of (rules_of old) (get_by_text new.peers q) ≡ with_event (rules_of old) j q (known_of (rules_of old) (get_by_text old.peers q)))
    → (KeepsKnown (rules_of old) (get_by_text old.peers) → KeepsKnown (rules_of old) (get_by_text new.peers))
    → (CallsAt old.calls noted → CallsAt new.calls (j ∷ noted))
    → WatchAt old owners noted → WatchAt new owners (j ∷ noted)
watch_next old new owners noted j same peers keeps calls at = record {
  peers = λ q. subst (λ (rules : List PolicyRule). known_of rules (get_by_text new.peers q) ≡ known_after rules owners (j ∷ noted) q) (sym same)
      (peers q ∙ ap (with_event (rules_of old) j q) (at.peers q) ∙ known_next (rules_of old) owners noted j q);
  kept = subst (λ (rules : List PolicyRule). KeepsKnown rules (get_by_text new.peers)) (sym same) (keeps at.kept);
  calls = calls at.calls;
}

-- nothing noted
pub watch_same : {S H : Type 0} (old new : Watch S H) (owners : Owners) (noted : List Judged) → rules_of new ≡ rules_of old
    → ((q : List ℕ) → known_of (rules_of old) (get_by_text new.peers q) ≡ known_of (rules_of old) (get_by_text old.peers q))
    → (KeepsKnown (rules_of old) (get_by_text old.peers) → KeepsKnown (rules_of old) (get_by_text new.peers))
    → (CallsAt old.calls noted → CallsAt new.calls noted)
    → WatchAt old owners noted → WatchAt new owners noted
watch_same old new owners noted same peers keeps calls at = record {
  peers = λ q. subst (λ (rules : List PolicyRule). known_of rules (get_by_text new.peers q) ≡ known_after rules owners noted q) (sym same) (peers q ∙ at.peers q);
  kept = subst (λ (rules : List PolicyRule). KeepsKnown rules (get_by_text new.peers)) (sym same) (keeps at.kept);
  calls = calls at.calls;
}
