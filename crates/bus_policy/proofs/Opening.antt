-- What is known at the opening, by the names that are owned then.
use Rattle.std.proofs.Common.{◌≡◌, ℕ, Bool, true, false, List, [], ◌∷◌, ◌++◌, ◌+◌, ◌<◌, length, take, get_or, Some, None, refl, sym, ap, ◌∙◌, cond}
use Rattle.std.specs.Prelude.{◌||◌, ◌&&◌, if◌then◌else◌, map}
use Rattle.std.specs.List.{list_any, filter_map, cons_option}
use Rattle.std.specs.Str.{bytes_eq}
use Rattle.std.proofs.lemmas.List.{append-nil, take_more}
use Rattle.std.proofs.lemmas.List.Elements.{filter_map-append}
use Rattle.std.proofs.lemmas.List.Folds.{list_any-append}
use Rattle.std.proofs.lemmas.Slice.Eq.{bytes_eq-Decides}
use Rattle.bus_policy.specs.declared.level.Level.{Level}
use Rattle.bus_policy.specs.declared.policy.PolicyRule.{PolicyRule}
use Rattle.bus_policy.specs.Levels.{greater, pattern_matches}
use Rattle.bus_policy.specs.Events.{is_unique_like, name_owned, names_of, has_written, peer_waits}
use Rattle.bus_policy.specs.Watching.{Owners, Known, unknown, name_level, names_level, known_by, known_after, or_each, with_name}
use Rattle.bus_policy.proofs.Greatest.{greater_assoc, greater_comm}

level_push : (rules : List PolicyRule) (names : List (List ℕ)) (name : List ℕ) → names_level rules (names ++ name ∷ []) ≡ greater (name_level rules name) (names_level rules names)
level_push rules [] name = refl
level_push rules (x ∷ names) name =
    let one = name_level rules x in
    let other = name_level rules name in
    let rest = names_level rules names in
    ap (greater one) (level_push rules names name) ∙ sym (greater_assoc one other rest) ∙ ap (λ (l : Level). greater l rest) (greater_comm one other) ∙ greater_assoc other one rest

or_swap : (a b : Bool) → (a || (b || false)) ≡ (b || a)
or_swap true true = refl
or_swap true false = refl
or_swap false true = refl
or_swap false false = refl

flags_push : (names : List (List ℕ)) (name : List ℕ) (rules : List PolicyRule)
    → map (λ rule. list_any (pattern_matches rule.pattern) (names ++ name ∷ [])) rules ≡ or_each (λ rule. pattern_matches rule.pattern name) rules (map (λ rule. list_any (pattern_matches rule.pattern) names) rules)
flags_push names name [] = refl
flags_push names name (rule ∷ rules) =
    let one = pattern_matches rule.pattern name in
    let others = list_any (pattern_matches rule.pattern) names in
    ap (λ (b : Bool). b ∷ map (λ r. list_any (pattern_matches r.pattern) (names ++ name ∷ [])) rules) (list_any-append (pattern_matches rule.pattern) names (name ∷ []) ∙ or_swap others one)
    ∙ ap (λ (l : List Bool). (one || others) ∷ l) (flags_push names name rules)

known_push : (rules : List PolicyRule) (names : List (List ℕ)) (name : List ℕ) (wrote : Bool) (waits : ℕ → Bool) → known_by rules (names ++ name ∷ []) wrote waits ≡ with_name rules name (known_by rules names wrote waits)
known_push rules names name wrote waits = λ i. record { had = level_push rules names name i; wrote = wrote; meant = flags_push names name rules i; waits = waits }

-- a row after others
row_filtered : (owners : Owners) (row : List ℕ × List ℕ) (q : List ℕ) (e : Bool) → bytes_eq row.1 q ≡ e → filter_map (name_owned q) (owners ++ row ∷ []) ≡ cond e (filter_map (name_owned q) owners ++ row.0 ∷ []) (filter_map (name_owned q) owners)
row_filtered owners row q e h = filter_map-append (name_owned q) owners (row ∷ []) ∙ ap (λ (b : Bool). filter_map (name_owned q) owners ++ cons_option (if b then Some row.0 else None) []) h ∙ by e
  where
    by : (e : Bool) → filter_map (name_owned q) owners ++ cons_option (if e then Some row.0 else None) [] ≡ cond e (filter_map (name_owned q) owners ++ row.0 ∷ []) (filter_map (name_owned q) owners)
    by true = refl
    by false = append-nil (filter_map (name_owned q) owners)

pub both_unique : (a q : List ℕ) → (is_unique_like a && bytes_eq a q) ≡ (is_unique_like q && bytes_eq a q)
both_unique a q = by (bytes_eq a q) refl
  where
    by : (e : Bool) → bytes_eq a q ≡ e → (is_unique_like a && e) ≡ (is_unique_like q && e)
    by true e = ap (λ (l : List ℕ). is_unique_like l && true) ((bytes_eq-Decides a q).0 e)
    by false e = no (is_unique_like a) ∙ sym (no (is_unique_like q))
      where
        no : (b : Bool) → (b && false) ≡ false
        no true = refl
        no false = refl

names_row : (owners : Owners) (row : List ℕ × List ℕ) (q : List ℕ) → names_of (owners ++ row ∷ []) [] q ≡ cond (is_unique_like row.1 && bytes_eq row.1 q) (names_of owners [] q ++ row.0 ∷ []) (names_of owners [] q)
names_row owners row q =
    by (is_unique_like q) (bytes_eq row.1 q) (row_filtered owners row q (bytes_eq row.1 q) refl)
    ∙ ap (λ (b : Bool). cond b (names_of owners [] q ++ row.0 ∷ []) (names_of owners [] q)) (sym (both_unique row.1 q))
  where
    by : (u e : Bool) → filter_map (name_owned q) (owners ++ row ∷ []) ≡ cond e (filter_map (name_owned q) owners ++ row.0 ∷ []) (filter_map (name_owned q) owners)
        → (if u then filter_map (name_owned q) (owners ++ row ∷ []) else [])
        ≡ cond (u && e) ((if u then filter_map (name_owned q) owners else []) ++ row.0 ∷ []) (if u then filter_map (name_owned q) owners else [])
    by true e h = h
    by false e h = refl

pub known_row : (rules : List PolicyRule) (owners : Owners) (row : List ℕ × List ℕ) (q : List ℕ)
    → known_after rules (owners ++ row ∷ []) [] q ≡ (if is_unique_like row.1 && bytes_eq row.1 q then with_name rules row.0 (known_after rules owners [] q) else known_after rules owners [] q)
known_row rules owners row q =
    let names = names_of owners [] q in
    let wrote = has_written [] q in
    let waits = peer_waits [] q in
    ap (λ (l : List (List ℕ)). known_by rules l wrote waits) (names_row owners row q) ∙ by (is_unique_like row.1 && bytes_eq row.1 q) names wrote waits
  where
    by : (b : Bool) (names : List (List ℕ)) (wrote : Bool) (waits : ℕ → Bool) → known_by rules (cond b (names ++ row.0 ∷ []) names) wrote waits ≡ (if b then with_name rules row.0 (known_by rules names wrote waits) else known_by rules names wrote waits)
    by true names wrote waits = known_push rules names row.0 wrote waits
    by false names wrote waits = refl

pub known_none : (rules : List PolicyRule) (q : List ℕ) → unknown rules ≡ known_after rules [] [] q
known_none rules q = by (is_unique_like q)
  where
    by : (u : Bool) → unknown rules ≡ known_by rules (if u then [] else []) (u && false) (λ s. false)
    by true = refl
    by false = refl

-- one row more
pub opening_next : (rules : List PolicyRule) (owners : Owners) (i : ℕ) (row : List ℕ × List ℕ) (owner name q : List ℕ) (old new : Known) → i < length owners → row ≡ get_or owners i row → owner ≡ row.1 → name ≡ row.0
    → new ≡ (if is_unique_like owner && bytes_eq owner q then with_name rules name old else old) → old ≡ known_after rules (take i owners) [] q → new ≡ known_after rules (take (i + 1) owners) [] q
opening_next rules owners i row owner name q old new lt is owner_is name_is next so_far =
    next
    ∙ ap (λ (o : List ℕ). if is_unique_like o && bytes_eq o q then with_name rules name old else old) owner_is
    ∙ ap (λ (n : List ℕ). if is_unique_like row.1 && bytes_eq row.1 q then with_name rules n old else old) name_is
    ∙ ap (λ (k : Known). if is_unique_like row.1 && bytes_eq row.1 q then with_name rules row.0 k else k) so_far
    ∙ sym (known_row rules (take i owners) row q)
    ∙ ap (λ (r : List ℕ × List ℕ). known_after rules (take i owners ++ r ∷ []) [] q) is
    ∙ ap (λ (l : Owners). known_after rules l [] q) (sym (take_more owners i row lt))
