-- The first place of a name among names, and what stands there.
use Rattle.std.proofs.Common.{◌≡◌, ℕ, suc, ◌+◌, ◌<◌, ◌≤◌, Bool, true, false, cond, ltb, List, [], ◌∷◌, ◌++◌, map, length, get_or, set, Option, Some, None, unwrap_or, refl, sym, ap, subst, ◌∙◌, inl, inr, ◌⊎◌, arith}
use Rattle.std.specs.List.{list_any, position, position_or_len}
use Rattle.std.specs.Option.{option_map}
use Rattle.std.specs.Str.{bytes_eq}
use Rattle.std.proofs.lemmas.Bool.{cases_Bool, ltb-true, ltb-false, lt-ltb, le-ltb}
use Rattle.std.proofs.lemmas.List.{length-map}
use Rattle.fp_base.proofs.Texts.{bytes_eq-true}
use Rattle.fp_keyfile.specs.declared.group.Pair.{Pair}
use Rattle.fp_keyfile.specs.declared.group.Group.{Group}
use Rattle.fp_keyfile.specs.KeyFile.{names_of, keys_of, with_name, with_key, with_group, with_pair}
use Rattle.fp_keyfile.specs.Index.{Places, place_in, Indexes}
use Rattle.fp_keyfile.proofs.Names.{bytes_eq-sym}
use Rattle.fp_keyfile.proofs.Good.{keys_of-with_key}
use Rattle.fp_keyfile.proofs.Changes.{with_key_new}

-- ---- places, by recursion

pub position-nil : {X : Type 0} (p : X → Bool) → position p [] ≡ None
position-nil p = refl

pub position-cons : {X : Type 0} (p : X → Bool) (x : X) (xs : List X) → position p (x ∷ xs) ≡ cond (p x) (Some 0) (option_map (λ n. suc n) (position p xs))
position-cons p x xs =
    elim (cases_Bool (p x)) [
      | inl e ↦ rw (e, lt-ltb 0 (suc (length xs)) (omega arith)) refl
      | inr e ↦ rw e (elim (cases_Bool (ltb (position_or_len p xs) (length xs))) [
        | inl f ↦
            let h = ltb-true (position_or_len p xs) (length xs) f in
            let one : 1 + position_or_len p xs ≡ suc (position_or_len p xs) = omega arith in
            rw (f, one, lt-ltb (suc (position_or_len p xs)) (suc (length xs)) (omega arith)) refl
        | inr f ↦
            let h = ltb-false (position_or_len p xs) (length xs) f in
            let one : 1 + position_or_len p xs ≡ suc (position_or_len p xs) = omega arith in
            rw (f, one, le-ltb (suc (position_or_len p xs)) (suc (length xs)) (omega arith)) refl
      ])
    ]

-- a test of the elements is a test of what f reads of them
pub position-map : {X Y : Type 0} (p : Y → Bool) (f : X → Y) (xs : List X) → position (λ x. p (f x)) xs ≡ position p (map f xs)
position-map p f [] = refl
position-map p f (x ∷ xs) = position-cons (λ x. p (f x)) x xs ∙ ap (λ (o : Option ℕ). cond (p (f x)) (Some 0) (option_map (λ n. suc n) o)) (position-map p f xs) ∙ sym (position-cons p (f x) (map f xs))

-- the first place of a name
abbrev pub place_of : List (List ℕ) → List ℕ → Option ℕ
place_of names name = position (λ n. bytes_eq n name) names

suc_or : (o : Option ℕ) (n : ℕ) → unwrap_or (option_map (λ k. suc k) o) (suc n) ≡ suc (unwrap_or o n)
suc_or None n = refl
suc_or (Some k) n = refl

-- where each name stands, once one more is among them
pub place_of-with_name : (names : List (List ℕ)) (name q : List ℕ) → place_of (with_name names name) q ≡ cond (bytes_eq name q) (Some (unwrap_or (place_of names name) (length names))) (place_of names q)
place_of-with_name [] name q = position-cons (λ n. bytes_eq n q) name [] ∙ refl
place_of-with_name (n ∷ names) name q =
    let here = position-cons (λ x. bytes_eq x q) n names in
    let own = position-cons (λ x. bytes_eq x name) n names in
    elim (cases_Bool (bytes_eq n name)) [
      | inl e ↦
          let same : bytes_eq n q ≡ bytes_eq name q = ap (λ (w : List ℕ). bytes_eq w q) (bytes_eq-true n name e) in
          rw (own, e, here, same) (elim (cases_Bool (bytes_eq name q)) [ inl f ↦ rw f refl | inr f ↦ rw f refl ])
      | inr e ↦
          let next = position-cons (λ x. bytes_eq x q) n (with_name names name) in
          rw (own, e, next, here, place_of-with_name names name q) (elim (cases_Bool (bytes_eq n q)) [
            | inl f ↦ rw (f, differs e f) refl
            | inr f ↦ rw f (elim (cases_Bool (bytes_eq name q)) [
              | inl g ↦ rw g (ap (λ (k : ℕ). Some k) (sym (suc_or (place_of names name) (length names))))
              | inr g ↦ rw g refl
            ])
          ])
    ]
  where
    differs : bytes_eq n name ≡ false → bytes_eq n q ≡ true → bytes_eq name q ≡ false
    differs e f = ap (bytes_eq name) (sym (bytes_eq-true n q f)) ∙ bytes_eq-sym name n ∙ e

-- the map knows the names, once the one that was asked for is among them
pub Indexes-with_name : (old new : Places) (names : List (List ℕ)) (name : List ℕ) (at : ℕ) → Indexes old names → at ≡ unwrap_or (place_in old name) (length names)
    → ((other : List ℕ) → place_in new other ≡ cond (bytes_eq name other) (Some at) (place_in old other)) → Indexes new (with_name names name)
Indexes-with_name old new names name at h is after = record {
  at = λ q. after q ∙ rw (h.at q, is, h.at name) (sym (place_of-with_name names name q));
}

-- the place is the first, or one after it
pub record IsNext (o : Option ℕ) (at : ℕ) : Type 0 where
  pub before : ℕ
  pub is : at ≡ suc before
  pub place : o ≡ Some before

some_place : (b : Bool) (o : Option ℕ) (at : ℕ) → cond b (Some 0) (option_map (λ n. suc n) o) ≡ Some at → ((b ≡ true) × (at ≡ 0)) ⊎ ((b ≡ false) × IsNext o at)
some_place true o at h = inl (refl, cc)
some_place false None at h = absurd cc
some_place false (Some k) at h = inr (refl, record { before = k; is = cc; place = refl })

no_place : (b : Bool) (o : Option ℕ) → cond b (Some 0) (option_map (λ n. suc n) o) ≡ None → (b ≡ false) × (o ≡ None)
no_place true o h = absurd cc
no_place false None h = (refl, refl)
no_place false (Some k) h = absurd cc

-- where the first element passes the test, and where it fails it
pub at_place : {X : Type 0} (p : X → Bool) (x : X) (xs : List X) (at : ℕ) → position p (x ∷ xs) ≡ Some at → ((p x ≡ true) × (at ≡ 0)) ⊎ ((p x ≡ false) × IsNext (position p xs) at)
at_place p x xs at h = some_place (p x) (position p xs) at (sym (position-cons p x xs) ∙ h)

pub at_none : {X : Type 0} (p : X → Bool) (x : X) (xs : List X) → position p (x ∷ xs) ≡ None → (p x ≡ false) × (position p xs ≡ None)
at_none p x xs h = no_place (p x) (position p xs) (sym (position-cons p x xs) ∙ h)

-- ---- what stands at a place

-- the place of a name is one of the list, and the name stands there
pub record StandsAt (names : List (List ℕ)) (at : ℕ) (name : List ℕ) : Type 0 where
  pub within : at < length names
  pub is : get_or names at [] ≡ name

pub StandsAt-from : (names : List (List ℕ)) (name : List ℕ) (at : ℕ) → place_of names name ≡ Some at → StandsAt names at name
StandsAt-from [] name at h = absurd cc
StandsAt-from (n ∷ names) name at h =
    elim (at_place (λ x. bytes_eq x name) n names at h) [
      | inl here ↦ rw here.1 (record { within = omega arith; is = bytes_eq-true n name here.0 })
      | inr next ↦
          let rest = StandsAt-from names name next.1.before next.1.place in
          rw next.1.is (record { within = omega (arith, rest.within); is = rest.is })
    ]

pub absent_from : (names : List (List ℕ)) (name : List ℕ) → place_of names name ≡ None → list_any (λ n. bytes_eq n name) names ≡ false
absent_from [] name h = refl
absent_from (n ∷ names) name h =
    let a = at_none (λ x. bytes_eq x name) n names h in
    rw a.0 (absent_from names name a.1)

-- ---- a change at a place

pub with_key_found : (pairs : List Pair) (key value : List ℕ) (at : ℕ) → place_of (keys_of pairs) key ≡ Some at → with_key pairs key value ≡ set pairs at (record { key = key; value = value })
with_key_found [] key value at h = absurd cc
with_key_found (p ∷ pairs) key value at h =
    elim (at_place (λ x. bytes_eq x key) p.key (keys_of pairs) at h) [
      | inl here ↦ rw (here.1, here.0) (ap (λ (k : List ℕ). record { key = k; value = value } ∷ pairs) (bytes_eq-true p.key key here.0))
      | inr next ↦ rw (next.1.is, next.0) (ap (λ (ps : List Pair). p ∷ ps) (with_key_found pairs key value next.1.before next.1.place))
    ]

pub with_group_found : (file : List Group) (name : List ℕ) (at : ℕ) → place_of (names_of file) name ≡ Some at → with_group file name ≡ file
unfolding with_group
with_group_found [] name at h = absurd cc
with_group_found (g ∷ file) name at h =
    elim (at_place (λ x. bytes_eq x name) g.name (names_of file) at h) [
      | inl here ↦ rw here.0 refl
      | inr next ↦ rw next.0 (ap (λ (gs : List Group). g ∷ gs) (with_group_found file name next.1.before next.1.place))
    ]

pub with_pair_found : (file : List Group) (name key value : List ℕ) (at : ℕ) (g : Group) → place_of (names_of file) name ≡ Some at → g ≡ get_or file at g
    → with_pair file name key value ≡ set file at (record g { pairs = with_key g.pairs key value })
unfolding with_pair
with_pair_found [] name key value at g h is = absurd cc
with_pair_found (f ∷ file) name key value at g h is =
    elim (at_place (λ x. bytes_eq x name) f.name (names_of file) at h) [
      | inl here ↦
          let same : g ≡ f = is ∙ ap (λ (k : ℕ). get_or (f ∷ file) k g) here.1 in
          rw (here.1, here.0, same) refl
      | inr next ↦
          let same : g ≡ get_or file next.1.before g = is ∙ ap (λ (k : ℕ). get_or (f ∷ file) k g) next.1.is in
          rw (next.1.is, next.0) (ap (λ (gs : List Group). f ∷ gs) (with_pair_found file name key value next.1.before g next.1.place same))
    ]

-- no name is added where it is there
pub with_name_found : (names : List (List ℕ)) (name : List ℕ) (at : ℕ) → place_of names name ≡ Some at → with_name names name ≡ names
with_name_found [] name at h = absurd cc
with_name_found (n ∷ names) name at h =
    elim (at_place (λ x. bytes_eq x name) n names at h) [
      | inl here ↦ rw here.0 refl
      | inr next ↦ rw next.0 (ap (λ (ns : List (List ℕ)). n ∷ ns) (with_name_found names name next.1.before next.1.place))
    ]

-- ---- a pair that is put, after a search for its key

-- the pairs once the search found the place
pub put_found : (pairs new : List Pair) (key value : List ℕ) (at : ℕ) (pair : Pair) → pair ≡ record { key = key; value = value } → Some at ≡ position (λ p. bytes_eq p.key key) pairs → new ≡ set pairs at pair → new ≡ with_key pairs key value
put_found pairs new key value at pair is found set_is = set_is ∙ ap (set pairs at) is ∙ sym (with_key_found pairs key value at (sym (found ∙ position-map (λ n. bytes_eq n key) (λ (p : Pair). p.key) pairs)))

-- the pairs once it found none
pub put_new : (pairs new : List Pair) (key value : List ℕ) (pair : Pair) → pair ≡ record { key = key; value = value } → None ≡ position (λ p. bytes_eq p.key key) pairs → new ≡ pairs ++ (pair ∷ []) → new ≡ with_key pairs key value
put_new pairs new key value pair is missed push_is = push_is ∙ ap (λ (p : Pair). pairs ++ (p ∷ [])) is ∙ sym (with_key_new pairs key value (absent_from (keys_of pairs) key (sym (missed ∙ position-map (λ n. bytes_eq n key) (λ (p : Pair). p.key) pairs))))

-- ---- the same, after a look-up by a map

-- what the look-up gives is a place of the list, or the next one
pub record IsLookup (names : List (List ℕ)) (name : List ℕ) (at : ℕ) : Type 0 where
  pub within : at ≤ length names
  pub found : at < length names → place_of names name ≡ Some at
  pub missed : length names ≤ at → place_of names name ≡ None

pub IsLookup-from : (names : List (List ℕ)) (name : List ℕ) (at : ℕ) → at ≡ unwrap_or (place_of names name) (length names) → IsLookup names name at
IsLookup-from names name at h = by_place (place_of names name) refl h
  where
    by_place : (o : Option ℕ) → place_of names name ≡ o → at ≡ unwrap_or o (length names) → IsLookup names name at
    by_place None is h = record { within = omega arith; found = λ lt. absurd (omega arith); missed = λ le. is }
    by_place (Some k) is h = record { within = omega (arith, (StandsAt-from names name k is).within); found = λ lt. is ∙ ap (λ (n : ℕ). Some n) (sym h); missed = λ le. absurd (omega (arith, (StandsAt-from names name k is).within)) }

pub record IsPut (new : Places) (pairs : List Pair) (key value : List ℕ) (at : ℕ) : Type 0 where
  pub found : at < length pairs → with_key pairs key value ≡ set pairs at (record { key = key; value = value })
  pub fresh : length pairs ≤ at → with_key pairs key value ≡ pairs ++ (record { key = key; value = value } ∷ [])
  pub indexed : Indexes new (keys_of (with_key pairs key value))

pub IsPut-from : (old new : Places) (pairs : List Pair) (key value : List ℕ) (at next : ℕ) → Indexes old (keys_of pairs) → next ≡ length pairs → at ≡ unwrap_or (place_in old key) next
    → ((other : List ℕ) → place_in new other ≡ cond (bytes_eq key other) (Some at) (place_in old other)) → IsPut new pairs key value at
IsPut-from old new pairs key value at next h len is after =
    let all : length (keys_of pairs) ≡ length pairs = length-map pairs (λ (p : Pair). p.key) in
    let same : at ≡ unwrap_or (place_in old key) (length (keys_of pairs)) = is ∙ ap (unwrap_or (place_in old key)) (len ∙ sym all) in
    let look = IsLookup-from (keys_of pairs) key at (same ∙ ap (λ (o : Option ℕ). unwrap_or o (length (keys_of pairs))) (h.at key)) in
    record {
      found = λ lt. with_key_found pairs key value at (look.found (omega (arith, all)));
      fresh = λ le. with_key_new pairs key value (absent_from (keys_of pairs) key (look.missed (omega (arith, all))));
      indexed = rw (keys_of-with_key pairs key value) (Indexes-with_name old new (keys_of pairs) key at h same after);
    }

-- the pairs that a call left, once it wrote at the place, or added at the end
pub IsPut-found : {places : Places} {pairs : List Pair} {key value : List ℕ} {at : ℕ} → IsPut places pairs key value at → {new : List Pair} {pair : Pair} → pair ≡ record { key = key; value = value } → new ≡ set pairs at pair → at < length pairs → new ≡ with_key pairs key value
IsPut-found {pairs = pairs} {at = at} h is left lt = left ∙ ap (set pairs at) is ∙ sym (h.found lt)

pub IsPut-fresh : {places : Places} {pairs : List Pair} {key value : List ℕ} {at : ℕ} → IsPut places pairs key value at → {new : List Pair} {pair : Pair} → pair ≡ record { key = key; value = value } → new ≡ pairs ++ (pair ∷ []) → length pairs ≤ at → new ≡ with_key pairs key value
IsPut-fresh {pairs = pairs} h is left le = left ∙ ap (λ (p : Pair). pairs ++ (p ∷ [])) is ∙ sym (h.fresh le)

pub IsPut-indexed : {places : Places} {pairs : List Pair} {key value : List ℕ} {at : ℕ} → IsPut places pairs key value at → {new : List Pair} → new ≡ with_key pairs key value → Indexes places (keys_of new)
IsPut-indexed {places = places} h is = subst (λ (ps : List Pair). Indexes places (keys_of ps)) (sym is) h.indexed
