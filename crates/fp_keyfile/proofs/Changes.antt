-- What a file holds after a change.
use Rattle.std.proofs.Common.{◌≡◌, ℕ, Bool, true, false, cond, not, ◌&&◌, List, [], ◌∷◌, ◌++◌, Option, Some, None, refl, sym, ap, subst, ◌∙◌, inl, inr}
use Rattle.std.specs.List.{list_all, list_any}
use Rattle.std.specs.Option.{option_map}
use Rattle.std.specs.Str.{bytes_eq}
use Rattle.std.proofs.lemmas.Bool.{cases_Bool, and_parts, or_parts, not-true}
use Rattle.fp_base.proofs.Texts.{bytes_eq-true, bytes_eq-same}
use Rattle.fp_keyfile.specs.declared.group.Pair.{Pair}
use Rattle.fp_keyfile.specs.declared.group.Group.{Group}
use Rattle.fp_keyfile.specs.KeyFile.{names_of, keys_of, pair_at, value_at, keys_at, with_name, with_key, with_group, with_pair, without_key, with_rest, group_without, without_pair, are_distinct, is_good_group, is_good}
use Rattle.fp_keyfile.proofs.Good.{good_parts, good_group_parts, keys_of-with_key}
use Rattle.fp_keyfile.proofs.Names.{bytes_eq-sym}

-- ---- a new key, a new group, and a key in the last group

pub with_key_new : (pairs : List Pair) (key value : List ℕ) → list_any (λ k. bytes_eq k key) (keys_of pairs) ≡ false → with_key pairs key value ≡ pairs ++ (record { key = key; value = value } ∷ [])
with_key_new [] key value h = refl
with_key_new (p ∷ pairs) key value h =
    let a = or_parts (bytes_eq p.key key) (list_any (λ k. bytes_eq k key) (keys_of pairs)) h in
    rw a.0 (ap (λ (ps : List Pair). p ∷ ps) (with_key_new pairs key value a.1))

pub with_group_new : (file : List Group) (name : List ℕ) → list_any (λ n. bytes_eq n name) (names_of file) ≡ false → with_group file name ≡ file ++ (record { name = name; pairs = [] } ∷ [])
unfolding with_group
with_group_new [] name h = refl
with_group_new (g ∷ file) name h =
    let a = or_parts (bytes_eq g.name name) (list_any (λ n. bytes_eq n name) (names_of file)) h in
    rw a.0 (ap (λ (gs : List Group). g ∷ gs) (with_group_new file name a.1))

pub with_pair_last : (file : List Group) (name : List ℕ) (pairs : List Pair) (key value : List ℕ) → list_any (λ n. bytes_eq n name) (names_of file) ≡ false
    → with_pair (file ++ (record { name = name; pairs = pairs } ∷ [])) name key value ≡ file ++ (record { name = name; pairs = with_key pairs key value } ∷ [])
unfolding with_pair
with_pair_last [] name pairs key value h = rw (bytes_eq-same name) refl
with_pair_last (g ∷ file) name pairs key value h =
    let a = or_parts (bytes_eq g.name name) (list_any (λ n. bytes_eq n name) (names_of file)) h in
    rw a.0 (ap (λ (gs : List Group). g ∷ gs) (with_pair_last file name pairs key value a.1))

-- a pair of a group that isn't there stands in a group of its own at the end
pub with_pair_new : (file : List Group) (name key value : List ℕ) → list_any (λ n. bytes_eq n name) (names_of file) ≡ false → with_pair file name key value ≡ file ++ (record { name = name; pairs = record { key = key; value = value } ∷ [] } ∷ [])
unfolding with_pair
with_pair_new [] name key value h = refl
with_pair_new (g ∷ file) name key value h =
    let a = or_parts (bytes_eq g.name name) (list_any (λ n. bytes_eq n name) (names_of file)) h in
    rw a.0 (ap (λ (gs : List Group). g ∷ gs) (with_pair_new file name key value a.1))

-- ---- look-up after a change

-- the value of a pair that may be there
abbrev pub value_in : List Pair → List ℕ → Option (List ℕ)
value_in pairs key = option_map (λ p. p.value) (pair_at pairs key)

value_in-with_key : (pairs : List Pair) (key value k : List ℕ) → value_in (with_key pairs key value) k ≡ cond (bytes_eq key k) (Some value) (value_in pairs k)
value_in-with_key [] key value k = elim (cases_Bool (bytes_eq key k)) [ inl e ↦ rw e refl | inr e ↦ rw e refl ]
value_in-with_key (p ∷ pairs) key value k =
    elim (cases_Bool (bytes_eq p.key key)) [
      | inl e ↦
          let same : p.key ≡ key = bytes_eq-true p.key key e in
          rw e (subst (λ (w : List ℕ). option_map (λ (q : Pair). q.value) (cond (bytes_eq p.key k) (Some (record { key = p.key; value = value })) (pair_at pairs k)) ≡ cond (bytes_eq w k) (Some value) (value_in (p ∷ pairs) k)) same (at_place (bytes_eq p.key k) refl))
      | inr e ↦ rw e (elim (cases_Bool (bytes_eq p.key k)) [
        | inl f ↦ rw (f, differs e f) refl
        | inr f ↦ rw f (value_in-with_key pairs key value k)
      ])
    ]
  where
    at_place : (b : Bool) → b ≡ bytes_eq p.key k → option_map (λ (q : Pair). q.value) (cond b (Some (record { key = p.key; value = value })) (pair_at pairs k)) ≡ cond b (Some value) (value_in (p ∷ pairs) k)
    at_place true h = refl
    at_place false h = rw (← h) refl

    differs : bytes_eq p.key key ≡ false → bytes_eq p.key k ≡ true → bytes_eq key k ≡ false
    differs e f = let same : p.key ≡ k = bytes_eq-true p.key k f in ap (bytes_eq key) (sym same) ∙ bytes_eq-sym key p.key ∙ e

pub value_at-nil : (name key : List ℕ) → value_at [] name key ≡ None
unfolding value_at
value_at-nil name key = refl

pub value_at-cons : (g : Group) (file : List Group) (name key : List ℕ) → value_at (g ∷ file) name key ≡ cond (bytes_eq g.name name) (value_in g.pairs key) (value_at file name key)
unfolding value_at
value_at-cons g file name key = elim (cases_Bool (bytes_eq g.name name)) [ inl e ↦ rw e refl | inr e ↦ rw e refl ]

-- the two sides of an equation that goes by whether the group and the key are the changed ones
chosen : {A : Type 0} (a b : Bool) (x y : A) → cond (a && b) x y ≡ cond a (cond b x y) y
chosen true b x y = refl
chosen false b x y = refl

-- names that are the same are the same to a third
same_to : (x y z : List ℕ) → bytes_eq x y ≡ true → bytes_eq x z ≡ bytes_eq y z
same_to x y z e = ap (λ (w : List ℕ). bytes_eq w z) (bytes_eq-true x y e)

differs_to : (x y z : List ℕ) → bytes_eq x y ≡ false → bytes_eq x z ≡ true → bytes_eq y z ≡ false
differs_to x y z e f = ap (bytes_eq y) (sym (bytes_eq-true x z f)) ∙ bytes_eq-sym y x ∙ e

-- After a value is set, its pair has it, and each other pair has the value that it had.
pub value_at-with_pair : (file : List Group) (name key value n k : List ℕ) → value_at (with_pair file name key value) n k ≡ cond (bytes_eq name n && bytes_eq key k) (Some value) (value_at file n k)
unfolding with_pair
value_at-with_pair [] name key value n k =
    rw (value_at-cons (record { name = name; pairs = record { key = key; value = value } ∷ [] }) [] n k, value_at-nil n k, chosen (bytes_eq name n) (bytes_eq key k) (Some value) None)
    (ap (λ (w : Option (List ℕ)). cond (bytes_eq name n) w None) (value_in-with_key [] key value k))
value_at-with_pair (g ∷ file) name key value n k =
    elim (cases_Bool (bytes_eq g.name name)) [
      | inl e ↦
          let new = value_at-cons (record g { pairs = with_key g.pairs key value }) file n k in
          let old = value_at-cons g file n k in
          let same = same_to g.name name n e in
          rw (e, new, old, ← same) (elim (cases_Bool (bytes_eq g.name n)) [
            | inl f ↦ rw f (value_in-with_key g.pairs key value k)
            | inr f ↦ rw f refl
          ])
      | inr e ↦
          let new = value_at-cons g (with_pair file name key value) n k in
          let old = value_at-cons g file n k in
          rw (e, new, old) (elim (cases_Bool (bytes_eq g.name n)) [
            | inl f ↦ rw (f, differs_to g.name name n e f) refl
            | inr f ↦ rw f (value_at-with_pair file name key value n k)
          ])
    ]

-- ---- the order of names and keys

keys_at-cons : (g : Group) (file : List Group) (name : List ℕ) → keys_at (g ∷ file) name ≡ cond (bytes_eq g.name name) (keys_of g.pairs) (keys_at file name)
unfolding keys_at
keys_at-cons g file name = elim (cases_Bool (bytes_eq g.name name)) [ inl e ↦ rw e refl | inr e ↦ rw e refl ]

keys_at-nil : (name : List ℕ) → keys_at [] name ≡ []
unfolding keys_at
keys_at-nil name = refl

-- After a value is set, the keys of its group stand as before, a new one last, and those of each other group stay.
pub keys_at-with_pair : (file : List Group) (name key value n : List ℕ) → keys_at (with_pair file name key value) n ≡ cond (bytes_eq name n) (with_name (keys_at file name) key) (keys_at file n)
unfolding with_pair
keys_at-with_pair [] name key value n = rw (keys_at-cons (record { name = name; pairs = record { key = key; value = value } ∷ [] }) [] n, keys_at-nil name, keys_at-nil n) refl
keys_at-with_pair (g ∷ file) name key value n =
    elim (cases_Bool (bytes_eq g.name name)) [
      | inl e ↦
          let new = keys_at-cons (record g { pairs = with_key g.pairs key value }) file n in
          let old = keys_at-cons g file n in
          let own = keys_at-cons g file name in
          rw (e, new, own, e, old, same_to g.name name n e) (elim (cases_Bool (bytes_eq name n)) [
            | inl f ↦ rw f (keys_of-with_key g.pairs key value)
            | inr f ↦ rw f refl
          ])
      | inr e ↦
          let new = keys_at-cons g (with_pair file name key value) n in
          let old = keys_at-cons g file n in
          let own = keys_at-cons g file name in
          rw (e, new, own, e, old) (elim (cases_Bool (bytes_eq g.name n)) [
            | inl f ↦ rw (f, differs_to g.name name n e f) refl
            | inr f ↦ rw f (keys_at-with_pair file name key value n)
          ])
    ]

-- ---- a pair taken away

value_in-absent : (pairs : List Pair) (key : List ℕ) → list_any (bytes_eq key) (keys_of pairs) ≡ false → value_in pairs key ≡ None
value_in-absent [] key h = refl
value_in-absent (p ∷ pairs) key h =
    let a = or_parts (bytes_eq key p.key) (list_any (bytes_eq key) (keys_of pairs)) h in
    rw (bytes_eq-sym p.key key ∙ a.0) (value_in-absent pairs key a.1)

value_in-without_key : (pairs : List Pair) (key k : List ℕ) → are_distinct (keys_of pairs) ≡ true → value_in (without_key pairs key) k ≡ cond (bytes_eq key k) None (value_in pairs k)
value_in-without_key [] key k h = elim (cases_Bool (bytes_eq key k)) [ inl e ↦ rw e refl | inr e ↦ rw e refl ]
value_in-without_key (p ∷ pairs) key k h =
    let a = and_parts (not (list_any (bytes_eq p.key) (keys_of pairs))) (are_distinct (keys_of pairs)) h in
    elim (cases_Bool (bytes_eq p.key key)) [
      | inl e ↦ rw (e, ← same_to p.key key k e) (elim (cases_Bool (bytes_eq p.key k)) [
        | inl f ↦ rw f (subst (λ (w : List ℕ). value_in pairs w ≡ None) (bytes_eq-true p.key k f) (value_in-absent pairs p.key (not-true _ a.0)))
        | inr f ↦ rw f refl
      ])
      | inr e ↦ rw e (elim (cases_Bool (bytes_eq p.key k)) [
        | inl f ↦ rw (f, differs_to p.key key k e f) refl
        | inr f ↦ rw f (value_in-without_key pairs key k a.1)
      ])
    ]

value_at-absent : (file : List Group) (name key : List ℕ) → list_any (bytes_eq name) (names_of file) ≡ false → value_at file name key ≡ None
value_at-absent [] name key h = value_at-nil name key
value_at-absent (g ∷ file) name key h =
    let a = or_parts (bytes_eq name g.name) (list_any (bytes_eq name) (names_of file)) h in
    rw (value_at-cons g file name key, bytes_eq-sym g.name name ∙ a.0) (value_at-absent file name key a.1)

value_at-with_rest : (name : List ℕ) (pairs : List Pair) (file : List Group) (n k : List ℕ) → list_any (bytes_eq name) (names_of file) ≡ false → value_at (with_rest name pairs file) n k ≡ cond (bytes_eq name n) (value_in pairs k) (value_at file n k)
value_at-with_rest name [] file n k h =
    elim (cases_Bool (bytes_eq name n)) [
      | inl e ↦ rw e (subst (λ (w : List ℕ). value_at file w k ≡ None) (bytes_eq-true name n e) (value_at-absent file name k h))
      | inr e ↦ rw e refl
    ]
value_at-with_rest name (p ∷ pairs) file n k h = value_at-cons (record { name = name; pairs = p ∷ pairs }) file n k

-- the value of another key than one that isn't there
unless_absent : (pairs : List Pair) (key k : List ℕ) → pair_at pairs key ≡ None → value_in pairs k ≡ cond (bytes_eq key k) None (value_in pairs k)
unless_absent pairs key k h =
    elim (cases_Bool (bytes_eq key k)) [
      | inl e ↦ rw e (subst (λ (w : List ℕ). value_in pairs w ≡ None) (bytes_eq-true key k e) (rw h refl))
      | inr e ↦ rw e refl
    ]

value_at-group_without : (found : Option Pair) (g : Group) (key : List ℕ) (file : List Group) (n k : List ℕ) → pair_at g.pairs key ≡ found → are_distinct (keys_of g.pairs) ≡ true → list_any (bytes_eq g.name) (names_of file) ≡ false
    → value_at (group_without found g key file) n k ≡ cond (bytes_eq g.name n) (cond (bytes_eq key k) None (value_in g.pairs k)) (value_at file n k)
value_at-group_without None g key file n k is keys names = value_at-cons g file n k ∙ ap (λ (w : Option (List ℕ)). cond (bytes_eq g.name n) w (value_at file n k)) (unless_absent g.pairs key k is)
value_at-group_without (Some p) g key file n k is keys names =
    value_at-with_rest g.name (without_key g.pairs key) file n k names ∙ ap (λ (w : Option (List ℕ)). cond (bytes_eq g.name n) w (value_at file n k)) (value_in-without_key g.pairs key k keys)

value_at-without : (file : List Group) (name key n k : List ℕ) → list_all is_good_group file ≡ true → are_distinct (names_of file) ≡ true → value_at (without_pair file name key) n k ≡ cond (bytes_eq name n && bytes_eq key k) None (value_at file n k)
unfolding without_pair
value_at-without [] name key n k good h = rw (value_at-nil n k) (elim (cases_Bool (bytes_eq name n && bytes_eq key k)) [ inl e ↦ rw e refl | inr e ↦ rw e refl ])
value_at-without (g ∷ file) name key n k good h =
    let a = and_parts (not (list_any (bytes_eq g.name) (names_of file))) (are_distinct (names_of file)) h in
    let b = and_parts (is_good_group g) (list_all is_good_group file) good in
    let old = value_at-cons g file n k in
    elim (cases_Bool (bytes_eq g.name name)) [
      | inl e ↦
          let new = value_at-group_without (pair_at g.pairs key) g key file n k refl (good_group_parts g b.0).keys (not-true _ a.0) in
          rw (e, new, old, ← same_to g.name name n e) (elim (cases_Bool (bytes_eq g.name n)) [
            | inl f ↦ rw f refl
            | inr f ↦ rw f refl
          ])
      | inr e ↦
          let new = value_at-cons g (without_pair file name key) n k in
          rw (e, new, old) (elim (cases_Bool (bytes_eq g.name n)) [
            | inl f ↦ rw (f, differs_to g.name name n e f) refl
            | inr f ↦ rw f (value_at-without file name key n k b.1 a.1)
          ])
    ]

-- After a pair is taken away, it isn't there, and each other pair has the value that it had.
pub value_at-without_pair : (file : List Group) (name key n k : List ℕ) → is_good file ≡ true → value_at (without_pair file name key) n k ≡ cond (bytes_eq name n && bytes_eq key k) None (value_at file n k)
value_at-without_pair file name key n k good =
    let a = good_parts file good in
    value_at-without file name key n k a.groups a.names
