-- Each change leaves a file whose names, keys and values can be written, without doubles.
use Rattle.std.proofs.Common.{◌≡◌, ℕ, true, false, not, ◌&&◌, List, [], ◌∷◌, Option, Some, None, Result, Ok, Err, refl, sym, ap, subst, ◌∙◌, inl, inr}
use Rattle.std.specs.Prelude.{OnOk, OnErr}
use Rattle.std.specs.List.{list_all, list_any}
use Rattle.std.specs.Str.{is_utf8, bytes_eq}
use Rattle.std.proofs.lemmas.Bool.{cases_Bool, and_parts, and_from, not-true, or_parts}
use Rattle.fp_base.proofs.Texts.{bytes_eq-true}
use Rattle.fp_keyfile.specs.declared.group.Pair.{Pair}
use Rattle.fp_keyfile.specs.declared.group.Group.{Group}
use Rattle.fp_keyfile.specs.Grammar.{is_name, is_key, is_value}
use Rattle.fp_keyfile.specs.KeyFile.{names_of, keys_of, with_name, with_key, with_group, with_pair, pair_at, without_key, with_rest, group_without, without_pair, are_distinct, is_good_pair, is_good_group, is_good}
use Rattle.fp_keyfile.proofs.Names.{are_distinct-with_name}

-- ---- the parts of what is good

pub record IsGoodPair (p : Pair) : Type 0 where
  pub key : is_key p.key ≡ true
  pub value : is_value p.value ≡ true
  pub key_text : is_utf8 p.key ≡ true
  pub value_text : is_utf8 p.value ≡ true

pub record IsGoodGroup (g : Group) : Type 0 where
  pub name : is_name g.name ≡ true
  pub name_text : is_utf8 g.name ≡ true
  pub pairs : list_all is_good_pair g.pairs ≡ true
  pub keys : are_distinct (keys_of g.pairs) ≡ true

pub record IsGood (file : List Group) : Type 0 where
  pub groups : list_all is_good_group file ≡ true
  pub names : are_distinct (names_of file) ≡ true

pub good_pair_parts : (p : Pair) → is_good_pair p ≡ true → IsGoodPair p
good_pair_parts p h =
    let a = and_parts (is_key p.key && is_value p.value && is_utf8 p.key) (is_utf8 p.value) h in
    let b = and_parts (is_key p.key && is_value p.value) (is_utf8 p.key) a.0 in
    let c = and_parts (is_key p.key) (is_value p.value) b.0 in
    record { key = c.0; value = c.1; key_text = b.1; value_text = a.1 }

pub good_pair_from : (p : Pair) → IsGoodPair p → is_good_pair p ≡ true
good_pair_from p h = rw (h.key, h.value, h.key_text, h.value_text) refl

pub good_group_parts : (g : Group) → is_good_group g ≡ true → IsGoodGroup g
good_group_parts g h =
    let a = and_parts (is_name g.name && is_utf8 g.name && list_all is_good_pair g.pairs) (are_distinct (keys_of g.pairs)) h in
    let b = and_parts (is_name g.name && is_utf8 g.name) (list_all is_good_pair g.pairs) a.0 in
    let c = and_parts (is_name g.name) (is_utf8 g.name) b.0 in
    record { name = c.0; name_text = c.1; pairs = b.1; keys = a.1 }

pub good_group_from : (g : Group) → IsGoodGroup g → is_good_group g ≡ true
good_group_from g h = rw (h.name, h.name_text, h.pairs, h.keys) refl

pub good_parts : (file : List Group) → is_good file ≡ true → IsGood file
unfolding is_good
good_parts file h =
    let a = and_parts (list_all is_good_group file) (are_distinct (names_of file)) h in
    record { groups = a.0; names = a.1 }

pub good_from : (file : List Group) → IsGood file → is_good file ≡ true
unfolding is_good
good_from file h = and_from (list_all is_good_group file) (are_distinct (names_of file)) h.groups h.names

-- ---- a value at a key

pub keys_of-with_key : (pairs : List Pair) (key value : List ℕ) → keys_of (with_key pairs key value) ≡ with_name (keys_of pairs) key
keys_of-with_key [] key value = refl
keys_of-with_key (p ∷ pairs) key value =
    elim (cases_Bool (bytes_eq p.key key)) [
      | inl e ↦ rw e refl
      | inr e ↦ rw e (ap (λ (names : List (List ℕ)). p.key ∷ names) (keys_of-with_key pairs key value))
    ]

pub good-with_key : (pairs : List Pair) (key value : List ℕ) → list_all is_good_pair pairs ≡ true → is_good_pair (record { key = key; value = value }) ≡ true → list_all is_good_pair (with_key pairs key value) ≡ true
good-with_key [] key value h good = rw good refl
good-with_key (p ∷ pairs) key value h good =
    let a = and_parts (is_good_pair p) (list_all is_good_pair pairs) h in
    elim (cases_Bool (bytes_eq p.key key)) [
      | inl e ↦ rw e (and_from (is_good_pair (record { key = p.key; value = value })) (list_all is_good_pair pairs) (subst (λ (k : List ℕ). is_good_pair (record { key = k; value = value }) ≡ true) (sym (bytes_eq-true p.key key e)) good) a.1)
      | inr e ↦ rw e (and_from (is_good_pair p) (list_all is_good_pair (with_key pairs key value)) a.0 (good-with_key pairs key value a.1 good))
    ]

pub good_group-with_key : (g : Group) (key value : List ℕ) → is_good_group g ≡ true → is_good_pair (record { key = key; value = value }) ≡ true → is_good_group (record g { pairs = with_key g.pairs key value }) ≡ true
good_group-with_key g key value h good =
    let a = good_group_parts g h in
    good_group_from (record g { pairs = with_key g.pairs key value }) (record {
      name = a.name;
      name_text = a.name_text;
      pairs = good-with_key g.pairs key value a.pairs good;
      keys = rw (keys_of-with_key g.pairs key value) (are_distinct-with_name (keys_of g.pairs) key a.keys);
    })

-- ---- a group, and a pair in a group

pub names_of-with_group : (file : List Group) (name : List ℕ) → names_of (with_group file name) ≡ with_name (names_of file) name
unfolding with_group
names_of-with_group [] name = refl
names_of-with_group (g ∷ file) name =
    elim (cases_Bool (bytes_eq g.name name)) [
      | inl e ↦ rw e refl
      | inr e ↦ rw e (ap (λ (names : List (List ℕ)). g.name ∷ names) (names_of-with_group file name))
    ]

pub names_of-with_pair : (file : List Group) (name key value : List ℕ) → names_of (with_pair file name key value) ≡ with_name (names_of file) name
unfolding with_pair
names_of-with_pair [] name key value = refl
names_of-with_pair (g ∷ file) name key value =
    elim (cases_Bool (bytes_eq g.name name)) [
      | inl e ↦ rw e refl
      | inr e ↦ rw e (ap (λ (names : List (List ℕ)). g.name ∷ names) (names_of-with_pair file name key value))
    ]

good_groups-with_group : (file : List Group) (name : List ℕ) → list_all is_good_group file ≡ true → is_name name ≡ true → is_utf8 name ≡ true → list_all is_good_group (with_group file name) ≡ true
unfolding with_group
good_groups-with_group [] name h good text = rw (good, text) refl
good_groups-with_group (g ∷ file) name h good text =
    let a = and_parts (is_good_group g) (list_all is_good_group file) h in
    elim (cases_Bool (bytes_eq g.name name)) [
      | inl e ↦ rw e h
      | inr e ↦ rw e (and_from (is_good_group g) (list_all is_good_group (with_group file name)) a.0 (good_groups-with_group file name a.1 good text))
    ]

pub good-with_group : (file : List Group) (name : List ℕ) → is_good file ≡ true → is_name name ≡ true → is_utf8 name ≡ true → is_good (with_group file name) ≡ true
good-with_group file name h good text =
    let a = good_parts file h in
    good_from (with_group file name) (record {
      groups = good_groups-with_group file name a.groups good text;
      names = rw (names_of-with_group file name) (are_distinct-with_name (names_of file) name a.names);
    })

good_groups-with_pair : (file : List Group) (name key value : List ℕ) → list_all is_good_group file ≡ true → is_name name ≡ true → is_utf8 name ≡ true → is_good_pair (record { key = key; value = value }) ≡ true → list_all is_good_group (with_pair file name key value) ≡ true
unfolding with_pair
good_groups-with_pair [] name key value h good text pair = rw (good, text, pair) refl
good_groups-with_pair (g ∷ file) name key value h good text pair =
    let a = and_parts (is_good_group g) (list_all is_good_group file) h in
    elim (cases_Bool (bytes_eq g.name name)) [
      | inl e ↦ rw e (and_from (is_good_group (record g { pairs = with_key g.pairs key value })) (list_all is_good_group file) (good_group-with_key g key value a.0 pair) a.1)
      | inr e ↦ rw e (and_from (is_good_group g) (list_all is_good_group (with_pair file name key value)) a.0 (good_groups-with_pair file name key value a.1 good text pair))
    ]

pub good-with_pair : (file : List Group) (name key value : List ℕ) → is_good file ≡ true → is_name name ≡ true → is_utf8 name ≡ true → is_good_pair (record { key = key; value = value }) ≡ true → is_good (with_pair file name key value) ≡ true
good-with_pair file name key value h good text pair =
    let a = good_parts file h in
    good_from (with_pair file name key value) (record {
      groups = good_groups-with_pair file name key value a.groups good text pair;
      names = rw (names_of-with_pair file name key value) (are_distinct-with_name (names_of file) name a.names);
    })

-- ---- a pair taken away

any-without_key : (pairs : List Pair) (key x : List ℕ) → list_any (bytes_eq x) (keys_of pairs) ≡ false → list_any (bytes_eq x) (keys_of (without_key pairs key)) ≡ false
any-without_key [] key x h = refl
any-without_key (p ∷ pairs) key x h =
    let a = or_parts (bytes_eq x p.key) (list_any (bytes_eq x) (keys_of pairs)) h in
    elim (cases_Bool (bytes_eq p.key key)) [
      | inl e ↦ rw e a.1
      | inr e ↦ rw (e, a.0) (any-without_key pairs key x a.1)
    ]

are_distinct-without_key : (pairs : List Pair) (key : List ℕ) → are_distinct (keys_of pairs) ≡ true → are_distinct (keys_of (without_key pairs key)) ≡ true
are_distinct-without_key [] key h = refl
are_distinct-without_key (p ∷ pairs) key h =
    let a = and_parts (not (list_any (bytes_eq p.key) (keys_of pairs))) (are_distinct (keys_of pairs)) h in
    elim (cases_Bool (bytes_eq p.key key)) [
      | inl e ↦ rw e a.1
      | inr e ↦ rw (e, any-without_key pairs key p.key (not-true _ a.0)) (are_distinct-without_key pairs key a.1)
    ]

good-without_key : (pairs : List Pair) (key : List ℕ) → list_all is_good_pair pairs ≡ true → list_all is_good_pair (without_key pairs key) ≡ true
good-without_key [] key h = refl
good-without_key (p ∷ pairs) key h =
    let a = and_parts (is_good_pair p) (list_all is_good_pair pairs) h in
    elim (cases_Bool (bytes_eq p.key key)) [
      | inl e ↦ rw e a.1
      | inr e ↦ rw e (and_from (is_good_pair p) (list_all is_good_pair (without_key pairs key)) a.0 (good-without_key pairs key a.1))
    ]

good_group-without_key : (g : Group) (key : List ℕ) → is_good_group g ≡ true → is_good_group (record g { pairs = without_key g.pairs key }) ≡ true
good_group-without_key g key h =
    let a = good_group_parts g h in
    good_group_from (record g { pairs = without_key g.pairs key }) (record {
      name = a.name;
      name_text = a.name_text;
      pairs = good-without_key g.pairs key a.pairs;
      keys = are_distinct-without_key g.pairs key a.keys;
    })

good_groups-with_rest : (name : List ℕ) (pairs : List Pair) (file : List Group) → is_good_group (record { name = name; pairs = pairs }) ≡ true → list_all is_good_group file ≡ true → list_all is_good_group (with_rest name pairs file) ≡ true
good_groups-with_rest name [] file good h = h
good_groups-with_rest name (p ∷ pairs) file good h = and_from (is_good_group (record { name = name; pairs = p ∷ pairs })) (list_all is_good_group file) good h

good_groups-group_without : (found : Option Pair) (g : Group) (key : List ℕ) (file : List Group) → is_good_group g ≡ true → list_all is_good_group file ≡ true → list_all is_good_group (group_without found g key file) ≡ true
good_groups-group_without None g key file good h = and_from (is_good_group g) (list_all is_good_group file) good h
good_groups-group_without (Some p) g key file good h = good_groups-with_rest g.name (without_key g.pairs key) file (good_group-without_key g key good) h

good_groups-without_pair : (file : List Group) (name key : List ℕ) → list_all is_good_group file ≡ true → list_all is_good_group (without_pair file name key) ≡ true
unfolding without_pair
good_groups-without_pair [] name key h = refl
good_groups-without_pair (g ∷ file) name key h =
    let a = and_parts (is_good_group g) (list_all is_good_group file) h in
    elim (cases_Bool (bytes_eq g.name name)) [
      | inl e ↦ rw e (good_groups-group_without (pair_at g.pairs key) g key file a.0 a.1)
      | inr e ↦ rw e (and_from (is_good_group g) (list_all is_good_group (without_pair file name key)) a.0 (good_groups-without_pair file name key a.1))
    ]

-- a name that isn't among the names stays out
any-with_rest : (name : List ℕ) (pairs : List Pair) (file : List Group) (x : List ℕ) → bytes_eq x name ≡ false → list_any (bytes_eq x) (names_of file) ≡ false → list_any (bytes_eq x) (names_of (with_rest name pairs file)) ≡ false
any-with_rest name [] file x e h = h
any-with_rest name (p ∷ pairs) file x e h = rw (e, h) refl

any-group_without : (found : Option Pair) (g : Group) (key : List ℕ) (file : List Group) (x : List ℕ) → bytes_eq x g.name ≡ false → list_any (bytes_eq x) (names_of file) ≡ false → list_any (bytes_eq x) (names_of (group_without found g key file)) ≡ false
any-group_without None g key file x e h = rw (e, h) refl
any-group_without (Some p) g key file x e h = any-with_rest g.name (without_key g.pairs key) file x e h

any-without_pair : (file : List Group) (name key x : List ℕ) → list_any (bytes_eq x) (names_of file) ≡ false → list_any (bytes_eq x) (names_of (without_pair file name key)) ≡ false
unfolding without_pair
any-without_pair [] name key x h = refl
any-without_pair (g ∷ file) name key x h =
    let a = or_parts (bytes_eq x g.name) (list_any (bytes_eq x) (names_of file)) h in
    elim (cases_Bool (bytes_eq g.name name)) [
      | inl e ↦ rw e (any-group_without (pair_at g.pairs key) g key file x a.0 a.1)
      | inr e ↦ rw (e, a.0) (any-without_pair file name key x a.1)
    ]

are_distinct-with_rest : (name : List ℕ) (pairs : List Pair) (file : List Group) → list_any (bytes_eq name) (names_of file) ≡ false → are_distinct (names_of file) ≡ true → are_distinct (names_of (with_rest name pairs file)) ≡ true
are_distinct-with_rest name [] file e h = h
are_distinct-with_rest name (p ∷ pairs) file e h = rw (e, h) refl

are_distinct-group_without : (found : Option Pair) (g : Group) (key : List ℕ) (file : List Group) → list_any (bytes_eq g.name) (names_of file) ≡ false → are_distinct (names_of file) ≡ true → are_distinct (names_of (group_without found g key file)) ≡ true
are_distinct-group_without None g key file e h = rw (e, h) refl
are_distinct-group_without (Some p) g key file e h = are_distinct-with_rest g.name (without_key g.pairs key) file e h

are_distinct-without_pair : (file : List Group) (name key : List ℕ) → are_distinct (names_of file) ≡ true → are_distinct (names_of (without_pair file name key)) ≡ true
unfolding without_pair
are_distinct-without_pair [] name key h = refl
are_distinct-without_pair (g ∷ file) name key h =
    let a = and_parts (not (list_any (bytes_eq g.name) (names_of file))) (are_distinct (names_of file)) h in
    elim (cases_Bool (bytes_eq g.name name)) [
      | inl e ↦ rw e (are_distinct-group_without (pair_at g.pairs key) g key file (not-true _ a.0) a.1)
      | inr e ↦ rw (e, any-without_pair file name key g.name (not-true _ a.0)) (are_distinct-without_pair file name key a.1)
    ]

pub good-without_pair : (file : List Group) (name key : List ℕ) → is_good file ≡ true → is_good (without_pair file name key) ≡ true
good-without_pair file name key h =
    let a = good_parts file h in
    good_from (without_pair file name key) (record {
      groups = good_groups-without_pair file name key a.groups;
      names = are_distinct-without_pair file name key a.names;
    })

-- a call that left a good file, whether it ended well or not
pub good_either : {X E : Type 0} (new old set : List Group) (r : Result X E) → OnOk r (new ≡ set) → OnErr r (new ≡ old) → is_good set ≡ true → is_good old ≡ true → is_good new ≡ true
good_either new old set (Ok x) ok err good same = ap is_good ok ∙ good
good_either new old set (Err e) ok err good same = ap is_good err ∙ same
