-- What is written is a key file.
use Rattle.std.proofs.Common.{◌≡◌, ◌==◌, ℕ, Bool, true, false, not, cond, List, [], ◌∷◌, ◌++◌, ◌&&◌, ◌||◌, map, length, refl, sym, ap, subst, ◌∙◌, append_assoc, lit<}
use Rattle.std.specs.Prelude.{codes}
use Rattle.std.specs.declared.cmp.Ordering.TheVariants as orders
use Rattle.std.specs.Ordering.{is_eq}
use Rattle.std.specs.List.{list_all, list_any, flat_map, AllByRecursion}
use Rattle.std.specs.List.Sorted.{IsStrictlySortedBy}
use Rattle.std.specs.Str.{is_utf8, bytes_eq}
use Rattle.std.proofs.lemmas.Bool.{and_parts, and_from, or_parts, not-true, false≢true, false_from_ne_true, eq-eqb}
use Rattle.std.proofs.lemmas.List.Folds.{list_all-append, list_any-append}
use Rattle.fp_keyfile.specs.declared.group.Group.{Group}
use Rattle.fp_keyfile.specs.declared.group.Pair.{Pair}
use Rattle.fp_keyfile.specs.Grammar.{is_blank, is_return, is_value_byte, is_name, is_value, is_key, begins_so, ends_so}
use Rattle.fp_keyfile.specs.KeyFile.{keys_of, names_of, are_distinct, is_good_pair, is_good_group, is_good}
use Rattle.fp_keyfile.proofs.Texts.{ends_so-append, utf8_joined, utf8_before, utf8_nil}
use Rattle.fp_keyfile.proofs.Good.{IsGoodPair, good_pair_from, good_group_from, good_from}
use Rattle.fp_keyfile.proofs.Written.{IsValueText-from}
use Rattle.fp_keyfile.proofs.Read.{map_keys-append}
use Rattle.fl_meta.specs.declared.permission.PermList.{PermList}
use Rattle.fl_meta.specs.declared.permission.PermList.TheVariants as lists
use Rattle.fl_meta.specs.declared.permission.Permission.{Permission}
use Rattle.fl_meta.specs.declared.permission.Mention.{Mention}
use Rattle.fl_meta.specs.Names.{key_of}
use Rattle.fl_meta.specs.Order.{place_of, permission_cmp, same_ties}
use Rattle.fl_meta.proofs.Same.{place_exact}
use Rattle.fl_context.specs.Grants.{permission_of, IsAscending}
use Rattle.fl_override.specs.Written.{entry_text, closed_entry, is_in, list_text, list_pair, context_lists, context_pairs, named_pair, named_pairs, group_if, file_with}
use Rattle.fl_override.specs.Overrides.{AllCanWrite}
use Rattle.fl_override.proofs.Reading.{IsListed, utf8_ascii}
use Rattle.fl_override.proofs.Back.{all_listed, HasNames, has_variables, has_session, has_system}

-- ---- the value of a list

pub record IsText (t : List ℕ) : Type 0 where
  pub bytes : list_all is_value_byte t ≡ true
  pub begins : begins_so is_blank t ≡ false
  pub ends : ends_so is_return t ≡ false
  pub utf8 : is_utf8 t ≡ true

text_nil : IsText []
text_nil = record { bytes = refl; begins = refl; ends = refl; utf8 = utf8_nil }

text_of_value : (t : List ℕ) → is_value t ≡ true → is_utf8 t ≡ true → IsText t
text_of_value t h u = let v = IsValueText-from t h in record { bytes = v.bytes; begins = v.begins; ends = v.ends; utf8 = u }

value_of_text : (t : List ℕ) → IsText t → is_value t ≡ true
value_of_text t h =
    and_from (list_all is_value_byte t && not (begins_so is_blank t)) (not (ends_so is_return t)) (and_from (list_all is_value_byte t) (not (begins_so is_blank t)) h.bytes (ap not h.begins)) (ap not h.ends)

begins_more : (e t : List ℕ) → begins_so is_blank (e ++ 59 ∷ []) ≡ false → begins_so is_blank (e ++ 59 ∷ t) ≡ false
begins_more [] t h = refl
begins_more (b ∷ bs) t h = h

ends_more : (e t : List ℕ) → ends_so is_return t ≡ false → ends_so is_return (e ++ 59 ∷ t) ≡ false
ends_more e [] h = ends_so-append is_return e 59 []
ends_more e (b ∷ bs) h = ends_so-append is_return e 59 (b ∷ bs) ∙ h

text_more : (e t : List ℕ) → IsText (e ++ 59 ∷ []) → IsText t → IsText (e ++ 59 ∷ t)
text_more e t h k =
    let a = and_parts (list_all is_value_byte e) (list_all is_value_byte (59 ∷ [])) (sym (list_all-append is_value_byte e (59 ∷ [])) ∙ h.bytes) in
    record {
      bytes = list_all-append is_value_byte e (59 ∷ t) ∙ and_from (list_all is_value_byte e) (list_all is_value_byte (59 ∷ t)) a.0 k.bytes;
      begins = begins_more e t h.begins;
      ends = ends_more e t k.ends;
      utf8 = utf8_joined e 59 t (lit< tt) (utf8_before e 59 [] (lit< tt) h.utf8) k.utf8;
    }

list_is_text : (list : PermList) (set : List Mention) → IsListed list → AllCanWrite set → IsText (list_text list set)
unfolding list_text
list_is_text list [] l h = text_nil
list_is_text list (m ∷ set) l h = by_list (is_in list m) refl (list_is_text list set l h.1)
  where
    by_list : (here : Bool) → is_in list m ≡ here → IsText (list_text list set) → IsText (cond here (closed_entry m) [] ++ list_text list set)
    by_list false e rest = rest
    by_list true e rest =
        let pair = l.pair m (place_exact m.permission.list list e) in
        let one : IsText (closed_entry m) = text_of_value (closed_entry m) (sym (ap (λ p. is_value p.value) pair) ∙ h.0.value) (sym (ap (λ p. is_utf8 p.value) pair) ∙ h.0.value_text) in
        subst IsText (sym (append_assoc (entry_text m) (59 ∷ []) (list_text list set))) (text_more (entry_text m) (list_text list set) one rest)

-- ---- the pairs of `Context`

pair_if_good : (b : Bool) (key t : List ℕ) → is_key key ≡ true → is_utf8 key ≡ true → IsText t → list_all is_good_pair (cond b [] (record { key = key; value = t } ∷ [])) ≡ true
pair_if_good true key t k u h = refl
pair_if_good false key t k u h = and_from _ true (good_pair_from (record { key = key; value = t }) (record { key = k; value = value_of_text t h; key_text = u; value_text = h.utf8 })) refl

lists_good : (ls : List PermList) (set : List Mention) → AllByRecursion IsListed ls → AllCanWrite set → list_all is_good_pair (flat_map (list_pair set) ls) ≡ true
lists_good [] set all h = refl
lists_good (l ∷ ls) set all h =
    list_all-append is_good_pair (list_pair set l) (flat_map (list_pair set) ls)
    ∙ and_from (list_all is_good_pair (list_pair set l)) (list_all is_good_pair (flat_map (list_pair set) ls)) (pair_if_good _ (key_of l) (list_text l set) all.0.key all.0.key_text (list_is_text l set all.0 h)) (lists_good ls set all.1 h)

-- a key of the pairs is a key of the lists
no_key : (k : List ℕ) (ls : List PermList) (set : List Mention) → list_any (bytes_eq k) (map key_of ls) ≡ false → list_any (bytes_eq k) (keys_of (flat_map (list_pair set) ls)) ≡ false
no_key k [] set h = refl
no_key k (l ∷ ls) set h =
    let a = or_parts (bytes_eq k (key_of l)) (list_any (bytes_eq k) (map key_of ls)) h in
    ap (list_any (bytes_eq k)) (map_keys-append (list_pair set l) (flat_map (list_pair set) ls)) ∙ list_any-append (bytes_eq k) (keys_of (list_pair set l)) (keys_of (flat_map (list_pair set) ls))
    ∙ neither (length (list_text l set) == 0) a.0 (no_key k ls set a.1)
  where
    neither : (b : Bool) {y : Bool} → bytes_eq k (key_of l) ≡ false → y ≡ false → (list_any (bytes_eq k) (keys_of (cond b [] (record { key = key_of l; value = list_text l set } ∷ []))) || y) ≡ false
    neither true e f = f
    neither false e f = rw (e, f) refl

keys_distinct : (ls : List PermList) (set : List Mention) → are_distinct (map key_of ls) ≡ true → are_distinct (keys_of (flat_map (list_pair set) ls)) ≡ true
keys_distinct [] set h = refl
keys_distinct (l ∷ ls) set h =
    let a = and_parts (not (list_any (bytes_eq (key_of l)) (map key_of ls))) (are_distinct (map key_of ls)) h in
    ap are_distinct (map_keys-append (list_pair set l) (flat_map (list_pair set) ls))
    ∙ one_more (length (list_text l set) == 0) _ (no_key (key_of l) ls set (not-true _ a.0)) (keys_distinct ls set a.1)
  where
    one_more : (b : Bool) (ks : List (List ℕ)) → list_any (bytes_eq (key_of l)) ks ≡ false → are_distinct ks ≡ true → are_distinct (keys_of (cond b [] (record { key = key_of l; value = list_text l set } ∷ [])) ++ ks) ≡ true
    one_more true ks e f = f
    one_more false ks e f = rw (e, f) refl

-- ---- the pairs whose keys are names

names_good : (list : PermList) (set : List Mention) → HasNames list → AllCanWrite set → list_all is_good_pair (named_pairs list set) ≡ true
unfolding named_pairs
names_good list [] n h = refl
names_good list (m ∷ set) n h = by_list (is_in list m) refl (names_good list set n h.1)
  where
    by_list : (here : Bool) → is_in list m ≡ here → list_all is_good_pair (named_pairs list set) ≡ true → list_all is_good_pair (cond here (named_pair m ∷ []) [] ++ named_pairs list set) ≡ true
    by_list false e rest = rest
    by_list true e rest =
        let pair = n.pair m (place_exact m.permission.list list e) in
        let good : IsGoodPair (named_pair m) = record {
          key = sym (ap (λ p. is_key p.key) pair) ∙ h.0.key;
          value = sym (ap (λ p. is_value p.value) pair) ∙ h.0.value;
          key_text = sym (ap (λ p. is_utf8 p.key) pair) ∙ h.0.key_text;
          value_text = sym (ap (λ p. is_utf8 p.value) pair) ∙ h.0.value_text;
        } in
        and_from (is_good_pair (named_pair m)) (list_all is_good_pair (named_pairs list set)) (good_pair_from (named_pair m) good) rest

-- permissions of one list that come one after another have different names
differ : (p q : Permission) → p.list ≡ q.list → permission_cmp p q ≡ orders.Less → bytes_eq p.name q.name ≡ false
differ p q e h = false_from_ne_true (bytes_eq p.name q.name) (λ b.
    let places : (place_of p.list == place_of q.list) ≡ true = ap (λ l. place_of p.list == place_of l) (sym e) ∙ eq-eqb (place_of p.list) (place_of p.list) refl in
    false≢true (sym (same_ties p q ∙ ap is_eq h) ∙ and_from (place_of p.list == place_of q.list) (bytes_eq p.name q.name) places b))

none_named : (list : PermList) (p : Permission) (set : List Mention) → p.list ≡ list → AllByRecursion (λ q. permission_cmp p q ≡ orders.Less) (map permission_of set) → list_any (bytes_eq p.name) (keys_of (named_pairs list set)) ≡ false
unfolding named_pairs
none_named list p [] is h = refl
none_named list p (m ∷ set) is h = by_list (is_in list m) refl (none_named list p set is h.1)
  where
    by_list : (here : Bool) → is_in list m ≡ here → list_any (bytes_eq p.name) (keys_of (named_pairs list set)) ≡ false → list_any (bytes_eq p.name) (keys_of (cond here (named_pair m ∷ []) [] ++ named_pairs list set)) ≡ false
    by_list false e rest = rest
    by_list true e rest = rw (differ p m.permission (is ∙ sym (place_exact m.permission.list list e)) h.0, rest) refl

names_distinct : (list : PermList) (set : List Mention) → IsAscending set → are_distinct (keys_of (named_pairs list set)) ≡ true
unfolding named_pairs IsStrictlySortedBy
names_distinct list [] h = refl
names_distinct list (m ∷ set) h = by_list (is_in list m) refl (names_distinct list set h.1)
  where
    by_list : (here : Bool) → is_in list m ≡ here → are_distinct (keys_of (named_pairs list set)) ≡ true → are_distinct (keys_of (cond here (named_pair m ∷ []) [] ++ named_pairs list set)) ≡ true
    by_list false e rest = rest
    by_list true e rest = rw (none_named list m.permission set (place_exact m.permission.list list e) h.0, rest) refl

-- ---- the groups

group_good : (b : Bool) (name : List ℕ) (pairs : List Pair) → is_good_group (record { name = name; pairs = pairs }) ≡ true → list_all is_good_group (cond b [] (record { name = name; pairs = pairs } ∷ [])) ≡ true
group_good true name pairs h = refl
group_good false name pairs h = and_from _ true h refl

four_groups : (a b c d : List Group) → list_all is_good_group a ≡ true → list_all is_good_group b ≡ true → list_all is_good_group c ≡ true → list_all is_good_group d ≡ true → list_all is_good_group (a ++ (b ++ (c ++ d))) ≡ true
four_groups a b c d h k l m =
    let p = is_good_group in
    list_all-append p a (b ++ (c ++ d)) ∙ and_from (list_all p a) _ h (list_all-append p b (c ++ d) ∙ and_from (list_all p b) _ k (list_all-append p c d ∙ and_from (list_all p c) (list_all p d) l m))

abbrev group : List ℕ → List Pair → Group
group name pairs = record { name = name; pairs = pairs }

four_names : (a b c d : Bool) (v w x y : List Pair)
    → are_distinct (names_of (cond a [] (group (codes "Context") v ∷ []) ++ (cond b [] (group (codes "Environment") w ∷ []) ++ (cond c [] (group (codes "Session Bus Policy") x ∷ []) ++ cond d [] (group (codes "System Bus Policy") y ∷ []))))) ≡ true
four_names true true true true v w x y = refl
four_names true true true false v w x y = refl
four_names true true false true v w x y = refl
four_names true true false false v w x y = refl
four_names true false true true v w x y = refl
four_names true false true false v w x y = refl
four_names true false false true v w x y = refl
four_names true false false false v w x y = refl
four_names false true true true v w x y = refl
four_names false true true false v w x y = refl
four_names false true false true v w x y = refl
four_names false true false false v w x y = refl
four_names false false true true v w x y = refl
four_names false false true false v w x y = refl
four_names false false false true v w x y = refl
four_names false false false false v w x y = refl

named_group : (list : PermList) (name : List ℕ) (set : List Mention) → IsAscending set → AllCanWrite set → HasNames list → is_name name ≡ true → is_utf8 name ≡ true → list_all is_good_group (group_if name (named_pairs list set)) ≡ true
named_group list name set up h n good utf8 =
    let pairs = named_pairs list set in
    group_good (length pairs == 0) name pairs (good_group_from (group name pairs) (record { name = good; name_text = utf8; pairs = names_good list set n h; keys = names_distinct list set up }))

context_group : (set : List Mention) → AllCanWrite set → list_all is_good_group (group_if (codes "Context") (context_pairs set)) ≡ true
unfolding context_pairs
context_group set h =
    let pairs = context_pairs set in
    group_good (length pairs == 0) (codes "Context") pairs (good_group_from (group (codes "Context") pairs) (record { name = refl; name_text = utf8_ascii _ refl; pairs = lists_good context_lists set all_listed h; keys = keys_distinct context_lists set refl }))

pub file_good : (set : List Mention) → IsAscending set → AllCanWrite set → is_good (file_with set) ≡ true
unfolding file_with
file_good set up h =
    let groups : list_all is_good_group (file_with set) ≡ true =
    four_groups (group_if (codes "Context") (context_pairs set)) (group_if (codes "Environment") (named_pairs lists.Environment set)) (group_if (codes "Session Bus Policy") (named_pairs lists.SessionBus set)) (group_if (codes "System Bus Policy") (named_pairs lists.SystemBus set))
    (context_group set h)
    (named_group lists.Environment (codes "Environment") set up h has_variables refl (utf8_ascii _ refl))
    (named_group lists.SessionBus (codes "Session Bus Policy") set up h has_session refl (utf8_ascii _ refl))
    (named_group lists.SystemBus (codes "System Bus Policy") set up h has_system refl (utf8_ascii _ refl)) in
    good_from (file_with set) (record {
      groups = groups;
      names = four_names (length (context_pairs set) == 0) (length (named_pairs lists.Environment set) == 0) (length (named_pairs lists.SessionBus set) == 0) (length (named_pairs lists.SystemBus set) == 0) (context_pairs set) (named_pairs lists.Environment set) (named_pairs lists.SessionBus set) (named_pairs lists.SystemBus set);
    })
