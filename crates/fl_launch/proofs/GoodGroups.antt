-- The groups of a launch are those of a key file.
use Rattle.std.proofs.Common.{◌≡◌, ◌==◌, ℕ, Bool, true, false, not, cond, List, [], ◌∷◌, ◌++◌, length, map, codes, Option, Some, None, refl, sym, ap, ◌∙◌, append_assoc, append-nil, arith}
use Rattle.std.specs.declared.cmp.Ordering.TheVariants as orders
use Rattle.std.specs.List.{list_all, list_any, flat_map, filter, AllByRecursion}
use Rattle.std.specs.List.Sorted.{IsStrictlySortedBy}
use Rattle.std.specs.Str.{bytes_eq, is_utf8}
use Rattle.std.proofs.lemmas.Bool.Decides.{nat_tests}
use Rattle.std.proofs.lemmas.Bool.{and_parts, and_from, not-true, or_parts}
use Rattle.std.proofs.lemmas.List.Folds.{list_all-append}
use Rattle.fp_keyfile.specs.declared.group.Group.{Group}
use Rattle.fp_keyfile.specs.declared.group.Pair.{Pair}
use Rattle.fp_keyfile.specs.Grammar.{is_key}
use Rattle.fp_keyfile.specs.KeyFile.{keys_of, names_of, are_distinct, is_good_pair, is_good_group, is_good}
use Rattle.fp_keyfile.proofs.Good.{good_pair_parts, good_pair_from, good_group_parts, good_group_from, good_parts, good_from}
use Rattle.fp_keyfile.proofs.Read.{file_of-text_of}
use Rattle.fp_name.specs.Refs.{Ref}
use Rattle.fl_meta.specs.declared.permission.PermList.{PermList}
use Rattle.fl_meta.specs.declared.permission.PermList.TheVariants as lists
use Rattle.fl_meta.specs.declared.permission.Permission.{Permission}
use Rattle.fl_meta.specs.declared.permission.Mention.{Mention}
use Rattle.fl_meta.specs.Order.{permission_cmp}
use Rattle.fl_context.specs.Grants.{permission_of, IsAscending}
use Rattle.fl_meta.specs.Names.{key_of, unknown_lists}
use Rattle.fl_override.specs.Written.{list_text, list_pair, context_pairs, named_pairs, group_if, file_with}
use Rattle.fl_override.specs.Overrides.{AllCanWrite}
use Rattle.fl_override.proofs.Reading.{utf8_ascii}
use Rattle.fl_override.proofs.Files.{file_good}
use Rattle.fl_launch.specs.Granted.{gives, gives_known, granted, known, unknown_key, unknown_pair, unknown_pairs, granted_groups, has_session_bus}
use Rattle.fl_launch.specs.Extensions.{commit_of, extensions_of}
use Rattle.fl_launch.specs.Launch.{word}
use Rattle.fl_launch.specs.Groups.{pair_of, application_pairs, instance_pairs, group, launch_groups, GroupsReadBack}

-- ---- some of what can be written

kept_write : (p : Mention → Bool) (ms : List Mention) → AllCanWrite ms → AllCanWrite (filter p ms)
kept_write p [] h = tt
kept_write p (m ∷ ms) h = by (p m) (kept_write p ms h.1)
  where
    by : (b : Bool) → AllCanWrite (filter p ms) → AllCanWrite (cond b (m ∷ filter p ms) (filter p ms))
    by true rest = (h.0, rest)
    by false rest = rest

abbrev IsAbove : Permission → List Mention → Type 0
IsAbove q ms = AllByRecursion (λ r. permission_cmp q r ≡ orders.Less) (map permission_of ms)

kept_above : (p : Mention → Bool) (q : Permission) (ms : List Mention) → IsAbove q ms → IsAbove q (filter p ms)
kept_above p q [] h = tt
kept_above p q (m ∷ ms) h = by (p m) (kept_above p q ms h.1)
  where
    by : (b : Bool) → IsAbove q (filter p ms) → IsAbove q (cond b (m ∷ filter p ms) (filter p ms))
    by true rest = (h.0, rest)
    by false rest = rest

one_more : (b : Bool) (m : Mention) (ms : List Mention) → IsAbove m.permission ms → IsAscending ms → IsAscending (cond b (m ∷ ms) ms)
unfolding IsStrictlySortedBy
one_more true m ms above up = (above, up)
one_more false m ms above up = up

kept_ascends : (p : Mention → Bool) (ms : List Mention) → IsAscending ms → IsAscending (filter p ms)
unfolding IsStrictlySortedBy
kept_ascends p [] h = tt
kept_ascends p (m ∷ ms) h = one_more (p m) m (filter p ms) (kept_above p m.permission ms h.0) (kept_ascends p ms h.1)

-- ---- the lists of unknown permissions

group_pairs : (name : List ℕ) (pairs : List Pair) → list_all is_good_group (group_if name pairs) ≡ true → list_all is_good_pair pairs ≡ true
group_pairs name [] h = refl
group_pairs name (p ∷ pairs) h =
    let some : (length (p ∷ pairs) == 0) ≡ false = grind (arith, nat_tests) in
    let one = sym (ap (λ (b : Bool). list_all is_good_group (cond b [] (group name (p ∷ pairs) ∷ []))) some) ∙ h in
    (good_group_parts (group name (p ∷ pairs)) (and_parts (is_good_group (group name (p ∷ pairs))) true one).0).pairs

context_good : (set : List Mention) → is_good (file_with set) ≡ true → list_all is_good_pair (context_pairs set) ≡ true
unfolding file_with
context_good set h =
    group_pairs (codes "Context") (context_pairs set)
    (and_parts (list_all is_good_group (group_if (codes "Context") (context_pairs set))) _ (sym (list_all-append is_good_group (group_if (codes "Context") (context_pairs set)) _) ∙ (good_parts (file_with set) h).groups)).0

after_one : (set : List Mention) (l : PermList) (ls : List PermList) → list_all is_good_pair (flat_map (list_pair set) (l ∷ ls)) ≡ true → list_all is_good_pair (flat_map (list_pair set) ls) ≡ true
after_one set l ls h = (and_parts (list_all is_good_pair (list_pair set l)) _ (sym (list_all-append is_good_pair (list_pair set l) (flat_map (list_pair set) ls)) ∙ h)).1

unknown_listed : (set : List Mention) → list_all is_good_pair (context_pairs set) ≡ true → list_all is_good_pair (flat_map (list_pair set) unknown_lists) ≡ true
unfolding context_pairs
unknown_listed set h =
    let ends : List PermList = lists.Persistent ∷ unknown_lists in
    let from_files : List PermList = lists.Filesystems ∷ ends in
    let from_features : List PermList = lists.Features ∷ from_files in
    let from_devices : List PermList = lists.Devices ∷ from_features in
    after_one set lists.Persistent unknown_lists (after_one set lists.Filesystems ends (after_one set lists.Features from_files
    (after_one set lists.Devices from_features (after_one set lists.Sockets from_devices (after_one set lists.Shared (lists.Sockets ∷ from_devices) h)))))

-- the key of a list is one
pub record HasKey (l : PermList) : Type 0 where
  pub key : is_key (unknown_key l) ≡ true
  pub text : is_utf8 (unknown_key l) ≡ true

all_keyed : AllByRecursion HasKey unknown_lists
all_keyed = (record { key = refl; text = utf8_ascii _ refl }, (record { key = refl; text = utf8_ascii _ refl }, (record { key = refl; text = utf8_ascii _ refl }, (record { key = refl; text = utf8_ascii _ refl }, (record { key = refl; text = utf8_ascii _ refl }, (record { key = refl; text = utf8_ascii _ refl }, tt))))))

rekeyed : (b : Bool) (one other value : List ℕ) → is_key other ≡ true → is_utf8 other ≡ true → list_all is_good_pair (cond b [] (pair_of one value ∷ [])) ≡ true → list_all is_good_pair (cond b [] (pair_of other value ∷ [])) ≡ true
rekeyed true one other value k u h = refl
rekeyed false one other value k u h =
    let good = good_pair_parts (pair_of one value) (and_parts (is_good_pair (pair_of one value)) true h).0 in
    and_from (is_good_pair (pair_of other value)) true (good_pair_from (pair_of other value) (record { key = k; value = good.value; key_text = u; value_text = good.value_text })) refl

all_rekeyed : (set : List Mention) (ls : List PermList) → AllByRecursion HasKey ls → list_all is_good_pair (flat_map (list_pair set) ls) ≡ true → list_all is_good_pair (flat_map (unknown_pair set) ls) ≡ true
all_rekeyed set [] keyed h = refl
all_rekeyed set (l ∷ ls) keyed h =
    let a = and_parts (list_all is_good_pair (list_pair set l)) _ (sym (list_all-append is_good_pair (list_pair set l) (flat_map (list_pair set) ls)) ∙ h) in
    list_all-append is_good_pair (unknown_pair set l) (flat_map (unknown_pair set) ls)
    ∙ and_from (list_all is_good_pair (unknown_pair set l)) (list_all is_good_pair (flat_map (unknown_pair set) ls)) (rekeyed (length (list_text l set) == 0) (key_of l) (unknown_key l) (list_text l set) keyed.0.key keyed.0.text a.0) (all_rekeyed set ls keyed.1 a.1)

-- ---- what may be left out

pair_absent : (n : List ℕ) (b : Bool) (p : Pair) (rest : List Pair) → bytes_eq n p.key ≡ false → list_any (bytes_eq n) (keys_of rest) ≡ false → list_any (bytes_eq n) (keys_of (cond b [] (p ∷ []) ++ rest)) ≡ false
pair_absent n true p rest e f = f
pair_absent n false p rest e f = rw (e, f) refl

pair_distinct : (b : Bool) (p : Pair) (rest : List Pair) → list_any (bytes_eq p.key) (keys_of rest) ≡ false → are_distinct (keys_of rest) ≡ true → are_distinct (keys_of (cond b [] (p ∷ []) ++ rest)) ≡ true
pair_distinct true p rest e f = f
pair_distinct false p rest e f = rw (e, f) refl

no_key : (n : List ℕ) (set : List Mention) (ls : List PermList) → list_any (bytes_eq n) (map unknown_key ls) ≡ false → list_any (bytes_eq n) (keys_of (flat_map (unknown_pair set) ls)) ≡ false
no_key n set [] h = refl
no_key n set (l ∷ ls) h =
    let a = or_parts (bytes_eq n (unknown_key l)) (list_any (bytes_eq n) (map unknown_key ls)) h in
    pair_absent n (length (list_text l set) == 0) (pair_of (unknown_key l) (list_text l set)) (flat_map (unknown_pair set) ls) a.0 (no_key n set ls a.1)

keys_distinct : (set : List Mention) (ls : List PermList) → are_distinct (map unknown_key ls) ≡ true → are_distinct (keys_of (flat_map (unknown_pair set) ls)) ≡ true
keys_distinct set [] h = refl
keys_distinct set (l ∷ ls) h =
    let a = and_parts (not (list_any (bytes_eq (unknown_key l)) (map unknown_key ls))) (are_distinct (map unknown_key ls)) h in
    pair_distinct (length (list_text l set) == 0) (pair_of (unknown_key l) (list_text l set)) (flat_map (unknown_pair set) ls) (no_key (unknown_key l) set ls (not-true _ a.0)) (keys_distinct set ls a.1)

-- the group of what isn't known
if_good : (b : Bool) (g : Group) → is_good_group g ≡ true → list_all is_good_group (cond b [] (g ∷ [])) ≡ true
if_good true g h = refl
if_good false g h = and_from (is_good_group g) true h refl

unknown_good : (set : List Mention) → is_good (file_with set) ≡ true → list_all is_good_group (group_if (codes "Unknown") (unknown_pairs set)) ≡ true
unknown_good set h =
    let pairs = unknown_pairs set in
    if_good (length pairs == 0) (group (codes "Unknown") pairs) (good_group_from (group (codes "Unknown") pairs) (record {
      name = refl;
      name_text = utf8_ascii _ refl;
      pairs = all_rekeyed set unknown_lists all_keyed (unknown_listed set (context_good set h));
      keys = keys_distinct set unknown_lists refl;
    }))

-- ---- the names of the groups

absent : (n : List ℕ) (b : Bool) (g : Group) (rest : List Group) → bytes_eq n g.name ≡ false → list_any (bytes_eq n) (names_of rest) ≡ false → list_any (bytes_eq n) (names_of (cond b [] (g ∷ []) ++ rest)) ≡ false
absent n true g rest e f = f
absent n false g rest e f = rw (e, f) refl

front : (b : Bool) (g : Group) (rest : List Group) → list_any (bytes_eq g.name) (names_of rest) ≡ false → are_distinct (names_of rest) ≡ true → are_distinct (names_of (cond b [] (g ∷ []) ++ rest)) ≡ true
front true g rest e f = f
front false g rest e f = rw (e, f) refl

-- of five groups, each of which may be left out, and of two before them
five_names : (a b c d e : Bool) (u v w x y : List Pair) (p q : List Pair)
    → are_distinct (names_of (group (codes "Application") p ∷ group (codes "Instance") q ∷ (cond a [] (group (codes "Context") u ∷ []) ++ (cond b [] (group (codes "Environment") v ∷ [])
    ++ (cond c [] (group (codes "Session Bus Policy") w ∷ []) ++ (cond d [] (group (codes "System Bus Policy") x ∷ []) ++ (cond e [] (group (codes "Unknown") y ∷ []) ++ []))))))) ≡ true
five_names a b c d e u v w x y p q =
    let r5 : List Group = cond e [] (group (codes "Unknown") y ∷ []) ++ [] in
    let r4 : List Group = cond d [] (group (codes "System Bus Policy") x ∷ []) ++ r5 in
    let r3 : List Group = cond c [] (group (codes "Session Bus Policy") w ∷ []) ++ r4 in
    let r2 : List Group = cond b [] (group (codes "Environment") v ∷ []) ++ r3 in
    let r1 : List Group = cond a [] (group (codes "Context") u ∷ []) ++ r2 in
    let in5 = λ (n : List ℕ) (h : bytes_eq n (codes "Unknown") ≡ false). absent n e (group (codes "Unknown") y) [] h refl in
    let in4 = λ (n : List ℕ) (h : bytes_eq n (codes "Unknown") ≡ false) (k : bytes_eq n (codes "System Bus Policy") ≡ false). absent n d (group (codes "System Bus Policy") x) r5 k (in5 n h) in
    let in3 = λ (n : List ℕ) (h : bytes_eq n (codes "Unknown") ≡ false) (k : bytes_eq n (codes "System Bus Policy") ≡ false) (l : bytes_eq n (codes "Session Bus Policy") ≡ false). absent n c (group (codes "Session Bus Policy") w) r4 l (in4 n h k) in
    let in2 = λ (n : List ℕ) (h : bytes_eq n (codes "Unknown") ≡ false) (k : bytes_eq n (codes "System Bus Policy") ≡ false) (l : bytes_eq n (codes "Session Bus Policy") ≡ false) (m : bytes_eq n (codes "Environment") ≡ false). absent n b (group (codes "Environment") v) r3 m (in3 n h k l) in
    let in1 = λ (n : List ℕ) (h : bytes_eq n (codes "Unknown") ≡ false) (k : bytes_eq n (codes "System Bus Policy") ≡ false) (l : bytes_eq n (codes "Session Bus Policy") ≡ false) (m : bytes_eq n (codes "Environment") ≡ false) (o : bytes_eq n (codes "Context") ≡ false). absent n a (group (codes "Context") u) r2 o (in2 n h k l m) in
    let d5 = front e (group (codes "Unknown") y) [] refl refl in
    let d4 = front d (group (codes "System Bus Policy") x) r5 (in5 (codes "System Bus Policy") refl) d5 in
    let d3 = front c (group (codes "Session Bus Policy") w) r4 (in4 (codes "Session Bus Policy") refl refl) d4 in
    let d2 = front b (group (codes "Environment") v) r3 (in3 (codes "Environment") refl refl refl) d3 in
    let d1 = front a (group (codes "Context") u) r2 (in2 (codes "Context") refl refl refl refl) d2 in
    let di = front false (group (codes "Instance") q) r1 (in1 (codes "Instance") refl refl refl refl refl) d1 in
    front false (group (codes "Application") p) (group (codes "Instance") q ∷ r1) (absent (codes "Application") false (group (codes "Instance") q) r1 refl (in1 (codes "Application") refl refl refl refl refl)) di

-- ---- the heading

application_keys : (name runtime : Ref) (command : Option (List ℕ)) → are_distinct (keys_of (application_pairs name runtime command)) ≡ true
application_keys name runtime None = refl
application_keys name runtime (Some command) = refl

instance_keys : (b c : Bool) (k l m n x y z : List ℕ) → are_distinct (keys_of (pair_of (codes "app-commit") k ∷ pair_of (codes "runtime-commit") l ∷ pair_of (codes "arch") m ∷ pair_of (codes "branch") n
    ∷ (cond b [] (pair_of (codes "app-extensions") x ∷ []) ++ (cond c [] (pair_of (codes "runtime-extensions") y ∷ []) ++ pair_of (codes "session-bus-proxy") z ∷ [])))) ≡ true
instance_keys true true k l m n x y z = refl
instance_keys true false k l m n x y z = refl
instance_keys false true k l m n x y z = refl
instance_keys false false k l m n x y z = refl

-- ---- all

regroup : (a b c d e : List Group) → (a ++ (b ++ (c ++ d))) ++ e ≡ a ++ (b ++ (c ++ (d ++ (e ++ []))))
regroup a b c d e = simp (append_assoc, append-nil) refl

groups_good : (grants : List Mention) → AllCanWrite grants → IsAscending grants → list_all is_good_group (granted_groups grants) ≡ true
unfolding granted_groups
groups_good grants can up =
    let of_known = file_good (known grants) (kept_ascends gives_known grants up) (kept_write gives_known grants can) in
    let of_all = file_good (granted grants) (kept_ascends gives grants up) (kept_write gives grants can) in
    list_all-append is_good_group (file_with (known grants)) (group_if (codes "Unknown") (unknown_pairs (granted grants)))
    ∙ and_from (list_all is_good_group (file_with (known grants))) _ (good_parts (file_with (known grants)) of_known).groups (unknown_good (granted grants) of_all)

names_good : (grants : List Mention) (p q : List Pair) → are_distinct (names_of (group (codes "Application") p ∷ group (codes "Instance") q ∷ granted_groups grants)) ≡ true
unfolding granted_groups file_with
names_good grants p q =
    let set = known grants in
    let u = context_pairs set in
    let v = named_pairs lists.Environment set in
    let w = named_pairs lists.SessionBus set in
    let x = named_pairs lists.SystemBus set in
    let y = unknown_pairs (granted grants) in
    ap (λ (gs : List Group). are_distinct (names_of (group (codes "Application") p ∷ group (codes "Instance") q ∷ gs)))
    (regroup (group_if (codes "Context") u) (group_if (codes "Environment") v) (group_if (codes "Session Bus Policy") w) (group_if (codes "System Bus Policy") x) (group_if (codes "Unknown") y))
    ∙ five_names (length u == 0) (length v == 0) (length w == 0) (length x == 0) (length y == 0) u v w x y p q

pub groups_read_back : GroupsReadBack
unfolding launch_groups
groups_read_back state name runtime app_points runtime_points command grants first second can up =
    let p = application_pairs name runtime command in
    let q = instance_pairs state name runtime app_points runtime_points grants in
    let file = launch_groups state name runtime app_points runtime_points command grants in
    let one = good_group_from (group (codes "Application") p) (record { name = refl; name_text = utf8_ascii _ refl; pairs = first; keys = application_keys name runtime command }) in
    let other = good_group_from (group (codes "Instance") q) (record {
      name = refl;
      name_text = utf8_ascii _ refl;
      pairs = second;
      keys = instance_keys (length (extensions_of state app_points) == 0) (length (extensions_of state runtime_points) == 0) (commit_of state name) (commit_of state runtime) name.arch name.branch (extensions_of state app_points) (extensions_of state runtime_points) (word (has_session_bus grants));
    }) in
    file_of-text_of file (good_from file (record {
      groups = and_from (is_good_group (group (codes "Application") p)) _ one (and_from (is_good_group (group (codes "Instance") q)) _ other (groups_good grants can up));
      names = names_good grants p q;
    }))
