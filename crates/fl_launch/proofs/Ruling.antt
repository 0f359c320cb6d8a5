-- What files and words mention has patterns and levels for the buses, and so has what they grant.
use Rattle.std.proofs.Common.{◌≡◌, ◌==◌, ℕ, Bool, true, false, cond, ◌&&◌, ◌||◌, not, List, [], ◌∷◌, ◌++◌, codes, Option, Some, None, refl, sym, ap, subst, ◌∙◌, arith}
use Rattle.std.specs.List.{list_all, flat_map}
use Rattle.std.specs.List.Sorted.{IsStrictlySortedBy}
use Rattle.std.specs.Option.{option_map_or}
use Rattle.std.specs.Str.{bytes_eq}
use Rattle.std.proofs.lemmas.Bool.{and_parts, and_from, or_left, or_right}
use Rattle.std.proofs.lemmas.Bool.Decides.{nat_tests}
use Rattle.fp_keyfile.specs.declared.group.Group.{Group}
use Rattle.fp_keyfile.specs.declared.group.Pair.{Pair}
use Rattle.fp_keyfile.specs.Grammar.{is_blank}
use Rattle.fp_keyfile.specs.Lines.{trimmed_front}
use Rattle.fl_meta.specs.declared.permission.PermList.{PermList}
use Rattle.fl_meta.specs.declared.permission.PermList.TheVariants as lists
use Rattle.fl_meta.specs.declared.permission.Permission.{Permission}
use Rattle.fl_meta.specs.declared.permission.Value.{Value}
use Rattle.fl_meta.specs.declared.permission.Value.TheVariants as values
use Rattle.fl_meta.specs.declared.permission.Mention.{Mention}
use Rattle.fl_meta.specs.declared.mentions.Source.{Source}
use Rattle.fl_meta.specs.declared.mentions.Source.TheVariants as sources
use Rattle.fl_meta.specs.Order.{place_of, is_same}
use Rattle.fl_meta.specs.Patterns.{is_pattern}
use Rattle.fl_meta.specs.Names.{is_among, shared_names, socket_names, device_names, feature_names, list_with, list_of_key, list_of_unknown_key, level_of}
use Rattle.fl_meta.specs.Entries.{is_no_name, is_off, without_mark, name_in, value_in as entry_value, named, mention_of, mentions_in, entry_mentions, list_mentions}
use Rattle.fl_meta.specs.Separators.{entries_of}
use Rattle.fl_meta.specs.Mentions.{list_at, or_unknown, context_mentions, variable_mentions, pair_name, can_stand, odd_pair, bus_with, pair_mentions, group_mentions, file_mentions}
use Rattle.fl_meta.proofs.Same.{same_exact, same_itself}
use Rattle.fl_context.specs.Grants.{said, later, last_mention, or_next, value_in, IsAscending}
use Rattle.fl_context.proofs.Merging.{none_above}
use Rattle.fl_override.specs.Written.{is_in, group_of, pair_of, CanWrite}
use Rattle.fl_override.specs.Overrides.{AllCanWrite}
use Rattle.fl_launch.specs.Policies.{is_level, is_rule, AreRules, IsBus}

-- ---- lists

all-append : {A : Type 0} (p : A → Bool) (xs ys : List A) → list_all p xs ≡ true → list_all p ys ≡ true → list_all p (xs ++ ys) ≡ true
all-append p [] ys h k = k
all-append p (x ∷ xs) ys h k =
    let a = and_parts (p x) (list_all p xs) h in
    and_from (p x) (list_all p (xs ++ ys)) a.0 (all-append p xs ys a.1 k)

all-flat : {A B : Type 0} (p : B → Bool) (f : A → List B) → ((x : A) → list_all p (f x) ≡ true) → (xs : List A) → list_all p (flat_map f xs) ≡ true
all-flat p f each [] = refl
all-flat p f each (x ∷ xs) = all-append p (f x) (flat_map f xs) (each x) (all-flat p f each xs)

all-if : {A : Type 0} (p : A → Bool) (b : Bool) (xs ys : List A) → list_all p xs ≡ true → list_all p ys ≡ true → list_all p (cond b xs ys) ≡ true
all-if p true xs ys h k = h
all-if p false xs ys h k = k

-- an option passes, where it has nothing that doesn't
abbrev passes : {A : Type 0} → (A → Bool) → Option A → Bool
passes p o = option_map_or p o true

some-if : {A : Type 0} (p : A → Bool) (b : Bool) (x y : Option A) → passes p x ≡ true → passes p y ≡ true → passes p (cond b x y) ≡ true
some-if p true x y h k = h
some-if p false x y h k = k

-- ---- lists of permissions that are those of no bus

abbrev is_apart : PermList → Bool
is_apart list = not (place_of list == 7 || place_of list == 8)

other_place : (n m : ℕ) → (m == 7 || m == 8) ≡ true → not (n == 7 || n == 8) ≡ true → (n == m) ≡ false
other_place n m h k = grind (arith, nat_tests)

apart_rule : (bus : PermList) (m : Mention) → IsBus bus → is_apart m.permission.list ≡ true → is_rule bus m ≡ true
apart_rule bus m is h =
    or_left (not (is_in bus m)) (is_pattern m.permission.name && is_level m.value) (ap not (other_place (place_of m.permission.list) (place_of bus) is h))

apart-if : (b : Bool) (x y : PermList) → is_apart x ≡ true → is_apart y ≡ true → is_apart (cond b x y) ≡ true
apart-if true x y h k = h
apart-if false x y h k = k

apart_with : (list : PermList) (name : List ℕ) → is_apart list ≡ true → is_apart (list_with list name) ≡ true
apart_with lists.Shared name h = apart-if (is_among shared_names name) lists.Shared lists.UnknownShared refl refl
apart_with lists.Sockets name h = apart-if (is_among socket_names name) lists.Sockets lists.UnknownSockets refl refl
apart_with lists.Devices name h = apart-if (is_among device_names name) lists.Devices lists.UnknownDevices refl refl
apart_with lists.Features name h = apart-if (is_among feature_names name) lists.Features lists.UnknownFeatures refl refl
apart_with lists.Filesystems name h = h
apart_with lists.Persistent name h = h
apart_with lists.Environment name h = h
apart_with lists.SessionBus name h = h
apart_with lists.SystemBus name h = h
apart_with lists.UnknownShared name h = h
apart_with lists.UnknownSockets name h = h
apart_with lists.UnknownDevices name h = h
apart_with lists.UnknownFeatures name h = h
apart_with lists.UnknownSessionBus name h = h
apart_with lists.UnknownSystemBus name h = h

key_apart : (key : List ℕ) → passes is_apart (list_of_key key) ≡ true
key_apart key =
    some-if is_apart (bytes_eq key (codes "shared")) _ _ refl (some-if is_apart (bytes_eq key (codes "sockets")) _ _ refl (some-if is_apart (bytes_eq key (codes "devices")) _ _ refl
    (some-if is_apart (bytes_eq key (codes "features")) _ _ refl (some-if is_apart (bytes_eq key (codes "filesystems")) _ _ refl (some-if is_apart (bytes_eq key (codes "persistent")) _ _ refl refl)))))

unknown_apart : (key : List ℕ) → passes is_apart (list_of_unknown_key key) ≡ true
unknown_apart key =
    some-if is_apart (bytes_eq key (codes "unknown-shared")) _ _ refl (some-if is_apart (bytes_eq key (codes "unknown-sockets")) _ _ refl (some-if is_apart (bytes_eq key (codes "unknown-devices")) _ _ refl
    (some-if is_apart (bytes_eq key (codes "unknown-features")) _ _ refl (some-if is_apart (bytes_eq key (codes "unknown-session-bus")) _ _ refl (some-if is_apart (bytes_eq key (codes "unknown-system-bus")) _ _ refl refl)))))

at_apart : (source : Source) (key : List ℕ) → passes is_apart (list_at source key) ≡ true
at_apart sources.Metadata key = key_apart key
at_apart sources.Override key = either (list_of_key key) (key_apart key)
  where
    either : (o : Option PermList) → passes is_apart o ≡ true → passes is_apart (or_unknown o key) ≡ true
    either (Some list) h = h
    either None h = unknown_apart key

-- ---- what a file mentions

named_rules : (bus list : PermList) (name : List ℕ) (value : Value) → IsBus bus → is_apart list ≡ true → list_all (is_rule bus) (named list name value) ≡ true
named_rules bus list name value is h =
    let m = mention_of (list_with list name) name value in
    all-if (is_rule bus) (is_no_name name) [] (m ∷ []) refl (and_from (is_rule bus m) true (apart_rule bus m is (apart_with list name h)) refl)

entry_rules : (bus list : PermList) (entry : List ℕ) → IsBus bus → is_apart list ≡ true → list_all (is_rule bus) (mentions_in list entry) ≡ true
unfolding mentions_in
entry_rules bus list entry is h =
    named_rules bus list (name_in list (without_mark entry)) (cond (is_off entry) values.Off (entry_value list (without_mark entry))) is h

list_rules : (bus list : PermList) (value : List ℕ) → IsBus bus → is_apart list ≡ true → list_all (is_rule bus) (list_mentions list value) ≡ true
unfolding list_mentions
list_rules bus list value is h =
    all-flat (is_rule bus) (entry_mentions list) (λ piece. entry_rules bus list (trimmed_front is_blank piece) is h) (entries_of value)

context_rules : (bus : PermList) (o : Option PermList) (value : List ℕ) → IsBus bus → passes is_apart o ≡ true → list_all (is_rule bus) (context_mentions o value) ≡ true
context_rules bus None value is h = refl
context_rules bus (Some list) value is h = list_rules bus list value is h

odd_rules : (bus unknown : PermList) (name : List ℕ) → IsBus bus → is_apart unknown ≡ true → list_all (is_rule bus) (odd_pair unknown name) ≡ true
odd_rules bus unknown name is h =
    let m = mention_of unknown name values.On in
    all-if (is_rule bus) (can_stand name) (m ∷ []) [] (and_from (is_rule bus m) true (apart_rule bus m is h) refl) refl

level_known : (text : List ℕ) → passes is_level (level_of text) ≡ true
level_known text =
    some-if is_level (bytes_eq text (codes "none")) _ _ refl (some-if is_level (bytes_eq text (codes "see")) _ _ refl
    (some-if is_level (bytes_eq text (codes "talk")) _ _ refl (some-if is_level (bytes_eq text (codes "own")) _ _ refl refl)))

bus_rules : (bus list unknown : PermList) (p : Pair) (o : Option Value) → IsBus bus → is_apart unknown ≡ true → passes is_level o ≡ true → list_all (is_rule bus) (bus_with list unknown p o) ≡ true
bus_rules bus list unknown p None is h k = odd_rules bus unknown (pair_name p) is h
bus_rules bus list unknown p (Some level) is h k = by (is_pattern p.key) refl
  where
    by : (b : Bool) → is_pattern p.key ≡ b → list_all (is_rule bus) (cond b (mention_of list p.key level ∷ []) (odd_pair unknown (pair_name p))) ≡ true
    by true e =
        let m = mention_of list p.key level in
        and_from (is_rule bus m) true (or_right (not (is_in bus m)) (is_pattern p.key && is_level level) (and_from (is_pattern p.key) (is_level level) e k)) refl
    by false e = odd_rules bus unknown (pair_name p) is h

variable_rules : (bus : PermList) (p : Pair) → IsBus bus → list_all (is_rule bus) (variable_mentions p) ≡ true
variable_rules bus p is =
    let m = mention_of lists.Environment p.key (values.Text p.value) in and_from (is_rule bus m) true (apart_rule bus m is refl) refl

pair_rules : (bus : PermList) (source : Source) (group : List ℕ) (p : Pair) → IsBus bus → list_all (is_rule bus) (pair_mentions source group p) ≡ true
unfolding pair_mentions
pair_rules bus source group p is =
    all-if (is_rule bus) (bytes_eq group (codes "Context")) _ _ (context_rules bus (list_at source p.key) p.value is (at_apart source p.key))
    (all-if (is_rule bus) (bytes_eq group (codes "Environment")) _ _ (variable_rules bus p is)
    (all-if (is_rule bus) (bytes_eq group (codes "Session Bus Policy")) _ _ (bus_rules bus lists.SessionBus lists.UnknownSessionBus p (level_of p.value) is refl (level_known p.value))
    (all-if (is_rule bus) (bytes_eq group (codes "System Bus Policy")) _ _ (bus_rules bus lists.SystemBus lists.UnknownSystemBus p (level_of p.value) is refl (level_known p.value)) refl)))

group_rules : (bus : PermList) (source : Source) (g : Group) → IsBus bus → list_all (is_rule bus) (group_mentions source g) ≡ true
unfolding group_mentions
group_rules bus source g is = all-flat (is_rule bus) (pair_mentions source g.name) (λ p. pair_rules bus source g.name p is) g.pairs

pub file_rules : (bus : PermList) (source : Source) (file : List Group) → IsBus bus → AreRules bus (file_mentions source file)
unfolding file_mentions
file_rules bus source file is = all-flat (is_rule bus) (group_mentions source) (λ g. group_rules bus source g is) file

-- ---- what can be written

word_rule : (bus : PermList) (m : Mention) → IsBus bus → CanWrite m → is_rule bus m ≡ true
word_rule bus m is can =
    (and_parts (is_rule bus m) true (subst (λ (ms : List Mention). list_all (is_rule bus) ms ≡ true) can.reads (pair_rules bus sources.Override (group_of m.permission.list) (pair_of m) is))).0

pub word_rules : (bus : PermList) (mentions : List Mention) → IsBus bus → AllCanWrite mentions → AreRules bus mentions
word_rules bus [] is can = refl
word_rules bus (m ∷ mentions) is can = and_from (is_rule bus m) (list_all (is_rule bus) mentions) (word_rule bus m is can.0) (word_rules bus mentions is can.1)

pub joined_rules : (bus : PermList) (one other : List Mention) → AreRules bus one → AreRules bus other → AreRules bus (one ++ other)
joined_rules bus one other h k = all-append (is_rule bus) one other h k

-- ---- what is granted

abbrev saying : Permission → Value → Mention
saying p v = record { permission = p; value = v }

here_by : (b : Bool) (bus : PermList) (m : Mention) (p : Permission) (v : Value) → is_same m.permission p ≡ b → cond b (Some m.value) None ≡ Some v → is_rule bus m ≡ true → is_rule bus (saying p v) ≡ true
here_by false bus m p v e h rule = cc
here_by true bus m p v e h rule =
    let permission : m.permission ≡ p = same_exact m.permission p e in
    let value : m.value ≡ v = cc in
    subst (λ (q : Permission). is_rule bus (saying q v) ≡ true) permission (subst (λ (w : Value). is_rule bus (saying m.permission w) ≡ true) value rule)

last_rule : (bus : PermList) (mentions : List Mention) (p : Permission) (v : Value) → AreRules bus mentions → last_mention mentions p ≡ Some v → is_rule bus (saying p v) ≡ true
last_rule bus [] p v all h = cc
last_rule bus (m ∷ mentions) p v all h =
    let a = and_parts (is_rule bus m) (list_all (is_rule bus) mentions) all in by (last_mention mentions p) refl h a.0 (last_rule bus mentions p v a.1)
  where
    by : (o : Option Value) → last_mention mentions p ≡ o → later o (said m p) ≡ Some v → is_rule bus m ≡ true → (last_mention mentions p ≡ Some v → is_rule bus (saying p v) ≡ true) → is_rule bus (saying p v) ≡ true
    by (Some w) e k first rest = rest (e ∙ k)
    by None e k first rest = here_by (is_same m.permission p) bus m p v refl k first

-- each value that an ascending list has is that of one of its mentions
values_rules : (bus : PermList) (grants : List Mention) → IsAscending grants → ((p : Permission) (v : Value) → value_in grants p ≡ Some v → is_rule bus (saying p v) ≡ true) → AreRules bus grants
unfolding IsStrictlySortedBy
values_rules bus [] up says = refl
values_rules bus (m ∷ grants) up says =
    and_from (is_rule bus m) (list_all (is_rule bus) grants)
    (says m.permission m.value (ap (λ b. or_next (cond b (Some m.value) None) (value_in grants m.permission)) (same_itself m.permission m.permission refl)))
    (values_rules bus grants up.1 (λ p v h. says p v (after (is_same m.permission p) p v refl h)))
  where
    after : (b : Bool) (p : Permission) (v : Value) → is_same m.permission p ≡ b → value_in grants p ≡ Some v → or_next (cond b (Some m.value) None) (value_in grants p) ≡ Some v
    after true p v e h = let none = none_above m.permission p grants up.0 e in cc
    after false p v e h = h

pub grant_rules : (bus : PermList) (all grants : List Mention) → AreRules bus all → IsAscending grants → ((p : Permission) → value_in grants p ≡ last_mention all p) → AreRules bus grants
grant_rules bus all grants rules up same = values_rules bus grants up (λ p v h. last_rule bus all p v rules (sym (same p) ∙ h))
