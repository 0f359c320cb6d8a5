-- What the groups of a `config` say.
use Rattle.std.proofs.Common.{◌≡◌, ℕ, suc, ◌+◌, ◌-◌, ◌<◌, ◌≤◌, Bool, true, false, ◌&&◌, ◌||◌, cond, leb, List, [], ◌∷◌, ◌++◌, length, map, take, drop, get_or, codes, Option, Some, None, Result, Ok, Err, refl, sym, ap, subst, ◌∙◌, inl, inr, arith, append-nil}
use denote.Ref.{Bor}
use Rattle.std.specs.List.{list_all, list_any, filter, find, cons_option}
use Rattle.std.specs.Option.{option_map_or, option_and_then, option_copied, is_some, MatchOption}
use Rattle.std.specs.Prelude.{IfOk, IsErrOf}
use Rattle.std.specs.Result.{IsErrAnd}
use Rattle.std.specs.Str.{bytes_eq, IsUtf8}
use Rattle.std.proofs.lemmas.Bool.{cases_Bool, cases_lt, and_parts, and_from, and_left, and_right, or_parts, leb-true, lt-leb, le-leb, both_ways, false_from_ne_true, not-true}
use Rattle.std.proofs.lemmas.List.{drop-drop, take-append-drop, take_more}
use Rattle.std.proofs.lemmas.List.Elements.{filter_map-append}
use Rattle.fp_base.proofs.Texts.{bytes_eq-true as bytes_eq-is, bytes_eq-same}
use Rattle.fp_name.specs.Grammar.{is_remote_name, is_url}
use Rattle.fp_name.specs.Pins.{is_pin}
use Rattle.fp_name.proofs.Bytes.{no_text_no_remote_name}
use Rattle.fp_keyfile.specs.declared.group.Pair.{Pair}
use Rattle.fp_keyfile.specs.declared.group.Group.{Group}
use Rattle.fp_keyfile.specs.declared.fault.KeyFault.{KeyFault}
use Rattle.fp_keyfile.specs.declared.fault.KeyError.{KeyError}
use Rattle.fp_keyfile.specs.declared.fault.KeyError.TheVariants as keys
use Rattle.fp_keyfile.specs.KeyFile.{Fails, file_of, names_of, keys_of, keys_at, group_at, are_distinct, is_good, is_good_group}
use Rattle.fp_keyfile.proofs.Good.{good_parts, good_group_parts}
use Rattle.fp_keyfile.proofs.Read.{good_file_of, map_keys-append}
use Rattle.fp_small.specs.declared.state.RemoteRow.{RemoteRow}
use Rattle.fp_small.specs.declared.config.Settings.{Settings}
use Rattle.fp_small.specs.declared.config.ConfigError.{ConfigError}
use Rattle.fp_small.specs.declared.config.ConfigError.TheVariants.{Bad}
use Rattle.fp_small.specs.ConfigErrors.{key_fault}
use Rattle.fp_small.specs.Order.{inserted, sorted_onto, sorted_by}
use Rattle.fp_small.specs.Config.{name_of, is_layout, is_pin_pair, remote_front, is_quoted, quoted_name, row_of, remote_of, is_part, remotes_in, pins_in, is_config, settings_of, settings_read, config_of, is_row, IsSettings}
use Rattle.fp_small.proofs.Ordered.{list_all-sorted_onto, length-sorted_onto, is_ascending-sorted_by, is_ascending-sorted_onto_none}

-- ---- the name in a header

-- the last byte, after the front
last_byte : (header : List ℕ) → 9 ≤ length header → drop (length header - 9) (drop 8 header) ≡ drop (length header - 1) header
last_byte header long = drop-drop (length header - 9) 8 header ∙ ap (λ (k : ℕ). drop k header) (omega arith)

pub unquoted : (header : List ℕ) → bytes_eq (take 8 header) remote_front ≡ false → quoted_name header ≡ None
unquoted header h =
    let e : is_quoted header ≡ false = and_left (leb 9 (length header) && bytes_eq (take 8 header) remote_front) (bytes_eq (drop (length header - 1) header) (codes "\"")) (and_right (leb 9 (length header)) (bytes_eq (take 8 header) remote_front) h) in
    rw e refl

unquoted_remainder : (header : List ℕ) → (9 ≤ length header → bytes_eq (drop (length header - 1) header) (codes "\"") ≡ false) → quoted_name header ≡ None
unquoted_remainder header h =
    elim (cases_lt (length header) 9) [
      | inl short ↦
          let e : is_quoted header ≡ false = and_left (leb 9 (length header) && bytes_eq (take 8 header) remote_front) (bytes_eq (drop (length header - 1) header) (codes "\"")) (and_left (leb 9 (length header)) (bytes_eq (take 8 header) remote_front) (lt-leb 9 (length header) short)) in
          rw e refl
      | inr long ↦
          let e : is_quoted header ≡ false = and_right (leb 9 (length header) && bytes_eq (take 8 header) remote_front) (bytes_eq (drop (length header - 1) header) (codes "\"")) (h long) in
          rw e refl
    ]

pub record IsRemainder (header x : List ℕ) : Type 0 where
  pub front : bytes_eq (take 8 header) remote_front ≡ true
  pub is : x ≡ drop 8 header
  pub long : length x + 8 ≡ length header

pub quoted_is : (header x : List ℕ) (r : Option (Bor (List ℕ))) → IsRemainder header x
    → MatchOption r (bytes_eq (drop (length x - 1) x) (codes "\"") ≡ false) (λ y. (bytes_eq (drop (length x - 1) x) (codes "\"") ≡ true) × (y.now ≡ take (length x - 1) x) × (length y.now + 1 ≡ length x)) → option_copied r ≡ quoted_name header
quoted_is header x None h none = sym (unquoted_remainder header (λ long. rw (here long) at none))
  where
    here : 9 ≤ length header → drop (length x - 1) x ≡ drop (length header - 1) header
    here long = ap (λ (k : ℕ). drop k x) (omega (arith, h.long)) ∙ ap (λ (y : List ℕ). drop (length header - 9) y) h.is ∙ last_byte header long
quoted_is header x (Some y) h some =
    let long : 9 ≤ length header = omega (arith, h.long, some.2) in
    let less : length x - 1 ≡ length header - 9 = omega (arith, h.long) in
    let here : drop (length x - 1) x ≡ drop (length header - 1) header = ap (λ (k : ℕ). drop k x) less ∙ ap (λ (y : List ℕ). drop (length header - 9) y) h.is ∙ last_byte header long in
    let last : bytes_eq (drop (length header - 1) header) (codes "\"") ≡ true = ap (λ (y : List ℕ). bytes_eq y (codes "\"")) (sym here) ∙ some.0 in
    let e : is_quoted header ≡ true = and_from (leb 9 (length header) && bytes_eq (take 8 header) remote_front) (bytes_eq (drop (length header - 1) header) (codes "\"")) (and_from (leb 9 (length header)) (bytes_eq (take 8 header) remote_front) (le-leb 9 (length header) long) h.front) last in
    rw e (ap (λ (n : List ℕ). Some n) (some.1 ∙ ap (λ (k : ℕ). take k x) less ∙ ap (λ (y : List ℕ). take (length header - 9) y) h.is))

-- a header is made of its name
pub quoted_name-is : (header name : List ℕ) → quoted_name header ≡ Some name → header ≡ remote_front ++ (name ++ codes "\"")
quoted_name-is header name h =
    elim (cases_Bool (is_quoted header)) [
      | inl e ↦
          let a = and_parts (leb 9 (length header) && bytes_eq (take 8 header) remote_front) (bytes_eq (drop (length header - 1) header) (codes "\"")) e in
          let b = and_parts (leb 9 (length header)) (bytes_eq (take 8 header) remote_front) a.0 in
          let long : 9 ≤ length header = leb-true 9 (length header) b.0 in
          let named : take (length header - 9) (drop 8 header) ≡ name = named_by (rw e at h) in
          let remainder : drop 8 header ≡ name ++ codes "\"" = sym (take-append-drop (length header - 9) (drop 8 header)) ∙ ap (λ (y : List ℕ). y ++ drop (length header - 9) (drop 8 header)) named ∙ ap (λ (y : List ℕ). name ++ y) (last_byte header long ∙ bytes_eq-is (drop (length header - 1) header) (codes "\"") a.1) in
          sym (take-append-drop 8 header) ∙ ap (λ (y : List ℕ). y ++ drop 8 header) (bytes_eq-is (take 8 header) remote_front b.1) ∙ ap (λ (y : List ℕ). remote_front ++ y) remainder
      | inr e ↦ absurd (none_some (rw e at h))
    ]
  where
    named_by : {x y : List ℕ} → Some x ≡ Some y → x ≡ y
    named_by e = cc

    none_some : None ≡ Some name → ⊥
    none_some e = cc

-- ---- the remote of a group

pub no_row : (name : List ℕ) (pairs : List Pair) → (IsUtf8 name → ⊥) → None ≡ row_of name pairs
no_row name [] h = refl
no_row name (p ∷ []) h =
    let e : (bytes_eq p.key (codes "url") && is_remote_name name && is_url p.value) ≡ false = and_left (bytes_eq p.key (codes "url") && is_remote_name name) (is_url p.value) (and_right (bytes_eq p.key (codes "url")) (is_remote_name name) (no_text_no_remote_name name h)) in
    rw e refl
no_row name (p ∷ q ∷ pairs) h = refl

pub record IsRowOf (name : List ℕ) (row : RemoteRow) : Type 0 where
  pub good : is_remote_name row.name ≡ true
  pub good_url : is_url row.url ≡ true
  pub named : row.name ≡ name

none_row : {row : RemoteRow} → None ≡ Some row → ⊥
none_row e = cc

some_row : {x y : RemoteRow} → Some x ≡ Some y → x ≡ y
some_row e = cc

row_of-some : (name : List ℕ) (pairs : List Pair) (row : RemoteRow) → row_of name pairs ≡ Some row → IsRowOf name row
row_of-some name [] row h = absurd (none_row h)
row_of-some name (p ∷ []) row h =
    elim (cases_Bool (bytes_eq p.key (codes "url") && is_remote_name name && is_url p.value)) [
      | inl e ↦
          let a = and_parts (bytes_eq p.key (codes "url") && is_remote_name name) (is_url p.value) e in
          let b = and_parts (bytes_eq p.key (codes "url")) (is_remote_name name) a.0 in
          subst (IsRowOf name) (some_row (rw e at h)) (record { good = b.1; good_url = a.1; named = refl })
      | inr e ↦ absurd (none_row (rw e at h))
    ]
row_of-some name (p ∷ q ∷ pairs) row h = absurd (none_row h)

pub record IsRemote (header : List ℕ) (row : RemoteRow) : Type 0 where
  pub good : is_remote_name row.name ≡ true
  pub good_url : is_url row.url ≡ true
  pub header_is : header ≡ remote_front ++ (row.name ++ codes "\"")

remote_by : (header : List ℕ) (o : Option (List ℕ)) (pairs : List Pair) (row : RemoteRow) → quoted_name header ≡ o → option_and_then (λ name. row_of name pairs) o ≡ Some row → IsRemote header row
remote_by header None pairs row q h = absurd (none_row h)
remote_by header (Some name) pairs row q h =
    let r = row_of-some name pairs row h in
    record { good = r.good; good_url = r.good_url; header_is = quoted_name-is header name q ∙ ap (λ (n : List ℕ). remote_front ++ (n ++ codes "\"")) (sym r.named) }

pub remote_of-some : (g : Group) (row : RemoteRow) → remote_of g ≡ Some row → IsRemote g.name row
unfolding remote_of
remote_of-some g row h = remote_by g.name (quoted_name g.name) g.pairs row refl h

pub is_row-from : (header : List ℕ) (row : RemoteRow) → IsRemote header row → is_row row ≡ true
is_row-from header row h = and_from (is_remote_name row.name) (is_url row.url) h.good h.good_url

-- ---- the remotes of a file

pub count_remotes_is : (file : List Group) → length (filter (λ g. is_some (remote_of g)) file) ≡ length (remotes_in file)
count_remotes_is [] = refl
count_remotes_is (g ∷ file) = counted (remote_of g) (count_remotes_is file)
  where
    counted : (o : Option RemoteRow) → length (filter (λ g. is_some (remote_of g)) file) ≡ length (remotes_in file) → length (cond (is_some o) (g ∷ filter (λ g. is_some (remote_of g)) file) (filter (λ g. is_some (remote_of g)) file)) ≡ length (cons_option o (remotes_in file))
    counted None e = e
    counted (Some row) e = ap suc e

pub rows_good : (file : List Group) → list_all is_row (remotes_in file) ≡ true
rows_good [] = refl
rows_good (g ∷ file) = each (remote_of g) refl (rows_good file)
  where
    each : (o : Option RemoteRow) → remote_of g ≡ o → list_all is_row (remotes_in file) ≡ true → list_all is_row (cons_option o (remotes_in file)) ≡ true
    each None e rest = rest
    each (Some row) e rest = and_from (is_row row) (list_all is_row (remotes_in file)) (is_row-from g.name row (remote_of-some g row e)) rest

other_name : (header other : List ℕ) (row more : RemoteRow) → IsRemote header row → IsRemote other more → bytes_eq header other ≡ false → bytes_eq row.name more.name ≡ false
other_name header other row more h o differ = false_from_ne_true (bytes_eq row.name more.name) (λ t. both_ways (bytes_eq header other) differ (subst (λ (x : List ℕ). bytes_eq header x ≡ true) (h.header_is ∙ ap (λ (n : List ℕ). remote_front ++ (n ++ codes "\"")) (bytes_eq-is row.name more.name t) ∙ sym o.header_is) (bytes_eq-same header)))

name_apart : (g : Group) (row : RemoteRow) (file : List Group) → remote_of g ≡ Some row → list_any (bytes_eq g.name) (names_of file) ≡ false → list_any (bytes_eq row.name) (map name_of (remotes_in file)) ≡ false
name_apart g row [] is h = refl
name_apart g row (k ∷ file) is h =
    let parts = or_parts (bytes_eq g.name k.name) (list_any (bytes_eq g.name) (names_of file)) h in
    each (remote_of k) refl parts.0 (name_apart g row file is parts.1)
  where
    each : (o : Option RemoteRow) → remote_of k ≡ o → bytes_eq g.name k.name ≡ false → list_any (bytes_eq row.name) (map name_of (remotes_in file)) ≡ false → list_any (bytes_eq row.name) (map name_of (cons_option o (remotes_in file))) ≡ false
    each None e differ rest = rest
    each (Some more) e differ rest = rw (other_name g.name k.name row more (remote_of-some g row is) (remote_of-some k more e) differ) rest

pub names_distinct : (file : List Group) → are_distinct (names_of file) ≡ true → are_distinct (map name_of (remotes_in file)) ≡ true
names_distinct [] h = refl
names_distinct (g ∷ file) h =
    let a = and_parts _ (are_distinct (names_of file)) h in
    each (remote_of g) refl (not-true (list_any (bytes_eq g.name) (names_of file)) a.0) (names_distinct file a.1)
  where
    each : (o : Option RemoteRow) → remote_of g ≡ o → list_any (bytes_eq g.name) (names_of file) ≡ false → are_distinct (map name_of (remotes_in file)) ≡ true → are_distinct (map name_of (cons_option o (remotes_in file))) ≡ true
    each None e apart rest = rest
    each (Some row) e apart rest = rw (name_apart g row file e apart) rest

-- ---- the pins of a file

pub find_passes : {A : Type 0} (p q : A → Bool) (xs : List A) (x : A) → list_all p xs ≡ true → find q xs ≡ Some x → p x ≡ true
find_passes p q [] x h e = absurd cc
find_passes {A} p q (y ∷ ys) x h e =
    let a = and_parts (p y) (list_all p ys) h in
    elim (cases_Bool (q y)) [
      | inl t ↦ subst (λ (z : A). p z ≡ true) (same (rw t at e)) a.0
      | inr f ↦ find_passes p q ys x a.1 (rw f at e)
    ]
  where
    same : {z : A} → Some y ≡ Some z → y ≡ z
    same e = cc

find_found : {A : Type 0} (q : A → Bool) (xs : List A) (x : A) → find q xs ≡ Some x → q x ≡ true
find_found q [] x e = absurd cc
find_found {A} q (y ∷ ys) x e =
    elim (cases_Bool (q y)) [
      | inl t ↦ subst (λ (z : A). q z ≡ true) (same (rw t at e)) t
      | inr f ↦ find_found q ys x (rw f at e)
    ]
  where
    same : {z : A} → Some y ≡ Some z → y ≡ z
    same e = cc

or-none : (b : Bool) → ((false || b) || false) ≡ true → b ≡ true
or-none true h = refl
or-none false h = h

part_named : (name : List ℕ) (pairs : List Pair) → name ≡ codes "pins" → is_part (record { name = name; pairs = pairs }) ≡ true → list_all is_pin_pair pairs ≡ true
unfolding remote_of
part_named name pairs e h = or-none (list_all is_pin_pair pairs) (subst (λ (n : List ℕ). is_part (record { name = n; pairs = pairs }) ≡ true) e h)

pub pairs_of_pins : (file : List Group) (g : Group) → list_all is_part file ≡ true → group_at file (codes "pins") ≡ Some g → list_all is_pin_pair g.pairs ≡ true
pairs_of_pins file g all found = part_named g.name g.pairs (bytes_eq-is g.name (codes "pins") (find_found (λ (k : Group). bytes_eq k.name (codes "pins")) file g found)) (find_passes is_part (λ (k : Group). bytes_eq k.name (codes "pins")) file g all found)

pub pins_found : (file : List Group) (o : Option Group) → o ≡ group_at file (codes "pins") → pins_in file ≡ option_map_or (λ g. keys_of g.pairs) o []
unfolding keys_at
pins_found file o e = ap (λ (f : Option Group). option_map_or (λ (g : Group). keys_of g.pairs) f []) (sym e)

keys_good : (pairs : List Pair) → list_all is_pin_pair pairs ≡ true → list_all is_pin (keys_of pairs) ≡ true
keys_good [] h = refl
keys_good (p ∷ pairs) h =
    let a = and_parts (is_pin_pair p) (list_all is_pin_pair pairs) h in
    and_from (is_pin p.key) (list_all is_pin (keys_of pairs)) (and_parts (is_pin p.key) (bytes_eq p.value (codes "true")) a.0).0 (keys_good pairs a.1)

pub record ArePins (pins : List (List ℕ)) : Type 0 where
  pub good : list_all is_pin pins ≡ true
  pub distinct : are_distinct pins ≡ true

pins_good : (file : List Group) → is_good file ≡ true → list_all is_part file ≡ true → ArePins (pins_in file)
pins_good file good all = by (group_at file (codes "pins")) refl
  where
    by : (o : Option Group) → o ≡ group_at file (codes "pins") → ArePins (pins_in file)
    by None e = subst ArePins (sym (pins_found file None e)) (record { good = refl; distinct = refl })
    by (Some g) e = subst ArePins (sym (pins_found file (Some g) e)) (record {
      good = keys_good g.pairs (pairs_of_pins file g all (sym e));
      distinct = (good_group_parts g (find_passes is_good_group (λ (k : Group). bytes_eq k.name (codes "pins")) file g (good_parts file good).groups (sym e))).keys;
    })

-- ---- what is read is good

pub record IsConfig (file : List Group) : Type 0 where
  pub parts : list_all is_part file ≡ true
  pub few_remotes : length (remotes_in file) ≤ 256
  pub few_pins : length (pins_in file) ≤ 1024

pub config_parts : (file : List Group) → is_config file ≡ true → IsConfig file
unfolding is_config
config_parts file h =
    let a = and_parts (list_any is_layout file && list_all is_part file && leb (length (remotes_in file)) 256) (leb (length (pins_in file)) 1024) h in
    let b = and_parts (list_any is_layout file && list_all is_part file) (leb (length (remotes_in file)) 256) a.0 in
    record {
      parts = (and_parts (list_any is_layout file) (list_all is_part file) b.0).1;
      few_remotes = leb-true (length (remotes_in file)) 256 b.1;
      few_pins = leb-true (length (pins_in file)) 1024 a.1;
    }

sorted_good : (file : List Group) → is_good file ≡ true → IsConfig file → IsSettings (record { remotes = sorted_by name_of (remotes_in file); pins = sorted_by (λ pin. pin) (pins_in file) })
sorted_good file good c =
    let pins = pins_good file good c.parts in
    record {
      rows = list_all-sorted_onto is_row name_of [] (remotes_in file) refl (rows_good file);
      patterns = list_all-sorted_onto is_pin (λ (pin : List ℕ). pin) [] (pins_in file) refl pins.good;
      remotes_ascend = is_ascending-sorted_by name_of (remotes_in file) (names_distinct file (good_parts file good).names);
      pins_ascend = is_ascending-sorted_onto_none (pins_in file) pins.distinct;
      few_remotes = omega (arith, c.few_remotes, length-sorted_onto name_of [] (remotes_in file));
      few_pins = omega (arith, c.few_pins, length-sorted_onto (λ (pin : List ℕ). pin) [] (pins_in file));
    }

some_settings : {x y : Settings} → Some x ≡ Some y → x ≡ y
some_settings e = cc

none_settings : {s : Settings} → None ≡ Some s → ⊥
none_settings e = cc

settings_good : (file : List Group) (s : Settings) → is_good file ≡ true → settings_of file ≡ Some s → IsSettings s
settings_good file s good h =
    elim (cases_Bool (is_config file)) [
      | inl e ↦ subst IsSettings (some_settings (rw e at h)) (sorted_good file good (config_parts file e))
      | inr e ↦ absurd (none_settings (rw e at h))
    ]

pub read_good : (bytes : List ℕ) (s : Settings) → config_of bytes ≡ Some s → IsSettings s
unfolding config_of
read_good bytes s h = by (file_of bytes) (good_file_of bytes) h
  where
    by : (r : Result (List Group) KeyFault) → IfOk r (λ file. is_good file ≡ true) → settings_read r ≡ Some s → IsSettings s
    by (Ok file) good h = settings_good file s good h
    by (Err fault) good h = absurd (none_settings h)

-- ---- what a call answers

pub config_is : (bytes : List ℕ) (file : List Group) → file_of bytes ≡ Ok file → config_of bytes ≡ settings_of file
unfolding config_of
config_is bytes file e = ap settings_read e

fault_none : (bytes : List ℕ) (fault : KeyFault) → file_of bytes ≡ Err fault → config_of bytes ≡ None
unfolding config_of
fault_none bytes fault e = ap settings_read e

bad_key : (bytes : List ℕ) (e : KeyError) → Bad ≡ key_fault e → Fails e (file_of bytes) → config_of bytes ≡ None
bad_key bytes (keys.Fault fault) bad h = fault_none bytes fault h
bad_key bytes keys.NoMemory bad h = absurd cc

pub no_file : {T : Type 0} (bytes : List ℕ) (e : KeyError) (r : Result T ConfigError) → IsErrAnd r (λ fault. fault ≡ key_fault e) → IsErrOf r Bad → Fails e (file_of bytes) → config_of bytes ≡ None
no_file {T} bytes e r gives bad h = bad_key bytes e (subst (λ (x : Result T ConfigError). IsErrAnd x (λ fault. fault ≡ key_fault e)) bad gives) h

pub ok_good : (bytes : List ℕ) (r : Result Settings ConfigError) → IfOk r (λ s. config_of bytes ≡ Some s) → IfOk r (λ s. IsSettings s)
ok_good bytes (Ok s) h = read_good bytes s h
ok_good bytes (Err fault) h = tt

-- ---- one more remote or pin that is read

pub sorted_by-push : {A : Type 0} (name : A → List ℕ) (ys xs : List A) (x : A) → sorted_onto name ys (xs ++ x ∷ []) ≡ inserted name (sorted_onto name ys xs) x
sorted_by-push name ys [] x = refl
sorted_by-push name ys (z ∷ zs) x = sorted_by-push name (inserted name ys z) zs x

pub pins_more : (pairs : List Pair) (i : ℕ) (p : Pair) (pins new : List (List ℕ)) (pin : List ℕ) → i < length pairs → p ≡ get_or pairs i p → pin ≡ p.key → pins ≡ sorted_by (λ q. q) (keys_of (take i pairs)) → new ≡ inserted (λ q. q) pins pin → new ≡ sorted_by (λ q. q) (keys_of (take (i + 1) pairs))
pins_more pairs i p pins new pin low is key so_far put =
    let more : keys_of (take (i + 1) pairs) ≡ keys_of (take i pairs) ++ p.key ∷ [] = ap keys_of (take_more pairs i p low ∙ ap (λ (q : Pair). take i pairs ++ q ∷ []) (sym is)) ∙ map_keys-append (take i pairs) (p ∷ []) in
    put ∙ ap (λ (x : List ℕ). inserted (λ q. q) pins x) key ∙ ap (λ (xs : List (List ℕ)). inserted (λ q. q) xs p.key) so_far ∙ sym (sorted_by-push (λ q. q) [] (keys_of (take i pairs)) p.key) ∙ ap (sorted_by (λ q. q)) (sym more)

remotes_on : (file : List Group) (i : ℕ) (g : Group) (o : Option RemoteRow) → i < length file → g ≡ get_or file i g → o ≡ remote_of g → remotes_in (take (i + 1) file) ≡ remotes_in (take i file) ++ cons_option o []
remotes_on file i g o low is said =
    ap remotes_in (take_more file i g low ∙ ap (λ (k : Group). take i file ++ k ∷ []) (sym is)) ∙ filter_map-append remote_of (take i file) (g ∷ []) ∙ ap (λ (r : Option RemoteRow). remotes_in (take i file) ++ cons_option r []) (sym said)

pub remotes_kept : (file : List Group) (i : ℕ) (g : Group) (rows : List RemoteRow) → i < length file → g ≡ get_or file i g → None ≡ remote_of g → rows ≡ sorted_by name_of (remotes_in (take i file)) → rows ≡ sorted_by name_of (remotes_in (take (i + 1) file))
remotes_kept file i g rows low is said so_far = so_far ∙ ap (sorted_by name_of) (sym (remotes_on file i g None low is said ∙ append-nil (remotes_in (take i file))))

pub remotes_more : (file : List Group) (i : ℕ) (g : Group) (row given : RemoteRow) (rows new : List RemoteRow) → i < length file → g ≡ get_or file i g → Some row ≡ remote_of g → rows ≡ sorted_by name_of (remotes_in (take i file)) → given ≡ row → new ≡ inserted name_of rows given
    → new ≡ sorted_by name_of (remotes_in (take (i + 1) file))
remotes_more file i g row given rows new low is said so_far same put =
    put ∙ ap (λ (x : RemoteRow). inserted name_of rows x) same ∙ ap (λ (xs : List RemoteRow). inserted name_of xs row) so_far ∙ sym (sorted_by-push name_of [] (remotes_in (take i file)) row) ∙ ap (sorted_by name_of) (sym (remotes_on file i g (Some row) low is said))
