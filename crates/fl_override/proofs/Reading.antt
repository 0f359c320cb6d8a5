-- What a key file mentions can be written, and reads back so.
use Rattle.std.proofs.Common.{◌≡◌, ℕ, Bool, true, false, not, cond, eqb, List, [], ◌∷◌, ◌++◌, ◌&&◌, ◌||◌, drop, Option, Some, None, unwrap_or, is_some, refl, sym, ap, subst, ◌∙◌, append-nil, lit<}
use Rattle.std.specs.Prelude.{codes, nat_lt}
use Rattle.std.proofs.lemmas.Str.{is_utf8-from_IsUtf8, IsUtf8-from_ascii}
use Rattle.std.proofs.lemmas.Str.Ascii.{IsAscii-nil, IsAscii-cons}
use Rattle.std.specs.Str.{IsAscii}
use Rattle.std.specs.List.{slice_split, list_all, list_any, flat_map, AllByRecursion}
use Rattle.std.specs.Str.{is_utf8, bytes_eq}
use Rattle.std.proofs.lemmas.Bool.{and_parts, and_from, false≢true, not-true, ltb-true, or_parts}
use Rattle.std.proofs.lemmas.List.Elements.{All-from_recursion}
use Rattle.std.proofs.lemmas.List.Folds.{list_all-append}
use Rattle.fp_base.proofs.Lists.{all_append}
use Rattle.fp_base.proofs.Texts.{bytes_eq-true}
use Rattle.fp_keyfile.specs.declared.group.Group.{Group}
use Rattle.fp_keyfile.specs.declared.group.Pair.{Pair}
use Rattle.fp_keyfile.specs.Grammar.{is_blank, is_return, is_value_byte, is_key_byte, is_key, is_value, begins_so, ends_so}
use Rattle.fp_keyfile.specs.Lines.{trimmed_front}
use Rattle.fp_keyfile.specs.KeyFile.{is_good_pair, is_good_group, is_good}
use Rattle.fp_keyfile.proofs.Texts.{ends_so-append, begins_so-trimmed_front, trimmed_front_same, utf8_joined, utf8_nil}
use Rattle.fp_keyfile.proofs.Good.{IsGoodPair, good_pair_parts, good_group_parts, good_parts}
use Rattle.fp_keyfile.proofs.Written.{IsKeyText-from, IsValueText-from, none_is}
use Rattle.fl_meta.specs.declared.permission.PermList.{PermList}
use Rattle.fl_meta.specs.declared.permission.PermList.TheVariants as lists
use Rattle.fl_meta.specs.declared.permission.Value.{Value}
use Rattle.fl_meta.specs.declared.permission.Value.TheVariants as values
use Rattle.fl_meta.specs.declared.permission.Mention.{Mention}
use Rattle.fl_meta.specs.declared.mentions.Source.{Source}
use Rattle.fl_meta.specs.declared.mentions.Source.TheVariants as sources
use Rattle.fl_meta.specs.Names.{is_among, shared_names, socket_names, device_names, feature_names, list_with, key_of, list_of_key, list_of_unknown_key, word_of, level_of, access_of}
use Rattle.fl_meta.specs.Patterns.{is_pattern}
use Rattle.fl_meta.specs.Places.{is_colon, normal, place_in}
use Rattle.fl_meta.specs.Entries.{is_mark, is_empty, is_no_name, is_off, without_mark, last_word, access_remainder, access_at, name_in, value_in, mention_of, mentions_in, entry_mentions, list_mentions}
use Rattle.fl_meta.specs.Separators.{is_semicolon, ends_escaped, entries_of}
use Rattle.fl_meta.specs.Cuts.{HasNoEnding}
use Rattle.fl_meta.specs.Mentions.{or_unknown, list_at, context_mentions, pair_name, can_stand, odd_pair, bus_with, bus_mentions, pair_mentions, group_mentions, file_mentions}
use Rattle.fl_meta.proofs.Endings.{last_word-cut, is_empty-cons}
use Rattle.fl_meta.proofs.Normal.{HasNoEnding-place_in, place_in-twice}
use Rattle.fl_meta.proofs.Whole.{IsWhole, entries_cut, entries_are_whole}
use Rattle.fl_override.specs.Written.{entry_with, entry_text, closed_entry, group_of, pair_with, pair_of, CanWrite}
use Rattle.fl_override.specs.Overrides.{AllCanWrite}
use Rattle.fl_override.proofs.Plain.{IsPlain, IsPlain-nil, IsPlain-joined, IsPlain-trimmed, IsPlain-without_mark, plain_pieces}
use Rattle.fl_override.proofs.Closed.{IsClosed, closed_with, trimmed_whole, mark_whole, place_whole, none_whole}
use Rattle.fl_override.proofs.Places.{place_in-ended, first_of, IsPlain-place_in}

-- ---- ASCII

ascii_from : (bs : List ℕ) → list_all (λ b. nat_lt b 128) bs ≡ true → IsAscii bs
ascii_from [] h = IsAscii-nil
ascii_from (b ∷ bs) h =
    let a = and_parts (nat_lt b 128) (list_all (λ c. nat_lt c 128) bs) h in
    IsAscii-cons b bs (ltb-true b 128 a.0) (ascii_from bs a.1)

pub utf8_ascii : (bs : List ℕ) → list_all (λ b. nat_lt b 128) bs ≡ true → is_utf8 bs ≡ true
utf8_ascii bs h = is_utf8-from_IsUtf8 bs (IsUtf8-from_ascii bs (ascii_from bs h))

-- ---- the lists with a key in the group `Context`

pub record IsListed (list : PermList) : Type 0 where
  pub pair : (m : Mention) → m.permission.list ≡ list → pair_of m ≡ record { key = key_of list; value = closed_entry m }
  pub group : group_of list ≡ codes "Context"
  pub at : list_at sources.Override (key_of list) ≡ Some list
  pub key : is_key (key_of list) ≡ true
  pub key_text : is_utf8 (key_of list) ≡ true
  pub is_itself : (name : List ℕ) → list_with (list_with list name) name ≡ list_with list name

-- a list, and the one for its unknown names
itself-by : (b : Bool) (list unknown : PermList) (name : List ℕ) → list_with list name ≡ cond b list unknown → list_with unknown name ≡ unknown → list_with (cond b list unknown) name ≡ cond b list unknown
itself-by true list unknown name h k = h
itself-by false list unknown name h k = k

pub listed_shared : IsListed lists.Shared
listed_shared = record { pair = λ m e. ap (λ l. pair_with l m) e; group = refl; at = refl; key = refl; key_text = utf8_ascii _ refl; is_itself = λ name. itself-by (is_among shared_names name) lists.Shared lists.UnknownShared name refl refl }

pub listed_sockets : IsListed lists.Sockets
listed_sockets = record { pair = λ m e. ap (λ l. pair_with l m) e; group = refl; at = refl; key = refl; key_text = utf8_ascii _ refl; is_itself = λ name. itself-by (is_among socket_names name) lists.Sockets lists.UnknownSockets name refl refl }

pub listed_devices : IsListed lists.Devices
listed_devices = record { pair = λ m e. ap (λ l. pair_with l m) e; group = refl; at = refl; key = refl; key_text = utf8_ascii _ refl; is_itself = λ name. itself-by (is_among device_names name) lists.Devices lists.UnknownDevices name refl refl }

pub listed_features : IsListed lists.Features
listed_features = record { pair = λ m e. ap (λ l. pair_with l m) e; group = refl; at = refl; key = refl; key_text = utf8_ascii _ refl; is_itself = λ name. itself-by (is_among feature_names name) lists.Features lists.UnknownFeatures name refl refl }

pub listed_filesystems : IsListed lists.Filesystems
listed_filesystems = record { pair = λ m e. ap (λ l. pair_with l m) e; group = refl; at = refl; key = refl; key_text = utf8_ascii _ refl; is_itself = λ name. refl }

pub listed_persistent : IsListed lists.Persistent
listed_persistent = record { pair = λ m e. ap (λ l. pair_with l m) e; group = refl; at = refl; key = refl; key_text = utf8_ascii _ refl; is_itself = λ name. refl }

pub listed_unknown_shared : IsListed lists.UnknownShared
listed_unknown_shared = record { pair = λ m e. ap (λ l. pair_with l m) e; group = refl; at = refl; key = refl; key_text = utf8_ascii _ refl; is_itself = λ name. refl }

pub listed_unknown_sockets : IsListed lists.UnknownSockets
listed_unknown_sockets = record { pair = λ m e. ap (λ l. pair_with l m) e; group = refl; at = refl; key = refl; key_text = utf8_ascii _ refl; is_itself = λ name. refl }

pub listed_unknown_devices : IsListed lists.UnknownDevices
listed_unknown_devices = record { pair = λ m e. ap (λ l. pair_with l m) e; group = refl; at = refl; key = refl; key_text = utf8_ascii _ refl; is_itself = λ name. refl }

pub listed_unknown_features : IsListed lists.UnknownFeatures
listed_unknown_features = record { pair = λ m e. ap (λ l. pair_with l m) e; group = refl; at = refl; key = refl; key_text = utf8_ascii _ refl; is_itself = λ name. refl }

pub listed_unknown_session : IsListed lists.UnknownSessionBus
listed_unknown_session = record { pair = λ m e. ap (λ l. pair_with l m) e; group = refl; at = refl; key = refl; key_text = utf8_ascii _ refl; is_itself = λ name. refl }

pub listed_unknown_system : IsListed lists.UnknownSystemBus
listed_unknown_system = record { pair = λ m e. ap (λ l. pair_with l m) e; group = refl; at = refl; key = refl; key_text = utf8_ascii _ refl; is_itself = λ name. refl }

-- ---- an entry, written and read

-- nothing is mentioned by an empty entry
name_in-nil : (list : PermList) → name_in list [] ≡ []
unfolding normal
name_in-nil lists.Filesystems = refl
name_in-nil lists.Shared = refl
name_in-nil lists.Sockets = refl
name_in-nil lists.Devices = refl
name_in-nil lists.Features = refl
name_in-nil lists.Persistent = refl
name_in-nil lists.Environment = refl
name_in-nil lists.SessionBus = refl
name_in-nil lists.SystemBus = refl
name_in-nil lists.UnknownShared = refl
name_in-nil lists.UnknownSockets = refl
name_in-nil lists.UnknownDevices = refl
name_in-nil lists.UnknownFeatures = refl
name_in-nil lists.UnknownSessionBus = refl
name_in-nil lists.UnknownSystemBus = refl

pub mentions_in-nil : (list : PermList) → mentions_in list [] ≡ []
unfolding mentions_in
mentions_in-nil list = rw (name_in-nil list) refl

-- a text that is one closed entry
pub closed_reads : (list : PermList) (e : List ℕ) → IsClosed e → list_mentions list (e ++ 59 ∷ []) ≡ entry_mentions list e
unfolding list_mentions
closed_reads list e h =
    let f : List ℕ → List Mention = entry_mentions list in
    ap (flat_map f) (entries_cut false e [] h.whole h.ends) ∙ ap (λ ms. f e ++ (ms ++ [])) (mentions_in-nil list) ∙ append-nil (f e)

pub record IsEntry (list : PermList) (m : Mention) : Type 0 where
  pub list_is : m.permission.list ≡ list
  pub plain : IsPlain (entry_text m)
  pub closed : IsClosed (entry_text m)
  pub begins : begins_so is_blank (entry_text m) ≡ false
  pub reads : mentions_in list (entry_text m) ≡ m ∷ []

begins_closed : (e : List ℕ) → begins_so is_blank e ≡ false → begins_so is_blank (e ++ 59 ∷ []) ≡ false
begins_closed [] h = refl
begins_closed (b ∷ bs) h = h

pub closed_value : (e : List ℕ) → list_all is_value_byte e ≡ true → begins_so is_blank e ≡ false → is_value (e ++ 59 ∷ []) ≡ true
closed_value e bytes begins =
    let v = e ++ 59 ∷ [] in
    let all : list_all is_value_byte v ≡ true = list_all-append is_value_byte e (59 ∷ []) ∙ and_from (list_all is_value_byte e) true bytes refl in
    let front : not (begins_so is_blank v) ≡ true = ap not (begins_closed e begins) in
    let back : not (ends_so is_return v) ≡ true = ap not (ends_so-append is_return e 59 []) in
    and_from (list_all is_value_byte v && not (begins_so is_blank v)) (not (ends_so is_return v)) (and_from (list_all is_value_byte v) (not (begins_so is_blank v)) all front) back

pub context_reads : (list : PermList) (value : List ℕ) → IsListed list → pair_mentions sources.Override (codes "Context") (record { key = key_of list; value = value }) ≡ list_mentions list value
unfolding pair_mentions
context_reads list value l = ap (λ o. context_mentions o value) l.at

pub CanWrite-entry : (list : PermList) (m : Mention) → IsListed list → IsEntry list m → CanWrite m
CanWrite-entry list m l h =
    let pair = l.pair m h.list_is in
    let e = entry_text m in
    record {
      key = ap (λ p. is_key p.key) pair ∙ l.key;
      key_text = ap (λ p. is_utf8 p.key) pair ∙ l.key_text;
      value = ap (λ p. is_value p.value) pair ∙ closed_value e h.plain.bytes h.begins;
      value_text = ap (λ p. is_utf8 p.value) pair ∙ utf8_joined e 59 [] (lit< tt) h.plain.utf8 utf8_nil;
      reads =
          ap (λ g. pair_mentions sources.Override g (pair_of m)) (ap group_of h.list_is ∙ l.group) ∙ ap (pair_mentions sources.Override (codes "Context")) pair
          ∙ context_reads list (closed_entry m) l ∙ closed_reads list e h.closed ∙ ap (mentions_in list) (trimmed_front_same is_blank e h.begins) ∙ h.reads;
    }

-- ---- an entry that is read

some_bytes : (name : List ℕ) → is_no_name name ≡ false → is_empty name ≡ false
some_bytes name some = (or_parts (is_empty name) (ends_escaped name) some).0

named_closed : (name : List ℕ) → IsWhole false name → is_no_name name ≡ false → IsClosed name
named_closed name whole some = record { whole = whole; ends = (or_parts (is_empty name) (ends_escaped name) some).1 }

-- what is off
off_reads : (list : PermList) (name : List ℕ) → name_in list name ≡ name → list_with list name ≡ list → is_no_name name ≡ false → mentions_in list (33 ∷ name) ≡ mention_of list name values.Off ∷ []
unfolding mentions_in
off_reads list name again itself some = rw again (rw (some, itself) refl)

-- what is on
on_reads : (list : PermList) (e name : List ℕ) (value : Value) → is_off e ≡ false → name_in list e ≡ name → value_in list e ≡ value → list_with list name ≡ list → is_no_name name ≡ false → mentions_in list e ≡ mention_of list name value ∷ []
unfolding mentions_in
on_reads list e name value on is_name says itself some = rw on (rw (is_name, says) (rw (some, itself) refl))

-- ---- how each list reads its entries

-- what is written for an entry that is on
pub record IsOn (list : PermList) (x : List ℕ) : Type 0 where
  pub plain : IsPlain (entry_with (value_in list x) (name_in list x))
  pub begins : begins_so is_blank (entry_with (value_in list x) (name_in list x)) ≡ false
  pub reads : mentions_in (list_with list (name_in list x)) (entry_with (value_in list x) (name_in list x)) ≡ mention_of (list_with list (name_in list x)) (name_in list x) (value_in list x) ∷ []

-- an entry as it is cut from a list
pub record IsPiece (x : List ℕ) : Type 0 where
  pub plain : IsPlain x
  pub whole : IsWhole false x
  pub begins : begins_so is_blank x ≡ false

pub record IsRead (list : PermList) : Type 0 where
  pub listed : (name : List ℕ) → IsListed (list_with list name)
  pub itself : (name : List ℕ) → list_with (list_with list name) name ≡ list_with list name
  pub again : (t : List ℕ) → name_in (list_with list (name_in list t)) (name_in list t) ≡ name_in list t
  pub plain : (t : List ℕ) → IsPlain t → IsPlain (name_in list t)
  pub whole : (t : List ℕ) → IsWhole false t → IsWhole false (name_in list t)
  pub on : (x : List ℕ) → IsPiece x → is_off x ≡ false → is_no_name (name_in list x) ≡ false → IsOn list x

-- a list whose entries are names alone
pub record IsNames (list : PermList) : Type 0 where
  pub name : (x : List ℕ) → name_in list x ≡ x
  pub value : (x : List ℕ) → value_in list x ≡ values.On

names_cond : (b : Bool) (list other : PermList) → IsNames list → IsNames other → IsNames (cond b list other)
names_cond true list other h k = h
names_cond false list other h k = k

listed_cond : (b : Bool) (list other : PermList) → IsListed list → IsListed other → IsListed (cond b list other)
listed_cond true list other h k = h
listed_cond false list other h k = k

read_names : (list : PermList) → IsNames list → IsListed list → ((name : List ℕ) → IsListed (list_with list name)) → ((name : List ℕ) → IsNames (list_with list name)) → IsRead list
read_names list n l ls ns = record {
  listed = ls;
  itself = l.is_itself;
  again = λ t. (ns (name_in list t)).name (name_in list t);
  plain = λ t h. subst IsPlain (sym (n.name t)) h;
  whole = λ t h. subst (IsWhole false) (sym (n.name t)) h;
  on = λ x h on some.
      let list' = list_with list (name_in list x) in
      let e : entry_with (value_in list x) (name_in list x) ≡ x = ap (λ v. entry_with v (name_in list x)) (n.value x) ∙ n.name x in
      record {
        plain = subst IsPlain (sym e) h.plain;
        begins = ap (begins_so is_blank) e ∙ h.begins;
        reads = ap (mentions_in list') e ∙ on_reads list' x (name_in list x) (value_in list x) on ((ns (name_in list x)).name x ∙ sym (n.name x)) ((ns (name_in list x)).value x ∙ sym (n.value x)) (l.is_itself (name_in list x)) some;
      };
}

names_shared : IsNames lists.Shared
names_shared = record { name = λ x. refl; value = λ x. refl }

names_sockets : IsNames lists.Sockets
names_sockets = record { name = λ x. refl; value = λ x. refl }

names_devices : IsNames lists.Devices
names_devices = record { name = λ x. refl; value = λ x. refl }

names_features : IsNames lists.Features
names_features = record { name = λ x. refl; value = λ x. refl }

names_persistent : IsNames lists.Persistent
names_persistent = record { name = λ x. refl; value = λ x. refl }

names_unknown_shared : IsNames lists.UnknownShared
names_unknown_shared = record { name = λ x. refl; value = λ x. refl }

names_unknown_sockets : IsNames lists.UnknownSockets
names_unknown_sockets = record { name = λ x. refl; value = λ x. refl }

names_unknown_devices : IsNames lists.UnknownDevices
names_unknown_devices = record { name = λ x. refl; value = λ x. refl }

names_unknown_features : IsNames lists.UnknownFeatures
names_unknown_features = record { name = λ x. refl; value = λ x. refl }

names_unknown_session : IsNames lists.UnknownSessionBus
names_unknown_session = record { name = λ x. refl; value = λ x. refl }

names_unknown_system : IsNames lists.UnknownSystemBus
names_unknown_system = record { name = λ x. refl; value = λ x. refl }

read_shared : IsRead lists.Shared
read_shared = read_names lists.Shared names_shared listed_shared (λ n. listed_cond (is_among shared_names n) _ _ listed_shared listed_unknown_shared) (λ n. names_cond (is_among shared_names n) _ _ names_shared names_unknown_shared)

read_sockets : IsRead lists.Sockets
read_sockets = read_names lists.Sockets names_sockets listed_sockets (λ n. listed_cond (is_among socket_names n) _ _ listed_sockets listed_unknown_sockets) (λ n. names_cond (is_among socket_names n) _ _ names_sockets names_unknown_sockets)

read_devices : IsRead lists.Devices
read_devices = read_names lists.Devices names_devices listed_devices (λ n. listed_cond (is_among device_names n) _ _ listed_devices listed_unknown_devices) (λ n. names_cond (is_among device_names n) _ _ names_devices names_unknown_devices)

read_features : IsRead lists.Features
read_features = read_names lists.Features names_features listed_features (λ n. listed_cond (is_among feature_names n) _ _ listed_features listed_unknown_features) (λ n. names_cond (is_among feature_names n) _ _ names_features names_unknown_features)

read_persistent : IsRead lists.Persistent
read_persistent = read_names lists.Persistent names_persistent listed_persistent (λ n. listed_persistent) (λ n. names_persistent)

read_unknown_shared : IsRead lists.UnknownShared
read_unknown_shared = read_names lists.UnknownShared names_unknown_shared listed_unknown_shared (λ n. listed_unknown_shared) (λ n. names_unknown_shared)

read_unknown_sockets : IsRead lists.UnknownSockets
read_unknown_sockets = read_names lists.UnknownSockets names_unknown_sockets listed_unknown_sockets (λ n. listed_unknown_sockets) (λ n. names_unknown_sockets)

read_unknown_devices : IsRead lists.UnknownDevices
read_unknown_devices = read_names lists.UnknownDevices names_unknown_devices listed_unknown_devices (λ n. listed_unknown_devices) (λ n. names_unknown_devices)

read_unknown_features : IsRead lists.UnknownFeatures
read_unknown_features = read_names lists.UnknownFeatures names_unknown_features listed_unknown_features (λ n. listed_unknown_features) (λ n. names_unknown_features)

read_unknown_session : IsRead lists.UnknownSessionBus
read_unknown_session = read_names lists.UnknownSessionBus names_unknown_session listed_unknown_session (λ n. listed_unknown_session) (λ n. names_unknown_session)

read_unknown_system : IsRead lists.UnknownSystemBus
read_unknown_system = read_names lists.UnknownSystemBus names_unknown_system listed_unknown_system (λ n. listed_unknown_system) (λ n. names_unknown_system)

-- ---- filesystems

-- how a filesystem that is on may be used
data IsAccess : Value → Type 0 where
  may_read : IsAccess values.Ro
  may_write : IsAccess values.Rw
  may_create : IsAccess values.Create

access_cond : (b : Bool) (v : Value) (o : Option Value) → IsAccess v → IsAccess (unwrap_or o values.Rw) → IsAccess (unwrap_or (cond b (Some v) o) values.Rw)
access_cond true v o h k = h
access_cond false v o h k = k

access_word : (o : Option (List ℕ)) → IsAccess (unwrap_or (access_remainder o) values.Rw)
access_word None = may_write
access_word (Some word) =
    access_cond (bytes_eq word (codes "ro")) values.Ro _ may_read (access_cond (bytes_eq word (codes "rw")) values.Rw _ may_write (access_cond (bytes_eq word (codes "create")) values.Create None may_create may_write))

access_kind : (x : List ℕ) → IsAccess (access_at x)
unfolding access_at
access_kind x = access_word (last_word (slice_split is_colon x))

-- a text with an ending after it
pub record IsEnding (word : List ℕ) (v : Value) : Type 0 where
  pub plain : IsPlain word
  pub whole : AllByRecursion (λ b. is_colon b ≡ false) word
  pub says : access_of word ≡ Some v
  pub alone : normal (58 ∷ word) ≡ []

ends_ro : IsEnding (codes "ro") values.Ro
unfolding normal
ends_ro = record { plain = record { utf8 = utf8_ascii _ refl; bytes = refl }; whole = (refl, (refl, tt)); says = refl; alone = refl }

ends_create : IsEnding (codes "create") values.Create
unfolding normal
ends_create = record { plain = record { utf8 = utf8_ascii _ refl; bytes = refl }; whole = (refl, (refl, (refl, (refl, (refl, (refl, tt)))))); says = refl; alone = refl }

ended_access : (name word : List ℕ) (v : Value) → IsEnding word v → access_at (name ++ 58 ∷ word) ≡ v
unfolding access_at
ended_access name word v h =
    ap (λ w. unwrap_or (access_remainder w) values.Rw) (last_word-cut name word (name ++ 58 ∷ word) refl (All-from_recursion (λ b. is_colon b ≡ false) word h.whole)) ∙ ap (λ o. unwrap_or o values.Rw) h.says

none_left : (o : Option Value) → is_some o ≡ false → unwrap_or o values.Rw ≡ values.Rw
none_left None h = refl
none_left (Some v) h = absurd (false≢true (sym h))

bare_access : (name : List ℕ) → HasNoEnding name → access_at name ≡ values.Rw
unfolding access_at
bare_access name h = none_left _ h

ended_on : (x : List ℕ) (v : Value) (word : List ℕ) → IsEnding word v → ((n : List ℕ) → entry_with v n ≡ n ++ 58 ∷ word) → access_at x ≡ v → IsPiece x → is_off x ≡ false → is_no_name (place_in x) ≡ false → IsOn lists.Filesystems x
ended_on x v word k written says h on some =
    let name = place_in x in
    let here = some_bytes name some in
    let e : entry_with (access_at x) name ≡ name ++ 58 ∷ word = ap (λ w. entry_with w name) says ∙ written name in
    record {
      plain = subst IsPlain (sym e) (IsPlain-joined name 58 word (lit< tt) refl (IsPlain-place_in x h.plain) k.plain);
      begins = ap (begins_so is_blank) e ∙ first_of is_blank x here h.begins (58 ∷ word);
      reads =
          ap (mentions_in lists.Filesystems) e
          ∙ on_reads lists.Filesystems (name ++ 58 ∷ word) name v (first_of is_mark x here on (58 ∷ word)) (place_in-ended name word k.alone here ∙ place_in-twice x) (ended_access name word v k) refl some
          ∙ ap (λ w. mention_of lists.Filesystems name w ∷ []) (sym says);
    }

file_on : (v : Value) → IsAccess v → (x : List ℕ) → access_at x ≡ v → IsPiece x → is_off x ≡ false → is_no_name (place_in x) ≡ false → IsOn lists.Filesystems x
file_on _ may_write x says h on some =
    let name = place_in x in
    let here = some_bytes name some in
    let e : entry_with (access_at x) name ≡ name = ap (λ v. entry_with v name) says in
    let same : name ++ [] ≡ name = append-nil name in
    record {
      plain = subst IsPlain (sym e) (IsPlain-place_in x h.plain);
      begins = ap (begins_so is_blank) (e ∙ sym same) ∙ first_of is_blank x here h.begins [];
      reads =
          ap (mentions_in lists.Filesystems) e
          ∙ on_reads lists.Filesystems name name values.Rw (ap is_off (sym same) ∙ first_of is_mark x here on []) (place_in-twice x) (bare_access name (HasNoEnding-place_in x)) refl some
          ∙ ap (λ v. mention_of lists.Filesystems name v ∷ []) (sym says);
    }
file_on _ may_read x says h on some = ended_on x values.Ro (codes "ro") ends_ro (λ n. refl) says h on some
file_on _ may_create x says h on some = ended_on x values.Create (codes "create") ends_create (λ n. refl) says h on some

read_filesystems : IsRead lists.Filesystems
read_filesystems = record {
  listed = λ name. listed_filesystems;
  itself = λ name. refl;
  again = λ t. place_in-twice t;
  plain = λ t h. IsPlain-place_in t h;
  whole = λ t h. place_whole t h;
  on = λ x h on some. file_on (access_at x) (access_kind x) x refl h on some;
}

-- ---- an entry, a list, a pair

entry_written : (list : PermList) (x : List ℕ) (off : Bool) → is_off x ≡ off → (some : Bool) → is_no_name (name_in list (without_mark x)) ≡ some → IsRead list → IsPiece x → AllCanWrite (mentions_in list x)
unfolding mentions_in
entry_written list x off o true e r h = rw e tt
entry_written list x true o false e r h =
    let t = drop 1 x in
    let same : without_mark x ≡ t = rw o refl in
    let some : is_no_name (name_in list t) ≡ false = sym (ap (λ w. is_no_name (name_in list w)) same) ∙ e in
    let name = name_in list t in
    let list' = list_with list name in
    let m : Mention = mention_of list' name values.Off in
    let entry : IsEntry list' m = record {
      list_is = refl;
      plain = IsPlain-joined [] 33 name (lit< tt) refl IsPlain-nil (r.plain t (subst IsPlain same (IsPlain-without_mark x h.plain)));
      closed = closed_with values.Off name (named_closed name (r.whole t (subst (IsWhole false) same (mark_whole x h.whole))) some);
      begins = refl;
      reads = off_reads list' name (r.again t) (r.itself name) some;
    } in
    let one : AllCanWrite (m ∷ []) = (CanWrite-entry list' m (r.listed name) entry, tt) in
    rw (e, o) one
entry_written list x false o false e r h =
    let same : without_mark x ≡ x = rw o refl in
    let name = name_in list x in
    let list' = list_with list name in
    let m : Mention = mention_of list' name (value_in list x) in
    let some : is_no_name name ≡ false = sym (ap (λ t. is_no_name (name_in list t)) same) ∙ e in
    let on = r.on x h o some in
    let entry : IsEntry list' m = record { list_is = refl; plain = on.plain; closed = closed_with (value_in list x) name (named_closed name (r.whole x h.whole) some); begins = on.begins; reads = on.reads } in
    let one : AllCanWrite (m ∷ []) = (CanWrite-entry list' m (r.listed name) entry, tt) in
    rw (e, o) one

AllCanWrite-flat_map : {X : Type 0} (f : X → List Mention) (xs : List X) → AllByRecursion (λ x. AllCanWrite (f x)) xs → AllCanWrite (flat_map f xs)
AllCanWrite-flat_map f [] h = tt
AllCanWrite-flat_map f (x ∷ xs) h = all_append CanWrite (f x) (flat_map f xs) h.0 (AllCanWrite-flat_map f xs h.1)

pieces_written : (list : PermList) (pieces : List (List ℕ)) → IsRead list → AllByRecursion IsPlain pieces → AllByRecursion (IsWhole false) pieces → AllByRecursion (λ piece. AllCanWrite (entry_mentions list piece)) pieces
pieces_written list [] r h w = tt
pieces_written list (piece ∷ pieces) r h w =
    let x = trimmed_front is_blank piece in
    let cut : IsPiece x = record { plain = IsPlain-trimmed piece h.0; whole = trimmed_whole piece w.0; begins = begins_so-trimmed_front is_blank piece } in
    (entry_written list x (is_off x) refl (is_no_name (name_in list (without_mark x))) refl r cut, pieces_written list pieces r h.1 w.1)

list_written : (list : PermList) (value : List ℕ) → IsRead list → is_value value ≡ true → is_utf8 value ≡ true → AllCanWrite (list_mentions list value)
unfolding list_mentions
list_written list value r good utf8 =
    AllCanWrite-flat_map (entry_mentions list) (entries_of value) (pieces_written list (entries_of value) r (plain_pieces value utf8 (IsValueText-from value good).bytes) (entries_are_whole value))

abbrev ReadsSome : Option PermList → Type 0
ReadsSome None = Unit {0}
ReadsSome (Some list) = IsRead list

reads_cond : (b : Bool) (list : PermList) (o : Option PermList) → IsRead list → ReadsSome o → ReadsSome (cond b (Some list) o)
reads_cond true list o h k = h
reads_cond false list o h k = k

reads_key : (key : List ℕ) → ReadsSome (list_of_key key)
reads_key key =
    reads_cond (bytes_eq key (codes "shared")) _ _ read_shared (reads_cond (bytes_eq key (codes "sockets")) _ _ read_sockets (reads_cond (bytes_eq key (codes "devices")) _ _ read_devices
    (reads_cond (bytes_eq key (codes "features")) _ _ read_features (reads_cond (bytes_eq key (codes "filesystems")) _ _ read_filesystems (reads_cond (bytes_eq key (codes "persistent")) _ None read_persistent tt)))))

reads_unknown_key : (key : List ℕ) → ReadsSome (list_of_unknown_key key)
reads_unknown_key key =
    reads_cond (bytes_eq key (codes "unknown-shared")) _ _ read_unknown_shared (reads_cond (bytes_eq key (codes "unknown-sockets")) _ _ read_unknown_sockets (reads_cond (bytes_eq key (codes "unknown-devices")) _ _ read_unknown_devices
    (reads_cond (bytes_eq key (codes "unknown-features")) _ _ read_unknown_features (reads_cond (bytes_eq key (codes "unknown-session-bus")) _ _ read_unknown_session (reads_cond (bytes_eq key (codes "unknown-system-bus")) _ None read_unknown_system tt)))))

reads_or : (o : Option PermList) (key : List ℕ) → ReadsSome o → ReadsSome (or_unknown o key)
reads_or (Some list) key h = h
reads_or None key h = reads_unknown_key key

context_written : (o : Option PermList) (value : List ℕ) → ReadsSome o → is_value value ≡ true → is_utf8 value ≡ true → AllCanWrite (context_mentions o value)
context_written None value r good utf8 = tt
context_written (Some list) value r good utf8 = list_written list value r good utf8

-- ---- pairs whose keys are names

variable_written : (p : Pair) → IsGoodPair p → CanWrite (mention_of lists.Environment p.key (values.Text p.value))
unfolding pair_mentions
variable_written p good = record { key = good.key; key_text = good.key_text; value = good.value; value_text = good.value_text; reads = refl }

same_some : {X : Type 0} (x y : X) → Path (Option X) (Some x) (Some y) → x ≡ y
same_some x y e = cc

word-cond : (b : Bool) (text : List ℕ) (v level : Value) (o : Option Value) → (b ≡ true → word_of v ≡ text) → (o ≡ Some level → word_of level ≡ text) → cond b (Some v) o ≡ Some level → word_of level ≡ text
word-cond true text v level o h k e = ap word_of (sym (same_some v level e)) ∙ h refl
word-cond false text v level o h k e = k e

word_of-level : (text : List ℕ) (level : Value) → level_of text ≡ Some level → word_of level ≡ text
word_of-level text level =
    word-cond (bytes_eq text (codes "none")) text values.NoBus level _ (λ h. sym (bytes_eq-true text _ h))
    (word-cond (bytes_eq text (codes "see")) text values.See level _ (λ h. sym (bytes_eq-true text _ h))
    (word-cond (bytes_eq text (codes "talk")) text values.Talk level _ (λ h. sym (bytes_eq-true text _ h))
    (word-cond (bytes_eq text (codes "own")) text values.Own level None (λ h. sym (bytes_eq-true text _ h)) (λ e. absurd (no_level level e)))))
  where
    no_level : (v : Value) → None ≡ Some v → ⊥
    no_level v e = cc

level_reads : (list unknown : PermList) (key value : List ℕ) (level : Value) → level_of value ≡ Some level → is_pattern key ≡ true → bus_mentions list unknown (record { key = key; value = value }) ≡ mention_of list key level ∷ []
level_reads list unknown key value level e pattern = ap (bus_with list unknown (record { key = key; value = value })) e ∙ rw pattern refl

level_again : (p : Pair) (level : Value) → level_of p.value ≡ Some level → level_of (word_of level) ≡ Some level
level_again p level e = ap level_of (word_of-level p.value level e) ∙ e

session_written : (p : Pair) (level : Value) → IsGoodPair p → level_of p.value ≡ Some level → is_pattern p.key ≡ true → CanWrite (mention_of lists.SessionBus p.key level)
unfolding pair_mentions
session_written p level good e pattern =
    let w = word_of-level p.value level e in
    record {
      key = good.key;
      key_text = good.key_text;
      value = ap is_value w ∙ good.value;
      value_text = ap is_utf8 w ∙ good.value_text;
      reads = level_reads lists.SessionBus lists.UnknownSessionBus p.key (word_of level) level (level_again p level e) pattern;
    }

system_written : (p : Pair) (level : Value) → IsGoodPair p → level_of p.value ≡ Some level → is_pattern p.key ≡ true → CanWrite (mention_of lists.SystemBus p.key level)
unfolding pair_mentions
system_written p level good e pattern =
    let w = word_of-level p.value level e in
    record {
      key = good.key;
      key_text = good.key_text;
      value = ap is_value w ∙ good.value;
      value_text = ap is_utf8 w ∙ good.value_text;
      reads = level_reads lists.SystemBus lists.UnknownSystemBus p.key (word_of level) level (level_again p level e) pattern;
    }

-- a pair that isn't known
lacks_byte : (c : ℕ) (xs : List ℕ) → list_any (λ b. eqb b c) xs ≡ false → AllByRecursion (λ b. eqb b c ≡ false) xs
lacks_byte c [] h = tt
lacks_byte c (b ∷ bs) h = let a = or_parts (eqb b c) (list_any (λ x. eqb x c) bs) h in (a.0, lacks_byte c bs a.1)

value_all : (xs : List ℕ) → AllByRecursion (λ b. eqb b 10 ≡ false) xs → AllByRecursion (λ b. eqb b 0 ≡ false) xs → list_all is_value_byte xs ≡ true
value_all [] h k = refl
value_all (b ∷ bs) h k = and_from (is_value_byte b) (list_all is_value_byte bs) (rw (h.0, k.0) refl) (value_all bs h.1 k.1)

value_lacks : (c : ℕ) → is_value_byte c ≡ false → (xs : List ℕ) → list_all is_value_byte xs ≡ true → AllByRecursion (λ b. eqb b c ≡ false) xs
value_lacks c e xs h = lacks_byte c xs (none_is is_value_byte c e xs h)

key_lacks : (c : ℕ) → is_key_byte c ≡ false → (xs : List ℕ) → list_all is_key_byte xs ≡ true → AllByRecursion (λ b. eqb b c ≡ false) xs
key_lacks c e xs h = lacks_byte c xs (none_is is_key_byte c e xs h)

lacks_joined : (c : ℕ) (xs : List ℕ) (d : ℕ) (ys : List ℕ) → eqb d c ≡ false → AllByRecursion (λ b. eqb b c ≡ false) xs → AllByRecursion (λ b. eqb b c ≡ false) ys → AllByRecursion (λ b. eqb b c ≡ false) (xs ++ d ∷ ys)
lacks_joined c xs d ys e h k = all_append (λ b. eqb b c ≡ false) xs (d ∷ ys) h (e, k)

name_plain : (p : Pair) → IsGoodPair p → IsPlain (pair_name p)
name_plain p good =
    let key = IsKeyText-from p.key good.key in
    let value = IsValueText-from p.value good.value in
    record {
      utf8 = utf8_joined p.key 61 p.value (lit< tt) good.key_text good.value_text;
      bytes =
          value_all (pair_name p)
          (lacks_joined 10 p.key 61 p.value refl (key_lacks 10 refl p.key key.bytes) (value_lacks 10 refl p.value value.bytes))
          (lacks_joined 0 p.key 61 p.value refl (key_lacks 0 refl p.key key.bytes) (value_lacks 0 refl p.value value.bytes));
    }

name_begins : (p : Pair) → IsGoodPair p → begins_so is_blank (pair_name p) ≡ false
name_begins p good =
    let key = IsKeyText-from p.key good.key in
    ap (λ k. begins_so is_blank (k ++ 61 ∷ p.value)) key.whole ∙ (or_parts (eqb key.first 91 || eqb key.first 35) (is_blank key.first) key.begins).1

name_some : (p : Pair) → IsGoodPair p → ends_escaped (pair_name p) ≡ false → is_no_name (pair_name p) ≡ false
name_some p good ends =
    let key = IsKeyText-from p.key good.key in
    let bytes : is_empty (pair_name p) ≡ false = ap (λ k. is_empty (k ++ 61 ∷ p.value)) key.whole ∙ is_empty-cons key.first (key.rest ++ 61 ∷ p.value) in
    rw (bytes, ends) refl

odd_written : (unknown : PermList) (p : Pair) (stands : Bool) → can_stand (pair_name p) ≡ stands → IsListed unknown → IsNames unknown → ((name : List ℕ) → list_with unknown name ≡ unknown) → IsGoodPair p → AllCanWrite (odd_pair unknown (pair_name p))
odd_written unknown p false e l n itself good = rw e tt
odd_written unknown p true e l n itself good =
    let name = pair_name p in
    let a = and_parts (not (list_any is_semicolon name)) (not (is_off name) && not (ends_escaped name)) e in
    let b = and_parts (not (is_off name)) (not (ends_escaped name)) a.1 in
    let ends = not-true (ends_escaped name) b.1 in
    let m : Mention = mention_of unknown name values.On in
    let entry : IsEntry unknown m = record {
      list_is = refl;
      plain = name_plain p good;
      closed = record { whole = none_whole false name (not-true _ a.0); ends = ends };
      begins = name_begins p good;
      reads = on_reads unknown name name values.On (not-true _ b.0) (n.name name) (n.value name) (itself name) (name_some p good ends);
    } in
    let one : AllCanWrite (m ∷ []) = (CanWrite-entry unknown m l entry, tt) in
    rw e one

bus_known : (list unknown : PermList) (p : Pair) (level : Value) (known : Bool) → is_pattern p.key ≡ known → (is_pattern p.key ≡ true → CanWrite (mention_of list p.key level)) → AllCanWrite (odd_pair unknown (pair_name p)) → AllCanWrite (bus_with list unknown p (Some level))
bus_known list unknown p level true e h k = rw e (h e, tt)
bus_known list unknown p level false e h k = rw e k

bus_written : (list unknown : PermList) (p : Pair) (o : Option Value) → level_of p.value ≡ o → ((level : Value) → level_of p.value ≡ Some level → is_pattern p.key ≡ true → CanWrite (mention_of list p.key level)) → AllCanWrite (odd_pair unknown (pair_name p)) → AllCanWrite (bus_with list unknown p o)
bus_written list unknown p None e h k = k
bus_written list unknown p (Some level) e h k = bus_known list unknown p level (is_pattern p.key) refl (h level e) k

session_all : (p : Pair) → IsGoodPair p → AllCanWrite (bus_mentions lists.SessionBus lists.UnknownSessionBus p)
session_all p good =
    bus_written lists.SessionBus lists.UnknownSessionBus p (level_of p.value) refl (λ level e pattern. session_written p level good e pattern)
    (odd_written lists.UnknownSessionBus p (can_stand (pair_name p)) refl listed_unknown_session names_unknown_session (λ _. refl) good)

system_all : (p : Pair) → IsGoodPair p → AllCanWrite (bus_mentions lists.SystemBus lists.UnknownSystemBus p)
system_all p good =
    bus_written lists.SystemBus lists.UnknownSystemBus p (level_of p.value) refl (λ level e pattern. system_written p level good e pattern)
    (odd_written lists.UnknownSystemBus p (can_stand (pair_name p)) refl listed_unknown_system names_unknown_system (λ _. refl) good)

-- ---- a file

all_cond : (b : Bool) (xs ys : List Mention) → AllCanWrite xs → AllCanWrite ys → AllCanWrite (cond b xs ys)
all_cond true xs ys h k = h
all_cond false xs ys h k = k

reads_at : (source : Source) (key : List ℕ) → ReadsSome (list_at source key)
reads_at sources.Metadata key = reads_key key
reads_at sources.Override key = reads_or (list_of_key key) key (reads_key key)

pair_written : (source : Source) (group : List ℕ) (p : Pair) → IsGoodPair p → AllCanWrite (pair_mentions source group p)
unfolding pair_mentions
pair_written source group p good =
    all_cond (bytes_eq group (codes "Context")) _ _ (context_written (list_at source p.key) p.value (reads_at source p.key) good.value good.value_text)
    (all_cond (bytes_eq group (codes "Environment")) _ _ (variable_written p good, tt)
    (all_cond (bytes_eq group (codes "Session Bus Policy")) _ _ (session_all p good)
    (all_cond (bytes_eq group (codes "System Bus Policy")) _ [] (system_all p good) tt)))

pairs_written : (source : Source) (group : List ℕ) (pairs : List Pair) → list_all is_good_pair pairs ≡ true → AllByRecursion (λ p. AllCanWrite (pair_mentions source group p)) pairs
pairs_written source group [] h = tt
pairs_written source group (p ∷ pairs) h =
    let a = and_parts (is_good_pair p) (list_all is_good_pair pairs) h in (pair_written source group p (good_pair_parts p a.0), pairs_written source group pairs a.1)

group_written : (source : Source) (g : Group) → is_good_group g ≡ true → AllCanWrite (group_mentions source g)
unfolding group_mentions
group_written source g h = AllCanWrite-flat_map (pair_mentions source g.name) g.pairs (pairs_written source g.name g.pairs (good_group_parts g h).pairs)

groups_written : (source : Source) (file : List Group) → list_all is_good_group file ≡ true → AllByRecursion (λ g. AllCanWrite (group_mentions source g)) file
groups_written source [] h = tt
groups_written source (g ∷ file) h =
    let a = and_parts (is_good_group g) (list_all is_good_group file) h in (group_written source g a.0, groups_written source file a.1)

pub mentions_written : (source : Source) (file : List Group) → is_good file ≡ true → AllCanWrite (file_mentions source file)
unfolding file_mentions
mentions_written source file h = AllCanWrite-flat_map (group_mentions source) file (groups_written source file (good_parts file h).groups)

pub file_written : (file : List Group) → is_good file ≡ true → AllCanWrite (file_mentions sources.Override file)
file_written file h = mentions_written sources.Override file h
