-- A desktop file as it is exported can be written.
use Rattle.std.proofs.Common.{◌≡◌, ℕ, ◌<◌, Bool, true, false, not, ◌&&◌, leb, List, [], ◌∷◌, ◌==◌, length, codes, refl, ◌∙◌, ap, arith}
use Rattle.std.specs.List.{flat_map, list_all, list_any}
use Rattle.std.specs.Str.{is_utf8, bytes_eq}
use Rattle.std.proofs.lemmas.Bool.{and_parts, and_from, or_parts}
use Rattle.std.proofs.lemmas.Bool.Decides.{nat_tests}
use Rattle.std.proofs.lemmas.List.Folds.{list_all-append}
use Rattle.std.proofs.lemmas.Str.{IsUtf8-from_ascii, is_utf8-from_IsUtf8}
use Rattle.std.proofs.lemmas.Str.Ascii.{IsAscii-from_all}
use Rattle.fp_name.specs.Bytes.{is_dotted}
use Rattle.fp_name.specs.Grammar.{is_id, is_arch, is_branch}
use Rattle.fp_name.specs.Kinds.{kind_word}
use Rattle.fp_name.specs.Refs.{Ref, is_ref, ref_text}
use Rattle.fp_name.specs.declared.kind.RefKind.{RefKind}
use Rattle.fp_name.specs.declared.kind.RefKind.TheVariants.{App, Runtime}
use Rattle.fp_name.proofs.Bytes.{list_all-wider, All-from_list_all, dotted_id, dotted_arch, dotted_branch}
use Rattle.fp_keyfile.specs.declared.group.Pair.{Pair}
use Rattle.fp_keyfile.specs.declared.group.Group.{Group}
use Rattle.fp_keyfile.specs.Grammar.{is_return, ends_so, is_value_byte, is_value}
use Rattle.fp_keyfile.specs.KeyFile.{names_of, keys_of, are_distinct, is_good_pair, is_good_group, is_good}
use Rattle.fp_keyfile.proofs.Good.{good_pair_parts, good_pair_from, good_group_parts, good_group_from, good_parts, good_from}
use Rattle.fp_small.proofs.ConfigTexts.{ends_by}
use Rattle.fl_export.specs.Keys.{is_left_out}
use Rattle.fl_export.specs.Rewritten.{first_word, is_command_byte, is_command, command_option, launch_line, launching, rewritten_pair, rewritten_group, rewritten_file}

-- ---- the bytes of a command line

-- ASCII from the space on
is_plain : ℕ → Bool
is_plain c = leb 32 c && leb c 126

plain_ascii : (c : ℕ) → is_plain c ≡ true → c < 128
unfolding is_plain
plain_ascii c h = grind (arith, nat_tests)

plain_value : (c : ℕ) → is_plain c ≡ true → is_value_byte c ≡ true
unfolding is_plain
plain_value c h = grind (arith, nat_tests)

plain_return : (c : ℕ) → is_plain c ≡ true → is_return c ≡ false
unfolding is_plain
plain_return c h = grind (arith, nat_tests)

dotted_plain : (c : ℕ) → is_dotted c ≡ true → is_plain c ≡ true
unfolding is_plain
dotted_plain c h = grind (arith, nat_tests)

command_plain : (c : ℕ) → is_command_byte c ≡ true → is_plain c ≡ true
unfolding is_plain
command_plain c h = grind (arith, nat_tests)

kind_bytes : (kind : RefKind) → list_all is_plain (kind_word kind) ≡ true
unfolding is_plain
kind_bytes App = refl
kind_bytes Runtime = refl

joined_bytes : (r : Ref) → list_all is_plain r.id ≡ true → list_all is_plain r.arch ≡ true → list_all is_plain r.branch ≡ true → list_all is_plain (ref_text r) ≡ true
unfolding is_plain
joined_bytes r id arch branch = simp (list_all-append, kind_bytes r.kind, id, arch, branch)

dotted_bytes : (text : List ℕ) → list_all is_dotted text ≡ true → list_all is_plain text ≡ true
dotted_bytes text h = list_all-wider is_dotted is_plain dotted_plain text h

ref_bytes : (r : Ref) → is_ref r ≡ true → list_all is_plain (ref_text r) ≡ true
ref_bytes r good =
    let a = and_parts (is_id r.id) (is_arch r.arch && is_branch r.branch) good in
    let b = and_parts (is_arch r.arch) (is_branch r.branch) a.1 in
    joined_bytes r (dotted_bytes r.id (dotted_id r.id a.0)) (dotted_bytes r.arch (dotted_arch r.arch b.0)) (dotted_bytes r.branch (dotted_branch r.branch b.1))

word_bytes : (word : List ℕ) → is_command word ≡ true → list_all is_plain word ≡ true
word_bytes word h = list_all-wider is_command_byte is_plain command_plain word (and_parts (not (length word == 0)) (list_all is_command_byte word) h).1

option_by : (word : List ℕ) (b : Bool) → is_command word ≡ b → list_all is_plain (command_option word) ≡ true
unfolding is_plain
option_by word true is = rw is (word_bytes word is)
option_by word false is = rw is refl

line_bytes : (r : Ref) (value : List ℕ) → is_ref r ≡ true → list_all is_plain (launch_line r value) ≡ true
unfolding is_plain
line_bytes r value good =
    list_all-append is_plain (ref_text r) (command_option (first_word value))
    ∙ and_from (list_all is_plain (ref_text r)) (list_all is_plain (command_option (first_word value))) (ref_bytes r good) (option_by (first_word value) (is_command (first_word value)) refl)

line_value : (r : Ref) (value : List ℕ) → is_ref r ≡ true → is_value (launch_line r value) ≡ true
line_value r value good =
    let line = launch_line r value in
    let bytes = line_bytes r value good in
    and_from (list_all is_value_byte line && true) (not (ends_so is_return line))
    (and_from (list_all is_value_byte line) true (list_all-wider is_plain is_value_byte plain_value line bytes) refl)
    (ap not (ends_by is_plain is_return line plain_return bytes))

line_text : (r : Ref) (value : List ℕ) → is_ref r ≡ true → is_utf8 (launch_line r value) ≡ true
line_text r value good =
    let line = launch_line r value in
    is_utf8-from_IsUtf8 line (IsUtf8-from_ascii line (IsAscii-from_all line (All-from_list_all is_plain (λ b. b < 128) plain_ascii line (line_bytes r value good))))

-- ---- pairs, groups and files

module _ (name : Ref) (good : is_ref name ≡ true) where
  launching_by : (p : Pair) (b : Bool) → bytes_eq p.key (codes "Exec") ≡ b → is_good_pair p ≡ true → is_good_pair (launching name p) ≡ true
  launching_by p true is h =
      let a = good_pair_parts p h in
      rw is (good_pair_from (record p { value = launch_line name p.value }) (record { key = a.key; value = line_value name p.value good; key_text = a.key_text; value_text = line_text name p.value good }))
  launching_by p false is h = rw is h

  launching_good : (p : Pair) → is_good_pair p ≡ true → is_good_pair (launching name p) ≡ true
  launching_good p h = launching_by p (bytes_eq p.key (codes "Exec")) refl h

  -- the keys are some of those of before, in their order
  same_key : (p : Pair) (b : Bool) → bytes_eq p.key (codes "Exec") ≡ b → (launching name p).key ≡ p.key
  same_key p true is = rw is refl
  same_key p false is = rw is refl

  pairs_by : (p : Pair) (pairs : List Pair) (b : Bool) → is_left_out p.key ≡ b → is_good_pair p ≡ true → list_all is_good_pair (flat_map (rewritten_pair name) pairs) ≡ true → list_all is_good_pair (flat_map (rewritten_pair name) (p ∷ pairs)) ≡ true
  pairs_by p pairs true is one rest = rw is rest
  pairs_by p pairs false is one rest = rw is (and_from (is_good_pair (launching name p)) (list_all is_good_pair (flat_map (rewritten_pair name) pairs)) (launching_good p one) rest)

  pairs_good : (pairs : List Pair) → list_all is_good_pair pairs ≡ true → list_all is_good_pair (flat_map (rewritten_pair name) pairs) ≡ true
  pairs_good [] h = refl
  pairs_good (p ∷ pairs) h =
      let a = and_parts (is_good_pair p) (list_all is_good_pair pairs) h in
      pairs_by p pairs (is_left_out p.key) refl a.0 (pairs_good pairs a.1)

  -- a key that isn't among the old ones isn't among the new ones
  away_by : (x : List ℕ) (p : Pair) (pairs : List Pair) (b : Bool) → is_left_out p.key ≡ b → bytes_eq x p.key ≡ false → list_any (bytes_eq x) (keys_of (flat_map (rewritten_pair name) pairs)) ≡ false
      → list_any (bytes_eq x) (keys_of (flat_map (rewritten_pair name) (p ∷ pairs))) ≡ false
  away_by x p pairs true is other rest = rw is rest
  away_by x p pairs false is other rest = rw (is, same_key p (bytes_eq p.key (codes "Exec")) refl, other, rest) refl

  away : (x : List ℕ) (pairs : List Pair) → list_any (bytes_eq x) (keys_of pairs) ≡ false → list_any (bytes_eq x) (keys_of (flat_map (rewritten_pair name) pairs)) ≡ false
  away x [] h = refl
  away x (p ∷ pairs) h =
      let a = or_parts (bytes_eq x p.key) (list_any (bytes_eq x) (keys_of pairs)) h in
      away_by x p pairs (is_left_out p.key) refl a.0 (away x pairs a.1)

  keys_by : (p : Pair) (pairs : List Pair) (b : Bool) → is_left_out p.key ≡ b → list_any (bytes_eq p.key) (keys_of pairs) ≡ false → are_distinct (keys_of (flat_map (rewritten_pair name) pairs)) ≡ true
      → are_distinct (keys_of (flat_map (rewritten_pair name) (p ∷ pairs))) ≡ true
  keys_by p pairs true is none rest = rw is rest
  keys_by p pairs false is none rest = rw (is, same_key p (bytes_eq p.key (codes "Exec")) refl, away p.key pairs none, rest) refl

  not_false : (b : Bool) → not b ≡ true → b ≡ false
  not_false true h = absurd (cc h)
  not_false false h = refl

  keys_good : (pairs : List Pair) → are_distinct (keys_of pairs) ≡ true → are_distinct (keys_of (flat_map (rewritten_pair name) pairs)) ≡ true
  keys_good [] h = refl
  keys_good (p ∷ pairs) h =
      let a = and_parts (not (list_any (bytes_eq p.key) (keys_of pairs))) (are_distinct (keys_of pairs)) h in
      keys_by p pairs (is_left_out p.key) refl (not_false (list_any (bytes_eq p.key) (keys_of pairs)) a.0) (keys_good pairs a.1)

  group_good : (g : Group) → is_good_group g ≡ true → is_good_group (rewritten_group name g) ≡ true
  group_good g h =
      let a = good_group_parts g h in
      good_group_from (rewritten_group name g) (record { name = a.name; name_text = a.name_text; pairs = pairs_good g.pairs a.pairs; keys = keys_good g.pairs a.keys })

  groups_good : (file : List Group) → list_all is_good_group file ≡ true → list_all is_good_group (rewritten_file name file) ≡ true
  groups_good [] h = refl
  groups_good (g ∷ file) h =
      let a = and_parts (is_good_group g) (list_all is_good_group file) h in
      and_from (is_good_group (rewritten_group name g)) (list_all is_good_group (rewritten_file name file)) (group_good g a.0) (groups_good file a.1)

  names_same : (file : List Group) → names_of (rewritten_file name file) ≡ names_of file
  names_same [] = refl
  names_same (g ∷ file) = ap (λ l. g.name ∷ l) (names_same file)

  pub good_rewritten : (file : List Group) → is_good file ≡ true → is_good (rewritten_file name file) ≡ true
  good_rewritten file h =
      let a = good_parts file h in
      good_from (rewritten_file name file) (record { groups = groups_good file a.groups; names = ap are_distinct (names_same file) ∙ a.names })
