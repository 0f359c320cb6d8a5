-- Refs, digests and extensions can be values of a key file.
use Rattle.std.proofs.Common.{◌≡◌, ◌<◌, ℕ, ◌/◌, ◌%◌, Bool, true, false, not, ◌&&◌, ◌==◌, leb, List, [], ◌∷◌, ◌++◌, length, codes, Option, Some, None, inl, inr, refl, ap, ◌∙◌, arith}
use Rattle.std.specs.List.{list_all, find, flat_map, AllByRecursion}
use Rattle.std.specs.Option.{option_map_or}
use Rattle.std.specs.Str.{is_utf8}
use Rattle.std.proofs.lemmas.Bool.{and_parts, and_from, cases_Bool, ltb-true, agree_below_at}
use Rattle.std.proofs.lemmas.Bool.Decides.{nat_tests}
use Rattle.std.proofs.lemmas.List.Folds.{list_all-append}
use Rattle.std.proofs.lemmas.Str.{IsUtf8-from_ascii, is_utf8-from_IsUtf8}
use Rattle.std.proofs.lemmas.Str.Ascii.{IsAscii-from_all}
use Rattle.fp_keyfile.specs.Grammar.{is_blank, is_return, begins_so, ends_so, is_value_byte, is_value}
use Rattle.fp_small.specs.declared.state.RefRow.{RefRow}
use Rattle.fp_small.specs.declared.state.State.{State}
use Rattle.fl_extension.specs.Found.{found_ref}
use Rattle.fl_extension.specs.declared.point.Point.{Point}
use Rattle.fl_launch.specs.Groups.{HasDigest, HasName}
use Rattle.fl_launch.specs.Extensions.{commit_of, extension_with, extension_of, extensions_of}
use Rattle.fp_name.specs.Bytes.{is_dotted}
use Rattle.fp_name.specs.Grammar.{is_id, is_arch, is_branch}
use Rattle.fp_name.specs.Hex.{is_byte, is_digest, digit, hex}
use Rattle.fp_name.specs.Kinds.{kind_word}
use Rattle.fp_name.specs.Refs.{Ref, is_ref, ref_text}
use Rattle.fp_name.specs.declared.kind.RefKind.{RefKind}
use Rattle.fp_name.specs.declared.kind.RefKind.TheVariants.{App, Runtime}
use Rattle.fp_name.proofs.Bytes.{list_all-wider, All-from_list_all, dotted_id, dotted_arch, dotted_branch}

-- ---- texts without blanks

-- ASCII behind the space
unfoldable pub is_dark : ℕ → Bool
is_dark c = leb 33 c && leb c 126

dark_ascii : (c : ℕ) → is_dark c ≡ true → c < 128
unfolding is_dark
dark_ascii c h = grind (arith, nat_tests)

dark_value : (c : ℕ) → is_dark c ≡ true → is_value_byte c ≡ true
unfolding is_dark
dark_value c h = grind (arith, nat_tests)

dark_return : (c : ℕ) → is_dark c ≡ true → is_return c ≡ false
unfolding is_dark
dark_return c h = grind (arith, nat_tests)

dark_blank : (c : ℕ) → is_dark c ≡ true → is_blank c ≡ false
unfolding is_dark
dark_blank c h = grind (arith, nat_tests)

dotted_dark : (c : ℕ) → is_dotted c ≡ true → is_dark c ≡ true
unfolding is_dark
dotted_dark c h = grind (arith, nat_tests)

ends_dark : (text : List ℕ) → list_all is_dark text ≡ true → ends_so is_return text ≡ false
ends_dark [] h = refl
ends_dark (c ∷ []) h = dark_return c (and_parts (is_dark c) true h).0
ends_dark (c ∷ d ∷ cs) h = ends_dark (d ∷ cs) (and_parts (is_dark c) (list_all is_dark (d ∷ cs)) h).1

begins_dark : (text : List ℕ) → list_all is_dark text ≡ true → begins_so is_blank text ≡ false
begins_dark [] h = refl
begins_dark (c ∷ cs) h = dark_blank c (and_parts (is_dark c) (list_all is_dark cs) h).0

pub value_dark : (text : List ℕ) → list_all is_dark text ≡ true → is_value text ≡ true
value_dark text h =
    let bytes : list_all is_value_byte text ≡ true = list_all-wider is_dark is_value_byte dark_value text h in
    and_from (list_all is_value_byte text && not (begins_so is_blank text)) (not (ends_so is_return text))
    (and_from (list_all is_value_byte text) (not (begins_so is_blank text)) bytes (ap not (begins_dark text h))) (ap not (ends_dark text h))

pub utf8_dark : (text : List ℕ) → list_all is_dark text ≡ true → is_utf8 text ≡ true
utf8_dark text h = is_utf8-from_IsUtf8 text (IsUtf8-from_ascii text (IsAscii-from_all text (All-from_list_all is_dark (λ b. b < 128) dark_ascii text h)))

-- ---- refs

kind_bytes : (kind : RefKind) → list_all is_dark (kind_word kind) ≡ true
unfolding is_dark
kind_bytes App = refl
kind_bytes Runtime = refl

joined_bytes : (r : Ref) → list_all is_dark r.id ≡ true → list_all is_dark r.arch ≡ true → list_all is_dark r.branch ≡ true → list_all is_dark (ref_text r) ≡ true
unfolding is_dark
joined_bytes r id arch branch = simp (list_all-append, kind_bytes r.kind, id, arch, branch)

dotted_bytes : (text : List ℕ) → list_all is_dotted text ≡ true → list_all is_dark text ≡ true
dotted_bytes text h = list_all-wider is_dotted is_dark dotted_dark text h

pub id_dark : (id : List ℕ) → is_id id ≡ true → list_all is_dark id ≡ true
id_dark id h = dotted_bytes id (dotted_id id h)

pub record RefIsDark (r : Ref) : Type 0 where
  pub id : list_all is_dark r.id ≡ true
  pub arch : list_all is_dark r.arch ≡ true
  pub branch : list_all is_dark r.branch ≡ true
  pub text : list_all is_dark (ref_text r) ≡ true

pub ref_dark : (r : Ref) → is_ref r ≡ true → RefIsDark r
ref_dark r good =
    let a = and_parts (is_id r.id) (is_arch r.arch && is_branch r.branch) good in
    let b = and_parts (is_arch r.arch) (is_branch r.branch) a.1 in
    let id = id_dark r.id a.0 in
    let arch = dotted_bytes r.arch (dotted_arch r.arch b.0) in
    let branch = dotted_bytes r.branch (dotted_branch r.branch b.1) in
    record { id = id; arch = arch; branch = branch; text = joined_bytes r id arch branch }

-- ---- digests

abbrev is_dark_digit : ℕ → Bool
is_dark_digit n = is_dark (digit n)

digit_dark : (n : ℕ) → n < 16 → is_dark (digit n) ≡ true
unfolding is_dark
digit_dark n small = agree_below_at is_dark_digit (λ _. true) 16 n refl small

hex_bytes : (bytes : List ℕ) → list_all is_byte bytes ≡ true → list_all is_dark (hex bytes) ≡ true
unfolding hex
hex_bytes [] h = refl
hex_bytes (b ∷ bs) h =
    let both = and_parts (is_byte b) (list_all is_byte bs) h in
    let small : b < 256 = ltb-true b 256 both.0 in
    and_from (is_dark (digit (b / 16))) _ (digit_dark (b / 16) (omega arith)) (and_from (is_dark (digit (b % 16))) (list_all is_dark (hex bs)) (digit_dark (b % 16) (omega arith)) (hex_bytes bs both.1))

pub hex_dark : (bytes : List ℕ) → is_digest bytes ≡ true → list_all is_dark (hex bytes) ≡ true
hex_dark bytes h = hex_bytes bytes (and_parts (length bytes == 32) (list_all is_byte bytes) h).1

-- ---- what a launch says of commits

found_dark : (p : RefRow → Bool) (rows : List RefRow) → AllByRecursion HasDigest rows → list_all is_dark (option_map_or (λ row. hex row.commit) (find p rows) []) ≡ true
found_dark p [] h = refl
found_dark p (row ∷ rows) h = elim (cases_Bool (p row)) [
  | inl e ↦ rw e (hex_dark row.commit h.0)
  | inr e ↦ rw e (found_dark p rows h.1)
]

pub commit_dark : (state : State) (r : Ref) → AllByRecursion HasDigest state.refs → list_all is_dark (commit_of state r) ≡ true
commit_dark state r h = found_dark _ state.refs h

with_dark : (state : State) (name : List ℕ) (o : Option Ref) → AllByRecursion HasDigest state.refs → list_all is_dark name ≡ true → list_all is_dark (option_map_or (extension_with state name) o []) ≡ true
unfolding is_dark
with_dark state name None h n = refl
with_dark state name (Some r) h n =
    list_all-append is_dark name (61 ∷ (commit_of state r ++ 59 ∷ []))
    ∙ and_from (list_all is_dark name) (list_all is_dark (61 ∷ (commit_of state r ++ 59 ∷ []))) n (end_dark (commit_of state r) (commit_dark state r h))
  where
    end_dark : (text : List ℕ) → list_all is_dark text ≡ true → list_all is_dark (61 ∷ (text ++ 59 ∷ [])) ≡ true
    end_dark text d = list_all-append is_dark text (59 ∷ []) ∙ and_from (list_all is_dark text) true d refl

pub extensions_dark : (state : State) (points : List Point) → AllByRecursion HasDigest state.refs → AllByRecursion HasName points → list_all is_dark (extensions_of state points) ≡ true
unfolding extensions_of
extensions_dark state [] h n = refl
extensions_dark state (p ∷ points) h n =
    list_all-append is_dark (extension_of state p) (flat_map (extension_of state) points)
    ∙ and_from (list_all is_dark (extension_of state p)) (list_all is_dark (flat_map (extension_of state) points)) (with_dark state p.name (found_ref state p) h (id_dark p.name n.0)) (extensions_dark state points h n.1)
