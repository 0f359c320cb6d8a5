-- Names are the names of files.
use Rattle.std.proofs.Common.{◌≡◌, ◌≤◌, ◌<◌, ◌/◌, ◌%◌, ℕ, Bool, true, false, ◌&&◌, cond, eqb, leb, List, [], ◌∷◌, length, codes, refl, ap, ◌∙◌, arith}
use Rattle.std.specs.List.{list_all, slice_split, onto_first}
use Rattle.std.specs.Str.{bytes_eq}
use Rattle.std.proofs.lemmas.Bool.{and_parts, and_from, le-leb, leb-true, ltb-true, eqb-true, false≢true, both_ways, false_from_ne_true, not_from_false, or_from, agree_below_at}
use Rattle.std.proofs.lemmas.Bool.Decides.{nat_tests}
use Rattle.std.proofs.lemmas.Slice.Eq.{bytes_eq-Decides}
use Rattle.fp_name.specs.Bytes.{is_word_start, is_word, is_dashed, is_dotted, is_dot, begins_with}
use Rattle.fp_name.specs.Grammar.{is_element, are_elements, is_id, is_arch, is_branch, is_remote_name}
use Rattle.fp_name.specs.FileNames.{is_name_byte, is_file_name}
use Rattle.fp_name.specs.Hex.{is_byte, is_digest, digit, hex}
use Rattle.fp_name.proofs.Bytes.{list_all-wider, dotted_id, dotted_arch, word_dashed}
use Rattle.fp_name.proofs.HexTexts.{length-hex}

-- ---- a branch is the name of a file

dotted_name : (c : ℕ) → is_dotted c ≡ true → is_name_byte c ≡ true
dotted_name c h = grind (arith, nat_tests)

begins_long : (p : ℕ → Bool) (text : List ℕ) → begins_with p text ≡ true → 1 ≤ length text
begins_long p [] h = absurd (false≢true h)
begins_long p (c ∷ cs) h = omega arith

-- no text that begins with a letter, a digit, `_` or `-` is a text that does not
begins_apart : (text other : List ℕ) → begins_with is_dashed text ≡ true → begins_with is_dashed other ≡ false → bytes_eq text other ≡ false
begins_apart text other h apart =
    false_from_ne_true (bytes_eq text other) (λ e. both_ways (begins_with is_dashed text) (ap (begins_with is_dashed) ((bytes_eq-Decides text other).0 e) ∙ apart) h)

pub file_branch : (text : List ℕ) → is_branch text ≡ true → is_file_name text ≡ true
unfolding is_branch
file_branch text h =
    let bounds = and_parts (leb (length text) 255) (begins_with is_dashed text && list_all is_dotted text) h in
    let bytes = and_parts (begins_with is_dashed text) (list_all is_dotted text) bounds.1 in
    let one = begins_apart text (codes ".") bytes.0 refl in
    let two = begins_apart text (codes "..") bytes.0 refl in
    and_from _ _ (le-leb 1 (length text) (begins_long is_dashed text bytes.0))
    (and_from _ _ bounds.0
    (and_from _ _ (list_all-wider is_dotted is_name_byte dotted_name text bytes.1)
    (not_from_false _ (or_from (bytes_eq text (codes ".")) (bytes_eq text (codes "..")) one two))))

-- ---- the other names are branches

begins-wider : (p q : ℕ → Bool) → ((c : ℕ) → p c ≡ true → q c ≡ true) → (text : List ℕ) → begins_with p text ≡ true → begins_with q text ≡ true
begins-wider p q wider [] h = absurd (false≢true h)
begins-wider p q wider (c ∷ cs) h = wider c h

start_dashed : (c : ℕ) → is_word_start c ≡ true → is_dashed c ≡ true
start_dashed c h = grind (arith, nat_tests)

branch_from : (text : List ℕ) → length text ≤ 255 → begins_with is_dashed text ≡ true → list_all is_dotted text ≡ true → is_branch text ≡ true
unfolding is_branch
branch_from text short first bytes =
    and_from (leb (length text) 255) (begins_with is_dashed text && list_all is_dotted text) (le-leb (length text) 255 short)
    (and_from (begins_with is_dashed text) (list_all is_dotted text) first bytes)

pub file_arch : (text : List ℕ) → is_arch text ≡ true → is_file_name text ≡ true
unfolding is_arch
file_arch text h =
    let bounds = and_parts (leb (length text) 255) (begins_with is_word text && list_all is_word text) h in
    let bytes = and_parts (begins_with is_word text) (list_all is_word text) bounds.1 in
    file_branch text (branch_from text (leb-true (length text) 255 bounds.0) (begins-wider is_word is_dashed word_dashed text bytes.0) (dotted_arch text h))

pub file_remote : (text : List ℕ) → is_remote_name text ≡ true → is_file_name text ≡ true
unfolding is_remote_name
file_remote text h =
    let bounds = and_parts (leb (length text) 64) (begins_with is_word text && list_all is_dotted text) h in
    let bytes = and_parts (begins_with is_word text) (list_all is_dotted text) bounds.1 in
    let short : length text ≤ 255 = omega (arith, leb-true (length text) 64 bounds.0) in
    file_branch text (branch_from text short (begins-wider is_word is_dashed word_dashed text bytes.0) bytes.1)

-- an ID begins as its first element does
first_begins : List (List ℕ) → Bool
first_begins [] = false
first_begins (part ∷ parts) = begins_with is_word_start part

elements_begin : (parts : List (List ℕ)) → are_elements parts ≡ true → first_begins parts ≡ true
unfolding first_begins
elements_begin [] h = h
elements_begin (last ∷ []) h = (and_parts (begins_with is_word_start last) (list_all is_dashed last) h).0
elements_begin (element ∷ next ∷ more) h =
    (and_parts (begins_with is_word_start element) (list_all is_word element) (and_parts (is_element element) (are_elements (next ∷ more)) h).0).0

onto_begins : (c : ℕ) (parts : List (List ℕ)) → first_begins (onto_first c parts) ≡ true → is_word_start c ≡ true
unfolding first_begins
onto_begins c [] h = h
onto_begins c (part ∷ parts) h = h

cut_begins : (b : Bool) (c : ℕ) (parts : List (List ℕ)) → first_begins (cond b ([] ∷ parts) (onto_first c parts)) ≡ true → is_word_start c ≡ true
unfolding first_begins
cut_begins true c parts h = absurd (false≢true h)
cut_begins false c parts h = onto_begins c parts h

text_begins : (text : List ℕ) → first_begins (slice_split is_dot text) ≡ true → begins_with is_word_start text ≡ true
unfolding first_begins
text_begins [] h = h
text_begins (c ∷ cs) h = cut_begins (is_dot c) c (slice_split is_dot cs) h

pub file_id : (text : List ℕ) → is_id text ≡ true → is_file_name text ≡ true
unfolding is_id
file_id text h =
    let bounds = and_parts (leb (length text) 255) (leb 3 (length (slice_split is_dot text)) && are_elements (slice_split is_dot text)) h in
    let elements = and_parts (leb 3 (length (slice_split is_dot text))) (are_elements (slice_split is_dot text)) bounds.1 in
    let first = text_begins text (elements_begin (slice_split is_dot text) elements.1) in
    file_branch text (branch_from text (leb-true (length text) 255 bounds.0) (begins-wider is_word_start is_dashed start_dashed text first) (dotted_id text h))

-- ---- the text of a digest

abbrev is_word_digit : ℕ → Bool
is_word_digit n = is_word (digit n)

digit_word : (n : ℕ) → n < 16 → is_word (digit n) ≡ true
digit_word n small = agree_below_at is_word_digit (λ _. true) 16 n refl small

hex_words : (bytes : List ℕ) → list_all is_byte bytes ≡ true → list_all is_word (hex bytes) ≡ true
unfolding hex
hex_words [] h = refl
hex_words (b ∷ bs) h =
    let both = and_parts (is_byte b) (list_all is_byte bs) h in
    let small : b < 256 = ltb-true b 256 both.0 in
    and_from (is_word (digit (b / 16))) _ (digit_word (b / 16) (omega arith))
    (and_from (is_word (digit (b % 16))) (list_all is_word (hex bs)) (digit_word (b % 16) (omega arith)) (hex_words bs both.1))

words_begin : (text : List ℕ) → 1 ≤ length text → list_all is_word text ≡ true → begins_with is_word text ≡ true
words_begin [] h words = absurd (omega arith)
words_begin (c ∷ cs) h words = (and_parts (is_word c) (list_all is_word cs) words).0

pub file_digest : (d : List ℕ) → is_digest d ≡ true → is_file_name (hex d) ≡ true
unfolding is_arch
file_digest d h =
    let both = and_parts (eqb (length d) 32) (list_all is_byte d) h in
    let long : length (hex d) ≡ 64 = omega (arith, length-hex d, eqb-true (length d) 32 both.0) in
    let words = hex_words d both.1 in
    let first = words_begin (hex d) (omega arith) words in
    file_arch (hex d) (and_from (leb (length (hex d)) 255) _ (le-leb (length (hex d)) 255 (omega arith)) (and_from (begins_with is_word (hex d)) (list_all is_word (hex d)) first words))
