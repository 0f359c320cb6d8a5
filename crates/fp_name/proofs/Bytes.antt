-- The bytes of names.
use Rattle.std.proofs.Common.{◌≡◌, ◌<◌, ℕ, Bool, true, false, ◌&&◌, cond, eqb, leb, List, [], ◌∷◌, length, take, drop, codes, refl, arith}
use Rattle.std.specs.List.{list_all, slice_split, onto_first, All}
use Rattle.std.proofs.lemmas.Bool.{and_parts, and_from, or_left, or_right, false≢true, false_from_ne_true}
use Rattle.std.proofs.lemmas.Bool.Decides.{nat_tests}
use Rattle.std.proofs.lemmas.List.Elements.{All-nil, All-cons}
use Rattle.std.proofs.lemmas.Str.Ascii.{IsAscii-from_all}
use Rattle.std.proofs.lemmas.Str.{IsUtf8-from_ascii, IsAscii-append}
use Rattle.std.proofs.lemmas.List.{take-append-drop}
use Rattle.std.proofs.lemmas.Slice.Eq.{bytes_eq-Decides}
use Rattle.std.specs.Char.{is_ascii_graphic}
use Rattle.std.specs.Str.{bytes_eq, IsAscii, IsUtf8}
use Rattle.fp_name.specs.Bytes.{is_word_start, is_word, is_dashed, is_dotted, is_dot, is_slash, begins_with}
use Rattle.fp_name.specs.Grammar.{is_element, are_elements, is_id, is_arch, is_branch, is_remote_name, is_url}

-- what passes one test passes a wider one
pub list_all-wider : (p q : ℕ → Bool) → ((c : ℕ) → p c ≡ true → q c ≡ true) → (text : List ℕ) → list_all p text ≡ true → list_all q text ≡ true
list_all-wider p q wider [] h = refl
list_all-wider p q wider (c ∷ cs) h =
    let parts = and_parts (p c) (list_all p cs) h in
    and_from (q c) (list_all q cs) (wider c parts.0) (list_all-wider p q wider cs parts.1)

pub All-from_list_all : (p : ℕ → Bool) (P : ℕ → Type 0) → ((c : ℕ) → p c ≡ true → P c) → (text : List ℕ) → list_all p text ≡ true → All P text
All-from_list_all p P says [] h = All-nil P
All-from_list_all p P says (c ∷ cs) h =
    let parts = and_parts (p c) (list_all p cs) h in
    All-cons P c cs (says c parts.0) (All-from_list_all p P says cs parts.1)

pub word_dashed : (c : ℕ) → is_word c ≡ true → is_dashed c ≡ true
word_dashed c h = or_left (is_word c) (eqb c 45) h

dashed_dotted : (c : ℕ) → is_dashed c ≡ true → is_dotted c ≡ true
dashed_dotted c h = or_left (is_dashed c) (eqb c 46) h

word_dotted : (c : ℕ) → is_word c ≡ true → is_dotted c ≡ true
word_dotted c h = dashed_dotted c (word_dashed c h)

pub dotted_ascii : (c : ℕ) → is_dotted c ≡ true → c < 128
dotted_ascii c h = grind (arith, nat_tests)

pub dotted_no_slash : (c : ℕ) → is_dotted c ≡ true → eqb c 47 ≡ false
dotted_no_slash c h = grind (arith, nat_tests)

-- ---- an ID is made of letters, digits, `_`, `-` and dots

are_dashed : List (List ℕ) → Bool
are_dashed parts = list_all (list_all is_dashed) parts

dashed_elements : (parts : List (List ℕ)) → are_elements parts ≡ true → are_dashed parts ≡ true
unfolding are_dashed
dashed_elements [] h = absurd (false≢true h)
dashed_elements (last ∷ []) h =
    and_from (list_all is_dashed last) true (and_parts (begins_with is_word_start last) (list_all is_dashed last) h).1 refl
dashed_elements (element ∷ next ∷ more) h =
    let parts = and_parts (is_element element) (are_elements (next ∷ more)) h in
    let words = and_parts (begins_with is_word_start element) (list_all is_word element) parts.0 in
    and_from (list_all is_dashed element) (are_dashed (next ∷ more)) (list_all-wider is_word is_dashed word_dashed element words.1) (dashed_elements (next ∷ more) parts.1)

dashed_onto : (c : ℕ) (parts : List (List ℕ)) → are_dashed (onto_first c parts) ≡ true → (is_dashed c ≡ true) × (are_dashed parts ≡ true)
unfolding are_dashed
dashed_onto c [] h = ((and_parts (is_dashed c) true (and_parts (is_dashed c && true) true h).0).0, refl)
dashed_onto c (part ∷ parts) h =
    let both = and_parts (is_dashed c && list_all is_dashed part) (are_dashed parts) h in
    let front = and_parts (is_dashed c) (list_all is_dashed part) both.0 in
    (front.0, and_from (list_all is_dashed part) (are_dashed parts) front.1 both.1)

dashed_split : (b : Bool) (c : ℕ) (parts : List (List ℕ)) → is_dot c ≡ b → are_dashed (cond b ([] ∷ parts) (onto_first c parts)) ≡ true
    → (is_dotted c ≡ true) × (are_dashed parts ≡ true)
unfolding are_dashed
dashed_split true c parts e h = (or_right (is_dashed c) (is_dot c) e, h)
dashed_split false c parts e h =
    let both = dashed_onto c parts h in (dashed_dotted c both.0, both.1)

dotted_whole : (text : List ℕ) → are_dashed (slice_split is_dot text) ≡ true → list_all is_dotted text ≡ true
dotted_whole [] h = refl
dotted_whole (c ∷ cs) h =
    let both = dashed_split (is_dot c) c (slice_split is_dot cs) refl h in
    and_from (is_dotted c) (list_all is_dotted cs) both.0 (dotted_whole cs both.1)

pub dotted_id : (text : List ℕ) → is_id text ≡ true → list_all is_dotted text ≡ true
unfolding is_id
dotted_id text h =
    let bounds = and_parts (leb (length text) 255) (leb 3 (length (slice_split is_dot text)) && are_elements (slice_split is_dot text)) h in
    let elements = and_parts (leb 3 (length (slice_split is_dot text))) (are_elements (slice_split is_dot text)) bounds.1 in
    dotted_whole text (dashed_elements (slice_split is_dot text) elements.1)

pub dotted_arch : (text : List ℕ) → is_arch text ≡ true → list_all is_dotted text ≡ true
unfolding is_arch
dotted_arch text h =
    let bounds = and_parts (leb (length text) 255) (begins_with is_word text && list_all is_word text) h in
    list_all-wider is_word is_dotted word_dotted text (and_parts (begins_with is_word text) (list_all is_word text) bounds.1).1

pub dotted_branch : (text : List ℕ) → is_branch text ≡ true → list_all is_dotted text ≡ true
unfolding is_branch
dotted_branch text h =
    let bounds = and_parts (leb (length text) 255) (begins_with is_dashed text && list_all is_dotted text) h in
    (and_parts (begins_with is_dashed text) (list_all is_dotted text) bounds.1).1

pub dotted_remote_name : (text : List ℕ) → is_remote_name text ≡ true → list_all is_dotted text ≡ true
unfolding is_remote_name
dotted_remote_name text h =
    let bounds = and_parts (leb (length text) 64) (begins_with is_word text && list_all is_dotted text) h in
    (and_parts (begins_with is_word text) (list_all is_dotted text) bounds.1).1

-- ---- what bytes of names are not

pub Ascii-from_dotted : (text : List ℕ) → list_all is_dotted text ≡ true → IsAscii text
Ascii-from_dotted text h = IsAscii-from_all text (All-from_list_all is_dotted (λ b. b < 128) dotted_ascii text h)

pub NoSlash-from_dotted : (text : List ℕ) → list_all is_dotted text ≡ true → All (λ b. is_slash b ≡ false) text
NoSlash-from_dotted text h = All-from_list_all is_dotted (λ b. is_slash b ≡ false) dotted_no_slash text h

pub Utf8-from_dotted : (text : List ℕ) → list_all is_dotted text ≡ true → IsUtf8 text
Utf8-from_dotted text h = IsUtf8-from_ascii text (Ascii-from_dotted text h)

pub no_text_no_id : (text : List ℕ) → (IsUtf8 text → ⊥) → is_id text ≡ false
no_text_no_id text bad = false_from_ne_true (is_id text) (λ good. bad (Utf8-from_dotted text (dotted_id text good)))

pub no_text_no_remote_name : (text : List ℕ) → (IsUtf8 text → ⊥) → is_remote_name text ≡ false
no_text_no_remote_name text bad = false_from_ne_true (is_remote_name text) (λ good. bad (Utf8-from_dotted text (dotted_remote_name text good)))

pub graphic_ascii : (c : ℕ) → is_ascii_graphic c ≡ true → c < 128
graphic_ascii c h = grind (arith, nat_tests)

Ascii-url : (text : List ℕ) → is_url text ≡ true → IsAscii text
unfolding is_url
Ascii-url text h =
    let bounds = and_parts (leb (length text) 1024) (bytes_eq (take 8 text) (codes "file:///") && list_all is_ascii_graphic (drop 8 text)) h in
    let parts = and_parts (bytes_eq (take 8 text) (codes "file:///")) (list_all is_ascii_graphic (drop 8 text)) bounds.1 in
    let scheme : IsAscii (take 8 text) = rw ((bytes_eq-Decides (take 8 text) (codes "file:///")).0 parts.0) (IsAscii-from_all (codes "file:///") (All-from_list_all is_ascii_graphic (λ b. b < 128) graphic_ascii (codes "file:///") refl)) in
    let path = IsAscii-from_all (drop 8 text) (All-from_list_all is_ascii_graphic (λ b. b < 128) graphic_ascii (drop 8 text) parts.1) in
    rw (take-append-drop {A = ℕ} 8 text) at (IsAscii-append (take 8 text) (drop 8 text) scheme path)

pub no_text_no_url : (text : List ℕ) → (IsUtf8 text → ⊥) → is_url text ≡ false
no_text_no_url text bad = false_from_ne_true (is_url text) (λ good. bad (IsUtf8-from_ascii text (Ascii-url text good)))
