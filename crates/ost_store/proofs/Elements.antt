-- The names of an object may be elements of a path.
use Rattle.std.proofs.Common.{◌≡◌, ◌≤◌, ◌<◌, ◌/◌, ◌%◌, ℕ, Bool, true, false, ◌&&◌, eqb, List, [], ◌∷◌, ◌++◌, length, take, drop, codes, refl, sym, ap, ◌∙◌, arith, length-drop}
use Rattle.std.specs.Prelude.{is_some}
use Rattle.std.specs.List.{list_all}
use Rattle.std.specs.Str.{bytes_eq}
use Rattle.std.proofs.lemmas.Bool.{and_parts, and_from, le-leb, ltb-true, eqb-true, both_ways, false_from_ne_true, not_from_false, or_from, agree_below_at}
use Rattle.std.proofs.lemmas.List.{length-append}
use Rattle.std.proofs.lemmas.List.Folds.{list_all-append}
use Rattle.std.proofs.lemmas.Slice.Eq.{bytes_eq-Decides}
use Rattle.hex.specs.Hex.{encode_lower}
use Rattle.fp_host.specs.Paths.{is_element, is_name_byte}
use Rattle.fp_name.specs.Hex.{is_byte, is_digest, digit, digit_value, hex}
use Rattle.fp_name.proofs.Bytes.{list_all-wider}
use Rattle.fp_name.proofs.HexTexts.{length-hex, hex_is_encoded}
use Rattle.fp_base.specs.declared.object.ObjKind.{ObjKind}
use Rattle.fp_base.specs.declared.object.ObjKind.TheVariants as kinds
use Rattle.fp_base.specs.Objects.{kind_text}
use Rattle.ost_model.specs.Stores.{is_prefix}

-- ---- digits

abbrev is_lower_digit : ℕ → Bool
is_lower_digit c = is_some (digit_value c)

abbrev is_lower_at : ℕ → Bool
is_lower_at n = is_lower_digit (digit n)

lower_digit : (n : ℕ) → n < 16 → is_lower_digit (digit n) ≡ true
lower_digit n small = agree_below_at is_lower_at (λ _. true) 16 n refl small

pub hex_lower : (bytes : List ℕ) → list_all is_byte bytes ≡ true → list_all is_lower_digit (hex bytes) ≡ true
unfolding hex
hex_lower [] h = refl
hex_lower (b ∷ bs) h =
    let both = and_parts (is_byte b) (list_all is_byte bs) h in
    let small : b < 256 = ltb-true b 256 both.0 in
    and_from (is_lower_digit (digit (b / 16))) _ (lower_digit (b / 16) (omega arith))
    (and_from (is_lower_digit (digit (b % 16))) (list_all is_lower_digit (hex bs)) (lower_digit (b % 16) (omega arith)) (hex_lower bs both.1))

-- what is no digit
no_digit : (c n : ℕ) → is_lower_digit n ≡ false → is_lower_digit c ≡ true → c ≡ n → ⊥
no_digit c n none h e = both_ways (is_lower_digit c) (ap is_lower_digit e ∙ none) h

lower_name : (c : ℕ) → is_lower_digit c ≡ true → is_name_byte c ≡ true
lower_name c h =
    not_from_false _ (or_from (eqb c 47) (eqb c 0)
    (false_from_ne_true _ (λ t. no_digit c 47 refl h (eqb-true c 47 t)))
    (false_from_ne_true _ (λ t. no_digit c 0 refl h (eqb-true c 0 t))))

no_dot : (c : ℕ) → is_lower_digit c ≡ true → c ≡ 46 → ⊥
no_dot c h e = no_digit c 46 refl h e

-- ---- elements

element_from : (x : List ℕ) → 1 ≤ length x → length x ≤ 255 → list_all is_name_byte x ≡ true → (x ≡ codes "." → ⊥) → (x ≡ codes ".." → ⊥) → is_element x ≡ true
element_from x some short bytes one two =
    and_from _ _ (le-leb 1 (length x) some)
    (and_from _ _ (le-leb (length x) 255 short)
    (and_from _ _ bytes
    (not_from_false _ (or_from (bytes_eq x (codes ".")) (bytes_eq x (codes ".."))
    (false_from_ne_true _ (λ t. one ((bytes_eq-Decides x (codes ".")).0 t)))
    (false_from_ne_true _ (λ t. two ((bytes_eq-Decides x (codes "..")).0 t)))))))

two_digits : (a b : ℕ) → is_lower_digit a ≡ true → is_lower_digit b ≡ true → is_element (a ∷ b ∷ []) ≡ true
two_digits a b low_a low_b =
    element_from (a ∷ b ∷ []) (omega arith) (omega arith)
    (and_from (is_name_byte a) _ (lower_name a low_a) (and_from (is_name_byte b) true (lower_name b low_b) refl))
    (λ e. cc e) (λ e. no_dot a low_a (cc e))

prefix_of : (d : List ℕ) → list_all is_byte d ≡ true → 1 ≤ length d → is_element (hex (take 1 d)) ≡ true
unfolding hex
prefix_of [] bytes some = absurd (omega arith)
prefix_of (b ∷ bs) bytes some =
    let small : b < 256 = ltb-true b 256 (and_parts (is_byte b) (list_all is_byte bs) bytes).0 in
    two_digits (digit (b / 16)) (digit (b % 16)) (lower_digit (b / 16) (omega arith)) (lower_digit (b % 16) (omega arith))

-- the first two digits
pub prefix_element : (d : List ℕ) → is_digest d ≡ true → is_element (encode_lower (take 1 d)) ≡ true
prefix_element d good =
    let both = and_parts (eqb (length d) 32) (list_all is_byte d) good in
    let long : length d ≡ 32 = eqb-true (length d) 32 both.0 in
    ap is_element (sym (hex_is_encoded (take 1 d))) ∙ prefix_of d both.1 (omega arith)

rest_bytes : (d : List ℕ) → list_all is_byte d ≡ true → list_all is_byte (drop 1 d) ≡ true
rest_bytes [] bytes = refl
rest_bytes (b ∷ bs) bytes = (and_parts (is_byte b) (list_all is_byte bs) bytes).1

word_bytes : (kind : ObjKind) → list_all is_name_byte (codes "." ++ kind_text kind) ≡ true
word_bytes kinds.Commit = refl
word_bytes kinds.DirTree = refl
word_bytes kinds.DirMeta = refl
word_bytes kinds.File = refl

word_short : (kind : ObjKind) → length (codes "." ++ kind_text kind) ≤ 8
word_short kinds.Commit = omega arith
word_short kinds.DirTree = omega arith
word_short kinds.DirMeta = omega arith
word_short kinds.File = omega arith

-- the other digits, a dot and the kind
pub name_element : (d : List ℕ) (kind : ObjKind) → is_digest d ≡ true → is_element (encode_lower (drop 1 d) ++ (codes "." ++ kind_text kind)) ≡ true
name_element d kind good =
    let both = and_parts (eqb (length d) 32) (list_all is_byte d) good in
    let long : length d ≡ 32 = eqb-true (length d) 32 both.0 in
    let digits = hex_lower (drop 1 d) (rest_bytes d both.1) in
    ap (λ (t : List ℕ). is_element (t ++ (codes "." ++ kind_text kind))) (sym (hex_is_encoded (drop 1 d))) ∙ whole (hex (drop 1 d)) (length-hex (drop 1 d) ∙ omega (arith, length-drop 1 d)) digits
  where
    whole : (text : List ℕ) → length text ≡ 62 → list_all is_lower_digit text ≡ true → is_element (text ++ (codes "." ++ kind_text kind)) ≡ true
    whole text long low =
        let size = length-append text (codes "." ++ kind_text kind) in
        element_from (text ++ (codes "." ++ kind_text kind)) (omega arith) (omega (arith, word_short kind))
        (list_all-append is_name_byte text (codes "." ++ kind_text kind) ∙ ap (λ b. b && list_all is_name_byte (codes "." ++ kind_text kind)) (list_all-wider is_lower_digit is_name_byte lower_name text low) ∙ word_bytes kind)
        (λ e. absurd (omega (arith, ap length e))) (λ e. absurd (omega (arith, ap length e)))

-- ---- an object's name, by its bytes

pub prefix_is : (d : List ℕ) → take 2 (hex d) ≡ encode_lower (take 1 d)
unfolding hex
prefix_is [] = hex_is_encoded []
prefix_is (b ∷ bs) = hex_is_encoded (b ∷ [])

pub rest_is : (d : List ℕ) → drop 2 (hex d) ≡ encode_lower (drop 1 d)
unfolding hex
rest_is [] = hex_is_encoded []
rest_is (b ∷ bs) = hex_is_encoded bs

-- the first two digits name a folder of a store
pub prefix_is_one : (d : List ℕ) → is_digest d ≡ true → is_prefix (take 2 (hex d)) ≡ true
unfolding hex
prefix_is_one [] good = absurd (both_ways (is_digest []) refl good)
prefix_is_one (b ∷ bs) good =
    let bytes = (and_parts (eqb (length (b ∷ bs)) 32) (list_all is_byte (b ∷ bs)) good).1 in
    let small : b < 256 = ltb-true b 256 (and_parts (is_byte b) (list_all is_byte bs) bytes).0 in
    and_from (is_lower_digit (digit (b / 16))) _ (lower_digit (b / 16) (omega arith)) (and_from (is_lower_digit (digit (b % 16))) true (lower_digit (b % 16) (omega arith)) refl)
