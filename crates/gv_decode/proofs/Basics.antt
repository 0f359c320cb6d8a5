-- Values of basic types, from their bytes.
use Rattle.std.proofs.Common.{◌≡◌, ℕ, zero, suc, ◌-◌, ◌<◌, Bool, true, false, cond, ◌||◌, ◌&&◌, leb, eqb, List, [], ◌∷◌, length, get_or, Option, Some, None, option_map, option_and_then, Result, Ok, Err, IsUtf8, IsAscii, refl, sym, ap, ◌∙◌, subst, arith, bytes_eq}
use Rattle.std.specs.Str.{is_utf8}
use Rattle.std.specs.Int.{is_in_range}
use Rattle.std.proofs.lemmas.Str.{IsUtf8-from_ascii, is_utf8-from_IsUtf8, IsUtf8-from_is_utf8}
use Rattle.std.proofs.lemmas.Bool.{and_parts, and_from, eq-eqb, eqb-true, leb-true}
use Rattle.fp_base.proofs.Texts.{bytes_eq-true}
use Rattle.gv_value.specs.Basics.{TextKind}
use Rattle.gv_value.specs.Bytes.{le_bytes, le_value, AllBelow}
use Rattle.gv_value.specs.Reading.{number_at, eight_at, before_zero, text_if, text_at}
use Rattle.gv_value.specs.Texts.{is_path_char, are_elements, is_object_path, is_signature, is_text}
use Rattle.gv_value.specs.Tree.{Content}
use Rattle.gv_value.proofs.Contents.{are_bytes-below}
use Rattle.gv_value.proofs.Lists.{bytes_eq-same}
use Rattle.gv_value.proofs.Numbers.{length-le_bytes, le_bytes-value}
use Rattle.gv_value.proofs.SignatureSteps.{signature-ascii}
use Rattle.gv_decode.specs.declared.error.DecodeError.{DecodeError}
use Rattle.gv_decode.specs.declared.error.DecodeError.TheVariants as errors
use Rattle.gv_decode.specs.Decoded.{Gives}

-- ---- numbers

pub number_at-is : (w : ℕ) (bytes : List ℕ) → AllBelow 256 bytes → length bytes ≡ w → number_at w bytes ≡ Some (le_value bytes)
number_at-is w bytes h len =
    let back : le_bytes w (le_value bytes) ≡ bytes = ap (λ (x : ℕ). le_bytes x (le_value bytes)) (sym len) ∙ le_bytes-value bytes h in
    ap (λ (b : Bool). cond b (Some (le_value bytes)) None) (bytes_eq-same (le_bytes w (le_value bytes)) bytes back)

pub number_at-not : (w : ℕ) (bytes : List ℕ) → (length bytes ≡ w → ⊥) → number_at w bytes ≡ None
number_at-not w bytes other = by (bytes_eq (le_bytes w (le_value bytes)) bytes) refl
  where
    by : (b : Bool) → bytes_eq (le_bytes w (le_value bytes)) bytes ≡ b → cond b (Some (le_value bytes)) None ≡ None
    by false is = refl
    by true is = absurd (other (sym (ap length (bytes_eq-true (le_bytes w (le_value bytes)) bytes is)) ∙ length-le_bytes w (le_value bytes)))

-- ---- texts

IsAscii-below : (text : List ℕ) → AllBelow 128 text → IsAscii text
IsAscii-below [] h i = omega arith
IsAscii-below (b ∷ text) h zero = h.0
IsAscii-below (b ∷ text) h (suc i) = IsAscii-below text h.1 i

utf8-ascii : (text : List ℕ) → AllBelow 128 text → is_utf8 text ≡ true
utf8-ascii text h = is_utf8-from_IsUtf8 text (IsUtf8-from_ascii text (IsAscii-below text h))

or_parts : (a b : Bool) → (a || b) ≡ true → {P : Type 0} → (a ≡ true → P) → (b ≡ true → P) → P
or_parts true b e p q = p refl
or_parts false b e p q = q e

range-ascii : (lo hi c : ℕ) → hi < 128 → is_in_range lo hi c ≡ true → c < 128
range-ascii lo hi c h e = let p = and_parts (leb lo c) (leb c hi) e in omega (arith, leb-true c hi p.1)

char-ascii : (c : ℕ) → is_path_char c ≡ true → c < 128
char-ascii c e =
    or_parts _ _ e
    (λ x. or_parts _ _ x (λ y. or_parts _ _ y (range-ascii 97 122 c (omega arith)) (range-ascii 65 90 c (omega arith))) (range-ascii 48 57 c (omega arith)))
    (λ x. omega (arith, eqb-true c 95 x))

elements-ascii : (begun : Bool) (text : List ℕ) → are_elements begun text ≡ true → AllBelow 128 text
elements-ascii begun [] e = tt
elements-ascii begun (c ∷ cs) e = by (λ flag. elements-ascii flag cs) (eqb c 47) refl e
  where
    by : ((flag : Bool) → are_elements flag cs ≡ true → AllBelow 128 cs) → (b : Bool) → eqb c 47 ≡ b →
        cond b (begun && are_elements false cs) (is_path_char c && are_elements true cs) ≡ true → AllBelow 128 (c ∷ cs)
    by more true is h = (omega (arith, eqb-true c 47 is), more false (and_parts _ _ h).1)
    by more false is h = let p = and_parts _ _ h in (char-ascii c p.0, more true p.1)

path-ascii : (text : List ℕ) → is_object_path text ≡ true → AllBelow 128 text
path-ascii [] e = tt
path-ascii (c ∷ cs) e =
    let p = and_parts (eqb c 47) _ e in
    (omega (arith, eqb-true c 47 p.0), or_parts _ _ p.1 (none cs) (elements-ascii false cs))
  where
    none : (xs : List ℕ) → eqb (length xs) 0 ≡ true → AllBelow 128 xs
    none [] h = tt
    none (x ∷ xs) h = absurd (omega (arith, eqb-true (length (x ∷ xs)) 0 h))

pub path-utf8 : (text : List ℕ) → is_object_path text ≡ true → is_utf8 text ≡ true
path-utf8 text e = utf8-ascii text (path-ascii text e)

pub signature-utf8 : (text : List ℕ) → is_signature text ≡ true → is_utf8 text ≡ true
signature-utf8 text e = utf8-ascii text (signature-ascii text e)

pub kept-is : (text kept : List ℕ) → IsUtf8 text → kept ≡ text → cond (is_utf8 text) (Some text) None ≡ Some kept
kept-is text kept utf8 same = ap (λ (b : Bool). cond b (Some text) None) (is_utf8-from_IsUtf8 text utf8) ∙ ap (λ (x : List ℕ). Some x) (sym same)

pub kept-not : (text : List ℕ) → (IsUtf8 text → ⊥) → cond (is_utf8 text) (Some text) None ≡ None
kept-not text other = by (is_utf8 text) refl
  where
    by : (b : Bool) → is_utf8 text ≡ b → cond b (Some text) None ≡ None
    by false is = refl
    by true is = absurd (other (IsUtf8-from_is_utf8 text is))

-- a text of its kind, from its bytes
pub text-from : {X : Type 0} (view : X → List ℕ) (kind : TextKind) (bytes text : List ℕ) (r : Result X DecodeError) → Some text ≡ before_zero (length bytes - 1) bytes → is_text kind text ≡ true → is_utf8 text ≡ true →
    Gives view r (cond (is_utf8 text) (Some text) None) → Gives (λ x. Content.text (view x)) r (text_at kind bytes)
text-from {X = X} view kind bytes text r before is utf8 gives = by r (subst (λ (b : Bool). Gives view r (cond b (Some text) None)) utf8 gives)
  where
    found : text_at kind bytes ≡ Some (Content.text text)
    found = ap (option_and_then (text_if kind)) (sym before) ∙ ap (λ (b : Bool). cond b (Some (Content.text text)) None) is

    by : (x : Result X DecodeError) → Gives view x (Some text) → Gives (λ y. Content.text (view y)) x (text_at kind bytes)
    by (Ok t) g = found ∙ ap (λ (o : Option (List ℕ)). option_map Content.text o) g
    by (Err errors.TooLong) g = g
    by (Err errors.NotNormal) g = absurd cc
    by (Err errors.NoMemory) g = tt

-- ---- doubles

list-of-8 : (bytes : List ℕ) → length bytes ≡ 8 →
    bytes ≡ get_or bytes 0 0 ∷ get_or bytes 1 0 ∷ get_or bytes 2 0 ∷ get_or bytes 3 0 ∷ get_or bytes 4 0 ∷ get_or bytes 5 0 ∷ get_or bytes 6 0 ∷ get_or bytes 7 0 ∷ []
list-of-8 (a ∷ b ∷ c ∷ d ∷ e ∷ f ∷ g ∷ h ∷ []) len = refl
list-of-8 (a ∷ b ∷ c ∷ d ∷ e ∷ f ∷ g ∷ h ∷ i ∷ bytes) len = absurd (omega (arith, len))
list-of-8 (a ∷ b ∷ c ∷ d ∷ e ∷ f ∷ g ∷ []) len = absurd (omega (arith, len))
list-of-8 (a ∷ b ∷ c ∷ d ∷ e ∷ f ∷ []) len = absurd (omega (arith, len))
list-of-8 (a ∷ b ∷ c ∷ d ∷ e ∷ []) len = absurd (omega (arith, len))
list-of-8 (a ∷ b ∷ c ∷ d ∷ []) len = absurd (omega (arith, len))
list-of-8 (a ∷ b ∷ c ∷ []) len = absurd (omega (arith, len))
list-of-8 (a ∷ b ∷ []) len = absurd (omega (arith, len))
list-of-8 (a ∷ []) len = absurd (omega (arith, len))
list-of-8 [] len = absurd (omega (arith, len))

pub double-is : (bytes : List ℕ) → AllBelow 256 bytes → length bytes ≡ 8 → eight_at bytes ≡
    Some (Content.eight (get_or bytes 0 0 ∷ get_or bytes 1 0 ∷ get_or bytes 2 0 ∷ get_or bytes 3 0 ∷ get_or bytes 4 0 ∷ get_or bytes 5 0 ∷ get_or bytes 6 0 ∷ get_or bytes 7 0 ∷ []))
double-is bytes below len =
    ap (λ (b : Bool). cond b (Some (Content.eight bytes)) None) (and_from _ _ (eq-eqb (length bytes) 8 len) (are_bytes-below bytes below))
    ∙ ap (λ (xs : List ℕ). Some (Content.eight xs)) (list-of-8 bytes len)
