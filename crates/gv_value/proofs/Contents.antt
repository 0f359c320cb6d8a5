-- Values of basic types: what is read is spelled so, and what is spelled so is read.
use Rattle.std.proofs.Common.{◌≡◌, ℕ, zero, suc, ◌+◌, ◌-◌, ◌*◌, ◌^◌, ◌<◌, ◌≤◌, Bool, true, false, cond, ◌&&◌, eqb, ltb, ℤ, pos, negsuc, List, [], ◌∷◌, ◌++◌, length, take, drop, Option, Some, None, option_map, option_and_then, refl, sym, ap, ◌∙◌, subst, arith, length-append, take-append-drop, bytes_eq, w8, w16, w32, w64}
use Rattle.std.specs.Int.{Width, w128, byte_len, cast_unsigned, cast_signed}
use mir.Val.{bits, hbits, SFits, Fits}
use lib.Signed.{mag}
use Rattle.std.proofs.Math.Facts.{sfits_to_z, to_z-of_z, of_z-to_z, Fits-of_z}
use Rattle.std.proofs.lemmas.Bool.{eqb-true, eq-eqb, ltb-true, lt-ltb, and_parts, and_from}
use Rattle.std.proofs.lemmas.Option.{same_Some}
use Rattle.fp_base.proofs.Options.{guarded}
use Rattle.fp_base.proofs.Texts.{bytes_eq-true}
use Rattle.gv_value.specs.declared.basic.Basic.{Basic}
use Rattle.gv_value.specs.declared.basic.Basic.TheVariants as basics
use Rattle.gv_value.specs.Basics.{Form, form_of, TextKind}
use Rattle.gv_value.specs.Bytes.{le_bytes, le_value, AllBelow}
use Rattle.gv_value.specs.Layout.{form_size}
use Rattle.gv_value.specs.Signs.{basic_letter, letter_of, sign_of}
use Rattle.gv_value.specs.declared.sign.Sign.TheVariants as signs
use Rattle.gv_value.specs.Texts.{is_text}
use Rattle.gv_value.specs.Tree.{Content}
use Rattle.gv_value.specs.Spelled.{ContentSpelled}
use Rattle.gv_value.specs.Spelling.{fits_signed, are_bytes, content_fits, content_bytes}
use Rattle.gv_value.specs.Reading.{truth_at, number_at, eight_at, before_zero, text_if, text_at, content_at}
use Rattle.gv_value.proofs.Lists.{bytes_eq-same, take_before, drop_before, then_some, map_some}
use Rattle.gv_value.proofs.Numbers.{length-le_bytes, le_value-le_bytes, le_value-below}
use Rattle.gv_value.proofs.TypeLaws.{sign_of-letter}

-- ---- numbers

wide : (w : Width) → 256 ^ byte_len w ≡ 2 ^ bits w
wide w8 = refl
wide w16 = refl
wide w32 = refl
wide w64 = refl
wide w128 = refl

half : (w : Width) → 2 ^ hbits w + 2 ^ hbits w ≡ 256 ^ byte_len w
half w8 = refl
half w16 = refl
half w32 = refl
half w64 = refl
half w128 = refl

unsigned_below : (w : Width) (z : ℤ) → SFits w z → cast_unsigned w z < 256 ^ byte_len w
unsigned_below w z h = let f = Fits-of_z {w = w} {z = z} h in rw wide (f.fits)

signed_fits : (w : Width) (n : ℕ) → n < 256 ^ byte_len w → SFits w (cast_signed w n)
signed_fits w n h = sfits_to_z {w = w} {n = n} (record { fits = rw (sym (wide w)) h })

signed_back : (w : Width) (n : ℕ) → n < 256 ^ byte_len w → cast_unsigned w (cast_signed w n) ≡ n
signed_back w n h = of_z-to_z {w = w} {n = n} (record { fits = rw (sym (wide w)) h })

pub number_at-spelled : (w n : ℕ) → n < 256 ^ w → number_at w (le_bytes w n) ≡ Some n
number_at-spelled w n h =
    rw (le_value-le_bytes w n h) (rw (bytes_eq-same (le_bytes w n) (le_bytes w n) refl) refl)

pub record NumberIs (w : ℕ) (bytes : List ℕ) (n : ℕ) : Type 0 where
  pub is : bytes ≡ le_bytes w n
  pub below : n < 256 ^ w

pub number_at-found : (w : ℕ) (bytes : List ℕ) (n : ℕ) → number_at w bytes ≡ Some n → NumberIs w bytes n
number_at-found w bytes n e =
    let g = guarded (bytes_eq (le_bytes w (le_value bytes)) bytes) (Some (le_value bytes)) n e in
    let same : le_value bytes ≡ n = cc in
    let is : bytes ≡ le_bytes w n = sym (bytes_eq-true (le_bytes w (le_value bytes)) bytes g.0) ∙ ap (le_bytes w) same in
    record { is = is; below = subst (λ (m : ℕ). m < 256 ^ w) (ap le_value (sym is) ∙ same) (le_value-below w n) }

-- ---- what stands before a zero byte

pub before_zero-spelled : (text : List ℕ) → before_zero (length (text ++ 0 ∷ []) - 1) (text ++ 0 ∷ []) ≡ Some text
before_zero-spelled text =
    let bytes = text ++ 0 ∷ [] in
    let last : bytes_eq (drop (length bytes - 1) bytes) (0 ∷ []) ≡ true = bytes_eq-same (drop (length bytes - 1) bytes) (0 ∷ []) (drop_before text 0) in
    rw last (ap (λ (xs : List ℕ). Some xs) (take_before text 0))

pub before_zero-found : (n : ℕ) (bytes text : List ℕ) → before_zero n bytes ≡ Some text → bytes ≡ text ++ 0 ∷ []
before_zero-found n bytes text e =
    let g = guarded (bytes_eq (drop n bytes) (0 ∷ [])) (Some (take n bytes)) text e in
    let front : take n bytes ≡ text = cc in
    sym (take-append-drop n bytes) ∙ ap (λ (xs : List ℕ). xs ++ drop n bytes) front ∙ ap (λ (xs : List ℕ). text ++ xs) (bytes_eq-true (drop n bytes) (0 ∷ []) g.0)

-- ---- bytes

pub AllBelow-bytes : (bytes : List ℕ) → are_bytes bytes ≡ true → AllBelow 256 bytes
AllBelow-bytes [] h = tt
AllBelow-bytes (b ∷ bytes) h =
    let p = and_parts (ltb b 256) (are_bytes bytes) h in (ltb-true b 256 p.0, AllBelow-bytes bytes p.1)

pub are_bytes-below : (bytes : List ℕ) → AllBelow 256 bytes → are_bytes bytes ≡ true
are_bytes-below [] h = refl
are_bytes-below (b ∷ bytes) h = and_from (ltb b 256) (are_bytes bytes) (lt-ltb b 256 h.0) (are_bytes-below bytes h.1)

-- ---- what is read

truth_found : (bytes : List ℕ) (c : Content) → truth_at bytes ≡ Some c → ContentSpelled Form.truth c bytes
truth_found [] c e = absurd cc
truth_found (zero ∷ []) c e = let same : Content.truth false ≡ c = cc in subst (λ (x : Content). ContentSpelled Form.truth x (0 ∷ [])) same refl
truth_found (suc zero ∷ []) c e = let same : Content.truth true ≡ c = cc in subst (λ (x : Content). ContentSpelled Form.truth x (1 ∷ [])) same refl
truth_found (suc (suc b) ∷ []) c e = absurd cc
truth_found (zero ∷ d ∷ bytes) c e = absurd cc
truth_found (suc zero ∷ d ∷ bytes) c e = absurd cc
truth_found (suc (suc b) ∷ d ∷ bytes) c e = absurd cc

pub content_at-found : (f : Form) (bytes : List ℕ) (c : Content) → content_at f bytes ≡ Some c → ContentSpelled f c bytes
content_at-found Form.truth bytes c e = truth_found bytes c e
content_at-found (Form.unsigned w) bytes c e =
    let m = map_some Content.number (number_at (byte_len w) bytes) c e in
    let is = number_at-found (byte_len w) bytes m.0 m.1 in
    subst (λ (x : Content). ContentSpelled (Form.unsigned w) x bytes) m.2 (is.below, is.is)
content_at-found (Form.signed w) bytes c e =
    let m = map_some (λ n. Content.integer (cast_signed w n)) (number_at (byte_len w) bytes) c e in
    let is = number_at-found (byte_len w) bytes m.0 m.1 in
    subst (λ (x : Content). ContentSpelled (Form.signed w) x bytes) m.2
    (signed_fits w m.0 is.below, is.is ∙ ap (le_bytes (byte_len w)) (sym (signed_back w m.0 is.below)))
content_at-found Form.double bytes c e =
    let g = guarded (eqb (length bytes) 8 && are_bytes bytes) (Some (Content.eight bytes)) c e in
    let p = and_parts (eqb (length bytes) 8) (are_bytes bytes) g.0 in
    let same : Content.eight bytes ≡ c = cc in
    subst (λ (x : Content). ContentSpelled Form.double x bytes) same (eqb-true (length bytes) 8 p.0, AllBelow-bytes bytes p.1, refl)
content_at-found (Form.text kind) bytes c e =
    let a = then_some (text_if kind) (before_zero (length bytes - 1) bytes) c e in
    let g = guarded (is_text kind a.0) (Some (Content.text a.0)) c a.2 in
    let same : Content.text a.0 ≡ c = cc in
    subst (λ (x : Content). ContentSpelled (Form.text kind) x bytes) same (g.0, before_zero-found (length bytes - 1) bytes a.0 a.1)

-- ---- what is spelled

pub content_at-spelled : (f : Form) (c : Content) (bytes : List ℕ) → ContentSpelled f c bytes → content_at f bytes ≡ Some c
content_at-spelled Form.truth (Content.truth true) bytes h = ap truth_at h
content_at-spelled Form.truth (Content.truth false) bytes h = ap truth_at h
content_at-spelled (Form.unsigned w) (Content.number n) bytes h =
    ap (λ (xs : List ℕ). option_map Content.number (number_at (byte_len w) xs)) h.1 ∙ ap (option_map Content.number) (number_at-spelled (byte_len w) n h.0)
content_at-spelled (Form.signed w) (Content.integer z) bytes h =
    let make = λ (n : ℕ). Content.integer (cast_signed w n) in
    ap (λ (xs : List ℕ). option_map make (number_at (byte_len w) xs)) h.1
    ∙ ap (option_map make) (number_at-spelled (byte_len w) (cast_unsigned w z) (unsigned_below w z h.0))
    ∙ ap (λ (x : ℤ). Some (Content.integer x)) (to_z-of_z {w = w} {z = z} h.0)
content_at-spelled Form.double (Content.eight eight) bytes h =
    ap eight_at h.2 ∙ rw (eq-eqb (length eight) 8 h.0, are_bytes-below eight h.1) refl
content_at-spelled (Form.text kind) (Content.text text) bytes h =
    ap (text_at kind) h.1 ∙ ap (option_and_then (text_if kind)) (before_zero-spelled text)
    ∙ ap (λ (b : Bool). cond b (Some (Content.text text)) None) h.0
content_at-spelled Form.truth _ bytes h = absurd h
content_at-spelled (Form.unsigned w) _ bytes h = absurd h
content_at-spelled (Form.signed w) _ bytes h = absurd h
content_at-spelled Form.double _ bytes h = absurd h
content_at-spelled (Form.text kind) _ bytes h = absurd h

-- a value of fixed size has that length
pub length-content : (f : Form) (c : Content) (bytes : List ℕ) (s : ℕ) → ContentSpelled f c bytes → form_size f ≡ Some s → length bytes ≡ s
length-content Form.truth (Content.truth b) bytes s h e = ap length h ∙ same_Some 1 s e
length-content (Form.unsigned w) (Content.number n) bytes s h e = ap length h.1 ∙ length-le_bytes (byte_len w) n ∙ same_Some (byte_len w) s e
length-content (Form.signed w) (Content.integer z) bytes s h e = ap length h.1 ∙ length-le_bytes (byte_len w) (cast_unsigned w z) ∙ same_Some (byte_len w) s e
length-content Form.double (Content.eight eight) bytes s h e = ap length h.2 ∙ h.0 ∙ same_Some 8 s e
length-content (Form.text kind) c bytes s h e = absurd cc
length-content Form.truth _ bytes s h e = absurd h
length-content (Form.unsigned w) _ bytes s h e = absurd h
length-content (Form.signed w) _ bytes s h e = absurd h
length-content Form.double _ bytes s h e = absurd h

-- ---- which values fit, and their bytes

fits_half : (n h limit : ℕ) → h + h ≡ limit → n < h → n + n < limit
fits_half n h limit e lt = omega arith

from_half : (n h limit : ℕ) → h + h ≡ limit → n + n < limit → n < h
from_half n h limit e lt = omega arith

pub fits_signed-from : (w : Width) (z : ℤ) → SFits w z → fits_signed w z ≡ true
fits_signed-from w (pos n) h = lt-ltb (n + n) (256 ^ byte_len w) (fits_half n (2 ^ hbits w) (256 ^ byte_len w) (half w) h.sfits)
fits_signed-from w (negsuc n) h = lt-ltb (n + n) (256 ^ byte_len w) (fits_half n (2 ^ hbits w) (256 ^ byte_len w) (half w) h.sfits)

pub signed-fits_signed : (w : Width) (z : ℤ) → fits_signed w z ≡ true → SFits w z
signed-fits_signed w (pos n) h =
    record { sfits = from_half n (2 ^ hbits w) (256 ^ byte_len w) (half w) (ltb-true (n + n) (256 ^ byte_len w) h) }
signed-fits_signed w (negsuc n) h =
    record { sfits = from_half n (2 ^ hbits w) (256 ^ byte_len w) (half w) (ltb-true (n + n) (256 ^ byte_len w) h) }

pub record ContentIs (f : Form) (c : Content) (bytes : List ℕ) : Type 0 where
  pub fits : content_fits f c ≡ true
  pub bytes_are : bytes ≡ content_bytes f c

pub content_is : (f : Form) (c : Content) (bytes : List ℕ) → ContentSpelled f c bytes → ContentIs f c bytes
content_is Form.truth (Content.truth b) bytes h = record { fits = refl; bytes_are = h }
content_is (Form.unsigned w) (Content.number n) bytes h = record { fits = lt-ltb n (256 ^ byte_len w) h.0; bytes_are = h.1 }
content_is (Form.signed w) (Content.integer z) bytes h = record { fits = fits_signed-from w z h.0; bytes_are = h.1 }
content_is Form.double (Content.eight eight) bytes h =
    record { fits = and_from (eqb (length eight) 8) (are_bytes eight) (eq-eqb (length eight) 8 h.0) (are_bytes-below eight h.1); bytes_are = h.2 }
content_is (Form.text kind) (Content.text text) bytes h = record { fits = h.0; bytes_are = h.1 }
content_is Form.truth _ bytes h = absurd h
content_is (Form.unsigned w) _ bytes h = absurd h
content_is (Form.signed w) _ bytes h = absurd h
content_is Form.double _ bytes h = absurd h
content_is (Form.text kind) _ bytes h = absurd h

pub content_spelled : (f : Form) (c : Content) → content_fits f c ≡ true → ContentSpelled f c (content_bytes f c)
content_spelled Form.truth (Content.truth b) h = refl
content_spelled (Form.unsigned w) (Content.number n) h = (ltb-true n (256 ^ byte_len w) h, refl)
content_spelled (Form.signed w) (Content.integer z) h = (signed-fits_signed w z h, refl)
content_spelled Form.double (Content.eight eight) h =
    let p = and_parts (eqb (length eight) 8) (are_bytes eight) h in (eqb-true (length eight) 8 p.0, AllBelow-bytes eight p.1, refl)
content_spelled (Form.text kind) (Content.text text) h = (h, refl)
content_spelled Form.truth _ h = absurd cc
content_spelled (Form.unsigned w) _ h = absurd cc
content_spelled (Form.signed w) _ h = absurd cc
content_spelled Form.double _ h = absurd cc
content_spelled (Form.text kind) _ h = absurd cc

-- ---- basic types are told apart by their letters

pub same_basic : (b c : Basic) → eqb (basic_letter b) (basic_letter c) ≡ true → b ≡ c
same_basic b c e =
    let letters = eqb-true (basic_letter b) (basic_letter c) e in
    let found : Some (signs.Basic b) ≡ Some (signs.Basic c) =
    sym (sign_of-letter (signs.Basic b)) ∙ ap sign_of letters ∙ sign_of-letter (signs.Basic c) in
    cc
