-- The bytes of a header, one after the other.
use Rattle.std.proofs.Common.{◌≡◌, ℕ, zero, suc, ◌+◌, ◌≤◌, List, [], ◌∷◌, ◌++◌, length, take, None, refl, sym, ap, ◌∙◌, arith, length-append, append_assoc}
use Rattle.std.proofs.lemmas.Bool.Decides.{nat_tests}
use Rattle.std.proofs.lemmas.List.{append-nil}
use Rattle.std.specs.Int.{w32, to_be_bytes}
use Rattle.byteorder.specs.Endian.{little_bytes}
use Rattle.gv_value.specs.declared.basic.Basic.TheVariants as basics
use Rattle.gv_value.specs.Bytes.{le_bytes, le_value, zeros}
use Rattle.gv_value.specs.Framing.{width, framed, tuple_body, tuple_offsets}
use Rattle.gv_value.specs.Layout.{padding}
use Rattle.gv_value.specs.Shape.{Shape, Shapes, no_shapes, shape}
use Rattle.gv_value.specs.Spelling.{spelling, tuple_bytes}
use Rattle.gv_value.proofs.Numbers.{length-le_bytes, le_bytes-value}
use Rattle.ost_model.specs.Contents.{number_shape, attributes_shape, header_shape, header_value, with_length, header_bytes, header, link_header}

-- ---- numbers

-- a number whose bytes are turned is written high byte first
turned : (n : ℕ) → le_bytes 4 (le_value (to_be_bytes w32 n)) ≡ to_be_bytes w32 n
turned n = le_bytes-value (to_be_bytes w32 n) (omega arith, (omega arith, (omega arith, (omega arith, tt))))

-- the first of two bytes of a number are the number in fewer bytes
pub first_bytes : (size n : ℕ) → size ≤ 2 → le_bytes size n ≡ take size (little_bytes 2 n)
first_bytes zero n h = refl
first_bytes (suc zero) n h = refl
first_bytes (suc (suc zero)) n h = refl
first_bytes (suc (suc (suc size))) n h = absurd (omega arith)

-- ---- the tuple

abbrev members : Shapes
members = shape number_shape (shape number_shape (shape number_shape (shape number_shape
    (shape (Shape.basic basics.Str) (shape attributes_shape no_shapes)))))

-- the members' bytes, with the mode's
abbrev fields : List ℕ → List ℕ → List (List ℕ)
fields mode text = zeros 4 ∷ zeros 4 ∷ mode ∷ zeros 4 ∷ (text ++ 0 ∷ []) ∷ [] ∷ []

-- the numbers and the text
abbrev pub body : List ℕ → List ℕ → List ℕ
body mode text = zeros 8 ++ (mode ++ (zeros 4 ++ (text ++ 0 ∷ [])))

spelled_fields : (n : ℕ) (text : List ℕ) →
    spelling (header_value n text) header_shape ≡ tuple_bytes None members (fields (le_bytes 4 (le_value (to_be_bytes w32 n))) text)
spelled_fields n text = refl

no_padding : (n : ℕ) → padding n 1 ≡ 0
no_padding n = omega arith

body_is : (a b c d : ℕ) (text : List ℕ) → tuple_body members (fields (a ∷ b ∷ c ∷ d ∷ []) text) ≡ body (a ∷ b ∷ c ∷ d ∷ []) text
body_is a b c d text =
    let before : List ℕ = body (a ∷ b ∷ c ∷ d ∷ []) text in
    ap (λ (n : ℕ). before ++ (zeros n ++ [])) (no_padding (length before)) ∙ append-nil before

offsets_are : (a b c d : ℕ) (text : List ℕ) →
    tuple_offsets members (fields (a ∷ b ∷ c ∷ d ∷ []) text) ≡ length (body (a ∷ b ∷ c ∷ d ∷ []) text) ∷ []
offsets_are a b c d text = refl

length-body : (a b c d : ℕ) (text : List ℕ) → length (body (a ∷ b ∷ c ∷ d ∷ []) text) ≡ 17 + length text
length-body a b c d text = omega (arith, length-append text (0 ∷ []))

-- with the offset where the text ends
tuple_is : (a b c d : ℕ) (text : List ℕ) →
    tuple_bytes None members (fields (a ∷ b ∷ c ∷ d ∷ []) text)
    ≡ body (a ∷ b ∷ c ∷ d ∷ []) text ++ le_bytes (width (17 + length text) 1) (17 + length text)
tuple_is a b c d text =
    let whole : List ℕ = body (a ∷ b ∷ c ∷ d ∷ []) text in
    ap (λ (bytes : List ℕ). framed bytes (length whole ∷ [])) (body_is a b c d text)
    ∙ ap (λ (n : ℕ). whole ++ (le_bytes (width n 1) n ++ [])) (length-body a b c d text)
    ∙ ap (λ (bytes : List ℕ). whole ++ bytes) (append-nil (le_bytes (width (17 + length text) 1) (17 + length text)))

-- ---- the header

pub length-tuple : (m text : List ℕ) (size end : ℕ) → length m ≡ 4 →
    length (body m text ++ le_bytes size end) ≡ 17 + length text + size
length-tuple m text size end four =
    omega (
      arith,
      four,
      length-append m (zeros 4 ++ (text ++ 0 ∷ [])),
      length-append text (0 ∷ []),
      length-append (body m text) (le_bytes size end),
      length-le_bytes size end,
    )

pub tuple_of : (n : ℕ) (text : List ℕ) → spelling (header_value n text) header_shape
    ≡ body (to_be_bytes w32 n) text ++ le_bytes (width (17 + length text) 1) (17 + length text)
tuple_of n text =
    spelled_fields n text ∙ ap (λ (m : List ℕ). tuple_bytes None members (fields m text)) (turned n) ∙ tuple_is _ _ _ _ text

-- a header after its length, with the offset of the text's end in this number of bytes
pub header_is : (n size : ℕ) (text : List ℕ) → size ≡ width (17 + length text) 1 → header_bytes n text
    ≡ to_be_bytes w32 (17 + length text + size) ++ (zeros 4 ++ (body (to_be_bytes w32 n) text ++ le_bytes size (17 + length text)))
header_is n size text e =
    let whole : List ℕ = body (to_be_bytes w32 n) text ++ le_bytes size (17 + length text) in
    let tuple : spelling (header_value n text) header_shape ≡ whole =
    tuple_of n text ∙ ap (λ (w : ℕ). body (to_be_bytes w32 n) text ++ le_bytes w (17 + length text)) (sym e) in
    ap with_length tuple
    ∙ ap (λ (k : ℕ). to_be_bytes w32 k ++ (zeros 4 ++ whole)) (length-tuple (to_be_bytes w32 n) text size (17 + length text) refl)

-- a file's header, whose text is empty
pub file_header_is : (bits : ℕ) →
    header bits ≡ (to_be_bytes w32 18 ++ (zeros 12 ++ (to_be_bytes w32 (0x8000 + bits) ++ zeros 4))) ++ 0 ∷ 17 ∷ []
unfolding header
file_header_is bits = header_is (0x8000 + bits) 1 [] refl

-- an offset below 2 ^ 16 takes at most two bytes
pub narrow : (n : ℕ) → n + 2 ≤ 0xFFFF → width n 1 ≤ 2
narrow n h = grind (arith, nat_tests)

-- a link's header in parts, where its text ends after this number of bytes of the tuple
pub link_header_is : (target : List ℕ) (size end : ℕ) → end ≡ 16 + length target + 1 → size ≡ width end 1 → size ≤ 2 →
    (((to_be_bytes w32 (end + size) ++ (zeros 12 ++ (to_be_bytes w32 0xA1FF ++ zeros 4))) ++ target) ++ 0 ∷ [])
    ++ take size (little_bytes 2 end)
    ≡ link_header target
unfolding link_header
link_header_is target size end at e small =
    let there : end ≡ 17 + length target = omega arith in
    let wide : size ≡ width (17 + length target) 1 = e ∙ ap (λ (n : ℕ). width n 1) there in
    rw there
    (rw (← first_bytes size (17 + length target) small)
    (rw (header_is 0xA1FF size target wide) (rw (append_assoc target (0 ∷ []) (le_bytes size (17 + length target))) refl)))
