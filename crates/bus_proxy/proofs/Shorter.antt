-- A list with fewer names is written in no more bytes.
use Rattle.std.proofs.Common.{◌≡◌, ℕ, ◌+◌, ◌-◌, ◌%◌, ◌<◌, ◌≤◌, Bool, List, [], ◌∷◌, ◌++◌, length, Some, sym, ap, subst, ◌∙◌, arith}
use Rattle.std.proofs.lemmas.List.{length-append, length-take}
use Rattle.bus_frame.specs.declared.header.Header.{Header}
use Rattle.bus_frame.specs.Numbers.{padding}
use Rattle.bus_frame.specs.Writing.{zeros, number_bytes, text_bytes, in_row, element_bytes, elements_bytes, names_bytes}
use Rattle.bus_frame.specs.Grammar.{IsLongText, array_head}
use Rattle.bus_frame.specs.Bodies.{body_bytes, AreTexts, AreNames}
use Rattle.bus_frame.proofs.Taking.{length-zeros}
use Rattle.bus_frame.proofs.Rows.{in_row-push, length-number_bytes, length-names_bytes}

element_len : (little : Bool) (at : ℕ) (text : List ℕ) → length (element_bytes little at text) ≡ padding 4 at + 5 + length text
element_len little at text =
    omega (
      arith,
      length-append (zeros 4 at) (text_bytes little text),
      length-zeros 4 at,
      length-append (number_bytes little (length text) ++ text) (0 ∷ []),
      length-append (number_bytes little (length text)) text,
      length-number_bytes little (length text),
    )

-- what is padded from a later place ends later
padded : (a b : ℕ) → a ≤ b → a + padding 4 a ≤ b + padding 4 b
padded a b le = omega arith

pub ends_later : (little : Bool) (a b : ℕ) (names : List (List ℕ)) → a ≤ b → a + length (elements_bytes little a names) ≤ b + length (elements_bytes little b names)
ends_later little a b [] le = omega (arith, le)
ends_later little a b (name ∷ names) le =
    let first = element_bytes little a name in
    let second = element_bytes little b name in
    let heads = padded a b le in
    let one = element_len little a name in
    let two = element_len little b name in
    let later = ends_later little (a + length first) (b + length second) names (omega (arith, heads, one, two)) in
    omega (arith, later, length-append first (elements_bytes little (a + length first) names), length-append second (elements_bytes little (b + length second) names))

-- ---- one name more

pub push_len : (little : Bool) (at : ℕ) (names : List (List ℕ)) (name : List ℕ)
    → length (elements_bytes little at (names ++ name ∷ [])) ≡ length (elements_bytes little at names) + (padding 4 (at + length (elements_bytes little at names)) + 5 + length name)
push_len little at names name =
    let before = elements_bytes little at names in
    let place = at + length before in
    ap (λ (l : List ℕ). length l) (in_row-push (element_bytes little) at names name)
    ∙ length-append before (element_bytes little place name)
    ∙ ap (λ (n : ℕ). length before + n) (element_len little place name)

pub both_more : (little : Bool) (at : ℕ) (fewer names : List (List ℕ)) (name : List ℕ) → length (elements_bytes little at fewer) ≤ length (elements_bytes little at names)
    → length (elements_bytes little at (fewer ++ name ∷ [])) ≤ length (elements_bytes little at (names ++ name ∷ []))
both_more little at fewer names name le =
    let heads = padded (at + length (elements_bytes little at fewer)) (at + length (elements_bytes little at names)) (omega (arith, le)) in
    omega (arith, le, heads, push_len little at fewer name, push_len little at names name)

pub one_more : (little : Bool) (at : ℕ) (fewer names : List (List ℕ)) (name : List ℕ) → length (elements_bytes little at fewer) ≤ length (elements_bytes little at names)
    → length (elements_bytes little at fewer) ≤ length (elements_bytes little at (names ++ name ∷ []))
one_more little at fewer names name le = omega (arith, le, push_len little at names name)

-- ---- the body that spells names

texts_len : (little : Bool) (at : ℕ) (names : List (List ℕ)) (bytes : List ℕ) → AreTexts little at names bytes → length bytes ≡ length (elements_bytes little at names)
texts_len little at [] bytes are = ap (λ (l : List ℕ). length l) are
texts_len little at (name ∷ names) bytes are = all are.0 are.1 are.2 are.3 (texts_len little (at + length are.0) names are.1 are.4)
  where
    all : (first rest : List ℕ) → bytes ≡ first ++ rest → IsLongText little at name first → length rest ≡ length (elements_bytes little (at + length first) names) → length bytes ≡ length (elements_bytes little at (name ∷ names))
    all first rest parts is later =
        let written = element_bytes little at name in
        let one : length first ≡ length written =
        omega (
          arith,
          ap (λ (l : List ℕ). length l) is.spelled,
          length-append ((zeros 4 at ++ number_bytes little (length name)) ++ name) (0 ∷ []),
          length-append (zeros 4 at ++ number_bytes little (length name)) name,
          length-append (zeros 4 at) (number_bytes little (length name)),
          length-zeros 4 at,
          length-number_bytes little (length name),
          element_len little at name,
        ) in
        let moved : length (elements_bytes little (at + length first) names) ≡ length (elements_bytes little (at + length written) names) = ap (λ (n : ℕ). length (elements_bytes little (at + n) names)) one in
        omega (arith, ap (λ (l : List ℕ). length l) parts, length-append first rest, one, later, moved, length-append written (elements_bytes little (at + length written) names))

head_len : (little : Bool) (at n : ℕ) → 4 ≤ length (array_head little 4 at n)
head_len little at n =
    let count = zeros 4 at ++ number_bytes little n in
    omega (arith, length-append count (zeros 4 (at + length count)), length-append (zeros 4 at) (number_bytes little n), length-number_bytes little n)

-- names that are spelled have room in their body
pub room : (h : Header) (message : List ℕ) (names : List (List ℕ)) → AreNames h message names → length (names_bytes h.little h.body_at names) ≤ h.body_len
room h message names are =
    let head = array_head h.little 4 h.body_at (length are.elements) in
    let place = h.body_at + length head in
    let body : length (body_bytes h message) ≤ h.body_len = omega (arith, length-take {A = ℕ}) in
    let spelled = ap (λ (l : List ℕ). length l) are.spelled in
    let texts = texts_len h.little place names are.elements are.are in
    let later = ends_later h.little (h.body_at + 4) place names (omega (arith, head_len h.little h.body_at (length are.elements))) in
    omega (arith, body, spelled, length-append head are.elements, texts, later, length-names_bytes h.little h.body_at names)

pub still_room : (h : Header) (fewer names : List (List ℕ)) → length (elements_bytes h.little (h.body_at + 4) fewer) ≤ length (elements_bytes h.little (h.body_at + 4) names)
    → length (names_bytes h.little h.body_at names) ≤ h.body_len → length (names_bytes h.little h.body_at fewer) ≤ h.body_len
still_room h fewer names le fits = omega (arith, le, fits, length-names_bytes h.little h.body_at fewer, length-names_bytes h.little h.body_at names)
