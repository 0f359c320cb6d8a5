-- Bodies that a filter reads and writes: strings, and arrays of strings.
use Rattle.std.specs.Prelude.{◌≡◌, ◌≤◌, ℕ, zero, suc, ◌+◌, ◌-◌, Bool, ◌==◌, nat_lt, if◌then◌else◌, List, [], ◌∷◌, ◌++◌, length, take, drop, codes, Option, Some, None, option_map, unwrap_or}
use Rattle.std.specs.Str.{bytes_eq}
use Rattle.bus_frame.specs.declared.limits.TheConstants.{MOST_ARRAY_BYTES}
use Rattle.bus_frame.specs.declared.header.Header.{Header}
use Rattle.bus_frame.specs.Steps.{first_of, remainder_byte}
use Rattle.fp_base.specs.Steps.{◌>>=◌}
use Rattle.bus_frame.specs.Places.{Place, bytes_at, long_text_at}
use Rattle.bus_frame.specs.Values.{array_head_at}
use Rattle.bus_frame.specs.Grammar.{IsLongText, array_head}
use Rattle.bus_frame.specs.Writing.{number_bytes, zeros, text_bytes}

-- The position at which the body begins, and the body's bytes
abbrev pub body_place : Header → List ℕ → Place
body_place h message = record { at = h.body_at; rest = take h.body_len (drop h.body_at message) }

-- The signature in a header; empty if there is none
abbrev pub signature_text : Header → List ℕ
signature_text h = unwrap_or h.signature []

-- Tests whether the signature in a header is this one
abbrev pub has_signature : Header → List ℕ → Bool
has_signature h types = bytes_eq (signature_text h) types

-- ---- bodies, by the bytes that encode them

-- The bytes of the body
abbrev pub body_bytes : Header → List ℕ → List ℕ
body_bytes h message = take h.body_len (drop h.body_at message)

-- The body begins with the string `text`, and its signature with `s`
pub record BeginsWithText (h : Header) (message text : List ℕ) : Type 0 where
  pub types : List ℕ
  pub typed : signature_text h ≡ 115 ∷ types
  pub first : List ℕ
  pub rest : List ℕ
  pub parts : body_bytes h message ≡ first ++ rest
  pub is : IsLongText h.little h.body_at text first

-- The bytes are these strings one after another, from the offset `at` on, and nothing else
abbrev pub AreTexts : Bool → ℕ → List (List ℕ) → List ℕ → Type 0
AreTexts little at [] bytes = bytes ≡ []
AreTexts little at (text ∷ texts) bytes =
    (first : List ℕ) × (rest : List ℕ) × (bytes ≡ first ++ rest) × IsLongText little at text first
    × AreTexts little (at + length first) texts rest

-- The body is exactly three strings, and its signature is `sss`
pub record AreThreeTexts (h : Header) (message a b c : List ℕ) : Type 0 where
  pub typed : signature_text h ≡ codes "sss"
  pub are : AreTexts h.little h.body_at (a ∷ b ∷ c ∷ []) (body_bytes h message)

-- The body is exactly one array of strings, and its signature is `as`
pub record AreNames (h : Header) (message : List ℕ) (names : List (List ℕ)) : Type 0 where
  pub typed : signature_text h ≡ codes "as"
  pub elements : List ℕ
  pub fits : length elements ≤ MOST_ARRAY_BYTES
  pub spelled : body_bytes h message ≡ array_head h.little 4 h.body_at (length elements) ++ elements
  pub are : AreTexts h.little
      (h.body_at + length (array_head h.little 4 h.body_at (length elements))) names elements

-- ---- reading of bodies

-- The string at the start of a body whose signature begins with `s`
unfoldable pub first_text : Header → List ℕ → Option (List ℕ)
first_text h message = do
  types ← remainder_byte 115 (signature_text h)
  text ← long_text_at h.little (body_place h message)
  Some text.0

-- The three strings at a position, if nothing follows them
unfoldable pub three_texts_at : Bool → Place → Option (List ℕ × List ℕ × List ℕ)
three_texts_at little p = do
  first ← long_text_at little p
  second ← long_text_at little first.1
  third ← long_text_at little second.1
  if length third.1.rest == 0 then Some (first.0, second.0, third.0) else None

-- The three strings of a body with the signature `sss`
unfoldable pub three_texts : Header → List ℕ → Option (List ℕ × List ℕ × List ℕ)
three_texts h message =
    if has_signature h (codes "sss") then three_texts_at h.little (body_place h message) else None

-- The strings one after another from a position up to the last byte. Each has at least one byte, so
-- the number of bytes bounds the steps.
unfoldable pub texts_at : Bool → ℕ → Place → Option (List (List ℕ))
texts_at little zero p = if length p.rest == 0 then Some [] else None
texts_at little (suc n) p =
    if length p.rest == 0 then Some []
    else (long_text_at little p >>= λ text. option_map (λ more. text.0 ∷ more)
    (texts_at little n text.1))

-- The bytes of the elements of an array of strings, if nothing follows the array
unfoldable pub elements_place : Bool → Place → Option Place
elements_place little p = do
  head ← array_head_at little (codes "s") p
  body ← bytes_at head.0 head.1
  if length body.1.rest == 0 then Some (record { at = head.1.at; rest = body.0 }) else None

-- The bytes of the elements of a body that is one array of strings, with the signature `as`
unfoldable pub names_place : Header → List ℕ → Option Place
names_place h message =
    if has_signature h (codes "as") then elements_place h.little (body_place h message) else None

-- The strings of a body that is one array of strings, with the signature `as`
unfoldable pub names_in : Header → List ℕ → Option (List (List ℕ))
names_in h message = do
  p ← names_place h message
  texts_at h.little (length p.rest) p
