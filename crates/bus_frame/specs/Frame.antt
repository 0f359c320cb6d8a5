-- Messages, and the first rule that bytes break (D-Bus specification, "Message Protocol").
use Rattle.std.specs.Prelude.{◌≡◌, ◌≢◌, ◌⊎◌, ℕ, ◌+◌, ◌≤◌, Bool, true, false, ◌||◌, ◌&&◌, ◌==◌, not, nat_lt, if◌then◌else◌, List, [], ◌∷◌, ◌++◌, length, take, drop, Option, Some, None, is_some, option_map}
use Rattle.std.specs.List.{list_all}
use Rattle.fp_base.specs.declared.frame_rule.FrameRule.{FrameRule}
use Rattle.fp_base.specs.declared.frame_rule.FrameRule.TheVariants.{Fields, Code, Double, Kind, Value, Padding, Required, Body}
use Rattle.bus_frame.specs.declared.known.Grammar.{Grammar}
use Rattle.bus_frame.specs.declared.known.Grammar.TheVariants as grammar
use Rattle.bus_frame.specs.declared.fixed.Fixed.{Fixed}
use Rattle.bus_frame.specs.declared.header.Header.{Header}
use Rattle.bus_frame.specs.declared.message.MessageType.{MessageType}
use Rattle.bus_frame.specs.declared.message.MessageType.TheVariants as type
use Rattle.bus_frame.specs.Numbers.{padding, are_zero}
use Rattle.bus_frame.specs.Fields.{Content, word, number, other, Field, good_text}
use Rattle.bus_frame.specs.Reading.{is_little, type_of, fixed_of, array_end, body_start, message_len, fixed_fault}
use Rattle.bus_frame.specs.Grammar.{IsField, AreFields}

-- ---- the known fields

-- The value of the first field with a code, if there is one
abbrev pub given : ℕ → List Field → Option Content
given code [] = None
given code (f ∷ fs) = if f.code == code then Some f.content else given code fs

-- The code of the type that a known field with a string has: o for PATH (1), g for SIGNATURE (8), s
-- for the others
abbrev pub word_type : ℕ → ℕ
word_type code = if code == 1 then 111 else (if code == 8 then 103 else 115)

-- Tests whether a known field is a number of the type u: REPLY_SERIAL (5) and UNIX_FDS (9)
abbrev pub is_number_field : ℕ → Bool
is_number_field code = code == 5 || code == 9

-- Tests whether a value has the type of the known field with this code
abbrev pub is_kind : ℕ → Content → Bool
is_kind code (word type text) = not (is_number_field code) && type == word_type code
is_kind code (number n) = is_number_field code
is_kind code other = false

-- The grammar of the string of a known field
abbrev pub known_grammar : ℕ → Grammar
known_grammar code =
    if code == 1 then grammar.Path
    else (if code == 3 then grammar.Member
    else (if code == 6 || code == 7 then grammar.Bus
    else (if code == 8 then grammar.Signature
    else grammar.Interface)))

-- Tests whether the value of a known field is valid: a string follows its grammar, and a reply
-- serial isn't 0
abbrev pub is_good : ℕ → Content → Bool
is_good code (word type text) = not (is_number_field code) && good_text (known_grammar code) text
is_good code (number n) = code == 9 || (code == 5 && not (n == 0))
is_good code other = false

-- The first rule that a field breaks, after the fields `before`
abbrev pub field_fault : List Field → Field → Option FrameRule
field_fault before f =
    if f.code == 0 then Some Code
    else (if nat_lt 9 f.code then None
    else (if is_some (given f.code before) then Some Double
    else (if not (is_kind f.code f.content) then Some Kind
    else (if not (is_good f.code f.content) then Some Value
    else None))))

-- No field breaks a rule, after the fields `before`
abbrev pub AreFine : List Field → List Field → Type 0
AreFine before [] = Unit {0}
AreFine before (f ∷ fs) = (field_fault before f ≡ None) × AreFine (before ++ f ∷ []) fs

-- The codes of the fields that messages of a type require
abbrev pub needed_fields : MessageType → List ℕ
needed_fields type.MethodCall = 1 ∷ 3 ∷ []
needed_fields type.MethodReturn = 5 ∷ []
needed_fields type.Error = 4 ∷ 5 ∷ []
needed_fields type.Signal = 1 ∷ 2 ∷ 3 ∷ []
needed_fields (type.Unknown n) = []

-- Tests whether the fields that messages of a type require are there
abbrev pub has_needed : MessageType → List Field → Bool
has_needed kind fields = list_all (λ code. is_some (given code fields)) (needed_fields kind)

-- Tests whether there is a signature and it isn't empty
abbrev pub is_typing : Option Content → Bool
is_typing None = false
is_typing (Some (word code text)) = not (length text == 0)
is_typing (Some (number n)) = false
is_typing (Some other) = false

-- ---- the parts of a message

-- The bytes are as long as the message that their first 16 bytes describe: those 16, the array of
-- header fields, the padding to a multiple of 8, and the body
pub record HasParts (bytes array gap body : List ℕ) : Type 0 where
  pub sound : fixed_fault (fixed_of bytes) ≡ None
  pub spelled : bytes ≡ take 16 bytes ++ array ++ gap ++ body
  pub head : 16 ≤ length bytes
  pub array_len : length array ≡ (fixed_of bytes).array_len
  pub gap_len : length gap ≡ padding 8 (array_end (fixed_of bytes))
  pub body_len : length body ≡ (fixed_of bytes).body_len

-- The value of the known field with a code, as a header contains it
abbrev pub header_says : Header → ℕ → Option Content
header_says h code =
    if code == 1 then option_map (word 111) h.path
    else (if code == 2 then option_map (word 115) h.interface
    else (if code == 3 then option_map (word 115) h.member
    else (if code == 4 then option_map (word 115) h.error_name
    else (if code == 5 then option_map number h.reply_serial
    else (if code == 6 then option_map (word 115) h.destination
    else (if code == 7 then option_map (word 115) h.sender
    else (if code == 8 then option_map (word 103) h.signature
    else None)))))))

-- `h` is the header of a message with this fixed part and these fields
pub record IsHeader (f : Fixed) (fields : List Field) (h : Header) : Type 0 where
  pub little : h.little ≡ is_little f
  pub kind : h.kind ≡ type_of f
  pub flags : h.flags ≡ f.flags
  pub serial : h.serial ≡ f.serial
  pub known : (code : ℕ) → 1 ≤ code → code ≤ 8 → header_says h code ≡ given code fields
  pub body_at : h.body_at ≡ body_start f
  pub body_len : h.body_len ≡ f.body_len

-- The bytes are one whole message with this header
pub record Frame (bytes : List ℕ) (h : Header) : Type 0 where
  pub array : List ℕ
  pub gap : List ℕ
  pub body : List ℕ
  pub fields : List Field
  pub parts : HasParts bytes array gap body
  pub spelled : AreFields (is_little (fixed_of bytes)) 16 fields array
  pub fine : AreFine [] fields
  pub padded : are_zero gap ≡ true
  pub needed : has_needed (type_of (fixed_of bytes)) fields ≡ true
  pub typed : (length body == 0 || is_typing (given 8 fields)) ≡ true
  pub header : IsHeader (fixed_of bytes) fields h

-- ---- the first broken rule

-- The fields `before` are at the start of the array of header fields and break no rule; `rest` is
-- what follows them in the array, from the offset `at` on
pub record FineUpTo (bytes : List ℕ) (before : List Field) (at : ℕ) (rest : List ℕ) : Type 0 where
  pub array : List ℕ
  pub gap : List ℕ
  pub body : List ℕ
  pub front : List ℕ
  pub parts : HasParts bytes array gap body
  pub array_is : array ≡ front ++ rest
  pub at_is : at ≡ 16 + length front
  pub spelled : AreFields (is_little (fixed_of bytes)) 16 before front
  pub fine : AreFine [] before

-- The first broken rule of those that are checked after the fields
abbrev pub rest_fault : MessageType → List Field → (gap body : List ℕ) → Option FrameRule
rest_fault kind fields gap body =
    if not (are_zero gap) then Some Padding
    else (if not (has_needed kind fields) then Some Required
    else (if not (length body == 0 || is_typing (given 8 fields)) then Some Body
    else None))

-- The rule is the first one that the bytes break: one of the fixed part; or, in bytes as long as
-- their message, `Fields` where something else than a field is, a rule that a field breaks, or one
-- of those that are checked after the fields
pub data Breaks (bytes : List ℕ) (rule : FrameRule) : Type 0 where
  fixed_part : 16 ≤ length bytes → fixed_fault (fixed_of bytes) ≡ Some rule → Breaks bytes rule
  no_field : (before : List Field) (at : ℕ) (rest : List ℕ)
      → FineUpTo bytes before at rest → rest ≢ []
      → ((f : Field) (x y : List ℕ) → rest ≡ x ++ y → IsField (is_little (fixed_of bytes)) at f x
      → ⊥) → rule ≡ Fields → Breaks bytes rule
  broken_field : (before : List Field) (at : ℕ) (x y : List ℕ) (f : Field)
      → FineUpTo bytes before at (x ++ y) → IsField (is_little (fixed_of bytes)) at f x
      → field_fault before f ≡ Some rule → Breaks bytes rule
  broken_rest : (array gap body : List ℕ) (fields : List Field) → HasParts bytes array gap body
      → AreFields (is_little (fixed_of bytes)) 16 fields array → AreFine [] fields
      → rest_fault (type_of (fixed_of bytes)) fields gap body ≡ Some rule → Breaks bytes rule
