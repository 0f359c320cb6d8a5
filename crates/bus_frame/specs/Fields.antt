-- The header fields (D-Bus specification, "Message Protocol", "Header Fields").
use Rattle.std.specs.Prelude.{◌≡◌, ℕ, zero, suc, ◌-◌, Bool, true, false, ◌||◌, ◌==◌, not, if◌then◌else◌, List, length, Option, Some, None, is_some, option_map, Result, Ok, Err}
use Rattle.bus_frame.specs.declared.limits.TheConstants.{MOST_CONTAINERS, MOST_ARRAYS, MOST_STRUCTS}
use Rattle.fp_base.specs.declared.frame_rule.FrameRule.{FrameRule}
use Rattle.fp_base.specs.declared.frame_rule.FrameRule.TheVariants.{Fields, Code, Double, Kind, Value}
use Rattle.bus_frame.specs.declared.known.Grammar.{Grammar}
use Rattle.bus_frame.specs.declared.known.Grammar.TheVariants as grammar
use Rattle.bus_frame.specs.declared.field.RawContent.{RawContent}
use Rattle.bus_frame.specs.declared.field.RawContent.TheVariants as raw
use Rattle.bus_frame.specs.declared.field.RawField.{RawField}
use Rattle.bus_frame.specs.declared.known.RawKnown.{RawKnown}
use Rattle.bus_frame.specs.Names.{is_path, is_interface, is_member, is_bus}
use Rattle.bus_frame.specs.Types.{is_signature}
use Rattle.bus_frame.specs.Steps.{first_of}
use Rattle.fp_base.specs.Steps.{◌>>=◌}
use Rattle.bus_frame.specs.Places.{Place, byte_at, aligned_at, number_at, long_text_at, short_text_at}
use Rattle.bus_frame.specs.Values.{value_at, variant_type_at}

-- The value of a header field: a string, with its type's code for s, o or g before it; a number of
-- the type u; or a value of another type
pub data Content : Type 0 where
  word : ℕ → List ℕ → Content
  number : ℕ → Content
  other : Content

-- A header field with any code
pub record Field : Type 0 where
  pub code : ℕ
  pub content : Content

-- The value of a field that the code read
abbrev pub content_of : RawContent → Content
content_of (raw.Word code text) = word code text.now
content_of (raw.Number n) = number n
content_of raw.Other = other

-- The field that the code read
abbrev pub field_of : RawField → Field
field_of f = record { code = f.code; content = content_of f.content }

-- Reads the value of a field by its type. The field's variant is the first of the 64 containers.
unfoldable pub content_at : Bool → List ℕ → Place → Option (Content × Place)
content_at little types p = do
  code ← first_of types
  if code.0 == 115 || code.0 == 111
      then option_map (λ t. (word code.0 t.0, t.1)) (long_text_at little p)
      else (if code.0 == 103 then option_map (λ t. (word code.0 t.0, t.1)) (short_text_at p)
      else (if code.0 == 117 then option_map (λ n. (number n.0, n.1)) (number_at little p)
      else option_map (λ r. (other, r.1))
      (value_at little (MOST_CONTAINERS - 1) MOST_ARRAYS MOST_STRUCTS types p)))

-- Reads a field: a code and a variant, at a multiple of 8
unfoldable pub field_at : Bool → Place → Option (Field × Place)
field_at little p = do
  q ← aligned_at 8 p
  code ← byte_at q
  types ← variant_type_at code.1
  content ← content_at little types.0 types.1
  Some (record { code = code.0; content = content.0 }, content.1)

-- The header fields with the codes 1 to 9
pub record Known : Type 0 where
  pub path : Option (List ℕ)
  pub interface : Option (List ℕ)
  pub member : Option (List ℕ)
  pub error_name : Option (List ℕ)
  pub reply_serial : Option ℕ
  pub destination : Option (List ℕ)
  pub sender : Option (List ℕ)
  pub signature : Option (List ℕ)
  pub unix_fds : Option ℕ

-- The known fields that the code read
abbrev pub known_of : RawKnown → Known
known_of k = record {
  path = option_map (λ t. t.now) k.path;
  interface = option_map (λ t. t.now) k.interface;
  member = option_map (λ t. t.now) k.member;
  error_name = option_map (λ t. t.now) k.error_name;
  reply_serial = k.reply_serial;
  destination = option_map (λ t. t.now) k.destination;
  sender = option_map (λ t. t.now) k.sender;
  signature = option_map (λ t. t.now) k.signature;
  unix_fds = k.unix_fds;
}

-- No known field
abbrev pub none_known : Known
none_known = record {
  path = None;
  interface = None;
  member = None;
  error_name = None;
  reply_serial = None;
  destination = None;
  sender = None;
  signature = None;
  unix_fds = None;
}

-- Runs the second step on the value of the first; the rule if the first one broke a rule
infixl 10 ◌>=>◌
abbrev pub ◌>=>◌ : {A B : Type 0} → Result A FrameRule → (A → Result B FrameRule)
    → Result B FrameRule
(Ok x) >=> f = f x
(Err rule) >=> f = Err rule

-- Tests whether a string follows a grammar
abbrev pub good_text : Grammar → List ℕ → Bool
good_text grammar.Path = is_path
good_text grammar.Interface = is_interface
good_text grammar.Member = is_member
good_text grammar.Bus = is_bus
good_text grammar.Signature = is_signature

-- The string of a field, which has this type and is `good`
abbrev pub word_in : ℕ → (List ℕ → Bool) → Content → Result (List ℕ) FrameRule
word_in type good (word code text) =
    if code == type then (if good text then Ok text else Err Value) else Err Kind
word_in type good (number n) = Err Kind
word_in type good other = Err Kind

-- The number of a field; it may be 0 only if `zero_too` is true
abbrev pub number_in : Bool → Content → Result ℕ FrameRule
number_in zero_too (word code text) = Err Kind
number_in zero_too (number n) = if zero_too || not (n == 0) then Ok n else Err Value
number_in zero_too other = Err Kind

-- The new value of a known field, or `Double` if the field occurred before
abbrev pub once : {A : Type 0} → Option A → Result A FrameRule → Result (Option A) FrameRule
once (Some before) new = Err Double
once None new = new >=> λ x. Ok (Some x)

-- Adds a field to the known ones, or returns the first rule that the field breaks
unfoldable pub add_field : Known → Field → Result Known FrameRule
add_field k f =
    if f.code == 0 then Err Code
    else (if f.code == 1 then (once k.path (word_in 111 (good_text grammar.Path) f.content)
    >=> λ x. Ok (record k { path = x }))
    else (if f.code == 2 then
    (once k.interface (word_in 115 (good_text grammar.Interface) f.content)
    >=> λ x. Ok (record k { interface = x }))
    else (if f.code == 3 then (once k.member (word_in 115 (good_text grammar.Member) f.content)
    >=> λ x. Ok (record k { member = x }))
    else (if f.code == 4 then
    (once k.error_name (word_in 115 (good_text grammar.Interface) f.content)
    >=> λ x. Ok (record k { error_name = x }))
    else (if f.code == 5 then (once k.reply_serial (number_in false f.content)
    >=> λ x. Ok (record k { reply_serial = x }))
    else (if f.code == 6 then (once k.destination (word_in 115 (good_text grammar.Bus) f.content)
    >=> λ x. Ok (record k { destination = x }))
    else (if f.code == 7 then (once k.sender (word_in 115 (good_text grammar.Bus) f.content)
    >=> λ x. Ok (record k { sender = x }))
    else (if f.code == 8 then
    (once k.signature (word_in 103 (good_text grammar.Signature) f.content)
    >=> λ x. Ok (record k { signature = x }))
    else (if f.code == 9 then (once k.unix_fds (number_in true f.content)
    >=> λ x. Ok (record k { unix_fds = x }))
    else Ok k)))))))))

-- The value, or the rule if there is none
abbrev pub or_rule : {A : Type 0} → FrameRule → Option A → Result A FrameRule
or_rule rule (Some x) = Ok x
or_rule rule None = Err rule

-- Reads fields up to the last byte: the known ones, or the first rule that is broken. Each field
-- has at least one byte, so the number of bytes bounds the steps.
unfoldable pub fields_at : Bool → ℕ → Known → Place → Result Known FrameRule
fields_at little zero k p = if length p.rest == 0 then Ok k else Err Fields
fields_at little (suc n) k p =
    if length p.rest == 0 then Ok k
    else (or_rule Fields (field_at little p) >=> λ f. add_field k f.0
    >=> λ more. fields_at little n more f.1)
