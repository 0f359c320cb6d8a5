-- The rules after the fields, said of what is known and of the fields.
use Rattle.std.proofs.Common.{◌≡◌, ℕ, zero, suc, ◌+◌, ◌-◌, ◌<◌, ◌≤◌, Bool, true, false, not, cond, eqb, ltb, List, [], ◌∷◌, ◌++◌, length, Option, Some, None, refl, sym, ap, subst, ◌∙◌, inl, inr, arith}
use Rattle.std.specs.Prelude.{◌&&◌, ◌||◌, option_map, is_some, is_none, unwrap_or}
use Rattle.std.specs.List.{list_all}
use Rattle.std.proofs.lemmas.Bool.{eqb-true, eqb-false, eq-eqb, ne_eqb, lt-ltb, le-ltb, cases_Bool}
use Rattle.fp_base.specs.declared.frame_rule.FrameRule.{FrameRule}
use Rattle.fp_base.specs.declared.frame_rule.FrameRule.TheVariants.{Padding, Required, Body}
use Rattle.bus_frame.specs.declared.fixed.Fixed.{Fixed}
use Rattle.bus_frame.specs.declared.header.Header.{Header}
use Rattle.bus_frame.specs.declared.message.MessageType.{MessageType}
use Rattle.bus_frame.specs.declared.message.MessageType.TheVariants as type
use Rattle.bus_frame.specs.declared.message.Flags.{Flags}
use Rattle.bus_frame.specs.Numbers.{are_zero}
use Rattle.bus_frame.specs.Fields.{Content, word, number, other, Field, Known}
use Rattle.bus_frame.specs.Reading.{is_little, type_of, body_start, lacks_field, end_fault, header_of}
use Rattle.bus_frame.specs.Frame.{given, has_needed, needed_fields, is_typing, rest_fault, header_says, IsHeader}
use Rattle.bus_frame.proofs.KnownLaws.{known_says, Tied}
use Rattle.bus_frame.proofs.ValueAgain.{at_yes, at_no}

-- ---- needed fields

is_some_map : {A B : Type 0} (f : A → B) (o : Option A) → is_some (option_map f o) ≡ not (is_none o)
is_some_map f None = refl
is_some_map f (Some x) = refl

-- whether all these codes are known
abbrev knows : Known → List ℕ → Bool
knows k codes = list_all (λ code. is_some (known_says k code)) codes

two_lack : (a b : Bool) → (a || b) ≡ not (not a && (not b && true))
two_lack true b = refl
two_lack false true = refl
two_lack false false = refl

three_lack : (a b c : Bool) → ((a || b) || c) ≡ not (not a && (not b && (not c && true)))
three_lack true b c = refl
three_lack false true c = refl
three_lack false false true = refl
three_lack false false false = refl

one_lacks : (a : Bool) → a ≡ not (not a && true)
one_lacks true = refl
one_lacks false = refl

lacks-known : (kind : MessageType) (k : Known) → lacks_field kind k ≡ not (knows k (needed_fields kind))
lacks-known type.MethodCall k =
    let path = is_some_map (word 111) k.path in
    let member = is_some_map (word 115) k.member in
    two_lack (is_none k.path) (is_none k.member) ∙ sym (rw (path, member) refl)
lacks-known type.MethodReturn k =
    let reply = is_some_map number k.reply_serial in
    one_lacks (is_none k.reply_serial) ∙ sym (rw reply refl)
lacks-known type.Error k =
    let error_name = is_some_map (word 115) k.error_name in
    let reply = is_some_map number k.reply_serial in
    two_lack (is_none k.error_name) (is_none k.reply_serial) ∙ sym (rw (error_name, reply) refl)
lacks-known type.Signal k =
    let path = is_some_map (word 111) k.path in
    let interface = is_some_map (word 115) k.interface in
    let member = is_some_map (word 115) k.member in
    three_lack (is_none k.path) (is_none k.interface) (is_none k.member) ∙ sym (rw (path, interface, member) refl)
lacks-known (type.Unknown n) k = refl

-- codes of known fields
abbrev InRange : List ℕ → Type 0
InRange [] = Unit {0}
InRange (c ∷ codes) = (1 ≤ c) × (c ≤ 9) × InRange codes

needed_in_range : (kind : MessageType) → InRange (needed_fields kind)
needed_in_range type.MethodCall = (omega arith, omega arith, (omega arith, omega arith, tt))
needed_in_range type.MethodReturn = (omega arith, omega arith, tt)
needed_in_range type.Error = (omega arith, omega arith, (omega arith, omega arith, tt))
needed_in_range type.Signal = (omega arith, omega arith, (omega arith, omega arith, (omega arith, omega arith, tt)))
needed_in_range (type.Unknown n) = tt

all_known : (k : Known) (fields : List Field) → Tied k fields → (codes : List ℕ) → InRange codes → knows k codes ≡ list_all (λ code. is_some (given code fields)) codes
all_known k fields t [] r = refl
all_known k fields t (c ∷ codes) r =
    ap (λ (o : Option Content). is_some o && knows k codes) (t.says c r.0 r.1) ∙ ap (λ (b : Bool). is_some (given c fields) && b) (all_known k fields t codes r.2)

pub lacks-needed : (kind : MessageType) (k : Known) (fields : List Field) → Tied k fields → lacks_field kind k ≡ not (has_needed kind fields)
lacks-needed kind k fields t = lacks-known kind k ∙ ap not (all_known k fields t (needed_fields kind) (needed_in_range kind))

-- ---- the signature

untyped : (o : Option (List ℕ)) → eqb (length (unwrap_or o [])) 0 ≡ not (is_typing (option_map (word 103) o))
untyped None = refl
untyped (Some s) = by_test (eqb (length s) 0)
  where
    by_test : (b : Bool) → b ≡ not (not b)
    by_test true = refl
    by_test false = refl

some_body : (n : ℕ) → ltb 0 n ≡ not (eqb n 0)
some_body n =
    elim (cases_Bool (eqb n 0)) [
      | inl e ↦ let z = eqb-true n 0 e in le-ltb 0 n (omega arith) ∙ ap not (sym e)
      | inr e ↦ let nz = eqb-false n 0 e in lt-ltb 0 n (omega arith) ∙ ap not (sym e)
    ]

neither : (a b : Bool) → (not a && not b) ≡ not (a || b)
neither true b = refl
neither false b = refl

body_untyped : (k : Known) (fields : List Field) (n : ℕ) → Tied k fields → (ltb 0 n && eqb (length (unwrap_or k.signature [])) 0) ≡ not (eqb n 0 || is_typing (given 8 fields))
body_untyped k fields n t =
    let typing : not (is_typing (option_map (word 103) k.signature)) ≡ not (is_typing (given 8 fields)) = ap (λ (o : Option Content). not (is_typing o)) (t.says 8 (omega arith) (omega arith)) in
    ap (λ (b : Bool). b && eqb (length (unwrap_or k.signature [])) 0) (some_body n)
    ∙ ap (λ (b : Bool). not (eqb n 0) && b) (untyped k.signature ∙ typing)
    ∙ neither (eqb n 0) (is_typing (given 8 fields))

-- ---- both

pub end-rest : (f : Fixed) (k : Known) (fields : List Field) (gap body : List ℕ) → Tied k fields → length body ≡ f.body_len → end_fault f k gap ≡ rest_fault (type_of f) fields gap body
unfolding end_fault
end-rest f k fields gap body t len =
    let typed : (ltb 0 f.body_len && eqb (length (unwrap_or k.signature [])) 0) ≡ not (eqb (length body) 0 || is_typing (given 8 fields)) =
    body_untyped k fields f.body_len t ∙ ap (λ (n : ℕ). not (eqb n 0 || is_typing (given 8 fields))) (sym len) in
    ap (λ (b : Bool). cond (not (are_zero gap)) (Some Padding) (cond b (Some Required) (cond (ltb 0 f.body_len && eqb (length (unwrap_or k.signature [])) 0) (Some Body) None))) (lacks-needed (type_of f) k fields t)
    ∙ ap (λ (b : Bool). cond (not (are_zero gap)) (Some Padding) (cond (not (has_needed (type_of f) fields)) (Some Required) (cond b (Some Body) None))) typed

-- ---- the header

says_same : (f : Fixed) (k : Known) (code : ℕ) → code ≤ 8 → header_says (header_of f k) code ≡ known_says k code
says_same f k code le =
    let no_nine : eqb code 9 ≡ false = ne_eqb code 9 (λ e. omega arith) in
    sym (rw no_nine refl)

pub header_is : (f : Fixed) (k : Known) (fields : List Field) → Tied k fields → IsHeader f fields (header_of f k)
header_is f k fields t = record {
  little = refl;
  kind = refl;
  flags = refl;
  serial = refl;
  known = λ code low high. says_same f k code high ∙ t.says code low (omega arith);
  body_at = refl;
  body_len = refl;
}

-- a text or a number is what its content says
text_same : (type : ℕ) (a b : Option (List ℕ)) → option_map (word type) a ≡ option_map (word type) b → a ≡ b
text_same type None None e = refl
text_same type None (Some b) e = absurd cc
text_same type (Some a) None e = absurd cc
text_same type (Some a) (Some b) e = cc

number_same : (a b : Option ℕ) → option_map number a ≡ option_map number b → a ≡ b
number_same None None e = refl
number_same None (Some b) e = absurd cc
number_same (Some a) None e = absurd cc
number_same (Some a) (Some b) e = cc

abbrev made : Bool → MessageType → Flags → (serial body_at body_len : ℕ) → Known → Header
made little kind flags serial body_at body_len k = record {
  little = little;
  kind = kind;
  flags = flags;
  serial = serial;
  path = k.path;
  interface = k.interface;
  member = k.member;
  error_name = k.error_name;
  reply_serial = k.reply_serial;
  destination = k.destination;
  sender = k.sender;
  signature = k.signature;
  body_at = body_at;
  body_len = body_len;
}

abbrev made_known : (path interface member error_name : Option (List ℕ)) → Option ℕ → (destination sender signature : Option (List ℕ)) → Known
made_known path interface member error_name reply_serial destination sender signature = record {
  path = path;
  interface = interface;
  member = member;
  error_name = error_name;
  reply_serial = reply_serial;
  destination = destination;
  sender = sender;
  signature = signature;
  unix_fds = None;
}

abbrev known_in_header : Header → Known
known_in_header h = made_known h.path h.interface h.member h.error_name h.reply_serial h.destination h.sender h.signature

known_same : (a1 b1 a2 b2 a3 b3 a4 b4 : Option (List ℕ)) (a5 b5 : Option ℕ) (a6 b6 a7 b7 a8 b8 : Option (List ℕ)) → a1 ≡ b1 → a2 ≡ b2 → a3 ≡ b3 → a4 ≡ b4 → a5 ≡ b5 → a6 ≡ b6 → a7 ≡ b7 → a8 ≡ b8 → made_known a1 a2 a3 a4 a5 a6 a7 a8 ≡ made_known b1 b2 b3 b4 b5 b6 b7 b8
known_same a1 b1 a2 b2 a3 b3 a4 b4 a5 b5 a6 b6 a7 b7 a8 b8 e1 e2 e3 e4 e5 e6 e7 e8 = cc

pub header_same : (f : Fixed) (k : Known) (fields : List Field) (h : Header) → Tied k fields → IsHeader f fields h → h ≡ header_of f k
header_same f k fields h t is =
    let path = text_same 111 h.path k.path (is.known 1 (omega arith) (omega arith) ∙ sym (t.says 1 (omega arith) (omega arith))) in
    let interface = text_same 115 h.interface k.interface (is.known 2 (omega arith) (omega arith) ∙ sym (t.says 2 (omega arith) (omega arith))) in
    let member = text_same 115 h.member k.member (is.known 3 (omega arith) (omega arith) ∙ sym (t.says 3 (omega arith) (omega arith))) in
    let error_name = text_same 115 h.error_name k.error_name (is.known 4 (omega arith) (omega arith) ∙ sym (t.says 4 (omega arith) (omega arith))) in
    let reply = number_same h.reply_serial k.reply_serial (is.known 5 (omega arith) (omega arith) ∙ sym (t.says 5 (omega arith) (omega arith))) in
    let destination = text_same 115 h.destination k.destination (is.known 6 (omega arith) (omega arith) ∙ sym (t.says 6 (omega arith) (omega arith))) in
    let sender = text_same 115 h.sender k.sender (is.known 7 (omega arith) (omega arith) ∙ sym (t.says 7 (omega arith) (omega arith))) in
    let signature = text_same 103 h.signature k.signature (is.known 8 (omega arith) (omega arith) ∙ sym (t.says 8 (omega arith) (omega arith))) in
    let fixed : made h.little h.kind h.flags h.serial h.body_at h.body_len (known_in_header h) ≡ made (is_little f) (type_of f) f.flags f.serial (body_start f) f.body_len (known_in_header h) = cc (is.little, is.kind, is.flags, is.serial, is.body_at, is.body_len) in
    let texts : known_in_header h ≡ record k { unix_fds = None } = known_same h.path k.path h.interface k.interface h.member k.member h.error_name k.error_name h.reply_serial k.reply_serial h.destination k.destination h.sender k.sender h.signature k.signature path interface member error_name reply destination sender signature in
    fixed ∙ ap (made (is_little f) (type_of f) f.flags f.serial (body_start f) f.body_len) texts
