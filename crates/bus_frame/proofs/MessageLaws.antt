-- A message that is read is one, and one is read; the rule that is named is the first one broken.
use Rattle.std.proofs.Common.{◌≡◌, ℕ, zero, suc, ◌+◌, ◌-◌, ◌<◌, ◌≤◌, Bool, true, not, eqb, ltb, List, [], ◌∷◌, ◌++◌, length, take, drop, Option, Some, None, Result, Ok, Err, refl, sym, ap, subst, ◌∙◌, append_assoc, inl, inr, arith, length-drop, drop-drop}
use Rattle.std.specs.Prelude.{◌||◌, ◌⊎◌, ◌≢◌, is_some}
use Rattle.std.proofs.lemmas.Bool.{ltb-true, ltb-false, le-ltb, lt-ltb, not-false, false≢true}
use Rattle.std.proofs.lemmas.List.{length-append, length-take-le, take-append-drop, take_at, drop_at, append-nil}
use Rattle.fp_base.specs.declared.frame_rule.FrameRule.{FrameRule}
use Rattle.fp_base.specs.declared.frame_rule.FrameRule.TheVariants.{Fields, Padding, Required, Body}
use Rattle.bus_frame.specs.declared.fixed.Fixed.{Fixed}
use Rattle.bus_frame.specs.declared.header.Header.{Header}
use Rattle.bus_frame.specs.declared.message.MessageType.{MessageType}
use Rattle.bus_frame.specs.Numbers.{padding, are_zero}
use Rattle.bus_frame.specs.Places.{Place}
use Rattle.bus_frame.specs.Fields.{Known, none_known, Field, ◌>=>◌, fields_at}
use Rattle.bus_frame.specs.Reading.{type_of, is_little, fixed_of, array_end, body_start, message_len, fixed_fault, end_fault, unless_broken, known_in, header_of, Read, need, bad, whole, read_known, read_fixed, frame_of}
use Rattle.bus_frame.specs.declared.error.FrameError.{FrameError}
use Rattle.bus_frame.specs.declared.error.FrameError.TheVariants as errors
use Rattle.bus_frame.specs.declared.header.ReadFrame.{ReadFrame}
use Rattle.bus_frame.specs.declared.header.ReadFrame.TheVariants as answer
use Rattle.bus_frame.specs.Answers.{AnswersFrame, IfFrame, IfNeed, IfBad, BeginsBroken, Lacks}
use Rattle.bus_frame.proofs.TypeLaws.{chosen}
use Rattle.bus_frame.specs.Grammar.{IsField, AreFields}
use Rattle.bus_frame.specs.Frame.{given, field_fault, AreFine, has_needed, is_typing, HasParts, IsHeader, Frame, FineUpTo, rest_fault, Breaks, fixed_part, no_field, broken_field, broken_rest}
use Rattle.bus_frame.proofs.Taking.{place}
use Rattle.bus_frame.proofs.Spelled.{IsBytes, IsBytes-left, IsBytes-right}
use Rattle.bus_frame.proofs.KnownLaws.{Tied, tied_none}
use Rattle.bus_frame.proofs.ArrayLaws.{AllFine, Why, Stops, Outcome, fields_take, fields_again, fields_stop}
use Rattle.bus_frame.proofs.EndLaws.{end-rest, header_is, header_same}
use Rattle.bus_frame.proofs.Frames.{IsRead, reads_whole, IsBroken, reads_bad, makes_whole, makes_bad, stays_whole, stays_bad, none_else}
use Rattle.bus_frame.proofs.ValueAgain.{at_yes, at_no}
use Rattle.bus_frame.proofs.StableLaws.{fixed_front, same_front}

-- ---- the parts of a message

-- bytes of a message's length have its parts
record Cut (f : Fixed) (m : List ℕ) : Type 0 where
  array : List ℕ
  gap : List ℕ
  body : List ℕ
  spelled : m ≡ take 16 m ++ array ++ gap ++ body
  array_is : array ≡ take f.array_len (drop 16 m)
  gap_is : gap ≡ take (body_start f - array_end f) (drop (array_end f) m)
  array_len : length array ≡ f.array_len
  gap_len : length gap ≡ padding 8 (array_end f)
  body_len : length body ≡ f.body_len

cut : (f : Fixed) (m : List ℕ) → length m ≡ message_len f → Cut f m
cut f m len =
    let array = take f.array_len (drop 16 m) in
    let gap = take (body_start f - array_end f) (drop (array_end f) m) in
    let body = drop (body_start f) m in
    let first : m ≡ take 16 m ++ drop 16 m = sym (take-append-drop 16 m) in
    let second : drop 16 m ≡ array ++ drop (array_end f) m = sym (take-append-drop f.array_len (drop 16 m)) ∙ ap (λ (l : List ℕ). array ++ l) (drop-drop f.array_len 16 m) in
    let third : drop (array_end f) m ≡ gap ++ body = sym (take-append-drop (body_start f - array_end f) (drop (array_end f) m)) ∙ ap (λ (l : List ℕ). gap ++ l) (drop-drop (body_start f - array_end f) (array_end f) m ∙ ap (λ (n : ℕ). drop n m) (omega arith)) in
    record {
      array = array;
      gap = gap;
      body = body;
      spelled =
          first ∙ ap (λ (l : List ℕ). take 16 m ++ l) (second ∙ ap (λ (l : List ℕ). array ++ l) third)
          ∙ sym (append_assoc (take 16 m) array (gap ++ body)) ∙ sym (append_assoc (take 16 m ++ array) gap body);
      array_is = refl;
      gap_is = refl;
      array_len = length-take-le f.array_len (drop 16 m) (omega (arith, len, length-drop 16 m));
      gap_len = length-take-le (body_start f - array_end f) (drop (array_end f) m) (omega (arith, len, length-drop (array_end f) m)) ∙ omega arith;
      body_len = length-drop (body_start f) m ∙ omega (arith, len);
    }

-- and the parts are what is read
parts_read : (m array gap body : List ℕ) → HasParts m array gap body → (take (fixed_of m).array_len (drop 16 m) ≡ array) × (take (body_start (fixed_of m) - array_end (fixed_of m)) (drop (array_end (fixed_of m)) m) ≡ gap) × (length m ≡ message_len (fixed_of m))
parts_read m array gap body p =
    let f = fixed_of m in
    let t = take 16 m in
    let t_len : length t ≡ 16 = length-take-le 16 m p.head in
    let whole_is : m ≡ t ++ (array ++ (gap ++ body)) = p.spelled ∙ append_assoc (t ++ array) gap body ∙ append_assoc t array (gap ++ body) in
    let remainder_head : drop 16 m ≡ array ++ (gap ++ body) = ap (drop 16) whole_is ∙ drop_at t (array ++ (gap ++ body)) 16 t_len in
    let remainder_array : drop (array_end f) m ≡ gap ++ body = sym (drop-drop f.array_len 16 m) ∙ ap (drop f.array_len) remainder_head ∙ drop_at array (gap ++ body) f.array_len p.array_len in
    let gap_count : body_start f - array_end f ≡ padding 8 (array_end f) = omega arith in (
      ap (take f.array_len) remainder_head ∙ take_at array (gap ++ body) f.array_len p.array_len,
      ap (take (body_start f - array_end f)) remainder_array ∙ take_at gap body (body_start f - array_end f) (p.gap_len ∙ sym gap_count),
      ap (λ (l : List ℕ). length l) whole_is ∙ length-append t (array ++ (gap ++ body)) ∙ omega (arith, t_len, length-append array (gap ++ body), length-append gap body, p.array_len, p.gap_len, p.body_len),
    )

-- ---- what is read is a message

result_ok : {A B : Type 0} (r : Result A FrameRule) (g : A → Result B FrameRule) (y : B) → (r >=> g) ≡ Ok y → (x : A) × (r ≡ Ok x) × (g x ≡ Ok y)
result_ok (Ok x) g y e = (x, refl, e)
result_ok (Err rule) g y e = absurd cc

not_broken : (o : Option FrameRule) (k m : Known) → unless_broken o k ≡ Ok m → (o ≡ None) × (k ≡ m)
not_broken None k m e = (refl, cc)
not_broken (Some rule) k m e = absurd cc

-- no rule is broken after the fields
pub record NoRest (kind : MessageType) (fields : List Field) (gap body : List ℕ) : Type 0 where
  pub padded : are_zero gap ≡ true
  pub needed : has_needed kind fields ≡ true
  pub typed : (eqb (length body) 0 || is_typing (given 8 fields)) ≡ true

no_rest : (kind : MessageType) (fields : List Field) (gap body : List ℕ) → rest_fault kind fields gap body ≡ None → NoRest kind fields gap body
no_rest kind fields gap body e =
    let a = none_else (not (are_zero gap)) Padding _ e in
    let b = none_else (not (has_needed kind fields)) Required _ a.1 in
    let c = none_else (not (eqb (length body) 0 || is_typing (given 8 fields))) Body None b.1 in
    record { padded = not-false _ a.0; needed = not-false _ b.0; typed = not-false _ c.0 }

rest_none : (kind : MessageType) (fields : List Field) (gap body : List ℕ) → NoRest kind fields gap body → rest_fault kind fields gap body ≡ None
rest_none kind fields gap body n = rw (n.padded, n.needed, n.typed) refl

array_place : List ℕ → Fixed → Place
array_place m f = place 16 (take f.array_len (drop 16 m))

fine_outcome : (little : Bool) (p : Place) (k : Known) (r : Result Known FrameRule) → r ≡ Ok k → Outcome little [] p r → AllFine little [] p k
fine_outcome little p k (Ok other) e o = subst (λ (m : Known). AllFine little [] p m) (cc e) o
fine_outcome little p k (Err rule) e o = absurd cc

pub whole_frame : (m : List ℕ) (h : Header) → IsBytes m → frame_of m ≡ whole h (length m) → Frame m h
unfolding known_in array_place
whole_frame m h fits e =
    let f = fixed_of m in
    let little = is_little f in
    let r = reads_whole m h (length m) e in
    let k = r.0 in
    let len : length m ≡ message_len f = r.1.len in
    let c = cut f m len in
    let p = array_place m f in
    let array_fits : IsBytes p.rest = IsBytes-left (take f.array_len (drop 16 m)) (drop f.array_len (drop 16 m)) (subst IsBytes (sym (take-append-drop f.array_len (drop 16 m))) (IsBytes-right (take 16 m) (drop 16 m) (subst IsBytes (sym (take-append-drop 16 m)) fits))) in
    let read = result_ok (fields_at little f.array_len none_known p) (λ x. unless_broken (end_fault f x (take (body_start f - array_end f) (drop (array_end f) m))) x) k r.1.known in
    let ends = not_broken (end_fault f read.0 (take (body_start f - array_end f) (drop (array_end f) m))) read.0 k read.2 in
    let same_len = ap (λ (l : List ℕ). length l) c.array_is in
    let all = fine_outcome little p read.0 (fields_at little f.array_len none_known p) read.1 (fields_take little f.array_len none_known [] p array_fits (omega (arith, same_len, c.array_len)) tied_none) in
    let tied : Tied k all.fields = subst (λ (x : Known). Tied x all.fields) ends.1 all.tied in
    let end_none : end_fault f k c.gap ≡ None = ap (λ (g : List ℕ). end_fault f k g) c.gap_is ∙ sym (ap (λ (x : Known). end_fault f x (take (body_start f - array_end f) (drop (array_end f) m))) ends.1) ∙ ends.0 in
    let rest = no_rest (type_of f) all.fields c.gap c.body (sym (end-rest f k all.fields c.gap c.body tied c.body_len) ∙ end_none) in
    record {
      array = c.array;
      gap = c.gap;
      body = c.body;
      fields = all.fields;
      parts = record { sound = r.1.sound; spelled = c.spelled; head = r.1.head; array_len = c.array_len; gap_len = c.gap_len; body_len = c.body_len };
      spelled = subst (λ (l : List ℕ). AreFields little 16 all.fields l) (sym c.array_is) all.spelled;
      fine = all.fine;
      padded = rest.padded;
      needed = rest.needed;
      typed = rest.typed;
      header = subst (λ (x : Header). IsHeader f all.fields x) (sym r.1.header) (header_is f k all.fields tied);
    }

-- ---- a message is read

pub frame_whole : (m : List ℕ) (h : Header) → Frame m h → frame_of m ≡ whole h (length m)
unfolding known_in
frame_whole m h is =
    let f = fixed_of m in
    let little = is_little f in
    let parts = parts_read m is.array is.gap is.body is.parts in
    let p = place 16 is.array in
    let all = fields_again little is.fields f.array_len none_known [] p is.spelled is.fine tied_none (omega (arith, is.parts.array_len)) in
    let k = all.0 in
    let ends : end_fault f k is.gap ≡ None = end-rest f k is.fields is.gap is.body all.2 is.parts.body_len ∙ rest_none (type_of f) is.fields is.gap is.body (record { padded = is.padded; needed = is.needed; typed = is.typed }) in
    let known : known_in f m ≡ Ok k =
    ap (λ (a : List ℕ). fields_at little f.array_len none_known (place 16 a) >=> λ x. unless_broken (end_fault f x (take (body_start f - array_end f) (drop (array_end f) m))) x) parts.0
    ∙ ap (λ (o : Result Known FrameRule). o >=> λ x. unless_broken (end_fault f x (take (body_start f - array_end f) (drop (array_end f) m))) x) all.1
    ∙ ap (λ (g : List ℕ). unless_broken (end_fault f k g) k) parts.1
    ∙ ap (λ (o : Option FrameRule). unless_broken o k) ends in
    makes_whole m k is.parts.head is.parts.sound (omega (arith, parts.2)) known
    ∙ ap (λ (x : Header). whole x (message_len f)) (sym (header_same f k is.fields h all.2 is.header))
    ∙ ap (λ (n : ℕ). whole h n) (sym parts.2)

none_some : (rule : FrameRule) → ◌≡◌ {A = Option FrameRule} None (Some rule) → ⊥
none_some rule e = cc

-- ---- a broken rule is the first one

result_err : {A B : Type 0} (r : Result A FrameRule) (g : A → Result B FrameRule) (rule : FrameRule) → (r >=> g) ≡ Err rule → (r ≡ Err rule) ⊎ ((x : A) × (r ≡ Ok x) × (g x ≡ Err rule))
result_err (Ok x) g rule e = inr (x, refl, e)
result_err (Err other) g rule e = inl cc

broken_is : (o : Option FrameRule) (k : Known) (rule : FrameRule) → unless_broken o k ≡ Err rule → o ≡ Some rule
broken_is None k rule e = absurd cc
broken_is (Some other) k rule e = cc

stop_outcome : (little : Bool) (p : Place) (rule : FrameRule) (r : Result Known FrameRule) → r ≡ Err rule → Outcome little [] p r → Stops little [] p rule
stop_outcome little p rule (Ok k) e o = absurd cc
stop_outcome little p rule (Err other) e o = subst (λ (x : FrameRule). Stops little [] p x) (cc e) o

-- bytes of their message's length, whose fixed part is sound
rest_breaks : (m : List ℕ) (rule : FrameRule) → IsBytes m → 16 ≤ length m → fixed_fault (fixed_of m) ≡ None → length m ≡ message_len (fixed_of m) → known_in (fixed_of m) m ≡ Err rule → Breaks m rule
unfolding known_in array_place
rest_breaks m rule fits head sound len known =
    let f = fixed_of m in
    let little = is_little f in
    let c = cut f m len in
    let p = array_place m f in
    let parts : HasParts m c.array c.gap c.body = record { sound = sound; spelled = c.spelled; head = head; array_len = c.array_len; gap_len = c.gap_len; body_len = c.body_len } in
    let array_fits : IsBytes p.rest = IsBytes-left (take f.array_len (drop 16 m)) (drop f.array_len (drop 16 m)) (subst IsBytes (sym (take-append-drop f.array_len (drop 16 m))) (IsBytes-right (take 16 m) (drop 16 m) (subst IsBytes (sym (take-append-drop 16 m)) fits))) in
    let same_len = ap (λ (l : List ℕ). length l) c.array_is in
    let outcome = fields_take little f.array_len none_known [] p array_fits (omega (arith, same_len, c.array_len)) tied_none in
    let zeros_read = take (body_start f - array_end f) (drop (array_end f) m) in
    elim (result_err (fields_at little f.array_len none_known p) (λ x. unless_broken (end_fault f x zeros_read) x) rule known) [
      | inl e ↦
          let stops = stop_outcome little p rule (fields_at little f.array_len none_known p) e outcome in
          let up_to : FineUpTo m stops.fields (16 + length stops.front) stops.rest = record {
            array = c.array;
            gap = c.gap;
            body = c.body;
            front = stops.front;
            parts = parts;
            array_is = c.array_is ∙ stops.parts;
            at_is = refl;
            spelled = stops.spelled;
            fine = stops.fine;
          } in
          elim stops.why [
            | inl w ↦ no_field stops.fields (16 + length stops.front) stops.rest up_to w.0 w.1 w.2
            | inr w ↦ broken_field stops.fields (16 + length stops.front) w.1 w.2 w.0 (subst (λ (l : List ℕ). FineUpTo m stops.fields (16 + length stops.front) l) w.3 up_to) w.4 w.5
          ]
      | inr e ↦
          let all = fine_outcome little p e.0 (fields_at little f.array_len none_known p) e.1 outcome in
          let fault : rest_fault (type_of f) all.fields c.gap c.body ≡ Some rule =
          sym (end-rest f e.0 all.fields c.gap c.body all.tied c.body_len) ∙ ap (λ (g : List ℕ). end_fault f e.0 g) c.gap_is ∙ broken_is (end_fault f e.0 zeros_read) e.0 rule e.2 in
          broken_rest c.array c.gap c.body all.fields parts (subst (λ (l : List ℕ). AreFields little 16 all.fields l) (sym c.array_is) all.spelled) all.fine fault
    ]

-- ---- and the first broken rule is named

array_bytes : (m : List ℕ) (n : ℕ) → IsBytes m → IsBytes (take n (drop 16 m))
array_bytes m n fits =
    let remainder = IsBytes-right (take 16 m) (drop 16 m) (subst IsBytes (sym (take-append-drop 16 m)) fits) in
    IsBytes-left (take n (drop 16 m)) (drop n (drop 16 m)) (subst IsBytes (sym (take-append-drop n (drop 16 m))) remainder)

stop_bad : (m : List ℕ) (before : List Field) (at : ℕ) (rest : List ℕ) (rule : FrameRule) → IsBytes m → FineUpTo m before at rest → Why (is_little (fixed_of m)) before at rest rule → frame_of m ≡ bad rule
unfolding known_in
stop_bad m before at rest rule fits up_to why =
    let f = fixed_of m in
    let little = is_little f in
    let parts = parts_read m up_to.array up_to.gap up_to.body up_to.parts in
    let p = place 16 up_to.array in
    let array_fits : IsBytes up_to.array = subst IsBytes parts.0 (array_bytes m f.array_len fits) in
    let why_here : Why little ([] ++ before) (p.at + length up_to.front) rest rule = subst (λ (n : ℕ). Why little before n rest rule) up_to.at_is why in
    let read = fields_stop little before f.array_len none_known [] p up_to.front rest rule array_fits up_to.array_is up_to.spelled up_to.fine tied_none (omega (arith, up_to.parts.array_len)) why_here in
    let known : known_in f m ≡ Err rule =
    ap (λ (a : List ℕ). fields_at little f.array_len none_known (place 16 a) >=> λ x. unless_broken (end_fault f x (take (body_start f - array_end f) (drop (array_end f) m))) x) parts.0
    ∙ ap (λ (o : Result Known FrameRule). o >=> λ x. unless_broken (end_fault f x (take (body_start f - array_end f) (drop (array_end f) m))) x) read in
    makes_bad m rule (record { head = up_to.parts.head; why = inr (up_to.parts.sound, omega (arith, parts.2), known) })

rest_bad : (m array gap body : List ℕ) (fields : List Field) (rule : FrameRule) → HasParts m array gap body → AreFields (is_little (fixed_of m)) 16 fields array → AreFine [] fields → rest_fault (type_of (fixed_of m)) fields gap body ≡ Some rule → frame_of m ≡ bad rule
unfolding known_in
rest_bad m array gap body fields rule has spelled fine fault =
    let f = fixed_of m in
    let little = is_little f in
    let parts = parts_read m array gap body has in
    let p = place 16 array in
    let all = fields_again little fields f.array_len none_known [] p spelled fine tied_none (omega (arith, has.array_len)) in
    let ends : end_fault f all.0 gap ≡ Some rule = end-rest f all.0 fields gap body all.2 has.body_len ∙ fault in
    let known : known_in f m ≡ Err rule =
    ap (λ (a : List ℕ). fields_at little f.array_len none_known (place 16 a) >=> λ x. unless_broken (end_fault f x (take (body_start f - array_end f) (drop (array_end f) m))) x) parts.0
    ∙ ap (λ (o : Result Known FrameRule). o >=> λ x. unless_broken (end_fault f x (take (body_start f - array_end f) (drop (array_end f) m))) x) all.1
    ∙ ap (λ (g : List ℕ). unless_broken (end_fault f all.0 g) all.0) parts.1
    ∙ ap (λ (o : Option FrameRule). unless_broken o all.0) ends in
    makes_bad m rule (record { head = has.head; why = inr (has.sound, omega (arith, parts.2), known) })

pub breaks_bad : (m : List ℕ) (rule : FrameRule) → IsBytes m → Breaks m rule → frame_of m ≡ bad rule
breaks_bad m rule fits (fixed_part head fault) = makes_bad m rule (record { head = head; why = inl fault })
breaks_bad m rule fits (no_field before at rest up_to some none is) = stop_bad m before at rest rule fits up_to (inl (some, none, is))
breaks_bad m rule fits (broken_field before at x y f up_to is fault) = stop_bad m before at (x ++ y) rule fits up_to (inr (f, x, y, refl, is, fault))
breaks_bad m rule fits (broken_rest array gap body fields parts spelled fine fault) = rest_bad m array gap body fields rule parts spelled fine fault

-- ---- at the front of other bytes

front_read : (bytes : List ℕ) (n : ℕ) → n ≤ length bytes → 16 ≤ n → fixed_of bytes ≡ fixed_of (take n bytes)
front_read bytes n le head =
    let len = length-take-le n bytes le in
    ap fixed_of (sym (take-append-drop n bytes)) ∙ fixed_front (take n bytes) (drop n bytes) (omega (arith, len))

take_bytes : (n : ℕ) (bytes : List ℕ) → IsBytes bytes → IsBytes (take n bytes)
take_bytes n bytes fits = IsBytes-left (take n bytes) (drop n bytes) (subst IsBytes (sym (take-append-drop n bytes)) fits)

-- the message at the front
pub found : (bytes : List ℕ) (h : Header) (n : ℕ) → IsBytes bytes → frame_of bytes ≡ whole h n → (n ≤ length bytes) × Frame (take n bytes) h
found bytes h n fits e =
    let r = reads_whole bytes h n e in
    let le : n ≤ length bytes = omega (arith, r.1.len, r.1.all) in
    let head : 16 ≤ n = omega (arith, r.1.len) in
    let m = take n bytes in
    let m_len : length m ≡ n = length-take-le n bytes le in
    let f_is = front_read bytes n le head in
    let enough : message_len (fixed_of m) ≤ length m = subst (λ (f : Fixed). message_len f ≤ length m) f_is (omega (arith, r.1.len, m_len)) in
    let same : frame_of bytes ≡ frame_of m = ap frame_of (sym (take-append-drop n bytes)) ∙ same_front m (drop n bytes) (omega (arith, head, m_len)) (λ _. enough) in
    (le, whole_frame m h (take_bytes n bytes fits) (sym same ∙ e ∙ ap (λ (k : ℕ). whole h k) (sym m_len)))

-- the bytes at the front that break a rule
pub found_broken : (bytes : List ℕ) (rule : FrameRule) → IsBytes bytes → frame_of bytes ≡ bad rule → (message : List ℕ) × (rest : List ℕ) × (bytes ≡ message ++ rest) × Breaks message rule
found_broken bytes rule fits e =
    let b = reads_bad bytes rule e in
    elim b.why [
      | inl fault ↦ (bytes, [], sym (append-nil bytes), fixed_part b.head fault)
      | inr w ↦
          let n = message_len (fixed_of bytes) in
          let head : 16 ≤ n = omega arith in
          let m = take n bytes in
          let m_len : length m ≡ n = length-take-le n bytes w.1 in
          let f_is = front_read bytes n w.1 head in
          let enough : message_len (fixed_of m) ≤ length m = subst (λ (f : Fixed). message_len f ≤ length m) f_is (omega (arith, m_len)) in
          let same : frame_of bytes ≡ frame_of m = ap frame_of (sym (take-append-drop n bytes)) ∙ same_front m (drop n bytes) (omega (arith, head, m_len)) (λ _. enough) in
          let in_m = reads_bad m rule (sym same ∙ e) in
          let sound : fixed_fault (fixed_of m) ≡ None = sym (ap fixed_fault f_is) ∙ w.0 in
          let len : length m ≡ message_len (fixed_of m) = m_len ∙ ap message_len f_is in
          (m, drop n bytes, sym (take-append-drop n bytes), by_why m (take_bytes n bytes fits) (omega (arith, head, m_len)) sound len in_m.why)
    ]
  where
    by_why : (m : List ℕ) → IsBytes m → 16 ≤ length m → fixed_fault (fixed_of m) ≡ None → length m ≡ message_len (fixed_of m) → (fixed_fault (fixed_of m) ≡ Some rule) ⊎ ((fixed_fault (fixed_of m) ≡ None) × (message_len (fixed_of m) ≤ length m) × (known_in (fixed_of m) m ≡ Err rule)) → Breaks m rule
    by_why m fits_m head sound len (inl fault) = absurd (none_some rule (sym sound ∙ fault))
    by_why m fits_m head sound len (inr w) = rest_breaks m rule fits_m head sound len w.2

-- ---- what lacks

-- cond at a want of bytes
needed_fixed : (f : Fixed) (o : Option FrameRule) (bytes : List ℕ) (n : ℕ) → read_fixed f o bytes ≡ need n → (o ≡ None) × (length bytes < message_len f) × (n ≡ message_len f - length bytes)
needed_fixed f (Some rule) bytes n e = absurd cc
needed_fixed f None bytes n e =
    elim (chosen (ltb (length bytes) (message_len f)) (need (message_len f - length bytes)) (read_known f (known_in f bytes)) (need n) e) [
      | inl g ↦ (refl, ltb-true _ _ g.0, cc (g.1))
      | inr g ↦ absurd (never (known_in f bytes) g.1)
    ]
  where
    never : (r : Result Known FrameRule) → read_known f r ≡ need n → ⊥
    never (Ok k) h = cc
    never (Err rule) h = cc

pub lacking : (bytes : List ℕ) (n : ℕ) → frame_of bytes ≡ need n → Lacks bytes n
unfolding frame_of
lacking bytes n e =
    let f = fixed_of bytes in
    elim (chosen (ltb (length bytes) 16) (need (16 - length bytes)) (read_fixed f (fixed_fault f) bytes) (need n) e) [
      | inl g ↦
          let lt = ltb-true _ _ g.0 in
          let n_is : 16 - length bytes ≡ n = cc (g.1) in
          inl (lt, omega (arith, n_is))
      | inr g ↦
          let head = ltb-false _ _ g.0 in
          let w = needed_fixed f (fixed_fault f) bytes n g.1 in
          inr (head, w.0, w.1, omega (arith, w.1, w.2))
    ]

pub lacks_read : (bytes : List ℕ) (n : ℕ) → Lacks bytes n → frame_of bytes ≡ need n
unfolding frame_of
lacks_read bytes n (inl w) =
    let f = fixed_of bytes in
    at_yes (ltb (length bytes) 16) (need (16 - length bytes)) (read_fixed f (fixed_fault f) bytes) (lt-ltb _ _ w.0) ∙ ap need (omega (arith, w.1))
lacks_read bytes n (inr w) =
    let f = fixed_of bytes in
    at_no (ltb (length bytes) 16) (need (16 - length bytes)) (read_fixed f (fixed_fault f) bytes) (le-ltb _ _ w.0)
    ∙ ap (λ (o : Option FrameRule). read_fixed f o bytes) w.1
    ∙ at_yes (ltb (length bytes) (message_len f)) (need (message_len f - length bytes)) (read_known f (known_in f bytes)) (lt-ltb _ _ w.2)
    ∙ ap need (omega (arith, w.3))

-- ---- what an answer says

pub says_message : (r : Result ReadFrame FrameError) (bytes : List ℕ) → IsBytes bytes → AnswersFrame r (frame_of bytes) → IfFrame r (λ h n. (n ≤ length bytes) × Frame (take n bytes) h)
says_message (Ok (answer.Frame h n)) bytes fits e = found bytes h n fits e
says_message (Ok (answer.Need n)) bytes fits e = tt
says_message (Err error) bytes fits e = tt

pub says_broken : (r : Result ReadFrame FrameError) (bytes : List ℕ) → IsBytes bytes → AnswersFrame r (frame_of bytes) → IfBad r (BeginsBroken bytes)
says_broken (Ok a) bytes fits e = tt
says_broken (Err (errors.Bad rule)) bytes fits e = found_broken bytes rule fits e
says_broken (Err errors.NoMemory) bytes fits e = tt

pub says_lacking : (r : Result ReadFrame FrameError) (bytes : List ℕ) → AnswersFrame r (frame_of bytes) → IfNeed r (Lacks bytes)
says_lacking (Ok (answer.Frame h n)) bytes e = tt
says_lacking (Ok (answer.Need n)) bytes e = lacking bytes n e
says_lacking (Err error) bytes e = tt

pub every_message : (r : Result ReadFrame FrameError) (bytes m rest : List ℕ) (h : Header) → AnswersFrame r (frame_of bytes) → bytes ≡ m ++ rest → Frame m h → AnswersFrame r (whole h (length m))
every_message r bytes m rest h e parts is =
    subst (λ (x : Read). AnswersFrame r x) (ap frame_of parts ∙ stays_whole m rest h (length m) (frame_whole m h is)) e

pub every_broken : (r : Result ReadFrame FrameError) (bytes m rest : List ℕ) (rule : FrameRule) → IsBytes bytes → AnswersFrame r (frame_of bytes) → bytes ≡ m ++ rest → Breaks m rule → AnswersFrame r (bad rule)
every_broken r bytes m rest rule fits e parts is =
    subst (λ (x : Read). AnswersFrame r x) (ap frame_of parts ∙ stays_bad m rest rule (breaks_bad m rule (IsBytes-left m rest (subst IsBytes parts fits)) is)) e

pub every_lacking : (r : Result ReadFrame FrameError) (bytes : List ℕ) (n : ℕ) → AnswersFrame r (frame_of bytes) → Lacks bytes n → AnswersFrame r (need n)
every_lacking r bytes n e is = subst (λ (x : Read). AnswersFrame r x) (lacks_read bytes n is) e
