-- What a read message, a broken rule and a want of bytes say of the bytes, and what says that they are so read.
use Rattle.std.proofs.Common.{◌≡◌, ℕ, ◌+◌, ◌-◌, ◌<◌, ◌≤◌, Bool, true, false, ◌||◌, not, eqb, ltb, cond, List, ◌++◌, length, Option, Some, None, Result, Ok, Err, refl, sym, ap, subst, ◌∙◌, inl, inr, arith}
use Rattle.std.specs.Prelude.{◌⊎◌}
use Rattle.std.proofs.lemmas.Bool.{ltb-false, le-ltb, ltb-true, not-false, or_cases, eqb-true, eqb-false, or_parts}
use Rattle.fp_base.specs.declared.frame_rule.FrameRule.{FrameRule}
use Rattle.fp_base.specs.declared.frame_rule.FrameRule.TheVariants.{Order, ZeroType, Version, Serial, Length}
use Rattle.bus_frame.specs.declared.limits.TheConstants.{MOST_ARRAY_BYTES, MOST_MESSAGE_BYTES}
use Rattle.bus_frame.specs.declared.fixed.Fixed.{Fixed}
use Rattle.bus_frame.specs.declared.header.Header.{Header}
use Rattle.bus_frame.specs.Fields.{Known}
use Rattle.bus_frame.specs.Reading.{fixed_of, body_start, message_len, fixed_fault, known_in, header_of, Read, need, bad, whole, read_known, read_fixed, frame_of}
use Rattle.bus_frame.proofs.ValueAgain.{at_yes, at_no}
use Rattle.bus_frame.proofs.StableLaws.{same_front}

-- a message is there
pub record IsRead (bytes : List ℕ) (f : Fixed) (k : Known) (h : Header) (n : ℕ) : Type 0 where
  pub head : 16 ≤ length bytes
  pub sound : fixed_fault f ≡ None
  pub all : message_len f ≤ length bytes
  pub known : known_in f bytes ≡ Ok k
  pub header : h ≡ header_of f k
  pub len : n ≡ message_len f

-- the read of the whole, where the tests before it passed
known_whole : (f : Fixed) (r : Result Known FrameRule) (h : Header) (n : ℕ) → read_known f r ≡ whole h n → (k : Known) × (r ≡ Ok k) × (h ≡ header_of f k) × (n ≡ message_len f)
known_whole f (Ok k) h n e = (k, refl, cc, cc)
known_whole f (Err rule) h n e = absurd cc

not_need : (b : Bool) (k : ℕ) (x : Read) (h : Header) (n : ℕ) → cond b (need k) x ≡ whole h n → (b ≡ false) × (x ≡ whole h n)
not_need true k x h n e = absurd cc
not_need false k x h n e = (refl, e)

fixed_whole : (f : Fixed) (o : Option FrameRule) (bytes : List ℕ) (h : Header) (n : ℕ) → read_fixed f o bytes ≡ whole h n → (o ≡ None) × (message_len f ≤ length bytes) × (read_known f (known_in f bytes) ≡ whole h n)
fixed_whole f (Some rule) bytes h n e = absurd cc
fixed_whole f None bytes h n e =
    let rest = not_need (ltb (length bytes) (message_len f)) (message_len f - length bytes) (read_known f (known_in f bytes)) h n e in
    (refl, ltb-false _ _ rest.0, rest.1)

pub reads_whole : (bytes : List ℕ) (h : Header) (n : ℕ) → frame_of bytes ≡ whole h n → (k : Known) × IsRead bytes (fixed_of bytes) k h n
unfolding frame_of
reads_whole bytes h n e =
    let f = fixed_of bytes in
    let head = not_need (ltb (length bytes) 16) (16 - length bytes) (read_fixed f (fixed_fault f) bytes) h n e in
    let fixed = fixed_whole f (fixed_fault f) bytes h n head.1 in
    let known = known_whole f (known_in f bytes) h n fixed.2 in
    (known.0, record { head = ltb-false _ _ head.0; sound = fixed.0; all = fixed.1; known = known.1; header = known.2; len = known.3 })

-- what a fixed part says that breaks no rule
pub record IsSound (f : Fixed) : Type 0 where
  pub order : (f.order ≡ 108) ⊎ (f.order ≡ 66)
  pub kind : f.kind ≡ 0 → ⊥
  pub version : f.version ≡ 1
  pub serial : f.serial ≡ 0 → ⊥
  pub array : f.array_len ≤ MOST_ARRAY_BYTES
  pub all : message_len f ≤ MOST_MESSAGE_BYTES

pub none_else : (b : Bool) (rule : FrameRule) (x : Option FrameRule) → cond b (Some rule) x ≡ None → (b ≡ false) × (x ≡ None)
none_else true rule x e = absurd cc
none_else false rule x e = (refl, e)

letter : (order : ℕ) → (eqb order 108 ≡ true) ⊎ (eqb order 66 ≡ true) → (order ≡ 108) ⊎ (order ≡ 66)
letter order (inl e) = inl (eqb-true order 108 e)
letter order (inr e) = inr (eqb-true order 66 e)

pub sound_fixed : (f : Fixed) → fixed_fault f ≡ None → IsSound f
unfolding fixed_fault
sound_fixed f e =
    let order = none_else (not (eqb f.order 108 || eqb f.order 66)) Order _ e in
    let kind = none_else (eqb f.kind 0) ZeroType _ order.1 in
    let version = none_else (not (eqb f.version 1)) Version _ kind.1 in
    let serial = none_else (eqb f.serial 0) Serial _ version.1 in
    let lengths = none_else (ltb MOST_ARRAY_BYTES f.array_len || ltb MOST_MESSAGE_BYTES (message_len f)) Length _ serial.1 in
    let both = or_parts (ltb MOST_ARRAY_BYTES f.array_len) (ltb MOST_MESSAGE_BYTES (message_len f)) lengths.0 in
    record {
      order = letter f.order (or_cases (eqb f.order 108) (eqb f.order 66) (not-false _ order.0));
      kind = eqb-false _ _ kind.0;
      version = eqb-true _ _ (not-false _ version.0);
      serial = eqb-false _ _ serial.0;
      array = ltb-false _ _ both.0;
      all = ltb-false _ _ both.1;
    }

-- where a message that was read has its body
pub record HasBody (h : Header) (n bytes_len : ℕ) : Type 0 where
  pub start : 16 ≤ h.body_at
  pub end : h.body_at + h.body_len ≡ n
  pub limit : n ≤ MOST_MESSAGE_BYTES
  pub within : n ≤ bytes_len

body_of_read : (bytes : List ℕ) (f : Fixed) (k : Known) (h : Header) (n : ℕ) → IsRead bytes f k h n → HasBody h n (length bytes)
body_of_read bytes f k h n r =
    let sound = sound_fixed f r.sound in
    let at : h.body_at ≡ body_start f = ap (λ (x : Header). x.body_at) r.header in
    let len : h.body_len ≡ f.body_len = ap (λ (x : Header). x.body_len) r.header in
    record {
      start = omega (arith, at);
      end = omega (arith, at, len, r.len);
      limit = omega (arith, r.len, sound.all);
      within = omega (arith, r.len, r.all);
    }

pub has_body : (bytes : List ℕ) (h : Header) (n : ℕ) → frame_of bytes ≡ whole h n → HasBody h n (length bytes)
has_body bytes h n e = let r = reads_whole bytes h n e in body_of_read bytes (fixed_of bytes) r.0 h n r.1

-- a rule is broken
pub record IsBroken (bytes : List ℕ) (f : Fixed) (rule : FrameRule) : Type 0 where
  pub head : 16 ≤ length bytes
  pub why : (fixed_fault f ≡ Some rule) ⊎ ((fixed_fault f ≡ None) × (message_len f ≤ length bytes) × (known_in f bytes ≡ Err rule))

not_need_bad : (b : Bool) (k : ℕ) (x : Read) (rule : FrameRule) → cond b (need k) x ≡ bad rule → (b ≡ false) × (x ≡ bad rule)
not_need_bad true k x rule e = absurd cc
not_need_bad false k x rule e = (refl, e)

known_bad : (f : Fixed) (r : Result Known FrameRule) (rule : FrameRule) → read_known f r ≡ bad rule → r ≡ Err rule
known_bad f (Ok k) rule e = absurd cc
known_bad f (Err other) rule e = cc

fixed_bad : (f : Fixed) (o : Option FrameRule) (bytes : List ℕ) (rule : FrameRule) → read_fixed f o bytes ≡ bad rule → (o ≡ Some rule) ⊎ ((o ≡ None) × (message_len f ≤ length bytes) × (known_in f bytes ≡ Err rule))
fixed_bad f (Some other) bytes rule e = inl cc
fixed_bad f None bytes rule e =
    let rest = not_need_bad (ltb (length bytes) (message_len f)) (message_len f - length bytes) (read_known f (known_in f bytes)) rule e in
    inr (refl, ltb-false _ _ rest.0, known_bad f (known_in f bytes) rule rest.1)

pub reads_bad : (bytes : List ℕ) (rule : FrameRule) → frame_of bytes ≡ bad rule → IsBroken bytes (fixed_of bytes) rule
unfolding frame_of
reads_bad bytes rule e =
    let f = fixed_of bytes in
    let head = not_need_bad (ltb (length bytes) 16) (16 - length bytes) (read_fixed f (fixed_fault f) bytes) rule e in
    record { head = ltb-false _ _ head.0; why = fixed_bad f (fixed_fault f) bytes rule head.1 }

pub makes_whole : (bytes : List ℕ) (k : Known) → 16 ≤ length bytes → fixed_fault (fixed_of bytes) ≡ None → message_len (fixed_of bytes) ≤ length bytes → known_in (fixed_of bytes) bytes ≡ Ok k
    → frame_of bytes ≡ whole (header_of (fixed_of bytes) k) (message_len (fixed_of bytes))
unfolding frame_of
makes_whole bytes k head sound enough known =
    let f = fixed_of bytes in
    at_no (ltb (length bytes) 16) (need (16 - length bytes)) (read_fixed f (fixed_fault f) bytes) (le-ltb _ _ head)
    ∙ ap (λ (o : Option FrameRule). read_fixed f o bytes) sound
    ∙ at_no (ltb (length bytes) (message_len f)) (need (message_len f - length bytes)) (read_known f (known_in f bytes)) (le-ltb _ _ enough)
    ∙ ap (read_known f) known

pub makes_bad : (bytes : List ℕ) (rule : FrameRule) → IsBroken bytes (fixed_of bytes) rule → frame_of bytes ≡ bad rule
unfolding frame_of
makes_bad bytes rule broken =
    let f = fixed_of bytes in
    at_no (ltb (length bytes) 16) (need (16 - length bytes)) (read_fixed f (fixed_fault f) bytes) (le-ltb _ _ broken.head)
    ∙ elim broken.why [
      | inl fault ↦ ap (λ (o : Option FrameRule). read_fixed f o bytes) fault
      | inr w ↦
          ap (λ (o : Option FrameRule). read_fixed f o bytes) w.0
          ∙ at_no (ltb (length bytes) (message_len f)) (need (message_len f - length bytes)) (read_known f (known_in f bytes)) (le-ltb _ _ w.1)
          ∙ ap (read_known f) w.2
    ]

-- a message and a broken rule stay, whatever comes after them
pub stays_whole : (x y : List ℕ) (h : Header) (n : ℕ) → frame_of x ≡ whole h n → frame_of (x ++ y) ≡ whole h n
stays_whole x y h n e =
    let r = reads_whole x h n e in
    same_front x y r.1.head (λ _. r.1.all) ∙ e

pub stays_bad : (x y : List ℕ) (rule : FrameRule) → frame_of x ≡ bad rule → frame_of (x ++ y) ≡ bad rule
stays_bad x y rule e =
    let r = reads_bad x rule e in
    same_front x y r.head (λ none. enough (fixed_fault (fixed_of x)) none r.why) ∙ e
  where
    enough : (o : Option FrameRule) → o ≡ None → (o ≡ Some rule) ⊎ ((o ≡ None) × (message_len (fixed_of x) ≤ length x) × (known_in (fixed_of x) x ≡ Err rule)) → message_len (fixed_of x) ≤ length x
    enough o none (inl some) = absurd cc
    enough o none (inr w) = w.1
