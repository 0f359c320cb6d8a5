-- The texts of bodies are read exactly where bytes spell them.
use Rattle.std.proofs.Common.{◌≡◌, ℕ, zero, suc, ◌+◌, ◌<◌, ◌≤◌, Bool, true, false, cond, eqb, List, [], ◌∷◌, ◌++◌, length, take, drop, Option, Some, None, Result, Ok, Err, refl, sym, ap, subst, ◌∙◌, append_assoc, inl, inr, arith}
use Rattle.std.specs.Prelude.{option_map, is_some, codes, IfOk}
use Rattle.std.specs.Str.{bytes_eq}
use Rattle.std.proofs.lemmas.Bool.{eqb-true, eq-eqb, eqb-false, cases_Bool, false≢true}
use Rattle.std.proofs.lemmas.Option.{cond_some, same_Some}
use Rattle.std.proofs.lemmas.List.{length-append, append-nil, take-append-drop}
use Rattle.std.proofs.lemmas.Slice.Eq.{bytes_eq-Decides}
use Rattle.bus_frame.specs.declared.limits.TheConstants.{MOST_ARRAY_BYTES}
use Rattle.bus_frame.specs.declared.header.Header.{Header}
use Rattle.bus_frame.specs.Steps.{first_of, remainder_byte}
use Rattle.fp_base.specs.Steps.{◌>>=◌, Gives}
use Rattle.fp_base.proofs.Options.{guarded}
use Rattle.fp_base.proofs.Lists.{empty_is}
use Rattle.bus_frame.specs.Places.{Place, bytes_at, long_text_at}
use Rattle.bus_frame.specs.Types.{basic}
use Rattle.bus_frame.specs.Values.{array_head_at}
use Rattle.bus_frame.specs.Writing.{zeros, number_bytes}
use Rattle.bus_frame.specs.Grammar.{IsLongText, array_head}
use Rattle.bus_frame.specs.Bodies.{body_place, signature_text, has_signature, body_bytes, BeginsWithText, AreTexts, AreThreeTexts, AreNames, first_text, three_texts_at, three_texts, texts_at, elements_place, names_place, names_in}
use Rattle.bus_frame.proofs.Taking.{place, Takes, bind_some, bind_is, bytes_takes, bytes_again}
use Rattle.bus_frame.proofs.Spelled.{IsBytes, IsBytes-left, IsBytes-right, Takes-bytes, long_text_takes, long_text_again}
use Rattle.bus_frame.proofs.TypeLaws.{chosen}
use Rattle.bus_frame.proofs.ValueTakes.{map_some, array_head_takes}
use Rattle.bus_frame.proofs.ValueAgain.{at_yes, at_no, array_head_again}

-- ---- what a function returned

pub gives_is : {X Y : Type 0} (view : X → Y) (r : Option X) (read : Option Y) → Gives view r read → option_map view r ≡ read
gives_is view (Some x) read e = sym e
gives_is view None read e = sym e

pub body_fits : (h : Header) (message : List ℕ) → IsBytes message → IsBytes (body_bytes h message)
body_fits h message fits =
    let remainder = IsBytes-right (take h.body_at message) (drop h.body_at message) (subst IsBytes (sym (take-append-drop h.body_at message)) fits) in
    IsBytes-left (take h.body_len (drop h.body_at message)) (drop h.body_len (drop h.body_at message)) (subst IsBytes (sym (take-append-drop h.body_len (drop h.body_at message))) remainder)

-- ---- texts one after another

text_some : (little : Bool) (at : ℕ) (text bytes : List ℕ) → IsLongText little at text bytes → 0 < length bytes
text_some little at text bytes is =
    omega (arith, ap (λ (l : List ℕ). length l) is.spelled, length-append ((zeros 4 at ++ number_bytes little (length text)) ++ text) (0 ∷ []))

one_takes : (little : Bool) (p q : Place) (t : List ℕ) (ts : List (List ℕ)) → IsBytes p.rest → long_text_at little p ≡ Some (t, q) → AreTexts little q.at ts q.rest → AreTexts little p.at (t ∷ ts) p.rest
one_takes little p q t ts fits e are =
    let x = long_text_takes little p t q fits e in
    (x.0, q.rest, x.1.parts, x.2, subst (λ (at : ℕ). AreTexts little at ts q.rest) x.1.at are)

after_fits : (little : Bool) (p q : Place) (t : List ℕ) → IsBytes p.rest → long_text_at little p ≡ Some (t, q) → IsBytes q.rest
after_fits little p q t fits e = let x = long_text_takes little p t q fits e in (Takes-bytes p q x.0 fits x.1).1

nothing_more : (little : Bool) (at : ℕ) (bytes : List ℕ) (ts : List (List ℕ)) → bytes ≡ [] → [] ≡ ts → AreTexts little at ts bytes
nothing_more little at bytes ts empty e = subst (λ (l : List (List ℕ)). AreTexts little at l bytes) e empty

texts_take : (little : Bool) (n : ℕ) (p : Place) (ts : List (List ℕ)) → IsBytes p.rest → texts_at little n p ≡ Some ts → AreTexts little p.at ts p.rest
unfolding texts_at
texts_take little zero p ts fits e =
    let end = cond_some (eqb (length p.rest) 0) [] ts e in
    nothing_more little p.at p.rest ts (empty_is p.rest end.0) end.1
texts_take little (suc n) p ts fits e =
    elim (chosen (eqb (length p.rest) 0) (Some []) (long_text_at little p >>= λ text. option_map (λ more. text.0 ∷ more) (texts_at little n text.1)) (Some ts) e) [
      | inl g ↦ nothing_more little p.at p.rest ts (empty_is p.rest g.0) (same_Some [] ts g.1)
      | inr g ↦
          let t = bind_some (long_text_at little p) (λ text. option_map (λ more. text.0 ∷ more) (texts_at little n text.1)) ts g.1 in
          let m = map_some (texts_at little n t.0.1) (λ more. t.0.0 ∷ more) ts t.2 in
          let rest = texts_take little n t.0.1 m.0 (after_fits little p t.0.1 t.0.0 fits t.1) m.1 in
          subst (λ (l : List (List ℕ)). AreTexts little p.at l p.rest) m.2 (one_takes little p t.0.1 t.0.0 m.0 fits t.1 rest)
    ]

texts_none : (little : Bool) (n at : ℕ) → texts_at little n (place at []) ≡ Some []
unfolding texts_at
texts_none little zero at = refl
texts_none little (suc n) at = refl

texts_again : (little : Bool) (n at : ℕ) (ts : List (List ℕ)) (bytes : List ℕ) → length bytes ≤ n → AreTexts little at ts bytes → texts_at little n (place at bytes) ≡ Some ts
unfolding texts_at
texts_again little n at [] bytes le empty = ap (λ (l : List ℕ). texts_at little n (place at l)) empty ∙ texts_none little n at
texts_again little zero at (t ∷ ts) bytes le are =
    absurd (omega (arith, text_some little at t are.0 are.3, ap (λ (l : List ℕ). length l) are.2, length-append are.0 are.1))
texts_again little (suc n) at (t ∷ ts) bytes le are =
    let len : length bytes ≡ length are.0 + length are.1 = ap (λ (l : List ℕ). length l) are.2 ∙ length-append are.0 are.1 in
    let some = text_some little at t are.0 are.3 in
    let read = long_text_again little (place at bytes) t are.0 are.1 are.2 are.3 in
    let rest = texts_again little n (at + length are.0) ts are.1 (omega (arith, len, some)) are.4 in
    at_no (eqb (length bytes) 0) (Some []) (long_text_at little (place at bytes) >>= λ text. option_map (λ more. text.0 ∷ more) (texts_at little n text.1)) (some_bytes bytes (omega (arith, len, some)))
    ∙ bind_is (long_text_at little (place at bytes)) (λ text. option_map (λ more. text.0 ∷ more) (texts_at little n text.1)) (t, place (at + length are.0) are.1) read
    ∙ ap (option_map (λ more. t ∷ more)) rest
  where
    some_bytes : (l : List ℕ) → 0 < length l → eqb (length l) 0 ≡ false
    some_bytes l lt = elim (cases_Bool (eqb (length l) 0)) [ inl e ↦ absurd (omega (arith, lt, eqb-true (length l) 0 e)) | inr e ↦ e ]

-- ---- the first text

remainder_takes : (bytes rest : List ℕ) (b : ℕ) → remainder_byte b bytes ≡ Some rest → bytes ≡ b ∷ rest
remainder_takes [] rest b e = absurd cc
remainder_takes (c ∷ bytes) rest b e =
    let both = cond_some (eqb c b) bytes rest e in
    ap (λ (x : ℕ). x ∷ bytes) (eqb-true c b both.0) ∙ ap (λ (l : List ℕ). b ∷ l) both.1

first_takes : (h : Header) (message text : List ℕ) → IsBytes message → first_text h message ≡ Some text → BeginsWithText h message text
unfolding first_text
first_takes h message text fits e =
    let p = body_place h message in
    let a = bind_some (remainder_byte 115 (signature_text h)) (λ types. long_text_at h.little p >>= λ t. Some t.0) text e in
    let t = bind_some (long_text_at h.little p) (λ t. Some t.0) text a.2 in
    let x = long_text_takes h.little p t.0.0 t.0.1 (body_fits h message fits) t.1 in
    record {
      types = a.0;
      typed = remainder_takes (signature_text h) a.0 115 a.1;
      first = x.0;
      rest = t.0.1.rest;
      parts = x.1.parts;
      is = subst (λ (l : List ℕ). IsLongText h.little h.body_at l x.0) (same_Some t.0.0 text t.2) x.2;
    }

first_again : (h : Header) (message text : List ℕ) → BeginsWithText h message text → first_text h message ≡ Some text
unfolding first_text
first_again h message text is =
    let p = body_place h message in
    ap (λ (s : List ℕ). remainder_byte 115 s >>= λ types. long_text_at h.little p >>= λ t. Some t.0) is.typed
    ∙ bind_is (long_text_at h.little p) (λ t. Some t.0) (text, place (h.body_at + length is.first) is.rest) (long_text_again h.little p text is.first is.rest is.parts is.is)

pub first_law : (h : Header) (message : List ℕ) (found : Option (List ℕ)) → IsBytes message → found ≡ first_text h message → (text : List ℕ) → (found ≡ Some text → BeginsWithText h message text) × (BeginsWithText h message text → found ≡ Some text)
first_law h message found fits is text = (λ e. first_takes h message text fits (sym is ∙ e), λ b. is ∙ first_again h message text b)

-- ---- three texts

abbrev Three : Type 0
Three = List ℕ × List ℕ × List ℕ

three_takes : (little : Bool) (p : Place) (a b c : List ℕ) → IsBytes p.rest → three_texts_at little p ≡ Some (a, b, c) → AreTexts little p.at (a ∷ b ∷ c ∷ []) p.rest
unfolding three_texts_at
three_takes little p a b c fits e =
    let f = bind_some (long_text_at little p) (λ x. long_text_at little x.1 >>= λ y. long_text_at little y.1 >>= λ z. cond (eqb (length z.1.rest) 0) (Some (x.0, y.0, z.0)) None) (a, b, c) e in
    let s = bind_some (long_text_at little f.0.1) (λ y. long_text_at little y.1 >>= λ z. cond (eqb (length z.1.rest) 0) (Some (f.0.0, y.0, z.0)) None) (a, b, c) f.2 in
    let t = bind_some (long_text_at little s.0.1) (λ z. cond (eqb (length z.1.rest) 0) (Some (f.0.0, s.0.0, z.0)) None) (a, b, c) s.2 in
    let end = cond_some (eqb (length t.0.1.rest) 0) (f.0.0, s.0.0, t.0.0) (a, b, c) t.2 in
    let fits_f = after_fits little p f.0.1 f.0.0 fits f.1 in
    let fits_s = after_fits little f.0.1 s.0.1 s.0.0 fits_f s.1 in
    let third = one_takes little s.0.1 t.0.1 t.0.0 [] fits_s t.1 (empty_is t.0.1.rest end.0) in
    let second = one_takes little f.0.1 s.0.1 s.0.0 (t.0.0 ∷ []) fits_f s.1 third in
    let all = one_takes little p f.0.1 f.0.0 (s.0.0 ∷ t.0.0 ∷ []) fits f.1 second in
    subst (λ (x : Three). AreTexts little p.at (x.0 ∷ x.1 ∷ x.2 ∷ []) p.rest) end.1 all

three_again : (little : Bool) (at : ℕ) (bytes a b c : List ℕ) → AreTexts little at (a ∷ b ∷ c ∷ []) bytes → three_texts_at little (place at bytes) ≡ Some (a, b, c)
unfolding three_texts_at
three_again little at bytes a b c are =
    let f = long_text_again little (place at bytes) a are.0 are.1 are.2 are.3 in
    let q = place (at + length are.0) are.1 in
    let s = long_text_again little q b are.4.0 are.4.1 are.4.2 are.4.3 in
    let r = place ((at + length are.0) + length are.4.0) are.4.1 in
    let t = long_text_again little r c are.4.4.0 are.4.4.1 are.4.4.2 are.4.4.3 in
    let o = place (((at + length are.0) + length are.4.0) + length are.4.4.0) are.4.4.1 in
    bind_is (long_text_at little (place at bytes)) (λ x. long_text_at little x.1 >>= λ y. long_text_at little y.1 >>= λ z. cond (eqb (length z.1.rest) 0) (Some (x.0, y.0, z.0)) None) (a, q) f
    ∙ bind_is (long_text_at little q) (λ y. long_text_at little y.1 >>= λ z. cond (eqb (length z.1.rest) 0) (Some (a, y.0, z.0)) None) (b, r) s
    ∙ bind_is (long_text_at little r) (λ z. cond (eqb (length z.1.rest) 0) (Some (a, b, z.0)) None) (c, o) t
    ∙ ap (λ (l : List ℕ). cond (eqb (length l) 0) (Some (a, b, c)) None) are.4.4.4

pub three_law : (h : Header) (message : List ℕ) (found : Option Three) → IsBytes message → found ≡ three_texts h message → (a b c : List ℕ)
    → (found ≡ Some (a, b, c) → AreThreeTexts h message a b c) × (AreThreeTexts h message a b c → found ≡ Some (a, b, c))
unfolding three_texts
three_law h message found fits is a b c =
    let p = body_place h message in
    let typed = bytes_eq-Decides (signature_text h) (codes "sss") in (
      λ e.
          let both = guarded (has_signature h (codes "sss")) (three_texts_at h.little p) (a, b, c) (sym is ∙ e) in
          record { typed = typed.0 both.0; are = three_takes h.little p a b c (body_fits h message fits) both.1 },
      λ t. is ∙ at_yes (has_signature h (codes "sss")) (three_texts_at h.little p) None (typed.1 t.typed) ∙ three_again h.little h.body_at (body_bytes h message) a b c t.are,
    )

-- ---- names

-- the elements of an array, and nothing after them
record Elements (little : Bool) (p q : Place) : Type 0 where
  fits : length q.rest ≤ MOST_ARRAY_BYTES
  spelled : p.rest ≡ array_head little 4 p.at (length q.rest) ++ q.rest
  at : q.at ≡ p.at + length (array_head little 4 p.at (length q.rest))

elements_take : (little : Bool) (p q : Place) → IsBytes p.rest → elements_place little p ≡ Some q → Elements little p q
unfolding elements_place
elements_take little p q fits e =
    let head = bind_some (array_head_at little (codes "s") p) (λ x. bytes_at x.0 x.1 >>= λ body. cond (eqb (length body.1.rest) 0) (Some (place x.1.at body.0)) None) q e in
    let body = bind_some (bytes_at head.0.0 head.0.1) (λ b. cond (eqb (length b.1.rest) 0) (Some (place head.0.1.at b.0)) None) q head.2 in
    let end = cond_some (eqb (length body.0.1.rest) 0) (place head.0.1.at body.0.0) q body.2 in
    let before = array_head_takes little (basic 115) [] p head.0.0 head.0.1 fits head.1 in
    let taken = bytes_takes head.0.0 head.0.1 body.0.0 body.0.1 body.1 in
    let all : head.0.1.rest ≡ body.0.0 = taken.0.parts ∙ ap (λ (l : List ℕ). body.0.0 ++ l) (empty_is body.0.1.rest end.0) ∙ append-nil body.0.0 in
    let spelled : p.rest ≡ array_head little 4 p.at (length body.0.0) ++ body.0.0 =
    before.0.parts ∙ ap (λ (l : List ℕ). array_head little 4 p.at head.0.0 ++ l) all ∙ ap (λ (n : ℕ). array_head little 4 p.at n ++ body.0.0) (sym taken.1) in
    let at_is : head.0.1.at ≡ p.at + length (array_head little 4 p.at (length body.0.0)) = before.0.at ∙ ap (λ (n : ℕ). p.at + length (array_head little 4 p.at n)) (sym taken.1) in
    let le : length body.0.0 ≤ MOST_ARRAY_BYTES = subst (λ (n : ℕ). n ≤ MOST_ARRAY_BYTES) (sym taken.1) before.1 in
    let found : Elements little p (place head.0.1.at body.0.0) = record { fits = le; spelled = spelled; at = at_is } in
    subst (λ (r : Place). Elements little p r) end.1 found

elements_again : (little : Bool) (p : Place) (elements : List ℕ) → length elements ≤ MOST_ARRAY_BYTES → p.rest ≡ array_head little 4 p.at (length elements) ++ elements
    → elements_place little p ≡ Some (place (p.at + length (array_head little 4 p.at (length elements))) elements)
unfolding elements_place
elements_again little p elements le spelled =
    let n = length elements in
    let q = place (p.at + length (array_head little 4 p.at n)) elements in
    let end = place (q.at + n) [] in
    let head = array_head_again little (basic 115) [] p n elements spelled le in
    let body = bytes_again q elements [] n (sym (append-nil elements)) refl in
    bind_is (array_head_at little (codes "s") p) (λ x. bytes_at x.0 x.1 >>= λ b. cond (eqb (length b.1.rest) 0) (Some (place x.1.at b.0)) None) (n, q) head
    ∙ bind_is (bytes_at n q) (λ b. cond (eqb (length b.1.rest) 0) (Some (place q.at b.0)) None) (elements, end) body

names_take : (h : Header) (message : List ℕ) (names : List (List ℕ)) → IsBytes message → names_in h message ≡ Some names → AreNames h message names
unfolding names_in names_place
names_take h message names fits e =
    let p = body_place h message in
    let a = bind_some (names_place h message) (λ q. texts_at h.little (length q.rest) q) names e in
    let both = guarded (has_signature h (codes "as")) (elements_place h.little p) a.0 a.1 in
    let body = body_fits h message fits in
    let els = elements_take h.little p a.0 body both.1 in
    let head = array_head h.little 4 h.body_at (length a.0.rest) in
    let fits_els = IsBytes-right head a.0.rest (subst IsBytes els.spelled body) in
    record {
      typed = (bytes_eq-Decides (signature_text h) (codes "as")).0 both.0;
      elements = a.0.rest;
      fits = els.fits;
      spelled = els.spelled;
      are = subst (λ (at : ℕ). AreTexts h.little at names a.0.rest) els.at (texts_take h.little (length a.0.rest) a.0 names fits_els a.2);
    }

names_again : (h : Header) (message : List ℕ) (names : List (List ℕ)) → AreNames h message names → names_in h message ≡ Some names
unfolding names_in names_place
names_again h message names is =
    let p = body_place h message in
    let q = place (h.body_at + length (array_head h.little 4 h.body_at (length is.elements))) is.elements in
    let typed : has_signature h (codes "as") ≡ true = (bytes_eq-Decides (signature_text h) (codes "as")).1 is.typed in
    let there : names_place h message ≡ Some q = at_yes (has_signature h (codes "as")) (elements_place h.little p) None typed ∙ elements_again h.little p is.elements is.fits is.spelled in
    bind_is (names_place h message) (λ r. texts_at h.little (length r.rest) r) q there
    ∙ texts_again h.little (length is.elements) q.at names is.elements (omega arith) is.are

pub names_law : (h : Header) (message : List ℕ) (found : Option (List (List ℕ))) → IsBytes message → found ≡ names_in h message → (names : List (List ℕ))
    → (found ≡ Some names → AreNames h message names) × (AreNames h message names → found ≡ Some names)
names_law h message found fits is names = (λ e. names_take h message names fits (sym is ∙ e), λ n. is ∙ names_again h message names n)

is_names_by : (h : Header) (message : List ℕ) → IsBytes message → (found : Option (List (List ℕ))) → names_in h message ≡ found
    → (is_some found ≡ true → (names : List (List ℕ)) × AreNames h message names) × ((names : List (List ℕ)) × AreNames h message names → is_some found ≡ true)
is_names_by h message fits (Some names) e = (λ yes. (names, names_take h message names fits e), λ n. refl)
is_names_by h message fits None e = (λ yes. absurd (false≢true yes), λ n. absurd (none_some n.0 (sym e ∙ names_again h message n.0 n.1)))
  where
    none_some : (names : List (List ℕ)) → ◌≡◌ {A = Option (List (List ℕ))} None (Some names) → ⊥
    none_some names d = cc

pub is_names_law : (h : Header) (message : List ℕ) (b : Bool) → IsBytes message → b ≡ is_some (names_in h message)
    → (b ≡ true → (names : List (List ℕ)) × AreNames h message names) × ((names : List (List ℕ)) × AreNames h message names → b ≡ true)
is_names_law h message b fits is =
    let by = is_names_by h message fits (names_in h message) refl in
    (λ yes. by.0 (sym is ∙ yes), λ n. is ∙ by.1 n)

pub names_ok : {E : Type 0} (h : Header) (message : List ℕ) (r : Result (Option (List (List ℕ))) E) → IsBytes message → IfOk r (λ found. found ≡ names_in h message)
    → IfOk r (λ found. (names : List (List ℕ)) → (found ≡ Some names → AreNames h message names) × (AreNames h message names → found ≡ Some names))
names_ok h message (Ok found) fits is = names_law h message found fits is
names_ok h message (Err e) fits is = tt
