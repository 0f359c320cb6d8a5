-- Numbers and texts that are read are the spelled ones, and what is spelled is read.
use Rattle.std.proofs.Common.{◌≡◌, ℕ, zero, suc, ◌+◌, ◌-◌, ◌^◌, ◌<◌, ◌≤◌, Bool, true, false, cond, eqb, ltb, List, [], ◌∷◌, ◌++◌, length, get_or, take, drop, Option, Some, None, refl, sym, ap, subst, ◌∙◌, append_assoc, inl, inr, arith}
use Rattle.std.specs.Prelude.{◌&&◌, option_map, MatchBool, ◌||◌}
use Rattle.std.proofs.lemmas.Bool.{ltb-false, le-ltb, lt-ltb, eqb-true, eq-eqb, and_parts, and_from, cases_Bool, cases_lt}
use Rattle.std.proofs.lemmas.Nat.{le_bytes_4, be_bytes_4}
use Rattle.byteorder.specs.Numbers.{little_number-reads_back, big_number-reads_back}
use Rattle.std.proofs.lemmas.Option.{cond_some, some_pair_parts}
use Rattle.std.proofs.lemmas.List.{length-append, get_or-append-add, get_or_append_left, get_or_past}
use Rattle.fp_base.specs.Steps.{◌>>=◌}
use Rattle.bus_frame.specs.Numbers.{padding, number_from, is_text}
use Rattle.bus_frame.specs.Places.{Place, bytes_at, byte_at, aligned_at, number_at, text_at, long_text_at, short_text_at}
use Rattle.bus_frame.specs.Writing.{zeros, number_bytes}
use Rattle.bus_frame.specs.Grammar.{IsNumber, IsLongText, IsShortText}
use Rattle.bus_frame.proofs.Taking.{place, Takes, Takes-then, bind_some, bind_is, none_if, bytes_takes, bytes_again, byte_takes, byte_again, aligned_takes, aligned_again}
use Rattle.bus_frame.proofs.Rows.{length-number_bytes}

abbrev pub IsBytes : List ℕ → Type 0
IsBytes bytes = (i : ℕ) → get_or bytes i 0 < 256

pub IsBytes-right : (x y : List ℕ) → IsBytes (x ++ y) → IsBytes y
IsBytes-right x y h i = subst (λ (b : ℕ). b < 256) (get_or-append-add x y i 0) (h (length x + i))

pub IsBytes-left : (x y : List ℕ) → IsBytes (x ++ y) → IsBytes x
IsBytes-left x y h i =
    elim (cases_lt i (length x)) [
      | inl lt ↦ subst (λ (b : ℕ). b < 256) (get_or_append_left x y 0 i lt) (h i)
      | inr le ↦ subst (λ (b : ℕ). b < 256) (sym (get_or_past x i 0 le)) (omega arith)
    ]

pub Takes-bytes : (p q : Place) (x : List ℕ) → IsBytes p.rest → Takes p x q → IsBytes x × IsBytes q.rest
Takes-bytes p q x fits t =
    let both = subst IsBytes t.parts fits in
    (IsBytes-left x q.rest both, IsBytes-right x q.rest both)

pub number_bytes-from : (little : Bool) (digits : List ℕ) → length digits ≡ 4 → IsBytes digits → number_bytes little (number_from little digits) ≡ digits
number_bytes-from true digits len fits = le_bytes_4 digits _ len fits (omega arith)
number_bytes-from false digits len fits = be_bytes_4 digits _ len fits (omega arith)

pub number_from-bytes : (little : Bool) (n : ℕ) → n < 2 ^ 32 → number_from little (number_bytes little n) ≡ n
number_from-bytes true n lt = little_number-reads_back 4 n [] lt
number_from-bytes false n lt = big_number-reads_back 4 n [] lt

pub number_from-below : (little : Bool) (digits : List ℕ) → IsBytes digits → number_from little digits < 2 ^ 32
number_from-below true digits fits = omega (arith, fits 0, fits 1, fits 2, fits 3)
number_from-below false digits fits = omega (arith, fits 0, fits 1, fits 2, fits 3)

pub number_takes : (little : Bool) (p : Place) (n : ℕ) (q : Place) → IsBytes p.rest → number_at little p ≡ Some (n, q) → (x : List ℕ) × Takes p x q × IsNumber little p.at n x
unfolding number_at
number_takes little p n q fits e =
    let a = bind_some (aligned_at 4 p) (λ r. bytes_at 4 r >>= λ d. Some (number_from little d.0, d.1)) (n, q) e in
    let d = bind_some (bytes_at 4 a.0) (λ d. Some (number_from little d.0, d.1)) (n, q) a.2 in
    let before = aligned_takes 4 p a.0 a.1 in
    let digits = bytes_takes 4 a.0 d.0.0 d.0.1 d.1 in
    let fits_a = (Takes-bytes p a.0 (zeros 4 p.at) fits before).1 in
    let fits_d = (Takes-bytes a.0 d.0.1 d.0.0 fits_a digits.0).0 in
    let both = some_pair_parts (number_from little d.0.0) n d.0.1 q d.2 in
    let whole = Takes-then p a.0 d.0.1 (zeros 4 p.at) d.0.0 before digits.0 in
    let back : d.0.0 ≡ number_bytes little n = sym (number_bytes-from little d.0.0 digits.1 fits_d) ∙ ap (number_bytes little) both.0 in (
      zeros 4 p.at ++ d.0.0,
      subst (λ (r : Place). Takes p (zeros 4 p.at ++ d.0.0) r) both.1 whole,
      record {
        fits = subst (λ (k : ℕ). k < 2 ^ 32) both.0 (number_from-below little d.0.0 fits_d);
        spelled = ap (λ (b : List ℕ). zeros 4 p.at ++ b) back;
      },
    )

pub number_again : (little : Bool) (p : Place) (n : ℕ) (x rest : List ℕ) → p.rest ≡ x ++ rest → IsNumber little p.at n x → number_at little p ≡ Some (n, place (p.at + length x) rest)
unfolding number_at
number_again little p n x rest parts is =
    let z = zeros 4 p.at in
    let digits = number_bytes little n in
    let grouped : p.rest ≡ z ++ (digits ++ rest) = parts ∙ ap (λ (b : List ℕ). b ++ rest) is.spelled ∙ append_assoc z digits rest in
    let q = place (p.at + length z) (digits ++ rest) in
    let a = aligned_again 4 p (digits ++ rest) grouped in
    let d = bytes_again q digits rest 4 refl (length-number_bytes little n) in
    let end : place ((p.at + length z) + length digits) rest ≡ place (p.at + length x) rest = ap (λ (k : ℕ). place k rest) (omega (arith, length-append z digits, ap (λ (b : List ℕ). length b) is.spelled)) in
    bind_is (aligned_at 4 p) (λ r. bytes_at 4 r >>= λ d. Some (number_from little d.0, d.1)) q a
    ∙ bind_is (bytes_at 4 q) (λ d. Some (number_from little d.0, d.1)) (digits, place ((p.at + length z) + length digits) rest) d
    ∙ ap (λ (k : ℕ). Some (k, place ((p.at + length z) + length digits) rest)) (number_from-bytes little n is.fits)
    ∙ ap (λ (r : Place). Some (n, r)) end

-- ---- texts

text_takes : (n : ℕ) (p : Place) (t : List ℕ) (q : Place) → text_at n p ≡ Some (t, q) → Takes p (t ++ 0 ∷ []) q × (length t ≡ n) × (is_text t ≡ true)
unfolding text_at
text_takes n p t q e =
    let a = bind_some (bytes_at n p) (λ text. byte_at text.1 >>= λ end. cond (is_text text.0 && eqb end.0 0) (Some (text.0, end.1)) None) (t, q) e in
    let b = bind_some (byte_at a.0.1) (λ end. cond (is_text a.0.0 && eqb end.0 0) (Some (a.0.0, end.1)) None) (t, q) a.2 in
    let g = cond_some (is_text a.0.0 && eqb b.0.0 0) (a.0.0, b.0.1) (t, q) b.2 in
    let tests = and_parts (is_text a.0.0) (eqb b.0.0 0) g.0 in
    let t_is : a.0.0 ≡ t = ap (λ (r : List ℕ × Place). r.0) g.1 in
    let q_is : b.0.1 ≡ q = ap (λ (r : List ℕ × Place). r.1) g.1 in
    let text = bytes_takes n p a.0.0 a.0.1 a.1 in
    let end = byte_takes a.0.1 b.0.0 b.0.1 b.1 in
    let whole = Takes-then p a.0.1 b.0.1 a.0.0 (b.0.0 ∷ []) text.0 end in
    let x_is : a.0.0 ++ b.0.0 ∷ [] ≡ t ++ 0 ∷ [] = ap (λ (c : ℕ). a.0.0 ++ c ∷ []) (eqb-true b.0.0 0 tests.1) ∙ ap (λ (l : List ℕ). l ++ 0 ∷ []) t_is in (
      subst (λ (r : Place). Takes p (t ++ 0 ∷ []) r) q_is (subst (λ (x : List ℕ). Takes p x b.0.1) x_is whole),
      sym (ap (λ (l : List ℕ). length l) t_is) ∙ text.1,
      sym (ap is_text t_is) ∙ tests.0,
    )

text_again : (p : Place) (t rest : List ℕ) (n : ℕ) → p.rest ≡ (t ++ 0 ∷ []) ++ rest → length t ≡ n → is_text t ≡ true → text_at n p ≡ Some (t, place (p.at + length (t ++ 0 ∷ [])) rest)
unfolding text_at
text_again p t rest n parts len valid =
    let grouped : p.rest ≡ t ++ (0 ∷ rest) = parts ∙ append_assoc t (0 ∷ []) rest in
    let q = place (p.at + length t) (0 ∷ rest) in
    let a = bytes_again p t (0 ∷ rest) n grouped len in
    let b = byte_again q 0 rest refl in
    let end : place ((p.at + length t) + 1) rest ≡ place (p.at + length (t ++ 0 ∷ [])) rest = ap (λ (k : ℕ). place k rest) (omega (arith, length-append t (0 ∷ []))) in
    bind_is (bytes_at n p) (λ text. byte_at text.1 >>= λ end. cond (is_text text.0 && eqb end.0 0) (Some (text.0, end.1)) None) (t, q) a
    ∙ bind_is (byte_at q) (λ end. cond (is_text t && eqb end.0 0) (Some (t, end.1)) None) (0, place ((p.at + length t) + 1) rest) b
    ∙ ap (λ (v : Bool). cond (v && true) (Some (t, place ((p.at + length t) + 1) rest)) None) valid
    ∙ ap (λ (r : Place). Some (t, r)) end

pub long_text_takes : (little : Bool) (p : Place) (t : List ℕ) (q : Place) → IsBytes p.rest → long_text_at little p ≡ Some (t, q) → (x : List ℕ) × Takes p x q × IsLongText little p.at t x
unfolding long_text_at
long_text_takes little p t q fits e =
    let a = bind_some (number_at little p) (λ len. text_at len.0 len.1) (t, q) e in
    let len = number_takes little p a.0.0 a.0.1 fits a.1 in
    let text = text_takes a.0.0 a.0.1 t q a.2 in
    let tail = t ++ 0 ∷ [] in
    let head = zeros 4 p.at ++ number_bytes little (length t) in
    let head_is : len.0 ≡ head = len.2.spelled ∙ ap (λ (k : ℕ). zeros 4 p.at ++ number_bytes little k) (sym text.1) in (
      len.0 ++ tail,
      Takes-then p a.0.1 q len.0 tail len.1 text.0,
      record {
        fits = subst (λ (k : ℕ). k < 2 ^ 32) (sym text.1) len.2.fits;
        valid = text.2;
        spelled = ap (λ (l : List ℕ). l ++ tail) head_is ∙ sym (append_assoc head t (0 ∷ []));
      },
    )

pub long_text_again : (little : Bool) (p : Place) (t x rest : List ℕ) → p.rest ≡ x ++ rest → IsLongText little p.at t x → long_text_at little p ≡ Some (t, place (p.at + length x) rest)
unfolding long_text_at
long_text_again little p t x rest parts is =
    let tail = t ++ 0 ∷ [] in
    let head = zeros 4 p.at ++ number_bytes little (length t) in
    let x_is : x ≡ head ++ tail = is.spelled ∙ append_assoc head t (0 ∷ []) in
    let grouped : p.rest ≡ head ++ (tail ++ rest) = parts ∙ ap (λ (l : List ℕ). l ++ rest) x_is ∙ append_assoc head tail rest in
    let q = place (p.at + length head) (tail ++ rest) in
    let a = number_again little p (length t) head (tail ++ rest) grouped (record { fits = is.fits; spelled = refl }) in
    let b = text_again q t rest (length t) refl refl is.valid in
    let end : place ((p.at + length head) + length tail) rest ≡ place (p.at + length x) rest = ap (λ (k : ℕ). place k rest) (omega (arith, length-append head tail, ap (λ (l : List ℕ). length l) x_is)) in
    bind_is (number_at little p) (λ len. text_at len.0 len.1) (length t, q) a ∙ b ∙ ap (λ (r : Place). Some (t, r)) end

pub short_text_takes : (p : Place) (t : List ℕ) (q : Place) → IsBytes p.rest → short_text_at p ≡ Some (t, q) → (x : List ℕ) × Takes p x q × IsShortText t x
unfolding short_text_at
short_text_takes p t q fits e =
    let a = bind_some (byte_at p) (λ len. text_at len.0 len.1) (t, q) e in
    let len = byte_takes p a.0.0 a.0.1 a.1 in
    let text = text_takes a.0.0 a.0.1 t q a.2 in
    let tail = t ++ 0 ∷ [] in
    let head_fits = (Takes-bytes p a.0.1 (a.0.0 ∷ []) fits len).0 0 in (
      a.0.0 ∷ tail,
      Takes-then p a.0.1 q (a.0.0 ∷ []) tail len text.0,
      record {
        fits = subst (λ (k : ℕ). k < 256) (sym text.1) head_fits;
        valid = text.2;
        spelled = ap (λ (k : ℕ). k ∷ tail) (sym text.1);
      },
    )

pub short_text_again : (p : Place) (t x rest : List ℕ) → p.rest ≡ x ++ rest → IsShortText t x → short_text_at p ≡ Some (t, place (p.at + length x) rest)
unfolding short_text_at
short_text_again p t x rest parts is =
    let tail = t ++ 0 ∷ [] in
    let grouped : p.rest ≡ length t ∷ (tail ++ rest) = parts ∙ ap (λ (l : List ℕ). l ++ rest) is.spelled in
    let q = place (p.at + 1) (tail ++ rest) in
    let a = byte_again p (length t) (tail ++ rest) grouped in
    let b = text_again q t rest (length t) refl refl is.valid in
    let end : place ((p.at + 1) + length tail) rest ≡ place (p.at + length x) rest = ap (λ (k : ℕ). place k rest) (omega (arith, ap (λ (l : List ℕ). length l) is.spelled)) in
    bind_is (byte_at p) (λ len. text_at len.0 len.1) (length t, q) a ∙ b ∙ ap (λ (r : Place). Some (t, r)) end
