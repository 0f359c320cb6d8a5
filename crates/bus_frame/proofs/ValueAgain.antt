-- A value of a type is read.
use Rattle.std.proofs.Common.{◌≡◌, ℕ, zero, suc, ◌+◌, ◌-◌, ◌^◌, ◌<◌, ◌≤◌, Bool, true, false, cond, eqb, ltb, leb, List, [], ◌∷◌, ◌++◌, length, take, drop, Option, Some, None, refl, sym, ap, subst, ◌∙◌, append_assoc, inl, inr, arith}
use Rattle.std.specs.Option.{option_or}
use Rattle.std.specs.Prelude.{◌&&◌, ◌||◌, ◌⊎◌, option_map, MatchBool}
use Rattle.std.specs.List.{concat}
use Rattle.std.proofs.lemmas.Bool.{ltb-true, ltb-false, lt-ltb, le-ltb, eqb-true, eqb-false, eq-eqb, ne_eqb, and_parts, and_from, cases_Bool, false≢true, MatchBool-at_true, MatchBool-at_false}
use Rattle.std.proofs.lemmas.List.{length-append, append-nil, nil_from_length}
use Rattle.bus_frame.specs.declared.limits.TheConstants.{MOST_ARRAY_BYTES, MOST_ARRAYS, MOST_STRUCTS}
use Rattle.bus_frame.specs.Steps.{first_of}
use Rattle.fp_base.specs.Steps.{◌>>=◌}
use Rattle.bus_frame.specs.Types.{Ty, Tys, basic, variant, array, struct, entry, none, more, type_text, types_text, is_basic, is_type, are_types, element_after, whole_type_after, is_one_type}
use Rattle.bus_frame.specs.Numbers.{padding}
use Rattle.bus_frame.specs.Places.{Place, bytes_at, byte_at, aligned_at, number_at, long_text_at, short_text_at}
use Rattle.bus_frame.specs.Values.{fixed_size, alignment, fixed_at, truth_at, basic_at, Ended, closed, members_at, elements_at, array_type_after, array_head_at, array_at, variant_type_at, variant_at, struct_at, value_step, value_at}
use Rattle.bus_frame.specs.Writing.{zeros, number_bytes}
use Rattle.bus_frame.specs.Grammar.{IsFixed, IsNumber, IsTruth, IsLongText, IsShortText, IsBasic, AreInRow, array_head, IsArray, AreMembers, IsStruct, IsTypeText, IsVariant, type_alignment, IsValue}
use Rattle.bus_frame.proofs.Taking.{place, bind_some, bind_is, bytes_again, byte_again, aligned_again}
use Rattle.bus_frame.proofs.Spelled.{number_again, long_text_again, short_text_again}
use Rattle.bus_frame.proofs.TypeLaws.{basic_apart, complete_again, element_skipped, count, count_le, text_some}
use Rattle.bus_frame.proofs.ValueTakes.{first_alignment, not_closed, closing, wider, less_one, shuts_struct, shuts_entry}
use Rattle.bus_frame.proofs.ValueSteps.{step}
use Rattle.bus_frame.proofs.Rows.{length-number_bytes}

-- what is P is read, to where it ends
abbrev pub ReadsAt : (Place → Option Place) → (ℕ → List ℕ → Type 0) → Type 0
ReadsAt read P = (p : Place) (v rest : List ℕ) → p.rest ≡ v ++ rest → P p.at v → read p ≡ Some (place (p.at + length v) rest)

-- the same of a reader of types
abbrev pub CompleteAt : (List ℕ → Place → Option Ended) → (types left : List ℕ) → (ℕ → List ℕ → Type 0) → Type 0
CompleteAt one types left P = (p : Place) (v rest : List ℕ) → p.rest ≡ v ++ rest → P p.at v → one types p ≡ Some (left, place (p.at + length v) rest)

pub map_is : {A B : Type 0} (o : Option A) (f : A → B) (x : A) → o ≡ Some x → option_map f o ≡ Some (f x)
map_is {A} o f x e = ap (λ (r : Option A). option_map f r) e

-- a place after two pieces
pub remainder_both : (at : ℕ) (x y z rest : List ℕ) → z ≡ x ++ y → place ((at + length x) + length y) rest ≡ place (at + length z) rest
remainder_both at x y z rest e = ap (λ (k : ℕ). place k rest) (omega (arith, length-append x y, ap (λ (l : List ℕ). length l) e))

-- ---- basic types

fixed_again : (size : ℕ) → ReadsAt (fixed_at size) (IsFixed size)
unfolding fixed_at
fixed_again size p v rest parts is =
    let z = zeros size p.at in
    let grouped : p.rest ≡ z ++ (is.digits ++ rest) = parts ∙ ap (λ (l : List ℕ). l ++ rest) is.spelled ∙ append_assoc z is.digits rest in
    let q = place (p.at + length z) (is.digits ++ rest) in
    let a = aligned_again size p (is.digits ++ rest) grouped in
    let d = bytes_again q is.digits rest size refl is.size_is in
    bind_is (aligned_at size p) (λ r. bytes_at size r >>= λ b. Some b.1) q a
    ∙ bind_is (bytes_at size q) (λ b. Some b.1) (is.digits, place ((p.at + length z) + length is.digits) rest) d
    ∙ ap (λ (r : Place). Some r) (remainder_both p.at z is.digits v rest is.spelled)

truth_again : (little : Bool) → ReadsAt (truth_at little) (IsTruth little)
unfolding truth_at
truth_again little p v rest parts is =
    let bit = is.bit in
    let n = number_again little p is.n v rest parts (record { fits = omega (arith, bit); spelled = is.spelled }) in
    bind_is (number_at little p) (λ k. cond (ltb 1 k.0) None (Some k.1)) (is.n, place (p.at + length v) rest) n
    ∙ ap (λ (b : Bool). cond b None (Some (place (p.at + length v) rest))) (le-ltb 1 is.n bit)

-- the way of a test
pub at_yes : {A : Type 0} (b : Bool) (x y : A) → b ≡ true → cond b x y ≡ x
at_yes {A} b x y e = ap (λ (t : Bool). cond {A = A} t x y) e

pub at_no : {A : Type 0} (b : Bool) (x y : A) → b ≡ false → cond b x y ≡ y
at_no {A} b x y e = ap (λ (t : Bool). cond {A = A} t x y) e

basic_again : (little : Bool) (c : ℕ) → ReadsAt (basic_at little c) (IsBasic little c)
unfolding basic_at
basic_again little c p v rest parts is =
    let is_long = eqb c 115 || eqb c 111 in
    let end = place (p.at + length v) rest in
    let long_end = option_map (λ t. t.1) (long_text_at little p) in
    let short_end = option_map (λ t. t.1) (short_text_at p) in
    let fixed_end = cond (eqb (fixed_size c) 0) None (fixed_at (fixed_size c) p) in
    let truth_end = cond (eqb c 98) (truth_at little p) fixed_end in
    let others = cond (eqb c 103) short_end truth_end in
    elim (cases_Bool is_long) [
      | inl g ↦
          let t = MatchBool-at_true _ _ g is in
          at_yes is_long long_end others g ∙ map_is (long_text_at little p) (λ t. t.1) (t.0, end) (long_text_again little p t.0 v rest parts t.1)
      | inr g ↦
          let is1 = MatchBool-at_false _ _ g is in
          at_no is_long long_end others g ∙ elim (cases_Bool (eqb c 103)) [
            | inl h ↦
                let t = MatchBool-at_true _ _ h is1 in
                at_yes (eqb c 103) short_end truth_end h ∙ map_is (short_text_at p) (λ t. t.1) (t.0, end) (short_text_again p t.0 v rest parts t.1)
            | inr h ↦
                let is2 = MatchBool-at_false _ _ h is1 in
                at_no (eqb c 103) short_end truth_end h ∙ elim (cases_Bool (eqb c 98)) [
                  | inl k ↦ at_yes (eqb c 98) (truth_at little p) fixed_end k ∙ truth_again little p v rest parts (MatchBool-at_true _ _ k is2)
                  | inr k ↦
                      let fixed = MatchBool-at_false _ _ k is2 in
                      let some : eqb (fixed_size c) 0 ≡ false = ne_eqb (fixed_size c) 0 (λ e. omega (arith, fixed.some)) in
                      at_no (eqb c 98) (truth_at little p) fixed_end k ∙ at_no (eqb (fixed_size c) 0) None (fixed_at (fixed_size c) p) some ∙ fixed_again (fixed_size c) p v rest parts fixed
                ]
          ]
    ]

-- ---- elements and members

elements_again : (one : List ℕ → Place → Option Ended) (types left : List ℕ) (P : ℕ → List ℕ → Type 0) → CompleteAt one types left P → ((at : ℕ) (v : List ℕ) → P at v → 0 < length v)
    → (n : ℕ) (p : Place) (x : List ℕ) (xs : List (List ℕ)) → length (concat (x ∷ xs)) ≤ n → p.rest ≡ concat (x ∷ xs) → AreInRow P p.at (x ∷ xs) → elements_at one n types p ≡ Some left
elements_again one types left P again some zero p x xs le parts each =
    absurd (omega (arith, some p.at x each.0, length-append x (concat xs)))
elements_again one types left P again some (suc n) p x [] le parts each =
    let q = place (p.at + length x) [] in
    let read = again p x [] parts each.0 in
    bind_is (one types p) (λ r. cond (eqb (length r.1.rest) 0) (Some r.0) (elements_at one n types r.1)) (left, q) read
elements_again one types left P again some (suc n) p x (y ∷ ys) le parts each =
    let others = concat (y ∷ ys) in
    let q = place (p.at + length x) others in
    let read = again p x others parts each.0 in
    let here = some p.at x each.0 in
    let next = some (p.at + length x) y each.1.0 in
    let some_left : eqb (length others) 0 ≡ false = ne_eqb (length others) 0 (λ e. omega (arith, next, length-append y (concat ys))) in
    bind_is (one types p) (λ r. cond (eqb (length r.1.rest) 0) (Some r.0) (elements_at one n types r.1)) (left, q) read
    ∙ at_no (eqb (length others) 0) (Some left) (elements_at one n types q) some_left
    ∙ elements_again one types left P again some n q y ys (omega (arith, le, here, length-append x others)) refl each.1

unfoldable pub CompleteAll : (List ℕ → Place → Option Ended) → (Ty → ℕ → List ℕ → Type 0) → Tys → Type 0
CompleteAll one P none = Unit {0}
CompleteAll one P (more t ts) = ((left : List ℕ) → CompleteAt one (type_text t ++ left) left (P t)) × CompleteAll one P ts

members_again : (one : List ℕ → Place → Option Ended) (P : Ty → ℕ → List ℕ → Type 0) (b a s : ℕ) (left : List ℕ) → closing b → (n : ℕ) (t : Ty) (ts : Tys) → CompleteAll one P (more t ts) → are_types ts a s ≡ true → count ts < n
    → (p : Place) (v rest : List ℕ) → p.rest ≡ v ++ rest → AreMembers P (more t ts) p.at v → members_at one n ((type_text t ++ types_text ts) ++ b ∷ left) p ≡ Some (left, place (p.at + length v) rest)
unfolding closing CompleteAll
members_again one P b a s left close zero t ts again good lt p v rest parts is = absurd (omega arith)
members_again one P b a s left close (suc n) t none again good lt p v rest parts is =
    let first = is.0 in
    let v_is : v ≡ first = is.2 ∙ ap (λ (l : List ℕ). first ++ l) is.4 ∙ append-nil first in
    let types = (type_text t ++ []) ++ b ∷ left in
    let grouped : types ≡ type_text t ++ b ∷ left = ap (λ (l : List ℕ). l ++ b ∷ left) (append-nil (type_text t)) in
    let q = place (p.at + length first) rest in
    let read : one types p ≡ Some (b ∷ left, q) = ap (λ (l : List ℕ). one l p) grouped ∙ again.0 (b ∷ left) p first rest (parts ∙ ap (λ (l : List ℕ). l ++ rest) v_is) is.3 in
    let shut : closed (b ∷ left) ≡ Some left = ap (λ (t : Bool). cond t (Some left) None) close in
    bind_is (one types p) (λ r. option_or (option_map (λ (l : List ℕ). (l, r.1)) (closed r.0)) (members_at one n r.0 r.1)) (b ∷ left, q) read
    ∙ ap (λ (o : Option (List ℕ)). option_or (option_map (λ (l : List ℕ). (l, q)) o) (members_at one n (b ∷ left) q)) shut
    ∙ ap (λ (l : List ℕ). Some (left, place (p.at + length l) rest)) (sym v_is)
members_again one P b a s left close (suc n) t (more u us) again good lt p v rest parts is =
    let first = is.0 in
    let later = is.1 in
    let goods = and_parts (is_type false u a s) (are_types us a s) good in
    let after = (type_text u ++ types_text us) ++ b ∷ left in
    let types = (type_text t ++ (type_text u ++ types_text us)) ++ b ∷ left in
    let grouped : types ≡ type_text t ++ after = append_assoc (type_text t) (type_text u ++ types_text us) (b ∷ left) in
    let after_is : after ≡ type_text u ++ (types_text us ++ b ∷ left) = append_assoc (type_text u) (types_text us) (b ∷ left) in
    let q = place (p.at + length first) (later ++ rest) in
    let read : one types p ≡ Some (after, q) = ap (λ (l : List ℕ). one l p) grouped ∙ again.0 after p first (later ++ rest) (parts ∙ ap (λ (l : List ℕ). l ++ rest) is.2 ∙ append_assoc first later rest) is.3 in
    let unclosed : closed after ≡ None = ap closed after_is ∙ not_closed false u a s (types_text us ++ b ∷ left) goods.0 in
    bind_is (one types p) (λ r. option_or (option_map (λ (l : List ℕ). (l, r.1)) (closed r.0)) (members_at one n r.0 r.1)) (after, q) read
    ∙ ap (λ (o : Option (List ℕ)). option_or (option_map (λ (l : List ℕ). (l, q)) o) (members_at one n after q)) unclosed
    ∙ members_again one P b a s left close n u us again.1 goods.1 (omega arith) q later rest refl is.4
    ∙ ap (λ (r : Place). Some (left, r)) (remainder_both p.at first later v rest is.2)

-- ---- containers

pub array_head_again : (little : Bool) (t : Ty) (left : List ℕ) (p : Place) (n : ℕ) (rest : List ℕ) → p.rest ≡ array_head little (type_alignment t) p.at n ++ rest → n ≤ MOST_ARRAY_BYTES
    → array_head_at little (type_text t ++ left) p ≡ Some (n, place (p.at + length (array_head little (type_alignment t) p.at n)) rest)
unfolding array_head_at
array_head_again little t left p n rest parts le =
    let types = type_text t ++ left in
    let code = first_alignment t left in
    let count = zeros 4 p.at ++ number_bytes little n in
    let pad = zeros (type_alignment t) (p.at + length count) in
    let grouped : p.rest ≡ count ++ (pad ++ rest) = parts ∙ append_assoc count pad rest in
    let q = place (p.at + length count) (pad ++ rest) in
    let r = place ((p.at + length count) + length pad) rest in
    let a = number_again little p n count (pad ++ rest) grouped (record { fits = omega (arith, le); spelled = refl }) in
    let b : aligned_at (alignment code.0) q ≡ Some r = ap (λ (k : ℕ). aligned_at k q) code.3 ∙ aligned_again (type_alignment t) q rest refl in
    bind_is (number_at little p) (λ k. first_of types >>= λ c. aligned_at (alignment c.0) k.1 >>= λ x. cond (ltb MOST_ARRAY_BYTES k.0) None (Some (k.0, x))) (n, q) a
    ∙ bind_is (first_of types) (λ c. aligned_at (alignment c.0) q >>= λ x. cond (ltb MOST_ARRAY_BYTES n) None (Some (n, x))) (code.0, code.1) code.2
    ∙ bind_is (aligned_at (alignment code.0) q) (λ x. cond (ltb MOST_ARRAY_BYTES n) None (Some (n, x))) r b
    ∙ at_no (ltb MOST_ARRAY_BYTES n) None (Some (n, r)) (le-ltb MOST_ARRAY_BYTES n le)
    ∙ ap (λ (x : Place). Some (n, x)) (remainder_both p.at count pad (count ++ pad) rest refl)

array_row : (one : List ℕ → Place → Option Ended) (P : ℕ → List ℕ → Type 0) (t : Ty) (left : List ℕ) → CompleteAt one (type_text t ++ left) left P → ((at : ℕ) (v : List ℕ) → P at v → 0 < length v) → element_after whole_type_after (type_text t ++ left) ≡ Some left
    → (at : ℕ) (elements : List (List ℕ)) → AreInRow P at elements → array_type_after one (type_text t ++ left) at (concat elements) ≡ Some left
array_row one P t left again some skipped at [] each = skipped
array_row one P t left again some skipped at (x ∷ xs) each =
    let body = concat (x ∷ xs) in
    let types = type_text t ++ left in
    let here = some at x each.0 in
    let some_left : eqb (length body) 0 ≡ false = ne_eqb (length body) 0 (λ e. omega (arith, here, length-append x (concat xs))) in
    at_no (eqb (length body) 0) (element_after whole_type_after types) (elements_at one (length body) types (place at body)) some_left
    ∙ elements_again one types left P again some (length body) (place at body) x xs (omega arith) refl each

array_again : (little : Bool) (one : List ℕ → Place → Option Ended) (P : ℕ → List ℕ → Type 0) (t : Ty) (left : List ℕ) → CompleteAt one (type_text t ++ left) left P → ((at : ℕ) (v : List ℕ) → P at v → 0 < length v) → element_after whole_type_after (type_text t ++ left) ≡ Some left
    → CompleteAt (array_at little one) (type_text t ++ left) left (IsArray little (type_alignment t) P)
unfolding array_at
array_again little one P t left again some skipped p v rest parts is =
    let types = type_text t ++ left in
    let body = concat is.elements in
    let n = length body in
    let head = array_head little (type_alignment t) p.at n in
    let grouped : p.rest ≡ head ++ (body ++ rest) = parts ∙ ap (λ (l : List ℕ). l ++ rest) is.spelled ∙ append_assoc head body rest in
    let q = place (p.at + length head) (body ++ rest) in
    let r = place ((p.at + length head) + length body) rest in
    let a = array_head_again little t left p n (body ++ rest) grouped is.fits in
    let b = bytes_again q body rest n refl refl in
    let d = array_row one P t left again some skipped (p.at + length head) is.elements is.each in
    bind_is (array_head_at little types p) (λ h. bytes_at h.0 h.1 >>= λ bs. array_type_after one types h.1.at bs.0 >>= λ l. Some (l, bs.1)) (n, q) a
    ∙ bind_is (bytes_at n q) (λ bs. array_type_after one types (p.at + length head) bs.0 >>= λ l. Some (l, bs.1)) (body, r) b
    ∙ bind_is (array_type_after one types (p.at + length head) body) (λ l. Some (l, r)) left d
    ∙ ap (λ (x : Place). Some (left, x)) (remainder_both p.at head body v rest is.spelled)

struct_again : (one : List ℕ → Place → Option Ended) (P : Ty → ℕ → List ℕ → Type 0) (b a s : ℕ) (t : Ty) (ts : Tys) (left : List ℕ) → closing b → CompleteAll one P (more t ts) → are_types ts a s ≡ true → CompleteAt (struct_at one) ((type_text t ++ types_text ts) ++ b ∷ left) left (IsStruct P (more t ts))
unfolding struct_at
struct_again one P b a s t ts left close again good p v rest parts is =
    let types = (type_text t ++ types_text ts) ++ b ∷ left in
    let z = zeros 8 p.at in
    let grouped : p.rest ≡ z ++ (is.members ++ rest) = parts ∙ ap (λ (l : List ℕ). l ++ rest) is.spelled ∙ append_assoc z is.members rest in
    let q = place (p.at + length z) (is.members ++ rest) in
    let enough : count ts < length types = omega (arith, length-append (type_text t ++ types_text ts) (b ∷ left), length-append (type_text t) (types_text ts), count_le ts, text_some t) in
    bind_is (aligned_at 8 p) (λ x. members_at one (length types) types x) q (aligned_again 8 p (is.members ++ rest) grouped)
    ∙ members_again one P b a s left close (length types) t ts again good enough q is.members rest refl is.each
    ∙ ap (λ (x : Place). Some (left, x)) (remainder_both p.at z is.members v rest is.spelled)

pub variant_type_again : (p : Place) (t : Ty) (x rest : List ℕ) → p.rest ≡ x ++ rest → IsTypeText t x → variant_type_at p ≡ Some (type_text t, place (p.at + length x) rest)
unfolding variant_type_at
variant_type_again p t x rest parts is =
    let text = type_text t in
    let tail = text ++ 0 ∷ [] in
    let grouped : p.rest ≡ length text ∷ (text ++ (0 ∷ rest)) = parts ∙ ap (λ (l : List ℕ). l ++ rest) is.spelled ∙ ap (λ (l : List ℕ). length text ∷ l) (append_assoc text (0 ∷ []) rest) in
    let q = place (p.at + 1) (text ++ (0 ∷ rest)) in
    let r = place ((p.at + 1) + length text) (0 ∷ rest) in
    let w = place (((p.at + 1) + length text) + 1) rest in
    let test = λ (b : ℕ) (l : List ℕ). eqb b 0 && is_one_type l in
    let good : (eqb 0 0 && is_one_type text) ≡ true = complete_again t is.complete in
    bind_is (byte_at p) (λ n. bytes_at n.0 n.1 >>= λ types. byte_at types.1 >>= λ end. cond (eqb end.0 0 && is_one_type types.0) (Some (types.0, end.1)) None) (length text, q) (byte_again p (length text) (text ++ (0 ∷ rest)) grouped)
    ∙ bind_is (bytes_at (length text) q) (λ types. byte_at types.1 >>= λ end. cond (eqb end.0 0 && is_one_type types.0) (Some (types.0, end.1)) None) (text, r) (bytes_again q text (0 ∷ rest) (length text) refl refl)
    ∙ bind_is (byte_at r) (λ end. cond (eqb end.0 0 && is_one_type text) (Some (text, end.1)) None) (0, w) (byte_again r 0 rest refl)
    ∙ at_yes (eqb 0 0 && is_one_type text) (Some (text, w)) None good
    ∙ ap (λ (k : ℕ). Some (text, place k rest)) (omega (arith, length-append text (0 ∷ []), ap (λ (l : List ℕ). length l) is.spelled))

variant_again : (one : List ℕ → Place → Option Ended) (P : Ty → ℕ → List ℕ → Type 0) → ((t : Ty) → is_type false t MOST_ARRAYS MOST_STRUCTS ≡ true → CompleteAt one (type_text t) [] (P t)) → ReadsAt (variant_at one) (IsVariant P)
unfolding variant_at
variant_again one P again p v rest parts is =
    let grouped : p.rest ≡ is.text ++ (is.value ++ rest) = parts ∙ ap (λ (l : List ℕ). l ++ rest) is.spelled ∙ append_assoc is.text is.value rest in
    let q = place (p.at + length is.text) (is.value ++ rest) in
    let r = place ((p.at + length is.text) + length is.value) rest in
    bind_is (variant_type_at p) (λ types. one types.0 types.1 >>= λ x. Some x.1) (type_text is.held, q) (variant_type_again p is.held is.text (is.value ++ rest) grouped is.typed)
    ∙ bind_is (one (type_text is.held) q) (λ x. Some x.1) ([], r) (again is.held is.typed.complete q is.value rest refl is.holds)
    ∙ ap (λ (x : Place). Some x) (remainder_both p.at is.text is.value v rest is.spelled)

-- ---- all values

-- a value has bytes
basic_some : (little : Bool) (c at : ℕ) (v : List ℕ) → IsBasic little c at v → 0 < length v
basic_some little c at v is =
    elim (cases_Bool (eqb c 115 || eqb c 111)) [
      | inl g ↦
          let t = MatchBool-at_true _ _ g is in
          let head = zeros 4 at ++ number_bytes little (length t.0) in
          omega (arith, ap (λ (l : List ℕ). length l) t.1.spelled, length-append (head ++ t.0) (0 ∷ []))
      | inr g ↦
          let is1 = MatchBool-at_false _ _ g is in
          elim (cases_Bool (eqb c 103)) [
            | inl h ↦
                let t = MatchBool-at_true _ _ h is1 in
                omega (arith, ap (λ (l : List ℕ). length l) t.1.spelled)
            | inr h ↦
                let is2 = MatchBool-at_false _ _ h is1 in
                elim (cases_Bool (eqb c 98)) [
                  | inl k ↦
                      let t = MatchBool-at_true _ _ k is2 in
                      omega (arith, ap (λ (l : List ℕ). length l) t.spelled, length-append (zeros 4 at) (number_bytes little t.n), length-number_bytes little t.n)
                  | inr k ↦
                      let t = MatchBool-at_false _ _ k is2 in
                      omega (arith, t.some, t.size_is, ap (λ (l : List ℕ). length l) t.spelled, length-append (zeros (fixed_size c) at) t.digits)
                ]
          ]
    ]

pub value_some : (little : Bool) (all a s : ℕ) (t : Ty) (at : ℕ) (v : List ℕ) → IsValue little all a s t at v → 0 < length v
value_some little zero a s (basic c) at v is = basic_some little c at v is
value_some little zero a s variant at v is = elim is [ ]
value_some little zero a s (array t) at v is = elim is [ ]
value_some little zero a s (struct t ts) at v is = elim is [ ]
value_some little zero a s (entry key t) at v is = elim is [ ]
value_some little (suc all) a s (basic c) at v is = basic_some little c at v is
value_some little (suc all) a s variant at v is =
    omega (arith, ap (λ (l : List ℕ). length l) is.spelled, length-append is.text is.value, ap (λ (l : List ℕ). length l) is.typed.spelled)
value_some little (suc all) zero s (array t) at v is = elim is [ ]
value_some little (suc all) (suc a) s (array t) at v is =
    let body = concat is.elements in
    let n = length body in
    let count = zeros 4 at ++ number_bytes little n in
    omega (arith, ap (λ (l : List ℕ). length l) is.spelled, length-append (array_head little (type_alignment t) at n) body, length-append count (zeros (type_alignment t) (at + length count)), length-append (zeros 4 at) (number_bytes little n), length-number_bytes little n)
value_some little (suc all) a zero (struct t ts) at v is = elim is [ ]
value_some little (suc all) a (suc s) (struct t ts) at v is =
    let first = is.each.0 in
    let here = value_some little all a s t (at + length (zeros 8 at)) first is.each.3 in
    omega (arith, here, ap (λ (l : List ℕ). length l) is.spelled, length-append (zeros 8 at) is.members, ap (λ (l : List ℕ). length l) is.each.2, length-append first is.each.1)
value_some little (suc all) a s (entry key t) at v is =
    let first = is.each.0 in
    let here = value_some little all a s (basic key) (at + length (zeros 8 at)) first is.each.3 in
    omega (arith, here, ap (λ (l : List ℕ). length l) is.spelled, length-append (zeros 8 at) is.members, ap (λ (l : List ℕ). length l) is.each.2, length-append first is.each.1)

abbrev InnerAgain : Bool → ℕ → Type 0
InnerAgain little all = (a s : ℕ) (t : Ty) (e : Bool) (x y : ℕ) (left : List ℕ) → is_type e t x y ≡ true → x ≤ MOST_ARRAYS → y ≤ MOST_STRUCTS → CompleteAt (value_at little all a s) (type_text t ++ left) left (IsValue little all a s t)

inner_all : (little : Bool) (all : ℕ) → InnerAgain little all → (a s : ℕ) (ts : Tys) (x y : ℕ) → are_types ts x y ≡ true → x ≤ MOST_ARRAYS → y ≤ MOST_STRUCTS → CompleteAll (value_at little all a s) (IsValue little all a s) ts
unfolding CompleteAll
inner_all little all ih a s none x y good lx ly = tt
inner_all little all ih a s (more t ts) x y good lx ly =
    let goods = and_parts (is_type false t x y) (are_types ts x y) good in
    (λ left. ih a s t false x y left goods.0 lx ly, inner_all little all ih a s ts x y goods.1 lx ly)

basic_value : (little : Bool) (all a s c : ℕ) (inner : ℕ → ℕ → List ℕ → Place → Option Ended) (left : List ℕ) → is_basic c ≡ true → CompleteAt (value_step little all a s inner) (c ∷ left) left (IsBasic little c)
basic_value little all a s c inner left good p v rest parts is =
    let read = map_is (basic_at little c p) (λ q. (left, q)) (place (p.at + length v) rest) (basic_again little c p v rest parts is) in
    rw (basic_apart c 97 good refl, basic_apart c 40 good refl, basic_apart c 123 good refl, basic_apart c 118 good refl) read

some_all : (all : ℕ) → eqb (suc all) 0 ≡ false
some_all all = ne_eqb (suc all) 0 (λ e. omega arith)

some_both : (all a : ℕ) → (eqb (suc all) 0 || eqb (suc a) 0) ≡ false
some_both all a = rw (some_all all, some_all a) refl

pub value_again : (little : Bool) (all : ℕ) → InnerAgain little all
unfolding value_at
value_again little zero a s (basic c) e x y left good lx ly p v rest parts is = basic_value little zero a s c (λ _ _ _ _. None) left good p v rest parts is
value_again little zero a s variant e x y left good lx ly p v rest parts is = elim is [ ]
value_again little zero a s (array t) e x y left good lx ly p v rest parts is = elim is [ ]
value_again little zero a s (struct t ts) e x y left good lx ly p v rest parts is = elim is [ ]
value_again little zero a s (entry key t) e x y left good lx ly p v rest parts is = elim is [ ]
value_again little (suc all) a s (basic c) e x y left good lx ly p v rest parts is = basic_value little (suc all) a s c (value_at little all) left good p v rest parts is
value_again little (suc all) a s variant e x y left good lx ly p v rest parts is =
    let one = value_at little all a s in
    let P = IsValue little all a s in
    let again = λ (u : Ty) (complete : is_type false u MOST_ARRAYS MOST_STRUCTS ≡ true). subst (λ (l : List ℕ). CompleteAt one l [] (P u)) (append-nil (type_text u)) (value_again little all a s u false MOST_ARRAYS MOST_STRUCTS [] complete (omega arith) (omega arith)) in
    at_no (eqb (suc all) 0) None (option_map (λ q. (left, q)) (variant_at one p)) (some_all all)
    ∙ map_is (variant_at one p) (λ q. (left, q)) (place (p.at + length v) rest) (variant_again one P again p v rest parts is)
value_again little (suc all) zero s (array t) e x y left good lx ly p v rest parts is = elim is [ ]
value_again little (suc all) (suc a) s (array t) e x y left good lx ly p v rest parts is =
    let goods = and_parts (ltb 0 x) (is_type true t (x - 1) y) good in
    let types = type_text t ++ left in
    let skipped = element_skipped t left (wider t true (x - 1) y MOST_ARRAYS MOST_STRUCTS (omega arith) ly goods.1) in
    at_no (eqb (suc all) 0 || eqb (suc a) 0) None (array_at little (value_at little all (suc a - 1) s) types p) (some_both all a)
    ∙ ap (λ (n : ℕ). array_at little (value_at little all n s) types p) (less_one a)
    ∙ array_again little (value_at little all a s) (IsValue little all a s t) t left (value_again little all a s t true (x - 1) y left goods.1 (omega arith) ly) (value_some little all a s t) skipped p v rest parts is
value_again little (suc all) a zero (struct t ts) e x y left good lx ly p v rest parts is = elim is [ ]
value_again little (suc all) a (suc s) (struct t ts) e x y left good lx ly p v rest parts is =
    let goods = and_parts (ltb 0 y && is_type false t x (y - 1)) (are_types ts x (y - 1)) good in
    let firsts = and_parts (ltb 0 y) (is_type false t x (y - 1)) goods.0 in
    let texts = type_text t ++ types_text ts in
    let types = (texts ++ 41 ∷ []) ++ left in
    let grouped : types ≡ texts ++ 41 ∷ left = append_assoc texts (41 ∷ []) left in
    let all_good = and_from (is_type false t x (y - 1)) (are_types ts x (y - 1)) firsts.1 goods.1 in
    let members = inner_all little all (value_again little all) a s (more t ts) x (y - 1) all_good lx (omega arith) in
    at_no (eqb (suc all) 0 || eqb (suc s) 0) None (struct_at (value_at little all a (suc s - 1)) types p) (some_both all s)
    ∙ ap (λ (n : ℕ). struct_at (value_at little all a n) types p) (less_one s)
    ∙ ap (λ (l : List ℕ). struct_at (value_at little all a s) l p) grouped
    ∙ struct_again (value_at little all a s) (IsValue little all a s) 41 x (y - 1) t ts left shuts_struct members goods.1 p v rest parts is
value_again little (suc all) a s (entry key t) e x y left good lx ly p v rest parts is =
    let goods = and_parts (e && is_basic key) (is_type false t x y) good in
    let keys = and_parts e (is_basic key) goods.0 in
    let types = key ∷ ((type_text t ++ 125 ∷ []) ++ left) in
    let grouped : types ≡ (type_text (basic key) ++ types_text (more t none)) ++ 125 ∷ left =
    ap (λ (l : List ℕ). key ∷ l) (append_assoc (type_text t) (125 ∷ []) left ∙ ap (λ (l : List ℕ). l ++ 125 ∷ left) (sym (append-nil (type_text t)))) in
    let all_good = and_from (is_basic key) (is_type false t x y && true) keys.1 (and_from (is_type false t x y) true goods.1 refl) in
    let members = inner_all little all (value_again little all) a s (more (basic key) (more t none)) x y all_good lx ly in
    at_no (eqb (suc all) 0) None (struct_at (value_at little all a s) types p) (some_all all)
    ∙ ap (λ (l : List ℕ). struct_at (value_at little all a s) l p) grouped
    ∙ struct_again (value_at little all a s) (IsValue little all a s) 125 x y (basic key) (more t none) left shuts_entry members (and_from (is_type false t x y) true goods.1 refl) p v rest parts is
