-- What stands at the front is read the same, whatever follows.
use Rattle.std.proofs.Common.{◌≡◌, ℕ, zero, suc, ◌+◌, ◌-◌, ◌<◌, ◌≤◌, Bool, true, false, cond, eqb, ltb, List, [], ◌∷◌, ◌++◌, length, get_or, take, drop, Option, Some, None, Result, Ok, Err, refl, sym, ap, subst, ◌∙◌, append_assoc, inl, inr, arith, length-drop, drop-drop}
use Rattle.std.specs.Prelude.{slice_index}
use Rattle.std.proofs.lemmas.Bool.{ltb-true, ltb-false, le-ltb, lt-ltb, false≢true}
use Rattle.std.proofs.lemmas.List.{length-append, length-take-le, take-append-le, drop-append-le, take-append-drop, get_or_append_left}
use Rattle.fp_base.specs.declared.frame_rule.FrameRule.{FrameRule}
use Rattle.bus_frame.specs.declared.fixed.Fixed.{Fixed}
use Rattle.bus_frame.specs.declared.header.Header.{Header}
use Rattle.bus_frame.specs.Numbers.{padding, number_from}
use Rattle.bus_frame.specs.Fields.{Known, none_known, ◌>=>◌, fields_at}
use Rattle.bus_frame.specs.Reading.{is_little, fixed_of, array_end, body_start, message_len, fixed_fault, end_fault, unless_broken, known_in, header_of, Read, need, bad, whole, read_known, read_fixed, frame_of}
use Rattle.bus_frame.proofs.Taking.{place}
use Rattle.bus_frame.proofs.ValueAgain.{at_yes, at_no}

-- a part of the front
part_left : (i n : ℕ) (x y : List ℕ) → i + n ≤ length x → take n (drop i (x ++ y)) ≡ take n (drop i x)
part_left i n x y le =
    ap (take n) (drop-append-le i x y (omega (arith, le))) ∙ take-append-le n (drop i x) y (omega (arith, le, length-drop i x))

fixed_made : ℕ → (order kind flags version : ℕ) → (a b c : List ℕ) → Fixed
fixed_made letter order kind flags version a b c =
    let little = eqb letter 108 in
    record {
      order = order;
      kind = kind;
      flags = record { bits = flags };
      version = version;
      body_len = number_from little a;
      serial = number_from little b;
      array_len = number_from little c;
    }

pub fixed_front : (x y : List ℕ) → 16 ≤ length x → fixed_of (x ++ y) ≡ fixed_of x
unfolding fixed_of fixed_made
fixed_front x y le =
    let at = λ (i : ℕ) (lt : i < 16). get_or_append_left x y 0 i (omega (arith, le)) in
    let part = λ (i : ℕ) (lt : i ≤ 12). part_left i 4 x y (omega (arith, le)) in
    ap (λ (b : ℕ). fixed_made b b (get_or (x ++ y) 1 0) (get_or (x ++ y) 2 0) (get_or (x ++ y) 3 0) (take 4 (drop 4 (x ++ y))) (take 4 (drop 8 (x ++ y))) (take 4 (drop 12 (x ++ y)))) (at 0 (omega arith))
    ∙ ap (λ (b : ℕ). fixed_made (get_or x 0 0) (get_or x 0 0) b (get_or (x ++ y) 2 0) (get_or (x ++ y) 3 0) (take 4 (drop 4 (x ++ y))) (take 4 (drop 8 (x ++ y))) (take 4 (drop 12 (x ++ y)))) (at 1 (omega arith))
    ∙ ap (λ (b : ℕ). fixed_made (get_or x 0 0) (get_or x 0 0) (get_or x 1 0) b (get_or (x ++ y) 3 0) (take 4 (drop 4 (x ++ y))) (take 4 (drop 8 (x ++ y))) (take 4 (drop 12 (x ++ y)))) (at 2 (omega arith))
    ∙ ap (λ (b : ℕ). fixed_made (get_or x 0 0) (get_or x 0 0) (get_or x 1 0) (get_or x 2 0) b (take 4 (drop 4 (x ++ y))) (take 4 (drop 8 (x ++ y))) (take 4 (drop 12 (x ++ y)))) (at 3 (omega arith))
    ∙ ap (λ (l : List ℕ). fixed_made (get_or x 0 0) (get_or x 0 0) (get_or x 1 0) (get_or x 2 0) (get_or x 3 0) l (take 4 (drop 8 (x ++ y))) (take 4 (drop 12 (x ++ y)))) (part 4 (omega arith))
    ∙ ap (λ (l : List ℕ). fixed_made (get_or x 0 0) (get_or x 0 0) (get_or x 1 0) (get_or x 2 0) (get_or x 3 0) (take 4 (drop 4 x)) l (take 4 (drop 12 (x ++ y)))) (part 8 (omega arith))
    ∙ ap (λ (l : List ℕ). fixed_made (get_or x 0 0) (get_or x 0 0) (get_or x 1 0) (get_or x 2 0) (get_or x 3 0) (take 4 (drop 4 x)) (take 4 (drop 8 x)) l) (part 12 (omega arith))

known_front : (f : Fixed) (x y : List ℕ) → body_start f ≤ length x → known_in f (x ++ y) ≡ known_in f x
unfolding known_in
known_front f x y le =
    let array = part_left 16 f.array_len x y (omega (arith, le)) in
    let gap = part_left (array_end f) (body_start f - array_end f) x y (omega (arith, le)) in
    ap (λ (a : List ℕ). fields_at (is_little f) f.array_len none_known (place 16 a) >=> λ k. unless_broken (end_fault f k (take (body_start f - array_end f) (drop (array_end f) (x ++ y)))) k) array
    ∙ ap (λ (g : List ℕ). fields_at (is_little f) f.array_len none_known (place 16 (take f.array_len (drop 16 x))) >=> λ k. unless_broken (end_fault f k g) k) gap

fixed_read_front : (f : Fixed) (o : Option FrameRule) (x y : List ℕ) → (o ≡ None → message_len f ≤ length x) → read_fixed f o (x ++ y) ≡ read_fixed f o x
fixed_read_front f (Some rule) x y le = refl
fixed_read_front f None x y le =
    let enough = le refl in
    at_no (ltb (length (x ++ y)) (message_len f)) (need (message_len f - length (x ++ y))) (read_known f (known_in f (x ++ y))) (le-ltb _ _ (omega (arith, enough, length-append x y)))
    ∙ ap (read_known f) (known_front f x y (omega (arith, enough)))
    ∙ sym (at_no (ltb (length x) (message_len f)) (need (message_len f - length x)) (read_known f (known_in f x)) (le-ltb _ _ enough))

-- bytes in which a message or a broken rule stands first are read the same, whatever follows
pub same_front : (x y : List ℕ) → 16 ≤ length x → (fixed_fault (fixed_of x) ≡ None → message_len (fixed_of x) ≤ length x) → frame_of (x ++ y) ≡ frame_of x
unfolding frame_of
same_front x y head enough =
    let f_is = fixed_front x y head in
    let f = fixed_of x in
    at_no (ltb (length (x ++ y)) 16) (need (16 - length (x ++ y))) (read_fixed (fixed_of (x ++ y)) (fixed_fault (fixed_of (x ++ y))) (x ++ y)) (le-ltb _ _ (omega (arith, head, length-append x y)))
    ∙ ap (λ (g : Fixed). read_fixed g (fixed_fault g) (x ++ y)) f_is
    ∙ fixed_read_front f (fixed_fault f) x y enough
    ∙ sym (at_no (ltb (length x) 16) (need (16 - length x)) (read_fixed f (fixed_fault f) x) (le-ltb _ _ head))
