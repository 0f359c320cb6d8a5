-- The elements of an array, and its bytes.
use Rattle.std.proofs.Common.{◌≡◌, ℕ, zero, suc, ◌+◌, ◌-◌, ◌*◌, ◌/◌, ◌%◌, ◌^◌, ◌<◌, ◌≤◌, Bool, true, false, cond, ◌&&◌, eqb, leb, List, [], ◌∷◌, ◌++◌, length, take, drop, map, Option, Some, None, option_map, option_and_then, refl, sym, ap, ◌∙◌, subst, arith, append_assoc, append-nil, length-append, length-take, length-drop, take-append-drop, flat_map, mul-div_cancel, mul-pos}
use Rattle.std.specs.List.{concat}
use Rattle.std.specs.Prelude.{⊤}
use Rattle.std.proofs.lemmas.Bool.{leb-true, le-leb, eqb-true, eq-eqb, and_parts, and_from}
use Rattle.std.proofs.lemmas.Grind.{flat_map-append}
use Rattle.std.proofs.lemmas.List.{take_at, drop_at, length-map}
use Rattle.fp_base.proofs.Options.{guarded}
use Rattle.gv_value.specs.Bytes.{le_bytes, le_value, AllBelow}
use Rattle.gv_value.specs.Layout.{padding}
use Rattle.gv_value.specs.Framing.{Part, placed, laid, ends, Mark, cut, width, width_in, framed, OffsetsFit, IsFramed, same_parts, offsets_at, offsets_after, elements_before, framed_children, steps, array_children}
use Rattle.gv_value.specs.Spelled.{ArraySpelled}
use Rattle.gv_value.proofs.Lists.{then_some}
use Rattle.gv_value.proofs.Numbers.{length-le_bytes, le_value-le_bytes, length-offsets, offsets_at-spelled, OffsetsAre, offsets_at-found, width_in-whole, width_pos}
use Rattle.gv_value.proofs.Cutting.{marked, children_of, cut-laid, paired, mark_ends, CutIs, cut-found}

-- ---- the same alignment for each child

pub children-same : (a : ℕ) (children : List (List ℕ)) → children_of (same_parts a children) ≡ children
children-same a [] = refl
children-same a (c ∷ cs) = ap (λ (xs : List (List ℕ)). c ∷ xs) (children-same a cs)

marked-same : (a : ℕ) (body : List ℕ) (children : List (List ℕ)) →
    marked body (same_parts a children) ≡ map (λ e. (a, e)) (ends body (same_parts a children))
marked-same a body [] = refl
marked-same a body (c ∷ cs) = ap (λ (ms : List Mark). (a, length (placed body (a, c))) ∷ ms) (marked-same a (placed body (a, c)) cs)

length-ends : (body : List ℕ) (parts : List Part) → length (ends body parts) ≡ length parts
length-ends body [] = refl
length-ends body (part ∷ parts) = ap suc (length-ends (placed body part) parts)

-- the last end is the end of all
ends_last : (body : List ℕ) (part : Part) (parts : List Part) →
    (front : List ℕ) × (ends body (part ∷ parts) ≡ front ++ length (laid body (part ∷ parts)) ∷ [])
ends_last body part [] = ([], refl)
ends_last body part (next ∷ parts) =
    let more = ends_last (placed body part) next parts in
    (length (placed body part) ∷ more.0, ap (λ (ns : List ℕ). length (placed body part) ∷ ns) more.1)

below_last : (limit : ℕ) (front : List ℕ) (n : ℕ) → AllBelow limit (front ++ n ∷ []) → n < limit
below_last limit [] n h = h.0
below_last limit (m ∷ front) n h = below_last limit front n h.1

-- ---- offsets after a body

-- the offsets that a body has after it are read again
pub offsets_after-framed : (body os bytes : List ℕ) → IsFramed body os bytes → offsets_after (length body) (length os) bytes ≡ Some os
offsets_after-framed body os bytes h =
    let n = length body in
    let k = length os in
    let w = width n k in
    let len : length bytes ≡ n + k * w = ap length h.1 ∙ length-append body (flat_map (le_bytes w) os) ∙ ap (λ (m : ℕ). n + m) (length-offsets w os) in
    let inside : leb n (length bytes) ≡ true = le-leb n (length bytes) (omega arith) in
    let wide : eqb w (width_in (length bytes)) ≡ true = eq-eqb w (width_in (length bytes)) (sym (ap width_in len ∙ width_in-whole n k)) in
    let table : drop n bytes ≡ flat_map (le_bytes w) os = ap (drop n) h.1 ∙ drop_at body (flat_map (le_bytes w) os) n refl in
    rw (inside, wide, table) (offsets_at-spelled w k os refl h.0)

pub record OffsetsAfter (before count : ℕ) (bytes os : List ℕ) : Type 0 where
  pub inside : before ≤ length bytes
  pub wide : width before count ≡ width_in (length bytes)
  pub offsets : OffsetsAre (width before count) count (drop before bytes) os

pub offsets_after-found : (before count : ℕ) (bytes os : List ℕ) → offsets_after before count bytes ≡ Some os → OffsetsAfter before count bytes os
offsets_after-found before count bytes os e =
    let g = guarded (leb before (length bytes) && eqb (width before count) (width_in (length bytes))) (offsets_at (width before count) count (drop before bytes)) os e in
    let p = and_parts (leb before (length bytes)) (eqb (width before count) (width_in (length bytes))) g.0 in
    record { inside = leb-true _ _ p.0; wide = eqb-true _ _ p.1; offsets = offsets_at-found _ _ _ _ g.1 }

-- a body and the offsets that were read after it are framed so
pub framed-found : (body os bytes : List ℕ) → OffsetsAfter (length body) (length os) bytes os → body ≡ take (length body) bytes → IsFramed body os bytes
framed-found body os bytes h is =
    (h.offsets.below, sym (take-append-drop (length body) bytes) ∙ ap (λ (xs : List ℕ). xs ++ drop (length body) bytes) (sym is) ∙ ap (λ (xs : List ℕ). body ++ xs) (sym h.offsets.spelled))

-- ---- elements of variable size

last_offset : (body front : List ℕ) (n w : ℕ) (bytes : List ℕ) → n < 256 ^ w → bytes ≡ body ++ flat_map (le_bytes w) (front ++ n ∷ []) →
    le_value (drop (length bytes - w) bytes) ≡ n
last_offset body front n w bytes lt e =
    let before = body ++ flat_map (le_bytes w) front in
    let split : bytes ≡ before ++ le_bytes w n =
    e ∙ ap (λ (xs : List ℕ). body ++ xs) (flat_map-append (le_bytes w) front (n ∷ []) ∙ ap (λ (xs : List ℕ). flat_map (le_bytes w) front ++ xs) (append-nil (le_bytes w n)))
    ∙ sym (append_assoc body (flat_map (le_bytes w) front) (le_bytes w n)) in
    let len : length before ≡ length bytes - w = omega (arith, ap length split, length-append before (le_bytes w n), length-le_bytes w n) in
    ap (λ (xs : List ℕ). le_value (drop (length bytes - w) xs)) split ∙ ap le_value (drop_at before (le_bytes w n) (length bytes - w) len) ∙ le_value-le_bytes w n lt

framed_children-at : (a : ℕ) (bytes : List ℕ) → 0 < length bytes →
    framed_children a bytes ≡ elements_before a (le_value (drop (length bytes - width_in (length bytes)) bytes)) bytes
framed_children-at a [] h = absurd (omega arith)
framed_children-at a (b ∷ bytes) h = refl

-- framed elements are read again
pub framed_children-spelled : (a : ℕ) (children : List (List ℕ)) (bytes : List ℕ) →
    IsFramed (laid [] (same_parts a children)) (ends [] (same_parts a children)) bytes → framed_children a bytes ≡ Some children
framed_children-spelled a [] bytes h = ap (framed_children a) h.1
framed_children-spelled a (c ∷ cs) bytes h =
    let parts = same_parts a (c ∷ cs) in
    let body = laid [] parts in
    let es = ends [] parts in
    let n = length body in
    let k = length es in
    let w = width n k in
    let pos : 0 < w = width_pos n k in
    let len : length bytes ≡ n + k * w = ap length h.1 ∙ length-append body (flat_map (le_bytes w) es) ∙ ap (λ (m : ℕ). n + m) (length-offsets w es) in
    let wide : width_in (length bytes) ≡ w = ap width_in len ∙ width_in-whole n k in
    let some : 0 < k * w = mul-pos' k w (omega arith) pos in
    let last = ends_last [] (a, c) (same_parts a cs) in
    let lt : n < 256 ^ w = below_last (256 ^ w) last.0 n (subst (AllBelow (256 ^ w)) last.1 h.0) in
    let found : le_value (drop (length bytes - width_in (length bytes)) bytes) ≡ n =
    ap (λ (m : ℕ). le_value (drop (length bytes - m) bytes)) wide
    ∙ last_offset body last.0 n w bytes lt (h.1 ∙ ap (λ (ns : List ℕ). body ++ flat_map (le_bytes w) ns) last.1) in
    let count : (length bytes - n) / width_in (length bytes) ≡ k =
    ap (λ (m : ℕ). (length bytes - n) / m) wide ∙ ap (λ (m : ℕ). m / w) (omega arith) ∙ mul-div_cancel k pos in
    let front : take n bytes ≡ body = ap (take n) h.1 ∙ take_at body (flat_map (le_bytes w) es) n refl in
    let again : cut (take n bytes) 0 (map (λ e. (a, e)) es) ≡ Some (c ∷ cs) =
    ap (λ (xs : List ℕ). cut xs 0 (map (λ e. (a, e)) es)) front ∙ ap (cut body 0) (sym (marked-same a [] (c ∷ cs))) ∙ cut-laid parts
    ∙ ap (λ (xs : List (List ℕ)). Some xs) (children-same a (c ∷ cs)) in
    framed_children-at a bytes (omega arith) ∙ ap (λ (m : ℕ). elements_before a m bytes) found
    ∙ ap (λ (m : ℕ). option_and_then (λ ns. cut (take n bytes) 0 (map (λ e. (a, e)) ns)) (offsets_after n m bytes)) count
    ∙ ap (option_and_then (λ ns. cut (take n bytes) 0 (map (λ e. (a, e)) ns))) (offsets_after-framed body es bytes h)
    ∙ again
  where
    mul-pos' : (x y : ℕ) → 0 < x → 0 < y → 0 < x * y
    mul-pos' x y p q = mul-pos p q

paired-same : (a : ℕ) (es : List ℕ) (children : List (List ℕ)) → length children ≡ length es → paired (map (λ e. (a, e)) es) children ≡ same_parts a children
paired-same a [] [] h = refl
paired-same a [] (c ∷ cs) h = absurd (omega arith)
paired-same a (e ∷ es) [] h = absurd (omega arith)
paired-same a (e ∷ es) (c ∷ cs) h = ap (λ (ps : List Part). (a, c) ∷ ps) (paired-same a es cs (omega arith))

mark_ends-same : (a : ℕ) (es : List ℕ) → mark_ends (map (λ e. (a, e)) es) ≡ es
mark_ends-same a [] = refl
mark_ends-same a (e ∷ es) = ap (λ (ns : List ℕ). e ∷ ns) (mark_ends-same a es)

-- elements that are read were framed
pub framed_children-found : (a : ℕ) (bytes : List ℕ) (children : List (List ℕ)) → framed_children a bytes ≡ Some children →
    IsFramed (laid [] (same_parts a children)) (ends [] (same_parts a children)) bytes
framed_children-found a [] children e =
    let none : [] ≡ children = cc in
    subst (λ (cs : List (List ℕ)). IsFramed (laid [] (same_parts a cs)) (ends [] (same_parts a cs)) []) none (tt, refl)
framed_children-found a (b ∷ bs) children e =
    let bytes = b ∷ bs in
    let n = le_value (drop (length bytes - width_in (length bytes)) bytes) in
    let k = (length bytes - n) / width_in (length bytes) in
    let s = then_some (λ ns. cut (take n bytes) 0 (map (λ m. (a, m)) ns)) (offsets_after n k bytes) children e in
    let es = s.0 in
    let remainder = offsets_after-found n k bytes es s.1 in
    let is = cut-found (take n bytes) 0 (map (λ m. (a, m)) es) children (omega arith) s.2 in
    let count : length children ≡ length es = is.count ∙ length-map es (λ m. (a, m)) in
    let parts : paired (map (λ m. (a, m)) es) children ≡ same_parts a children = paired-same a es children count in
    let body : laid [] (same_parts a children) ≡ take n bytes = ap (laid []) (sym parts) ∙ is.laid_is in
    let offsets : ends [] (same_parts a children) ≡ es = ap (ends []) (sym parts) ∙ is.ends_are ∙ mark_ends-same a es in
    let len : length (laid [] (same_parts a children)) ≡ n = ap length body ∙ omega (arith, length-take n bytes, remainder.inside) in
    let many : length (ends [] (same_parts a children)) ≡ k = ap length offsets ∙ remainder.offsets.count in
    framed-found (laid [] (same_parts a children)) (ends [] (same_parts a children)) bytes
    (rw (len, many, offsets) remainder)
    (rw len body)

-- ---- elements of fixed size

-- each child has this length
abbrev pub AllSized : ℕ → List (List ℕ) → Type 0
AllSized size [] = ⊤
AllSized size (c ∷ cs) = (length c ≡ size) × AllSized size cs

laid-joined : (body : List ℕ) (children : List (List ℕ)) → laid body (same_parts 1 children) ≡ body ++ concat children
laid-joined body [] = sym (append-nil body)
laid-joined body (c ∷ cs) =
    let none : padding (length body) 1 ≡ 0 = omega arith in
    let here : placed body (1, c) ≡ body ++ c = rw none refl in
    ap (λ (xs : List ℕ). laid xs (same_parts 1 cs)) here ∙ laid-joined (body ++ c) cs ∙ append_assoc body c (concat cs)

marked-steps : (size : ℕ) (body : List ℕ) (children : List (List ℕ)) → AllSized size children →
    marked body (same_parts 1 children) ≡ steps size (length body) (length children)
marked-steps size body [] h = refl
marked-steps size body (c ∷ cs) h =
    let none : padding (length body) 1 ≡ 0 = omega arith in
    let here : placed body (1, c) ≡ body ++ c = rw none refl in
    let len : length (body ++ c) ≡ length body + size = length-append body c ∙ ap (λ (n : ℕ). length body + n) h.0 in
    ap (λ (xs : List ℕ). (1, length xs) ∷ marked xs (same_parts 1 cs)) here
    ∙ ap (λ (ms : List Mark). (1, length (body ++ c)) ∷ ms) (marked-steps size (body ++ c) cs h.1)
    ∙ ap (λ (n : ℕ). (1, n) ∷ steps size n (length cs)) len

length-joined : (size : ℕ) (children : List (List ℕ)) → AllSized size children → length (concat children) ≡ length children * size
length-joined size [] h = omega arith
length-joined size (c ∷ cs) h = omega (arith, length-append c (concat cs), h.0, length-joined size cs h.1)

paired-steps : (size at : ℕ) (children : List (List ℕ)) (count : ℕ) → length children ≡ count → paired (steps size at count) children ≡ same_parts 1 children
paired-steps size at [] zero h = refl
paired-steps size at [] (suc n) h = absurd (omega arith)
paired-steps size at (c ∷ cs) zero h = absurd (omega arith)
paired-steps size at (c ∷ cs) (suc n) h = ap (λ (ps : List Part). (1, c) ∷ ps) (paired-steps size (at + size) cs n (omega arith))

length-steps : (size at count : ℕ) → length (steps size at count) ≡ count
length-steps size at zero = refl
length-steps size at (suc n) = ap suc (length-steps size (at + size) n)

-- ---- both

-- the elements that are spelled are read again
pub array_children-spelled : (a : ℕ) (size : Option ℕ) (children : List (List ℕ)) (bytes : List ℕ) →
    ((s : ℕ) → size ≡ Some s → (0 < s) × AllSized s children) → ArraySpelled a size children bytes → array_children a size bytes ≡ Some children
array_children-spelled a None children bytes fixed h = framed_children-spelled a children bytes h
array_children-spelled a (Some s) children bytes fixed h =
    let sized = fixed s refl in
    let joined : laid [] (same_parts 1 children) ≡ bytes = laid-joined [] children ∙ sym h in
    let count : length bytes / s ≡ length children =
    ap (λ (n : ℕ). n / s) (ap length h ∙ length-joined s children sized.1) ∙ mul-div_cancel (length children) sized.0 in
    ap (λ (n : ℕ). cut bytes 0 (steps s 0 n)) count ∙ ap (cut bytes 0) (sym (marked-steps s [] children sized.1))
    ∙ ap (λ (xs : List ℕ). cut xs 0 (marked [] (same_parts 1 children))) (sym joined) ∙ cut-laid (same_parts 1 children)
    ∙ ap (λ (xs : List (List ℕ)). Some xs) (children-same 1 children)

-- the elements that are read were spelled so
pub array_children-found : (a : ℕ) (size : Option ℕ) (bytes : List ℕ) (children : List (List ℕ)) → array_children a size bytes ≡ Some children →
    ArraySpelled a size children bytes
array_children-found a None bytes children e = framed_children-found a bytes children e
array_children-found a (Some s) bytes children e =
    let k = length bytes / s in
    let is = cut-found bytes 0 (steps s 0 k) children (omega arith) e in
    let parts = paired-steps s 0 children k (is.count ∙ length-steps s 0 k) in
    sym is.laid_is ∙ ap (laid []) parts ∙ laid-joined [] children
