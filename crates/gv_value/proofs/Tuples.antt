-- The members of a tuple, and its bytes.
use Rattle.std.proofs.Common.{◌≡◌, ℕ, zero, suc, ◌+◌, ◌-◌, ◌*◌, ◌<◌, ◌≤◌, max, Bool, true, false, cond, ◌&&◌, eqb, leb, List, [], ◌∷◌, ◌++◌, length, take, drop, map, reverse, Option, Some, None, option_map, option_and_then, unwrap_or, refl, sym, ap, ◌∙◌, subst, arith, append_assoc, append-nil, length-append, length-take, length-drop, take-append-drop, flat_map}
use Rattle.std.specs.Prelude.{⊤, IfSome}
use Rattle.std.proofs.lemmas.Bool.{leb-true, le-leb, eqb-true, eq-eqb, and_parts, and_from}
use Rattle.std.proofs.lemmas.List.{take_at, drop_at, length-reverse, reverse-reverse}
use Rattle.fp_base.proofs.Options.{guarded}
use Rattle.gv_value.specs.Bytes.{le_bytes, zeros, all_zero}
use Rattle.gv_value.specs.Shape.{Shape, tuple, Shapes, no_shapes, shape}
use Rattle.gv_value.specs.Layout.{padding, align_of, greatest_align, padded_end, filled, size_of, end_of}
use Rattle.gv_value.specs.Framing.{Part, placed, laid, ends, Mark, cut, width, width_in, framed, IsFramed, parts_of, is_none_left, put_offset, written, tuple_body, tuple_offsets, offsets_after, member_end, marks, offset_count, open_children, filled_children, tuple_children}
use Rattle.gv_value.specs.Spelled.{TupleSpelled}
use Rattle.gv_value.proofs.Lists.{then_some, map_some, all_zero-zeros, zeros-from, length-zeros}
use Rattle.gv_value.proofs.Numbers.{length-offsets, width_in-whole}
use Rattle.gv_value.proofs.Cutting.{marked, children_of, length-laid, cut-laid, paired, mark_ends, CutIs, cut-found}
use Rattle.gv_value.proofs.Arrays.{offsets_after-framed, OffsetsAfter, offsets_after-found, framed-found}

-- there is a child for each member, and one of fixed size has that length
abbrev pub EachSized : Shapes → List (List ℕ) → Type 0
EachSized no_shapes [] = ⊤
EachSized (shape t ts) (c ∷ cs) = IfSome (size_of t) (λ s. length c ≡ s) × EachSized ts cs
EachSized _ _ = ⊥

-- there is a child for each member
abbrev pub SameCount : Shapes → List (List ℕ) → Type 0
SameCount no_shapes [] = ⊤
SameCount (shape t ts) (c ∷ cs) = SameCount ts cs
SameCount _ _ = ⊥

same_count : (ts : Shapes) (cs : List (List ℕ)) → EachSized ts cs → SameCount ts cs
same_count no_shapes [] h = tt
same_count (shape t ts) (c ∷ cs) h = same_count ts cs h.1
same_count no_shapes (c ∷ cs) h = absurd h
same_count (shape t ts) [] h = absurd h

children-parts : (ts : Shapes) (cs : List (List ℕ)) → SameCount ts cs → children_of (parts_of ts cs) ≡ cs
children-parts no_shapes [] h = refl
children-parts (shape t ts) (c ∷ cs) h = ap (λ (xs : List (List ℕ)). c ∷ xs) (children-parts ts cs h)
children-parts no_shapes (c ∷ cs) h = absurd h
children-parts (shape t ts) [] h = absurd h

-- ---- from the offsets to the ends

length-put : (o : Option ℕ) (last : Bool) (e : ℕ) (os : List ℕ) → length (put_offset o last e os) ≡ length (put_offset o last 0 []) + length os
length-put (Some s) last e os = omega arith
length-put None true e os = omega arith
length-put None false e os = omega arith

length-written : (body : List ℕ) (ts : Shapes) (cs : List (List ℕ)) → SameCount ts cs → length (written ts (ends body (parts_of ts cs))) ≡ offset_count ts
length-written body no_shapes [] h = refl
length-written body (shape t ts) (c ∷ cs) h =
    let next = placed body (align_of t, c) in
    omega (arith, length-put (size_of t) (is_none_left ts) (length next) (written ts (ends next (parts_of ts cs))), length-written next ts cs h)
length-written body no_shapes (c ∷ cs) h = absurd h
length-written body (shape t ts) [] h = absurd h

end-put : (o : Option ℕ) (last : Bool) (whole at align e : ℕ) (os : List ℕ) → IfSome o (λ s. padded_end at align s ≡ e) → (last ≡ true → whole ≡ e) →
    member_end o last whole at align (put_offset o last e os) ≡ (e, os)
end-put (Some s) last whole at align e os fixed ends_all = ap (λ (n : ℕ). (n, os)) fixed
end-put None true whole at align e os fixed ends_all = ap (λ (n : ℕ). (n, os)) (ends_all refl)
end-put None false whole at align e os fixed ends_all = refl

none_after : (body : List ℕ) (ts : Shapes) (cs : List (List ℕ)) → EachSized ts cs → is_none_left ts ≡ true → laid body (parts_of ts cs) ≡ body
none_after body no_shapes [] h e = refl
none_after body (shape t ts) (c ∷ cs) h e = absurd cc
none_after body no_shapes (c ∷ cs) h e = absurd h
none_after body (shape t ts) [] h e = absurd h

end-placed : (body : List ℕ) (align : ℕ) (o : Option ℕ) (c : List ℕ) → IfSome o (λ s. length c ≡ s) → IfSome o (λ s. padded_end (length body) align s ≡ length (placed body (align, c)))
end-placed body align None c h = tt
end-placed body align (Some s) c h =
    omega (arith, h, length-append body (zeros (padding (length body) align) ++ c), length-append (zeros (padding (length body) align)) c, length-zeros (padding (length body) align))

-- the offsets that are written for members give their ends
marks-written : (whole : ℕ) (body : List ℕ) (ts : Shapes) (cs : List (List ℕ)) → EachSized ts cs → whole ≡ length (laid body (parts_of ts cs)) →
    marks whole (length body) ts (written ts (ends body (parts_of ts cs))) ≡ marked body (parts_of ts cs)
marks-written whole body no_shapes [] h e = refl
marks-written whole body (shape t ts) (c ∷ cs) h e =
    let next = placed body (align_of t, c) in
    let rest = written ts (ends next (parts_of ts cs)) in
    let found = end-put (size_of t) (is_none_left ts) whole (length body) (align_of t) (length next) rest (end-placed body (align_of t) (size_of t) c h.0)
    (λ last. e ∙ ap length (none_after next ts cs h.1 last)) in
    ap (λ (p : ℕ × List ℕ). (align_of t, p.0) ∷ marks whole p.0 ts p.1) found
    ∙ ap (λ (ms : List Mark). (align_of t, length next) ∷ ms) (marks-written whole next ts cs h.1 e)
marks-written whole body no_shapes (c ∷ cs) h e = absurd h
marks-written whole body (shape t ts) [] h e = absurd h

-- ---- from the ends to the offsets

pub record EndIs (o : Option ℕ) (last : Bool) (os : List ℕ) (found : ℕ × List ℕ) (n : ℕ) : Type 0 where
  pub left : length found.1 ≡ n
  pub put : put_offset o last found.0 found.1 ≡ os

put-end : (o : Option ℕ) (last : Bool) (whole at align : ℕ) (os : List ℕ) (n : ℕ) → length os ≡ length (put_offset o last 0 []) + n →
    EndIs o last os (member_end o last whole at align os) n
put-end (Some s) last whole at align os n h = record { left = omega arith; put = refl }
put-end None true whole at align os n h = record { left = omega arith; put = refl }
put-end None false whole at align [] n h = absurd (omega arith)
put-end None false whole at align (e ∷ os) n h = record { left = omega arith; put = refl }

written-marks : (whole at : ℕ) (ts : Shapes) (os : List ℕ) → length os ≡ offset_count ts → written ts (mark_ends (marks whole at ts os)) ≡ os
written-marks whole at no_shapes [] h = refl
written-marks whole at no_shapes (e ∷ os) h = absurd (omega arith)
written-marks whole at (shape t ts) os h =
    let found = member_end (size_of t) (is_none_left ts) whole at (align_of t) os in
    let is = put-end (size_of t) (is_none_left ts) whole at (align_of t) os (offset_count ts) h in
    ap (put_offset (size_of t) (is_none_left ts) found.0) (written-marks whole found.0 ts found.1 is.left) ∙ is.put

pub record PartsAre (ms : List Mark) (ts : Shapes) (cs : List (List ℕ)) : Type 0 where
  pub parts : paired ms cs ≡ parts_of ts cs
  pub count : SameCount ts cs

paired-marks : (whole at : ℕ) (ts : Shapes) (os : List ℕ) (cs : List (List ℕ)) → length cs ≡ length (marks whole at ts os) → PartsAre (marks whole at ts os) ts cs
paired-marks whole at no_shapes os [] h = record { parts = refl; count = tt }
paired-marks whole at no_shapes os (c ∷ cs) h = absurd (omega arith)
paired-marks whole at (shape t ts) os [] h = absurd (omega arith)
paired-marks whole at (shape t ts) os (c ∷ cs) h =
    let found = member_end (size_of t) (is_none_left ts) whole at (align_of t) os in
    let rest = paired-marks whole found.0 ts found.1 cs (omega arith) in
    record { parts = ap (λ (ps : List Part). (align_of t, c) ∷ ps) rest.parts; count = rest.count }

-- ---- members that all have a fixed size

end_of-member : (at : ℕ) (t : Shape) (ts : Shapes) (e : ℕ) → end_of at (shape t ts) ≡ Some e →
    (s : ℕ) × (size_of t ≡ Some s) × (end_of (padded_end at (align_of t) s) ts ≡ Some e)
end_of-member at t ts e h = then_some (λ n. end_of (padded_end at (align_of t) n) ts) (size_of t) e h

at_some : (P : ℕ → Type 0) (o : Option ℕ) (s : ℕ) → o ≡ Some s → IfSome o P → P s
at_some P o s e h = subst (λ x. IfSome x P) e h

pub length-fixed : (body : List ℕ) (ts : Shapes) (cs : List (List ℕ)) (e : ℕ) → EachSized ts cs → end_of (length body) ts ≡ Some e → length (laid body (parts_of ts cs)) ≡ e
length-fixed body no_shapes [] e h fixed = cc
length-fixed body (shape t ts) (c ∷ cs) e h fixed =
    let next = placed body (align_of t, c) in
    let m = end_of-member (length body) t ts e fixed in
    let end : padded_end (length body) (align_of t) m.0 ≡ length next = at_some (λ s. padded_end (length body) (align_of t) s ≡ length next) (size_of t) m.0 m.1 (end-placed body (align_of t) (size_of t) c h.0) in
    length-fixed next ts cs e h.1 (ap (λ (n : ℕ). end_of n ts) (sym end) ∙ m.2)
length-fixed body no_shapes (c ∷ cs) e h fixed = absurd h
length-fixed body (shape t ts) [] e h fixed = absurd h

written-fixed : (at : ℕ) (ts : Shapes) (e : ℕ) (es : List ℕ) → end_of at ts ≡ Some e → written ts es ≡ []
written-fixed at no_shapes e es h = refl
written-fixed at (shape t ts) e [] h = refl
written-fixed at (shape t ts) e (n ∷ es) h =
    let m = end_of-member at t ts e h in
    ap (λ (o : Option ℕ). put_offset o (is_none_left ts) n (written ts es)) m.1 ∙ written-fixed (padded_end at (align_of t) m.0) ts e es m.2

offset_count-fixed : (at : ℕ) (ts : Shapes) (e : ℕ) → end_of at ts ≡ Some e → offset_count ts ≡ 0
offset_count-fixed at no_shapes e h = refl
offset_count-fixed at (shape t ts) e h =
    let m = end_of-member at t ts e h in
    let none = ap (λ (o : Option ℕ). length (put_offset o (is_none_left ts) 0 [])) m.1 in
    omega (arith, none, offset_count-fixed (padded_end at (align_of t) m.0) ts e m.2)

-- ---- both

fills : (align e : ℕ) → e ≤ filled align e
fills align e = omega arith

-- the size of a tuple of fixed size, by where its last member ends
pub size-tuple : (ts : Shapes) (s : ℕ) → size_of (tuple ts) ≡ Some s → (e : ℕ) × (end_of 0 ts ≡ Some e) × (e ≤ s)
size-tuple ts s h =
    let m = map_some (filled (greatest_align ts)) (end_of 0 ts) s h in
    (m.0, m.1, subst (λ (n : ℕ). m.0 ≤ n) m.2 (fills (greatest_align ts) m.0))

open-spelled : (ts : Shapes) (cs : List (List ℕ)) (bytes : List ℕ) → EachSized ts cs → IsFramed (tuple_body ts cs) (tuple_offsets ts cs) bytes →
    tuple_children None ts bytes ≡ Some cs
open-spelled ts cs bytes sized h =
    let body = tuple_body ts cs in
    let found = written ts (ends [] (parts_of ts cs)) in
    let os = tuple_offsets ts cs in
    let n = length body in
    let k = offset_count ts in
    let count : length os ≡ k = length-reverse found ∙ length-written [] ts cs (same_count ts cs sized) in
    let w = width n (length os) in
    let len : length bytes ≡ n + length os * w = ap length h.1 ∙ length-append body (flat_map (le_bytes w) os) ∙ ap (λ (m : ℕ). n + m) (length-offsets w os) in
    let wide : width_in (length bytes) ≡ w = ap width_in len ∙ width_in-whole n (length os) in
    let before : length bytes - k * width_in (length bytes) ≡ n =
    ap (λ (m : ℕ). length bytes - k * m) wide ∙ ap (λ (m : ℕ). length bytes - m * w) (sym count) ∙ omega arith in
    let read : offsets_after n k bytes ≡ Some os = ap (λ (m : ℕ). offsets_after n m bytes) (sym count) ∙ offsets_after-framed body os bytes h in
    let front : take n bytes ≡ body = ap (take n) h.1 ∙ take_at body (flat_map (le_bytes w) os) n refl in
    let again : cut (take n bytes) 0 (marks n 0 ts (reverse os)) ≡ Some cs =
    ap (λ (xs : List ℕ). cut xs 0 (marks n 0 ts (reverse os))) front
    ∙ ap (λ (xs : List ℕ). cut body 0 (marks n 0 ts xs)) (reverse-reverse found)
    ∙ ap (cut body 0) (marks-written n [] ts cs sized refl)
    ∙ cut-laid (parts_of ts cs) ∙ ap (λ (xs : List (List ℕ)). Some xs) (children-parts ts cs (same_count ts cs sized)) in
    ap (λ (m : ℕ). open_children ts m bytes) before
    ∙ ap (option_and_then (λ xs. cut (take n bytes) 0 (marks n 0 ts (reverse xs)))) read ∙ again

filled-spelled : (ts : Shapes) (s : ℕ) (cs : List (List ℕ)) (bytes : List ℕ) → size_of (tuple ts) ≡ Some s → EachSized ts cs →
    bytes ≡ tuple_body ts cs ++ zeros (s - length (tuple_body ts cs)) → tuple_children (Some s) ts bytes ≡ Some cs
filled-spelled ts s cs bytes fixed sized h =
    let body = tuple_body ts cs in
    let m = size-tuple ts s fixed in
    let e = m.0 in
    let ends_at : length body ≡ e = length-fixed [] ts cs e sized m.1 in
    let whole : unwrap_or (end_of 0 ts) 0 ≡ e = ap (λ (o : Option ℕ). unwrap_or o 0) m.1 in
    let gap = zeros (s - length body) in
    let len : length bytes ≡ s = omega (arith, ap length h, length-append body gap, length-zeros (s - length body), m.2) in
    let rest : drop e bytes ≡ gap = ap (drop e) h ∙ drop_at body gap e ends_at in
    let front : take e bytes ≡ body = ap (take e) h ∙ take_at body gap e ends_at in
    let full : eqb (length bytes) s ≡ true = eq-eqb (length bytes) s len in
    let blank : all_zero (drop e bytes) ≡ true = ap all_zero rest ∙ all_zero-zeros (s - length body) in
    let again : cut (take e bytes) 0 (marks e 0 ts []) ≡ Some cs =
    ap (λ (xs : List ℕ). cut xs 0 (marks e 0 ts [])) front
    ∙ ap (λ (xs : List ℕ). cut body 0 (marks e 0 ts xs)) (sym (written-fixed 0 ts e (ends [] (parts_of ts cs)) m.1))
    ∙ ap (cut body 0) (marks-written e [] ts cs sized (sym ends_at))
    ∙ cut-laid (parts_of ts cs) ∙ ap (λ (xs : List (List ℕ)). Some xs) (children-parts ts cs (same_count ts cs sized)) in
    ap (λ (n : ℕ). filled_children ts s n bytes) whole ∙ rw (full, blank) again

-- the members that are spelled are read again
pub tuple_children-spelled : (ts : Shapes) (size : Option ℕ) (cs : List (List ℕ)) (bytes : List ℕ) → size_of (tuple ts) ≡ size → EachSized ts cs →
    TupleSpelled size ts cs bytes → tuple_children size ts bytes ≡ Some cs
tuple_children-spelled ts None cs bytes fixed sized h = open-spelled ts cs bytes sized h
tuple_children-spelled ts (Some s) cs bytes fixed sized h = filled-spelled ts s cs bytes fixed sized h

open-found : (ts : Shapes) (before : ℕ) (bytes : List ℕ) (cs : List (List ℕ)) → open_children ts before bytes ≡ Some cs →
    SameCount ts cs × IsFramed (tuple_body ts cs) (tuple_offsets ts cs) bytes
open-found ts before bytes cs e =
    let s = then_some (λ xs. cut (take before bytes) 0 (marks before 0 ts (reverse xs))) (offsets_after before (offset_count ts) bytes) cs e in
    let os = s.0 in
    let remainder = offsets_after-found before (offset_count ts) bytes os s.1 in
    let ms = marks before 0 ts (reverse os) in
    let is = cut-found (take before bytes) 0 ms cs (omega arith) s.2 in
    let parts = paired-marks before 0 ts (reverse os) cs is.count in
    let body : tuple_body ts cs ≡ take before bytes = ap (laid []) (sym parts.parts) ∙ is.laid_is in
    let found : written ts (ends [] (parts_of ts cs)) ≡ reverse os =
    ap (λ (ps : List Part). written ts (ends [] ps)) (sym parts.parts) ∙ ap (written ts) is.ends_are
    ∙ written-marks before 0 ts (reverse os) (length-reverse os ∙ remainder.offsets.count) in
    let offsets : tuple_offsets ts cs ≡ os = ap reverse found ∙ reverse-reverse os in
    let len : length (tuple_body ts cs) ≡ before = ap length body ∙ omega (arith, length-take before bytes, remainder.inside) in
    let many : length (tuple_offsets ts cs) ≡ offset_count ts = ap length offsets ∙ remainder.offsets.count in
    (parts.count, framed-found (tuple_body ts cs) (tuple_offsets ts cs) bytes (rw (len, many, offsets) remainder) (rw len body))

filled-found : (ts : Shapes) (s : ℕ) (bytes : List ℕ) (cs : List (List ℕ)) → size_of (tuple ts) ≡ Some s → tuple_children (Some s) ts bytes ≡ Some cs →
    SameCount ts cs × (bytes ≡ tuple_body ts cs ++ zeros (s - length (tuple_body ts cs)))
filled-found ts s bytes cs fixed h =
    let m = size-tuple ts s fixed in
    let e = m.0 in
    let whole : unwrap_or (end_of 0 ts) 0 ≡ e = ap (λ (o : Option ℕ). unwrap_or o 0) m.1 in
    let g = guarded (eqb (length bytes) s && all_zero (drop e bytes)) (cut (take e bytes) 0 (marks e 0 ts [])) cs
    (ap (λ (n : ℕ). filled_children ts s n bytes) (sym whole) ∙ h) in
    let p = and_parts (eqb (length bytes) s) (all_zero (drop e bytes)) g.0 in
    let len = eqb-true (length bytes) s p.0 in
    let ms = marks e 0 ts [] in
    let is = cut-found (take e bytes) 0 ms cs (omega arith) g.1 in
    let parts = paired-marks e 0 ts [] cs is.count in
    let body : tuple_body ts cs ≡ take e bytes = ap (laid []) (sym parts.parts) ∙ is.laid_is in
    let ends_at : length (tuple_body ts cs) ≡ e = ap length body ∙ omega (arith, length-take e bytes, m.2) in
    let left : length (drop e bytes) ≡ s - length (tuple_body ts cs) = omega (arith, length-drop e bytes) in (
      parts.count,
      sym (take-append-drop e bytes) ∙ ap (λ (xs : List ℕ). xs ++ drop e bytes) (sym body)
          ∙ ap (λ (xs : List ℕ). tuple_body ts cs ++ xs) (zeros-from (drop e bytes) p.1 ∙ ap zeros left),
    )

-- the members that are read were spelled so
pub tuple_children-found : (ts : Shapes) (size : Option ℕ) (bytes : List ℕ) (cs : List (List ℕ)) → size_of (tuple ts) ≡ size →
    tuple_children size ts bytes ≡ Some cs → SameCount ts cs × TupleSpelled size ts cs bytes
tuple_children-found ts None bytes cs fixed h = open-found ts (length bytes - offset_count ts * width_in (length bytes)) bytes cs h
tuple_children-found ts (Some s) bytes cs fixed h = filled-found ts s bytes cs fixed h
