-- What is cut from a body is what was laid in it.
use Rattle.std.proofs.Common.{◌≡◌, ℕ, zero, suc, ◌+◌, ◌-◌, ◌*◌, ◌%◌, ◌<◌, ◌≤◌, Bool, true, false, cond, ◌&&◌, eqb, leb, List, [], ◌∷◌, ◌++◌, length, take, drop, map, Option, Some, None, option_map, option_and_then, refl, sym, ap, ◌∙◌, subst, arith, append_assoc, append-nil, length-append, length-take, length-drop, take-append-drop}
use Rattle.std.specs.Prelude.{slice_range}
use Rattle.std.specs.List.{concat}
use Rattle.std.proofs.lemmas.Bool.{leb-true, le-leb, eqb-true, eq-eqb, and_parts, and_from}
use Rattle.std.proofs.lemmas.List.{take_at, drop_at, take_all, take-append-le, drop-append-le, drop-drop, drop-take, take-take}
use Rattle.fp_base.proofs.Options.{guarded}
use Rattle.gv_value.specs.Bytes.{zeros, all_zero}
use Rattle.gv_value.specs.Layout.{padding}
use Rattle.gv_value.specs.Framing.{Part, placed, laid, ends, Mark, child_at, cut}
use Rattle.gv_value.proofs.Lists.{all_zero-zeros, zeros-from, length-zeros, then_some, map_some}

-- ---- a child

-- a body that begins with what stands before a child, its padding and the child has the child
pub child_at-placed : (before : List ℕ) (pad : ℕ) (child rest body : List ℕ) → body ≡ (before ++ (zeros pad ++ child)) ++ rest →
    child_at body (length before) (length before + pad) (length (before ++ (zeros pad ++ child))) ≡ Some child
child_at-placed before pad child rest body e =
    let at = length before in
    let start = at + pad in
    let end = length (before ++ (zeros pad ++ child)) in
    let len : end ≡ start + length child = omega (arith, length-append before (zeros pad ++ child), length-append (zeros pad) child, length-zeros pad) in
    let whole : length body ≡ end + length rest = ap length e ∙ length-append (before ++ (zeros pad ++ child)) rest in
    let parts : body ≡ before ++ (zeros pad ++ (child ++ rest)) = e ∙ simp append_assoc in
    let remainder : drop at body ≡ zeros pad ++ (child ++ rest) = ap (drop at) parts ∙ drop_at before (zeros pad ++ (child ++ rest)) at refl in
    let gap : slice_range body at start ≡ zeros pad =
    ap (take (start - at)) remainder ∙ take_at (zeros pad) (child ++ rest) (start - at) (omega (arith, length-zeros pad)) in
    let later : drop start body ≡ child ++ rest =
    sym (drop-drop pad at body) ∙ ap (drop pad) remainder ∙ drop_at (zeros pad) (child ++ rest) pad (length-zeros pad) in
    let found : slice_range body start end ≡ child =
    ap (take (end - start)) later ∙ take_at child rest (end - start) (omega arith) in
    let ordered : leb start end ≡ true = le-leb start end (omega arith) in
    let inside : leb end (length body) ≡ true = le-leb end (length body) (omega arith) in
    let zero_gap : all_zero (slice_range body at start) ≡ true = ap all_zero gap ∙ all_zero-zeros pad in
    rw (ordered, inside, zero_gap) (ap (λ (c : List ℕ). Some c) found)

pub record ChildIs (body : List ℕ) (at start end : ℕ) (child : List ℕ) : Type 0 where
  pub ordered : start ≤ end
  pub inside : end ≤ length body
  -- what stands before its end
  pub is : take end body ≡ take at body ++ (zeros (start - at) ++ child)
  pub len : length child ≡ end - start

-- a part of a list between two places
take_through : (body : List ℕ) (i j : ℕ) → i ≤ j → take j body ≡ take i body ++ slice_range body i j
take_through body i j h =
    let k : i + (j - i) ≡ j = omega arith in
    let parts = take-append-drop i (take (i + (j - i)) body) in
    rw (← k) (sym parts ∙ ap (λ (xs : List ℕ). xs ++ drop i (take (i + (j - i)) body)) (take-take i (i + (j - i)) body (omega arith))
    ∙ ap (λ (xs : List ℕ). take i body ++ xs) (drop-take i (j - i) body ∙ ap (λ (n : ℕ). take n (drop i body)) (omega arith)))

pub child_at-found : (body : List ℕ) (at start end : ℕ) (child : List ℕ) → at ≤ start → child_at body at start end ≡ Some child → ChildIs body at start end child
child_at-found body at start end child le e =
    let g = guarded (leb start end && leb end (length body) && all_zero (slice_range body at start)) (Some (slice_range body start end)) child e in
    let p = and_parts (leb start end && leb end (length body)) (all_zero (slice_range body at start)) g.0 in
    let q = and_parts (leb start end) (leb end (length body)) p.0 in
    let ordered = leb-true start end q.0 in
    let inside = leb-true end (length body) q.1 in
    let is : slice_range body start end ≡ child = cc in
    let gap_len : length (slice_range body at start) ≡ start - at = omega (arith, length-take (start - at) (drop at body), length-drop at body) in
    let gap : slice_range body at start ≡ zeros (start - at) = zeros-from (slice_range body at start) p.1 ∙ ap zeros gap_len in
    let through = take_through body start end ordered
    ∙ ap (λ (xs : List ℕ). xs ++ slice_range body start end) (take_through body at start le)
    ∙ append_assoc (take at body) (slice_range body at start) (slice_range body start end)
    ∙ ap (λ (xs : List ℕ). take at body ++ (xs ++ slice_range body start end)) gap
    ∙ ap (λ (xs : List ℕ). take at body ++ (zeros (start - at) ++ xs)) is in
    record {
      ordered = ordered;
      inside = inside;
      is = through;
      len = ap length (sym is) ∙ omega (arith, length-take (end - start) (drop start body), length-drop start body);
    }

-- ---- all children

-- the marks of parts that stand after a body
abbrev pub marked : List ℕ → List Part → List Mark
marked body [] = []
marked body (part ∷ parts) = (part.0, length (placed body part)) ∷ marked (placed body part) parts

-- the children of parts
abbrev pub children_of : List Part → List (List ℕ)
children_of = map (λ part. part.1)

-- what stands after a body once parts are laid after it
abbrev pub remainder : List ℕ → List Part → List ℕ
remainder body [] = []
remainder body (part ∷ parts) = (zeros (padding (length body) part.0) ++ part.1) ++ remainder (placed body part) parts

pub laid-remainder : (body : List ℕ) (parts : List Part) → laid body parts ≡ body ++ remainder body parts
laid-remainder body [] = sym (append-nil body)
laid-remainder body (part ∷ parts) = laid-remainder (placed body part) parts ∙ append_assoc body (zeros (padding (length body) part.0) ++ part.1) (remainder (placed body part) parts)

pub length-laid : (body : List ℕ) (parts : List Part) → length body ≤ length (laid body parts)
length-laid body parts = omega (arith, ap length (laid-remainder body parts), length-append body (remainder body parts))

cut_from : (whole body : List ℕ) (parts : List Part) → whole ≡ laid body parts → cut whole (length body) (marked body parts) ≡ Some (children_of parts)
cut_from whole body [] e = rw (eq-eqb (length body) (length whole) (ap length (sym e))) refl
cut_from whole body (part ∷ parts) e =
    let child = child_at-placed body (padding (length body) part.0) part.1 (remainder (placed body part) parts) whole
    (e ∙ laid-remainder (placed body part) parts) in
    let rest = cut_from whole (placed body part) parts e in
    rw (child, rest) refl

-- what is laid is cut again
pub cut-laid : (parts : List Part) → cut (laid [] parts) 0 (marked [] parts) ≡ Some (children_of parts)
cut-laid parts = cut_from (laid [] parts) [] parts refl

-- children with the alignments of marks
abbrev pub paired : List Mark → List (List ℕ) → List Part
paired [] children = []
paired (mark ∷ marks) [] = []
paired (mark ∷ marks) (child ∷ children) = (mark.0, child) ∷ paired marks children

abbrev pub mark_ends : List Mark → List ℕ
mark_ends = map (λ mark. mark.1)

pub record CutIs (whole : List ℕ) (at : ℕ) (marks : List Mark) (children : List (List ℕ)) : Type 0 where
  pub count : length children ≡ length marks
  pub laid_is : laid (take at whole) (paired marks children) ≡ whole
  pub ends_are : ends (take at whole) (paired marks children) ≡ mark_ends marks

-- what is cut was laid so
pub cut-found : (whole : List ℕ) (at : ℕ) (marks : List Mark) (children : List (List ℕ)) → at ≤ length whole →
    cut whole at marks ≡ Some children → CutIs whole at marks children
cut-found whole at [] children le e =
    let g = guarded (eqb at (length whole)) (Some []) children e in
    let none : children ≡ [] = cc in
    let all : take at whole ≡ whole = take_all at whole (omega (arith, eqb-true at (length whole) g.0)) in
    rw none (record { count = refl; laid_is = all; ends_are = refl })
cut-found whole at (mark ∷ marks) children le e =
    let start = at + padding at mark.0 in
    let a = then_some (λ child. option_map (λ others. child ∷ others) (cut whole mark.1 marks)) (child_at whole at start mark.1) children e in
    let child = a.0 in
    let b = map_some (λ others. child ∷ others) (cut whole mark.1 marks) children a.2 in
    let others = b.0 in
    let is = child_at-found whole at start mark.1 child (omega arith) a.1 in
    let rest = cut-found whole mark.1 marks others is.inside b.1 in
    let at_is : length (take at whole) ≡ at = omega (arith, length-take at whole) in
    let gap : start - at ≡ padding at mark.0 = omega arith in
    let here : placed (take at whole) (mark.0, child) ≡ take mark.1 whole =
    ap (λ (n : ℕ). take at whole ++ (zeros (padding n mark.0) ++ child)) at_is ∙ ap (λ (n : ℕ). take at whole ++ (zeros n ++ child)) (sym gap) ∙ sym is.is in
    let len : length (take mark.1 whole) ≡ mark.1 = omega (arith, length-take mark.1 whole, is.inside) in
    rw (← b.2) (record {
      count = ap suc rest.count;
      laid_is = ap (λ (xs : List ℕ). laid xs (paired marks others)) here ∙ rest.laid_is;
      ends_are = ap (λ (xs : List ℕ). length xs ∷ ends xs (paired marks others)) here
          ∙ ap (λ (n : ℕ). n ∷ ends (take mark.1 whole) (paired marks others)) len ∙ ap (λ (ns : List ℕ). mark.1 ∷ ns) rest.ends_are;
    })
