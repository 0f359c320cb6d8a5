-- What holds of a container's bytes, and of each part of them, holds of its children's.
use Rattle.std.proofs.Common.{◌≡◌, ℕ, ◌+◌, ◌-◌, ◌*◌, ◌/◌, ◌<◌, ◌≤◌, ◌&&◌, eqb, leb, List, [], ◌∷◌, length, take, drop, map, reverse, Option, Some, None, option_map, subst, arith, length-take, length-drop}
use Rattle.std.specs.Prelude.{⊤, slice_range, unwrap_or}
use Rattle.fp_base.proofs.Options.{guarded}
use Rattle.gv_value.specs.declared.limits.TheConstants.{MOST_BYTES}
use Rattle.gv_value.specs.Bytes.{le_value, all_zero, AllBelow}
use Rattle.gv_value.specs.Framing.{Mark, child_at, cut, steps, marks, offset_count, offsets_after, width_in, array_children, tuple_children}
use Rattle.gv_value.specs.Layout.{padding, end_of, align_of, size_of}
use Rattle.gv_value.specs.Shape.{Shape, Shapes}
use Rattle.gv_value.specs.Spelled.{two_shapes}
use Rattle.gv_value.proofs.Lists.{then_some, map_some}
use Rattle.gv_decode.specs.Decoded.{AreShort, children_of}
use Rattle.gv_decode.proofs.Bounds.{AllBelow-drop}
use Rattle.gv_decode.proofs.Tables.{AllBelow-take}

-- it holds of each of the lists
abbrev pub Each : (List ℕ → Type 0) → List (List ℕ) → Type 0
Each P [] = ⊤
Each P (c ∷ cs) = P c × Each P cs

-- it holds of each part of a list of which it holds
pub record IsOfParts (P : List ℕ → Type 0) : Type 0 where
  pub front : (n : ℕ) (bytes : List ℕ) → P bytes → P (take n bytes)
  pub back : (n : ℕ) (bytes : List ℕ) → P bytes → P (drop n bytes)

module _ (P : List ℕ → Type 0) (parts : IsOfParts P) where
  none-each : (cs : List (List ℕ)) → Some [] ≡ Some cs → Each P cs
  none-each [] e = tt
  none-each (c ∷ cs) e = absurd cc

  child-each : (body : List ℕ) (at start end : ℕ) (child : List ℕ) → P body → child_at body at start end ≡ Some child → P child
  child-each body at start end child h e =
      let g = guarded (leb start end && leb end (length body) && all_zero (slice_range body at start)) (Some (slice_range body start end)) child e in
      let is : slice_range body start end ≡ child = cc in
      subst P is (parts.front (end - start) (drop start body) (parts.back start body h))

  cut-each : (body : List ℕ) (at : ℕ) (ms : List Mark) (cs : List (List ℕ)) → P body → cut body at ms ≡ Some cs → Each P cs
  cut-each body at [] cs h e = none-each cs (guarded (eqb at (length body)) (Some []) cs e).1
  cut-each body at (m ∷ ms) cs h e =
      let c = then_some (λ child. option_map (λ others. child ∷ others) (cut body m.1 ms)) (child_at body at (at + padding at m.0) m.1) cs e in
      let o = map_some (λ others. c.0 ∷ others) (cut body m.1 ms) cs c.2 in
      subst (Each P) o.2 (child-each body at (at + padding at m.0) m.1 c.0 h c.1, cut-each body m.1 ms o.0 h o.1)

  pub array-each : (align : ℕ) (size : Option ℕ) (bytes : List ℕ) (cs : List (List ℕ)) → P bytes → array_children align size bytes ≡ Some cs → Each P cs
  array-each align (Some size) bytes cs h e = cut-each bytes 0 (steps size 0 (length bytes / size)) cs h e
  array-each align None [] cs h e = none-each cs e
  array-each align None (b ∷ rest) cs h e =
      let bytes = b ∷ rest in
      let before = le_value (drop (length bytes - width_in (length bytes)) bytes) in
      let es = then_some (λ ends. cut (take before bytes) 0 (map (λ end. (align, end)) ends)) (offsets_after before ((length bytes - before) / width_in (length bytes)) bytes) cs e in
      cut-each (take before bytes) 0 (map (λ end. (align, end)) es.0) cs (parts.front before bytes h) es.2

  pub tuple-each : (size : Option ℕ) (ts : Shapes) (bytes : List ℕ) (cs : List (List ℕ)) → P bytes → tuple_children size ts bytes ≡ Some cs → Each P cs
  tuple-each (Some size) ts bytes cs h e =
      let whole = unwrap_or (end_of 0 ts) 0 in
      let g = guarded (eqb (length bytes) size && all_zero (drop whole bytes)) (cut (take whole bytes) 0 (marks whole 0 ts [])) cs e in
      cut-each (take whole bytes) 0 (marks whole 0 ts []) cs (parts.front whole bytes h) g.1
  tuple-each None ts bytes cs h e =
      let before = length bytes - offset_count ts * width_in (length bytes) in
      let os = then_some (λ ends. cut (take before bytes) 0 (marks before 0 ts (reverse ends))) (offsets_after before (offset_count ts) bytes) cs e in
      cut-each (take before bytes) 0 (marks before 0 ts (reverse os.0)) cs (parts.front before bytes h) os.2

  pub children-each : (t : Shape) (bytes : List ℕ) (cs : List (List ℕ)) → P bytes → children_of t bytes ≡ Some cs → Each P cs
  children-each (Shape.array t) bytes cs h e = array-each (align_of t) (size_of t) bytes cs h e
  children-each (Shape.tuple ts) bytes cs h e = tuple-each (size_of (Shape.tuple ts)) ts bytes cs h e
  children-each (Shape.entry k v) bytes cs h e = tuple-each (size_of (Shape.entry k v)) (two_shapes k v) bytes cs h e
  children-each (Shape.basic b) bytes cs h e = absurd cc
  children-each Shape.variant bytes cs h e = absurd cc
  children-each (Shape.maybe t) bytes cs h e = absurd cc

abbrev pub IsShort : List ℕ → Type 0
IsShort bytes = length bytes ≤ MOST_BYTES

pub short-of-parts : IsOfParts IsShort
short-of-parts = record {
  front = λ n bytes h. omega (arith, length-take n bytes, h);
  back = λ n bytes h. omega (arith, length-drop n bytes, h);
}

pub bytes-of-parts : IsOfParts (AllBelow 256)
bytes-of-parts = record {
  front = λ n bytes h. AllBelow-take n bytes h;
  back = λ n bytes h. AllBelow-drop n bytes h;
}

as-short : (cs : List (List ℕ)) → Each IsShort cs → AreShort cs
as-short [] h = tt
as-short (c ∷ cs) h = (h.0, as-short cs h.1)

pub array-short : (align : ℕ) (size : Option ℕ) (bytes : List ℕ) (cs : List (List ℕ)) → length bytes ≤ MOST_BYTES → array_children align size bytes ≡ Some cs → AreShort cs
array-short align size bytes cs h e = as-short cs (array-each IsShort short-of-parts align size bytes cs h e)

pub tuple-short : (size : Option ℕ) (ts : Shapes) (bytes : List ℕ) (cs : List (List ℕ)) → length bytes ≤ MOST_BYTES → tuple_children size ts bytes ≡ Some cs → AreShort cs
tuple-short size ts bytes cs h e = as-short cs (tuple-each IsShort short-of-parts size ts bytes cs h e)
