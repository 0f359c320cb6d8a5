-- Tables of offsets.
use Rattle.std.proofs.Common.{◌≡◌, ℕ, zero, suc, ◌+◌, ◌-◌, ◌*◌, ◌<◌, ◌≤◌, Bool, true, false, cond, eqb, leb, ◌&&◌, List, [], ◌∷◌, ◌++◌, length, take, drop, reverse, Option, Some, None, refl, sym, ap, ap₂, ◌∙◌, subst, arith, bytes_eq, flat_map, length-take, length-drop, take-append-drop, mul-le-mul_left}
use Rattle.std.proofs.lemmas.Bool.{and_from, eq-eqb, le-leb}
use Rattle.std.proofs.lemmas.List.{reverse-append, drop-drop}
use Rattle.fp_base.proofs.Texts.{bytes_eq-true as same_bytes}
use Rattle.gv_value.specs.Bytes.{le_bytes, le_value, AllBelow}
use Rattle.gv_value.specs.Framing.{width, width_in, numbers, offsets_at, offsets_after, is_none_left, put_offset, offset_count, member_end}
use Rattle.gv_value.specs.Capped.{capped_size, IsExtent}
use Rattle.gv_value.specs.Layout.{size_of}
use Rattle.gv_value.specs.Plans.{plan_shape, plan_shapes}
use Rattle.gv_value.specs.declared.extent.Extent.{Extent}
use Rattle.gv_value.specs.declared.plan.Plan.{Plan}
use Rattle.gv_value.proofs.Lists.{bytes_eq-same}
use Rattle.gv_value.proofs.Numbers.{length-offsets, length-numbers, width_pos, le_bytes-value}
use Rattle.gv_decode.proofs.Bounds.{AllBelow-drop}

pub AllBelow-take : (n : ℕ) (bytes : List ℕ) → AllBelow 256 bytes → AllBelow 256 (take n bytes)
AllBelow-take zero bytes h = tt
AllBelow-take (suc n) [] h = tt
AllBelow-take (suc n) (b ∷ bytes) h = (h.0, AllBelow-take n bytes h.1)

-- the bytes of the numbers that are read are those that they are read from
pub table-back : (w k : ℕ) (table : List ℕ) → AllBelow 256 table → length table ≡ k * w → flat_map (le_bytes w) (numbers w k table) ≡ table
table-back w zero [] h len = refl
table-back w zero (b ∷ table) h len = absurd (omega (arith, len))
table-back w (suc k) table h len =
    let front : length (take w table) ≡ w = omega (arith, length-take w table) in
    let rest : length (drop w table) ≡ k * w = omega (arith, length-drop w table) in
    let here : le_bytes w (le_value (take w table)) ≡ take w table =
    ap (λ (x : ℕ). le_bytes x (le_value (take w table))) (sym front) ∙ le_bytes-value (take w table) (AllBelow-take w table h) in
    ap (λ (xs : List ℕ). xs ++ flat_map (le_bytes w) (numbers w k (drop w table))) here
    ∙ ap (λ (xs : List ℕ). take w table ++ xs) (table-back w k (drop w table) (AllBelow-drop w table h) rest) ∙ take-append-drop w table

pub offsets_after-is : (before count w : ℕ) (bytes table : List ℕ) → AllBelow 256 bytes → before ≤ length bytes → width before count ≡ w → width_in (length bytes) ≡ w →
    table ≡ drop before bytes → length table ≡ count * w → offsets_after before count bytes ≡ Some (numbers w count table)
offsets_after-is before count w bytes table h le here whole is len =
    let same : width before count ≡ width_in (length bytes) = here ∙ sym whole in
    let test = and_from _ _ (le-leb before (length bytes) le) (eq-eqb (width before count) (width_in (length bytes)) same) in
    let back : flat_map (le_bytes w) (numbers w count table) ≡ table = table-back w count table (subst (AllBelow 256) (sym is) (AllBelow-drop before bytes h)) len in
    ap (λ (b : Bool). cond b (offsets_at (width before count) count (drop before bytes)) None) test
    ∙ ap (λ (x : ℕ). offsets_at x count (drop before bytes)) here ∙ ap (λ (xs : List ℕ). offsets_at w count xs) (sym is)
    ∙ ap (λ (b : Bool). cond b (Some (numbers w count table)) None) (bytes_eq-same (flat_map (le_bytes w) (numbers w count table)) table back)

offsets_at-not : (w count : ℕ) (table : List ℕ) → (length table ≡ count * w → ⊥) → offsets_at w count table ≡ None
offsets_at-not w count table other = by (bytes_eq (flat_map (le_bytes w) (numbers w count table)) table) refl
  where
    by : (b : Bool) → bytes_eq (flat_map (le_bytes w) (numbers w count table)) table ≡ b → cond b (Some (numbers w count table)) None ≡ None
    by false is = refl
    by true is = absurd (other (sym (ap length (same_bytes _ table is)) ∙ length-offsets w (numbers w count table) ∙ ap (λ (x : ℕ). x * w) (length-numbers w count table)))

pub offsets_after-not : (before count : ℕ) (bytes : List ℕ) → (length (drop before bytes) ≡ count * width before count → ⊥) → offsets_after before count bytes ≡ None
offsets_after-not before count bytes other = by (leb before (length bytes) && eqb (width before count) (width_in (length bytes)))
  where
    by : (b : Bool) → cond b (offsets_at (width before count) count (drop before bytes)) None ≡ None
    by false = refl
    by true = offsets_at-not (width before count) count (drop before bytes) other

-- ---- how many offsets members have

none_left-false : (ps : List Plan) → 0 < length ps → is_none_left (plan_shapes ps) ≡ false
none_left-false [] h = absurd (omega (arith, h))
none_left-false (p ∷ ps) h = refl

pub size-none : (o : Option ℕ) → capped_size o ≡ None → o ≡ None
size-none None e = refl
size-none (Some n) e = absurd cc

-- a member of variable size that is not the last one has an offset
pub count-more : (e : Extent) (p : Plan) (ps : List Plan) → IsExtent e (plan_shape p) → e.size ≡ None → 0 < length ps →
    offset_count (plan_shapes (p ∷ ps)) ≡ 1 + offset_count (plan_shapes ps)
count-more e p ps is none more =
    ap₂ (λ (o : Option ℕ) (b : Bool). length (put_offset o b 0 []) + offset_count (plan_shapes ps)) (size-none (size_of (plan_shape p)) (sym is.size ∙ none)) (none_left-false ps more)

-- ---- offsets, the last of them first

numbers-last : (w k : ℕ) (table : List ℕ) → numbers w (suc k) table ≡ numbers w k table ++ le_value (take w (drop (k * w) table)) ∷ []
numbers-last w zero table = let none : 0 * w ≡ 0 = omega arith in ap (λ (n : ℕ). le_value (take w (drop n table)) ∷ []) (sym none)
numbers-last w (suc k) table =
    let rest = numbers-last w k (drop w table) in
    let there : drop (k * w) (drop w table) ≡ drop (suc k * w) table = drop-drop (k * w) w table ∙ ap (λ (n : ℕ). drop n table) (omega arith) in
    ap (λ (ns : List ℕ). le_value (take w table) ∷ ns) (rest ∙ ap (λ (xs : List ℕ). numbers w k (drop w table) ++ le_value (take w xs) ∷ []) there)

-- the last of some offsets, and the others
pub left-last : (w k : ℕ) (table : List ℕ) → reverse (numbers w (suc k) table) ≡ le_value (take w (drop (k * w) table)) ∷ reverse (numbers w k table)
left-last w k table = ap reverse (numbers-last w k table) ∙ reverse-append (numbers w k table) (le_value (take w (drop (k * w) table)) ∷ [])

pub many-not : (before count : ℕ) (bytes : List ℕ) → length bytes < count → offsets_after before count bytes ≡ None
many-not before count bytes lt = offsets_after-not before count bytes (λ e.
    let least : count * 1 ≤ count * width before count = mul-le-mul_left count (width_pos before count) in
    omega (arith, e, length-drop before bytes))

-- the end of a member that an offset tells
pub end-told : (size : Option ℕ) (last : Bool) (whole at a w left end : ℕ) (table : List ℕ) → size ≡ None → last ≡ false → (left ≡ 0 → ⊥) → end ≡ le_value (take w (drop ((left - 1) * w) table)) →
    let told : ℕ × List ℕ = (end, reverse (numbers w (left - 1) table)) in told ≡ member_end size last whole at a (reverse (numbers w left table))
end-told size last whole at a w zero end table none mid some is = absurd (some refl)
end-told size last whole at a w (suc k) end table none mid some is = by (suc k - 1) (omega arith) is
  where
    by : (m : ℕ) → m ≡ k → end ≡ le_value (take w (drop (m * w) table)) →
        let told : ℕ × List ℕ = (end, reverse (numbers w m table)) in told ≡ member_end size last whole at a (reverse (numbers w (suc k) table))
    by m same told =
        ap₂ (λ (x : ℕ) (xs : List ℕ). let p : ℕ × List ℕ = (x, xs) in p) (told ∙ ap (λ (n : ℕ). le_value (take w (drop (n * w) table))) same) (ap (λ (n : ℕ). reverse (numbers w n table)) same)
        ∙ sym (ap₂ (λ (o : Option ℕ) (b : Bool). member_end o b whole at a (reverse (numbers w (suc k) table))) none mid ∙ ap (member_end None false whole at a) (left-last w k table))
