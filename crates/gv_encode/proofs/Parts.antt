-- What is known of the parts of a type, and of a value that is of the type.
use Rattle.std.proofs.Common.{◌≡◌, ℕ, zero, suc, ◌-◌, ◌%◌, ◌<◌, ◌≤◌, true, ◌&&◌, eqb, List, [], ◌∷◌, length, get_or, map, Option, Some, None, refl, sym, ap, ap₂, ◌∙◌, subst, arith, IsTrue, Vec, Box, Global}
use Rattle.std.specs.List.{concat}
use Rattle.std.proofs.lemmas.Bool.{and_parts, true≢false}
use Rattle.std.proofs.lemmas.List.{length-map}
use Rattle.gv_value.specs.declared.basic.Basic.TheVariants as basics
use Rattle.gv_value.specs.declared.extent.Extent.{Extent}
use Rattle.gv_value.specs.declared.plan.Plan.{Plan, Plan-F, fold-roll-Plan}
use Rattle.gv_value.specs.declared.plan.Plan.TheVariants as plans
use Rattle.gv_value.specs.Basics.{form_of}
use Rattle.gv_value.specs.Bytes.{AllBelow}
use Rattle.gv_value.specs.Capped.{IsRun}
use Rattle.gv_value.specs.Layout.{align_of, size_of, greatest_align, end_of}
use Rattle.gv_value.specs.Plans.{Seen, seen, seen_step, seen_entry, plan_shape, is_plan, extent_is, run_is}
use Rattle.gv_value.specs.Shape.{Shape}
use Rattle.gv_value.specs.Signs.{basic_letter}
use Rattle.gv_value.specs.Spelled.{two_shapes}
use Rattle.gv_value.specs.Spelling.{content_fits, fits_within, array_bytes, spelling, spelling_of_all}
use Rattle.gv_value.specs.Tree.{Content, Tree, byte_trees}
use Rattle.gv_value.proofs.Contents.{same_basic}
use Rattle.gv_value.proofs.Planned.{seen-Entry, run-from-is}

fits-down : (room : ℕ) (t : Shape) (v : Tree) → (room ≡ 0 → ⊥) → fits_within room t v ≡ true → fits_within (suc (room - 1)) t v ≡ true
fits-down zero t v ne h = absurd (ne refl)
fits-down (suc n) t v ne h = let less : n ≡ suc n - 1 = omega arith in subst (λ (m : ℕ). fits_within (suc m) t v ≡ true) less h

-- a value that is of a plan's type is so once the type is known
pub down : (room : ℕ) (p : Plan) (t : Shape) (v w : Tree) → (room ≡ 0 → ⊥) → plan_shape p ≡ t → w ≡ v → IsTrue (fits_within room (plan_shape p) v) → IsTrue (fits_within (suc (room - 1)) t w)
down room p t v w ne shape same h =
    subst (λ (x : Tree). fits_within (suc (room - 1)) t x ≡ true) (sym same) (fits-down room t v ne (subst (λ (s : Shape). fits_within room s v ≡ true) shape h))

seen-Maybe : (e : Extent) (p : Box Plan Global) → seen (plans.Maybe e p) ≡ record { shape = Shape.maybe (plan_shape p.value); good = is_plan p.value && extent_is e (Shape.maybe (plan_shape p.value)) }
seen-Maybe e p = ap seen (sym (plans.rolls-Maybe e p)) ∙ fold-roll-Plan Seen seen_step (Plan-F.Maybe e p)

pub good-Maybe : (e : Extent) (p : Box Plan Global) → IsTrue (is_plan (plans.Maybe e p)) → IsTrue (is_plan p.value)
good-Maybe e p h = (and_parts (is_plan p.value) (extent_is e (Shape.maybe (plan_shape p.value))) (sym (ap (λ (s : Seen). s.good) (seen-Maybe e p)) ∙ h)).0

-- ---- dictionary entries

pub record EntryIs (e : Extent) (ps : Vec Plan Global) (k v : Plan) : Type 0 where
  pub shape : plan_shape (plans.Entry e ps) ≡ Shape.entry (plan_shape k) (plan_shape v)
  pub key : IsTrue (is_plan k)
  pub value : IsTrue (is_plan v)
  pub run : IsRun e (greatest_align (two_shapes (plan_shape k) (plan_shape v))) (end_of 0 (two_shapes (plan_shape k) (plan_shape v)))

pub entry-is : (e : Extent) (ps : Vec Plan Global) (k v : Plan) → ps.items ≡ k ∷ v ∷ [] → IsTrue (is_plan (plans.Entry e ps)) → EntryIs e ps k v
entry-is e ps k v items h =
    let both : seen (plans.Entry e ps) ≡ seen_entry e (seen k ∷ seen v ∷ []) = seen-Entry e ps ∙ ap (λ (xs : List Plan). seen_entry e (map seen xs)) items in
    let good = sym (ap (λ (s : Seen). s.good) both) ∙ h in
    let p = and_parts (is_plan k && is_plan v) (run_is e (two_shapes (plan_shape k) (plan_shape v))) good in
    let q = and_parts (is_plan k) (is_plan v) p.0 in
    record { shape = ap (λ (s : Seen). s.shape) both; key = q.0; value = q.1; run = run-from-is e (two_shapes (plan_shape k) (plan_shape v)) p.1 }

good-two : (e : Extent) (ss : List Seen) → (seen_entry e ss).good ≡ true → length ss ≡ 2
good-two e [] h = absurd (true≢false (sym h))
good-two e (a ∷ []) h = absurd (true≢false (sym h))
good-two e (a ∷ b ∷ []) h = refl
good-two e (a ∷ b ∷ c ∷ ss) h = absurd (true≢false (sym h))

pub entry-two : (e : Extent) (ps : Vec Plan Global) → IsTrue (is_plan (plans.Entry e ps)) → length ps.items ≡ 2
entry-two e ps h = sym (length-map ps.items seen) ∙ good-two e (map seen ps.items) (sym (ap (λ (s : Seen). s.good) (seen-Entry e ps)) ∙ h)

pub two-of : (ps : List Plan) (k v : Plan) → 2 ≤ length ps → length ps < 3 → k ≡ get_or ps 0 k → v ≡ get_or ps 1 v → ps ≡ k ∷ v ∷ []
two-of [] k v le lt p q = absurd (omega (arith, le))
two-of (a ∷ []) k v le lt p q = absurd (omega (arith, le))
two-of (a ∷ b ∷ []) k v le lt p q = ap₂ (λ (x y : Plan). x ∷ y ∷ []) (sym p) (sym q)
two-of (a ∷ b ∷ c ∷ ps) k v le lt p q = absurd (omega (arith, lt))

-- ---- arrays of bytes

is-byte : (n : ℕ) (t : Shape) (b : ℕ) → fits_within n t (Tree.leaf basics.Byte (Content.number b)) ≡ true → t ≡ Shape.basic basics.Byte
is-byte zero (Shape.basic c) b h = ap Shape.basic (same_basic c basics.Byte (and_parts (eqb (basic_letter c) (basic_letter basics.Byte)) (content_fits (form_of c) (Content.number b)) h).0)
is-byte (suc n) (Shape.basic c) b h = ap Shape.basic (same_basic c basics.Byte (and_parts (eqb (basic_letter c) (basic_letter basics.Byte)) (content_fits (form_of c) (Content.number b)) h).0)
is-byte zero Shape.variant b h = absurd cc
is-byte (suc n) Shape.variant b h = absurd cc
is-byte zero (Shape.array t) b h = absurd cc
is-byte (suc n) (Shape.array t) b h = absurd cc
is-byte zero (Shape.maybe t) b h = absurd cc
is-byte (suc n) (Shape.maybe t) b h = absurd cc
is-byte zero (Shape.tuple ts) b h = absurd cc
is-byte (suc n) (Shape.tuple ts) b h = absurd cc
is-byte zero (Shape.entry k v) b h = absurd cc
is-byte (suc n) (Shape.entry k v) b h = absurd cc

bytes-joined : (bytes : List ℕ) → AllBelow 256 bytes → concat (spelling_of_all (byte_trees bytes) (Shape.basic basics.Byte)) ≡ bytes
bytes-joined [] h = refl
bytes-joined (b ∷ bytes) h = let p = h.0 in let same : b % 256 ≡ b = omega arith in ap₂ (λ (x : ℕ) (xs : List ℕ). x ∷ xs) same (bytes-joined bytes h.1)

none-joined : (a : ℕ) (o : Option ℕ) → array_bytes a o [] ≡ []
none-joined a (Some size) = refl
none-joined a None = refl

-- bytes that are of an array type are spelled by themselves
pub bytes-spelled : (n : ℕ) (t : Shape) (bytes : List ℕ) → AllBelow 256 bytes → fits_within (suc n) (Shape.array t) (Tree.array (byte_trees bytes)) ≡ true → bytes ≡ spelling (Tree.array (byte_trees bytes)) (Shape.array t)
bytes-spelled n t [] below h = sym (none-joined (align_of t) (size_of t))
bytes-spelled n t (b ∷ bytes) below h =
    let byte = is-byte n t b (and_parts _ _ h).0 in
    subst (λ (s : Shape). b ∷ bytes ≡ spelling (Tree.array (byte_trees (b ∷ bytes))) (Shape.array s)) (sym byte) (sym (bytes-joined (b ∷ bytes) below))
