-- What stands after a body.
use Rattle.std.proofs.Common.{◌≡◌, ℕ, ◌-◌, ◌*◌, ◌≤◌, List, ◌++◌, length, Option, Some, None, refl, ap, subst, arith, Result, Ok, Err, mul-le-mul_left, length-append}
use Rattle.gv_value.specs.Capped.{capped}
use Rattle.gv_value.specs.Bytes.{zeros}
use Rattle.gv_value.specs.Framing.{width, tuple_body, tuple_offsets}
use Rattle.gv_value.specs.Shape.{Shapes}
use Rattle.gv_value.specs.Spelling.{tuple_bytes}
use Rattle.gv_value.proofs.Lists.{length-zeros}
use Rattle.gv_value.proofs.Numbers.{length-offsets, width_pos}
use Rattle.gv_encode.specs.declared.error.EncodeError.{EncodeError}
use Rattle.gv_encode.specs.declared.error.EncodeError.TheVariants as errors
use Rattle.gv_encode.specs.Encoded.{IsAdded, Adds, offset_bytes, closing}

-- each offset takes a byte or more
pub offsets-many : (used : ℕ) (offsets : List ℕ) → length offsets ≤ length (offset_bytes used offsets)
offsets-many used offsets =
    let w = width used (length offsets) in
    let pos = width_pos used (length offsets) in
    let least : length offsets * 1 ≤ length offsets * w = mul-le-mul_left (length offsets) pos in
    omega (arith, length-offsets w offsets)

-- a size that stands for all larger ones leaves no room
pub closing-capped : {X : Type 0} (r : Result X EncodeError) (before after : List ℕ) (used size whole : ℕ) → size ≡ capped whole → used ≤ length before →
    Adds r before after (zeros (size - used)) → Adds r before after (zeros (whole - used))
closing-capped {X} r before after used size whole e le h = by r h
  where
    by : (r : Result X EncodeError) → Adds r before after (zeros (size - used)) → Adds r before after (zeros (whole - used))
    by (Ok x) a =
        let same : size ≡ whole = omega (arith, e, le, a.short, ap length a.added, length-append before (zeros (size - used)), length-zeros (size - used)) in
        subst (λ (n : ℕ). IsAdded before after (zeros (n - used))) same a
    by (Err errors.NotOfType) a = a
    by (Err errors.TooLong) a = omega (arith, e, length-zeros (size - used), length-zeros (whole - used))
    by (Err errors.NoMemory) a = tt

pub tuple-closed : (o : Option ℕ) (ts : Shapes) (children : List (List ℕ)) → tuple_bytes o ts children ≡ tuple_body ts children ++ closing o (length (tuple_body ts children)) (tuple_offsets ts children)
tuple-closed None ts children = refl
tuple-closed (Some size) ts children = refl
