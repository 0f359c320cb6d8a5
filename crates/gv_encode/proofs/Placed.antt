-- Children that are placed one after the other.
use Rattle.std.proofs.Common.{◌≡◌, ℕ, ◌-◌, ◌≤◌, Bool, true, false, List, [], ◌∷◌, ◌++◌, length, Option, Some, None, refl, sym, ap, ◌∙◌, subst, arith, append_assoc, append-nil, length-append}
use Rattle.gv_value.specs.declared.limits.TheConstants.{MOST_BYTES}
use Rattle.gv_value.specs.Bytes.{zeros}
use Rattle.gv_value.specs.Framing.{Part, placed, laid, ends, put_offset}
use Rattle.gv_value.specs.Layout.{padding}
use Rattle.gv_value.proofs.Cutting.{length-laid}
use Rattle.gv_encode.specs.declared.error.EncodeError.{EncodeError}
use Rattle.gv_encode.specs.Encoded.{IsAdded, Fails}
use Rattle.gv_encode.proofs.Steps.{fails-longer}

-- After what was there stand the first of some parts, and the rest are still to come. Of the ends some are noted.
pub record Placing (before : List ℕ) (all : List Part) (total out : List ℕ) (rest : List Part) (kept : List ℕ → List ℕ) (noted : List ℕ) : Type 0 where
  pub body : List ℕ
  pub is : out ≡ before ++ body
  pub short : length out ≤ MOST_BYTES
  pub laid_is : laid body rest ≡ laid [] all
  pub noted_is : noted ++ kept (ends body rest) ≡ total

pub placing-none : (before : List ℕ) (all : List Part) (kept : List ℕ → List ℕ) → length before ≤ MOST_BYTES → Placing before all (kept (ends [] all)) before all kept []
placing-none before all kept short = record { body = []; is = sym (append-nil before); short = short; laid_is = refl; noted_is = refl }

pub placing-le : (before : List ℕ) (all : List Part) (total out : List ℕ) (rest : List Part) (kept : List ℕ → List ℕ) (noted : List ℕ) → Placing before all total out rest kept noted → length before ≤ length out
placing-le before all total out rest kept noted p = omega (arith, ap length p.is, length-append before p.body)

pub placing-more : (before : List ℕ) (all : List Part) (total out : List ℕ) (a : ℕ) (child : List ℕ) (rest : List Part) (kept : List ℕ → List ℕ) (noted after : List ℕ) (kept' : List ℕ → List ℕ) (noted' : List ℕ)
    (used end : ℕ) → Placing before all total out ((a, child) ∷ rest) kept noted → used ≡ length out - length before → end ≡ length after - length before →
    IsAdded out after (zeros (padding used a) ++ child) → ((es : List ℕ) → noted' ++ kept' es ≡ noted ++ kept (end ∷ es)) → Placing before all total after rest kept' noted'
placing-more before all total out a child rest kept noted after kept' noted' used end p u n add more =
    let used-is : used ≡ length p.body = omega (arith, ap length p.is, length-append before p.body) in
    let part = placed p.body (a, child) in
    let is : after ≡ before ++ part =
    add.added ∙ ap (λ (m : ℕ). out ++ (zeros (padding m a) ++ child)) used-is ∙ ap (λ (xs : List ℕ). xs ++ (zeros (padding (length p.body) a) ++ child)) p.is
    ∙ append_assoc before p.body (zeros (padding (length p.body) a) ++ child) in
    let end-is : end ≡ length part = omega (arith, ap length is, length-append before part) in
    record {
      body = part;
      is = is;
      short = add.short;
      laid_is = p.laid_is;
      noted_is = more (ends part rest) ∙ ap (λ (m : ℕ). noted ++ kept (m ∷ ends part rest)) end-is ∙ p.noted_is;
    }

pub placing-fails : (e : EncodeError) (before : List ℕ) (all : List Part) (total out : List ℕ) (a : ℕ) (child : List ℕ) (rest : List Part) (kept : List ℕ → List ℕ) (noted : List ℕ) (used : ℕ) →
    Placing before all total out ((a, child) ∷ rest) kept noted → used ≡ length out - length before → Fails e out (zeros (padding used a) ++ child) → Fails e before (laid [] all)
placing-fails e before all total out a child rest kept noted used p u f =
    let used-is : used ≡ length p.body = omega (arith, ap length p.is, length-append before p.body) in
    let new = zeros (padding (length p.body) a) ++ child in
    let f' : Fails e out new = subst (λ (m : ℕ). Fails e out (zeros (padding m a) ++ child)) used-is f in
    fails-longer e out new before (laid [] all)
    (omega (arith, ap length p.is, length-append before p.body, length-append p.body new, length-laid (placed p.body (a, child)) rest, ap length p.laid_is)) f'

pub record Whole (before : List ℕ) (all : List Part) (total out : List ℕ) (kept : List ℕ → List ℕ) (noted : List ℕ) : Type 0 where
  pub is : IsAdded before out (laid [] all)
  pub noted_is : noted ++ kept [] ≡ total

pub placing-ends : (before : List ℕ) (all : List Part) (total out : List ℕ) (kept : List ℕ → List ℕ) (noted : List ℕ) → Placing before all total out [] kept noted → Whole before all total out kept noted
placing-ends before all total out kept noted p =
    record { is = record { added = p.is ∙ ap (λ (xs : List ℕ). before ++ xs) p.laid_is; short = p.short }; noted_is = p.noted_is }

-- an offset is noted before those that come
pub put-first : (o : Option ℕ) (last : Bool) (end : ℕ) (offsets : List ℕ) → put_offset o last end [] ++ offsets ≡ put_offset o last end offsets
put-first (Some size) last end offsets = refl
put-first None true end offsets = refl
put-first None false end offsets = refl
