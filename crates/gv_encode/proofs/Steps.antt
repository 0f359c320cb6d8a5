-- Bytes that are added in steps.
use Rattle.std.proofs.Common.{◌≡◌, ℕ, ◌+◌, ◌≤◌, List, [], ◌++◌, length, Result, Ok, Err, IsErrAnd, refl, sym, ap, ◌∙◌, subst, arith, append_assoc, append-nil, length-append}
use Rattle.gv_value.specs.declared.limits.TheConstants.{MOST_BYTES}
use Rattle.gv_encode.specs.declared.error.EncodeError.{EncodeError}
use Rattle.gv_encode.specs.declared.error.EncodeError.TheVariants as errors
use Rattle.gv_encode.specs.Encoded.{IsAdded, Fails, Adds}

pub added-none : (before : List ℕ) → length before ≤ MOST_BYTES → IsAdded before before []
added-none before short = record { added = sym (append-nil before); short = short }

pub added-then : (before mid after xs ys : List ℕ) → IsAdded before mid xs → IsAdded mid after ys → IsAdded before after (xs ++ ys)
added-then before mid after xs ys a b =
    record { added = b.added ∙ ap (λ (zs : List ℕ). zs ++ ys) a.added ∙ append_assoc before xs ys; short = b.short }

-- what fails for fewer bytes fails for more
pub fails-longer : (e : EncodeError) (mid ys before all : List ℕ) → length mid + length ys ≤ length before + length all → Fails e mid ys → Fails e before all
fails-longer errors.NotOfType mid ys before all le f = f
fails-longer errors.TooLong mid ys before all le f = omega (arith, le, f)
fails-longer errors.NoMemory mid ys before all le f = tt

pub fails-front : (e : EncodeError) (before xs ys : List ℕ) → Fails e before xs → Fails e before (xs ++ ys)
fails-front e before xs ys f = fails-longer e before xs before (xs ++ ys) (omega (arith, length-append xs ys)) f

pub fails-then : (e : EncodeError) (before mid xs ys : List ℕ) → IsAdded before mid xs → Fails e mid ys → Fails e before (xs ++ ys)
fails-then e before mid xs ys a f =
    fails-longer e mid ys before (xs ++ ys) (omega (arith, length-append xs ys, ap length a.added, length-append before xs)) f

pub adds-then : {X : Type 0} (r : Result X EncodeError) (before mid after xs ys : List ℕ) → IsAdded before mid xs → Adds r mid after ys → Adds r before after (xs ++ ys)
adds-then (Ok x) before mid after xs ys a b = added-then before mid after xs ys a b
adds-then (Err e) before mid after xs ys a f = fails-then e before mid xs ys a f

pub adds-same : {X : Type 0} (r : Result X EncodeError) (before after xs ys : List ℕ) → xs ≡ ys → Adds r before after xs → Adds r before after ys
adds-same r before after xs ys e a = subst (λ (zs : List ℕ). Adds r before after zs) e a

-- an error that is handed on
pub adds-err : {X : Type 0} (r : Result X EncodeError) (e : EncodeError) (before after bytes : List ℕ) → IsErrAnd r (λ x. x ≡ e) → Fails e before bytes → Adds r before after bytes
adds-err (Ok x) e before after bytes h f = absurd h
adds-err (Err x) e before after bytes h f = subst (λ (y : EncodeError). Fails y before bytes) (sym h) f

-- ---- in a loop: some bytes are there, and the rest is still to come

pub record Coming (before all mid rest : List ℕ) : Type 0 where
  pub is : mid ++ rest ≡ before ++ all
  pub short : length mid ≤ MOST_BYTES

pub coming-none : (before all : List ℕ) → length before ≤ MOST_BYTES → Coming before all before all
coming-none before all short = record { is = refl; short = short }

pub coming-more : (before all mid after ys rest : List ℕ) → Coming before all mid (ys ++ rest) → IsAdded mid after ys → Coming before all after rest
coming-more before all mid after ys rest c a =
    record { is = ap (λ (zs : List ℕ). zs ++ rest) a.added ∙ append_assoc mid ys rest ∙ c.is; short = a.short }

pub coming-fails : (e : EncodeError) (before all mid ys rest left : List ℕ) → Coming before all mid left → left ≡ ys ++ rest → Fails e mid ys → Fails e before all
coming-fails e before all mid ys rest left come split f =
    let c = subst (λ (zs : List ℕ). Coming before all mid zs) split come in
    fails-longer e mid ys before all (omega (arith, ap length c.is, length-append mid (ys ++ rest), length-append ys rest, length-append before all)) f

pub coming-ends : (before all mid : List ℕ) → Coming before all mid [] → IsAdded before mid all
coming-ends before all mid c = record { added = sym (append-nil mid) ∙ c.is; short = c.short }
