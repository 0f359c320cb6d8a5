-- Objects that are written.
use Rattle.std.proofs.Common.{◌≡◌, ℕ, zero, suc, ◌^◌, ◌<◌, ◌≤◌, true, false, length, List, Option, Some, None, refl, sym, ap, ◌∙◌, subst, get_or, arith}
use Rattle.std.specs.Prelude.{option_and_then, unwrap_or, Result, Ok, Err}
use Rattle.std.specs.Int.{w32, w64, to_be_bytes, from_be_bytes, swap_bytes}
use Rattle.std.proofs.lemmas.Nat.{le_bytes_4, le_bytes_8, from_be_bytes-to_be_bytes_4, from_be_bytes-to_be_bytes_8}
use Rattle.gv_value.specs.declared.limits.TheConstants.{MOST_BYTES}
use Rattle.gv_value.specs.Shape.{Shape}
use Rattle.gv_value.specs.Tree.{Tree}
use Rattle.gv_value.specs.Reading.{value_of}
use Rattle.gv_value.specs.Spelled.{Spelled}
use Rattle.gv_value.specs.Spelling.{fits, spelling}
use Rattle.gv_value.proofs.Exact.{reads_values, spells_values}
use Rattle.gv_value.proofs.Lists.{then_some}
use Rattle.fp_base.specs.declared.rule.Rule.{Rule}
use Rattle.fp_base.specs.declared.rule.Rule.TheVariants as rules
use Rattle.ost_model.specs.Readers.{judged, kept}
use Rattle.ost_object.specs.declared.error.ObjectError.{ObjectError}
use Rattle.ost_object.specs.declared.error.ObjectError.TheVariants as errors
use Rattle.ost_object.specs.Writes.{Refuses, Writes, Spells}

-- ---- numbers whose bytes are turned

small_4 : (n i : ℕ) → get_or (to_be_bytes w32 n) i 0 < 256
small_4 n zero = omega arith
small_4 n (suc zero) = omega arith
small_4 n (suc (suc zero)) = omega arith
small_4 n (suc (suc (suc zero))) = omega arith
small_4 n (suc (suc (suc (suc i)))) = omega arith

-- turned twice they are as before
pub twice_4 : (n : ℕ) → n < 2 ^ 32 → swap_bytes w32 (swap_bytes w32 n) ≡ n
twice_4 n h = ap (from_be_bytes w32) (le_bytes_4 (to_be_bytes w32 n) (swap_bytes w32 n) refl (small_4 n) (omega arith)) ∙ from_be_bytes-to_be_bytes_4 n h

small_8 : (n i : ℕ) → get_or (to_be_bytes w64 n) i 0 < 256
small_8 n zero = omega arith
small_8 n (suc zero) = omega arith
small_8 n (suc (suc zero)) = omega arith
small_8 n (suc (suc (suc zero))) = omega arith
small_8 n (suc (suc (suc (suc zero)))) = omega arith
small_8 n (suc (suc (suc (suc (suc zero))))) = omega arith
small_8 n (suc (suc (suc (suc (suc (suc zero)))))) = omega arith
small_8 n (suc (suc (suc (suc (suc (suc (suc zero))))))) = omega arith
small_8 n (suc (suc (suc (suc (suc (suc (suc (suc i)))))))) = omega arith

pub twice_8 : (n : ℕ) → n < 2 ^ 64 → swap_bytes w64 (swap_bytes w64 n) ≡ n
twice_8 n h = ap (from_be_bytes w64) (le_bytes_8 (to_be_bytes w64 n) (swap_bytes w64 n) refl (small_8 n) (omega arith)) ∙ from_be_bytes-to_be_bytes_8 n h

-- ---- values without bytes

pub unfit : (t : Shape) (v : Tree) → fits t v ≡ false → (bytes : List ℕ) → Spelled t v bytes → ⊥
unfit t v is bytes h = let fit : fits t v ≡ true = ((spells_values t v bytes).0 h).0 in absurd (cc (is, fit))

pub too_long : (t : Shape) (v : Tree) → MOST_BYTES < length (spelling v t) → (bytes : List ℕ) → Spelled t v bytes → ⊥
too_long t v long bytes h =
    let parts = (spells_values t v bytes).0 h in
    let same : length bytes ≡ length (spelling v t) = ap length parts.1 in
    let short : length bytes ≤ MOST_BYTES = parts.2 in
    absurd (omega (arith, same, short, long))

-- by equations of the type and the value
pub spells_as : (r : Result (List ℕ) ObjectError) (s t : Shape) (v w : Tree) → s ≡ t → v ≡ w → Spells r s v → Spells r t w
spells_as r s t v w shapes values h = subst (λ (x : Tree). Spells r t x) values (subst (λ (x : Shape). Spells r x v) shapes h)

-- ---- what is read of bytes

pub record IsRead {Y : Type 0} (t : Shape) (into : Tree → Option Y) (breaks : Y → Option Rule) (bytes : List ℕ) (y : Y) : Type 0 where
  pub value : Tree
  pub spelled : Spelled t value bytes
  pub says : into value ≡ Some y
  pub good : breaks y ≡ None

module _ {Y : Type 0} (t : Shape) (into : Tree → Option Y) (breaks : Y → Option Rule) where
  abbrev pub read : List ℕ → Result Y Rule
  read bytes = judged breaks (option_and_then into (value_of t bytes))

  kept_is : (r : Option Rule) (x y : Y) → kept r x ≡ Ok y → (r ≡ None) × (x ≡ y)
  kept_is None x y is = (refl, cc)
  kept_is (Some rule) x y is = absurd cc

  judged_is : (o : Option Y) (y : Y) → judged breaks o ≡ Ok y → (o ≡ Some y) × (breaks y ≡ None)
  judged_is None y is = absurd cc
  judged_is (Some x) y is = let k = kept_is (breaks x) x y is in (ap Some k.1, subst (λ z. breaks z ≡ None) k.1 k.0)

  pub read_is : (bytes : List ℕ) (y : Y) → read bytes ≡ Ok y → IsRead t into breaks bytes y
  read_is bytes y is =
      let j = judged_is (option_and_then into (value_of t bytes)) y is in
      let s = then_some into (value_of t bytes) y j.0 in
      record { value = s.0; spelled = (reads_values t s.0 bytes).0 s.1; says = s.2; good = j.1 }

  -- what breaks a rule is not read
  pub refused : (y : Y) (rule : Rule) → breaks y ≡ Some rule → Refuses read breaks (errors.Malformed rule) y
  refused y rule is = (ap (λ r. unwrap_or r rules.Value) (sym is), λ bytes e. let r = read_is bytes y e in absurd (cc (r.good, is)))

  -- What breaks none is read of the spelling of its value, which is the one that says this, and of nothing else.
  pub written : (r : Result (List ℕ) ObjectError) (y : Y) (v : Tree) → breaks y ≡ None → into v ≡ Some y
      → ((w : Tree) → fits t w ≡ true → into w ≡ Some y → w ≡ v) → Spells r t v → Writes read breaks r y
  written (Ok bytes) y v good says only h =
      ap (λ o. judged breaks (option_and_then into o)) ((reads_values t v bytes).1 h) ∙ ap (judged breaks) says ∙ ap (λ r. kept r y) good
  written (Err (errors.Malformed rule)) y v good says only h = (
    h.0 ∙ ap (λ r. unwrap_or r rules.Value) (sym good),
    λ bytes e. let r = read_is bytes y e in
        h.1 bytes (subst (λ (w : Tree). Spelled t w bytes) (only r.value ((spells_values t r.value bytes).0 r.spelled).0 r.says) r.spelled),
  )
  written (Err errors.NoMemory) y v good says only h = tt
