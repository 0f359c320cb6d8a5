-- A path above another, as a test.
use Rattle.std.proofs.Common.{◌≡◌, ◌↔◌, inl, inr, [], ◌∷◌, Bool, true, false, refl, sym, IsTrue}
use Rattle.std.proofs.lemmas.Bool.{cases_Bool, false≢true, or_right, or_left, or_cases}
use Rattle.fp_host.specs.Paths.{Elements, path_eq, IsAbove}
use Rattle.fp_host.proofs.Separate.{path_decides}
use Rattle.ost_commit.specs.Rows.{is_above}

pub is_above_it : (q p : Elements) → is_above q p ≡ true → IsAbove q p
is_above_it q [] is = absurd (false≢true is)
is_above_it q (x ∷ up) is = elim (or_cases (path_eq q up) (is_above q up) is) [
  | inl same ↦ inl ((path_decides q up).0 same)
  | inr higher ↦ inr (is_above_it q up higher)
]

pub above_tests : (q p : Elements) → IsAbove q p → is_above q p ≡ true
above_tests q [] above = absurd above
above_tests q (x ∷ up) (inl same) = or_left (path_eq q up) (is_above q up) ((path_decides q up).1 same)
above_tests q (x ∷ up) (inr above) = or_right (path_eq q up) (is_above q up) (above_tests q up above)

pub above_is : (q p : Elements) (b : Bool) → IsTrue b ↔ IsAbove q p → b ≡ is_above q p
above_is q p true tells = sym (above_tests q p (tells.0 refl))
above_is q p false tells = elim (cases_Bool (is_above q p)) [
  | inl above ↦ absurd (false≢true (tells.1 (is_above_it q p above)))
  | inr off ↦ sym off
]
