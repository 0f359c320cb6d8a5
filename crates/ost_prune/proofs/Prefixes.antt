-- The names of folders of objects.
use Rattle.std.proofs.Common.{◌≡◌, ℕ, Bool, true, ◌&&◌, eqb, List, length, refl, sym, ◌∙◌, ap, subst}
use Rattle.std.specs.Prelude.{is_some}
use Rattle.std.specs.List.{list_all}
use Rattle.fp_name.specs.Hex.{digit_value}
use Rattle.ost_model.specs.Stores.{is_prefix}

-- two bytes that are digits
pub two_digits : (digits : List ℕ) (all : Bool) → length digits ≡ 2 → all ≡ list_all (λ c. is_some (digit_value c)) digits → all ≡ is_prefix digits
two_digits digits all long is =
    let two : eqb (length digits) 2 ≡ true = subst (λ (n : ℕ). eqb n 2 ≡ true) (sym long) refl in
    is ∙ sym (ap (λ (b : Bool). b && list_all (λ c. is_some (digit_value c)) digits) two)
