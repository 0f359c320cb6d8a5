-- Bytes that are the same or not, and how they stand in order.
use Rattle.std.specs.Str.{bytes_eq}
use Rattle.std.specs.Ordering.{is_lt, is_eq, nat_cmp, ordering_reverse}
use Rattle.std.specs.declared.cmp.Ordering.TheVariants.{Greater, Less, Equal}
use Rattle.std.specs.declared.cmp.Ordering.{Ordering}
use Rattle.std.specs.Prelude.{String, string_bytes}
use Rattle.std.specs.String.{string_cmp}
use Rattle.std.specs.Cmp.Lexicographic.{slice_cmp}
use Rattle.std.proofs.lemmas.Slice.Eq.{bytes_eq-Decides}
use Rattle.std.proofs.Common.{ℕ, true, List, ◌≡◌, refl, false, ◌≢◌, sym, ap, ◌∙◌}
use Rattle.std.proofs.lemmas.Bool.{both_ways}
use Rattle.std.proofs.lemmas.Map.Text.{is_eq-slice_cmp}
use Rattle.std.proofs.lemmas.Cmp.{nat_list_cmp_total}

pub bytes_eq-true : (xs ys : List ℕ) → bytes_eq xs ys ≡ true → xs ≡ ys
bytes_eq-true xs ys e = (bytes_eq-Decides xs ys).0 e

pub bytes_eq-same : (xs : List ℕ) → bytes_eq xs xs ≡ true
bytes_eq-same xs = (bytes_eq-Decides xs xs).1 refl

pub bytes_eq-false : (a b : List ℕ) → bytes_eq a b ≡ false → a ≢ b
bytes_eq-false a b f e = both_ways (bytes_eq a b) f ((bytes_eq-Decides a b).1 e)

pub less_from : (o : Ordering) → is_lt o ≡ true → o ≡ Less
less_from Less t = refl
less_from Equal t = absurd (cc)
less_from Greater t = absurd (cc)

pub flip : (a b : List ℕ) → slice_cmp nat_cmp a b ≡ Greater → slice_cmp nat_cmp b a ≡ Less
flip a b is = nat_list_cmp_total.antisymm b a ∙ ap ordering_reverse is

pub flip_less : (a b : List ℕ) → slice_cmp nat_cmp a b ≡ Less → slice_cmp nat_cmp b a ≡ Greater
flip_less a b is = nat_list_cmp_total.antisymm b a ∙ ap ordering_reverse is

pub equal_texts : {Z : Type 0} (a b : String Z) → string_cmp a b ≡ Equal → string_bytes a ≡ string_bytes b
equal_texts a b h = (bytes_eq-Decides (string_bytes a) (string_bytes b)).0 (sym (is_eq-slice_cmp (string_bytes a) (string_bytes b)) ∙ ap is_eq h)
