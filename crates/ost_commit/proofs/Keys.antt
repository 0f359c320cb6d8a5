-- Entries in the order of their keys.
use Rattle.std.proofs.Common.{◌≡◌, ◌≢◌, ℕ, List, [], ◌∷◌, Bool, true, false, Option, Some, None, refl, sym, ◌∙◌, ap}
use Rattle.std.specs.Prelude.{if◌then◌else◌}
use Rattle.std.specs.declared.cmp.Ordering.TheVariants.{Less}
use Rattle.std.specs.Ordering.{is_eq, nat_cmp}
use Rattle.std.specs.Cmp.Lexicographic.{slice_cmp}
use Rattle.std.specs.Str.{bytes_eq}
use Rattle.std.specs.BTreeMap.{is_at}
use Rattle.std.specs.Map.{lookup, keys_of}
use Rattle.std.specs.List.{AllByRecursion}
use Rattle.std.specs.List.Sorted.{IsStrictlySortedBy}
use Rattle.std.proofs.lemmas.Bool.{false≢true}
use Rattle.std.proofs.lemmas.Map.Text.{is_eq-slice_cmp}
use Rattle.std.proofs.lemmas.Slice.Eq.{bytes_eq-Decides}

-- what has the key
abbrev pub value_at : {X : Type 0} → List (List ℕ × X) → List ℕ → Option X
value_at es x = lookup (is_at (slice_cmp nat_cmp x)) es

-- the key isn't among these
abbrev pub IsNew : {X : Type 0} → List ℕ → List (List ℕ × X) → Type 0
IsNew x es = AllByRecursion (λ y. x ≢ y) (keys_of es)

-- keys that differ
abbrev pub AreDistinct : {X : Type 0} → List (List ℕ × X) → Type 0
AreDistinct [] = Unit {0}
AreDistinct (e ∷ es) = IsNew e.0 es × AreDistinct es

less_apart : (x y : List ℕ) → slice_cmp nat_cmp x y ≡ Less → x ≢ y
less_apart x y less same = not_equal (ap is_eq less) (is_eq-slice_cmp x y ∙ (bytes_eq-Decides x y).1 same)
  where
    not_equal : is_eq (slice_cmp nat_cmp x y) ≡ false → is_eq (slice_cmp nat_cmp x y) ≡ true → ⊥
    not_equal f t = false≢true (sym f ∙ t)

all_apart : (x : List ℕ) (ks : List (List ℕ)) → AllByRecursion (λ y. slice_cmp nat_cmp x y ≡ Less) ks → AllByRecursion (λ y. x ≢ y) ks
all_apart x [] all = tt
all_apart x (k ∷ ks) all = (less_apart x k all.0, all_apart x ks all.1)

pub distinct : {X : Type 0} (es : List (List ℕ × X)) → IsStrictlySortedBy (slice_cmp nat_cmp) (keys_of es) → AreDistinct es
unfolding IsStrictlySortedBy
distinct [] s = tt
distinct (e ∷ es) s = (all_apart e.0 (keys_of es) s.0, distinct es s.1)

pub same_test : (x y : List ℕ) → is_eq (slice_cmp nat_cmp x y) ≡ bytes_eq y x
same_test x y = is_eq-slice_cmp x y ∙ go (bytes_eq x y) (bytes_eq y x) (bytes_eq-Decides x y).0 (bytes_eq-Decides x y).1 (bytes_eq-Decides y x).0 (bytes_eq-Decides y x).1
  where
    go : (a b : Bool) → (a ≡ true → x ≡ y) → (x ≡ y → a ≡ true) → (b ≡ true → y ≡ x) → (y ≡ x → b ≡ true) → a ≡ b
    go true true f g h k = refl
    go false false f g h k = refl
    go true false f g h k = sym (k (sym (f refl)))
    go false true f g h k = g (sym (h refl))

pub other_test : (x y : List ℕ) → x ≢ y → bytes_eq y x ≡ false
other_test x y apart = go (bytes_eq y x) (bytes_eq-Decides y x).0
  where
    go : (b : Bool) → (b ≡ true → y ≡ x) → b ≡ false
    go true f = absurd (apart (sym (f refl)))
    go false f = refl

pub here : {X : Type 0} (y : List ℕ) (c : X) (es : List (List ℕ × X)) → value_at ((y, c) ∷ es) y ≡ Some c
here y c es = ap (λ b. if b then Some c else value_at es y) (is_eq-slice_cmp y y ∙ (bytes_eq-Decides y y).1 refl)

pub later : {X : Type 0} (x y : List ℕ) (c : X) (es : List (List ℕ × X)) → y ≢ x → value_at ((y, c) ∷ es) x ≡ value_at es x
later x y c es apart = ap (λ b. if b then Some c else value_at es x) (same_test x y ∙ other_test x y (λ e. apart (sym e)))

pub known_apart : {X : Type 0} (y : List ℕ) (es : List (List ℕ × X)) → IsNew y es → (x : List ℕ) (c : X) → value_at es x ≡ Some c → y ≢ x
known_apart y [] new x c is same = absurd (cc is)
known_apart y (e ∷ es) new x c is same = go (bytes_eq e.0 x) (bytes_eq-Decides e.0 x).0 (sym (ap (λ b. if b then Some e.1 else value_at es x) (same_test x e.0)) ∙ is) (λ h. known_apart y es new.1 x c h same)
  where
    go : (b : Bool) → (b ≡ true → e.0 ≡ x) → (if b then Some e.1 else value_at es x) ≡ Some c → (value_at es x ≡ Some c → ⊥) → ⊥
    go true f h rest = new.0 (same ∙ sym (f refl))
    go false f h rest = rest h

-- each entry stands at its key
pub at_keys : {X : Type 0} (P : List ℕ × X → Type 0) (es : List (List ℕ × X)) → AreDistinct es → ((x : List ℕ) (c : X) → value_at es x ≡ Some c → P (x, c)) → AllByRecursion P es
at_keys P [] d h = tt
at_keys P (e ∷ es) d h = (h e.0 e.1 (here e.0 e.1 es), at_keys P es d.1 (λ x c is. h x c (later x e.0 e.1 es (known_apart e.0 es d.0 x c is) ∙ is)))

-- a new key has nothing
pub none_new : {X : Type 0} (y : List ℕ) (es : List (List ℕ × X)) → IsNew y es → value_at es y ≡ None
none_new y [] new = refl
none_new y (e ∷ es) new = ap (λ b. if b then Some e.1 else value_at es y) (same_test y e.0 ∙ other_test y e.0 new.0) ∙ none_new y es new.1
