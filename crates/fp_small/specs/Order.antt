-- Lists that ascend by the bytes of a name.
use Rattle.std.specs.Prelude.{ℕ, Bool, List, [], ◌∷◌, if◌then◌else◌}
use Rattle.std.specs.Cmp.Lexicographic.{slice_cmp}
use Rattle.std.specs.Ordering.{is_lt, nat_cmp}
use Rattle.std.specs.List.{list_any}
use Rattle.std.specs.Str.{bytes_eq}

-- Tests whether a name is less than another by its bytes
abbrev pub comes_before : List ℕ → List ℕ → Bool
comes_before x y = is_lt (slice_cmp nat_cmp x y)

-- The list with an element inserted before the first one whose name isn't less
abbrev pub inserted : {A : Type 0} → (A → List ℕ) → List A → A → List A
inserted name [] x = x ∷ []
inserted name (y ∷ ys) x =
    if comes_before (name y) (name x) then y ∷ inserted name ys x else x ∷ y ∷ ys

-- A sorted list into which elements are inserted one by one, in order of their names
abbrev pub sorted_onto : {A : Type 0} → (A → List ℕ) → List A → List A → List A
sorted_onto name ys [] = ys
sorted_onto name ys (x ∷ xs) = sorted_onto name (inserted name ys x) xs

-- The elements in order of their names
abbrev pub sorted_by : {A : Type 0} → (A → List ℕ) → List A → List A
sorted_by name xs = sorted_onto name [] xs

-- The list without the elements that have this name
abbrev pub removed : {A : Type 0} → (A → List ℕ) → List A → List ℕ → List A
removed name [] x = []
removed name (y ∷ ys) x = if bytes_eq (name y) x then removed name ys x else y ∷ removed name ys x

-- Tests whether an element has this name
abbrev pub has_name : {A : Type 0} → (A → List ℕ) → List A → List ℕ → Bool
has_name name xs x = list_any (λ y. bytes_eq x (name y)) xs

-- The list in which this element replaces those that have its name
abbrev pub replaced : {A : Type 0} → (A → List ℕ) → List A → A → List A
replaced name xs x = inserted name (removed name xs (name x)) x
