-- The lines of mounts ascend, and are just those that were put among them.
use Rattle.std.proofs.Common.{◌≡◌, ◌+◌, ◌<◌, ℕ, Bool, true, false, ◌||◌, List, [], ◌∷◌, ◌++◌, append-nil, length, take, get_or, codes, refl, sym, ap, ◌∙◌}
use Rattle.std.specs.declared.cmp.Ordering.{Ordering}
use Rattle.std.specs.declared.cmp.Ordering.TheVariants as orders
use Rattle.std.specs.Cmp.Lexicographic.{slice_cmp, texts_ties}
use Rattle.std.specs.List.{list_any}
use Rattle.std.specs.Ordering.{is_lt, is_eq, nat_cmp, match_ordering, ordering_reverse}
use Rattle.std.specs.Str.{bytes_eq}
use Rattle.std.proofs.lemmas.Bool.{and_parts, and_from}
use Rattle.std.proofs.lemmas.Cmp.{nat_list_cmp_total}
use Rattle.std.proofs.lemmas.List.{take_more}
use Rattle.std.proofs.lemmas.List.Concat.{flat_map-append}
use Rattle.std.proofs.lemmas.List.Folds.{list_any-append}
use Rattle.std.proofs.lemmas.List.Sums.{fold-append}
use Rattle.fp_base.proofs.Booleans.{or-swap, or-same}
use Rattle.fp_base.proofs.Texts.{bytes_eq-true}
use Rattle.fp_host.specs.Reads.{comes_first, is_ascending}
use Rattle.fp_small.specs.declared.state.State.{State}
use Rattle.fl_extension.specs.declared.point.Point.{Point}
use Rattle.fl_launch.specs.Extensions.{mount_of, mounts_of, with_line, with_lines, mount_lines}

abbrev text_cmp : List ℕ → List ℕ → Ordering
text_cmp = slice_cmp nat_cmp

-- ---- one point after another

with_both : (lines one other : List (List ℕ)) → with_lines lines (one ++ other) ≡ with_lines (with_lines lines one) other
unfolding with_lines
with_both lines one other = fold-append with_line lines one other

one_more : (front : List ℕ) (state : State) (points : List Point) (i : ℕ) (p : Point) → i < length points → p ≡ get_or points i p
    → mounts_of front state (take (i + 1) points) ≡ mounts_of front state (take i points) ++ mount_of front state p
one_more front state points i p low at =
    ap (mounts_of front state) (take_more points i p low ∙ ap (λ (q : Point). take i points ++ q ∷ []) (sym at))
    ∙ flat_map-append (mount_of front state) (take i points) (p ∷ []) ∙ ap (λ (ms : List (List ℕ)). mounts_of front state (take i points) ++ ms) (append-nil (mount_of front state p))

pub mounts-more : (front : List ℕ) (state : State) (points : List Point) (i : ℕ) (p : Point) (start before after : List (List ℕ)) → i < length points → p ≡ get_or points i p
    → before ≡ with_lines start (mounts_of front state (take i points)) → after ≡ with_lines before (mount_of front state p) → after ≡ with_lines start (mounts_of front state (take (i + 1) points))
mounts-more front state points i p start before after low at h e =
    e ∙ ap (λ (lines : List (List ℕ)). with_lines lines (mount_of front state p)) h
    ∙ sym (with_both start (mounts_of front state (take i points)) (mount_of front state p)) ∙ ap (with_lines start) (sym (one_more front state points i p low at))

-- ---- they ascend

below : (x y : List ℕ) → text_cmp x y ≡ orders.Greater → is_lt (text_cmp y x) ≡ true
below x y e = ap is_lt (nat_list_cmp_total.antisymm y x ∙ ap ordering_reverse e)

first_stays : (y : List ℕ) (ys : List (List ℕ)) (x : List ℕ) → comes_first y ys ≡ true → is_lt (text_cmp y x) ≡ true → comes_first y (with_line ys x) ≡ true
first_stays y [] x a b = b
first_stays y (z ∷ zs) x a b = by (text_cmp x z)
  where
    by : (o : Ordering) → comes_first y (match_ordering o (x ∷ z ∷ zs) (z ∷ zs) (z ∷ with_line zs x)) ≡ true
    by orders.Less = b
    by orders.Equal = a
    by orders.Greater = a

ascends_with : (ys : List (List ℕ)) (x : List ℕ) → is_ascending ys ≡ true → is_ascending (with_line ys x) ≡ true
ascends_with [] x h = refl
ascends_with (y ∷ ys) x h =
    let a = and_parts (comes_first y ys) (is_ascending ys) h in by (text_cmp x y) refl a.0 (ascends_with ys x a.1)
  where
    by : (o : Ordering) → text_cmp x y ≡ o → comes_first y ys ≡ true → is_ascending (with_line ys x) ≡ true → is_ascending (match_ordering o (x ∷ y ∷ ys) (y ∷ ys) (y ∷ with_line ys x)) ≡ true
    by orders.Less e first rest = and_from (is_lt (text_cmp x y)) (is_ascending (y ∷ ys)) (ap is_lt e) h
    by orders.Equal e first rest = h
    by orders.Greater e first rest = and_from (comes_first y (with_line ys x)) (is_ascending (with_line ys x)) (first_stays y ys x first (below x y e)) rest

ascends_onto : (xs ys : List (List ℕ)) → is_ascending ys ≡ true → is_ascending (with_lines ys xs) ≡ true
unfolding with_lines
ascends_onto [] ys h = h
ascends_onto (x ∷ xs) ys h = ascends_onto xs (with_line ys x) (ascends_with ys x h)

pub mounts_ascend : (state : State) (app_points runtime_points : List Point) → is_ascending (mount_lines state app_points runtime_points) ≡ true
unfolding mount_lines
mounts_ascend state app_points runtime_points =
    ascends_onto (mounts_of (codes "/usr/") state runtime_points) (with_lines [] (mounts_of (codes "/app/") state app_points)) (ascends_onto (mounts_of (codes "/app/") state app_points) [] refl)

-- ---- they are just those

abbrev has : List (List ℕ) → List ℕ → Bool
has lines line = list_any (bytes_eq line) lines

or-move : (a b c : Bool) → ((a || b) || c) ≡ (b || (a || c))
or-move true true c = refl
or-move true false c = refl
or-move false true c = refl
or-move false false c = refl

or-none : (a : Bool) → a ≡ (a || false)
or-none true = refl
or-none false = refl

same_text : (x y : List ℕ) → text_cmp x y ≡ orders.Equal → x ≡ y
same_text x y e = bytes_eq-true x y (texts_ties x y ∙ ap is_eq e)

has_with : (ys : List (List ℕ)) (x line : List ℕ) → has (with_line ys x) line ≡ (bytes_eq line x || has ys line)
has_with [] x line = refl
has_with (y ∷ ys) x line = by (text_cmp x y) refl (has_with ys x line)
  where
    by : (o : Ordering) → text_cmp x y ≡ o → has (with_line ys x) line ≡ (bytes_eq line x || has ys line) → has (match_ordering o (x ∷ y ∷ ys) (y ∷ ys) (y ∷ with_line ys x)) line ≡ (bytes_eq line x || (bytes_eq line y || has ys line))
    by orders.Less e rest = refl
    by orders.Equal e rest = or-same (bytes_eq line y) (has ys line) ∙ ap (λ (z : List ℕ). bytes_eq line z || (bytes_eq line y || has ys line)) (sym (same_text x y e))
    by orders.Greater e rest = ap (λ (b : Bool). bytes_eq line y || b) rest ∙ or-swap (bytes_eq line x) (bytes_eq line y) (has ys line)

has_onto : (xs ys : List (List ℕ)) (line : List ℕ) → has (with_lines ys xs) line ≡ (has ys line || has xs line)
unfolding with_lines
has_onto [] ys line = or-none (has ys line)
has_onto (x ∷ xs) ys line =
    has_onto xs (with_line ys x) line ∙ ap (λ (b : Bool). b || has xs line) (has_with ys x line) ∙ or-move (bytes_eq line x) (has ys line) (has xs line)

pub mounts_are : (state : State) (app_points runtime_points : List Point) (line : List ℕ) → has (mount_lines state app_points runtime_points) line
    ≡ has (mounts_of (codes "/app/") state app_points ++ mounts_of (codes "/usr/") state runtime_points) line
unfolding mount_lines
mounts_are state app_points runtime_points line =
    let of_app = mounts_of (codes "/app/") state app_points in
    let of_runtime = mounts_of (codes "/usr/") state runtime_points in
    has_onto of_runtime (with_lines [] of_app) line ∙ ap (λ (b : Bool). b || has of_runtime line) (has_onto of_app [] line) ∙ sym (list_any-append (bytes_eq line) of_app of_runtime)
