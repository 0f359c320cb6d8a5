-- A walk with a work list meets the order, and the first fault.
use Rattle.std.proofs.Common.{◌≡◌, ◌≤◌, ◌-◌, ℕ, zero, suc, ◌+◌, List, [], ◌∷◌, ◌++◌, Option, Some, None, refl, sym, ◌∙◌, ap, append_assoc, append-nil, length, arith}
use Rattle.std.specs.Option.{option_or}
use Rattle.ost_model.specs.Fields.{DirRow, TreeView}
use Rattle.ost_model.specs.Objects.{Have, Fault}
use Rattle.ost_model.specs.Order.{Place, each_in, inside, dir_places, tree_at, order, first_of, found_at}
use Rattle.ost_model.specs.Walk.{Open, open_row, open_at, open_places, pending, opened, heads, own_places, Walked}

-- ---- the places of directories

-- a directory's name plays no part
unnamed : (have : Have) (fuel depth : ℕ) (e : DirRow) → dir_places have fuel depth (open_row (open_at depth e)) ≡ dir_places have fuel depth e
unnamed have zero depth e = refl
unnamed have (suc fuel) depth e = refl

-- what follows the two first places
abbrev after_heads : Have → ℕ → Open → List Place
after_heads have zero o = []
after_heads have (suc fuel) o = inside (dir_places have fuel (suc o.depth)) o.depth (tree_at have o.tree)

headed : (have : Have) (fuel : ℕ) (o : Open) → dir_places have fuel o.depth (open_row o) ≡ heads o ++ after_heads have fuel o
headed have zero o = refl
headed have (suc fuel) o = refl

pub with_heads : (have : Have) (o : Open) → (rest : List Place) × (open_places have o ≡ heads o ++ rest)
with_heads have o = (after_heads have (65 - o.depth) o, headed have (65 - o.depth) o)

opened_is : (have : Have) (depth : ℕ) (es : List DirRow) (left : List Open) → pending have (opened depth es ++ left) ≡ each_in (dir_places have (65 - depth) depth) es ++ pending have left
opened_is have depth [] left = refl
opened_is have depth (e ∷ es) left =
    ap (λ l. open_places have (open_at depth e) ++ l) (opened_is have depth es left)
    ∙ ap (λ l. l ++ (each_in (dir_places have (65 - depth) depth) es ++ pending have left)) (unnamed have (65 - depth) depth e)
    ∙ sym (append_assoc (dir_places have (65 - depth) depth e) (each_in (dir_places have (65 - depth) depth) es) (pending have left))

pub as_read : (have : Have) (o : Open) (v : TreeView) (left : List Open) → o.depth ≤ 64 → tree_at have o.tree ≡ Some v
    → pending have (o ∷ left) ≡ own_places o v ++ pending have (opened (suc o.depth) v.dirs ++ left)
as_read have o v left low reads =
    ap (λ (k : ℕ). dir_places have k o.depth (open_row o) ++ pending have left) fuel
    ∙ ap (λ t. (heads o ++ inside (dir_places have (64 - o.depth) (suc o.depth)) o.depth t) ++ pending have left) reads
    ∙ append_assoc (own_places o v) (each_in (dir_places have (64 - o.depth) (suc o.depth)) v.dirs) (pending have left)
    ∙ ap (λ l. own_places o v ++ l) (ap (λ (k : ℕ). each_in (dir_places have k (suc o.depth)) v.dirs ++ pending have left) below ∙ sym (opened_is have (suc o.depth) v.dirs left))
  where
    fuel : 65 - o.depth ≡ suc (64 - o.depth)
    fuel = omega (arith, low)

    below : 64 - o.depth ≡ 65 - suc o.depth
    below = omega (arith, low)

-- ---- the first fault

-- the first of two lists of places, one after the other
pub first_append : (test : ℕ → Place → Option Fault) (n : ℕ) (xs ys : List Place) → first_of test n (xs ++ ys) ≡ option_or (first_of test n xs) (first_of test (n + length xs) ys)
first_append test n [] ys = ap (λ k. first_of test k ys) (omega arith)
first_append test n (x ∷ xs) ys = go (found_at x (test n x)) (first_append test (suc n) xs ys)
  where
    go : (f : Option (Place × Fault)) → first_of test (suc n) (xs ++ ys) ≡ option_or (first_of test (suc n) xs) (first_of test (suc n + length xs) ys)
        → option_or f (first_of test (suc n) (xs ++ ys)) ≡ option_or (option_or f (first_of test (suc n) xs)) (first_of test (n + length (x ∷ xs)) ys)
    go (Some f) e = refl
    go None e = e ∙ ap (λ k. option_or (first_of test (suc n) xs) (first_of test k ys)) (omega arith)

plus : (l : List Place) → 0 + length l ≡ length l
plus l = omega arith

-- ---- a walk

module _ {have : Have} {test : ℕ → Place → Option Fault} {commit : List ℕ} where
  -- one directory more
  pub walked_dir : {done : List Place} {left : List Open} (o : Open) (v : TreeView) → Walked have test commit done (o ∷ left) → o.depth ≤ 64
      → tree_at have o.tree ≡ Some v → first_of test (length done) (own_places o v) ≡ None → Walked have test commit (done ++ own_places o v) (opened (suc o.depth) v.dirs ++ left)
  walked_dir {done = done} {left = left} o v w low reads clean = record {
    same = w.same ∙ ap (λ l. done ++ l) (as_read have o v left low reads) ∙ sym (append_assoc done (own_places o v) (pending have (opened (suc o.depth) v.dirs ++ left)));
    clean = first_append test 0 done (own_places o v) ∙ ap (λ f. option_or f (first_of test (0 + length done) (own_places o v))) w.clean ∙ ap (λ k. first_of test k (own_places o v)) (plus done) ∙ clean;
  }

  -- the end: what is done is the order, and it has no fault
  pub walked_end : {done : List Place} → Walked have test commit done [] → (done ≡ order have commit) × (first_of test 0 (order have commit) ≡ None)
  walked_end {done = done} w = let all : done ≡ order have commit = sym (w.same ∙ append-nil done) in (all, ap (first_of test 0) (sym all) ∙ w.clean)

  -- a fault among the places that come next is the first of the order
  pub walked_fault : {done : List Place} {left : List Open} {p : Place} {f : Fault} (next more : List Place) → Walked have test commit done left → pending have left ≡ next ++ more
      → first_of test (length done) next ≡ Some (p, f) → first_of test 0 (order have commit) ≡ Some (p, f)
  walked_fault {done = done} {left = left} next more w splits found =
      ap (first_of test 0) (w.same ∙ ap (λ l. done ++ l) splits) ∙ first_append test 0 done (next ++ more) ∙ ap (λ f. option_or f (first_of test (0 + length done) (next ++ more))) w.clean
      ∙ ap (λ k. first_of test k (next ++ more)) (plus done) ∙ first_append test (length done) next more ∙ ap (λ f. option_or f (first_of test (length done + length next) more)) found
