-- Children that are read one by one, or passed.
use denote.Ref.{Bor}
use Rattle.std.proofs.Common.{◌≡◌, ℕ, zero, suc, ◌+◌, ◌<◌, ◌≤◌, Bool, true, false, List, [], ◌∷◌, ◌++◌, length, drop, get_or, Option, Some, None, option_map, option_and_then, refl, sym, ap, ap₂, ◌∙◌, subst, arith, IsTrue}
use Rattle.std.proofs.lemmas.Bool.{and_parts}
use Rattle.std.proofs.lemmas.List.{drop_more, drop_all}
use Rattle.std.specs.Option.{is_some, IsSome}
use Rattle.gv_value.specs.declared.limits.TheConstants.{MOST_BYTES}
use Rattle.gv_value.specs.Shape.{Shape, Shapes, no_shapes, shape}
use Rattle.gv_value.specs.Tree.{Tree, Trees, no_trees, tree}
use Rattle.gv_value.specs.Reading.{Reader, read_all, read_each}
use Rattle.gv_value.specs.Plans.{is_plan, plan_shape, are_plans, plan_shapes}
use Rattle.gv_value.specs.Views.{plain, plains}
use Rattle.gv_value.specs.declared.plan.Plan.{Plan}
use Rattle.gv_value.specs.declared.value.GvValue.{GvValue}
use Rattle.gv_decode.specs.declared.error.DecodeError.{DecodeError}
use Rattle.gv_decode.specs.Decoded.{Fails, AreShort, slices}
use Rattle.gv_decode.proofs.Runs.{fails-more}

-- ---- values that are read, before others

abbrev pub trees_before : List GvValue → Trees → Trees
trees_before [] vs = vs
trees_before (x ∷ xs) vs = tree (plain x) (trees_before xs vs)

before-none : (xs : List GvValue) → trees_before xs no_trees ≡ plains xs
before-none [] = refl
before-none (x ∷ xs) = ap (tree (plain x)) (before-none xs)

before-more : (xs : List GvValue) (x : GvValue) (vs : Trees) → trees_before (xs ++ x ∷ []) vs ≡ trees_before xs (tree (plain x) vs)
before-more [] x vs = refl
before-more (y ∷ xs) x vs = ap (tree (plain y)) (before-more xs x vs)

-- what is read of the whole, by the values that are read and what is read of the rest
pub record ReadSoFar (values : List GvValue) (rest whole : Option Trees) : Type 0 where
  pub is : option_map (trees_before values) rest ≡ whole

pub read-none : (whole : Option Trees) → ReadSoFar [] whole whole
read-none None = record { is = refl }
read-none (Some vs) = record { is = refl }

pub read-fails : (values : List GvValue) (rest whole : Option Trees) → ReadSoFar values rest whole → rest ≡ None → whole ≡ None
read-fails values rest whole so e = sym so.is ∙ ap (option_map (trees_before values)) e

pub read-ends : (values : List GvValue) (rest whole : Option Trees) → ReadSoFar values rest whole → rest ≡ Some no_trees → whole ≡ Some (plains values)
read-ends values rest whole so e = sym so.is ∙ ap (option_map (trees_before values)) e ∙ ap (λ (vs : Trees). Some vs) (before-none values)

pub read-more : (values : List GvValue) (x : GvValue) (rest others whole : Option Trees) → ReadSoFar values rest whole → rest ≡ option_map (tree (plain x)) others →
    ReadSoFar (values ++ x ∷ []) others whole
read-more values x rest others whole so e = record { is = by others ∙ ap (option_map (trees_before values)) (sym e) ∙ so.is }
  where
    by : (o : Option Trees) → option_map (trees_before (values ++ x ∷ [])) o ≡ option_map (trees_before values) (option_map (tree (plain x)) o)
    by None = refl
    by (Some vs) = ap (λ (ts : Trees). Some ts) (before-more values x vs)

-- ---- one child more

pub all-unread : (one : Reader) (child : List ℕ) (others : List (List ℕ)) → one child ≡ None → read_all one (child ∷ others) ≡ None
all-unread one child others e = ap (option_and_then (λ v. option_map (tree v) (read_all one others))) e

pub all-read : (one : Reader) (child : List ℕ) (others : List (List ℕ)) (v : Tree) → one child ≡ Some v → read_all one (child ∷ others) ≡ option_map (tree v) (read_all one others)
all-read one child others v e = ap (option_and_then (λ x. option_map (tree x) (read_all one others))) e

pub each-unread : (one : Shape → Reader) (t : Shape) (ts : Shapes) (child : List ℕ) (others : List (List ℕ)) → one t child ≡ None → read_each one (shape t ts) (child ∷ others) ≡ None
each-unread one t ts child others e = ap (option_and_then (λ v. option_map (tree v) (read_each one ts others))) e

pub each-read : (one : Shape → Reader) (t : Shape) (ts : Shapes) (child : List ℕ) (others : List (List ℕ)) (v : Tree) → one t child ≡ Some v →
    read_each one (shape t ts) (child ∷ others) ≡ option_map (tree v) (read_each one ts others)
each-read one t ts child others v e = ap (option_and_then (λ x. option_map (tree x) (read_each one ts others))) e

-- ---- a child that passes

none-of : {A : Type 0} (o : Option A) → is_some o ≡ false → o ≡ None
none-of None h = refl
none-of (Some x) h = absurd (cc h)

is_some-map : {A B : Type 0} (f : A → B) (o : Option A) → is_some (option_map f o) ≡ is_some o
is_some-map f None = refl
is_some-map f (Some x) = refl

some-then : {A B : Type 0} (f : A → Option B) (o : Option A) (b : Bool) → IsSome o → ((x : A) → is_some (f x) ≡ b) → is_some (option_and_then f o) ≡ b
some-then f None b h each = absurd cc
some-then f (Some x) b h each = each x

pub all-passes : (one : Reader) (child : List ℕ) (others : List (List ℕ)) → IsSome (one child) → is_some (read_all one (child ∷ others)) ≡ is_some (read_all one others)
all-passes one child others h = some-then (λ v. option_map (tree v) (read_all one others)) (one child) (is_some (read_all one others)) h (λ v. is_some-map (tree v) (read_all one others))

pub each-passes : (one : Shape → Reader) (t : Shape) (ts : Shapes) (child : List ℕ) (others : List (List ℕ)) → IsSome (one t child) →
    is_some (read_each one (shape t ts) (child ∷ others)) ≡ is_some (read_each one ts others)
each-passes one t ts child others h = some-then (λ v. option_map (tree v) (read_each one ts others)) (one t child) (is_some (read_each one ts others)) h (λ v. is_some-map (tree v) (read_each one ts others))

pub passes-map : {A B : Type 0} (f : A → B) (o : Option A) → IsSome o → IsSome (option_map f o)
passes-map f o h = is_some-map f o ∙ h

-- ---- the first of those that are left

module _ (one : Reader) (child : List ℕ) (left others : Option (List (List ℕ))) (e : left ≡ option_map (λ cs. child ∷ cs) others) where
  pub left-passes : IsSome (one child) → is_some (option_and_then (read_all one) left) ≡ is_some (option_and_then (read_all one) others)
  left-passes h = ap (λ (o : Option (List (List ℕ))). is_some (option_and_then (read_all one) o)) e ∙ by others
    where
      by : (o : Option (List (List ℕ))) → is_some (option_and_then (read_all one) (option_map (λ cs. child ∷ cs) o)) ≡ is_some (option_and_then (read_all one) o)
      by None = refl
      by (Some cs) = all-passes one child cs h

  left-unread : one child ≡ None → option_and_then (read_all one) left ≡ None
  left-unread none = ap (option_and_then (read_all one)) e ∙ by others
    where
      by : (o : Option (List (List ℕ))) → option_and_then (read_all one) (option_map (λ cs. child ∷ cs) o) ≡ None
      by None = refl
      by (Some cs) = all-unread one child cs none

  -- it isn't read, nor is the whole
  pub child-fails : (x : DecodeError) (whole : Option Trees) → is_some (option_and_then (read_all one) left) ≡ is_some whole → Fails x (one child) → Fails x whole
  child-fails x whole same f = fails-more x (one child) whole (λ none. none-of whole (sym same ∙ ap is_some (left-unread none))) f

-- those that are left don't stand so
pub left-fails : (one : Reader) (left : Option (List (List ℕ))) (x : DecodeError) (whole : Option Trees) → is_some (option_and_then (read_all one) left) ≡ is_some whole → Fails x left → Fails x whole
left-fails one left x whole same f =
    fails-more x left whole (λ none. none-of whole (sym same ∙ ap (λ (o : Option (List (List ℕ))). is_some (option_and_then (read_all one) o)) none)) f

-- none is left
pub left-ended : (one : Reader) (left : Option (List (List ℕ))) (whole : Option Trees) → is_some (option_and_then (read_all one) left) ≡ is_some whole → left ≡ Some [] → IsSome whole
left-ended one left whole same e = sym same ∙ ap (λ (o : Option (List (List ℕ))). is_some (option_and_then (read_all one) o)) e

-- ---- children by their places

pub short-at : (cs : List (Bor (List ℕ))) (i : ℕ) (d : Bor (List ℕ)) → i < length cs → AreShort (slices cs) → length (get_or cs i d).now ≤ MOST_BYTES
short-at [] i d lt h = absurd (omega (arith, lt))
short-at (c ∷ cs) zero d lt h = h.0
short-at (c ∷ cs) (suc i) d lt h = short-at cs i d (omega (arith, lt)) h.1

pub good-at : (ps : List Plan) (i : ℕ) (x : Plan) → i < length ps → x ≡ get_or ps i x → IsTrue (are_plans ps) → IsTrue (is_plan x)
good-at [] i x lt is h = absurd (omega (arith, lt))
good-at (p ∷ ps) zero x lt is h = subst (λ (q : Plan). IsTrue (is_plan q)) (sym is) (and_parts (is_plan p) (are_plans ps) h).0
good-at (p ∷ ps) (suc i) x lt is h = good-at ps i x (omega (arith, lt)) is (and_parts (is_plan p) (are_plans ps) h).1

pub all-next : (one : Reader) (cs : List (Bor (List ℕ))) (i : ℕ) (d : Bor (List ℕ)) → i < length cs → read_all one (slices (drop i cs)) ≡ read_all one ((get_or cs i d).now ∷ slices (drop (i + 1) cs))
all-next one cs i d lt = ap (λ (xs : List (Bor (List ℕ))). read_all one (slices xs)) (drop_more cs i d lt)

pub each-next : (one : Shape → Reader) (ps : List Plan) (cs : List (Bor (List ℕ))) (i : ℕ) (p : Plan) (d : Bor (List ℕ)) → i < length ps → i < length cs → p ≡ get_or ps i p →
    read_each one (plan_shapes (drop i ps)) (slices (drop i cs)) ≡ read_each one (shape (plan_shape p) (plan_shapes (drop (i + 1) ps))) ((get_or cs i d).now ∷ slices (drop (i + 1) cs))
each-next one ps cs i p d here there is =
    ap₂ (λ (qs : List Plan) (xs : List (Bor (List ℕ))). read_each one (plan_shapes qs) (slices xs))
    (drop_more ps i p here ∙ ap (λ (q : Plan). q ∷ drop (i + 1) ps) (sym is)) (drop_more cs i d there)

-- another number of children than of members
none-after : (one : Shape → Reader) (t : Shape) (ts : Shapes) (c : List ℕ) (cs : List (List ℕ)) → read_each one ts cs ≡ None → read_each one (shape t ts) (c ∷ cs) ≡ None
none-after one t ts c cs none = by (one t c)
  where
    by : (o : Option Tree) → option_and_then (λ v. option_map (tree v) (read_each one ts cs)) o ≡ None
    by None = refl
    by (Some v) = ap (option_map (tree v)) none

pub each-count : (one : Shape → Reader) (ps : List Plan) (cs : List (Bor (List ℕ))) → (length ps ≡ length cs → ⊥) → read_each one (plan_shapes ps) (slices cs) ≡ None
each-count one [] [] h = absurd (h refl)
each-count one [] (c ∷ cs) h = refl
each-count one (p ∷ ps) [] h = refl
each-count one (p ∷ ps) (c ∷ cs) h = none-after one (plan_shape p) (plan_shapes ps) c.now (slices cs) (each-count one ps cs (λ e. h (ap suc e)))

-- at the end

pub all-ended : (one : Reader) (cs : List (Bor (List ℕ))) (i : ℕ) → length cs ≤ i → read_all one (slices (drop i cs)) ≡ Some no_trees
all-ended one cs i le = ap (λ (xs : List (Bor (List ℕ))). read_all one (slices xs)) (drop_all i cs le)

pub each-ended : (one : Shape → Reader) (ps : List Plan) (cs : List (Bor (List ℕ))) (i : ℕ) → length ps ≤ i → length cs ≤ i → read_each one (plan_shapes (drop i ps)) (slices (drop i cs)) ≡ Some no_trees
each-ended one ps cs i here there = ap₂ (λ (qs : List Plan) (xs : List (Bor (List ℕ))). read_each one (plan_shapes qs) (slices xs)) (drop_all i ps here) (drop_all i cs there)
