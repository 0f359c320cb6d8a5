-- What a plan says of the type, and what is read of each form of type.
use Rattle.std.proofs.Common.{◌≡◌, ℕ, zero, suc, ◌-◌, ◌%◌, ◌<◌, true, List, [], ◌∷◌, length, map, Option, Some, None, option_map, option_and_then, Result, Ok, Err, IsErrAnd, refl, sym, ap, ap₂, ◌∙◌, subst, arith, IsTrue, Vec, Box, Global}
use Rattle.std.specs.List.{concat}
use Rattle.std.proofs.lemmas.Bool.{true≢false}
use Rattle.gv_value.specs.declared.basic.Basic.{Basic}
use Rattle.gv_value.specs.declared.basic.Basic.TheVariants as basics
use Rattle.gv_value.specs.declared.extent.Extent.{Extent}
use Rattle.gv_value.specs.declared.plan.Plan.{Plan, Plan-F, fold-roll-Plan}
use Rattle.gv_value.specs.declared.plan.Plan.TheVariants as plans
use Rattle.gv_value.specs.declared.value.GvValue.{GvValue}
use Rattle.gv_value.specs.declared.value.GvValue.TheVariants as values
use Rattle.gv_value.specs.Bytes.{AllBelow}
use Rattle.gv_value.specs.Capped.{capped, capped_size}
use Rattle.gv_value.specs.Framing.{tuple_children, array_children}
use Rattle.gv_value.specs.Layout.{align_of, size_of}
use Rattle.gv_value.specs.Plans.{Seen, seen, seen_step, seen_entry, seen_shapes, plan_shape, is_plan, plan_shapes}
use Rattle.gv_value.specs.Reading.{read_all, read_each, as_entry, value_at, maybe_at}
use Rattle.gv_value.specs.Shape.{Shape, Shapes, no_shapes, shape}
use Rattle.gv_value.specs.Spelled.{two_shapes, SpelledWithin, AllSpelled}
use Rattle.gv_value.specs.Tree.{Content, Tree, Trees, no_trees, tree, byte_trees}
use Rattle.gv_value.specs.Views.{plain, plains}
use Rattle.gv_value.proofs.Laws.{value_at-spelled}
use Rattle.gv_value.proofs.Lists.{then_some, map_some}
use Rattle.gv_value.proofs.Planned.{seen-Tuple, seen-Entry}
use Rattle.gv_value.proofs.Seen.{plain-Tuple, plain-Bytes}
use Rattle.gv_decode.specs.declared.error.DecodeError.{DecodeError}
use Rattle.gv_decode.specs.Decoded.{Fails, Gives, child_bytes}
use Rattle.gv_decode.proofs.Runs.{fails-more}

-- an error that is handed on
pub gives-err : {X Y : Type 0} (view : X → Y) (r : Result X DecodeError) (e : DecodeError) (read : Option Y) → IsErrAnd r (λ x. x ≡ e) → Fails e read → Gives view r read
gives-err view (Ok x) e read h f = absurd h
gives-err view (Err x) e read h f = subst (λ (y : DecodeError). Fails y read) (sym h) f

pub gives-same : {X Y : Type 0} (view : X → Y) (r : Result X DecodeError) (a b : Option Y) → a ≡ b → Gives view r a → Gives view r b
gives-same view r a b e g = subst (λ (o : Option _). Gives view r o) e g

-- what is read where a plan's type is known and there is room
pub in-room : (room : ℕ) (p : Plan) (t : Shape) (bytes : List ℕ) → (room ≡ 0 → ⊥) → plan_shape p ≡ t → value_at (suc (room - 1)) t bytes ≡ value_at room (plan_shape p) bytes
in-room zero p t bytes ne e = absurd (ne refl)
in-room (suc n) p t bytes ne e = let less : suc n - 1 ≡ n = omega arith in ap₂ (λ (m : ℕ) (s : Shape). value_at (suc m) s bytes) less (sym e)

-- ---- the types of plans

pub shape-Basic : (b : Basic) → plan_shape (plans.Basic b) ≡ Shape.basic b
shape-Basic b = ap (λ (s : Seen). s.shape) (ap seen (sym (plans.rolls-Basic b)) ∙ fold-roll-Plan Seen seen_step (Plan-F.Basic b))

pub shape-Array : (e : Extent) (p : Box Plan Global) → plan_shape (plans.Array e p) ≡ Shape.array (plan_shape p.value)
shape-Array e p = ap (λ (s : Seen). s.shape) (ap seen (sym (plans.rolls-Array e p)) ∙ fold-roll-Plan Seen seen_step (Plan-F.Array e p))

pub shape-Tuple : (e : Extent) (ps : Vec Plan Global) → plan_shape (plans.Tuple e ps) ≡ Shape.tuple (plan_shapes ps.items)
shape-Tuple e ps = ap (λ (s : Seen). s.shape) (seen-Tuple e ps)

-- ---- tuples

pub tuple-read : (n : ℕ) (ts : Shapes) (bytes : List ℕ) (members : Vec GvValue Global) →
    option_and_then (read_each (value_at n) ts) (tuple_children (size_of (Shape.tuple ts)) ts bytes) ≡ Some (plains members.items) → value_at (suc n) (Shape.tuple ts) bytes ≡ Some (plain (values.Tuple members))
tuple-read n ts bytes members e = ap (option_map Tree.tuple) e ∙ ap (λ (v : Tree). Some v) (sym (plain-Tuple members))

pub tuple-fails : (e : DecodeError) (n : ℕ) (ts : Shapes) (bytes : List ℕ) → Fails e (option_and_then (read_each (value_at n) ts) (tuple_children (size_of (Shape.tuple ts)) ts bytes)) → Fails e (value_at (suc n) (Shape.tuple ts) bytes)
tuple-fails e n ts bytes f = fails-more e _ _ (λ none. ap (option_map Tree.tuple) none) f

-- ---- dictionary entries

pub record EntryIs (e : Extent) (ps : Vec Plan Global) : Type 0 where
  pub key : Shape
  pub value : Shape
  pub is : plan_shape (plans.Entry e ps) ≡ Shape.entry key value
  pub shapes : plan_shapes ps.items ≡ two_shapes key value

entry-seen : (e : Extent) (ss : List Seen) → (seen_entry e ss).good ≡ true → (k : Seen) × (w : Seen) × (ss ≡ k ∷ w ∷ [])
entry-seen e [] h = absurd (true≢false (sym h))
entry-seen e (a ∷ []) h = absurd (true≢false (sym h))
entry-seen e (a ∷ b ∷ []) h = (a, b, refl)
entry-seen e (a ∷ b ∷ c ∷ ss) h = absurd (true≢false (sym h))

pub entry-is : (e : Extent) (ps : Vec Plan Global) → IsTrue (is_plan (plans.Entry e ps)) → EntryIs e ps
entry-is e ps h =
    let found = entry-seen e (map seen ps.items) (sym (ap (λ (s : Seen). s.good) (seen-Entry e ps)) ∙ h) in
    record {
      key = found.0.shape;
      value = found.1.shape;
      is = ap (λ (s : Seen). s.shape) (seen-Entry e ps ∙ ap (seen_entry e) found.2);
      shapes = ap seen_shapes found.2;
    }

abbrev pub members_at : ℕ → Shapes → List ℕ → Option Trees
members_at n ts bytes = option_and_then (read_each (value_at n) ts) (tuple_children (size_of (Shape.tuple ts)) ts bytes)

pub entry-read : (r : Result GvValue DecodeError) (n : ℕ) (k w : Shape) (bytes : List ℕ) (members : Trees) → members_at n (two_shapes k w) bytes ≡ Some members →
    Gives plain r (as_entry members) → Gives plain r (value_at (suc n) (Shape.entry k w) bytes)
entry-read r n k w bytes members e g = gives-same plain r (as_entry members) (value_at (suc n) (Shape.entry k w) bytes) (sym (ap (option_and_then as_entry) e)) g

pub entry-fails : (e : DecodeError) (n : ℕ) (k w : Shape) (bytes : List ℕ) → Fails e (members_at n (two_shapes k w) bytes) → Fails e (value_at (suc n) (Shape.entry k w) bytes)
entry-fails e n k w bytes f = fails-more e (members_at n (two_shapes k w) bytes) (value_at (suc n) (Shape.entry k w) bytes) (λ none. ap (option_and_then as_entry) none) f

each-some : (one : Shape → List ℕ → Option Tree) (t : Shape) (ts : Shapes) (cs : List (List ℕ)) (vs : Trees) → read_each one (shape t ts) cs ≡ Some vs →
    (a : Tree) × (us : Trees) × (ds : List (List ℕ)) × (vs ≡ tree a us) × (read_each one ts ds ≡ Some us)
each-some one t ts [] vs e = absurd cc
each-some one t ts (c ∷ ds) vs e =
    let x = then_some (λ v. option_map (tree v) (read_each one ts ds)) (one t c) vs e in
    let y = map_some (tree x.0) (read_each one ts ds) vs x.2 in
    (x.0, y.0, ds, sym y.2, y.1)

each-none : (one : Shape → List ℕ → Option Tree) (cs : List (List ℕ)) (vs : Trees) → read_each one no_shapes cs ≡ Some vs → vs ≡ no_trees
each-none one [] vs e = cc
each-none one (c ∷ cs) vs e = absurd cc

two-long : (vs : List GvValue) (a b : Tree) → plains vs ≡ tree a (tree b no_trees) → length vs ≡ 2
two-long [] a b e = absurd cc
two-long (x ∷ []) a b e = absurd cc
two-long (x ∷ y ∷ []) a b e = refl
two-long (x ∷ y ∷ z ∷ vs) a b e = absurd cc

-- a key and a value are two
pub two-read : (n : ℕ) (k w : Shape) (bytes : List ℕ) (vs : List GvValue) → members_at n (two_shapes k w) bytes ≡ Some (plains vs) → length vs ≡ 2
two-read n k w bytes vs e =
    let one = value_at n in
    let c = then_some (read_each one (two_shapes k w)) (tuple_children (size_of (Shape.tuple (two_shapes k w))) (two_shapes k w) bytes) (plains vs) e in
    let first = each-some one k (shape w no_shapes) c.0 (plains vs) c.2 in
    let second = each-some one w no_shapes first.2 first.1 first.4 in
    let none = each-none one second.2 second.1 second.4 in
    two-long vs first.0 second.0 (first.3 ∙ ap (tree first.0) (second.3 ∙ ap (tree second.0) none))

-- ---- arrays of bytes

singles : List ℕ → List (List ℕ)
singles [] = []
singles (b ∷ bytes) = (b ∷ []) ∷ singles bytes

singles-joined : (bytes : List ℕ) → bytes ≡ concat (singles bytes)
unfolding singles
singles-joined [] = refl
singles-joined (b ∷ bytes) = ap (λ (xs : List ℕ). b ∷ xs) (singles-joined bytes)

byte-spelled : (n b : ℕ) → b < 256 → SpelledWithin n (Shape.basic basics.Byte) (Tree.leaf basics.Byte (Content.number b)) (b ∷ [])
byte-spelled zero b h = let same : b ≡ b % 256 = omega arith in (refl, (h, ap (λ (x : ℕ). x ∷ []) same))
byte-spelled (suc n) b h = let same : b ≡ b % 256 = omega arith in (refl, (h, ap (λ (x : ℕ). x ∷ []) same))

singles-spelled : (n : ℕ) (bytes : List ℕ) → AllBelow 256 bytes → AllSpelled (SpelledWithin n (Shape.basic basics.Byte)) (byte_trees bytes) (singles bytes)
unfolding singles
singles-spelled n [] h = tt
singles-spelled n (b ∷ bytes) h = (byte-spelled n b h.0, singles-spelled n bytes h.1)

-- bytes are an array of bytes
pub byte_array-read : (n : ℕ) (bytes : List ℕ) → AllBelow 256 bytes → value_at (suc n) (Shape.array (Shape.basic basics.Byte)) bytes ≡ Some (Tree.array (byte_trees bytes))
byte_array-read n bytes h =
    value_at-spelled (suc n) (Shape.array (Shape.basic basics.Byte)) (Tree.array (byte_trees bytes)) bytes (singles bytes, singles-spelled n bytes h, singles-joined bytes)

pub bytes-read : (n : ℕ) (p : Plan) (bytes : List ℕ) → AllBelow 256 bytes → plan_shape p ≡ Shape.basic basics.Byte →
    option_map Tree.array (option_and_then (read_all (value_at n (plan_shape p))) (array_children (align_of (plan_shape p)) (size_of (plan_shape p)) bytes)) ≡ Some (plain (values.Bytes bytes))
bytes-read n p bytes h is =
    ap (λ (t : Shape). value_at (suc n) (Shape.array t) bytes) is ∙ byte_array-read n bytes h ∙ ap (λ (v : Tree). Some v) (sym (plain-Bytes bytes))

-- ---- maybes

pub maybe-read : (one : List ℕ → Option Tree) (o : Option ℕ) (bytes inside : List ℕ) (v : Tree) → (length bytes ≡ 0 → ⊥) → child_bytes o bytes ≡ Some inside → one inside ≡ Some v → maybe_at one o bytes ≡ Some (Tree.just v)
maybe-read one o [] inside v some e read = absurd (some refl)
maybe-read one (Some size) (b ∷ bytes) inside v some e read = let same : b ∷ bytes ≡ inside = cc in ap (option_map Tree.just) (ap one same ∙ read)
maybe-read one None (b ∷ bytes) inside v some e read = ap (option_map Tree.just) (ap (option_and_then one) e ∙ read)

-- ---- a size that stands for larger ones

pub capped-some : (o : Option ℕ) (size : ℕ) → capped_size o ≡ Some size → (n : ℕ) × (o ≡ Some n) × (size ≡ capped n)
capped-some None size e = absurd cc
capped-some (Some n) size e = (n, refl, cc)
