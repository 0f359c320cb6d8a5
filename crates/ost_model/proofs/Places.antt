-- Places of an order, and what keeps an order the same.
use Rattle.std.proofs.Common.{◌≡◌, inl, inr, ℕ, zero, suc, List, [], ◌∷◌, ◌++◌, Bool, true, false, leb, Option, Some, None, refl, sym, ◌∙◌, ap, subst}
use Rattle.std.specs.Option.{option_or}
use Rattle.std.specs.Prelude.{if◌then◌else◌}
use Rattle.ost_model.specs.Fields.{DirRow, CommitView, TreeView}
use Rattle.ost_model.specs.Readers.{tree_of, commit_of}
use Rattle.ost_model.specs.Objects.{Have, Fault, too_many, too_deep, object_fault}
use Rattle.ost_model.specs.Order.{Place, In, each_in, inside, dir_places, file_places, tree_place, meta_place, read_as, tree_at, commit_at, below_commit, root_row, commit_place, order, limited, place_fault, found_at, first_of, first_fault, Agree}
use Rattle.ost_model.proofs.Members.{in_left, in_right}

pub in_each : {A B : Type 0} (f : A → List B) (xs : List A) (x : A) (b : B) → In xs x → In (f x) b → In (each_in f xs) b
in_each f [] x b h k = absurd h
in_each f (y ∷ xs) x b (inl e) k = in_left (f y) (each_in f xs) b (subst (λ z. In (f z) b) (sym e) k)
in_each f (y ∷ xs) x b (inr h) k = in_right (f y) (each_in f xs) b (in_each f xs x b h k)

pub each_same : {A B : Type 0} (f g : A → List B) (xs : List A) → ((x : A) → In xs x → g x ≡ f x) → each_in g xs ≡ each_in f xs
each_same f g [] same = refl
each_same f g (x ∷ xs) same = ap (λ l. l ++ each_in g xs) (same x (inl refl)) ∙ ap (λ l. f x ++ l) (each_same f g xs (λ y h. same y (inr h)))

inside_same : (i j : Have) (f g : DirRow → List Place) → ((d : DirRow) → Agree i j (f d) → g d ≡ f d) → (depth : ℕ) (v : Option TreeView) → Agree i j (inside f depth v) → inside g depth v ≡ inside f depth v
inside_same i j f g step depth None all = refl
inside_same i j f g step depth (Some v) all = ap (λ l. file_places depth v.files ++ l) (each_same f g v.dirs
    (λ d h. step d (λ p k. all p (in_right (file_places depth v.files) (each_in f v.dirs) p (in_each f v.dirs d p h k)))))

pub dirs_same : (i j : Have) (fuel depth : ℕ) (e : DirRow) → Agree i j (dir_places i fuel depth e) → dir_places j fuel depth e ≡ dir_places i fuel depth e
dirs_same i j zero depth e agree = refl
dirs_same i j (suc fuel) depth e agree =
    let same : tree_at j e.tree ≡ tree_at i e.tree = ap (read_as tree_of) (agree (tree_place depth e) (inl refl)) in
    ap (λ l. tree_place depth e ∷ meta_place depth e ∷ l) (ap (inside (dir_places j fuel (suc depth)) depth) same
    ∙ inside_same i j (dir_places i fuel (suc depth)) (dir_places j fuel (suc depth)) (λ d all. dirs_same i j fuel (suc depth) d all) depth (tree_at i e.tree) (λ p h. agree p (inr (inr h))))

pub order_same : (i j : Have) (commit : List ℕ) → Agree i j (order i commit) → order j commit ≡ order i commit
order_same i j commit agree = ap (λ l. commit_place commit ∷ l) (ap (below_commit j) (ap (read_as commit_of) (agree (commit_place commit) (inl refl))) ∙ go (commit_at i commit) (λ p h. agree p (inr h)))
  where
    go : (c : Option CommitView) → Agree i j (below_commit i c) → below_commit j c ≡ below_commit i c
    go None all = refl
    go (Some c) all = dirs_same i j 65 0 (root_row c) all

pub faults_same : (i j : Have) (n : ℕ) (ps : List Place) → Agree i j ps → first_of (place_fault j) n ps ≡ first_of (place_fault i) n ps
faults_same i j n [] agree = refl
faults_same i j n (p ∷ ps) agree =
    ap (λ t. option_or (found_at p (limited n p (object_fault p.digest p.kind t))) (first_of (place_fault j) (suc n) ps)) (agree p (inl refl))
    ∙ ap (option_or (found_at p (place_fault i n p))) (faults_same i j (suc n) ps (λ q h. agree q (inr h)))

pub first_same : (i j : Have) (commit : List ℕ) → Agree i j (order i commit) → first_fault j commit ≡ first_fault i commit
first_same i j commit agree = ap (first_of (place_fault j) 0) (order_same i j commit agree) ∙ faults_same i j 0 (order i commit) agree

pub or_none : {A : Type 0} (a b : Option A) → option_or a b ≡ None → (a ≡ None) × (b ≡ None)
or_none None b e = (refl, e)
or_none (Some a) b e = absurd (cc e)

if_none : {A : Type 0} (b : Bool) (x : A) (r : Option A) → if b then Some x else r ≡ None → (b ≡ false) × (r ≡ None)
if_none true x r e = absurd (cc e)
if_none false x r e = (refl, e)

pub found_none : (p : Place) (f : Option Fault) → found_at p f ≡ None → f ≡ None
found_none p None e = refl
found_none p (Some f) e = absurd (cc e)

-- where no place has a fault, each place is within the depth and has its object
pub faultless : (have : Have) (n : ℕ) (ps : List Place) → first_of (place_fault have) n ps ≡ None → (p : Place) → In ps p → (leb 65 p.depth ≡ false) × (object_fault p.digest p.kind (have p.digest p.kind) ≡ None)
faultless have n [] none p h = absurd h
faultless have n (q ∷ ps) none p (inl e) =
    let here = found_none q (place_fault have n q) (or_none (found_at q (place_fault have n q)) (first_of (place_fault have) (suc n) ps) none).0 in
    let inner = (if_none (leb 200000 n) too_many _ here).1 in
    subst (λ (r : Place). (leb 65 r.depth ≡ false) × (object_fault r.digest r.kind (have r.digest r.kind) ≡ None)) e (if_none (leb 65 q.depth) too_deep _ inner)
faultless have n (q ∷ ps) none p (inr h) = faultless have (suc n) ps (or_none (found_at q (place_fault have n q)) (first_of (place_fault have) (suc n) ps) none).1 p h
