-- How many objects come with a directory, as directories are written from the deepest to the root.
use Rattle.std.proofs.Common.{◌≡◌, ◌≢◌, ◌⊎◌, inl, inr, ◌<◌, ◌≤◌, ◌+◌, ◌*◌, ℕ, zero, suc, List, [], ◌∷◌, ◌++◌, length, length-append, get_or, drop, Some, refl, sym, ◌∙◌, ap, subst, arith}
use Rattle.std.specs.Prelude.{slice_set}
use Rattle.std.specs.List.{AllByRecursion}
use Rattle.std.proofs.lemmas.List.{length-set, get_or-set_same, get_or-set_other}
use Rattle.fp_host.specs.Paths.{Elements}
use Rattle.ost_model.specs.declared.limits.TheConstants.{MOST_OBJECTS}
use Rattle.ost_commit.specs.declared.row.TreeRow.{TreeRow}
use Rattle.ost_commit.specs.declared.tree.Child.{Child}
use Rattle.ost_commit.specs.declared.tree.Child.TheVariants as child
use Rattle.ost_commit.specs.declared.tree.Folder.{Folder}
use Rattle.ost_commit.specs.declared.directories.Done.{Done}
use Rattle.ost_commit.specs.Rows.{Said}
use Rattle.ost_commit.specs.Folders.{At, child_in, Gathers, names_in, AreFew}
use Rattle.ost_commit.specs.Trees.{done_at, child_places, places_in}
use Rattle.ost_commit.proofs.Places.{at_within, at_one}
use Rattle.ost_commit.proofs.Gathering.{num_cases}
use Rattle.ost_commit.proofs.Keys.{AreDistinct, value_at, here, later, known_apart, at_keys}
use Rattle.ost_commit.proofs.Written.{set_here, set_other}

-- ---- numbers in a list

abbrev total : List ℕ → ℕ
total [] = 0
total (n ∷ ns) = n + total ns

set_total : (ns : List ℕ) (i n : ℕ) → i < length ns → total (slice_set ns i n) + get_or ns i 0 ≡ total ns + n
set_total [] i n low = absurd (omega (arith, low))
set_total (m ∷ ns) zero n low = omega arith
set_total (m ∷ ns) (suc i) n low = let more = set_total ns i n (omega (arith, low)) in omega (arith, more)

abbrev none_for : List Folder → List ℕ
none_for [] = []
none_for (f ∷ fs) = 0 ∷ none_for fs

none_total : (fs : List Folder) → total (none_for fs) ≡ 0
none_total [] = refl
none_total (f ∷ fs) = let none = none_total fs in omega (arith, none)

none_long : (fs : List Folder) → length (none_for fs) ≡ length fs
none_long [] = refl
none_long (f ∷ fs) = ap suc (none_long fs)

-- ---- the directories among entries

abbrev without : Child → List ℕ → List ℕ
without (child.Content k) ns = ns
without (child.Folder j) ns = slice_set ns j 0

-- the numbers, with none left at the places of these directories
abbrev spent : List (List ℕ × Child) → List ℕ → List ℕ
spent [] ns = ns
spent (e ∷ es) ns = spent es (without e.1 ns)

abbrev IsHeld : List Done → List ℕ → Child → Type 0
IsHeld ds ns (child.Content k) = Unit {0}
IsHeld ds ns (child.Folder j) = (j < length ns) × ((done_at ds j).places ≤ get_or ns j 0)

abbrev AreHeld : List Done → List ℕ → List (List ℕ × Child) → Type 0
AreHeld ds ns es = AllByRecursion (λ e. IsHeld ds ns e.1) es

abbrev AreOthers : ℕ → List (List ℕ × Child) → Type 0
AreOthers j es = AllByRecursion (λ e. e.1 ≢ child.Folder j) es

abbrev IsAlone : Child → List (List ℕ × Child) → Type 0
IsAlone (child.Content k) es = Unit {0}
IsAlone (child.Folder j) es = AreOthers j es

-- no directory is there twice
abbrev AreAlone : List (List ℕ × Child) → Type 0
AreAlone [] = Unit {0}
AreAlone (e ∷ es) = IsAlone e.1 es × AreAlone es

held_set : (ds : List Done) (ns : List ℕ) (j : ℕ) (es : List (List ℕ × Child)) → AreHeld ds ns es → AreOthers j es → AreHeld ds (slice_set ns j 0) es
held_set ds ns j [] held others = tt
held_set ds ns j (e ∷ es) held others = (go e.1 held.0 others.0, held_set ds ns j es held.1 others.1)
  where
    go : (c : Child) → IsHeld ds ns c → c ≢ child.Folder j → IsHeld ds (slice_set ns j 0) c
    go (child.Content k) h apart = tt
    go (child.Folder i) h apart =
        let other : i ≢ j = λ (e : i ≡ j). apart (ap (λ (n : ℕ). child.Folder n) e) in
        let same = get_or-set_other ns j i 0 0 other in
        let long = length-set ns j 0 in
        (omega (arith, h.0, long), omega (arith, h.1, same))

spent_places : (ds : List Done) (es : List (List ℕ × Child)) (ns : List ℕ) → AreHeld ds ns es → AreAlone es → places_in ds es + total (spent es ns) ≤ length es + total ns
spent_places ds [] ns held alone = omega arith
spent_places ds (e ∷ es) ns held alone = go e.1 held.0 alone.0 (λ ms h. spent_places ds es ms h alone.1)
  where
    go : (c : Child) → IsHeld ds ns c → IsAlone c es → ((ms : List ℕ) → AreHeld ds ms es → places_in ds es + total (spent es ms) ≤ length es + total ms)
        → (child_places ds c + places_in ds es) + total (spent es (without c ns)) ≤ length (e ∷ es) + total ns
    go (child.Content k) h others rest = let more = rest ns held.1 in omega (arith, more)
    go (child.Folder j) h others rest =
        let more = rest (slice_set ns j 0) (held_set ds ns j es held.1 others) in
        let set = set_total ns j 0 h.0 in
        let few = h.1 in
        omega (arith, more, set, few)

spent_long : (es : List (List ℕ × Child)) (ns : List ℕ) → length (spent es ns) ≡ length ns
spent_long [] ns = refl
spent_long (e ∷ es) ns = spent_long es (without e.1 ns) ∙ go e.1
  where
    go : (c : Child) → length (without c ns) ≡ length ns
    go (child.Content k) = refl
    go (child.Folder j) = length-set ns j 0

spent_other : (es : List (List ℕ × Child)) (ns : List ℕ) (j : ℕ) → AreOthers j es → get_or (spent es ns) j 0 ≡ get_or ns j 0
spent_other [] ns j others = refl
spent_other (e ∷ es) ns j others = spent_other es (without e.1 ns) j others.1 ∙ go e.1 others.0
  where
    go : (c : Child) → c ≢ child.Folder j → get_or (without c ns) j 0 ≡ get_or ns j 0
    go (child.Content k) apart = refl
    go (child.Folder i) apart = get_or-set_other ns i j 0 0 (λ (e : j ≡ i). apart (ap (λ (n : ℕ). child.Folder n) (sym e)))

-- where two names of one directory are one name, none is there twice
all_alone : (es : List (List ℕ × Child)) → AreDistinct es → ((x y : List ℕ) (j : ℕ) → value_at es x ≡ Some (child.Folder j) → value_at es y ≡ Some (child.Folder j) → x ≡ y) → AreAlone es
all_alone [] d one = tt
all_alone (e ∷ es) d one = (go e.1 refl, all_alone es d.1 (λ x y j h k. one x y j (up x (child.Folder j) h) (up y (child.Folder j) k)))
  where
    up : (x : List ℕ) (c : Child) → value_at es x ≡ Some c → value_at (e ∷ es) x ≡ Some c
    up x c is = later x e.0 e.1 es (known_apart e.0 es d.0 x c is) ∙ is

    go : (c : Child) → e.1 ≡ c → IsAlone c es
    go (child.Content k) is = tt
    go (child.Folder j) is = at_keys (λ (f : List ℕ × Child). f.1 ≢ child.Folder j) es d.1
        (λ y c at same. known_apart e.0 es d.0 y c at (one e.0 y j (here e.0 e.1 es ∙ ap (λ (o : Child). Some o) is) (up y c at ∙ ap (λ (o : Child). Some o) same)))

-- ---- one directory after another

abbrev weight : List Folder → ℕ
weight fs = names_in fs + 2 * length fs

drop_weight : (fs : List Folder) (n : ℕ) (f : Folder) → At fs n f → weight (drop n fs) ≡ length f.children.entries + 2 + weight (drop (suc n) fs)
drop_weight [] n f at = absurd at
drop_weight (g ∷ fs) zero f at = let same = ap (λ (h : Folder). length h.children.entries) at in omega (arith, same)
drop_weight (g ∷ fs) (suc n) f at = drop_weight fs n f at

weight_less : (fs : List Folder) (n : ℕ) → weight (drop n fs) ≤ weight fs
weight_less [] zero = omega arith
weight_less [] (suc n) = omega arith
weight_less (f ∷ fs) zero = omega arith
weight_less (f ∷ fs) (suc n) = let less = weight_less fs n in omega (arith, less)

pub popped_long : (before after : List Folder) (f : Folder) → before ≡ after ++ f ∷ [] → length before ≡ suc (length after)
popped_long before after f is = ap length is ∙ (let both = length-append after (f ∷ []) in omega (arith, both))

-- For each directory from this place on that stands in one before it, its objects are counted among those that are left.
pub record HasRoom (folders : List Folder) (ds : List Done) (n : ℕ) : Type 0 where
  pub left : List ℕ
  pub long : length left ≡ length folders
  pub few : total left ≤ weight (drop n folders)
  pub holds : (i : ℕ) (f : Folder) (x : List ℕ) (j : ℕ) → At folders i f → i < n → child_in f.children.entries x ≡ Some (child.Folder j) → n ≤ j → (done_at ds j).places ≤ get_or left j 0

module _ (rows : List TreeRow) (said : Elements → Said) (folders : List Folder) (gathers : Gathers rows said folders) where
  pub room_first : (ds : List Done) (n : ℕ) → length folders ≤ n → HasRoom folders ds n
  room_first ds n all = record {
    left = none_for folders;
    long = none_long folders;
    few = let none = none_total folders in omega (arith, none);
    holds = λ i f x j at low is high. let b = gathers.below i f x j at is in absurd (omega (arith, at_within folders j b.1.0 b.1.1, all, high));
  }

  -- two names of one directory are one
  one_name : (i n : ℕ) (g f : Folder) (x y : List ℕ) (j : ℕ) → At folders i g → At folders n f → child_in g.children.entries x ≡ Some (child.Folder j) → child_in f.children.entries y ≡ Some (child.Folder j)
      → x ∷ g.path ≡ y ∷ f.path
  one_name i n g f x y j at_i at_n is_x is_y =
      let b = gathers.below i g x j at_i is_x in
      let d = gathers.below n f y j at_n is_y in
      sym b.1.2 ∙ (ap (λ (h : Folder). h.path) (at_one folders j b.1.0 d.1.0 b.1.1 d.1.1) ∙ d.1.2)

  heads : (x y : List ℕ) (p q : Elements) → x ∷ p ≡ y ∷ q → (x ≡ y) × (p ≡ q)
  heads x y p q e = (cc, cc)

  module _ (ds : List Done) (n : ℕ) (f : Folder) (at : At folders n f) (distinct : AreDistinct f.children.entries) (room : HasRoom folders ds (suc n)) where
    held : AreHeld ds room.left f.children.entries
    held = at_keys (λ e. IsHeld ds room.left e.1) f.children.entries distinct go
      where
        go : (x : List ℕ) (c : Child) → value_at f.children.entries x ≡ Some c → IsHeld ds room.left c
        go x (child.Content k) is = tt
        go x (child.Folder j) is =
            let b = gathers.below n f x j at is in
            let within = at_within folders j b.1.0 b.1.1 in
            (omega (arith, within, room.long), room.holds n f x j at (omega arith) is (omega (arith, b.0)))

    alone : AreAlone f.children.entries
    alone = all_alone f.children.entries distinct (λ x y j h k. (heads x y f.path f.path (one_name n n f f x y j at at h k)).0)

    -- the objects of the directory, and those that are left without it
    pub places_left : places_in ds f.children.entries + total (spent f.children.entries room.left) ≤ length f.children.entries + weight (drop (suc n) folders)
    places_left = let spends = spent_places ds f.children.entries room.left held alone in let few = room.few in omega (arith, spends, few)

    -- there are fewer than 200,000
    pub places_few : AreFew folders → 2 + places_in ds f.children.entries < MOST_OBJECTS
    places_few few =
        let here = drop_weight folders n f at in
        let less = weight_less folders n in
        let names = few.names in
        let dirs = few.folders in
        omega (arith, places_left, here, less, names, dirs)

    pub room_next : (done : Done) → done.places ≡ 2 + places_in ds f.children.entries → length ds ≡ length folders → HasRoom folders (slice_set ds n done) n
    room_next done is many = record {
      left = slice_set (spent f.children.entries room.left) n done.places;
      long = length-set (spent f.children.entries room.left) n done.places ∙ (spent_long f.children.entries room.left ∙ room.long);
      few = let set = set_total (spent f.children.entries room.left) n done.places inside in let here = drop_weight folders n f at in omega (arith, set, here, places_left, is);
      holds = λ i g x j at_i low is_x high. go i g x j at_i low is_x high (num_cases j n);
    }
      where
        within : n < length folders
        within = at_within folders n f at

        inside : n < length (spent f.children.entries room.left)
        inside = let kept = spent_long f.children.entries room.left in let long = room.long in omega (arith, within, kept, long)

        go : (i : ℕ) (g : Folder) (x : List ℕ) (j : ℕ) → At folders i g → i < n → child_in g.children.entries x ≡ Some (child.Folder j) → n ≤ j → (j ≡ n) ⊎ (j ≢ n)
            → (done_at (slice_set ds n done) j).places ≤ get_or (slice_set (spent f.children.entries room.left) n done.places) j 0
        go i g x j at_i low is_x high (inl e) =
            let here = get_or-set_same (spent f.children.entries room.left) n done.places 0 inside in
            let placed = ap (λ (d : Done). d.places) (set_here ds n done (omega (arith, within, many))) in
            omega (arith, here, placed, ap (λ (m : ℕ). (done_at (slice_set ds n done) m).places) e, ap (λ (m : ℕ). get_or (slice_set (spent f.children.entries room.left) n done.places) m 0) e)
        go i g x j at_i low is_x high (inr apart) =
            let others : AreOthers j f.children.entries = at_keys (λ (e : List ℕ × Child). e.1 ≢ child.Folder j) f.children.entries distinct
            (λ y c is_y same. let paths = (heads x y g.path f.path (one_name i n g f x y j at_i at is_x (is_y ∙ ap (λ (o : Child). Some o) same))).1 in absurd (omega (arith, gathers.apart i n g f at_i at paths, low))) in
            let before = room.holds i g x j at_i (omega (arith, low)) is_x (omega (arith, high, apart)) in
            let kept = spent_other f.children.entries room.left j others in
            let placed = ap (λ (d : Done). d.places) (set_other ds n done j apart) in
            let left = get_or-set_other (spent f.children.entries room.left) n j done.places 0 apart in
            omega (arith, before, kept, placed, left)
