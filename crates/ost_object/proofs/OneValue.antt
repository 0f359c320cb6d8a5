-- The value that says something is the only one of its type that says it.
use Rattle.std.proofs.Common.{◌≡◌, ℕ, ◌^◌, ◌<◌, Bool, true, false, ◌&&◌, nat_lt, List, [], ◌∷◌, Option, Some, None, refl, sym, ap, ◌∙◌, arith}
use Rattle.std.specs.Prelude.{option_map, option_and_then, if◌then◌else◌, ◌/◌}
use Rattle.std.specs.Int.{w32, w64, swap_bytes}
use Rattle.std.proofs.lemmas.Bool.{ltb-true, ne_eqb, eq-eqb}
use Rattle.gv_value.specs.declared.basic.Basic.TheVariants as basics
use Rattle.gv_value.specs.Shape.{Shape}
use Rattle.gv_value.specs.Tree.{Content, Tree, Trees, no_trees, tree, byte_trees}
use Rattle.gv_value.specs.Spelling.{fits_within, fits}
use Rattle.gv_value.proofs.Lists.{then_some, map_some}
use Rattle.ost_model.specs.Contents.{number_shape, attributes_shape}
use Rattle.ost_model.specs.Types.{meta_shape}
use Rattle.ost_model.specs.Fields.{MetaView, byte_in, text_in, number_in, time_in, items_in, bytes_in, each_of, are_none, meta_in, text_value}
use Rattle.fp_base.specs.declared.rule.Rule.{Rule}
use Rattle.fp_base.specs.declared.rule.Rule.TheVariants as rules
use Rattle.ost_model.specs.Readers.{meta_breaks}
use Rattle.ost_object.specs.Values.{number_value, time_value, bytes_value, each_value, meta_value}
use Rattle.ost_object.proofs.Written.{twice_4, twice_8}

abbrev number_leaf : ℕ → Tree
number_leaf n = Tree.leaf basics.Uint32 (Content.number n)

abbrev time_leaf : ℕ → Tree
time_leaf n = Tree.leaf basics.Uint64 (Content.number n)

abbrev byte_leaf : ℕ → Tree
byte_leaf n = Tree.leaf basics.Byte (Content.number n)

pub number_is : (v : Tree) (n : ℕ) → fits_within 63 number_shape v ≡ true → number_in v ≡ Some n → v ≡ number_value n
number_is (Tree.leaf basics.Uint32 (Content.number m)) n fit is =
    let same : swap_bytes w32 m ≡ n = cc is in
    let test : nat_lt m 4294967296 ≡ true = fit in
    let small : m < 2 ^ 32 = ltb-true m 4294967296 test in
    let turned : m ≡ swap_bytes w32 n = sym (twice_4 m small) ∙ ap (swap_bytes w32) same in
    ap number_leaf turned
number_is _ n fit is = absurd (cc is)

pub time_is : (v : Tree) (n : ℕ) → fits_within 63 (Shape.basic basics.Uint64) v ≡ true → time_in v ≡ Some n → v ≡ time_value n
time_is (Tree.leaf basics.Uint64 (Content.number m)) n fit is =
    let same : swap_bytes w64 m ≡ n = cc is in
    let test : nat_lt m 18446744073709551616 ≡ true = fit in
    let small : m < 2 ^ 64 = ltb-true m 18446744073709551616 test in
    let turned : m ≡ swap_bytes w64 n = sym (twice_8 m small) ∙ ap (swap_bytes w64) same in
    ap time_leaf turned
time_is _ n fit is = absurd (cc is)

pub text_is : (v : Tree) (text : List ℕ) → text_in v ≡ Some text → v ≡ text_value text
text_is (Tree.leaf basics.Str (Content.text found)) text is = let same : found ≡ text = cc is in ap text_value same
text_is _ text is = absurd (cc is)

pub items_are : (v : Tree) (vs : Trees) → items_in v ≡ Some vs → v ≡ Tree.array vs
items_are (Tree.array found) vs is = let same : found ≡ vs = cc is in ap (λ (x : Trees). Tree.array x) same
items_are _ vs is = absurd (cc is)

byte_is : (v : Tree) (b : ℕ) → byte_in v ≡ Some b → v ≡ byte_leaf b
byte_is (Tree.leaf basics.Byte (Content.number found)) b is = let same : found ≡ b = cc is in ap byte_leaf same
byte_is _ b is = absurd (cc is)

-- what is said of each of the values, where one value says one thing
pub each_are : {A : Type 0} (into : Tree → Option A) (one : A → Tree) → ((v : Tree) (a : A) → into v ≡ Some a → v ≡ one a)
    → (vs : Trees) (xs : List A) → each_of into vs ≡ Some xs → vs ≡ each_value one xs
each_are into one only no_trees [] is = refl
each_are into one only no_trees (x ∷ xs) is = absurd (cc is)
each_are {A = A} into one only (tree v vs) xs is =
    let first = then_some (λ (a : A). option_map (λ (others : List A). a ∷ others) (each_of into vs)) (into v) xs is in
    let rest = map_some (λ (others : List A). first.0 ∷ others) (each_of into vs) xs first.2 in
    ap (λ (w : Tree). tree w vs) (only v first.0 first.1) ∙ ap (λ (ws : Trees). tree (one first.0) ws) (each_are into one only vs rest.0 rest.1)
    ∙ ap (λ (ys : List A). each_value one ys) rest.2

-- and its values say it
pub each_says : {A : Type 0} (into : Tree → Option A) (one : A → Tree) → ((a : A) → into (one a) ≡ Some a)
    → (xs : List A) → each_of into (each_value one xs) ≡ Some xs
each_says into one says [] = refl
each_says {A = A} into one says (x ∷ xs) =
    ap (λ (o : Option A). option_and_then (λ (a : A). option_map (λ (others : List A). a ∷ others) (each_of into (each_value one xs))) o) (says x)
    ∙ ap (λ (o : Option (List A)). option_map (λ (others : List A). x ∷ others) o) (each_says into one says xs)

bytes_as_trees : (bytes : List ℕ) → each_value byte_leaf bytes ≡ byte_trees bytes
bytes_as_trees [] = refl
bytes_as_trees (b ∷ bytes) = ap (λ (ws : Trees). tree (byte_leaf b) ws) (bytes_as_trees bytes)

pub bytes_are : (v : Tree) (bytes : List ℕ) → bytes_in v ≡ Some bytes → v ≡ bytes_value bytes
bytes_are v bytes is =
    let items = then_some (each_of byte_in) (items_in v) bytes is in
    items_are v items.0 items.1 ∙ ap (λ (x : Trees). Tree.array x) (each_are byte_in byte_leaf byte_is items.0 bytes items.2 ∙ bytes_as_trees bytes)

-- ---- a dirmeta

none_are : (vs : Trees) → are_none vs ≡ true → vs ≡ no_trees
none_are no_trees is = refl
none_are (tree v vs) is = absurd (cc is)

abbrev four_trees : Tree → Tree → Tree → Tree → Tree
four_trees u g m x = Tree.tuple (tree u (tree g (tree m (tree x no_trees))))

abbrev meta_with : ℕ → ℕ → ℕ → Bool → MetaView
meta_with u g m bare = record { uid = u; gid = g; mode = m; bare = bare }

abbrev meta_from : Option ℕ → Option ℕ → Option ℕ → Option Trees → Option MetaView
meta_from u g m x = option_and_then (λ u. option_and_then (λ g. option_and_then (λ m. option_map (λ x. meta_with u g m (are_none x)) x) m) g) u

pub record MetaParts (u g m x : Tree) (y : MetaView) : Type 0 where
  pub user : number_in u ≡ Some y.uid
  pub group : number_in g ≡ Some y.gid
  pub mode : number_in m ≡ Some y.mode
  pub items : Trees
  pub array : items_in x ≡ Some items
  pub bare : are_none items ≡ y.bare

meta_parts_of : (u g m x : Tree) (y : MetaView) (a b c : Option ℕ) (d : Option Trees) → number_in u ≡ a → number_in g ≡ b → number_in m ≡ c → items_in x ≡ d
    → meta_from a b c d ≡ Some y → MetaParts u g m x y
meta_parts_of u g m x y None b c d ea eb ec ed is = absurd (cc is)
meta_parts_of u g m x y (Some a) None c d ea eb ec ed is = absurd (cc is)
meta_parts_of u g m x y (Some a) (Some b) None d ea eb ec ed is = absurd (cc is)
meta_parts_of u g m x y (Some a) (Some b) (Some c) None ea eb ec ed is = absurd (cc is)
meta_parts_of u g m x y (Some a) (Some b) (Some c) (Some d) ea eb ec ed is =
    let same : meta_with a b c (are_none d) ≡ y = cc is in
    record {
      user = ea ∙ ap (λ (v : MetaView). Some v.uid) same;
      group = eb ∙ ap (λ (v : MetaView). Some v.gid) same;
      mode = ec ∙ ap (λ (v : MetaView). Some v.mode) same;
      items = d;
      array = ed;
      bare = ap (λ (v : MetaView). v.bare) same;
    }

four : (a b c d : Bool) → a && (b && (c && (d && true))) ≡ true → (a ≡ true) × (b ≡ true) × (c ≡ true)
four true true true d is = (refl, refl, refl)
four true true false d is = absurd (cc is)
four true false c d is = absurd (cc is)
four false b c d is = absurd (cc is)

meta_value_is : (u g m x : Tree) (y : MetaView) → y.bare ≡ true → fits meta_shape (four_trees u g m x) ≡ true → MetaParts u g m x y → four_trees u g m x ≡ meta_value y
meta_value_is u g m x y bare fit parts =
    let fit_each = four (fits_within 63 number_shape u) (fits_within 63 number_shape g) (fits_within 63 number_shape m) (fits_within 63 attributes_shape x) fit in
    let attributes : x ≡ Tree.array no_trees = items_are x parts.items parts.array ∙ ap (λ (ws : Trees). Tree.array ws) (none_are parts.items (parts.bare ∙ bare)) in
    ap (λ (w : Tree). four_trees w g m x) (number_is u y.uid fit_each.0 parts.user)
    ∙ ap (λ (w : Tree). four_trees (number_value y.uid) w m x) (number_is g y.gid fit_each.1 parts.group)
    ∙ ap (λ (w : Tree). four_trees (number_value y.uid) (number_value y.gid) w x) (number_is m y.mode fit_each.2 parts.mode)
    ∙ ap (λ (w : Tree). four_trees (number_value y.uid) (number_value y.gid) (number_value y.mode) w) attributes

pub meta_is : (y : MetaView) → y.bare ≡ true → (v : Tree) → fits meta_shape v ≡ true → meta_in v ≡ Some y → v ≡ meta_value y
meta_is y bare (Tree.tuple (tree u (tree g (tree m (tree x no_trees))))) fit is =
    meta_value_is u g m x y bare fit (meta_parts_of u g m x y (number_in u) (number_in g) (number_in m) (items_in x) refl refl refl refl is)
meta_is y bare _ fit is = absurd (cc is)

pub meta_says : (mode : ℕ) → mode < 2 ^ 32 → meta_in (meta_value (meta_with 0 0 mode true)) ≡ Some (meta_with 0 0 mode true)
meta_says mode h = ap (λ (m : ℕ). Some (meta_with 0 0 m true)) (twice_4 mode h)

abbrev kind_if : Bool → Option Rule
kind_if good = if good then None else Some rules.Kind

pub kind_breaks : (mode : ℕ) → (mode / 4096 ≡ 4 → ⊥) → meta_breaks (meta_with 0 0 mode true) ≡ Some rules.Kind
kind_breaks mode other = ap kind_if (ne_eqb (mode / 4096) 4 other)

pub kind_is_good : (mode : ℕ) → mode / 4096 ≡ 4 → meta_breaks (meta_with 0 0 mode true) ≡ None
kind_is_good mode is = ap kind_if (eq-eqb (mode / 4096) 4 is)
