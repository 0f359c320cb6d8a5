-- A commit whose root is shown as it is said: Look finds what is said, and no place of its order has a fault.
use Rattle.std.proofs.Common.{◌≡◌, ◌⊎◌, inl, inr, ◌≤◌, ◌<◌, ℕ, zero, suc, ◌+◌, List, [], ◌∷◌, ◌++◌, length, Bool, true, false, leb, Option, Some, None, refl, sym, ◌∙◌, ap, subst, arith}
use Rattle.std.specs.Option.{option_or}
use Rattle.std.specs.Prelude.{if◌then◌else◌}
use Rattle.std.specs.Str.{bytes_eq}
use Rattle.std.proofs.lemmas.Bool.Decides.{nat_tests}
use Rattle.fp_host.specs.Paths.{Elements}
use Rattle.fp_base.specs.declared.object.ObjKind.{ObjKind}
use Rattle.fp_base.specs.declared.object.ObjKind.TheVariants as kinds
use Rattle.fp_base.proofs.Texts.{bytes_eq-true}
use Rattle.ost_model.specs.declared.object.Object.{Object}
use Rattle.ost_model.specs.Fields.{DirRow, FileRow, CommitView}
use Rattle.ost_model.specs.Readers.{tree_of, meta_of, commit_of}
use Rattle.ost_model.specs.Objects.{Have, too_many, too_deep, object_fault}
use Rattle.ost_model.specs.Order.{Place, In, each_in, inside, dir_places, file_place, file_places, tree_place, meta_place, read_as, commit_at, below_commit, root_row, order, first_fault, first_of, place_fault, found_at}
use Rattle.ost_model.specs.Look.{Found, nothing, directory, file_at, find_dir, find_file, entry_in, next, at_root, look}
use Rattle.ost_model.proofs.Members.{in_append}
use Rattle.ost_model.proofs.Looked.{either_dir}
use Rattle.ost_model.proofs.Places.{each_same}
use Rattle.ost_commit.specs.Rows.{Said, a_directory, content}
use Rattle.ost_commit.specs.Shows.{found_said, meta_at, plain_meta, IsThere, Shows, IsTree, AreGood, Grows}
use Rattle.ost_commit.proofs.Gathering.{no≢dir}

content≢dir : {A : Type 0} (d : List ℕ) → content d ≡ a_directory → A
content≢dir d e = absurd (cc e)

high : (a b : ℕ) → b < a → leb a b ≡ false
high a b h = grind (arith, nat_tests)

-- ---- what is found

if_some : {A : Type 0} (b : Bool) (d e : A) (r : Option A) → if b then Some d else r ≡ Some e → ((b ≡ true) × (d ≡ e)) ⊎ (r ≡ Some e)
if_some true d e r is = inl (refl, cc)
if_some false d e r is = inr is

dir_found : (x : List ℕ) (es : List DirRow) (e : DirRow) → find_dir x es ≡ Some e → In es e × (e.name ≡ x)
dir_found x [] e is = absurd (cc is)
dir_found x (d ∷ es) e is = elim (if_some (bytes_eq d.name x) d e (find_dir x es) is) [
  | inl h ↦ (inl h.1, subst (λ (r : DirRow). r.name ≡ x) h.1 (bytes_eq-true d.name x h.0))
  | inr h ↦ let r = dir_found x es e h in (inr r.0, r.1)
]

-- what Look has found at a path, with what stands below it
pub record Seen (have : Have) (said : Elements → Said) (path : Elements) (found : Found) : Type 0 where
  pub is : found_said found ≡ said path
  pub below : (e : DirRow) → found ≡ directory e → (levels : ℕ) × Shows have said levels path e

pub seen : (have : Have) (said : Elements → Said) (commit : List ℕ) (c : CommitView) → IsTree said → commit_at have commit ≡ Some c → Shows have said 65 [] (root_row c)
    → (path : Elements) → Seen have said path (look have commit path)
seen have said commit c tree at shows [] = subst (λ k. Seen have said [] (at_root k)) (sym at) (record {
  is = sym tree.root;
  below = λ e h. let row : root_row c ≡ e = cc in (65, subst (Shows have said 65 []) row shows);
})
seen have said commit c tree at shows (x ∷ up) = go (look have commit up) (seen have said commit c tree at shows up)
  where
    into : (e : DirRow) (levels : ℕ) → Shows have said levels up e → Seen have said (x ∷ up) (next have x (directory e))
    into e zero s = absurd s
    into e (suc levels) s = subst (λ v. Seen have said (x ∷ up) (entry_in x v)) (sym s.tree) (record {
      is = s.each x;
      below = λ d h. let f = dir_found x s.view.dirs d (either_dir (find_dir x s.view.dirs) (find_file x s.view.files) d h) in
          (levels, subst (λ n. Shows have said levels (n ∷ up) d) f.1 (s.dirs d f.0));
    })

    go : (f : Found) → Seen have said up f → Seen have said (x ∷ up) (next have x f)
    go nothing s = record {
      is = sym (tree.closed x up (λ h. no≢dir (s.is ∙ h)));
      below = λ e h. absurd (cc h);
    }
    go (file_at d) s = record {
      is = sym (tree.closed x up (λ h. content≢dir d (s.is ∙ h)));
      below = λ e h. absurd (cc h);
    }
    go (directory e) s = let b = s.below e refl in into e b.0 b.1

-- each directory that is found has the plain dirmeta
pub plain_below : (have : Have) (said : Elements → Said) (path : Elements) (found : Found) (e : DirRow) → Seen have said path found → found ≡ directory e → meta_at have e.meta ≡ Some plain_meta
plain_below have said path found e s is = let b = s.below e is in go b.0 b.1
  where
    go : (levels : ℕ) → Shows have said levels path e → meta_at have e.meta ≡ Some plain_meta
    go zero s = absurd s
    go (suc levels) s = s.meta

-- ---- the order

read_there : {A : Type 0} (of : List ℕ → Option A) (have : Have) (d : List ℕ) (kind : ObjKind) (a : A) → read_as of (have d kind) ≡ Some a → IsThere have d kind
read_there of have d kind a is = go (have d kind) refl is
  where
    go : (o : Option Object) → have d kind ≡ o → read_as of o ≡ Some a → IsThere have d kind
    go None h r = absurd (cc r)
    go (Some object) h r = record { object = object; is = h }

-- a place whose object may be used
pub record IsGoodPlace (have : Have) (p : Place) : Type 0 where
  pub shallow : leb 65 p.depth ≡ false
  pub good : object_fault p.digest p.kind (have p.digest p.kind) ≡ None

there_good : (have : Have) → AreGood have → (d : List ℕ) (kind : ObjKind) → IsThere have d kind → object_fault d kind (have d kind) ≡ None
there_good have good d kind t = ap (object_fault d kind) t.is ∙ good.good d kind t.object t.is

in_each : {A B : Type 0} (f : A → List B) (xs : List A) (b : B) → In (each_in f xs) b → (a : A) × In xs a × In (f a) b
in_each f [] b h = absurd h
in_each f (x ∷ xs) b h = elim (in_append (f x) (each_in f xs) b h) [ inl k ↦ (x, inl refl, k) | inr k ↦ let r = in_each f xs b k in (r.0, inr r.1, r.2) ]

in_files : (depth : ℕ) (fs : List FileRow) (p : Place) → In (file_places depth fs) p → (f : FileRow) × In fs f × (file_place depth f ≡ p)
in_files depth [] p h = absurd h
in_files depth (f ∷ fs) p (inl e) = (f, inl refl, e)
in_files depth (f ∷ fs) p (inr h) = let r = in_files depth fs p h in (r.0, inr r.1, r.2)

module _ (have : Have) (said : Elements → Said) (good : AreGood have) where
  good_place : (d : List ℕ) (kind : ObjKind) (depth : ℕ) → leb 65 depth ≡ false → IsThere have d kind → IsGoodPlace have (record { digest = d; kind = kind; depth = depth })
  good_place d kind depth low t = record { shallow = low; good = there_good have good d kind t }

  pub good_places : (levels depth : ℕ) → levels + depth ≡ 65 → (path : Elements) (e : DirRow) → Shows have said levels path e → (p : Place) → In (dir_places have levels depth e) p → IsGoodPlace have p
  good_places zero depth sum path e s p h = absurd s
  good_places (suc levels) depth sum path e s p h =
      let low : leb 65 depth ≡ false = high 65 depth (omega (arith, sum)) in
      elim h [
        | inl k ↦ subst (IsGoodPlace have) k (good_place e.tree kinds.DirTree depth low (read_there tree_of have e.tree kinds.DirTree s.view s.tree))
        | inr k ↦ elim k [
          | inl m ↦ subst (IsGoodPlace have) m (good_place e.meta kinds.DirMeta depth low (read_there meta_of have e.meta kinds.DirMeta plain_meta s.meta))
          | inr m ↦ within low (λ d k h. good_places levels (suc depth) (omega (arith, sum)) (d.name ∷ path) d (s.dirs d k) p h)
              (subst (λ v. In (inside (dir_places have levels (suc depth)) depth v) p) s.tree m)
        ]
      ]
    where
      within : leb 65 depth ≡ false → ((d : DirRow) → In s.view.dirs d → In (dir_places have levels (suc depth) d) p → IsGoodPlace have p)
          → In (inside (dir_places have levels (suc depth)) depth (Some s.view)) p → IsGoodPlace have p
      within low below m = elim (in_append (file_places depth s.view.files) (each_in (dir_places have levels (suc depth)) s.view.dirs) p m) [
        | inl k ↦ let f = in_files depth s.view.files p k in
            subst (IsGoodPlace have) f.2 (good_place f.0.digest kinds.File depth low (s.files f.0 f.1))
        | inr k ↦ let d = in_each (dir_places have levels (suc depth)) s.view.dirs p k in below d.0 d.1 d.2
      ]

  place_good : (n : ℕ) (p : Place) → n < 200000 → IsGoodPlace have p → place_fault have n p ≡ None
  place_good n p few g =
      ap (λ b. if b then Some too_many else (if leb 65 p.depth then Some too_deep else object_fault p.digest p.kind (have p.digest p.kind))) (high 200000 n few)
      ∙ ap (λ b. if b then Some too_deep else object_fault p.digest p.kind (have p.digest p.kind)) g.shallow
      ∙ g.good

  none_first : (n : ℕ) (ps : List Place) → n + length ps ≤ 200000 → ((p : Place) → In ps p → IsGoodPlace have p) → first_of (place_fault have) n ps ≡ None
  none_first n [] few all = refl
  none_first n (p ∷ ps) few all =
      ap (λ f. option_or (found_at p f) (first_of (place_fault have) (suc n) ps)) (place_good n p (omega (arith, few)) (all p (inl refl)))
      ∙ none_first (suc n) ps (omega (arith, few)) (λ q h. all q (inr h))

  pub whole : (commit : List ℕ) (c : CommitView) → commit_at have commit ≡ Some c → Shows have said 65 [] (root_row c) → length (order have commit) ≤ 200000 → first_fault have commit ≡ None
  whole commit c at shows few = none_first 0 (order have commit) (omega (arith, few)) (λ p h. elim h [
    | inl k ↦ subst (IsGoodPlace have) k (good_place commit kinds.Commit 0 refl (read_there commit_of have commit kinds.Commit c at))
    | inr k ↦ good_places 65 0 refl [] (root_row c) shows p (subst (λ v. In (below_commit have v) p) at k)
  ])

-- ---- more objects change nothing

read_more : {A : Type 0} (of : List ℕ → Option A) (i j : Have) → Grows i j → (d : List ℕ) (kind : ObjKind) (a : A) → read_as of (i d kind) ≡ Some a → read_as of (j d kind) ≡ Some a
read_more of i j grows d kind a is = let t = read_there of i d kind a is in
    ap (read_as of) (grows.kept d kind t.object t.is) ∙ (sym (ap (read_as of) t.is) ∙ is)

module _ (i j : Have) (said : Elements → Said) (grows : Grows i j) where
  pub shows_more : (levels : ℕ) (path : Elements) (e : DirRow) → Shows i said levels path e → Shows j said levels path e
  shows_more zero path e s = s
  shows_more (suc levels) path e s = record {
    view = s.view;
    tree = read_more tree_of i j grows e.tree kinds.DirTree s.view s.tree;
    meta = read_more meta_of i j grows e.meta kinds.DirMeta plain_meta s.meta;
    each = s.each;
    files = λ f h. let t = s.files f h in record { object = t.object; is = grows.kept f.digest kinds.File t.object t.is };
    dirs = λ d h. shows_more levels (d.name ∷ path) d (s.dirs d h);
  }

  pub places_same : (levels depth : ℕ) (path : Elements) (e : DirRow) → Shows i said levels path e → dir_places j levels depth e ≡ dir_places i levels depth e
  places_same zero depth path e s = absurd s
  places_same (suc levels) depth path e s =
      ap (λ v. tree_place depth e ∷ (meta_place depth e ∷ inside (dir_places j levels (suc depth)) depth v)) (read_more tree_of i j grows e.tree kinds.DirTree s.view s.tree)
      ∙ ap (λ l. tree_place depth e ∷ (meta_place depth e ∷ (file_places depth s.view.files ++ l)))
      (each_same (dir_places i levels (suc depth)) (dir_places j levels (suc depth)) s.view.dirs (λ d h. places_same levels (suc depth) (d.name ∷ path) d (s.dirs d h)))
      ∙ ap (λ v. tree_place depth e ∷ (meta_place depth e ∷ inside (dir_places i levels (suc depth)) depth v)) (sym s.tree)
