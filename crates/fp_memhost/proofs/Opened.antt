-- An image that is opened again.
use Rattle.std.proofs.Common.{◌≡◌, ◌⊎◌, inl, inr, ℕ, ◌+◌, ◌<◌, ◌≤◌, ◌&&◌, List, [], ◌∷◌, ◌++◌, length, get_or, drop, Bool, true, false, eqb, cond, Option, Some, None, refl, sym, ◌∙◌, ap, subst, arith, add-one, append_assoc, append-nil, map, suc, Contains}
use Rattle.std.proofs.Math.Seq.{drop-cons}
use Rattle.std.proofs.lemmas.List.{map_push}
use Rattle.std.proofs.lemmas.Bool.{cases_Bool, cond-true, cond-false, and_from, false_from_ne_true}
use Rattle.std.specs.Str.{bytes_eq}
use Rattle.fp_host.proofs.PathTexts.{same_paths}
use Rattle.fp_host.specs.Paths.{elements_of, Elements, Slot, absent, dir, file, link, path_eq, under, at}
use Rattle.fp_host.specs.View.{View, Inode, IsTree}
use Rattle.fp_host.proofs.Separate.{path_decides, path_cases, under_absent, under_cases, at_cases}
use Rattle.fp_host.specs.declared.host.Entry.{Entry}
use Rattle.fp_memhost.specs.declared.image.FileRow.{FileRow}
use Rattle.fp_memhost.specs.declared.image.Image.{Image}
use Rattle.fp_memhost.specs.declared.names.Name.{Name}
use Rattle.fp_memhost.specs.declared.files.Content.{Content}
use Rattle.fp_memhost.specs.Names.{slot_of, names_of, ForgetsNames}
use Rattle.fp_memhost.specs.Files.{has_id, file_at, inode_in, new_in, files_of, dirty_of}
use Rattle.fp_memhost.specs.Scenes.{view_from}
use Rattle.fp_memhost.specs.Start.{root_alone, empty_view}
use Rattle.fp_memhost.specs.declared.stood.Stood.{Stood}
use Rattle.fp_memhost.specs.Stood.{stood_of}
use Rattle.fp_memhost.specs.Images.{listed_slot, slots_of, rows_of, put_of, opened, IsImage}
use Rattle.fp_memhost.specs.Opening.{is_folder, is_open, may_stand, built, AddsName, AddsNames, OpensFiles}
use Rattle.fp_memhost.proofs.Quiet.{quiet_tree}

folder_is : (e : Slot) → is_folder e ≡ true → e ≡ dir
folder_is dir t = refl
folder_is absent t = absurd (cc)
folder_is (file id) t = absurd (cc)
folder_is (link text) t = absurd (cc)

no_folder : (e f : Slot) → is_folder e ≡ false → under e f ≡ absent
no_folder dir f t = absurd (cc)
no_folder absent f t = refl
no_folder (file id) f t = refl
no_folder (link text) f t = refl

and_false : (a b : Bool) → b ≡ false → a && b ≡ false
and_false true b f = f
and_false false b f = refl

-- a path counts exactly where each folder above it is there
pub at_open : (names : List (Elements × Entry)) (q : Elements) → ((is_open names q ≡ true) × (at (slots_of names) q ≡ slots_of names q)) ⊎ ((is_open names q ≡ false) × (at (slots_of names) q ≡ absent))
at_open names [] = inl (refl, refl)
at_open names (x ∷ up) = elim (at_open names up) [
  | inl h ↦ elim (cases_Bool (is_folder (slots_of names up))) [
    | inl t ↦ inl (and_from (is_folder (slots_of names up)) (is_open names up) t h.0, ap (λ (e : Slot). under e (slots_of names (x ∷ up))) (h.1 ∙ folder_is (slots_of names up) t))
    | inr f ↦ inr (ap (λ b. b && is_open names up) f, ap (λ (e : Slot). under e (slots_of names (x ∷ up))) h.1 ∙ no_folder (slots_of names up) (slots_of names (x ∷ up)) f)
  ]
  | inr h ↦ inr (and_false (is_folder (slots_of names up)) (is_open names up) h.0, ap (λ (e : Slot). under e (slots_of names (x ∷ up))) h.1)
]

cond_same : {A : Type 0} (b : Bool) (a : A) → a ≡ cond b a a
cond_same true a = refl
cond_same false a = refl

built_none : (all : List (Elements × Entry)) (q : Elements) → root_alone q ≡ cond (may_stand all q) absent (root_alone q)
built_none all [] = refl
built_none all (x ∷ up) = cond_same (is_open all (x ∷ up)) absent

built_is : (all xs : List (Elements × Entry)) (q : Elements) → built all root_alone xs q ≡ cond (may_stand all q) (listed_slot xs q) (root_alone q)
built_is all [] q = built_none all q
built_is all (x ∷ xs) q = elim (path_cases q x.0) [
  | inl e ↦
      let t = (path_decides q x.0).1 e in
      let stands : may_stand all q ≡ may_stand all x.0 = ap (may_stand all) e in
      elim (cases_Bool (may_stand all x.0)) [
        | inl m ↦
            cond-true (may_stand all x.0 && path_eq q x.0) (slot_of (Some x.1)) (built all root_alone xs q) (and_from (may_stand all x.0) (path_eq q x.0) m t)
            ∙ sym (cond-true (path_eq q x.0) (slot_of (Some x.1)) (listed_slot xs q) t)
            ∙ sym (cond-true (may_stand all q) (listed_slot (x ∷ xs) q) (root_alone q) (stands ∙ m))
        | inr n ↦
            cond-false (may_stand all x.0 && path_eq q x.0) (slot_of (Some x.1)) (built all root_alone xs q) (ap (λ b. b && path_eq q x.0) n)
            ∙ built_is all xs q
            ∙ cond-false (may_stand all q) (listed_slot xs q) (root_alone q) (stands ∙ n)
            ∙ sym (cond-false (may_stand all q) (listed_slot (x ∷ xs) q) (root_alone q) (stands ∙ n))
      ]
  | inr ne ↦
      let f = false_from_ne_true (path_eq q x.0) (λ t. ne ((path_decides q x.0).0 t)) in
      cond-false (may_stand all x.0 && path_eq q x.0) (slot_of (Some x.1)) (built all root_alone xs q) (and_false (may_stand all x.0) (path_eq q x.0) f)
      ∙ built_is all xs q
      ∙ ap (λ (s : Slot). cond (may_stand all q) s (root_alone q)) (sym (cond-false (path_eq q x.0) (slot_of (Some x.1)) (listed_slot xs q) f))
]

-- what stands once all were added
pub built_all : (all : List (Elements × Entry)) (q : Elements) → built all root_alone all q ≡ at (slots_of all) q
built_all all [] = built_is all all []
built_all all (x ∷ up) = built_is all all (x ∷ up) ∙ elim (at_open all (x ∷ up)) [
  | inl h ↦ cond-true (is_open all (x ∷ up)) (listed_slot all (x ∷ up)) absent h.0 ∙ sym h.1
  | inr h ↦ cond-false (is_open all (x ∷ up)) (listed_slot all (x ∷ up)) absent h.0 ∙ sym h.1
]

built_on : (all : List (Elements × Entry)) (f g : Elements → Slot) → ((q : Elements) → f q ≡ g q) → (xs : List (Elements × Entry)) (q : Elements) → built all f xs q ≡ built all g xs q
built_on all f g same [] q = same q
built_on all f g same (x ∷ xs) q = ap (λ (s : Slot). cond (may_stand all x.0 && path_eq q x.0) (slot_of (Some x.1)) s) (built_on all f g same xs q)

-- one name of the list
pub listed_step : (names : List (Elements × Entry)) (i : ℕ) (x : Elements × Entry) (text t : List ℕ) (b : Bool) → i < length names → x ≡ get_or names i x → elements_of t ≡ x.0 → b ≡ bytes_eq text t
    → listed_slot (drop i names) (elements_of text) ≡ cond b (slot_of (Some x.1)) (listed_slot (drop (i + 1) names) (elements_of text))
listed_step names i x text t b low is back tells =
    let cut : drop i names ≡ x ∷ drop (i + 1) names = drop-cons names i x low ∙ (λ j. sym is j ∷ drop (sym (add-one i) j) names) in
    let test : path_eq (elements_of text) x.0 ≡ b = ap (path_eq (elements_of text)) (sym back) ∙ sym (same_paths text t) ∙ sym tells in
    ap (λ (l : List (Elements × Entry)). listed_slot l (elements_of text)) cut ∙ ap (λ v. cond v (slot_of (Some x.1)) (listed_slot (drop (i + 1) names) (elements_of text))) test

-- so far: the names from this place on were added
pub record BuiltFrom (left : ℕ) (all : List (Elements × Entry)) (old new : List Name) : Type 0 where
  pub low : left ≤ length all
  pub names : (q : Elements) → names_of new q ≡ built all (names_of old) (drop left all) q

pub built_end : (all : List (Elements × Entry)) (old new : List Name) → BuiltFrom 0 all old new → AddsNames all old new
built_end all old new so = record { names = λ q. so.names q }

pub built_more : (left : ℕ) (all : List (Elements × Entry)) (old mid new : List Name) (x : Elements × Entry) → BuiltFrom (left + 1) all old mid → x ≡ get_or all left x
    → AddsName (may_stand all x.0) x.0 (slot_of (Some x.1)) mid new → BuiltFrom left all old new
built_more left all old mid new x so is adds =
    let low : left < length all = omega (arith, so.low) in
    let cut : drop left all ≡ x ∷ drop (left + 1) all = drop-cons all left x low ∙ (λ i. sym is i ∷ drop (sym (add-one left) i) all) in
    record {
      low = omega arith;
      names = λ q. adds.names q ∙ ap (λ (s : Slot). cond (may_stand all x.0 && path_eq q x.0) (slot_of (Some x.1)) s) (so.names q) ∙ sym (ap (λ (l : List (Elements × Entry)). built all (names_of old) l q) cut);
    }

-- the first of two rows
abbrev pub first_row : Option Inode → Option Inode → Option Inode
first_row None row = row
first_row (Some f) row = Some f

-- the files so far, and those that are left
pub record FilesFrom (i : ℕ) (rows : List FileRow) (files : List Content) : Type 0 where
  pub rows_are : (id : ℕ) → first_row (files_of files id) (rows_of (drop i rows) id) ≡ rows_of rows id
  pub dirty : (id : ℕ) → dirty_of files id ≡ false

pub first_none : (row : Option Inode) → first_row row None ≡ row
first_none None = refl
first_none (Some f) = refl

pub first_on : (a b c : Option Inode) → first_row (first_row a b) c ≡ first_row a (first_row b c)
first_on None b c = refl
first_on (Some f) b c = refl

row_more : (files : List Content) (f : Content) (id : ℕ) → files_of (files ++ f ∷ []) id ≡ first_row (files_of files id) (inode_in (cond (has_id id f) (Some f) None))
row_more [] f id = refl
row_more (g ∷ gs) f id = by_test (has_id id g) (row_more gs f id)
  where
    by_test : (b : Bool) → files_of (gs ++ f ∷ []) id ≡ first_row (files_of gs id) (inode_in (cond (has_id id f) (Some f) None)) → inode_in (cond b (Some g) (file_at (gs ++ f ∷ []) id)) ≡ first_row (inode_in (cond b (Some g) (file_at gs id))) (inode_in (cond (has_id id f) (Some f) None))
    by_test true rest = refl
    by_test false rest = rest

dirty_more : (files : List Content) (f : Content) (id : ℕ) → dirty_of files id ≡ false → f.is_new ≡ false → dirty_of (files ++ f ∷ []) id ≡ false
dirty_more [] f id was new = by_test (has_id id f)
  where
    by_test : (b : Bool) → new_in (cond b (Some f) None) ≡ false
    by_test true = new
    by_test false = refl
dirty_more (g ∷ gs) f id was new = by_test (has_id id g) (λ w. dirty_more gs f id w new) was
  where
    by_test : (b : Bool) → (dirty_of gs id ≡ false → dirty_of (gs ++ f ∷ []) id ≡ false) → new_in (cond b (Some g) (file_at gs id)) ≡ false → new_in (cond b (Some g) (file_at (gs ++ f ∷ []) id)) ≡ false
    by_test true rest w = w
    by_test false rest w = rest w

pub files_none : (rows : List FileRow) → FilesFrom 0 rows []
files_none rows = record { rows_are = λ id. refl; dirty = λ id. refl }

same_row : (row : FileRow) (f : Content) (id : ℕ) (rest : Option Inode) → f.id ≡ row.id → f.mode ≡ row.mode → f.bytes.items ≡ row.bytes
    → first_row (inode_in (cond (has_id id f) (Some f) None)) rest ≡ cond (eqb id row.id) (Some (record { mode = row.mode; bytes = row.bytes })) rest
same_row row f id rest i m b = by_test (has_id id f) (eqb id row.id) (ap (eqb id) i)
  where
    by_test : (s t : Bool) → s ≡ t → first_row (inode_in (cond s (Some f) None)) rest ≡ cond t (Some (record { mode = row.mode; bytes = row.bytes })) rest
    by_test true true e = λ j. Some (record { mode = m j; bytes = b j })
    by_test false false e = refl
    by_test true false e = absurd (cc)
    by_test false true e = absurd (cc)

pub files_more : (i : ℕ) (rows : List FileRow) (files : List Content) (row : FileRow) (f : Content) → FilesFrom i rows files → i < length rows → row ≡ get_or rows i row
    → f.id ≡ row.id → f.mode ≡ row.mode → f.bytes.items ≡ row.bytes → f.is_new ≡ false → FilesFrom (i + 1) rows (files ++ f ∷ [])
files_more i rows files row f so low is same_id same_mode same_bytes old =
    let cut : drop i rows ≡ row ∷ drop (i + 1) rows = drop-cons rows i row low ∙ (λ j. sym is j ∷ drop (sym (add-one i) j) rows) in
    record {
      rows_are = λ id.
          ap (λ (r : Option Inode). first_row r (rows_of (drop (i + 1) rows) id)) (row_more files f id)
          ∙ first_on (files_of files id) (inode_in (cond (has_id id f) (Some f) None)) (rows_of (drop (i + 1) rows) id)
          ∙ ap (first_row (files_of files id)) (same_row row f id (rows_of (drop (i + 1) rows) id) same_id same_mode same_bytes)
          ∙ sym (ap (λ (l : List FileRow). first_row (files_of files id) (rows_of l id)) cut)
          ∙ so.rows_are id;
      dirty = λ id. dirty_more files f id (so.dirty id) old;
    }

pub files_end : (i : ℕ) (rows : List FileRow) (files : List Content) → FilesFrom i rows files → drop i rows ≡ [] → OpensFiles rows files
files_end i rows files so none = record {
  files = λ id. sym (first_none (files_of files id)) ∙ ap (λ (l : List FileRow). first_row (files_of files id) (rows_of l id)) (sym none) ∙ so.rows_are id;
  dirty = so.dirty;
}

-- what is remembered so far, and the names that are left
pub record StoodFrom (i : ℕ) (names : List (Elements × Entry)) (stood : List Stood) : Type 0 where
  pub all : map stood_of stood ++ map put_of (drop i names) ≡ map put_of names

pub stood_none : (names : List (Elements × Entry)) → StoodFrom 0 names []
stood_none names = record { all = refl }

pub stood_more : (i : ℕ) (names : List (Elements × Entry)) (stood : List Stood) (x : Elements × Entry) (s : Stood) → StoodFrom i names stood → i < length names → x ≡ get_or names i x → stood_of s ≡ put_of x → StoodFrom (i + 1) names (stood ++ s ∷ [])
stood_more i names stood x s so low is same =
    let cut : drop i names ≡ x ∷ drop (i + 1) names = drop-cons names i x low ∙ (λ j. sym is j ∷ drop (sym (add-one i) j) names) in
    let rest = map put_of (drop (i + 1) names) in
    record {
      all = ap (λ (l : List (Elements × Slot)). l ++ rest) (map_push stood_of stood s)
          ∙ append_assoc (map stood_of stood) (stood_of s ∷ []) rest
          ∙ ap (λ (y : Elements × Slot). map stood_of stood ++ y ∷ rest) same
          ∙ sym (ap (λ (l : List (Elements × Entry)). map stood_of stood ++ map put_of l) cut)
          ∙ so.all;
    }

pub stood_end : (i : ℕ) (names : List (Elements × Entry)) (stood : List Stood) → StoodFrom i names stood → drop i names ≡ [] → map stood_of stood ≡ map put_of names
stood_end i names stood so none = sym (append-nil (map stood_of stood)) ∙ ap (λ (l : List (Elements × Entry)). map stood_of stood ++ map put_of l) (sym none) ∙ so.all

-- the scene that was made
pub opened_scene : (image : Image) (root added now : List Name) (empty files : List Content) (printed : List ℕ) (none stood : List (Elements × Slot)) → view_from root empty printed none ≡ empty_view → AddsNames image.names root added → ForgetsNames added now → OpensFiles image.files files
    → stood ≡ map put_of image.names → view_from now files printed stood ≡ opened image
opened_scene image root added now empty files printed nothing stood start adds forgets opens put =
    let begin : (q : Elements) → names_of root q ≡ root_alone q = λ q. ap (λ (v : View). v.names q) start in
    let names : (q : Elements) → names_of now q ≡ at (slots_of image.names) q =
    λ q. forgets.names q ∙ adds.names q ∙ built_on image.names (names_of root) root_alone begin image.names q ∙ built_all image.names q in
    let none : printed ≡ [] = ap (λ (v : View). v.printed) start in
    λ i. record { names = λ q. names q i; files = λ id. opens.files id i; earlier = λ q. forgets.earlier q i; dirty = λ id. opens.dirty id i; printed = none i; stood = put i }

-- what a list says of a path is remembered
listed_put : (names : List (Elements × Entry)) (q : Elements) → (listed_slot names q ≡ absent) ⊎ Contains (map put_of names) (q, listed_slot names q)
listed_put [] q = inl refl
listed_put (x ∷ xs) q = elim (path_cases q x.0) [
  | inl here ↦
      let is : listed_slot (x ∷ xs) q ≡ slot_of (Some x.1) = cond-true (path_eq q x.0) (slot_of (Some x.1)) (listed_slot xs q) ((path_decides q x.0).1 here) in
      inr (0, omega arith, λ i. (sym here i, sym is i))
  | inr off ↦
      let is : listed_slot (x ∷ xs) q ≡ listed_slot xs q = cond-false (path_eq q x.0) (slot_of (Some x.1)) (listed_slot xs q) (false_from_ne_true (path_eq q x.0) (λ t. off ((path_decides q x.0).0 t))) in
      elim (listed_put xs q) [
        | inl none ↦ inl (is ∙ none)
        | inr had ↦ inr (subst (λ (s : Slot). Contains (map put_of (x ∷ xs)) (q, s)) (sym is) (suc had.0, omega (arith, had.1), had.2))
      ]
]

-- what is opened is a tree
pub opened_tree : (image : Image) → IsImage image → IsTree (opened image)
opened_tree image good = quiet_tree (opened image) (record {
  earlier = λ q. refl;
  dirty = λ id. refl;
  root = refl;
  above = λ x up. elim (under_cases (at (slots_of image.names) up) (slots_of image.names (x ∷ up))) [ inl h ↦ inr h.0 | inr none ↦ inl none ];
  known = λ p id is. good.known p id (stands p (file id) (λ e. cc) is);
  linked = λ p text is. good.linked p text (stands p (link text) (λ e. cc) is);
  remembered = λ x up. elim (at_cases (slots_of image.names) (x ∷ up)) [
    | inl same ↦ elim (listed_put image.names (x ∷ up)) [
      | inl none ↦ inl (same ∙ none)
      | inr had ↦ inr (subst (λ (s : Slot). Contains (map put_of image.names) (x ∷ up, s)) (sym same) had)
    ]
    | inr none ↦ inl none
  ];
  bits = good.bits;
})
  where
    stands : (p : Elements) (e : Slot) → (e ≡ absent → ⊥) → at (slots_of image.names) p ≡ e → slots_of image.names p ≡ e
    stands p e some is = elim (at_cases (slots_of image.names) p) [ inl same ↦ sym same ∙ is | inr none ↦ absurd (some (sym is ∙ none)) ]

empty_slots : (q : Elements) → at (slots_of []) q ≡ root_alone q
empty_slots [] = refl
empty_slots (x ∷ up) = under_absent (at (slots_of []) up)

pub opened_empty : (image : Image) → image.names ≡ [] → image.files ≡ [] → opened image ≡ empty_view
opened_empty image names files =
    let stand : (q : Elements) → at (slots_of image.names) q ≡ root_alone q = λ q. ap (λ (l : List (Elements × Entry)). at (slots_of l) q) names ∙ empty_slots q in
    let rows : (id : ℕ) → rows_of image.files id ≡ None = λ id. ap (λ (l : List FileRow). rows_of l id) files in
    λ i. record { names = λ q. stand q i; files = λ id. rows id i; earlier = λ q. []; dirty = λ id. false; printed = []; stood = map put_of (names i) }
