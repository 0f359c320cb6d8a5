-- The view of rows is a tree in which every stop leaves what stands, and it shows the image of the
-- rows.
use Rattle.std.proofs.Common.{◌≡◌, ◌≢◌, ◌⊎◌, ◌≤◌, inl, inr, ℕ, suc, List, [], ◌∷◌, map, Bool, true, false, ◌&&◌, cond, eqb, leb, Option, Some, None, refl, sym, ◌∙◌, ap, subst, arith, Contains}
use Rattle.std.specs.Prelude.{if◌then◌else◌, ◌==◌}
use Rattle.std.specs.List.{AllByRecursion, list_all}
use Rattle.std.specs.Str.{bytes_eq}
use Rattle.std.proofs.lemmas.Bool.{cases_Bool, both_ways, and_parts, leb-true, false≢true}
use Rattle.std.proofs.lemmas.Bool.Decides.{Decides-eqb}
use Rattle.std.proofs.lemmas.Slice.Eq.{bytes_eq-Decides}
use Rattle.fp_host.specs.Paths.{Elements, Slot, absent, dir, file, link, path_eq, at, under, is_link_text}
use Rattle.fp_host.specs.View.{View, Inode, IsTree, MayBe}
use Rattle.fp_host.specs.Outcome.{Spot, gone, folder, holds, points, IsSettled, spot_of, holding, shows}
use Rattle.fp_host.proofs.Separate.{path_decides, under_absent}
use Rattle.fp_host.proofs.Settled.{none_in}
use Rattle.dep_states.specs.Samples.{rows_at}
use Rattle.dep_states.proofs.Single.{some_is}
use Rattle.fl_samples.specs.Views.{slot_of, inode, file_in, file_among, put_of, view_of}
use Rattle.fl_samples.proofs.Rows.{by_row, all_pass}
use Rattle.fl_samples.proofs.Placing.{is_folder, folder_is}

-- ---- tests of rows

-- the folder above is there
abbrev pub has_parent : List (Elements × Spot) → Elements → Bool
has_parent rs [] = true
has_parent rs (x ∷ up) = is_folder (rows_at rs up)

abbrev pub is_inode : Option Inode → ℕ → List ℕ → Bool
is_inode None mode bytes = false
is_inode (Some f) mode bytes = eqb f.mode mode && bytes_eq f.bytes bytes

-- the file of the id is this one, and its bits are permission bits; a link's text is one
abbrev pub is_own : (ℕ → Option Inode) → Spot → Bool
is_own files gone = true
is_own files folder = true
is_own files (holds id mode bytes) = is_inode (files id) mode bytes && leb mode 4095
is_own files (points text) = is_link_text text

pub record IsForest (rs : List (Elements × Spot)) : Type 0 where
  pub root : rows_at rs [] ≡ folder
  pub parents : list_all (λ r. has_parent rs r.0) rs ≡ true
  pub own : list_all (λ r. is_own (file_among rs) r.1) rs ≡ true

-- ---- what they say

gone_or : (spot : Spot) → (slot_of spot ≡ absent) ⊎ (spot ≢ gone)
gone_or gone = inl refl
gone_or folder = inr (λ e. cc)
gone_or (holds id mode bytes) = inr (λ e. cc)
gone_or (points text) = inr (λ e. cc)

inode_is : (o : Option Inode) (id mode : ℕ) (bytes : List ℕ) → is_inode o mode bytes ≡ true → holding id o ≡ holds id mode bytes
inode_is None id mode bytes t = absurd cc
inode_is (Some f) id mode bytes t =
    let a = and_parts (eqb f.mode mode) (bytes_eq f.bytes bytes) t in
    λ i. holds id ((Decides-eqb f.mode mode).0 a.0 i) ((bytes_eq-Decides f.bytes bytes).0 a.1 i)

own_is : (files : ℕ → Option Inode) (spot : Spot) → is_own files spot ≡ true → spot_of files (slot_of spot) ≡ spot
own_is files gone t = refl
own_is files folder t = refl
own_is files (holds id mode bytes) t = inode_is (files id) id mode bytes (and_parts (is_inode (files id) mode bytes) (leb mode 4095) t).0
own_is files (points text) t = refl

own_known : (files : ℕ → Option Inode) (spot : Spot) (id : ℕ) → is_own files spot ≡ true → slot_of spot ≡ file id → files id ≢ None
own_known files gone id t e = absurd (cc e)
own_known files folder id t e = absurd (cc e)
own_known files (points text) id t e = absurd (cc e)
own_known files (holds own mode bytes) id t e = λ none. no_inode (ap (λ o. is_inode o mode bytes) (ap files (one_id e) ∙ none)) (and_parts (is_inode (files own) mode bytes) (leb mode 4095) t).0
  where
    one_id : file own ≡ file id → own ≡ id
    one_id same = cc

    no_inode : is_inode (files own) mode bytes ≡ false → is_inode (files own) mode bytes ≡ true → ⊥
    no_inode f u = both_ways (is_inode (files own) mode bytes) f u

own_link : (files : ℕ → Option Inode) (spot : Spot) (text : List ℕ) → is_own files spot ≡ true → slot_of spot ≡ link text → is_link_text text ≡ true
own_link files gone text t e = absurd (cc e)
own_link files folder text t e = absurd (cc e)
own_link files (holds id mode bytes) text t e = absurd (cc e)
own_link files (points own) text t e = subst (λ x. is_link_text x ≡ true) (one_text e) t
  where
    one_text : link own ≡ link text → own ≡ text
    one_text same = cc

-- what holds of each row's spot holds of what stands at each path
each_spot : (P : Spot → Type 0) → P gone → (rs : List (Elements × Spot)) → AllByRecursion (λ r. P r.1) rs → (p : Elements) → P (rows_at rs p)
each_spot P none [] all p = none
each_spot P none (row ∷ rs) all p = elim (cases_Bool (path_eq p row.0)) [
  | inl t ↦ rw t all.0
  | inr f ↦ rw f (each_spot P none rs all.1 p)
]

-- the bits of each file among the rows
bits_in : (files : ℕ → Option Inode) (spot : Spot) (id : ℕ) (rest : Option Inode) (f : Inode) → is_own files spot ≡ true → ((g : Inode) → rest ≡ Some g → g.mode ≤ 4095) → file_in id spot rest ≡ Some f → f.mode ≤ 4095
bits_in files gone id rest f t more e = more f e
bits_in files folder id rest f t more e = more f e
bits_in files (points text) id rest f t more e = more f e
bits_in files (holds own mode bytes) id rest f t more e = by_test (id == own) e
  where
    few : mode ≤ 4095
    few = leb-true mode 4095 (and_parts (is_inode (files own) mode bytes) (leb mode 4095) t).1

    by_test : (b : Bool) → (if b then Some (inode mode bytes) else rest) ≡ Some f → f.mode ≤ 4095
    by_test true same = subst (λ (m : ℕ). m ≤ 4095) (ap (λ (x : Inode). x.mode) (some_is same)) few
    by_test false same = more f same

bits_among : (files : ℕ → Option Inode) (rs : List (Elements × Spot)) → AllByRecursion (λ r. is_own files r.1 ≡ true) rs → (id : ℕ) (f : Inode) → file_among rs id ≡ Some f → f.mode ≤ 4095
bits_among files [] all id f e = absurd (cc e)
bits_among files (row ∷ rs) all id f e = bits_in files row.1 id (file_among rs id) f all.0 (bits_among files rs all.1 id) e

-- what stands was put there
put_there : (rs : List (Elements × Spot)) (p : Elements) → (slot_of (rows_at rs p) ≡ absent) ⊎ Contains (map put_of rs) (p, slot_of (rows_at rs p))
put_there [] p = inl refl
put_there (row ∷ rs) p = elim (cases_Bool (path_eq p row.0)) [
  | inl t ↦
      let is : slot_of (rows_at (row ∷ rs) p) ≡ slot_of row.1 = ap (λ b. slot_of (cond b row.1 (rows_at rs p))) t in
      inr (0, omega arith, λ i. (sym ((path_decides p row.0).0 t) i, sym is i))
  | inr f ↦
      let is : slot_of (rows_at (row ∷ rs) p) ≡ slot_of (rows_at rs p) = ap (λ b. slot_of (cond b row.1 (rows_at rs p))) f in
      elim (put_there rs p) [
        | inl none ↦ inl (is ∙ none)
        | inr had ↦ inr (subst (λ (s : Slot). Contains (map put_of (row ∷ rs)) (p, s)) (sym is) (suc had.0, omega (arith, had.1), had.2))
      ]
]

module _ {rs : List (Elements × Spot)} (is : IsForest rs) where
  abbrev v : View
  v = view_of rs

  owned : AllByRecursion (λ r. is_own (file_among rs) r.1 ≡ true) rs
  owned = all_pass (λ r. is_own (file_among rs) r.1) (λ r. is_own (file_among rs) r.1 ≡ true) (λ r t. t) rs is.own

  own_at : (p : Elements) → is_own (file_among rs) (rows_at rs p) ≡ true
  own_at = each_spot (λ spot. is_own (file_among rs) spot ≡ true) refl rs owned

  parent : (x : List ℕ) (up : Elements) → rows_at rs (x ∷ up) ≢ gone → rows_at rs up ≡ folder
  parent x up there = folder_is (rows_at rs up) (by_row (λ p. has_parent rs p ≡ true) rs (all_pass (λ r. has_parent rs r.0) (λ r. has_parent rs r.0 ≡ true) (λ r t. t) rs is.parents) (x ∷ up) there)

  above : (x : List ℕ) (up : Elements) → (v.names (x ∷ up) ≡ absent) ⊎ (v.names up ≡ dir)
  above x up = elim (gone_or (rows_at rs (x ∷ up))) [
    | inl none ↦ inl none
    | inr there ↦ inr (ap slot_of (parent x up there))
  ]

  now : (q : Elements) (e : Slot) → MayBe v q e → e ≡ v.names q
  now q e (inl same) = same
  now q e (inr had) = absurd (none_in (v.earlier q) e refl had)

  pub forest_tree : IsTree (view_of rs)
  forest_tree = record {
    root = ap slot_of is.root;
    only_root = λ e m. now [] e m ∙ ap slot_of is.root;
    above = above;
    may_above = λ x up e m. elim (above x up) [ inl none ↦ inl (now (x ∷ up) e m ∙ none) | inr there ↦ inr (inl (sym there)) ];
    known = λ p id m. own_known (file_among rs) (rows_at rs p) id (own_at p) (sym (now p (file id) m));
    known_dirty = λ id d. absurd (false≢true d);
    linked = λ p text m. own_link (file_among rs) (rows_at rs p) text (own_at p) (sym (now p (link text) m));
    remembered = λ x up. put_there rs (x ∷ up);
    bits = bits_among (file_among rs) rs owned;
  }

  pub forest_settled : IsSettled (view_of rs)
  forest_settled = record { earlier = λ q. refl; dirty = λ id. refl }

  counts : (p : Elements) → at v.names p ≡ v.names p
  counts [] = refl
  counts (x ∷ up) = elim (above x up) [
    | inl none ↦ ap (under (at v.names up)) none ∙ under_absent (at v.names up) ∙ sym none
    | inr there ↦ ap (λ (e : Slot). under e (v.names (x ∷ up))) (counts up ∙ there)
  ]

  pub forest_shows : (p : Elements) → shows (view_of rs) p ≡ rows_at rs p
  forest_shows p = ap (spot_of (file_among rs)) (counts p) ∙ own_is (file_among rs) (rows_at rs p) (own_at p)
