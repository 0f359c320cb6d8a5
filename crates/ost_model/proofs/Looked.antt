-- What Look finds stands in the order, where no place has a fault.
use Rattle.std.proofs.Common.{◌≡◌, ◌⊎◌, inl, inr, ℕ, zero, suc, ◌+◌, List, [], ◌∷◌, length, Bool, true, false, leb, Option, Some, None, refl, sym, ◌∙◌, ap, subst, arith}
use Rattle.std.specs.Option.{option_or}
use Rattle.std.specs.Prelude.{if◌then◌else◌}
use Rattle.std.specs.Str.{bytes_eq}
use Rattle.std.proofs.lemmas.Bool.{false≢true}
use Rattle.fp_host.specs.Paths.{Elements}
use Rattle.fp_base.specs.declared.object.ObjKind.TheVariants as kinds
use Rattle.ost_model.specs.Fields.{DirRow, FileRow, CommitView, TreeView}
use Rattle.ost_model.specs.Readers.{tree_of, commit_of}
use Rattle.ost_model.specs.Objects.{Have, too_deep, object_fault}
use Rattle.ost_model.specs.Order.{Place, In, inside, dir_places, file_place, file_places, tree_place, read_as, tree_at, commit_at, below_commit, root_row, commit_place, place_fault, found_at, first_of, order, first_fault, Agree}
use Rattle.ost_model.specs.Look.{Found, nothing, directory, file_at, find_dir, find_file, either, entry_in, next, at_root, look, found_places, look_places, look_fault, Reached, FileReached}
use Rattle.ost_model.proofs.Places.{in_each, faultless}
use Rattle.ost_model.proofs.Pending.{first_append}
use Rattle.ost_model.proofs.Members.{in_left, in_right}

head_in : (have : Have) (fuel depth : ℕ) (e : DirRow) → In (dir_places have fuel depth e) (tree_place depth e)
head_in have zero depth e = inl refl
head_in have (suc fuel) depth e = inl refl

pub tree_reached : {have : Have} {commit : List ℕ} {e : DirRow} (r : Reached have commit e) → In (order have commit) (tree_place r.depth e)
tree_reached {have = have} {e = e} r = r.sub (tree_place r.depth e) (head_in have r.fuel r.depth e)

from_root : (have : Have) (commit : List ℕ) (e : DirRow) (c : Option CommitView) → commit_at have commit ≡ c → at_root c ≡ directory e → Reached have commit e
from_root have commit e None is found = absurd (cc found)
from_root have commit e (Some c) is found =
    let row : root_row c ≡ e = cc in
    record {
      fuel = 65;
      depth = 0;
      sum = refl;
      sub = λ p h. inr (subst (λ k. In (below_commit have k) p) (sym is) (subst (λ (r : DirRow). In (dir_places have 65 0 r) p) (sym row) h));
    }

pub if_some : {A : Type 0} (b : Bool) (d e : A) (r : Option A) → if b then Some d else r ≡ Some e → (d ≡ e) ⊎ (r ≡ Some e)
if_some true d e r is = inl cc
if_some false d e r is = inr is

pub dir_found : (x : List ℕ) (es : List DirRow) (e : DirRow) → find_dir x es ≡ Some e → In es e
dir_found x [] e is = absurd (cc is)
dir_found x (d ∷ es) e is = elim (if_some (bytes_eq d.name x) d e (find_dir x es) is) [ inl h ↦ inl h | inr h ↦ inr (dir_found x es e h) ]

-- where the places of a directory stand in the order, it is not too deep, and so do those of its directories
entered : {have : Have} {commit : List ℕ} {e : DirRow} → first_fault have commit ≡ None → (r : Reached have commit e) (v : TreeView) → tree_at have e.tree ≡ Some v
    → (fuel : ℕ) × (suc fuel + r.depth ≡ 65) × ((p : Place) → In (inside (dir_places have fuel (suc r.depth)) r.depth (Some v)) p → In (order have commit) p)
entered {have = have} {commit = commit} {e = e} none r v is = go r.fuel r.sum r.sub
  where
    go : (fuel : ℕ) → fuel + r.depth ≡ 65 → ((p : Place) → In (dir_places have fuel r.depth e) p → In (order have commit) p)
        → (f : ℕ) × (suc f + r.depth ≡ 65) × ((p : Place) → In (inside (dir_places have f (suc r.depth)) r.depth (Some v)) p → In (order have commit) p)
    go zero sum sub =
        let deep : r.depth ≡ 65 = omega (arith, sum) in
        absurd (false≢true (sym (faultless have 0 (order have commit) none (tree_place r.depth e) (tree_reached r)).0 ∙ ap (leb 65) deep))
    go (suc f) sum sub = (f, sum, λ p h. sub p (inr (inr (subst (λ k. In (inside (dir_places have f (suc r.depth)) r.depth k) p) (sym is) h))))

pub either_dir : (d : Option DirRow) (f : Option FileRow) (e : DirRow) → either d f ≡ directory e → d ≡ Some e
either_dir None None e is = absurd (cc is)
either_dir None (Some f) e is = absurd (cc is)
either_dir (Some d) f e is = cc

either_file : (d : Option DirRow) (f : Option FileRow) (digest : List ℕ) → either d f ≡ file_at digest → (row : FileRow) × (f ≡ Some row) × (row.digest ≡ digest)
either_file None None digest is = absurd (cc is)
either_file None (Some f) digest is = (f, refl, cc)
either_file (Some d) f digest is = absurd (cc is)

file_found : (x : List ℕ) (fs : List FileRow) (f : FileRow) (depth : ℕ) → find_file x fs ≡ Some f → In (file_places depth fs) (file_place depth f)
file_found x [] f depth is = absurd (cc is)
file_found x (g ∷ fs) f depth is = elim (if_some (bytes_eq g.name x) g f (find_file x fs) is) [ inl h ↦ inl (ap (file_place depth) h) | inr h ↦ inr (file_found x fs f depth h) ]

-- as deep as its path is long
pub reached_at : (have : Have) (commit : List ℕ) → first_fault have commit ≡ None → (rest : Elements) (e : DirRow) → look have commit rest ≡ directory e
    → (r : Reached have commit e) × (r.depth ≡ length rest)
unfolding from_root
reached_at have commit none [] e found = (from_root have commit e (commit_at have commit) refl found, at_zero (commit_at have commit) refl found)
  where
    at_zero : (c : Option CommitView) (is : commit_at have commit ≡ c) (h : at_root c ≡ directory e) → (from_root have commit e c is h).depth ≡ 0
    at_zero None is h = absurd (cc h)
    at_zero (Some c) is h = refl
reached_at have commit none (x ∷ up) e found = by_found (look have commit up) (λ d h. reached_at have commit none up d h) found
  where
    by_view : (r : DirRow) → (s : Reached have commit r) × (s.depth ≡ length up) → (v : Option TreeView) → tree_at have r.tree ≡ v → entry_in x v ≡ directory e
        → (s : Reached have commit e) × (s.depth ≡ length (x ∷ up))
    by_view d r None is h = absurd (cc h)
    by_view d r (Some v) is h =
        let in_dirs = dir_found x v.dirs e (either_dir (find_dir x v.dirs) (find_file x v.files) e h) in
        let n = entered none r.0 v is in (
          record {
            fuel = n.0;
            depth = suc r.0.depth;
            sum = omega (arith, n.1);
            sub = λ p k. n.2 p (in_right (file_places r.0.depth v.files) _ p (in_each (dir_places have n.0 (suc r.0.depth)) v.dirs e p in_dirs k));
          },
          ap suc r.1,
        )

    by_found : (f : Found) → ((d : DirRow) → f ≡ directory d → (s : Reached have commit d) × (s.depth ≡ length up)) → next have x f ≡ directory e
        → (s : Reached have commit e) × (s.depth ≡ length (x ∷ up))
    by_found nothing above h = absurd (cc h)
    by_found (file_at d) above h = absurd (cc h)
    by_found (directory d) above h = by_view d (above d refl) (tree_at have d.tree) refl h

pub reached : (have : Have) (commit : List ℕ) → first_fault have commit ≡ None → (rest : Elements) (e : DirRow) → look have commit rest ≡ directory e → Reached have commit e
reached have commit none rest e found = (reached_at have commit none rest e found).0

-- a file that Look finds stands in the order
pub file_reached : (have : Have) (commit : List ℕ) → first_fault have commit ≡ None → (rest : Elements) (digest : List ℕ) → look have commit rest ≡ file_at digest
    → FileReached have commit digest
file_reached have commit none [] digest found = go (commit_at have commit) found
  where
    go : {X : Type 0} (c : Option CommitView) → at_root c ≡ file_at digest → X
    go None h = absurd (cc h)
    go (Some c) h = absurd (cc h)
file_reached have commit none (x ∷ up) digest found = by_found (look have commit up) (λ d h. reached have commit none up d h) found
  where
    by_view : (r : DirRow) → Reached have commit r → (v : Option TreeView) → tree_at have r.tree ≡ v → entry_in x v ≡ file_at digest → FileReached have commit digest
    by_view d r None is h = absurd (cc h)
    by_view d r (Some v) is h =
        let f = either_file (find_dir x v.dirs) (find_file x v.files) digest h in
        let n = entered none r v is in
        record {
          place = file_place r.depth f.0;
          within = n.2 (file_place r.depth f.0) (in_left (file_places r.depth v.files) _ (file_place r.depth f.0) (file_found x v.files f.0 r.depth f.1));
          digest_is = f.2;
          kind_is = refl;
        }

    by_found : (f : Found) → ((d : DirRow) → f ≡ directory d → Reached have commit d) → next have x f ≡ file_at digest → FileReached have commit digest
    by_found nothing above h = absurd (cc h)
    by_found (file_at d) above h = absurd (cc h)
    by_found (directory d) above h = by_view d (above d refl) (tree_at have d.tree) refl h

next_same : (i j : Have) (x : List ℕ) (f : Found) → ((e : DirRow) → f ≡ directory e → j e.tree kinds.DirTree ≡ i e.tree kinds.DirTree) → next j x f ≡ next i x f
next_same i j x nothing same = refl
next_same i j x (file_at d) same = refl
next_same i j x (directory e) same = ap (λ t. entry_in x (read_as tree_of t)) (same e refl)

-- Look depends on the objects of the order alone
pub look_same : (i j : Have) (commit : List ℕ) → first_fault i commit ≡ None → Agree i j (order i commit) → (rest : Elements) → look j commit rest ≡ look i commit rest
look_same i j commit none agree [] = ap (λ t. at_root (read_as commit_of t)) (agree (commit_place commit) (inl refl))
look_same i j commit none agree (x ∷ up) = ap (next j x) (look_same i j commit none agree up)
    ∙ next_same i j x (look i commit up) (λ e h. let r = reached i commit none up e h in agree (tree_place r.depth e) (tree_reached r))

-- ---- the first fault on a path

module _ (have : Have) (commit : List ℕ) (none : first_fault have commit ≡ None) where
  -- a place of the order has no fault, whatever its number
  faultless_at : (p : Place) → In (order have commit) p → place_fault have 0 p ≡ None
  faultless_at p within =
      let good = faultless have 0 (order have commit) none p within in
      ap (λ b. if b then Some too_deep else object_fault p.digest p.kind (have p.digest p.kind)) good.0 ∙ good.1

  no_fault_in : (n depth : ℕ) (f : Found) → ((e : DirRow) → f ≡ directory e → In (order have commit) (tree_place depth e)) → first_of (λ k. place_fault have 0) n (found_places depth f) ≡ None
  no_fault_in n depth nothing within = refl
  no_fault_in n depth (file_at d) within = refl
  no_fault_in n depth (directory e) within = ap (λ f. option_or (found_at (tree_place depth e) f) None) (faultless_at (tree_place depth e) (within e refl))

  found_within : (rest : Elements) (e : DirRow) → look have commit rest ≡ directory e → In (order have commit) (tree_place (length rest) e)
  found_within rest e found =
      let r = reached_at have commit none rest e found in
      subst (λ k. In (order have commit) (tree_place k e)) r.1 (tree_reached r.0)

  pub no_fault_on_path : (path : Elements) → look_fault have commit path ≡ None
  no_fault_on_path [] =
      ap (λ f. option_or (found_at (commit_place commit) f) (first_of (λ k. place_fault have 0) 1 (found_places 0 (look have commit [])))) (faultless_at (commit_place commit) (inl refl))
      ∙ no_fault_in 1 0 (look have commit []) (found_within [])
  no_fault_on_path (x ∷ up) =
      first_append (λ k. place_fault have 0) 0 (look_places have commit up) (found_places (length (x ∷ up)) (look have commit (x ∷ up)))
      ∙ ap (λ f. option_or f (first_of (λ k. place_fault have 0) (0 + length (look_places have commit up)) (found_places (length (x ∷ up)) (look have commit (x ∷ up))))) (no_fault_on_path up)
      ∙ no_fault_in (0 + length (look_places have commit up)) (length (x ∷ up)) (look have commit (x ∷ up)) (found_within (x ∷ up))

pub found_cases : (found : Found) → (found ≡ nothing) ⊎ (found ≡ nothing → ⊥)
found_cases nothing = inl refl
found_cases (directory e) = inr (λ is. cc is)
found_cases (file_at d) = inr (λ is. cc is)
