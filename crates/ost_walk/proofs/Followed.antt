-- One path, followed name by name.
use Rattle.std.proofs.Common.{◌≡◌, ◌+◌, ◌-◌, ◌<◌, ◌≤◌, ℕ, zero, suc, List, [], ◌∷◌, ◌++◌, take, drop, length, Option, Some, None, refl, sym, ◌∙◌, ap, subst, arith}
use Rattle.std.specs.Option.{option_or}
use Rattle.std.specs.Prelude.{option_map}
use Rattle.std.proofs.lemmas.List.{take-append-drop, length-drop}
use Rattle.fp_host.specs.Paths.{Elements}
use Rattle.fp_base.specs.declared.object.ObjKind.TheVariants as kinds
use Rattle.ost_model.specs.Fields.{DirRow, FileRow, TreeView}
use Rattle.ost_model.specs.Objects.{Have, Fault}
use Rattle.ost_model.specs.Order.{Place, commit_place, tree_place, place_fault, walk_fault, first_of, found_at, tree_at, root_row}
use Rattle.ost_model.specs.Look.{Found, nothing, directory, file_at, find_dir, find_file, either, entry_in, next, at_root, look, found_places, look_places, look_fault}
use Rattle.ost_model.proofs.Pending.{first_append}
use Rattle.ost_walk.specs.declared.dirs.Dir.{Dir}
use Rattle.ost_walk.specs.declared.ends.WalkEnd.{WalkEnd}
use Rattle.ost_walk.specs.declared.ends.WalkEnd.TheVariants as ends
use Rattle.ost_walk.specs.declared.found.Here.{Here}
use Rattle.ost_walk.specs.declared.found.Here.TheVariants as here
use Rattle.ost_walk.specs.Dirs.{child}
use Rattle.ost_walk.specs.Ends.{RefusesBy, IsFaultOf, IsFirst}
use Rattle.ost_walk.specs.Steps.{IsRoot, IsTree, own_fault, tree_of}
use Rattle.ost_walk.specs.Looked.{IsDirAt, IsLeafAt, IsHere, file_digest}
use Rattle.ost_walk.proofs.Checked.{fault_first}

-- the test of each object that is read
abbrev read_fault : Have → ℕ → Place → Option Fault
read_fault have n p = place_fault have 0 p

same_first : {f g : Option (Place × Fault)} (end : WalkEnd) → f ≡ g → RefusesBy (IsFirst f) end → RefusesBy (IsFirst g) end
same_first end same r = subst (λ (f : Option (Place × Fault)). RefusesBy (IsFirst f) end) same r

module _ (have : Have) (commit : List ℕ) where
  -- ---- a fault above

  longer : (x : List ℕ) (up : Elements) (found : Place × Fault) → look_fault have commit up ≡ Some found → look_fault have commit (x ∷ up) ≡ Some found
  longer x up found is =
      let rest = found_places (length (x ∷ up)) (look have commit (x ∷ up)) in
      first_append (read_fault have) 0 (look_places have commit up) rest ∙ ap (λ f. option_or f (first_of (read_fault have) (0 + length (look_places have commit up)) rest)) is

  longer_by : (rest up : Elements) (found : Place × Fault) → look_fault have commit up ≡ Some found → look_fault have commit (rest ++ up) ≡ Some found
  longer_by [] up found is = is
  longer_by (x ∷ rest) up found is = longer x (rest ++ up) found (longer_by rest up found is)

  -- the first fault above is that of the path
  pub fault_above : (path : Elements) (n : ℕ) (end : WalkEnd) → RefusesBy (IsFirst (look_fault have commit (drop n path))) end → RefusesBy (IsFirst (look_fault have commit path)) end
  fault_above path n (ends.Refused w) is = record {
    depth = is.depth;
    is = ap (look_fault have commit) (sym (take-append-drop n path)) ∙ longer_by (take n path) (drop n path) _ is.is;
  }
  fault_above path n ends.HostFault is = tt
  fault_above path n ends.RemoteFault is = tt
  fault_above path n ends.NoMemory is = tt

  -- ---- the root

  module _ (dir : Dir) (root : IsRoot have commit dir) where
    root_is : look have commit [] ≡ directory (root_row root.view)
    root_is = ap at_root root.read

    root_place : tree_of dir ≡ tree_place 0 (root_row root.view)
    root_place = ap tree_of root.is

    root_fault : look_fault have commit [] ≡ first_of (read_fault have) 1 (tree_of dir ∷ [])
    root_fault =
        ap (λ f. first_of (read_fault have) 0 (commit_place commit ∷ found_places 0 f)) root_is
        ∙ ap (λ f. option_or (found_at (commit_place commit) f) (first_of (read_fault have) 1 (tree_place 0 (root_row root.view) ∷ []))) root.good
        ∙ ap (λ (p : Place). first_of (read_fault have) 1 (p ∷ [])) (sym root_place)

    pub at_start : (view : TreeView) → IsTree have 0 dir view → IsDirAt have commit [] view 0
    at_start view tree = record {
      row = root_row root.view;
      is = root_is;
      read = ap (λ (d : Dir). tree_at have d.tree) (sym root.is) ∙ tree.read;
      deep = refl;
      clean = root_fault ∙ ap (λ f. option_or (found_at (tree_of dir) f) None) tree.good;
    }

    pub root_refused : (end : WalkEnd) → RefusesBy (IsFaultOf dir.tree kinds.DirTree (walk_fault have 0 (tree_of dir))) end → RefusesBy (IsFirst (look_fault have commit [])) end
    root_refused end is = same_first end (sym root_fault) (fault_first (read_fault have) 1 (tree_of dir) [] end is)

  pub commit_refused : (end : WalkEnd) → RefusesBy (IsFaultOf commit kinds.Commit (own_fault have commit kinds.Commit)) end → RefusesBy (IsFirst (look_fault have commit [])) end
  commit_refused end is = fault_first (read_fault have) 0 (commit_place commit) (found_places 0 (look have commit [])) end is

  -- ---- one name

  -- what is read at the next name is the first that may have a fault
  next_fault : (x : List ℕ) (up : Elements) (f : Found) → look_fault have commit up ≡ None → look have commit (x ∷ up) ≡ f
      → look_fault have commit (x ∷ up) ≡ first_of (read_fault have) (length (look_places have commit up)) (found_places (length (x ∷ up)) f)
  next_fault x up f clean is =
      let rest = found_places (length (x ∷ up)) (look have commit (x ∷ up)) in
      first_append (read_fault have) 0 (look_places have commit up) rest ∙ ap (λ g. option_or g (first_of (read_fault have) (0 + length (look_places have commit up)) rest)) clean
      ∙ ap (λ (n : ℕ). first_of (read_fault have) n rest) (plus (length (look_places have commit up))) ∙ ap (λ g. first_of (read_fault have) (length (look_places have commit up)) (found_places (length (x ∷ up)) g)) is
    where
      plus : (n : ℕ) → 0 + n ≡ n
      plus n = omega arith

  leaf_at : (x : List ℕ) (up : Elements) (f : Found) → look_fault have commit up ≡ None → look have commit (x ∷ up) ≡ f → found_places (length (x ∷ up)) f ≡ [] → IsLeafAt have commit (x ∷ up) f
  leaf_at x up f clean is none = record {
    is = is;
    clean = next_fault x up f clean is ∙ ap (first_of (read_fault have) (length (look_places have commit up))) none;
  }

  module _ (x : List ℕ) (up : Elements) (view : TreeView) (depth : ℕ) (at : IsDirAt have commit up view depth) where
    looked : look have commit (x ∷ up) ≡ either (find_dir x view.dirs) (find_file x view.files)
    looked = ap (next have x) at.is ∙ ap (entry_in x) at.read

    some_dir : (dir : Dir) (o : Option DirRow) → Some dir ≡ option_map (child (depth + 1)) o → (row : DirRow) × (o ≡ Some row) × (dir ≡ child (depth + 1) row)
    some_dir dir None is = absurd (cc is)
    some_dir dir (Some row) is = (row, refl, cc is)

    none_dir : {A : Type 0} (f : DirRow → A) (o : Option DirRow) → None ≡ option_map f o → o ≡ None
    none_dir f None is = refl
    none_dir f (Some row) is = absurd (cc is)

    some_file : (d : List ℕ) (o : Option FileRow) → Some d ≡ option_map file_digest o → (row : FileRow) × (o ≡ Some row) × (d ≡ row.digest)
    some_file d None is = absurd (cc is)
    some_file d (Some row) is = (row, refl, cc is)

    none_file : (o : Option FileRow) → None ≡ option_map file_digest o → o ≡ None
    none_file None is = refl
    none_file (Some row) is = absurd (cc is)

    module _ (dir : Dir) (found : Some dir ≡ option_map (child (depth + 1)) (find_dir x view.dirs)) where
      row_of : (row : DirRow) × (find_dir x view.dirs ≡ Some row) × (dir ≡ child (depth + 1) row)
      row_of = some_dir dir (find_dir x view.dirs) found

      dir_is : look have commit (x ∷ up) ≡ directory row_of.0
      dir_is = looked ∙ ap (λ o. either o (find_file x view.files)) row_of.1

      long : depth + 1 ≡ length (x ∷ up)
      long = omega (arith, at.deep)

      place_is : tree_place (length (x ∷ up)) row_of.0 ≡ tree_of dir
      place_is = ap (λ (n : ℕ). tree_place n row_of.0) (sym long) ∙ ap tree_of (sym row_of.2)

      dir_fault : look_fault have commit (x ∷ up) ≡ first_of (read_fault have) (length (look_places have commit up)) (tree_of dir ∷ [])
      dir_fault = next_fault x up (directory row_of.0) at.clean dir_is ∙ ap (λ (p : Place). first_of (read_fault have) (length (look_places have commit up)) (p ∷ [])) place_is

      pub dir_at : (inner : TreeView) → IsTree have 0 dir inner → IsDirAt have commit (x ∷ up) inner (depth + 1)
      dir_at inner tree = record {
        row = row_of.0;
        is = dir_is;
        read = ap (λ (d : Dir). tree_at have d.tree) (sym row_of.2) ∙ tree.read;
        deep = long;
        clean = dir_fault ∙ ap (λ f. option_or (found_at (tree_of dir) f) None) tree.good;
      }

      pub dir_refused : (end : WalkEnd) → RefusesBy (IsFaultOf dir.tree kinds.DirTree (walk_fault have 0 (tree_of dir))) end → RefusesBy (IsFirst (look_fault have commit (x ∷ up))) end
      dir_refused end is = same_first end (sym dir_fault) (fault_first (read_fault have) (length (look_places have commit up)) (tree_of dir) [] end is)

    module _ (no_dir : None ≡ option_map (child (depth + 1)) (find_dir x view.dirs)) where
      no_dir_is : look have commit (x ∷ up) ≡ either None (find_file x view.files)
      no_dir_is = looked ∙ ap (λ o. either o (find_file x view.files)) (none_dir (child (depth + 1)) (find_dir x view.dirs) no_dir)

      pub file_here : (d : List ℕ) → Some d ≡ option_map file_digest (find_file x view.files) → IsLeafAt have commit (x ∷ up) (file_at d)
      file_here d found =
          let row = some_file d (find_file x view.files) found in
          leaf_at x up (file_at d) at.clean (no_dir_is ∙ ap (either None) row.1 ∙ ap file_at (sym row.2)) refl

      pub none_here : None ≡ option_map file_digest (find_file x view.files) → IsLeafAt have commit (x ∷ up) nothing
      none_here found = leaf_at x up nothing at.clean (no_dir_is ∙ ap (either None) (none_file (find_file x view.files) found)) refl

  -- nothing is below what is no directory
  pub none_below : (x : List ℕ) (up : Elements) (h : Here) → ((tree : _) (depth : ℕ) → h ≡ here.Dir tree depth → ⊥) → IsHere have commit up h → IsLeafAt have commit (x ∷ up) nothing
  none_below x up (here.Dir tree depth) off at = absurd (off tree depth refl)
  none_below x up (here.File d) off at = leaf_at x up nothing at.clean (ap (next have x) at.is) refl
  none_below x up here.Nothing off at = leaf_at x up nothing at.clean (ap (next have x) at.is) refl

-- ---- what is left of a path

pub dropped : (k : ℕ) (p : Elements) → drop 1 (drop k p) ≡ drop (suc k) p
dropped zero p = refl
dropped (suc k) [] = refl
dropped (suc k) (x ∷ p) = dropped k p

pub one_less : (n : ℕ) (p step : Elements) → 0 < n → step ≡ drop (n - 1) p → drop 1 step ≡ drop n p
one_less n p step some is =
    let same : suc (n - 1) ≡ n = omega (arith, some) in
    ap (drop 1) is ∙ dropped (n - 1) p ∙ ap (λ (k : ℕ). drop k p) same

pub some_left : (n : ℕ) (p step : Elements) → 0 < n → n ≤ length p → step ≡ drop (n - 1) p → step ≡ [] → ⊥
some_left n p step some within is none = omega (arith, some, within, length-drop (n - 1) p, ap (λ (l : Elements). length l) (sym is ∙ none))
