-- What is exported depends on the objects of the orders of the commits, also where they have
-- faults.
use Rattle.std.proofs.Common.{◌≡◌, inl, inr, ℕ, zero, suc, List, [], ◌∷◌, ◌++◌, Option, Some, None, refl, sym, ◌∙◌, ap, subst}
use Rattle.std.specs.Prelude.{if◌then◌else◌, option_and_then, option_map, option_to_list, ◌&&◌, codes}
use Rattle.std.specs.List.{flat_map}
use Rattle.fp_base.specs.declared.object.ObjKind.TheVariants as kinds
use Rattle.fp_host.specs.Paths.{Elements, is_element}
use Rattle.fp_name.specs.Refs.{Ref}
use Rattle.fp_name.specs.declared.kind.RefKind.{RefKind}
use Rattle.fp_name.specs.declared.kind.RefKind.TheVariants.{App, Runtime}
use Rattle.fp_small.specs.declared.state.State.{State}
use Rattle.fp_small.specs.declared.state.RefRow.{RefRow}
use Rattle.ost_model.specs.declared.object.Object.{Object}
use Rattle.ost_model.specs.Fields.{CommitView, DirRow, FileRow, TreeView}
use Rattle.ost_model.specs.Readers.{tree_of, commit_of}
use Rattle.ost_model.specs.Objects.{Have}
use Rattle.ost_model.specs.Order.{In, Agree, read_as, tree_at, commit_at, tree_place, file_place, file_places, each_in, inside, dir_places, commit_place, below_commit, order}
use Rattle.ost_model.specs.Look.{Found, nothing, directory, file_at, find_dir, find_file, either, entry_in, next, at_root, look}
use Rattle.ost_model.proofs.Places.{in_each}
use Rattle.ost_model.proofs.Looked.{dir_found}
use Rattle.ost_model.proofs.Members.{in_left, in_right}
use Rattle.fl_export.specs.Rewritten.{rewritten}
use Rattle.fl_export.specs.Texts.{is_own, is_desktop, applications, hicolor}
use Rattle.fl_export.specs.Trees.{tree_found, tree_look, files_in, dirs_in, is_file, short_content}
use Rattle.fl_export.specs.Exported.{in_export, desktop_row, desktop_of, desktop_files, icon_row, icon_of, icon_files, icons_of, icons, desktops_by, icons_by, exported_by, if_app, exported_at, in_order, exported, ExportedIsLocal}

flat_same : {A B : Type 0} (f g : A → List B) (xs : List A) → ((x : A) → In xs x → f x ≡ g x) → flat_map f xs ≡ flat_map g xs
flat_same f g [] same = refl
flat_same f g (x ∷ xs) same = ap (λ l. l ++ flat_map f xs) (same x (inl refl)) ∙ ap (λ l. g x ++ l) (flat_same f g xs (λ y h. same y (inr h)))

file_in : (depth : ℕ) (fs : List FileRow) (f : FileRow) → In fs f → In (file_places depth fs) (file_place depth f)
file_in depth [] f none = absurd none
file_in depth (g ∷ fs) f (inl is) = inl (ap (file_place depth) is)
file_in depth (g ∷ fs) f (inr more) = inr (file_in depth fs f more)

module _ (i j : Have) where
  -- the two have the same objects in the directory, this number of levels down
  record IsHeld (fuel : ℕ) (e : DirRow) : Type 0 where
    depth : ℕ
    agree : Agree i j (dir_places i fuel depth e)

  tree_same : (fuel : ℕ) (e : DirRow) → IsHeld fuel e → tree_at j e.tree ≡ tree_at i e.tree
  tree_same zero e h = ap (read_as tree_of) (h.agree (tree_place h.depth e) (inl refl))
  tree_same (suc fuel) e h = ap (read_as tree_of) (h.agree (tree_place h.depth e) (inl refl))

  module _ (fuel : ℕ) (e : DirRow) (h : IsHeld (suc fuel) e) (v : TreeView) (at : tree_at i e.tree ≡ Some v) where
    inside_held : Agree i j (file_places h.depth v.files ++ each_in (dir_places i fuel (suc h.depth)) v.dirs)
    inside_held p has = h.agree p (inr (inr (subst (λ (o : Option TreeView). In (inside (dir_places i fuel (suc h.depth)) h.depth o) p) (sym at) has)))

    dir_held : (d : DirRow) → In v.dirs d → IsHeld fuel d
    dir_held d within = record {
      depth = suc h.depth;
      agree = λ p has. inside_held p (in_right (file_places h.depth v.files) (each_in (dir_places i fuel (suc h.depth)) v.dirs) p (in_each (dir_places i fuel (suc h.depth)) v.dirs d p within has));
    }

    file_held : (f : FileRow) → In v.files f → j f.digest kinds.File ≡ i f.digest kinds.File
    file_held f within = inside_held (file_place h.depth f) (in_left (file_places h.depth v.files) (each_in (dir_places i fuel (suc h.depth)) v.dirs) (file_place h.depth f) (file_in h.depth v.files f within))

  abbrev IsAlike : ℕ → Found → Type 0
  IsAlike fuel nothing = Unit {0}
  IsAlike fuel (file_at d) = Unit {0}
  IsAlike fuel (directory e) = IsHeld fuel e

  either_alike : (fuel : ℕ) (e : DirRow) (h : IsHeld (suc fuel) e) (v : TreeView) → tree_at i e.tree ≡ Some v → (x : List ℕ) (d : Option DirRow) (f : Option FileRow) → find_dir x v.dirs ≡ d → IsAlike fuel (either d f)
  either_alike fuel e h v at x (Some d) f is = dir_held fuel e h v at d (dir_found x v.dirs d is)
  either_alike fuel e h v at x None (Some f) is = tt
  either_alike fuel e h v at x None None is = tt

  entry_alike : (fuel : ℕ) (e : DirRow) → IsHeld (suc fuel) e → (x : List ℕ) (o : Option TreeView) → tree_at i e.tree ≡ o → IsAlike fuel (entry_in x o)
  entry_alike fuel e h x None at = tt
  entry_alike fuel e h x (Some v) at = either_alike fuel e h v at x (find_dir x v.dirs) (find_file x v.files) refl

  next_alike : (fuel : ℕ) (x : List ℕ) (f : Found) → IsAlike (suc fuel) f → IsAlike fuel (next i x f)
  next_alike fuel x nothing h = tt
  next_alike fuel x (file_at d) h = tt
  next_alike fuel x (directory e) h = entry_alike fuel e h x (tree_at i e.tree) refl

  next_same : (fuel : ℕ) (x : List ℕ) (f : Found) → IsAlike (suc fuel) f → next j x f ≡ next i x f
  next_same fuel x nothing h = refl
  next_same fuel x (file_at d) h = refl
  next_same fuel x (directory e) h = ap (entry_in x) (tree_same (suc fuel) e h)

  found_same : (fuel : ℕ) (f : Found) → IsAlike fuel f → tree_found j f ≡ tree_found i f
  found_same fuel nothing h = refl
  found_same fuel (file_at d) h = refl
  found_same fuel (directory e) h = tree_same fuel e h

  -- the same is found at the path, and has the same in it
  record IsSame (fuel : ℕ) (commit : List ℕ) (path : Elements) : Type 0 where
    same : look j commit path ≡ look i commit path
    alike : IsAlike fuel (look i commit path)

  below_same : (fuel : ℕ) (commit x : List ℕ) (up : Elements) → IsSame (suc fuel) commit up → IsSame fuel commit (x ∷ up)
  below_same fuel commit x up s = record {
    same = ap (next j x) s.same ∙ next_same fuel x (look i commit up) s.alike;
    alike = next_alike fuel x (look i commit up) s.alike;
  }

  tree_look_same : (fuel : ℕ) (commit : List ℕ) (path : Elements) → IsSame fuel commit path → tree_look j commit path ≡ tree_look i commit path
  tree_look_same fuel commit path s = ap (tree_found j) s.same ∙ found_same fuel (look i commit path) s.alike

  -- ---- files and directories

  desktop_same : (name : Ref) (f : FileRow) → j f.digest kinds.File ≡ i f.digest kinds.File → desktop_of j name f ≡ desktop_of i name f
  desktop_same name f same = ap (λ (o : Option Object). if is_own name f.name && is_desktop f.name then option_map (desktop_row name f.name) (option_and_then (λ bytes. rewritten bytes name) (short_content o)) else None) same

  icon_same : (name : Ref) (size : List ℕ) (f : FileRow) → j f.digest kinds.File ≡ i f.digest kinds.File → icon_of j name size f ≡ icon_of i name size f
  icon_same name size f same = ap (λ (o : Option Object). if is_own name f.name && is_file o then Some (icon_row name size f.name) else None) same

  module _ (name : Ref) where
    desktops_in : (fuel : ℕ) (f : Found) → IsAlike (suc fuel) f → desktop_files j name (files_in (tree_found i f)) ≡ desktop_files i name (files_in (tree_found i f))
    desktops_in fuel nothing h = refl
    desktops_in fuel (file_at d) h = refl
    desktops_in fuel (directory e) h = by_tree (tree_at i e.tree) refl
      where
        by_tree : (o : Option TreeView) → tree_at i e.tree ≡ o → desktop_files j name (files_in o) ≡ desktop_files i name (files_in o)
        by_tree None at = refl
        by_tree (Some v) at = flat_same (λ f. option_to_list (desktop_of j name f)) (λ f. option_to_list (desktop_of i name f)) v.files (λ f within. ap option_to_list (desktop_same name f (file_held fuel e h v at f within)))

    icons_in : (fuel : ℕ) (size : List ℕ) (f : Found) → IsAlike (suc fuel) f → icon_files j name size (files_in (tree_found i f)) ≡ icon_files i name size (files_in (tree_found i f))
    icons_in fuel size nothing h = refl
    icons_in fuel size (file_at d) h = refl
    icons_in fuel size (directory e) h = by_tree (tree_at i e.tree) refl
      where
        by_tree : (o : Option TreeView) → tree_at i e.tree ≡ o → icon_files j name size (files_in o) ≡ icon_files i name size (files_in o)
        by_tree None at = refl
        by_tree (Some v) at = flat_same (λ f. option_to_list (icon_of j name size f)) (λ f. option_to_list (icon_of i name size f)) v.files (λ f within. ap option_to_list (icon_same name size f (file_held fuel e h v at f within)))

    size_same : (fuel : ℕ) (d : DirRow) → IsHeld (suc (suc fuel)) d → icons_of j name d ≡ icons_of i name d
    size_same fuel d h =
        ap (λ t. if is_element d.name then icon_files j name d.name (files_in t) else []) (ap (tree_found j) (next_same (suc fuel) (codes "apps") (directory d) h) ∙ found_same (suc fuel) (next i (codes "apps") (directory d)) (next_alike (suc fuel) (codes "apps") (directory d) h))
        ∙ ap (λ l. if is_element d.name then l else []) (icons_in fuel d.name (next i (codes "apps") (directory d)) (next_alike (suc fuel) (codes "apps") (directory d) h))

    sizes_in : (fuel : ℕ) (f : Found) → IsAlike (suc (suc (suc fuel))) f → icons j name (dirs_in (tree_found i f)) ≡ icons i name (dirs_in (tree_found i f))
    sizes_in fuel nothing h = refl
    sizes_in fuel (file_at d) h = refl
    sizes_in fuel (directory e) h = by_tree (tree_at i e.tree) refl
      where
        by_tree : (o : Option TreeView) → tree_at i e.tree ≡ o → icons j name (dirs_in o) ≡ icons i name (dirs_in o)
        by_tree None at = refl
        by_tree (Some v) at = flat_same (icons_of j name) (icons_of i name) v.dirs (λ d within. size_same fuel d (dir_held (suc (suc fuel)) e h v at d within))

  -- ---- commits

  module _ (commit : List ℕ) (agree : Agree i j (order i commit)) where
    root_alike : (c : Option CommitView) → commit_at i commit ≡ c → IsAlike 65 (at_root c)
    root_alike None at = tt
    root_alike (Some c) at = record { depth = 0; agree = λ p has. agree p (inr (subst (λ (o : Option CommitView). In (below_commit i o) p) (sym at) has)) }

    root_same : IsSame 65 commit []
    root_same = record { same = ap (λ (o : Option Object). at_root (read_as commit_of o)) (agree (commit_place commit) (inl refl)); alike = root_alike (commit_at i commit) refl }

    share_same : IsSame 63 commit (codes "share" ∷ in_export)
    share_same = below_same 63 commit (codes "share") in_export (below_same 64 commit (codes "export") [] root_same)

    apps_same : IsSame 62 commit (applications in_export)
    apps_same = below_same 62 commit (codes "applications") (codes "share" ∷ in_export) share_same

    hicolor_same : IsSame 61 commit (hicolor in_export)
    hicolor_same = below_same 61 commit (codes "hicolor") (codes "icons" ∷ (codes "share" ∷ in_export)) (below_same 62 commit (codes "icons") (codes "share" ∷ in_export) share_same)

    commit_same : (name : Ref) → exported_by j name commit ≡ exported_by i name commit
    commit_same name =
        ap (λ l. l ++ icons_by j name commit) (ap (λ t. desktop_files j name (files_in t)) (tree_look_same 62 commit (applications in_export) apps_same) ∙ desktops_in name 61 (look i commit (applications in_export)) apps_same.alike)
        ∙ ap (λ l. desktops_by i name commit ++ l) (ap (λ t. icons j name (dirs_in t)) (tree_look_same 61 commit (hicolor in_export) hicolor_same) ∙ sizes_in name 58 (look i commit (hicolor in_export)) hicolor_same.alike)

  at_same : (row : RefRow) (kind : RefKind) → Agree i j (order i row.commit) → if_app kind (exported_by j row.name row.commit) ≡ if_app kind (exported_by i row.name row.commit)
  at_same row App agree = commit_same row.commit agree row.name
  at_same row Runtime agree = refl

  pub exported_same : (s : State) → ((row : RefRow) → In s.refs row → Agree i j (order i row.commit)) → exported j s ≡ exported i s
  unfolding exported
  exported_same s agree = ap in_order (flat_same (exported_at j) (exported_at i) s.refs (λ row within. at_same row row.name.kind (agree row within)))

pub exported_is_local : ExportedIsLocal
exported_is_local i j s agree = exported_same i j s agree
