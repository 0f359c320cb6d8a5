-- The exports of an installation's applications.
use Rattle.std.specs.Prelude.{◌≡◌, ℕ, ◌&&◌, List, [], ◌∷◌, ◌++◌, Option, Some, None, option_and_then, option_map, option_to_list, codes, if◌then◌else◌}
use Rattle.std.specs.List.{flat_map}
use Rattle.std.specs.Cmp.Lexicographic.{slice_cmp}
use Rattle.std.specs.Ordering.{is_lt, is_eq, nat_cmp}
use Rattle.std.specs.declared.cmp.Ordering.{Ordering}
use Rattle.fp_base.specs.declared.object.ObjKind.TheVariants as kinds
use Rattle.fp_host.specs.Paths.{is_element, path_text}
use Rattle.fp_name.specs.declared.kind.RefKind.{RefKind}
use Rattle.fp_name.specs.declared.kind.RefKind.TheVariants.{App, Runtime}
use Rattle.fp_name.specs.Refs.{Ref}
use Rattle.fp_small.specs.declared.state.State.{State}
use Rattle.fp_small.specs.declared.state.RefRow.{RefRow}
use Rattle.ost_model.specs.Fields.{FileRow, DirRow}
use Rattle.ost_model.specs.Objects.{Have}
use Rattle.ost_model.specs.Order.{In, Agree, order}
use Rattle.fl_export.specs.declared.rows.ExportRow.{ExportRow}
use Rattle.fl_export.specs.declared.rows.ExportWhat.TheVariants as what
use Rattle.fl_export.specs.Rewritten.{rewritten}
use Rattle.fl_export.specs.Texts.{is_own, is_desktop, applications, hicolor, desktop_path, icon_path, link_text}
use Rattle.fl_export.specs.Trees.{files_in, dirs_in, tree_look, tree_next, is_file, short_content}

-- The path `export` in a commit
abbrev pub in_export : List (List ℕ)
in_export = codes "export" ∷ []

-- ---- desktop files

-- The row of a desktop file with this text
abbrev pub desktop_row : Ref → List ℕ → List ℕ → ExportRow
desktop_row name file text = record { path = desktop_path file; name = name; what = what.Text text }

-- The row of a file in `export/share/applications`, if it is exported: its name is the
-- application's own and ends in `.desktop`, and its content is a key file of at most 1 MiB
abbrev pub desktop_of : Have → Ref → FileRow → Option ExportRow
desktop_of have name f =
    if is_own name f.name && is_desktop f.name
    then option_map (desktop_row name f.name)
    (option_and_then (λ bytes. rewritten bytes name) (short_content (have f.digest kinds.File)))
    else None

-- The rows of the exported desktop files among these files
abbrev pub desktop_files : Have → Ref → List FileRow → List ExportRow
desktop_files have name files = flat_map (λ f. option_to_list (desktop_of have name f)) files

-- ---- icons

-- The row of an icon, which is exported as a symlink
abbrev pub icon_row : Ref → List ℕ → List ℕ → ExportRow
icon_row name size file = record {
  path = icon_path size file;
  name = name;
  what = what.Link (link_text name (icon_path size file));
}

-- The row of a file in the icons of a size, if it is exported: its name is the application's own,
-- and its object is a regular file
abbrev pub icon_of : Have → Ref → List ℕ → FileRow → Option ExportRow
icon_of have name size f = if is_own name f.name && is_file (have f.digest kinds.File)
    then Some (icon_row name size f.name) else None

-- The rows of the exported icons among these files of a size
abbrev pub icon_files : Have → Ref → List ℕ → List FileRow → List ExportRow
icon_files have name size files = flat_map (λ f. option_to_list (icon_of have name size f)) files

-- The rows of the exported icons in the directory of a size; none if its name isn't a valid path
-- element
abbrev pub icons_of : Have → Ref → DirRow → List ExportRow
icons_of have name size = if is_element size.name
    then icon_files have name size.name (files_in (tree_next have (codes "apps") size)) else []

-- The rows of the exported icons in the directories of these sizes
abbrev pub icons : Have → Ref → List DirRow → List ExportRow
icons have name sizes = flat_map (icons_of have name) sizes

-- ---- all exports, in order

-- The rows of the desktop files in `export/share/applications` of an application's commit
abbrev pub desktops_by : Have → Ref → List ℕ → List ExportRow
desktops_by have name commit =
    desktop_files have name (files_in (tree_look have commit (applications in_export)))

-- The rows of the icons in `export/share/icons/hicolor/SIZE/apps` of an application's commit
abbrev pub icons_by : Have → Ref → List ℕ → List ExportRow
icons_by have name commit = icons have name (dirs_in (tree_look have commit (hicolor in_export)))

-- The rows that an application's commit exports: the desktop files, then the icons
abbrev pub exported_by : Have → Ref → List ℕ → List ExportRow
exported_by have name commit = desktops_by have name commit ++ icons_by have name commit

-- The rows, if the kind is that of an application
abbrev pub if_app : RefKind → List ExportRow → List ExportRow
if_app App rows = rows
if_app Runtime rows = []

-- The rows that a deployed ref's commit exports; none for a runtime
abbrev pub exported_at : Have → RefRow → List ExportRow
exported_at have row = if_app row.name.kind (exported_by have row.name row.commit)

-- The rows that the commits of these refs export, in the order of the refs
abbrev pub all_exported : Have → List RefRow → List ExportRow
all_exported have rows = flat_map (exported_at have) rows

-- The text of a row's path, by which rows are ordered
abbrev pub key : ExportRow → List ℕ
key row = path_text row.path

-- The rows `y ∷ rows` with `x` inserted, by how the path of `x` compares to that of `y`: before `y`
-- if less, in place of `y` if equal, else after `y`, as in `put`
abbrev pub by_order : Ordering → ExportRow → ExportRow → List ExportRow → List ExportRow
    → List ExportRow
by_order o x y rows put = if is_lt o then x ∷ y ∷ rows else (if is_eq o then x ∷ rows else y ∷ put)

-- The ascending rows with one more inserted, which replaces a row with the same path
abbrev pub put_in : ExportRow → List ExportRow → List ExportRow
put_in x [] = x ∷ []
put_in x (y ∷ rows) = by_order (slice_cmp nat_cmp (key x) (key y)) x y rows (put_in x rows)

-- The rows ascending by path; of several with the same path, the first is kept
abbrev pub in_order : List ExportRow → List ExportRow
in_order [] = []
in_order (x ∷ rows) = put_in x (in_order rows)

-- The exports of an installation in this state, ascending by path
unfoldable pub exported : Have → State → List ExportRow
exported have s = in_order (all_exported have s.refs)

-- The exports depend only on the objects in the orders of the deployed commits
abbrev pub ExportedIsLocal : Type 0
ExportedIsLocal = (i j : Have) (s : State)
    → ((row : RefRow) → In s.refs row → Agree i j (order i row.commit))
    → exported j s ≡ exported i s
