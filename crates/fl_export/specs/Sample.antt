-- A sample application with a desktop file and an icon, as the objects of its commit. Each digest
-- is one byte repeated 32 times; the definitions here don't depend on whether a digest matches its
-- object.
use Rattle.std.specs.Prelude.{ℕ, List, [], ◌∷◌, codes, Option, Some, None, if◌then◌else◌}
use Rattle.std.specs.Str.{bytes_eq}
use Rattle.fp_base.specs.declared.object.ObjKind.TheVariants as kinds
use Rattle.fp_name.specs.declared.kind.RefKind.TheVariants.{App, Runtime}
use Rattle.fp_name.specs.Refs.{Ref, ref_with}
use Rattle.fp_small.specs.declared.state.RefRow.{RefRow}
use Rattle.fp_small.specs.declared.state.State.{State}
use Rattle.fp_small.specs.declared.state.Layout.TheVariants.{Two}
use Rattle.ost_model.specs.declared.object.Object.{Object}
use Rattle.ost_model.specs.declared.object.Object.TheVariants as objects
use Rattle.ost_model.specs.Fields.{DirRow, FileRow}
use Rattle.ost_model.specs.Objects.{Have}
use Rattle.fl_export.specs.declared.rows.ExportRow.{ExportRow}
use Rattle.fl_export.specs.Exported.{desktop_row, icon_row}

-- The digest of this byte, repeated 32 times
abbrev pub digest : ℕ → List ℕ
digest n = n ∷ n ∷ n ∷ n ∷ n ∷ n ∷ n ∷ n ∷ n ∷ n ∷ n ∷ n ∷ n ∷ n ∷ n ∷ n ∷ n ∷ n ∷ n ∷ n ∷ n ∷ n
    ∷ n ∷ n ∷ n ∷ n ∷ n ∷ n ∷ n ∷ n ∷ n ∷ n ∷ []

-- The commit, whose root has the dirtree 2 and the dirmeta 9
abbrev pub commit_bytes : List ℕ
commit_bytes = 0 ∷ 0 ∷ 0 ∷ 0 ∷ 0 ∷ 0 ∷ 0 ∷ 0 ∷ 0 ∷ 0 ∷ 0 ∷ 0 ∷ 0 ∷ 0 ∷ 0 ∷ 7 ∷ 2 ∷ 2 ∷ 2 ∷ 2 ∷ 2 ∷
    2 ∷ 2 ∷ 2 ∷ 2 ∷ 2 ∷ 2 ∷ 2 ∷ 2 ∷ 2 ∷ 2 ∷ 2 ∷ 2 ∷ 2 ∷ 2 ∷ 2 ∷ 2 ∷ 2 ∷ 2 ∷ 2 ∷ 2 ∷ 2 ∷ 2 ∷ 2 ∷ 2 ∷
    2 ∷ 2 ∷ 2 ∷ 9 ∷ 9 ∷ 9 ∷ 9 ∷ 9 ∷ 9 ∷ 9 ∷ 9 ∷ 9 ∷ 9 ∷ 9 ∷ 9 ∷ 9 ∷ 9 ∷ 9 ∷ 9 ∷ 9 ∷ 9 ∷ 9 ∷ 9 ∷ 9 ∷
    9 ∷ 9 ∷ 9 ∷ 9 ∷ 9 ∷ 9 ∷ 9 ∷ 9 ∷ 9 ∷ 9 ∷ 9 ∷ 48 ∷ 2 ∷ 1 ∷ 0 ∷ 0 ∷ 0 ∷ []

-- The dirtree of the root: the directory `export`
abbrev pub root_bytes : List ℕ
root_bytes = 101 ∷ 120 ∷ 112 ∷ 111 ∷ 114 ∷ 116 ∷ 0 ∷ 3 ∷ 3 ∷ 3 ∷ 3 ∷ 3 ∷ 3 ∷ 3 ∷ 3 ∷ 3 ∷ 3 ∷ 3 ∷ 3 ∷
    3 ∷ 3 ∷ 3 ∷ 3 ∷ 3 ∷ 3 ∷ 3 ∷ 3 ∷ 3 ∷ 3 ∷ 3 ∷ 3 ∷ 3 ∷ 3 ∷ 3 ∷ 3 ∷ 3 ∷ 3 ∷ 3 ∷ 3 ∷ 9 ∷ 9 ∷ 9 ∷ 9 ∷
    9 ∷ 9 ∷ 9 ∷ 9 ∷ 9 ∷ 9 ∷ 9 ∷ 9 ∷ 9 ∷ 9 ∷ 9 ∷ 9 ∷ 9 ∷ 9 ∷ 9 ∷ 9 ∷ 9 ∷ 9 ∷ 9 ∷ 9 ∷ 9 ∷ 9 ∷ 9 ∷ 9 ∷
    9 ∷ 9 ∷ 9 ∷ 9 ∷ 39 ∷ 7 ∷ 73 ∷ 0 ∷ []

-- The dirtree of `export`: the directory `share`
abbrev pub export_bytes : List ℕ
export_bytes = 115 ∷ 104 ∷ 97 ∷ 114 ∷ 101 ∷ 0 ∷ 4 ∷ 4 ∷ 4 ∷ 4 ∷ 4 ∷ 4 ∷ 4 ∷ 4 ∷ 4 ∷ 4 ∷ 4 ∷ 4 ∷ 4 ∷
    4 ∷ 4 ∷ 4 ∷ 4 ∷ 4 ∷ 4 ∷ 4 ∷ 4 ∷ 4 ∷ 4 ∷ 4 ∷ 4 ∷ 4 ∷ 4 ∷ 4 ∷ 4 ∷ 4 ∷ 4 ∷ 4 ∷ 9 ∷ 9 ∷ 9 ∷ 9 ∷ 9 ∷
    9 ∷ 9 ∷ 9 ∷ 9 ∷ 9 ∷ 9 ∷ 9 ∷ 9 ∷ 9 ∷ 9 ∷ 9 ∷ 9 ∷ 9 ∷ 9 ∷ 9 ∷ 9 ∷ 9 ∷ 9 ∷ 9 ∷ 9 ∷ 9 ∷ 9 ∷ 9 ∷ 9 ∷
    9 ∷ 9 ∷ 9 ∷ 38 ∷ 6 ∷ 72 ∷ 0 ∷ []

-- The dirtree of `export/share`: the directories `applications` and `icons`
abbrev pub share_bytes : List ℕ
share_bytes = 97 ∷ 112 ∷ 112 ∷ 108 ∷ 105 ∷ 99 ∷ 97 ∷ 116 ∷ 105 ∷ 111 ∷ 110 ∷ 115 ∷ 0 ∷ 5 ∷ 5 ∷ 5 ∷
    5 ∷ 5 ∷ 5 ∷ 5 ∷ 5 ∷ 5 ∷ 5 ∷ 5 ∷ 5 ∷ 5 ∷ 5 ∷ 5 ∷ 5 ∷ 5 ∷ 5 ∷ 5 ∷ 5 ∷ 5 ∷ 5 ∷ 5 ∷ 5 ∷ 5 ∷ 5 ∷ 5 ∷
    5 ∷ 5 ∷ 5 ∷ 5 ∷ 5 ∷ 9 ∷ 9 ∷ 9 ∷ 9 ∷ 9 ∷ 9 ∷ 9 ∷ 9 ∷ 9 ∷ 9 ∷ 9 ∷ 9 ∷ 9 ∷ 9 ∷ 9 ∷ 9 ∷ 9 ∷ 9 ∷ 9 ∷
    9 ∷ 9 ∷ 9 ∷ 9 ∷ 9 ∷ 9 ∷ 9 ∷ 9 ∷ 9 ∷ 9 ∷ 9 ∷ 9 ∷ 9 ∷ 45 ∷ 13 ∷ 105 ∷ 99 ∷ 111 ∷ 110 ∷ 115 ∷ 0 ∷
    6 ∷
    6 ∷ 6 ∷ 6 ∷ 6 ∷ 6 ∷ 6 ∷ 6 ∷ 6 ∷ 6 ∷ 6 ∷ 6 ∷ 6 ∷ 6 ∷ 6 ∷ 6 ∷ 6 ∷ 6 ∷ 6 ∷ 6 ∷ 6 ∷ 6 ∷ 6 ∷ 6 ∷ 6 ∷
    6 ∷ 6 ∷ 6 ∷ 6 ∷ 6 ∷ 6 ∷ 6 ∷ 9 ∷ 9 ∷ 9 ∷ 9 ∷ 9 ∷ 9 ∷ 9 ∷ 9 ∷ 9 ∷ 9 ∷ 9 ∷ 9 ∷ 9 ∷ 9 ∷ 9 ∷ 9 ∷ 9 ∷
    9 ∷ 9 ∷ 9 ∷ 9 ∷ 9 ∷ 9 ∷ 9 ∷ 9 ∷ 9 ∷ 9 ∷ 9 ∷ 9 ∷ 9 ∷ 9 ∷ 9 ∷ 38 ∷ 6 ∷ 79 ∷ 151 ∷ 0 ∷ []

-- The dirtree of `export/share/applications`: the files of `desktop_files`
abbrev pub applications_bytes : List ℕ
applications_bytes = 111 ∷ 114 ∷ 103 ∷ 46 ∷ 120 ∷ 46 ∷ 65 ∷ 112 ∷ 112 ∷ 46 ∷ 100 ∷ 101 ∷ 115 ∷ 107 ∷
    116 ∷ 111 ∷ 112 ∷ 0 ∷ 20 ∷ 20 ∷ 20 ∷ 20 ∷ 20 ∷ 20 ∷ 20 ∷ 20 ∷ 20 ∷ 20 ∷ 20 ∷ 20 ∷ 20 ∷ 20 ∷ 20 ∷
    20 ∷ 20 ∷ 20 ∷ 20 ∷ 20 ∷ 20 ∷ 20 ∷ 20 ∷ 20 ∷ 20 ∷ 20 ∷ 20 ∷ 20 ∷ 20 ∷ 20 ∷ 20 ∷ 20 ∷ 18 ∷ 111 ∷
    114 ∷ 103 ∷ 46 ∷ 120 ∷ 46 ∷ 65 ∷ 112 ∷ 112 ∷ 46 ∷ 116 ∷ 120 ∷ 116 ∷ 0 ∷ 20 ∷ 20 ∷ 20 ∷ 20 ∷ 20 ∷
    20 ∷ 20 ∷ 20 ∷ 20 ∷ 20 ∷ 20 ∷ 20 ∷ 20 ∷ 20 ∷ 20 ∷ 20 ∷ 20 ∷ 20 ∷ 20 ∷ 20 ∷ 20 ∷ 20 ∷ 20 ∷ 20 ∷
    20 ∷ 20 ∷ 20 ∷ 20 ∷ 20 ∷ 20 ∷ 20 ∷ 20 ∷ 14 ∷ 111 ∷ 114 ∷ 103 ∷ 46 ∷ 120 ∷ 46 ∷ 65 ∷ 112 ∷ 112 ∷
    108 ∷ 101 ∷ 46 ∷ 100 ∷ 101 ∷ 115 ∷ 107 ∷ 116 ∷ 111 ∷ 112 ∷ 0 ∷ 20 ∷ 20 ∷ 20 ∷ 20 ∷ 20 ∷ 20 ∷
    20 ∷
    20 ∷ 20 ∷ 20 ∷ 20 ∷ 20 ∷ 20 ∷ 20 ∷ 20 ∷ 20 ∷ 20 ∷ 20 ∷ 20 ∷ 20 ∷ 20 ∷ 20 ∷ 20 ∷ 20 ∷ 20 ∷ 20 ∷
    20 ∷ 20 ∷ 20 ∷ 20 ∷ 20 ∷ 20 ∷ 20 ∷ 111 ∷ 116 ∷ 104 ∷ 101 ∷ 114 ∷ 46 ∷ 100 ∷ 101 ∷ 115 ∷ 107 ∷
    116 ∷ 111 ∷ 112 ∷ 0 ∷ 20 ∷ 20 ∷ 20 ∷ 20 ∷ 20 ∷ 20 ∷ 20 ∷ 20 ∷ 20 ∷ 20 ∷ 20 ∷ 20 ∷ 20 ∷ 20 ∷ 20 ∷
    20 ∷ 20 ∷ 20 ∷ 20 ∷ 20 ∷ 20 ∷ 20 ∷ 20 ∷ 20 ∷ 20 ∷ 20 ∷ 20 ∷ 20 ∷ 20 ∷ 20 ∷ 20 ∷ 20 ∷ 14 ∷ 51 ∷
    98 ∷ 151 ∷ 198 ∷ 202 ∷ []

-- The dirtree of `export/share/icons`: the directories `hicolor` and `other`, which are equal
abbrev pub icons_bytes : List ℕ
icons_bytes = 104 ∷ 105 ∷ 99 ∷ 111 ∷ 108 ∷ 111 ∷ 114 ∷ 0 ∷ 7 ∷ 7 ∷ 7 ∷ 7 ∷ 7 ∷ 7 ∷ 7 ∷ 7 ∷ 7 ∷ 7 ∷
    7 ∷ 7 ∷ 7 ∷ 7 ∷ 7 ∷ 7 ∷ 7 ∷ 7 ∷ 7 ∷ 7 ∷ 7 ∷ 7 ∷ 7 ∷ 7 ∷ 7 ∷ 7 ∷ 7 ∷ 7 ∷ 7 ∷ 7 ∷ 7 ∷ 7 ∷ 9 ∷ 9 ∷
    9 ∷ 9 ∷ 9 ∷ 9 ∷ 9 ∷ 9 ∷ 9 ∷ 9 ∷ 9 ∷ 9 ∷ 9 ∷ 9 ∷ 9 ∷ 9 ∷ 9 ∷ 9 ∷ 9 ∷ 9 ∷ 9 ∷ 9 ∷ 9 ∷ 9 ∷ 9 ∷ 9 ∷
    9 ∷ 9 ∷ 9 ∷ 9 ∷ 9 ∷ 9 ∷ 40 ∷ 8 ∷ 111 ∷ 116 ∷ 104 ∷ 101 ∷ 114 ∷ 0 ∷ 7 ∷ 7 ∷ 7 ∷ 7 ∷ 7 ∷ 7 ∷ 7 ∷
    7 ∷
    7 ∷ 7 ∷ 7 ∷ 7 ∷ 7 ∷ 7 ∷ 7 ∷ 7 ∷ 7 ∷ 7 ∷ 7 ∷ 7 ∷ 7 ∷ 7 ∷ 7 ∷ 7 ∷ 7 ∷ 7 ∷ 7 ∷ 7 ∷ 7 ∷ 7 ∷ 7 ∷ 7 ∷
    9 ∷ 9 ∷ 9 ∷ 9 ∷ 9 ∷ 9 ∷ 9 ∷ 9 ∷ 9 ∷ 9 ∷ 9 ∷ 9 ∷ 9 ∷ 9 ∷ 9 ∷ 9 ∷ 9 ∷ 9 ∷ 9 ∷ 9 ∷ 9 ∷ 9 ∷ 9 ∷ 9 ∷
    9 ∷ 9 ∷ 9 ∷ 9 ∷ 9 ∷ 9 ∷ 9 ∷ 9 ∷ 38 ∷ 6 ∷ 74 ∷ 146 ∷ 0 ∷ []

-- The dirtree of `export/share/icons/hicolor`: the directory `48x48`
abbrev pub hicolor_bytes : List ℕ
hicolor_bytes = 52 ∷ 56 ∷ 120 ∷ 52 ∷ 56 ∷ 0 ∷ 8 ∷ 8 ∷ 8 ∷ 8 ∷ 8 ∷ 8 ∷ 8 ∷ 8 ∷ 8 ∷ 8 ∷ 8 ∷ 8 ∷ 8 ∷
    8 ∷ 8 ∷ 8 ∷ 8 ∷ 8 ∷ 8 ∷ 8 ∷ 8 ∷ 8 ∷ 8 ∷ 8 ∷ 8 ∷ 8 ∷ 8 ∷ 8 ∷ 8 ∷ 8 ∷ 8 ∷ 8 ∷ 9 ∷ 9 ∷ 9 ∷ 9 ∷ 9 ∷
    9 ∷ 9 ∷ 9 ∷ 9 ∷ 9 ∷ 9 ∷ 9 ∷ 9 ∷ 9 ∷ 9 ∷ 9 ∷ 9 ∷ 9 ∷ 9 ∷ 9 ∷ 9 ∷ 9 ∷ 9 ∷ 9 ∷ 9 ∷ 9 ∷ 9 ∷ 9 ∷ 9 ∷
    9 ∷ 9 ∷ 9 ∷ 38 ∷ 6 ∷ 72 ∷ 0 ∷ []

-- The dirtree of `export/share/icons/hicolor/48x48`: the directory `apps`
abbrev pub size_bytes : List ℕ
size_bytes = 97 ∷ 112 ∷ 112 ∷ 115 ∷ 0 ∷ 10 ∷ 10 ∷ 10 ∷ 10 ∷ 10 ∷ 10 ∷ 10 ∷ 10 ∷ 10 ∷ 10 ∷ 10 ∷ 10 ∷
    10 ∷ 10 ∷ 10 ∷ 10 ∷ 10 ∷ 10 ∷ 10 ∷ 10 ∷ 10 ∷ 10 ∷ 10 ∷ 10 ∷ 10 ∷ 10 ∷ 10 ∷ 10 ∷ 10 ∷ 10 ∷ 10 ∷
    10 ∷ 9 ∷ 9 ∷ 9 ∷ 9 ∷ 9 ∷ 9 ∷ 9 ∷ 9 ∷ 9 ∷ 9 ∷ 9 ∷ 9 ∷ 9 ∷ 9 ∷ 9 ∷ 9 ∷ 9 ∷ 9 ∷ 9 ∷ 9 ∷ 9 ∷ 9 ∷ 9 ∷
    9 ∷ 9 ∷ 9 ∷ 9 ∷ 9 ∷ 9 ∷ 9 ∷ 9 ∷ 9 ∷ 37 ∷ 5 ∷ 71 ∷ 0 ∷ []

-- The dirtree of `export/share/icons/hicolor/48x48/apps`: the files of `icon_files`
abbrev pub apps_bytes : List ℕ
apps_bytes = 111 ∷ 114 ∷ 103 ∷ 46 ∷ 120 ∷ 46 ∷ 65 ∷ 112 ∷ 112 ∷ 46 ∷ 112 ∷ 110 ∷ 103 ∷ 0 ∷ 21 ∷ 21 ∷
    21 ∷ 21 ∷ 21 ∷ 21 ∷ 21 ∷ 21 ∷ 21 ∷ 21 ∷ 21 ∷ 21 ∷ 21 ∷ 21 ∷ 21 ∷ 21 ∷ 21 ∷ 21 ∷ 21 ∷ 21 ∷ 21 ∷
    21 ∷ 21 ∷ 21 ∷ 21 ∷ 21 ∷ 21 ∷ 21 ∷ 21 ∷ 21 ∷ 21 ∷ 21 ∷ 14 ∷ 111 ∷ 116 ∷ 104 ∷ 101 ∷ 114 ∷ 46 ∷
    112 ∷ 110 ∷ 103 ∷ 0 ∷ 21 ∷ 21 ∷ 21 ∷ 21 ∷ 21 ∷ 21 ∷ 21 ∷ 21 ∷ 21 ∷ 21 ∷ 21 ∷ 21 ∷ 21 ∷ 21 ∷ 21 ∷
    21 ∷ 21 ∷ 21 ∷ 21 ∷ 21 ∷ 21 ∷ 21 ∷ 21 ∷ 21 ∷ 21 ∷ 21 ∷ 21 ∷ 21 ∷ 21 ∷ 21 ∷ 21 ∷ 21 ∷ 10 ∷ 47 ∷
    90 ∷ 92 ∷ []

-- The content of the desktop files
abbrev pub desktop_text : List ℕ
desktop_text = codes "[Desktop Entry]\nName=App\nExec=run %U\nTryExec=run\n"

-- The object with this digest in a list of objects, each with the byte of its digest
abbrev pub one_of : List (ℕ × Object) → List ℕ → Option Object
one_of [] d = None
one_of (e ∷ es) d = if bytes_eq d (digest e.0) then Some e.1 else one_of es d

-- The dirtree objects
abbrev pub trees : List (ℕ × Object)
trees =
    (2, objects.Meta root_bytes)
    ∷ (3, objects.Meta export_bytes)
    ∷ (4, objects.Meta share_bytes)
    ∷ (5, objects.Meta applications_bytes)
    ∷ (6, objects.Meta icons_bytes)
    ∷ (7, objects.Meta hicolor_bytes)
    ∷ (8, objects.Meta size_bytes)
    ∷ (10, objects.Meta apps_bytes) ∷ []

-- The file objects: a desktop file, and an icon, which is empty
abbrev pub files : List (ℕ × Object)
files = (20, objects.File 420 desktop_text) ∷ (21, objects.File 420 []) ∷ []

-- The objects by digest and kind
abbrev pub have : Have
have d kinds.Commit = one_of ((1, objects.Meta commit_bytes) ∷ []) d
have d kinds.DirTree = one_of trees d
have d kinds.DirMeta = None
have d kinds.File = one_of files d

-- ---- the rows of its directories

-- The row of a directory with this name, by the byte of its dirtree's digest
abbrev pub dir : List ℕ → ℕ → DirRow
dir name n = record { name = name; tree = digest n; meta = digest 9 }

-- The row of a file with this name, by the byte of its digest
abbrev pub file : List ℕ → ℕ → FileRow
file name n = record { name = name; digest = digest n }

-- The files in `export/share/applications`
abbrev pub desktop_files : List FileRow
desktop_files = file (codes "org.x.App.desktop") 20 ∷ file (codes "org.x.App.txt") 20
    ∷ file (codes "org.x.Apple.desktop") 20 ∷ file (codes "other.desktop") 20 ∷ []

-- The files in `export/share/icons/hicolor/48x48/apps`
abbrev pub icon_files : List FileRow
icon_files = file (codes "org.x.App.png") 21 ∷ file (codes "other.png") 21 ∷ []

-- ---- refs at this commit

-- The application's ref with this branch
abbrev pub app : List ℕ → Ref
app branch = ref_with App (codes "org.x.App") (codes "x86_64") branch

-- The application's ref with the branch `stable`
abbrev pub stable : Ref
stable = app (codes "stable")

-- The application's ref with the branch `beta`
abbrev pub beta : Ref
beta = app (codes "beta")

-- A runtime's ref with the application's ID
abbrev pub runtime : Ref
runtime = ref_with Runtime (codes "org.x.App") (codes "x86_64") (codes "1")

-- The row of a ref that is deployed at the sample commit
abbrev pub row : Ref → RefRow
row name =
    record { name = name; origin = codes "hub"; commit = digest 1; timestamp = 7; previous = None }

-- The state with these refs, and nothing else
abbrev pub state : List RefRow → State
state refs = record { layout = Two; refs = refs; remotes = []; pins = []; overrides = [] }

-- The exports of the sample commit for this ref, where `command` is the text of the rewritten
-- desktop file
abbrev pub exports : Ref → List ℕ → List ExportRow
exports name command = desktop_row name (codes "org.x.App.desktop") command
    ∷ icon_row name (codes "48x48") (codes "org.x.App.png") ∷ []
