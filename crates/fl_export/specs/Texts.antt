-- The names of exports, and the texts of symlinks to them.
use Rattle.std.specs.Prelude.{ℕ, Bool, false, ◌&&◌, ◌||◌, ◌==◌, nat_eq, List, [], ◌∷◌, ◌++◌, length, drop, codes}
use Rattle.std.specs.List.{starts_with, ends_with}
use Rattle.fp_host.specs.Paths.{Elements, is_element, path_text}
use Rattle.fp_name.specs.Refs.{Ref, ref_text}

-- Tests whether a byte is `.` or `-`
abbrev pub is_mark : ℕ → Bool
is_mark c = c == 46 || c == 45

-- Tests whether a text begins with `.` or `-`
abbrev pub begins_by_mark : List ℕ → Bool
begins_by_mark [] = false
begins_by_mark (c ∷ cs) = is_mark c

-- Tests whether the application may export a file with this name: it is a valid path element that
-- begins with the application's ID and `.` or `-`
abbrev pub is_own : Ref → List ℕ → Bool
is_own name file = is_element file
    && (starts_with nat_eq file name.id && begins_by_mark (drop (length name.id) file))

-- Tests whether a file name ends in `.desktop`
abbrev pub is_desktop : List ℕ → Bool
is_desktop file = ends_with nat_eq file (codes ".desktop")

-- ---- paths below the directory `exports`, and in a commit below `export`

-- The path `share` below a path
abbrev pub share : Elements → Elements
share up = codes "share" ∷ up

-- The path `share/applications` below a path
abbrev pub applications : Elements → Elements
applications up = codes "applications" ∷ share up

-- The path `share/icons/hicolor` below a path
abbrev pub hicolor : Elements → Elements
hicolor up = codes "hicolor" ∷ (codes "icons" ∷ share up)

-- The path of an exported desktop file below `exports`: `share/applications/FILE`
abbrev pub desktop_path : List ℕ → Elements
desktop_path file = file ∷ applications []

-- The path of an exported icon below `exports`, in the theme hicolor of the Icon Theme
-- Specification: `share/icons/hicolor/SIZE/apps/FILE`
abbrev pub icon_path : List ℕ → List ℕ → Elements
icon_path size file = file ∷ (codes "apps" ∷ (size ∷ hicolor []))

-- The text of the symlink of an exported icon: it leads from the icon's directory to the same path
-- below `active/export` in the directory of the ref
abbrev pub link_text : Ref → Elements → List ℕ
link_text name path =
    codes "../../../../../../" ++ (ref_text name ++ (codes "/active/export/" ++ path_text path))
