-- The worked application. Each step is closed by computing.
use Rattle.std.proofs.Common.{◌≡◌, List, ℕ, [], ◌∷◌, ◌++◌, Some, None, refl, ◌∙◌, ap}
use Rattle.std.specs.Prelude.{codes}
use Rattle.std.specs.Str.{is_utf8, chars}
use lib.Utf8.{encode}
use Rattle.fp_keyfile.specs.KeyFile.{file_of, text_of, with_group, with_pair}
use Rattle.fp_keyfile.specs.Lines.{line_says}
use Rattle.fp_name.specs.Refs.{Ref}
use Rattle.ost_model.specs.Look.{Found, directory, look, next}
use Rattle.fl_export.specs.declared.rows.ExportRow.{ExportRow}
use Rattle.fl_export.specs.Exported.{in_export, desktop_row, desktop_files, icon_row, icon_files, icons_of, icons, desktops_by, icons_by, in_order, exported}
use Rattle.fl_export.specs.Keys.{is_locale_end}
use Rattle.fl_export.specs.Rewritten.{rewritten}
use Rattle.fl_export.specs.Texts.{applications, hicolor}
use Rattle.fl_export.specs.Trees.{tree_found, files_in, dirs_in}
use Rattle.fl_export.specs.Sample as sample

-- ---- the directories

abbrev commit : List ℕ
commit = sample.digest 1

root_is : look sample.have commit [] ≡ directory (sample.dir [] 2)
unfolding is_utf8 chars encode
root_is = refl

export_is : next sample.have (codes "export") (directory (sample.dir [] 2)) ≡ directory (sample.dir (codes "export") 3)
unfolding is_utf8 chars encode
export_is = refl

share_is : next sample.have (codes "share") (directory (sample.dir (codes "export") 3)) ≡ directory (sample.dir (codes "share") 4)
unfolding is_utf8 chars encode
share_is = refl

applications_is : next sample.have (codes "applications") (directory (sample.dir (codes "share") 4)) ≡ directory (sample.dir (codes "applications") 5)
unfolding is_utf8 chars encode
applications_is = refl

icons_is : next sample.have (codes "icons") (directory (sample.dir (codes "share") 4)) ≡ directory (sample.dir (codes "icons") 6)
unfolding is_utf8 chars encode
icons_is = refl

hicolor_is : next sample.have (codes "hicolor") (directory (sample.dir (codes "icons") 6)) ≡ directory (sample.dir (codes "hicolor") 7)
unfolding is_utf8 chars encode
hicolor_is = refl

apps_is : next sample.have (codes "apps") (directory (sample.dir (codes "48x48") 8)) ≡ directory (sample.dir (codes "apps") 10)
unfolding is_utf8 chars encode
apps_is = refl

desktop_files_are : files_in (tree_found sample.have (directory (sample.dir (codes "applications") 5))) ≡ sample.desktop_files
unfolding is_utf8 chars encode
desktop_files_are = refl

sizes_are : dirs_in (tree_found sample.have (directory (sample.dir (codes "hicolor") 7))) ≡ sample.dir (codes "48x48") 8 ∷ []
unfolding is_utf8 chars encode
sizes_are = refl

icon_files_are : files_in (tree_found sample.have (directory (sample.dir (codes "apps") 10))) ≡ sample.icon_files
unfolding is_utf8 chars encode
icon_files_are = refl

share_found : look sample.have commit (codes "share" ∷ in_export) ≡ directory (sample.dir (codes "share") 4)
share_found = ap (next sample.have (codes "share")) (ap (next sample.have (codes "export")) root_is ∙ export_is) ∙ share_is

applications_found : look sample.have commit (applications in_export) ≡ directory (sample.dir (codes "applications") 5)
applications_found = ap (next sample.have (codes "applications")) share_found ∙ applications_is

hicolor_found : look sample.have commit (hicolor in_export) ≡ directory (sample.dir (codes "hicolor") 7)
hicolor_found = ap (next sample.have (codes "hicolor")) (ap (next sample.have (codes "icons")) share_found ∙ icons_is) ∙ hicolor_is

-- ---- what is in them

module _ (name : Ref) where
  desktops_are : desktops_by sample.have name commit ≡ desktop_files sample.have name sample.desktop_files
  desktops_are = ap (λ (f : Found). desktop_files sample.have name (files_in (tree_found sample.have f))) applications_found ∙ ap (desktop_files sample.have name) desktop_files_are

  size_is : icons_of sample.have name (sample.dir (codes "48x48") 8) ≡ icon_files sample.have name (codes "48x48") sample.icon_files
  size_is = ap (λ (f : Found). icon_files sample.have name (codes "48x48") (files_in (tree_found sample.have f))) apps_is ∙ ap (icon_files sample.have name (codes "48x48")) icon_files_are

  icons_are : icons_by sample.have name commit ≡ icon_files sample.have name (codes "48x48") sample.icon_files ++ []
  icons_are =
      ap (λ (f : Found). icons sample.have name (dirs_in (tree_found sample.have f))) hicolor_found
      ∙ ap (icons sample.have name) sizes_are
      ∙ ap (λ l. l ++ []) size_is

stable_desktops : desktop_files sample.have sample.stable sample.desktop_files ≡ desktop_row sample.stable (codes "org.x.App.desktop") (codes "[Desktop Entry]\nName=App\nExec=fpk launch app/org.x.App/x86_64/stable --command=run\n") ∷ []
unfolding rewritten is_locale_end file_of text_of line_says with_pair with_group is_utf8 chars encode
stable_desktops = refl

stable_icons : icon_files sample.have sample.stable (codes "48x48") sample.icon_files ≡ icon_row sample.stable (codes "48x48") (codes "org.x.App.png") ∷ []
stable_icons = refl

stable_rows : desktops_by sample.have sample.stable commit ++ icons_by sample.have sample.stable commit ≡ sample.exports sample.stable (codes "[Desktop Entry]\nName=App\nExec=fpk launch app/org.x.App/x86_64/stable --command=run\n")
stable_rows =
    ap (λ (l : List ExportRow). l ++ icons_by sample.have sample.stable commit) (desktops_are sample.stable ∙ stable_desktops)
    ∙ ap (λ (l : List ExportRow). desktop_row sample.stable (codes "org.x.App.desktop") (codes "[Desktop Entry]\nName=App\nExec=fpk launch app/org.x.App/x86_64/stable --command=run\n") ∷ l) (icons_are sample.stable ∙ ap (λ (l : List ExportRow). l ++ []) stable_icons)

beta_desktops : desktop_files sample.have sample.beta sample.desktop_files ≡ desktop_row sample.beta (codes "org.x.App.desktop") (codes "[Desktop Entry]\nName=App\nExec=fpk launch app/org.x.App/x86_64/beta --command=run\n") ∷ []
unfolding rewritten is_locale_end file_of text_of line_says with_pair with_group is_utf8 chars encode
beta_desktops = refl

beta_icons : icon_files sample.have sample.beta (codes "48x48") sample.icon_files ≡ icon_row sample.beta (codes "48x48") (codes "org.x.App.png") ∷ []
beta_icons = refl

beta_rows : desktops_by sample.have sample.beta commit ++ icons_by sample.have sample.beta commit ≡ sample.exports sample.beta (codes "[Desktop Entry]\nName=App\nExec=fpk launch app/org.x.App/x86_64/beta --command=run\n")
beta_rows =
    ap (λ (l : List ExportRow). l ++ icons_by sample.have sample.beta commit) (desktops_are sample.beta ∙ beta_desktops)
    ∙ ap (λ (l : List ExportRow). desktop_row sample.beta (codes "org.x.App.desktop") (codes "[Desktop Entry]\nName=App\nExec=fpk launch app/org.x.App/x86_64/beta --command=run\n") ∷ l) (icons_are sample.beta ∙ ap (λ (l : List ExportRow). l ++ []) beta_icons)

-- ---- exported

pub stable_exported : exported sample.have (sample.state (sample.row sample.stable ∷ [])) ≡ sample.exports sample.stable (codes "[Desktop Entry]\nName=App\nExec=fpk launch app/org.x.App/x86_64/stable --command=run\n")
unfolding exported
stable_exported = ap (λ (l : List ExportRow). in_order (l ++ [])) stable_rows

pub first_decides : exported sample.have (sample.state (sample.row sample.beta ∷ sample.row sample.stable ∷ [])) ≡ sample.exports sample.beta (codes "[Desktop Entry]\nName=App\nExec=fpk launch app/org.x.App/x86_64/beta --command=run\n")
unfolding exported
first_decides = (λ i. in_order (beta_rows i ++ (stable_rows i ++ [])))

pub runtime_exports_none : exported sample.have (sample.state (sample.row sample.runtime ∷ [])) ≡ []
unfolding exported
runtime_exports_none = refl

pub absent_exports_none : exported (λ d kind. None) (sample.state (sample.row sample.stable ∷ [])) ≡ []
unfolding exported
absent_exports_none = refl

pub rewrites_path : rewritten (codes "[A]\nExec=/app/bin/r-u_n.s+h %F\n") sample.stable ≡ Some (codes "[A]\nExec=fpk launch app/org.x.App/x86_64/stable --command=/app/bin/r-u_n.s+h\n")
unfolding rewritten is_locale_end file_of text_of line_says with_pair with_group is_utf8 chars encode
rewrites_path = refl

pub rewrites_field : rewritten (codes "[A]\nExec=%i x\n") sample.stable ≡ Some (codes "[A]\nExec=fpk launch app/org.x.App/x86_64/stable\n")
unfolding rewritten is_locale_end file_of text_of line_says with_pair with_group is_utf8 chars encode
rewrites_field = refl

pub rewrites_quote : rewritten (codes "[A]\nExec=\"run\" x\n") sample.stable ≡ Some (codes "[A]\nExec=fpk launch app/org.x.App/x86_64/stable\n")
unfolding rewritten is_locale_end file_of text_of line_says with_pair with_group is_utf8 chars encode
rewrites_quote = refl

pub rewrites_dollar : rewritten (codes "[A]\nExec=$HOME/run\n") sample.stable ≡ Some (codes "[A]\nExec=fpk launch app/org.x.App/x86_64/stable\n")
unfolding rewritten is_locale_end file_of text_of line_says with_pair with_group is_utf8 chars encode
rewrites_dollar = refl

pub rewrites_backslash : rewritten (codes "[A]\nExec=r\\\\sun\n") sample.stable ≡ Some (codes "[A]\nExec=fpk launch app/org.x.App/x86_64/stable\n")
unfolding rewritten is_locale_end file_of text_of line_says with_pair with_group is_utf8 chars encode
rewrites_backslash = refl

pub rewrites_empty : rewritten (codes "[A]\nExec=\n") sample.stable ≡ Some (codes "[A]\nExec=fpk launch app/org.x.App/x86_64/stable\n")
unfolding rewritten is_locale_end file_of text_of line_says with_pair with_group is_utf8 chars encode
rewrites_empty = refl

pub rewrites_language : rewritten (codes "[A]\nExec[de]=a\nTryExec[de]=b\nTryExec=c\nName=d\n") sample.stable ≡ Some (codes "[A]\nName=d\n")
unfolding rewritten is_locale_end file_of text_of line_says with_pair with_group is_utf8 chars encode
rewrites_language = refl

pub rewrites_foreign : rewritten (codes "[A]\nX-Flatpak=a\nX-GNOME-Bugzilla-ExtraInfoScript=b\nName=d\n") sample.stable ≡ Some (codes "[A]\nName=d\n")
unfolding rewritten is_locale_end file_of text_of line_says with_pair with_group is_utf8 chars encode
rewrites_foreign = refl

pub rewrites_no_key_file : rewritten (codes "Exec=run\n") sample.stable ≡ None
unfolding rewritten is_locale_end file_of text_of line_says with_pair with_group is_utf8 chars encode
rewrites_no_key_file = refl

pub leaves_folder_out : rewritten (codes "[A]\nPath=/srv\nName=d\n") sample.stable ≡ Some (codes "[A]\nName=d\n")
unfolding rewritten is_locale_end file_of text_of line_says with_pair with_group is_utf8 chars encode
leaves_folder_out = refl

pub leaves_service_out : rewritten (codes "[A]\nDBusActivatable=true\nName=d\n") sample.stable ≡ Some (codes "[A]\nName=d\n")
unfolding rewritten is_locale_end file_of text_of line_says with_pair with_group is_utf8 chars encode
leaves_service_out = refl

pub leaves_expanded_out : rewritten (codes "[A]\nIcon[$e]=$HOME/x\nIcon[de][$e]=a\nName=d\n") sample.stable ≡ Some (codes "[A]\nName=d\n")
unfolding rewritten is_locale_end file_of text_of line_says with_pair with_group is_utf8 chars encode
leaves_expanded_out = refl

pub leaves_odd_out : rewritten (codes "[A]\nIcon\\x=a\nIcon[de=b\nIcon[]=c\nName=d\n") sample.stable ≡ Some (codes "[A]\nName=d\n")
unfolding rewritten is_locale_end file_of text_of line_says with_pair with_group is_utf8 chars encode
leaves_odd_out = refl

pub keeps_locale : rewritten (codes "[A]\nX-A9=a\nName[sr_RS.UTF-8@latin]=b\n") sample.stable ≡ Some (codes "[A]\nX-A9=a\nName[sr_RS.UTF-8@latin]=b\n")
unfolding rewritten is_locale_end file_of text_of line_says with_pair with_group is_utf8 chars encode
keeps_locale = refl
