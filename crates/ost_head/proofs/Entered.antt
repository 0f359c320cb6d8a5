-- Entries of a dirtree.
use Rattle.std.proofs.Common.{◌≡◌, ℕ, List, Bool, true, false, Option, Some, None, refl, sym, ◌∙◌, ap}
use Rattle.std.specs.Prelude.{is_some, not, option_map}
use Rattle.ost_model.specs.Fields.{DirRow, FileRow, TreeView}
use Rattle.ost_model.specs.Look.{find_dir, find_file, either, entry_in, file_in}
use Rattle.ost_walk.specs.Looked.{file_digest}
use Rattle.ost_head.specs.Heads.{is_nothing}

with_dir : (e : Option DirRow) (f : Option FileRow) → is_some e ≡ true → None ≡ file_in (either e f)
with_dir (Some e) f is = refl
with_dir None f is = absurd (cc is)

without_dir : (e : Option DirRow) (f : Option FileRow) → is_some e ≡ false → option_map file_digest f ≡ file_in (either e f)
without_dir (Some e) f is = absurd (cc is)
without_dir None (Some f) is = refl
without_dir None None is = refl

pub dir_there : (x : List ℕ) (v : TreeView) (b : Bool) → b ≡ is_some (find_dir x v.dirs) → b ≡ true → None ≡ file_in (entry_in x (Some v))
dir_there x v b same is = with_dir (find_dir x v.dirs) (find_file x v.files) (sym same ∙ is)

pub no_dir : (x : List ℕ) (v : TreeView) (b : Bool) → b ≡ is_some (find_dir x v.dirs) → b ≡ false → option_map file_digest (find_file x v.files) ≡ file_in (entry_in x (Some v))
no_dir x v b same is = without_dir (find_dir x v.dirs) (find_file x v.files) (sym same ∙ is)

nothing_dir : (e : Option DirRow) (f : Option FileRow) → is_some e ≡ true → false ≡ is_nothing (either e f)
nothing_dir (Some e) f is = refl
nothing_dir None f is = absurd (cc is)

nothing_file : (e : Option DirRow) (f : Option FileRow) → is_some e ≡ false → not (is_some (option_map file_digest f)) ≡ is_nothing (either e f)
nothing_file (Some e) f is = absurd (cc is)
nothing_file None (Some f) is = refl
nothing_file None None is = refl

pub none_with_dir : (x : List ℕ) (v : TreeView) (b : Bool) → b ≡ is_some (find_dir x v.dirs) → b ≡ true → false ≡ is_nothing (entry_in x (Some v))
none_with_dir x v b same is = nothing_dir (find_dir x v.dirs) (find_file x v.files) (sym same ∙ is)

pub none_without_dir : (x : List ℕ) (v : TreeView) (b : Bool) → b ≡ is_some (find_dir x v.dirs) → b ≡ false → not (is_some (option_map file_digest (find_file x v.files))) ≡ is_nothing (entry_in x (Some v))
none_without_dir x v b same is = nothing_file (find_dir x v.dirs) (find_file x v.files) (sym same ∙ is)
