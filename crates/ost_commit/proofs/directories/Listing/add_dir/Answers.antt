use Rattle.std.proofs.Common.{map, [], ◌∷◌, refl, ap, ◌∙◌}
use Rattle.std.proofs.lemmas.List.{map-append}
use Rattle.ost_object.specs.declared.dirtree.DirEntry.{DirEntry}
use Rattle.ost_object.specs.Views.{file_row, dir_row}
use Rattle.ost_commit.proofs.Sizes.{named_dirs}
use Rattle.ost_commit.proofs.directories.Listing.add_dir.Goals as goal

pub returns-clause-named : goal.returns-clause-named
returns-clause-named c =
    let old = c.args.self.now.tree in
    let x : DirEntry = record { name = c.args.name; tree = c.args.done.tree; meta = c.args.meta } in
    named_dirs (map file_row old.files) (map file_row old.files) (map dir_row old.dirs) (map dir_row c.push.new.self) (dir_row x) refl
    (ap (map dir_row) c.in_ok-push.ensures.ok ∙ map-append dir_row old.dirs (x ∷ [])) c.as_bytes-tree.ensures.good c.as_bytes-meta.ensures.good
