use Rattle.std.proofs.Common.{map, [], ◌∷◌, refl, ap, ◌∙◌}
use Rattle.std.proofs.lemmas.List.{map-append}
use Rattle.ost_object.specs.declared.dirtree.FileEntry.{FileEntry}
use Rattle.ost_object.specs.Views.{file_row, dir_row}
use Rattle.ost_commit.proofs.Sizes.{named_files}
use Rattle.ost_commit.proofs.directories.Listing.add_file.Goals as goal

pub returns-clause-named : goal.returns-clause-named
returns-clause-named c =
    let old = c.args.self.now.tree in
    let x : FileEntry = record { name = c.args.name; digest = c.args.digest } in
    named_files (map file_row old.files) (map file_row c.push.new.self) (map dir_row old.dirs) (map dir_row old.dirs) (file_row x)
    (ap (map file_row) c.in_ok-push.ensures.ok ∙ map-append file_row old.files (x ∷ [])) refl c.as_bytes-bytes.ensures.good
