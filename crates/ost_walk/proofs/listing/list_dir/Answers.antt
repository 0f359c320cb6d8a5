use Rattle.std.proofs.Common.{◌+◌, ◌++◌, ℕ, List, length, map, ap, ◌∙◌, subst, arith, length-append}
use Rattle.std.specs.Prelude.{reverse}
use Rattle.fp_base.specs.declared.object.ObjKind.{ObjKind}
use Rattle.ost_model.specs.Order.{file_places}
use Rattle.ost_object.specs.declared.dirtree.FileEntry.{FileEntry}
use Rattle.ost_object.specs.declared.dirtree.DirEntry.{DirEntry}
use Rattle.ost_object.specs.Views.{tree_view, file_row, dir_row as row_of}
use Rattle.ost_walk.specs.Dirs.{child}
use Rattle.ost_walk.specs.Ends.{RefusesBy}
use Rattle.ost_walk.specs.Surveys.{StopsAmong}
use Rattle.ost_walk.specs.Steps.{AreListed, heads_of}
use Rattle.ost_walk.proofs.Listed.{limit_deep}
use Rattle.ost_walk.proofs.Walked.{files_first, is_walked}
use Rattle.ost_walk.proofs.listing.list_dir.Goals as goal

pub returns-in-Err-clause-tells : goal.returns-in-Err-clause-tells
returns-in-Err-clause-tells c have is =
    let n = length c.args.done.now.items in
    let low = limit_deep (n + 1) c.args.dir.now.depth c.requires in
    files_first have n c.args.dir.now (tree_view c.args.tree.now) (omega (arith, low)) is (length c.add_heads.new.done.items) c.args.done.now.items c.add_heads.new.done.items c.add_files.new.done.items c.in-Err.end
    (ap (λ (l : List (List ℕ × ObjKind)). length l) c.in_ok-add_heads.ensures ∙ length-append c.args.done.now.items (heads_of c.args.dir.now)) c.in_ok-add_heads.ensures
    (subst (λ (fs : List FileEntry). RefusesBy (StopsAmong have (length c.add_heads.new.done.items) (file_places c.args.dir.now.depth (map file_row fs)) c.add_heads.new.done.items c.add_files.new.done.items) c.in-Err.end) c.as_slice.ensures
    (c.in-Err.ensures.tells have))

pub returns-in_ok-add_dirs-in-Ok-clause-tells : goal.returns-in_ok-add_dirs-in-Ok-clause-tells
returns-in_ok-add_dirs-in-Ok-clause-tells c have is =
    let depth = c.args.dir.now.depth in
    let low = limit_deep (length c.args.done.now.items + 1) depth c.requires in
    is_walked have c.args.dir.now (tree_view c.args.tree.now) (depth + 1) (omega (arith, low)) (omega arith) is c.in_ok-add_heads.ensures
    (subst (λ (fs : List FileEntry). AreListed have depth (map file_row fs) c.add_heads.new.done.items c.add_files.new.done.items) c.as_slice.ensures (c.in-Ok.ensures.tells have))
    (c.in_ok-add_dirs-in-Ok.ensures ∙ ap (λ (ds : List DirEntry). c.args.left.now.items ++ reverse (map (child (depth + 1)) (map row_of ds))) c.as_slice-in-Ok.ensures)
