use Rattle.std.proofs.Common.{length, sym, ◌∙◌, arith}
use Rattle.std.proofs.lemmas.List.{length-map}
use Rattle.ost_object.specs.Views.{tree_view, file_row, dir_row}
use Rattle.ost_checkout.proofs.Spread.{no_room}
use Rattle.ost_checkout.proofs.listing.expand_dir.Goals as goal

pub returns-then-not-has_room-clause-fault_has_cause : goal.returns-then-not-has_room-clause-fault_has_cause
returns-then-not-has_room-clause-fault_has_cause g c = record {
  later = c.read_tree.ensures.fault_has_cause.later;
  fault = λ is m at can.
      let t = c.in_ok-tree.tree in
      let read = (c.in_ok-tree.ensures.tells.goes.told m at).3 in
      absurd (no_room c.len.result (length c.args.rows.now.items) (length t.files) (length t.dirs) (length (tree_view t).files) (length (tree_view t).dirs) (sym c.has_room.ensures ∙ c.if-not-has_room.true)
      (omega (arith, c.len.ensures, c.args.rows.now.ok.0)) (length-map t.files file_row) (length-map t.dirs dir_row) (can.room (tree_view t) read.read));
}
