use Rattle.std.proofs.Common.{◌≡◌, ℕ, List, Ok, subst}
use Rattle.ost_model.specs.Readers.{commit_read}
use Rattle.ost_object.specs.Answers.{Breaks, mapped}
use Rattle.ost_object.specs.Views.{root_in, root_view}
use Rattle.fl_export.proofs.Looked.{root_told, root_untold}
use Rattle.fl_export.proofs.trees.root_in.Goals as goal

pub returns-in-Ok : goal.returns-in-Ok
returns-in-Ok c = root_told (commit_read c.args.bytes.now) c.in-Ok.root (subst (λ (l : List ℕ). mapped root_in (commit_read l) ≡ Ok (root_view c.in-Ok.root)) c.as_slice.ensures c.in-Ok.ensures)

pub returns-in-Err-Malformed : goal.returns-in-Err-Malformed
returns-in-Err-Malformed c = root_untold (commit_read c.args.bytes.now) _ c.in-Err-Malformed.field-0 c.in-Err-Malformed.field-0-is (subst (λ (l : List ℕ). Breaks c.in-Err-Malformed.field-0 (mapped root_in (commit_read l))) c.as_slice.ensures c.in-Err-Malformed.ensures)
