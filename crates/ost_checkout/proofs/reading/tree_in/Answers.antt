use Rattle.std.proofs.Common.{List, ℕ, subst}
use Rattle.ost_model.specs.Readers.{tree_read}
use Rattle.ost_object.specs.Answers.{Breaks}
use Rattle.ost_object.specs.Views.{tree_view}
use Rattle.ost_checkout.proofs.Names.{read_names}
use Rattle.ost_checkout.proofs.Read.{rule_broken}
use Rattle.ost_checkout.proofs.reading.tree_in.Goals as goal

pub returns-in-Ok-clause-names : goal.returns-in-Ok-clause-names
returns-in-Ok-clause-names c = (read_names c.as_slice.result.now (tree_view c.in-Ok.tree) c.in-Ok.ensures).good

pub returns-in-Err-clause-unread : goal.returns-in-Err-clause-unread
returns-in-Err-clause-unread c is =
    rule_broken c.in-Err.error c.unread.result (tree_read c.args.bytes.now) c.unread.ensures (subst (λ (l : List ℕ). Breaks c.in-Err.error (tree_read l)) c.as_slice.ensures c.in-Err.ensures) (cc is)
