use Rattle.std.proofs.Common.{List, ℕ, subst}
use Rattle.ost_model.specs.Readers.{commit_read}
use Rattle.ost_object.specs.Answers.{Breaks, mapped}
use Rattle.ost_object.specs.Views.{root_in}
use Rattle.ost_checkout.proofs.Read.{rule_broken}
use Rattle.ost_checkout.proofs.reading.root_in.Goals as goal

pub returns-in-Err-clause-unread : goal.returns-in-Err-clause-unread
returns-in-Err-clause-unread c is =
    rule_broken c.in-Err.error c.unread.result (mapped root_in (commit_read c.args.bytes.now)) c.unread.ensures
    (subst (λ (l : List ℕ). Breaks c.in-Err.error (mapped root_in (commit_read l))) c.as_slice.ensures c.in-Err.ensures) (cc is)
