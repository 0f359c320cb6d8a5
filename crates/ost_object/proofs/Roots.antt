-- What a commit that reads is.
use Rattle.std.specs.Prelude.{Result, Ok, Err}
use Rattle.std.specs.Option.{option_or}
use Rattle.std.proofs.Common.{refl, None, List, ℕ, ◌≡◌}
use Rattle.fp_base.specs.declared.rule.Rule.{Rule}
use Rattle.ost_model.specs.Fields.{CommitView}
use Rattle.ost_model.specs.Readers.{if_broken}
use Rattle.ost_model.specs.Objects.{as_malformed}
use Rattle.ost_object.specs.Views.{root_in}
use Rattle.ost_object.specs.Answers.{mapped}

pub commit_reads : (read : Result CommitView Rule) (root : List ℕ × List ℕ) → mapped root_in read ≡ Ok root → option_or (as_malformed (if_broken read)) None ≡ None
commit_reads (Ok v) root is = refl
commit_reads (Err rule) root is = absurd (cc is)
