use Rattle.fl_launch.proofs.Ruling.{file_rules, word_rules, joined_rules, grant_rules}
use Rattle.fl_launch.proofs.laws.grants_are_rules.Goals as goal

pub returns-clause-files : goal.returns-clause-files
returns-clause-files c = file_rules

pub returns-clause-words : goal.returns-clause-words
returns-clause-words c = word_rules

pub returns-clause-joined : goal.returns-clause-joined
returns-clause-joined c = joined_rules

pub returns-clause-grants : goal.returns-clause-grants
returns-clause-grants c = grant_rules
