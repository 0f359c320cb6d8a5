use Rattle.fl_launch.proofs.Groups.{text_is_of_groups}
use Rattle.fl_launch.proofs.GoodGroups.{groups_read_back}
use Rattle.fl_launch.proofs.laws.texts_are_of_groups.Goals as goal

pub returns-clause-text : goal.returns-clause-text
returns-clause-text c = text_is_of_groups

pub returns-clause-back : goal.returns-clause-back
returns-clause-back c = groups_read_back
