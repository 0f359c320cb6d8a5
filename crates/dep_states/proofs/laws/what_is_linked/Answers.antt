use Rattle.dep_states.proofs.Linked.{links_still, links_on, linked_links, written_no_links}
use Rattle.dep_states.proofs.laws.what_is_linked.Goals as goal

pub returns-clause-still : goal.returns-clause-still
returns-clause-still c = λ u w same. links_still same

pub returns-clause-on : goal.returns-clause-on
returns-clause-on c = λ u v w first second keeps. links_on first second keeps

pub returns-clause-linked : goal.returns-clause-linked
returns-clause-linked c = linked_links

pub returns-clause-written : goal.returns-clause-written
returns-clause-written c = written_no_links
