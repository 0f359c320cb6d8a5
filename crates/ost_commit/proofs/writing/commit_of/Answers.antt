use Rattle.ost_commit.proofs.Assembly.{commit_said}
use Rattle.ost_commit.proofs.writing.commit_of.Goals as goal

pub returns-clause-says : goal.returns-clause-says
returns-clause-says c =
    commit_said c.in_ok-binding_bytes.field-0 c.in_ok-from_slice.field-0 c.in_ok-from_str.field-0 c.in_ok-from_str-2.field-0 c.args.heading.name.now c.args.heading.subject.now c.args.heading.timestamp c.args.root.tree c.args.root.meta
    c.in_ok-binding_bytes.ensures.says c.in_ok-from_slice.ensures c.in_ok-from_str.ensures c.in_ok-from_str-2.ensures
