use Rattle.std.proofs.Common.{ap, length, arith}
use Rattle.ost_commit.specs.Folders.{names_in}
use Rattle.ost_commit.proofs.Taking.{gathers_nothing}
use Rattle.ost_commit.proofs.tree.Tree.new.Goals as goal

pub returns-clause-gathers : goal.returns-clause-gathers
returns-clause-gathers c rows =
    gathers_nothing rows (record { path = c.root.result; children = c.new.result }) c.in_ok-vec.field-0.items c.in_ok-vec.ensures.items c.root.ensures c.new.ensures.empty

pub returns-clause-alone : goal.returns-clause-alone
returns-clause-alone c = let none = ap length c.new.ensures.empty in let is = ap names_in c.in_ok-vec.ensures.items in omega (arith, none, is)

pub returns-clause-one : goal.returns-clause-one
returns-clause-one c = ap length c.in_ok-vec.ensures.items
