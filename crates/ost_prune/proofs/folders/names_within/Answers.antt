use Rattle.std.proofs.Common.{refl, sym, subst, ◌∙◌}
use Rattle.fp_host.specs.Reads.{AreNames}
use Rattle.fp_host.specs.View.{IsTree}
use Rattle.fp_host.proofs.Looking.{looks_start, looks_stat, looks_list}
use Rattle.fp_host.proofs.Ending.{ends_call, ends_on, ends_start}
use Rattle.fp_small.specs.Naming.{ListsIn}
use Rattle.fp_small.proofs.Making.{stat_no_dir, lists_of}
use Rattle.fp_small.proofs.Replacement.{lists_none}
use Rattle.ost_prune.proofs.folders.names_within.Goals as goal

pub returns-in_err-stat-clause-unchanged : goal.returns-in_err-stat-clause-unchanged
returns-in_err-stat-clause-unchanged g c = let t = g.met.H.Host.is_tree in looks_stat c.stat.ensures.step (looks_start (t c.args.host.now)) (t c.args.host.now)

pub returns-in_err-list-in-Dir-clause-unchanged : goal.returns-in_err-list-in-Dir-clause-unchanged
returns-in_err-list-in-Dir-clause-unchanged g c = let t = g.met.H.Host.is_tree in looks_list c.list.ensures.step (looks_stat c.stat.ensures.step (looks_start (t c.args.host.now)) (t c.args.host.now)) (t c.stat.new.self)

pub returns-in_ok-list-in-Dir-clause-unchanged : goal.returns-in_ok-list-in-Dir-clause-unchanged
returns-in_ok-list-in-Dir-clause-unchanged g c = let t = g.met.H.Host.is_tree in looks_list c.list.ensures.step (looks_stat c.stat.ensures.step (looks_start (t c.args.host.now)) (t c.args.host.now)) (t c.stat.new.self)

pub returns-in_ok-list-in-Dir-clause-tells : goal.returns-in_ok-list-in-Dir-clause-tells
returns-in_ok-list-in-Dir-clause-tells g c = let t = g.met.H.Host.is_tree in ends_on (ends_call (t c.stat.new.self) c.in_ok-list-in-Dir.ensures.step) (ends_call (t c.args.host.now) c.stat.ensures.step) (t c.stat.new.self) (λ u v w tree q s. lists_of q.same s)

pub returns-in_default : goal.returns-in_default
returns-in_default g c =
    let t = g.met.H.Host.is_tree in
    let none = c.from_vec.ensures ∙ c.new.ensures.items in
    record {
      unchanged = looks_stat c.stat.ensures.step (looks_start (t c.args.host.now)) (t c.args.host.now);
      tells = ends_on (ends_start (t c.stat.new.self)) (ends_call (t c.args.host.now) c.in_ok-stat.ensures.step) (t c.stat.new.self) (λ u v w tree q s. subst (ListsIn c.args.folder.now u) (sym none) (lists_none (subst IsTree q.same tree) (stat_no_dir q c.in_default.not-Dir)));
      names = subst AreNames (sym none) (record { each = refl; ascending = refl });
      fault_has_cause = record { later = c.stat.ensures.fault_has_cause.later; fault = λ is. absurd (cc is) };
    }
