use Rattle.std.proofs.Common.{Ok, subst}
use Rattle.std.proofs.lemmas.Result.{IfOk-weaker}
use Rattle.fp_host.specs.View.{View, IsTree}
use Rattle.fp_host.specs.Reads.{StatOf}
use Rattle.fp_host.specs.Frame.{AtEnd}
use Rattle.fp_host.proofs.Looking.{looks_start, looks_stat, looks_within}
use Rattle.fp_host.proofs.Ending.{ends_call, ends_on, ends_in_tree}
use Rattle.fp_small.proofs.Making.{stat_dir, stat_no_dir}
use Rattle.fp_small.specs.Clear.{Reaches}
use Rattle.ost_store.specs.Walks.{AreLeavesWithin, AreLeavesBelow}
use Rattle.ost_store.proofs.Levels.{below_folder, below_none, none_reached}
use Rattle.ost_store.proofs.walking.leaves_below.Goals as goal

pub returns-in_err-stat-clause-unchanged : goal.returns-in_err-stat-clause-unchanged
returns-in_err-stat-clause-unchanged g c = let t = g.met.H.Host.is_tree in looks_stat c.stat.ensures.step (looks_start (t c.args.host.now)) (t c.args.host.now)

pub returns-in-Dir-clause-unchanged : goal.returns-in-Dir-clause-unchanged
returns-in-Dir-clause-unchanged g c = let t = g.met.H.Host.is_tree in looks_within c.leaves_within.ensures.unchanged (looks_stat c.stat.ensures.step (looks_start (t c.args.host.now)) (t c.args.host.now)) (t c.stat.new.self)

pub returns-in-Dir-clause-tells : goal.returns-in-Dir-clause-tells
returns-in-Dir-clause-tells g c =
    let t = g.met.H.Host.is_tree in
    let p = c.args.folder in
    let here = ends_call (t c.args.host.now) c.in_ok-stat.ensures.step in
    IfOk-weaker c.leaves_within.result (λ found. AtEnd (λ u w. AreLeavesWithin p u found.items) (g.H.Host.moments c.stat.new.self) (g.H.Host.moments c.leaves_within.new.host))
    (λ found. AtEnd (λ u w. AreLeavesBelow p u found.items) (g.H.Host.moments c.args.host.now) (g.H.Host.moments c.leaves_within.new.host))
    (λ found tells. ends_on tells here (t c.stat.new.self) (λ u v w tree s leaves. below_folder p found.items (stat_dir (subst (λ r. StatOf p (Ok r) u v) c.in-Dir.is s)) (subst (λ (x : View). AreLeavesWithin p x found.items) s.same leaves)))
    c.leaves_within.ensures.tells

pub returns-in-Dir-clause-reach : goal.returns-in-Dir-clause-reach
returns-in-Dir-clause-reach g c =
    let t = g.met.H.Host.is_tree in
    let p = c.args.folder in
    let here = ends_call (t c.args.host.now) c.in_ok-stat.ensures.step in
    IfOk-weaker c.leaves_within.result (λ _. AtEnd (λ u w. Reaches p 127 u) (g.H.Host.moments c.stat.new.self) (g.H.Host.moments c.leaves_within.new.host))
    (λ _. AtEnd (λ u w. Reaches p 127 u) (g.H.Host.moments c.args.host.now) (g.H.Host.moments c.leaves_within.new.host))
    (λ found reach. ends_on reach here (t c.stat.new.self) (λ u v w tree s r. subst (λ (x : View). Reaches p 127 x) s.same r))
    c.leaves_within.ensures.reach

pub returns-in_default : goal.returns-in_default
returns-in_default g c =
    let t = g.met.H.Host.is_tree in
    record {
      unchanged = looks_stat c.stat.ensures.step (looks_start (t c.args.host.now)) (t c.args.host.now);
      tells = ends_in_tree (t c.stat.new.self) (ends_call (t c.args.host.now) c.in_ok-stat.ensures.step) (λ u w tree s. below_none c.args.folder c.new.result.items (subst IsTree s.same tree) (stat_no_dir s c.in_default.not-Dir) c.new.ensures.items);
      reach = ends_in_tree (t c.stat.new.self) (ends_call (t c.args.host.now) c.in_ok-stat.ensures.step) (λ u w tree s. none_reached 127 c.args.folder (subst IsTree s.same tree) (stat_no_dir s c.in_default.not-Dir));
      fault_has_cause = record { later = c.stat.ensures.fault_has_cause.later; fault = λ is. absurd (cc is) };
    }
