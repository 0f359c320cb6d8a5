use Rattle.std.proofs.Common.{◌∙◌, ◌∷◌, ◌++◌, List, ℕ, Ok, ap, subst, map}
use Rattle.fp_host.specs.View.{IsTree}
use Rattle.fp_host.specs.Reads.{StatOf}
use Rattle.fp_host.proofs.Looking.{looks_start, looks_stat, looks_list}
use Rattle.fp_host.proofs.Ending.{ends_call, ends_on, ends_in_tree}
use Rattle.fp_small.proofs.Making.{stat_absent, stat_dir, lists_of}
use Rattle.fp_small.proofs.Emptying.{stat_leaf}
use Rattle.ost_store.proofs.Levels.{visited_absent, visited_leaf, visited_dir}
use Rattle.ost_store.proofs.walking.visit.Goals as goal

pub returns-in_err-stat-clause-unchanged : goal.returns-in_err-stat-clause-unchanged
returns-in_err-stat-clause-unchanged g c = let t = g.met.H.Host.is_tree in looks_stat c.stat.ensures.step (looks_start (t c.args.host.now)) (t c.args.host.now)

pub returns-in_err-names-in-Dir-clause-unchanged : goal.returns-in_err-names-in-Dir-clause-unchanged
returns-in_err-names-in-Dir-clause-unchanged g c = let t = g.met.H.Host.is_tree in looks_list c.list.ensures.step (looks_stat c.stat.ensures.step (looks_start (t c.args.host.now)) (t c.args.host.now)) (t c.stat.new.self)

pub returns-in_err-add_names-in-Dir-clause-unchanged : goal.returns-in_err-add_names-in-Dir-clause-unchanged
returns-in_err-add_names-in-Dir-clause-unchanged g c = let t = g.met.H.Host.is_tree in looks_list c.list.ensures.step (looks_stat c.stat.ensures.step (looks_start (t c.args.host.now)) (t c.args.host.now)) (t c.stat.new.self)

pub returns-in_err-add_path-in_default-clause-unchanged : goal.returns-in_err-add_path-in_default-clause-unchanged
returns-in_err-add_path-in_default-clause-unchanged g c = let t = g.met.H.Host.is_tree in looks_stat c.stat.ensures.step (looks_start (t c.args.host.now)) (t c.args.host.now)

pub returns-in-Absent-clause-unchanged : goal.returns-in-Absent-clause-unchanged
returns-in-Absent-clause-unchanged g c = let t = g.met.H.Host.is_tree in looks_stat c.stat.ensures.step (looks_start (t c.args.host.now)) (t c.args.host.now)

pub returns-in-Absent-clause-tells : goal.returns-in-Absent-clause-tells
returns-in-Absent-clause-tells g c =
    let t = g.met.H.Host.is_tree in
    ends_in_tree (t c.stat.new.self) (ends_call (t c.args.host.now) c.in_ok-stat.ensures.step) (λ u w tree s. visited_absent (subst IsTree s.same tree) c.args.found.now.items c.args.next.now.items (stat_absent (subst (λ r. StatOf c.args.path.now (Ok r) u w) c.in-Absent.is s)))

pub returns-in_ok-add_names-in-Dir-clause-unchanged : goal.returns-in_ok-add_names-in-Dir-clause-unchanged
returns-in_ok-add_names-in-Dir-clause-unchanged g c = let t = g.met.H.Host.is_tree in looks_list c.list.ensures.step (looks_stat c.stat.ensures.step (looks_start (t c.args.host.now)) (t c.args.host.now)) (t c.stat.new.self)

pub returns-in_ok-add_names-in-Dir-clause-tells : goal.returns-in_ok-add_names-in-Dir-clause-tells
returns-in_ok-add_names-in-Dir-clause-tells g c =
    let t = g.met.H.Host.is_tree in
    let p = c.args.path.now in
    ends_on (ends_call (t c.stat.new.self) c.in_ok-names-in-Dir.ensures.step) (ends_call (t c.args.host.now) c.in_ok-stat.ensures.step) (t c.stat.new.self) (λ u v w tree s listed.
    visited_dir (subst IsTree s.same tree) c.args.found.now.items c.args.next.now.items c.in_ok-names-in-Dir.names (lists_of s.same listed) (stat_dir (subst (λ r. StatOf p (Ok r) u v) c.in-Dir.is s))
    (c.in_ok-add_names-in-Dir.ensures ∙ ap (λ (l : List (List ℕ)). c.args.next.now.items ++ map (λ x. x ∷ p) l) c.as_slice.ensures))

pub returns-in_ok-add_path-in_default-clause-unchanged : goal.returns-in_ok-add_path-in_default-clause-unchanged
returns-in_ok-add_path-in_default-clause-unchanged g c = let t = g.met.H.Host.is_tree in looks_stat c.stat.ensures.step (looks_start (t c.args.host.now)) (t c.args.host.now)

pub returns-in_ok-add_path-in_default-clause-tells : goal.returns-in_ok-add_path-in_default-clause-tells
returns-in_ok-add_path-in_default-clause-tells g c =
    let t = g.met.H.Host.is_tree in
    ends_in_tree (t c.stat.new.self) (ends_call (t c.args.host.now) c.in_ok-stat.ensures.step) (λ u w tree s. visited_leaf (subst IsTree s.same tree) c.args.found.now.items c.args.next.now.items (stat_leaf s c.in_default.not-Absent c.in_default.not-Dir) c.in_ok-add_path-in_default.ensures)
