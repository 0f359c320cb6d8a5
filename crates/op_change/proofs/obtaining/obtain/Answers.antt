use Rattle.std.proofs.Common.{Result, Ok, List, ℕ, subst}
use Rattle.ost_walk.specs.Ends.{outside}
use Rattle.ost_walk.specs.declared.pull_end.PullEnd.{PullEnd}
use Rattle.fp_small.specs.declared.state.State.{State}
use Rattle.op_change.specs.Coming.{IsComing}
use Rattle.op_change.specs.Fetching.{Retrieves}
use Rattle.op_change.specs.declared.coming.Coming.{Coming}
use Rattle.op_change.proofs.Standing.{kept_before, unkept_by}
use Rattle.op_change.proofs.Whole.{Foresees, obtains_none, obtains_not, obtains}
use Rattle.op_change.proofs.obtaining.obtain.Goals as goal

pub returns-in_err-coming-clause-obtains : goal.returns-in_err-coming-clause-obtains
returns-in_err-coming-clause-obtains g c =
    let s = c.args.opened.now in
    let u = outside (g.H.Host.moments c.args.host.now) (g.H.Host.faults c.args.host.now) (g.R.Remotes.holds c.args.remotes.now) (g.R.Remotes.faults c.args.remotes.now) in
    let v = outside (g.H.Host.moments c.of.new.host) (g.H.Host.faults c.of.new.host) (g.R.Remotes.holds c.of.new.remotes) (g.R.Remotes.faults c.of.new.remotes) in
    let f : Foresees s c.args.remote.now c.args.name.now c.args.commit.now c.of.result u v = record { told = g.met.H.Host.is_tree c.args.host.now; looks = c.of.ensures.looks; heads = c.of.ensures.heads } in
    obtains_none s c.args.remote.now c.args.name.now c.args.commit.now u v _ _ c.from_residual.ensures.1
    (subst (λ (r : Result Coming PullEnd). Foresees s c.args.remote.now c.args.name.now c.args.commit.now r u v) c.in_err-coming.was f)

pub fetch-requires : goal.fetch-requires
fetch-requires g c =
    let coming = subst (λ (s : State). IsComing s c.args.remote.now.name c.args.name.now c.args.commit.now c.in_ok-coming.coming) c.state.ensures c.in_ok-coming.ensures.coming in
    (c.type_bounds.sync-typeof-rt, (coming.places, λ is. unkept_by c.requires (coming.unkept is)))

pub returns-in_err-fetch-clause-obtains : goal.returns-in_err-fetch-clause-obtains
returns-in_err-fetch-clause-obtains g c =
    let s = c.args.opened.now in
    let t = g.met.H.Host.is_tree in
    let u = outside (g.H.Host.moments c.args.host.now) (g.H.Host.faults c.args.host.now) (g.R.Remotes.holds c.args.remotes.now) (g.R.Remotes.faults c.args.remotes.now) in
    let v = outside (g.H.Host.moments c.of.new.host) (g.H.Host.faults c.of.new.host) (g.R.Remotes.holds c.of.new.remotes) (g.R.Remotes.faults c.of.new.remotes) in
    let w = outside (g.H.Host.moments c.fetch.new.host) (g.H.Host.faults c.fetch.new.host) (g.R.Remotes.holds c.fetch.new.remotes) (g.R.Remotes.faults c.fetch.new.remotes) in
    let f : Foresees s c.args.remote.now c.args.name.now c.args.commit.now (Ok c.in_ok-coming.coming) u v = record { told = t c.args.host.now; looks = c.in_ok-coming.ensures.looks; heads = c.in_ok-coming.ensures.heads } in
    let at_url = subst (λ (url : List ℕ). Retrieves s c.args.name.now c.args.commit.now c.in_ok-coming.coming.kept url c.fetch.result v w) c.as_str.ensures.text c.fetch.ensures in
    obtains_not s c.args.remote.now c.args.name.now c.args.commit.now u v c.in_ok-coming.coming w f (t c.of.new.host) (t c.fetch.new.host) _ _ c.from_residual-in_err-fetch.ensures.1
    (subst (λ (r : Result (Unit {0}) PullEnd). Retrieves s c.args.name.now c.args.commit.now c.in_ok-coming.coming.kept c.args.remote.now.url r v w) c.in_err-fetch.was at_url)

pub returns-clause-obtains : goal.returns-clause-obtains
returns-clause-obtains g c =
    let s = c.args.opened.now in
    let t = g.met.H.Host.is_tree in
    let u = outside (g.H.Host.moments c.args.host.now) (g.H.Host.faults c.args.host.now) (g.R.Remotes.holds c.args.remotes.now) (g.R.Remotes.faults c.args.remotes.now) in
    let v = outside (g.H.Host.moments c.of.new.host) (g.H.Host.faults c.of.new.host) (g.R.Remotes.holds c.of.new.remotes) (g.R.Remotes.faults c.of.new.remotes) in
    let w = outside (g.H.Host.moments c.fetch.new.host) (g.H.Host.faults c.fetch.new.host) (g.R.Remotes.holds c.fetch.new.remotes) (g.R.Remotes.faults c.fetch.new.remotes) in
    let f : Foresees s c.args.remote.now c.args.name.now c.args.commit.now (Ok c.in_ok-coming.coming) u v = record { told = t c.args.host.now; looks = c.in_ok-coming.ensures.looks; heads = c.in_ok-coming.ensures.heads } in
    let coming = subst (λ (x : State). IsComing x c.args.remote.now.name c.args.name.now c.args.commit.now c.in_ok-coming.coming) c.state.ensures c.in_ok-coming.ensures.coming in
    let at_url = subst (λ (url : List ℕ). Retrieves s c.args.name.now c.args.commit.now c.in_ok-coming.coming.kept url c.fetch.result v w) c.as_str.ensures.text c.fetch.ensures in
    obtains s c.args.remote.now c.args.name.now c.args.commit.now u v c.in_ok-coming.coming w f (t c.of.new.host) (t c.fetch.new.host) coming.row.name_is c.requires (λ is. kept_before (coming.kept is)) coming.row.is
    (subst (λ (r : Result (Unit {0}) PullEnd). Retrieves s c.args.name.now c.args.commit.now c.in_ok-coming.coming.kept c.args.remote.now.url r v w) c.in_ok-fetch.was at_url)

pub returns-clause-row : goal.returns-clause-row
returns-clause-row g c =
    (subst (λ (x : State). IsComing x c.args.remote.now.name c.args.name.now c.args.commit.now c.in_ok-coming.coming) c.state.ensures c.in_ok-coming.ensures.coming).row
