use Rattle.std.proofs.Common.{◌≡◌, ◌≤◌, take, None, Some}
use Rattle.fp_host.specs.Frame.{AtEnd}
use Rattle.fp_host.specs.Moments.{Always}
use Rattle.ost_model.specs.Objects.{Have}
use Rattle.ost_model.specs.Remotes.{Supplies}
use Rattle.ost_walk.specs.Surveys.{first_bad}
use Rattle.ost_pull.specs.Takes.{AreTakenNow, TakesAll, AddsAmong, StaysNoted}
use Rattle.ost_pull.specs.Trusts.{MayTrust}
use Rattle.ost_pull.specs.Work.{Works}
use Rattle.ost_pull.proofs.turns.take_turns.Given as goal

abbrev pub invariant-loop-at : goal.invariant-loop-at
invariant-loop-at g l = record {
  works : Always (Works l.work) (g.H.Host.moments l.fn.host) (g.H.Host.moments l.host);
  same : g.R.Remotes.holds l.remotes ≡ g.R.Remotes.holds l.fn.remotes;
  only : AddsAmong (take l.at l.objects) l.fn.kept.items l.kept.items;
  noted : StaysNoted l.fn.kept.items l.kept.items;
  taken : AtEnd (TakesAll l.root l.work l.url (g.R.Remotes.holds l.fn.remotes) (take l.at l.objects) l.fn.kept.items l.kept.items) (g.H.Host.moments l.fn.host) (g.H.Host.moments l.host);
  good : (have : Have) → Supplies l.root (Some l.url) (g.H.Host.moments l.fn.host) (g.R.Remotes.holds l.fn.remotes) have → AreTakenNow l.root l.work l.url (g.R.Remotes.holds l.fn.remotes) l.fn.kept.items (g.H.Host.moments l.fn.host) → MayTrust l.trust l.root (g.H.Host.moments l.fn.host) → first_bad have (take l.at l.objects) ≡ None;
  later : g.H.Host.faults l.fn.host ≤ g.H.Host.faults l.host;
  remote_later : g.R.Remotes.faults l.fn.remotes ≤ g.R.Remotes.faults l.remotes;
}
