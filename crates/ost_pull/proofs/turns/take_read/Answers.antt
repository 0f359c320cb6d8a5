use Rattle.std.proofs.Common.{List, ℕ, Err, refl, sym, subst, arith, rules}
use Rattle.std.specs.Prelude.{IsErrOf}
use Rattle.fp_base.specs.declared.object.ObjKind.{ObjKind}
use Rattle.fp_host.proofs.Ending.{ends_start}
use Rattle.ost_model.specs.declared.object.Object.{Object}
use Rattle.ost_store.specs.Stage.{IsKeepable}
use Rattle.ost_walk.specs.declared.ends.WalkEnd.{WalkEnd}
use Rattle.ost_walk.specs.declared.ends.WalkEnd.TheVariants as ends
use Rattle.ost_head.specs.Found.{RemoteHas}
use Rattle.ost_pull.specs.Batches.{object_in}
use Rattle.ost_store.specs.ObjectNames.{AreOpen}
use Rattle.ost_pull.specs.Work.{CanKeep}
use Rattle.ost_pull.proofs.Kept.{works_start}
use Rattle.ost_pull.proofs.Taken.{host_fault, passed, no_fault, no_remotes, can_keep}
use Rattle.ost_pull.proofs.Batched.{read_taken}
use Rattle.ost_pull.proofs.turns.take_read.Goals as goal

pub returns-in_err-object : goal.returns-in_err-object
returns-in_err-object g c =
    record {
      any_moment = works_start (g.met.H.Host.is_tree c.args.host.now);
      same = refl {a = g.R.Remotes.holds c.args.remotes.now};
      adds = search rules;
      on_success = search rules;
      tells = search rules;
      fault_has_cause = search rules;
      remote_fault_has_cause = search rules;
    }

pub returns-in-Ok : goal.returns-in-Ok
returns-in-Ok g c =
    let t = g.met.H.Host.is_tree in
    record {
      any_moment = c.keep.ensures.any_moment;
      same = refl {a = g.R.Remotes.holds c.args.remotes.now};
      adds = c.in-Ok.ensures.adds;
      on_success =
          let o : List ℕ × ObjKind = (c.args.digest.now, c.args.kind) in
          let url = c.args.url.now in
          let holds = g.R.Remotes.holds c.args.remotes.now in
          let there = subst (λ (x : Object). RemoteHas url holds c.args.digest.now c.args.kind x) (sym c.in_ok-object.ensures) c.requires.read.new.there in
          read_taken c.requires.apart o (object_in c.args.form.now c.args.item.now) c.args.kept.now.items c.keep.new.kept.items c.as_bytes-bytes.ensures.good c.in-Ok.ensures.adds (t c.args.host.now) (t c.keep.new.host) c.requires.read.new
          c.keep.ensures.any_moment (c.in-Ok.ensures.on_success url holds there);
      tells = search rules;
      fault_has_cause = no_fault (λ is. absurd (cc is)) c.keep.ensures.fault_has_cause.later;
      remote_fault_has_cause = no_remotes (λ is. absurd (cc is)) (omega arith);
    }

pub returns-then-is_good : goal.returns-then-is_good
returns-then-is_good g c =
    let t = g.met.H.Host.is_tree in
    record {
      any_moment = c.keep.ensures.any_moment;
      same = refl {a = g.R.Remotes.holds c.args.remotes.now};
      adds = tt;
      on_success = tt;
      tells = search rules;
      fault_has_cause =
          let o : List ℕ × ObjKind = (c.args.digest.now, c.args.kind) in
          let object = c.in_ok-object.object in
          passed (AreOpen c.args.work.now) (CanKeep c.args.work.now c.args.digest.now c.args.kind object) (t c.args.host.now) (omega arith) (ends_start (t c.args.host.now)) c.in-Err.ensures.fault_has_cause
          (λ is. host_fault c.in-Err.end (subst (λ (e : WalkEnd). IsErrOf {T = Unit {0}} (Err e) ends.HostFault) c.walk_end.ensures is))
          (λ u v tree q can. can_keep o object c.as_bytes-bytes.ensures.good (subst IsKeepable (sym c.in_ok-object.ensures) c.requires.read.fit.keepable) q can);
      remote_fault_has_cause = search rules;
    }
