use Rattle.std.proofs.Common.{◌≡◌, ◌∙◌, Option, Some, Result, sym, subst}
use Rattle.std.specs.Prelude.{IfOk, IfSome}
use Rattle.fp_host.specs.Remote.{Held, IsNode}
use Rattle.ost_model.specs.declared.object.Object.{Object}
use Rattle.ost_model.specs.Objects.{object_at}
use Rattle.ost_model.specs.Remotes.{as_spot}
use Rattle.ost_walk.specs.declared.ends.WalkEnd.{WalkEnd}
use Rattle.fp_base.specs.declared.object.ObjKind.{ObjKind}
use Rattle.ost_pull.proofs.small.small_meta.Goals as goal
use Rattle.ost_pull.proofs.small.small_meta.Goals.{in-File, in-Absent}

-- what is found is the object that stands there
abbrev FoundAt : ObjKind → Held → Result (Option Object) WalkEnd → Type 0
FoundAt kind h r = IfOk r (λ found. IfSome found (λ object. object_at kind (as_spot h) ≡ Some object))

pub returns-clause-there : goal.returns-clause-there
returns-clause-there g c held told =
    let h : Held = held c.args.url.now c.args.path.now in
    elim c.match-branch-2.branch [
      | in-File w ↦ subst (FoundAt c.args.kind h) (sym w.result-is)
          (w.small_bytes.ensures.there held (c.in_ok-size.ensures.same ∙ told) w.in-File.mode (subst (IsNode h) w.in-File.is (c.in_ok-size.ensures.tells held told)))
      | in-Absent w ↦ subst (FoundAt c.args.kind h) (sym w.result-is) tt
    ]
