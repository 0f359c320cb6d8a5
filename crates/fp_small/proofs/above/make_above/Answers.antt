use Rattle.std.proofs.Common.{◌∙◌, List, ℕ, sym, subst}
use Rattle.fp_host.proofs.Ending.{ends_start, ends_to}
use Rattle.fp_small.specs.Folders.{AreFree, IsLadder}
use Rattle.fp_small.proofs.Replacement.{ladder_above}
use Rattle.fp_small.proofs.Unsynced.{none_same}
use Rattle.fp_small.proofs.above.make_above.Goals as goal

pub returns-clause-fault_has_cause : goal.returns-clause-fault_has_cause
returns-clause-fault_has_cause g c =
    let folders = c.deref.ensures.value ∙ c.in_ok-folders.ensures in
    record {
      later = c.make_folders.ensures.fault_has_cause.later;
      fault = λ is m told can. c.make_folders.ensures.fault_has_cause.fault is m told (subst (λ (l : List (List (List ℕ))). IsLadder l × AreFree l m.now) (sym folders) (ladder_above c.args.path.now, can));
    }

pub returns-in_err-folders-clause-unsynced : goal.returns-in_err-folders-clause-unsynced
returns-in_err-folders-clause-unsynced g c = ends_to (ends_start (g.met.H.Host.is_tree c.args.host.now)) (λ u w same. none_same same)
