use Rattle.std.proofs.Common.{List, ℕ, subst, sym}
use Rattle.std.proofs.lemmas.Result.{IfOk-weaker}
use Rattle.fp_host.specs.Outcome.{shows}
use Rattle.fp_host.proofs.Looking.{looks_within}
use Rattle.fp_host.proofs.Ending.{ends_on, ends_looks, ends_both}
use Rattle.fp_small.specs.Naming.{ListsIn}
use Rattle.dep_states.specs.Names.{overrides_folder}
use Rattle.dep_open.specs.Parts.{AreOverrides}
use Rattle.dep_open.proofs.overrides.read_overrides.Goals as goal

pub returns-clause-unchanged : goal.returns-clause-unchanged
returns-clause-unchanged g c = looks_within c.overrides_among.ensures.unchanged c.names_in.ensures.unchanged (g.met.H.Host.is_tree c.names_in.new.host)

pub returns-clause-tells : goal.returns-clause-tells
returns-clause-tells g c =
    let t = g.met.H.Host.is_tree in
    IfOk-weaker c.overrides_among.result _ _ (λ part told. ends_on told (ends_both (ends_looks (t c.args.host.now) c.names_in.ensures.unchanged) c.in_ok-names.ensures.tells) (t c.names_in.new.host)
    (λ u v w tree q are. subst (λ x. AreOverrides (shows x) part) q.0.0 (are (subst (λ (l : List (List ℕ)). ListsIn overrides_folder v l) (sym c.as_slice.ensures) (subst (λ x. ListsIn overrides_folder x c.in_ok-names.names) (sym q.0.0) (subst (λ p. ListsIn p u c.in_ok-names.names) c.in_ok-folder.ensures q.1)))))) c.overrides_among.ensures.tells
