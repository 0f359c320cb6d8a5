use Rattle.std.proofs.Common.{List, ℕ, Option, Result, sym, subst}
use Rattle.std.specs.Prelude.{◌≡◌, IfOk}
use Rattle.fp_host.specs.Paths.{Elements}
use Rattle.fp_host.specs.declared.host.HostEnd.{HostEnd}
use Rattle.ost_model.specs.Remotes.{Stores}
use Rattle.fl_installed.specs.Files.{metadata_digest}
use Rattle.fl_installed.proofs.Found.{digest_told}
use Rattle.fl_installed.proofs.files.find_metadata.Goals as goal

pub returns-clause-tells : goal.returns-clause-tells
returns-clause-tells g c have s =
    subst (λ (r : Result (Option (List ℕ)) HostEnd). IfOk r (λ digest. digest ≡ metadata_digest have c.args.commit.now)) (sym c.digest_in.ensures)
    (digest_told have c.args.commit.now c.in_ok-path.path c.look_there.result c.in_ok-path.ensures
    (c.look_there.ensures.tells have (subst (λ (root : Elements). Stores root (g.H.Host.moments c.args.host.now) have) (sym c.in_ok-places.ensures.0) s)))
