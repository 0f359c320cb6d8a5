use Rattle.std.proofs.Common.{◌∷◌, ◌≡◌, ◌∙◌, List, ℕ, true, ap, sym, subst, codes}
use Rattle.fp_host.specs.Paths.{Elements, is_element}
use Rattle.fp_host.specs.Outcome.{shows}
use Rattle.fp_host.proofs.Ending.{ends_to, ends_start}
use Rattle.fp_name.specs.Hex.{hex, unhex}
use Rattle.fp_name.proofs.HexTexts.{unhex_ok, unhex_err}
use Rattle.fp_small.proofs.Elements.{digest_element}
use Rattle.dep_states.specs.Names.{deploy, text_dir}
use Rattle.dep_open.specs.Parts.{IsRowOf}
use Rattle.dep_open.proofs.Linked.{no_digest, deploy_there, row_good}
use Rattle.dep_open.proofs.refs.read_commit.Goals as goal

pub returns-in_default-clause-tells : goal.returns-in_default-clause-tells
returns-in_default-clause-tells g c =
    ends_to (ends_start (g.met.H.Host.is_tree c.args.host.now)) (λ u w same. sym (no_digest c.args.name c.args.text.now (shows u (deploy (text_dir c.args.name c.args.text.now)))
    (ap unhex (sym (c.as_bytes.ensures.value ∙ c.as_str.ensures)) ∙ unhex_err c.as_bytes.result.now c.parse.result c.parse.ensures c.in_default.not-Ok)))

pub child-requires : goal.child-requires
child-requires g c =
    subst (λ t. is_element t ≡ true) (sym c.as_str-2.ensures) (digest_element c.args.text.now c.in-Ok.commit (ap unhex (sym (c.as_bytes.ensures.value ∙ c.as_str.ensures)) ∙ unhex_ok c.as_bytes.result.now c.parse.result c.in-Ok.commit c.parse.ensures c.in-Ok.is))

pub returns-clause-good : goal.returns-clause-good
returns-clause-good g c = subst (IsRowOf c.args.name) (sym c.in_ok-read_deploy.ensures) (row_good c.args.name (hex c.in-Ok.commit) c.in_ok-loaded.loaded c.requires.good)

pub returns-clause-tells : goal.returns-clause-tells
returns-clause-tells g c =
    ends_to c.in_ok-loaded.ensures.tells (λ u w loads. c.in_ok-read_deploy.ensures
    ∙ sym (deploy_there c.args.name c.args.text.now c.in-Ok.commit c.args.folder.now c.in_ok-deploy.deploy c.in_ok-loaded.loaded c.requires.folder
    (c.in_ok-deploy.ensures ∙ ap (λ (d : Elements). codes "deploy" ∷ d) (c.in_ok-child.ensures ∙ ap (λ (t : List ℕ). t ∷ c.args.folder.now) c.as_str-2.ensures))
    (ap unhex (sym (c.as_bytes.ensures.value ∙ c.as_str.ensures)) ∙ unhex_ok c.as_bytes.result.now c.parse.result c.in-Ok.commit c.parse.ensures c.in-Ok.is) loads))
