use Rattle.std.proofs.Common.{◌≡◌, ◌∙◌, ◌∷◌, inr, sym, subst, ap}
use Rattle.fp_host.specs.Paths.{Elements}
use Rattle.fp_host.proofs.Ending.{ends_to}
use Rattle.dep_states.specs.Names.{override_path}
use Rattle.dep_open.specs.Parts.{seen_in, IsLayerOf, Adds}
use Rattle.dep_open.proofs.FindingOverrides.{good_layer_adds, loaded_good, override_there}
use Rattle.dep_open.proofs.overrides.add_override.Goals as goal

pub returns-clause-good : goal.returns-clause-good
returns-clause-good g c =
    good_layer_adds c.args.name.now c.in_ok-path.path _ _ _ _ _ (subst (IsLayerOf c.args.name.now) (sym c.in_ok-seen.ensures) (loaded_good c.args.name.now c.in_ok-loaded.loaded (sym c.if-not-is_override.ensures))) c.in_ok-add.ensures

pub returns-clause-tells : goal.returns-clause-tells
returns-clause-tells g c =
    let at : c.in_ok-path.path ≡ override_path c.args.name.now = c.in_ok-path.ensures ∙ ap (λ (l : Elements). c.args.name.now ∷ l) c.requires.folder in
    let good = sym c.if-not-is_override.ensures in
    ends_to c.in_ok-loaded.ensures.tells (λ u w loads. inr (
      good,
      subst (λ s. Adds c.args.name.now (override_path c.args.name.now) s c.args.rows.now.entries c.args.damaged.now c.add.new.rows.entries c.add.new.damaged) (c.in_ok-seen.ensures ∙ sym (override_there c.args.name.now c.in_ok-path.path c.in_ok-loaded.loaded good at loads))
          (subst (λ p. Adds c.args.name.now p (seen_in c.in_ok-seen.seen) c.args.rows.now.entries c.args.damaged.now c.add.new.rows.entries c.add.new.damaged) at c.in_ok-add.ensures),
    ))
