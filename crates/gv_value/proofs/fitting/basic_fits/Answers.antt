use Rattle.std.proofs.Common.{◌≡◌, sym, subst, rules}
use denote.Enum.Bare.{same_true}
use Rattle.gv_value.specs.contracts.basic.Basic.{the_type}
use Rattle.gv_value.specs.Parts.{part_tree}
use Rattle.gv_value.specs.Shape.{basic}
use Rattle.gv_value.specs.Spelling.{fits_within}
use Rattle.gv_value.specs.declared.parts.Parts.{Parts}
use Rattle.gv_value.proofs.FitSteps.{basic_same}
use Rattle.gv_value.proofs.fitting.basic_fits.Goals as goal

pub returns-then-eq : goal.returns-then-eq
returns-then-eq c n =
    subst (λ (p : Parts). c.content_fits.result ≡ fits_within n (basic c.args.of) (part_tree p)) (sym c.in-Basic.is)
    (basic_same n c.args.of c.in-Basic.held c.in-Basic.content c.content_fits.result (same_true the_type (search rules) _ _ (sym c.if-eq.ensures)) c.content_fits.ensures)
