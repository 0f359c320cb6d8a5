use Rattle.std.proofs.Common.{◌∙◌, sym}
use Rattle.std.proofs.lemmas.Bool.{both_ways}
use Rattle.fp_memhost.proofs.Sound.{is_image, image_is}
use Rattle.fp_memhost.proofs.image.Image.is_good.Goals as goal

pub returns-then-are_good_names : goal.returns-then-are_good_names
returns-then-are_good_names c = (λ t. is_image c.args.self.now (sym c.if-are_good_names.ensures) (sym c.are_good_files.ensures ∙ t), λ good. c.are_good_files.ensures ∙ (image_is c.args.self.now good).1)

pub returns-else-are_good_names : goal.returns-else-are_good_names
returns-else-are_good_names c = (λ t. absurd (both_ways c.are_good_names.result c.if-are_good_names.false t), λ good. c.are_good_names.ensures ∙ (image_is c.args.self.now good).0)
