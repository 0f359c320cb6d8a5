use Rattle.std.proofs.Common.{sym, ◌∙◌, ap, subst}
use Rattle.fp_host.specs.Paths.{elements_of}
use Rattle.ost_refs.specs.Found.{Puts}
use Rattle.ost_refs.proofs.listing.put_place.Goals as goal

pub returns : goal.returns
returns c =
    subst (λ o. Puts c.args.path.now o c.args.found.now.entries c.insert.new.self.entries) (sym c.in-Some.is ∙ c.in_ok-place.ensures.named)
    (c.in_ok-text.text, record { is = c.in_ok-text.ensures.ok ∙ c.text.ensures.text; back = ap elements_of c.in_ok-text.ensures.ok ∙ c.text.ensures.back }, c.in_ok-insert.ensures.entries)
