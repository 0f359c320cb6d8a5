use Rattle.std.proofs.Common.{sym, subst}
use Rattle.fl_words.specs.declared.command.Listing.{Listing}
use Rattle.fl_top.specs.Answer.{listing_answer}
use Rattle.fl_top.specs.Ends.{PrintsOf}
use Rattle.fl_top.proofs.listing.listed_text.Goals as goal

pub returns-in-Info-clause-tells : goal.returns-in-Info-clause-tells
returns-in-Info-clause-tells g c files d have stores =
    subst (λ (l : Listing). PrintsOf (listing_answer files l (record { state = c.args.state.now; have = have })) c.known_text.result) (sym c.in-Info.is) (c.known_text.ensures.tells files d have)
