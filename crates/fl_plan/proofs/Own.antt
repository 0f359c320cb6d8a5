-- What is offered for an extension point comes from the remote that is asked.
use Rattle.std.proofs.Common.{◌≡◌, ℕ, List, [], ◌∷◌, Option, Some, None, Result, Ok, Err, ap}
use Rattle.std.specs.Option.{option_or}
use Rattle.fp_host.specs.Remote.{Holdings}
use Rattle.fp_name.specs.Refs.{Ref}
use Rattle.fp_small.specs.declared.refusal.Refusal.{Refusal}
use Rattle.fp_small.specs.declared.state.RemoteRow.{RemoteRow}
use Rattle.ost_refs.specs.Offers.{offered}
use Rattle.fl_plan.specs.Offers.{first_of, offer_of, offer_with, unless_declined}
use Rattle.fl_plan.specs.declared.offer.Offer.{Offer}

pub is_own : (held : Holdings) (remote : RemoteRow) (names : List Ref) (offer : Offer) → first_of (offer_of held remote) names ≡ Some offer → remote ≡ offer.remote
is_own held remote [] offer is = absurd (cc is)
is_own held remote (name ∷ names) offer is = go (offered held remote name) (is_own held remote names offer) is
  where
    go : (answer : Result (List ℕ) Refusal) → (first_of (offer_of held remote) names ≡ Some offer → remote ≡ offer.remote)
        → option_or (unless_declined remote name answer) (first_of (offer_of held remote) names) ≡ Some offer → remote ≡ offer.remote
    go (Ok commit) later first = let same : offer_with remote name commit ≡ offer = cc first in ap (λ (o : Offer). o.remote) same
    go (Err refusal) later first = later first
