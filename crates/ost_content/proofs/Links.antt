-- The digest of a link.
use Rattle.std.proofs.Common.{append-nil, ap, List, ℕ, ◌≡◌, [], ◌++◌, ◌∙◌}
use Rattle.sha2.specs.Sha256.{sha256}
use Rattle.ost_model.specs.Contents.{link_digest, link_header}

pub link_item : (target head body : List ℕ) → head ≡ link_header target → body ≡ [] → sha256 (head ++ body) ≡ link_digest target
unfolding link_digest
link_item target head body h b = ap (λ x. sha256 (x ++ body)) h ∙ (ap (λ y. sha256 (link_header target ++ y)) b ∙ ap sha256 (append-nil (link_header target)))
