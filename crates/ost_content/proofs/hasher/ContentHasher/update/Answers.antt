use Rattle.std.proofs.Common.{◌++◌, append_assoc, subst, sym}
use Rattle.sha2.specs.declared.Sha256.{Sha256}
use Rattle.ost_content.specs.Taken.{HasTaken}
use Rattle.ost_model.specs.Contents.{header}
use Rattle.ost_content.proofs.hasher.ContentHasher.update.Goals as goal

pub returns : goal.returns
unfolding HasTaken
returns c = λ mode bytes taken.
    let held : HasTaken c.self.inside.hasher mode bytes = subst (λ (s : Sha256). HasTaken s mode bytes) (sym c.self.view_is) taken in
    rw append_assoc at (c.update.ensures (header mode ++ bytes) held)
