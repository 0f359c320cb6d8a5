use Rattle.std.proofs.Common.{[]}
use Rattle.std.proofs.lemmas.List.{append-nil}
use Rattle.ost_model.specs.Contents.{header}
use Rattle.ost_content.specs.Taken.{HasTaken}
use Rattle.ost_content.proofs.hasher.ContentHasher.new.Goals as goal

pub returns : goal.returns
unfolding HasTaken
returns c = rw (append-nil (header c.args.mode)) (rw c.header.ensures at (c.update.ensures [] c.new-hasher.ensures))
