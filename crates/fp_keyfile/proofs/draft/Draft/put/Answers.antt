use Rattle.std.proofs.Common.{refl}
use Rattle.fp_keyfile.proofs.Drafts.{put_leaves}
use Rattle.fp_keyfile.proofs.draft.Draft.put.Goals as goal

pub returns : goal.returns
returns c = put_leaves c.args.self.now _ c.in-Some.at c.index_mut.result.now c.put.new.self c.args.key.now c.args.value.now c.requires c.in-Some.is c.in-Some.is refl refl c.index_mut.ensures.value c.in_ok-put.ensures.group c.in_ok-put.ensures.indexed
