use Rattle.std.proofs.Common.{List, ap, ◌∙◌, arith}
use Rattle.fp_keyfile.specs.Lines.{lines_of}
use Rattle.fl_words.specs.declared.command.Change.{Change}
use Rattle.fl_words.proofs.Batches.{going_on, begin}
use Rattle.fl_words.proofs.batch.read_batch.Goals as goal

pub loop-rest-init : goal.loop-rest-init
loop-rest-init c =
    let bytes = c.args.bytes.now in
    record {
      counted = omega arith;
      reads = ap (λ (cs : List Change). going_on cs 0 (lines_of bytes)) c.new-changes.ensures.items ∙ begin bytes;
    }
