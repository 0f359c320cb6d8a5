use Rattle.gv_value.specs.Bytes.{le_bytes}
use Rattle.gv_encode.proofs.Numbers.{take-number}
use Rattle.gv_encode.proofs.Steps.{adds-same}
use Rattle.gv_encode.proofs.appending.append_number.Goals as goal

pub returns : goal.returns
returns c =
    adds-same c.append.result c.args.out.now.items c.append.new.out.items _ (le_bytes c.args.size c.args.number)
    (take-number c.args.size c.args.number c.write_u64.new.buf c.requires.small c.write_u64.ensures) c.append.ensures
