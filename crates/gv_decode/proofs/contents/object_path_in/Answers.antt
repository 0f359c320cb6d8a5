use Rattle.std.proofs.Common.{◌≡◌, true, rules}
use Rattle.gv_value.specs.Texts.{is_text}
use Rattle.gv_value.specs.Basics.{object_path}
use Rattle.gv_decode.proofs.Basics.{text-from, path-utf8}
use Rattle.gv_decode.proofs.contents.object_path_in.Goals as goal

pub returns : goal.returns
returns c =
    let is : is_text object_path c.in_ok-text.text.now ≡ true = search rules in
    text-from (λ text. text.now) object_path c.args.bytes.now c.in_ok-text.text.now c.utf8-2.result (search rules) is (path-utf8 c.in_ok-text.text.now is) c.utf8-2.ensures
