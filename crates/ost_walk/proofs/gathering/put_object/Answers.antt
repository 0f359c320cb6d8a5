use Rattle.std.proofs.Common.{◌∙◌, ap}
use Rattle.fp_host.specs.Paths.{elements_of, path_text}
use Rattle.ost_model.specs.Objects.{object_path}
use Rattle.ost_walk.proofs.gathering.put_object.Goals as goal

pub returns : goal.returns
returns c =
    let path = c.in_ok-path.ensures ∙ ap (λ r. object_path r c.args.digest.now c.args.kind) c.root.ensures in
    record {
      key = c.in_ok-text.text;
      text = record {
        good = c.as_bytes-bytes.ensures.good;
        is = c.in_ok-text.ensures.ok ∙ c.text.ensures.text ∙ ap path_text path;
        back = ap elements_of c.in_ok-text.ensures.ok ∙ c.text.ensures.back ∙ path;
      };
      put = c.in_ok-insert.ensures.entries;
    }
