use Rattle.std.proofs.Common.{◌≡◌, true, ◌∙◌, sym, ap, subst}
use Rattle.fp_host.specs.Paths.{is_link_text}
use Rattle.fp_host.specs.Outcome.{points}
use Rattle.fp_base.specs.declared.object.ObjKind.{ObjKind}
use Rattle.ost_model.specs.Contents.{link_header}
use Rattle.ost_fsck.specs.Batches.{IsItemOf}
use Rattle.ost_fsck.proofs.Itemed.{link_is_item}
use Rattle.ost_fsck.proofs.item.link_item.Goals as goal

pub returns-in_ok-link_header-in-File : goal.returns-in_ok-link_header-in-File
returns-in_ok-link_header-in-File c =
    let text = c.args.text.now in
    let good : is_link_text text ≡ true = sym (ap is_link_text c.as_str.ensures) ∙ sym c.is_link_text.ensures ∙ c.if-is_link_text.true in
    let head = c.in_ok-link_header-in-File.ensures ∙ ap link_header c.as_str-in-File.ensures in
    subst (λ (k : ObjKind). IsItemOf k (points text) (record { head = c.in_ok-link_header-in-File.field-0; body = c.from_vec.result })) (sym c.in-File.is)
    (link_is_item text c.in_ok-link_header-in-File.field-0 c.from_vec.result good head (c.from_vec.ensures ∙ c.new.ensures.items))
