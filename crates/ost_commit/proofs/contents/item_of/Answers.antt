use Rattle.std.proofs.Common.{◌≡◌, ◌++◌, sym, ◌∙◌, ap, subst}
use Rattle.sha2.specs.Sha256.{sha256}
use Rattle.ost_model.specs.Contents.{header, link_header}
use Rattle.ost_content.proofs.Links.{link_item}
use Rattle.ost_commit.specs.declared.row.TreeRow.{TreeRow}
use Rattle.ost_commit.specs.Digests.{IsDigestOf}
use Rattle.ost_commit.proofs.Holding.{file_item}
use Rattle.ost_commit.proofs.contents.item_of.Goals as goal

pub returns-in_ok-copy-in-File : goal.returns-in_ok-copy-in-File
returns-in_ok-copy-in-File c =
    let head : c.in_ok-from_slice-in-File.field-0 ≡ header c.in-File.mode = c.in_ok-from_slice-in-File.ensures ∙ c.header.ensures in
    subst (λ (r : TreeRow). IsDigestOf r (sha256 (c.in_ok-from_slice-in-File.field-0 ++ c.in_ok-copy-in-File.field-0))) (sym c.in-File.is)
    (file_item c.in-File.mode c.in-File.bytes c.in_ok-from_slice-in-File.field-0 c.in_ok-copy-in-File.field-0 head c.in_ok-copy-in-File.ensures)

pub returns-in_ok-from_slice-in-Link : goal.returns-in_ok-from_slice-in-Link
returns-in_ok-from_slice-in-Link c =
    let head : c.in_ok-link_header-in-Link.field-0 ≡ link_header c.in-Link.target = c.in_ok-link_header-in-Link.ensures ∙ ap link_header c.as_str.ensures in
    subst (λ (r : TreeRow). IsDigestOf r (sha256 (c.in_ok-link_header-in-Link.field-0 ++ c.in_ok-from_slice-in-Link.field-0))) (sym c.in-Link.is)
    (link_item c.in-Link.target c.in_ok-link_header-in-Link.field-0 c.in_ok-from_slice-in-Link.field-0 head c.in_ok-from_slice-in-Link.ensures)
