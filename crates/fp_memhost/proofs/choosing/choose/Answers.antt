use Rattle.std.proofs.Common.{◌∙◌, ℕ, sym, ap, subst, List}
use Rattle.fp_host.specs.Paths.{Elements}
use Rattle.fp_host.specs.declared.host.Entry.{Entry}
use Rattle.fp_memhost.specs.declared.image.FileRow.{FileRow}
use Rattle.fp_memhost.specs.Scenes.{seen}
use Rattle.fp_memhost.specs.Images.{rows_of, with_bytes, bytes_for}
use Rattle.fp_memhost.specs.Choosing.{ChoosesNames}
use Rattle.fp_memhost.specs.Files.{files_of}
use Rattle.fp_memhost.proofs.Chosen.{is_chosen}
use Rattle.fp_memhost.proofs.choosing.choose.Goals as goal

pub returns : goal.returns
returns c =
    let v = seen c.args.scene.now in
    let names : ChoosesNames v c.args.choice.now.names c.from_vec.result =
    subst (λ (l : List (Elements × Entry)). ChoosesNames v c.args.choice.now.names l) (sym c.from_vec.ensures) (subst (λ (n : List (Elements × ℕ)). ChoosesNames v n c.in_ok-names.names.items) c.as_slice.ensures c.in_ok-names.ensures) in
    is_chosen v c.requires.tree c.args.choice.now (record { names = c.from_vec.result; files = c.from_vec-2.result }) c.requires.can names
    (λ id. ap (λ (l : List FileRow). rows_of l id) c.from_vec-2.ensures ∙ c.in_ok-files.ensures.rows id
    ∙ (λ i. with_bytes (files_of (c.deref.ensures.value i) id) (bytes_for (c.as_slice-2.ensures i) id)))
