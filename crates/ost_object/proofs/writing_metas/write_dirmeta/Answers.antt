use Rattle.std.proofs.Common.{refl}
use Rattle.fp_base.specs.declared.rule.Rule.TheVariants as rules
use Rattle.ost_model.specs.Fields.{meta_in}
use Rattle.ost_model.specs.Readers.{meta_breaks}
use Rattle.ost_model.specs.Types.{meta_shape}
use Rattle.ost_object.specs.Values.{meta_value}
use Rattle.ost_object.specs.Views.{meta_view}
use Rattle.ost_object.proofs.OneValue.{kind_breaks, kind_is_good, meta_is, meta_says}
use Rattle.ost_object.proofs.Written.{refused, written, spells_as}
use Rattle.ost_object.proofs.writing_metas.write_dirmeta.Goals as goal

pub returns-then-meta-ne-DIRECTORY_TYPE : goal.returns-then-meta-ne-DIRECTORY_TYPE
returns-then-meta-ne-DIRECTORY_TYPE c = refused meta_shape meta_in meta_breaks (meta_view c.args.meta.now) rules.Kind (kind_breaks c.args.meta.now.mode c.if-meta-ne-DIRECTORY_TYPE.true)

pub returns : goal.returns
returns c =
    let y = meta_view c.args.meta.now in
    written meta_shape meta_in meta_breaks c.spelled.result y (meta_value y) (kind_is_good c.args.meta.now.mode c.if-meta-ne-DIRECTORY_TYPE.false)
    (meta_says c.args.meta.now.mode c.value_of.ensures.small) (meta_is y refl)
    (spells_as c.spelled.result _ meta_shape _ (meta_value y) c.in_ok-of.ensures c.in_ok-value.ensures.value c.spelled.ensures)
