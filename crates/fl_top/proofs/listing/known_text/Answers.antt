use Rattle.std.proofs.Common.{◌≡◌, List, Option, Some, ◌∙◌, ap, subst}
use Rattle.std.specs.Option.{option_map_or}
use Rattle.fp_name.specs.Refs.{ref_text}
use Rattle.fp_small.specs.declared.refusal.Refusal.TheVariants.{NotInstalled}
use Rattle.fp_small.specs.declared.state.RefRow.{RefRow}
use Rattle.dep_states.specs.After.{row_at}
use Rattle.dep_states.specs.Shown.{at_name, ref_key}
use Rattle.fl_installed.specs.Described.{info_in}
use Rattle.fl_change.specs.Answer.{refusal_answer}
use Rattle.fl_top.specs.Answer.{told_of}
use Rattle.fl_top.specs.Ends.{PrintsOf}
use Rattle.fl_top.proofs.listing.known_text.Goals as goal

pub returns-in-Some-clause-tells : goal.returns-in-Some-clause-tells
returns-in-Some-clause-tells g c files d have =
    let name = c.args.name.now in
    let rows : c.as_slice.result.now ≡ c.args.state.now.refs = c.as_slice.ensures in
    let found : Some c.in-Some.row.now ≡ row_at c.args.state.now name = c.in-Some.ensures.row ∙ ap (λ (l : List RefRow). at_name ref_key l (ref_text name)) rows in
    subst (λ (o : Option RefRow). PrintsOf (option_map_or (λ row. told_of row (info_in files name row.commit)) o (refusal_answer (NotInstalled name))) c.row_text.result) found (c.row_text.ensures.tells files d)
