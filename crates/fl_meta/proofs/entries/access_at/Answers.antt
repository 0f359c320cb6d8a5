use Rattle.std.proofs.Common.{sym, ap, ◌∙◌, unwrap_or}
use Rattle.fl_meta.specs.declared.permission.Value.TheVariants as values
use Rattle.fl_meta.specs.Entries.{access_remainder, access_at}
use Rattle.fl_meta.proofs.Endings.{last_word-cut, last_word-none}
use Rattle.fl_meta.proofs.Searches.{no_cut, last_cut}
use Rattle.fl_meta.proofs.entries.access_at.Goals as goal

pub returns-in-Some : goal.returns-in-Some
unfolding access_at
returns-in-Some c =
    let front = c.in-Some.field-0-0 in
    let word = c.in-Some.word in
    let cut = last_cut c.args.text.now (front, word) c.in-Some.ensures.cases in
    c.unwrap_or.ensures ∙ ap (λ v. unwrap_or v values.Rw) c.access_of.ensures ∙ sym (ap (λ w. unwrap_or (access_remainder w) values.Rw) (last_word-cut front.now word.now c.args.text.now cut.text_is cut.whole))

pub returns-in-None : goal.returns-in-None
unfolding access_at
returns-in-None c =
    sym (ap (λ w. unwrap_or (access_remainder w) values.Rw) (last_word-none c.args.text.now (no_cut c.args.text.now c.in-None.ensures.cases)))
