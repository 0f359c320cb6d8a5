use Rattle.std.proofs.Common.{sym, ap, ◌∙◌, is_some}
use Rattle.fl_meta.specs.Entries.{access_remainder}
use Rattle.fl_meta.proofs.Endings.{last_word-cut, last_word-none}
use Rattle.fl_meta.proofs.Searches.{no_cut, last_cut}
use Rattle.fl_meta.proofs.places.cut_ending.Goals as goal

pub returns-in_err-front : goal.returns-in_err-front
returns-in_err-front c =
    rw c.from_residual.ensures (ap (λ w. is_some (access_remainder w)) (last_word-none c.args.text.now (no_cut c.args.text.now c.in_err-front.ensures.cases)))

pub returns-in_err-access_of : goal.returns-in_err-access_of
returns-in_err-access_of c =
    let front = c.in_ok-front.front in
    let word = c.in_ok-front.word in
    let cut = last_cut c.args.text.now (front, word) c.in_ok-front.ensures.cases in
    rw c.from_residual-in_err-access_of.ensures (ap (λ w. is_some (access_remainder w)) (last_word-cut front.now word.now c.args.text.now cut.text_is cut.whole) ∙ ap is_some (sym c.in_err-access_of.ensures))

pub returns : goal.returns
returns c =
    let front = c.in_ok-front.front in
    let word = c.in_ok-front.word in
    let cut = last_cut c.args.text.now (front, word) c.in_ok-front.ensures.cases in
    record {
      word = word.now;
      whole = cut.whole;
      ending = ap is_some (sym c.in_ok-access_of.ensures);
      text_is = cut.text_is;
    }
