use lib.Utf8.{encode}
use Rattle.std.proofs.Common.{cond, drop, sym, ap}
use Rattle.fl_meta.proofs.Searches.{no_mark}
use Rattle.fl_meta.proofs.entries.without_mark.Goals as goal

pub returns-in-None : goal.returns-in-None
unfolding encode
returns-in-None c =
    let entry = c.args.entry.now in
    sym (ap (λ b. cond b (drop 1 entry) entry) (no_mark entry c.in-None.ensures.cases))
