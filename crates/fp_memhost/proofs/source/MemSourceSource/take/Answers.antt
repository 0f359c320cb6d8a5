use Rattle.std.proofs.Common.{◌∙◌, List, ℕ, length, take, drop, min, ap, sym}
use Rattle.std.proofs.lemmas.List.{drop-drop, take_rest}
use Rattle.fp_memhost.proofs.Taking.{takes_some}
use Rattle.fp_memhost.proofs.source.MemSourceSource.take.Goals as goal

pub returns-clause-takes : goal.returns-clause-takes
returns-clause-takes c =
    let s = c.args.self.now in
    let n = c.copy_front-many.result in
    let rest = take_rest c.as_slice-bytes.result.now s.at ∙ ap (λ (l : List ℕ). drop s.at l) c.as_slice-bytes.ensures in
    takes_some (drop s.at s.bytes) _ _ n (length c.args.into.now) s.step (c.copy_front-many.ensures.many ∙ ap (λ (l : List ℕ). min (min (length l) (length c.args.into.now)) s.step) rest) c.copy_front-many.ensures.len s.steps
    (c.copy_front-many.ensures.same ∙ ap (λ (l : List ℕ). take n l) rest) (sym (drop-drop n s.at s.bytes))
