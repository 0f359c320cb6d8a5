use Rattle.std.proofs.Common.{◌≢◌, ◌≤◌, arith, inl, inr, None, ap, sym, ◌∙◌}
use Rattle.std.proofs.lemmas.Bool.{cases_eq}
use Rattle.fp_memhost.specs.Files.{file_at}
use Rattle.fp_memhost.proofs.Filing.{is_present, some_left}
use Rattle.fp_memhost.proofs.files.fresh_id.Goals as goal
use Rattle.fp_memhost.proofs.files.fresh_id.Goals.{In-loop-id}

here : (c : In-loop-id) → file_at c.args.files.now c.loop-id.id ≢ None
here c = is_present c.args.files.now c.loop-id.id c.find_file.result c.find_file.ensures c.loop-id-test.ensures

low : (c : In-loop-id) → 1 ≤ c.loop-id.id
low c = some_left c.args.files.now c.loop-id.id (here c) c.loop-id.invariant.1

pub overflow_sub-id : goal.overflow_sub-id
overflow_sub-id c = low c

pub loop-id-smaller : goal.loop-id-smaller
loop-id-smaller c = omega (arith, low c)

pub loop-id-preserved : goal.loop-id-preserved
loop-id-preserved c = (
  omega arith,
  λ k lt le. elim (cases_eq k c.loop-id.id) [
    | inl e ↦ (λ none. here c (ap (λ j. file_at c.args.files.now j) (sym e) ∙ none))
    | inr ne ↦ c.loop-id.invariant.1 k (omega arith) le
  ],
)
