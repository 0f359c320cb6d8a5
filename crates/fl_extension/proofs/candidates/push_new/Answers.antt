use Rattle.std.proofs.Common.{◌≡◌, ℕ, Bool, true, false, not, List, [], ◌++◌, sym, ap, ◌∙◌, inl, inr, append-nil}
use denote.Ref.{Bor}
use Rattle.std.specs.List.{list_any}
use Rattle.std.specs.Str.{bytes_eq}
use Rattle.std.proofs.lemmas.Bool.{cases_Bool, false≢true, not-true}
use Rattle.fl_extension.specs.Seen.{has_seen}
use Rattle.fl_extension.proofs.Seen.{has_inserted, contains_is}
use Rattle.fl_extension.proofs.candidates.push_new.Goals as goal

pub returns-in_ok-push_candidate-clause-refs : goal.returns-in_ok-push_candidate-clause-refs
returns-in_ok-push_candidate-clause-refs c =
    let new : has_seen c.args.seen.now c.args.version.now ≡ false = sym (contains_is c.args.seen.now.keys c.args.version) ∙ not-true _ (sym c.in_ok-insert.ensures.added ∙ c.if-branch.true) in
    rw new c.in_ok-push_candidate.ensures.refs

pub returns-in_ok-push_candidate-clause-seen : goal.returns-in_ok-push_candidate-clause-seen
returns-in_ok-push_candidate-clause-seen c text =
    ap (λ (ks : List (Bor (List ℕ))). list_any (λ key. bytes_eq text key.now) ks) c.in_ok-insert.ensures.keys ∙ has_inserted c.args.seen.now.keys c.args.version text

pub returns-else-branch-clause-refs : goal.returns-else-branch-clause-refs
returns-else-branch-clause-refs c =
    let was : has_seen c.args.seen.now c.args.version.now ≡ true = elim (cases_Bool (has_seen c.args.seen.now c.args.version.now)) [
      | inl is ↦ is
      | inr off ↦ absurd (false≢true (sym (sym c.in_ok-insert.ensures.added ∙ c.if-branch.false) ∙ ap not (contains_is c.args.seen.now.keys c.args.version ∙ off)))
    ] in
    rw was (sym (append-nil c.args.out.now.items))

pub returns-else-branch-clause-seen : goal.returns-else-branch-clause-seen
returns-else-branch-clause-seen c text =
    ap (λ (ks : List (Bor (List ℕ))). list_any (λ key. bytes_eq text key.now) ks) c.in_ok-insert.ensures.keys ∙ has_inserted c.args.seen.now.keys c.args.version text
