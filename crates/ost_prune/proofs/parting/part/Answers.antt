use Rattle.std.proofs.Common.{◌≡◌, ℕ, true, false, List, [], ◌∷◌, ◌++◌, length, sym, ◌∙◌, ap, arith}
use Rattle.std.proofs.lemmas.Bool.{not_from_true, not_from_false}
use Rattle.ost_prune.specs.Prune.{is_commit}
use Rattle.ost_prune.specs.Removing.{is_other}
use Rattle.ost_prune.proofs.Parted.{more_in, more_out, all_parted}
use Rattle.fp_base.specs.declared.object.ObjKind.{ObjKind}
use Rattle.ost_prune.proofs.parting.part.Goals as goal

pub loop-object-init : goal.loop-object-init
loop-object-init c = record { commits = cc; others = cc }

pub loop-object-preserved-then-is_commit_kind : goal.loop-object-preserved-then-is_commit_kind
loop-object-preserved-then-is_commit_kind c =
    let o = c.object-item.result in
    let objects = c.args.objects.now in
    let i = c.loop-object.object-index in
    let holds : is_commit o ≡ true = sym c.is_commit_kind.ensures ∙ c.if-is_commit_kind.true in
    let had = c.loop-object.invariant in
    let commits = more_in is_commit objects i o c.loop-object-test.true c.object-item.is holds in
    let others = more_out is_other objects i o c.loop-object-test.true c.object-item.is (not_from_true (is_commit o) holds) in
    record { commits = c.in_ok-push.ensures.items ∙ ap (λ (l : List (List ℕ × ObjKind)). l ++ o ∷ []) had.commits ∙ sym commits; others = had.others ∙ sym others }

pub loop-object-preserved : goal.loop-object-preserved
loop-object-preserved c =
    let o = c.object-item.result in
    let objects = c.args.objects.now in
    let i = c.loop-object.object-index in
    let fails : is_commit o ≡ false = sym c.is_commit_kind.ensures ∙ c.if-is_commit_kind.false in
    let had = c.loop-object.invariant in
    let commits = more_out is_commit objects i o c.loop-object-test.true c.object-item.is fails in
    let others = more_in is_other objects i o c.loop-object-test.true c.object-item.is (not_from_false (is_commit o) fails) in
    record { commits = had.commits ∙ sym commits; others = c.in_ok-push-2.ensures.items ∙ ap (λ (l : List (List ℕ × ObjKind)). l ++ o ∷ []) had.others ∙ sym others }

pub returns : goal.returns
returns c =
    let objects = c.args.objects.now in
    let i = c.loop-object.object-index in
    let end : length objects ≡ i = omega (arith, c.loop-object-test.false, c.loop-object.auto.object-index-end) in
    (all_parted is_commit objects i end c.loop-object.invariant.commits, all_parted is_other objects i end c.loop-object.invariant.others)
