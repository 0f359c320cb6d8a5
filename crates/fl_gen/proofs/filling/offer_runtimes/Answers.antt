use Rattle.std.proofs.Common.{◌≡◌, ℕ, List, sym, ◌∙◌, subst, arith}
use Rattle.fl_gen.specs.declared.limits.TheConstants.{RUNTIMES}
use Rattle.fl_gen.specs.Made.{Ware, each_of, runtime_ware}
use Rattle.fl_gen.specs.Keeping.{Brings}
use Rattle.fl_gen.proofs.Counting.{none_yet}
use Rattle.fl_gen.proofs.Stocking.{brings_none, brings_more}
use Rattle.fl_gen.proofs.Wares.{brings_as}
use Rattle.fl_gen.proofs.filling.offer_runtimes.Goals as goal

pub loop-number-init : goal.loop-number-init
loop-number-init g c =
    let s = c.args.store.now.rows.items in
    subst (λ (l : List Ware). Brings c.args.version l s s) (sym (none_yet (runtime_ware c.args.version))) (brings_none c.args.version s)

pub loop-number-preserved : goal.loop-number-preserved
loop-number-preserved g c = brings_more (runtime_ware c.args.version) c.loop-number.number c.loop-number.invariant (brings_as c.in_ok-name.ensures (c.as_slice.ensures ∙ c.in_ok-rows.ensures) c.in_ok-offer.ensures)

pub returns : goal.returns
returns g c =
    let all : c.loop-number.number ≡ RUNTIMES = omega (arith, c.loop-number-test.false, c.loop-number.auto.number-end) in
    subst (λ (n : ℕ). Brings c.args.version (each_of (runtime_ware c.args.version) n) c.args.store.now.rows.items c.loop-number.store.rows.items) all c.loop-number.invariant
