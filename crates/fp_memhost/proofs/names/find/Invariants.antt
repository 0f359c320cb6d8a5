use Rattle.std.proofs.Common.{◌≡◌, ◌-◌, ◌<◌, ◌≤◌, ℕ, length}
use Rattle.std.specs.declared.cmp.Ordering.TheVariants.{Less, Greater}
use Rattle.fp_memhost.specs.declared.names.Name.{Name}
use Rattle.fp_memhost.proofs.Ordered.{compare, text_at}
use Rattle.fp_memhost.proofs.names.find.Given as goal

abbrev pub invariant-loop-low : goal.invariant-loop-low
invariant-loop-low l =
    (l.low ≤ l.high) × (l.high ≤ length l.names) × ((k : ℕ) (d : Name) → k < l.low → compare (text_at l.names k d) l.text ≡ Less)
    × ((k : ℕ) (d : Name) → l.high ≤ k → k < length l.names → compare (text_at l.names k d) l.text ≡ Greater)

abbrev pub decreases-loop-low : goal.decreases-loop-low
decreases-loop-low l = l.high - l.low
