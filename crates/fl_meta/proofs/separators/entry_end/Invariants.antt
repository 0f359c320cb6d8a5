use Rattle.std.proofs.Common.{◌≡◌, ◌≤◌, ◌-◌, false, length, take}
use Rattle.fl_meta.specs.Separators.{escapes_after}
use Rattle.fl_meta.proofs.Whole.{IsWhole}
use Rattle.fl_meta.proofs.separators.entry_end.Given as goal

-- no byte so far separates
abbrev pub invariant-loop-end : goal.invariant-loop-end
invariant-loop-end l = record {
  within : l.end ≤ length l.list;
  whole : IsWhole false (take l.end l.list);
  told : l.escaped ≡ escapes_after false (take l.end l.list);
}

abbrev pub decreases-loop-end : goal.decreases-loop-end
decreases-loop-end l = length l.list - l.end
