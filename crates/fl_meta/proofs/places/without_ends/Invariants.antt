use Rattle.std.proofs.Common.{◌≡◌, length}
use denote.Text.{Utf8}
use denote.Shadow.{shadow}
use Rattle.fl_meta.specs.Places.{without_ends}
use Rattle.fl_meta.proofs.places.without_ends.Given as goal

-- what is left without ends is that of the whole
abbrev pub invariant-loop-front : goal.invariant-loop-front
invariant-loop-front l = record {
  is_text : shadow (Utf8 l.rest);
  same : without_ends l.rest ≡ without_ends l.text;
}

abbrev pub decreases-loop-front : goal.decreases-loop-front
decreases-loop-front l = length l.rest
