-- Steps that are joined.
use Rattle.std.proofs.Common.{◌≡◌, inl, inr, refl, sym, ◌∙◌, subst}
use Rattle.fp_host.specs.Paths.{Elements, Slot}
use Rattle.fp_host.specs.View.{View}
use Rattle.fp_host.specs.Outcome.{Spot}
use Rattle.fp_host.specs.Frame.{Keeps, NoPath}
use Rattle.fp_host.proofs.Follow.{follows_refl, follows_on, follows_to}
use Rattle.fp_small.proofs.Keeping.{files_stay, files_on, files_kept}
use Rattle.fl_export.specs.Steps.{Alters}

pub alters_none : {G : Elements → Spot → Type 0} {W : Elements → Slot → Type 0} {v : View} → Alters G W v v
alters_none = record { follows = follows_refl; names = λ q. inl refl; puts = λ x had. inl had; files = files_stay; printed = refl }

pub alters_same : {G : Elements → Spot → Type 0} {W : Elements → Slot → Type 0} {v w : View} → w ≡ v → Alters G W v w
alters_same {G = G} {W = W} {v = v} same = subst (Alters G W v) (sym same) alters_none

pub alters_on : {G : Elements → Spot → Type 0} {W : Elements → Slot → Type 0} {u v w : View} → Alters G W u v → Alters G W v w → Alters G W u w
alters_on {W = W} first second = record {
  follows = follows_on first.follows second.follows;
  names = λ q. elim (second.names q) [
    | inl same ↦ elim (first.names q) [ inl was ↦ inl (same ∙ was) | inr put ↦ inr (subst (W q) (sym same) put) ]
    | inr put ↦ inr put
  ];
  puts = λ x had. elim (second.puts x had) [ inl before ↦ first.puts x before | inr put ↦ inr put ];
  files = files_on first.files second.files;
  printed = second.printed ∙ first.printed;
}

pub alters_to : {G H : Elements → Spot → Type 0} {V W : Elements → Slot → Type 0} {u w : View} → ((q : Elements) (spot : Spot) → H q spot → G q spot) → ((q : Elements) (e : Slot) → V q e → W q e) → Alters H V u w → Alters G W u w
alters_to given put step = record {
  follows = follows_to given step.follows;
  names = λ q. elim (step.names q) [ inl same ↦ inl same | inr h ↦ inr (put q _ h) ];
  puts = λ x had. elim (step.puts x had) [ inl before ↦ inl before | inr h ↦ inr (put x.0 x.1 h) ];
  files = step.files;
  printed = step.printed;
}

pub alters_kept : {G : Elements → Spot → Type 0} {W : Elements → Slot → Type 0} {u w : View} → Keeps G W NoPath u w → Alters G W u w
alters_kept keeps = record { follows = keeps.follows; names = keeps.names; puts = keeps.puts; files = files_kept keeps; printed = keeps.printed }
