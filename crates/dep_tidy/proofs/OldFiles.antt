-- The files of layout 1 that go.
use Rattle.std.proofs.Common.{◌≡◌, inl, inr, Option, Some, Ok, sym, ◌∙◌, ap, subst}
use Rattle.fp_host.specs.Paths.{Elements, Slot, absent}
use Rattle.fp_host.specs.View.{View}
use Rattle.fp_host.specs.Calls.{IsNoDir}
use Rattle.fp_host.specs.Reads.{StatOf}
use Rattle.fp_host.specs.Outcome.{Spot}
use Rattle.fp_host.specs.Frame.{Keeps, NoPath}
use Rattle.fp_host.specs.Moments.{Moments, Makes}
use Rattle.fp_host.specs.declared.host.Stat.{Stat}
use Rattle.fp_host.specs.declared.host.Stat.TheVariants.{Absent}
use Rattle.fp_host.proofs.Framed.{keeps_same}
use Rattle.fp_small.specs.Clear.{AbsentAt}
use Rattle.fp_small.proofs.Making.{stat_there}
use Rattle.dep_states.specs.Names.{config}
use Rattle.dep_states.specs.Sound.{OldGone}
use Rattle.dep_tidy.specs.Steps.{OldAbsent, TakesOld}

pub takes_none : {u w : View} → w ≡ u → TakesOld u w
takes_none same = record { keeps = keeps_same same; alone = λ none. same }

pub takes_some : {u w : View} → (u.names config ≡ absent → ⊥) → Keeps OldGone OldAbsent NoPath u w → TakesOld u w
takes_some there keeps = record { keeps = keeps; alone = λ none. absurd (there none) }

-- a name that is gone stays so
pub still_absent : {G : Elements → Spot → Type 0} {p q : Elements} {v w : View} → v.names q ≡ absent → Keeps G (AbsentAt p) NoPath v w → w.names q ≡ absent
still_absent {q = q} none keeps = elim (keeps.names q) [ inl same ↦ same ∙ none | inr put ↦ put.1 ]

pub still_no_dir : {G : Elements → Spot → Type 0} {W : Elements → Slot → Type 0} (q : Elements) {v w : View} → ((e : Slot) → W q e → e ≡ absent) → IsNoDir (v.names q) → Keeps G W NoPath v w → IsNoDir (w.names q)
still_no_dir q goes no_dir keeps = elim (keeps.names q) [ inl same ↦ subst IsNoDir (sym same) no_dir | inr put ↦ subst IsNoDir (sym (goes _ put)) tt ]

-- `config` is there from the start
pub there_known : {a b : Option Moments} {p : Elements} {s : Stat} → p ≡ config → Makes (StatOf p (Ok s)) a b → (s ≡ Absent → ⊥) → (m : Moments) → a ≡ Some m → m.now.names config ≡ absent → ⊥
there_known at call off m told none = stat_there (call.told m told).3 off (ap m.now.names at ∙ none)
