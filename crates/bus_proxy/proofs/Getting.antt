-- What the client gets.
use Rattle.std.proofs.Common.{◌≡◌, ℕ, Bool, true, false, List, Option, Some, None, refl, sym, ap, ◌∙◌, inl, inr}
use Rattle.std.specs.Prelude.{◌⊎◌, is_some, option_map}
use Rattle.std.specs.Option.{option_map_or}
use Rattle.std.proofs.lemmas.Bool.{false≢true}
use Rattle.fp_base.specs.declared.side.Side.{Side}
use Rattle.fp_base.specs.declared.side.Side.TheVariants as side
use Rattle.bus_policy.specs.declared.verdict.Verdict.{Verdict}
use Rattle.bus_policy.specs.declared.verdict.Verdict.TheVariants as verdict
use Rattle.bus_policy.specs.Events.{Event, is_bus_side, is_forwarded}
use Rattle.bus_policy.specs.Laws.{is_refusal, IsRefusedCall}
use Rattle.bus_policy.proofs.Refusing.{refusals_answer}
use Rattle.bus_proxy.specs.declared.out.Out.{Out}
use Rattle.bus_proxy.specs.Arrivals.{other_side}
use Rattle.bus_proxy.specs.Outs.{Setting, Levels, reduced, out_by, judged_by, level_in, out_after}
use Rattle.bus_proxy.specs.Laws.{ClientGets, verdict_on}

-- what goes on to the other side's client is of the bus
of_bus : (s : Side) → other_side s ≡ side.Client → is_bus_side s ≡ true
of_bus side.Bus e = refl
of_bus side.Client e = sym (ap is_bus_side e)

abbrev pub to_of : Option Out → Side → Side
to_of o d = option_map_or (λ out. out.to) o d

reduced_to : (found : Option (List ℕ)) (to : Side) (out : Out) → option_map (λ (bytes : List ℕ). record { to = to; bytes = bytes }) found ≡ Some out → to ≡ out.to
reduced_to None to out e = absurd (false≢true (ap is_some e))
reduced_to (Some bytes) to out e = ap (λ (o : Option Out). to_of o side.Bus) e

got : (level_of : Levels) (client : Option (List ℕ)) (e : Event) (v : Verdict) (out : Out) → out_by level_of client e v ≡ Some out → out.to ≡ side.Client
    → (is_bus_side e.side ≡ true) × (is_forwarded v ≡ true) ⊎ is_refusal v ≡ true
got level_of client e verdict.Pass out is to = inl (of_bus e.side (ap (λ (o : Option Out). to_of o side.Bus) is ∙ to), refl)
got level_of client e verdict.FilterNameList out is to = inl (of_bus e.side (reduced_to (reduced level_of e) (other_side e.side) out is ∙ to), refl)
got level_of client e verdict.Deny out is to = inr refl
got level_of client e verdict.Hide out is to = inr refl
got level_of client e verdict.Drop out is to = absurd (false≢true (ap is_some is))

pub client_gets : ClientGets
client_gets s before e out is to = elim (got (level_in s before) s.client e (verdict_on s before e) out is to) [
  | inl forwarded ↦ inl forwarded
  | inr refused ↦ inr (refusals_answer s.rules s.client s.owners (judged_by s before) e refused)
]
