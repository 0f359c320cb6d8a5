-- One operation of several, by what it is.
use Rattle.std.proofs.Common.{◌≡◌, inl, inr, true, Option, Result, Ok, Err, IfOk, sym, subst}
use Rattle.std.proofs.lemmas.Bool.{false≢true}
use Rattle.fp_host.specs.Paths.{Elements, Slot}
use Rattle.fp_host.specs.View.{View}
use Rattle.fp_host.specs.Frame.{AtEnd}
use Rattle.fp_host.specs.Moments.{Moments, Goes}
use Rattle.fp_host.specs.declared.host.HostEnd.{HostEnd}
use Rattle.fp_host.proofs.Ending.{ends_to}
use Rattle.fp_host.proofs.Framed.{IsTold}
use Rattle.fp_host.proofs.Goes.{begins}
use Rattle.fp_small.specs.Replace.{ReplacesName}
use Rattle.fp_small.specs.declared.op.Op.{Op}
use Rattle.fp_small.specs.declared.state.State.{State}
use Rattle.dep_states.specs.After.{state_after, plain, IsOnConfig, IsGood, Allows, May}
use Rattle.dep_states.specs.Effects.{Effect, Write, effect_of, is_of_config, WritesConfig, brings, writes, moves, leaves, sets, migrates, layers, bares}
use Rattle.dep_states.specs.Names.{config}
use Rattle.dep_states.specs.Sound.{Opens}
use Rattle.op_change.specs.Deploys.{Does, WasDone}
use Rattle.op_change.specs.Applied.{MayChange, MayWrite, ChangesName, SettingsDone}
use Rattle.op_change.specs.Plainly.{DoesPlainly, WasDonePlainly, IsStarvedPlainly}

-- what writes `config` changes the names that a writing of it changes
write_on_config : (write : Write) → is_of_config write ≡ true → (u : View) (q : Elements) (e : Slot) → ReplacesName config u q e → MayWrite write u q e
write_on_config sets on u q e put = put
write_on_config migrates on u q e put = put
write_on_config (moves name commit) on u q e put = absurd (false≢true on)
write_on_config (leaves name) on u q e put = absurd (false≢true on)
write_on_config (layers row) on u q e put = absurd (false≢true on)
write_on_config (bares name) on u q e put = absurd (false≢true on)

effect_on_config : (s : State) (effect : Effect) → WritesConfig effect → (u : View) (q : Elements) (e : Slot) → ReplacesName config u q e → ChangesName s effect u q e
effect_on_config s (brings name remote commit) on u q e put = absurd (false≢true on)
effect_on_config s (writes write) on u q e put = write_on_config write on u q e put

pub on_config : (s : State) (op : Op) → IsOnConfig op → (u : View) (q : Elements) (e : Slot) → ReplacesName config u q e → MayChange s op u q e
on_config s op on u q e put = effect_on_config s (effect_of op) on u q e put

module _ (s : State) (op : Op) where
  pub does_applies : {W : View → Elements → Slot → Type 0} → ((u : View) (q : Elements) (e : Slot) → W u q e → MayChange s op u q e) → {u w : View} → Does s (state_after s (plain op)) W u w → DoesPlainly s op u w
  does_applies may {u = u} does = record {
    either = does.either;
    names = λ q. elim (does.names q) [ inl same ↦ inl same | inr put ↦ inr (may u q _ put) ];
    files = does.files;
    printed = does.printed;
  }

  pub goes_applies : {W : View → Elements → Slot → Type 0} {a b : Option Moments} → IsTold a → ((u : View) (q : Elements) (e : Slot) → W u q e → MayChange s op u q e) → Goes a b (Does s (state_after s (plain op)) W) (Does s (state_after s (plain op)) W) → Goes a b (DoesPlainly s op) (DoesPlainly s op)
  goes_applies told may goes = begins told goes (λ u w t r. does_applies may r) (λ u w t r e. does_applies may e)

  pub ends_done : {a b : Option Moments} → (IsOnConfig op → ⊥) → AtEnd (WasDone s (state_after s (plain op))) a b → AtEnd (WasDonePlainly s op) a b
  ends_done off done = ends_to done (λ u w d. record { opens = d.opens; settled = d.settled; objects = d.objects; shares = d.shares; creates = d.creates; settings = λ on. absurd (off on) })

  pub ends_settings : {a b : Option Moments} → AtEnd (SettingsDone s (state_after s (plain op))) a b → AtEnd (WasDonePlainly s op) a b
  ends_settings done = ends_to done (λ u w d. record { opens = d.done.opens; settled = d.done.settled; objects = d.done.objects; shares = d.done.shares; creates = d.done.creates; settings = λ on. d.settings })

  pub starved_same : {a b : Option Moments} → AtEnd (λ u w. w ≡ u) a b → AtEnd (IsStarvedPlainly s op) a b
  starved_same same = ends_to same (λ u w e. record { opens = λ opens. subst (Opens s) (sym e) opens; settings = λ on. e })

  pub starved_opens : {a b : Option Moments} → (IsOnConfig op → ⊥) → AtEnd (λ u w. Opens s u → Opens s w) a b → AtEnd (IsStarvedPlainly s op) a b
  starved_opens off opens = ends_to opens (λ u w o. record { opens = o; settings = λ on. absurd (off on) })

-- what an operation's case says of it
module _ (s : State) (o x : Op) (e : o ≡ x) where
  pub goes_as : {W : View → Elements → Slot → Type 0} {a b : Option Moments} → IsTold a → ((u : View) (q : Elements) (e : Slot) → W u q e → MayChange s x u q e) → Goes a b (Does s (state_after s (plain x)) W) (Does s (state_after s (plain x)) W) → Goes a b (DoesPlainly s o) (DoesPlainly s o)
  goes_as {a = a} {b = b} told may goes = subst (λ (y : Op). Goes a b (DoesPlainly s y) (DoesPlainly s y)) (sym e) (goes_applies s x told may goes)

  pub done_as : {a b : Option Moments} → (IsOnConfig x → ⊥) → AtEnd (WasDone s (state_after s (plain x))) a b → AtEnd (WasDonePlainly s o) a b
  done_as {a = a} {b = b} off done = subst (λ (y : Op). AtEnd (WasDonePlainly s y) a b) (sym e) (ends_done s x off done)

  pub opens_as : {a b : Option Moments} → (IsOnConfig x → ⊥) → AtEnd (λ u w. Opens s u → Opens s w) a b → AtEnd (IsStarvedPlainly s o) a b
  opens_as {a = a} {b = b} off opens = subst (λ (y : Op). AtEnd (IsStarvedPlainly s y) a b) (sym e) (starved_opens s x off opens)

  pub state_as : {r : State} → r ≡ state_after s (plain x) → r ≡ state_after s (plain o)
  state_as {r = r} is = subst (λ (y : Op). r ≡ state_after s (plain y)) (sym e) is

  pub good_as : {r : State} → r ≡ state_after s (plain x) → IsGood (state_after s (plain x)) → IsGood r
  good_as is good = subst IsGood (sym is) good

  pub allowed : May s o → Allows s x
  allowed may = subst (Allows s) e may.allows

pub good_if : (r : Result State HostEnd) (t : State) → IsGood t → IfOk r (λ o. o ≡ t) → IfOk r IsGood
good_if (Ok o) t good is = subst IsGood (sym is) good
good_if (Err e) t good is = tt
