-- What an operation that changes no commit leaves: all is settled but for work.
use Rattle.std.proofs.Common.{◌≡◌, ◌≢◌, ◌⊎◌, inl, inr, ℕ, List, [], ◌∷◌, Bool, true, false, Option, Some, None, Result, Ok, Err, OnOk, Contains, if◌then◌else◌, refl, sym, ◌∙◌, ap, subst}
use Rattle.std.proofs.lemmas.Bool.{false≢true}
use Rattle.fp_base.proofs.Lists.{in_cases}
use Rattle.fp_host.specs.Paths.{Elements, Slot, file}
use Rattle.fp_host.specs.View.{View, IsTree}
use Rattle.fp_host.specs.Frame.{AtEnd, Frame, NoPath}
use Rattle.fp_host.specs.Moments.{Moments}
use Rattle.fp_host.proofs.Ending.{ends_to, ends_both, ends_frame}
use Rattle.fp_host.proofs.Framed.{IsTold}
use Rattle.fp_host.proofs.Shown.{now_left}
use Rattle.fp_host.specs.Outcome.{Spot, gone, folder, holds, points, shows}
use Rattle.fp_small.specs.Clear.{IsWithin}
use Rattle.fp_name.specs.Refs.{Ref}
use Rattle.fp_small.specs.Places.{repo, tmp}
use Rattle.fp_small.specs.Replace.{ReplacesName, folders_of}
use Rattle.fp_small.specs.declared.state.State.{State}
use Rattle.fp_small.specs.declared.state.Layout.TheVariants.{One, Two}
use Rattle.fp_small.specs.declared.state.RemoteRow.{RemoteRow}
use Rattle.fp_small.specs.declared.op.Op.{Op}
use Rattle.fp_small.specs.declared.op.Op.TheVariants.{Install}
use Rattle.dep_states.proofs.SharedAs.{shared_empty}
use Rattle.ost_store.proofs.Creating.{creates_frame}
use Rattle.ost_store.proofs.Lists.{in_one}
use Rattle.ost_store.proofs.Staying.{same_shows}
use Rattle.dep_states.specs.Names.{config, remotes_conf, pins_file, overrides_folder, override_path}
use Rattle.dep_states.specs.After.{May}
use Rattle.dep_states.specs.Effects.{Effect, Write, effect_of, is_small, keeps_refs, layout_before, brings, writes, moves, leaves, sets, migrates, layers, bares}
use Rattle.dep_states.specs.declared.setup.Setup.{Setup}
use Rattle.dep_states.specs.Shown.{Seen, away, bad, there, read_of, read_file, small_most, Shows, settings_at, remotes_at, pins_at, layout_one, setup_of}
use Rattle.dep_states.specs.Settled.{Settled}
use Rattle.dep_states.specs.Sound.{Opens}
use Rattle.dep_tidy.specs.Lasts.{Lasts}
use Rattle.dep_tidy.specs.Tidy.{SettledButWork, SettledButRef, IsSmallPlace, is_config, is_layer, is_repo, is_work}
use Rattle.dep_tidy.proofs.Small.{small_changes, work_apart}
use Rattle.op_change.specs.Applied.{MayChange, MayWrite, ChangesName, ChangesBy}
use Rattle.fl_change.specs.Answer.{keeps_commits}
use Rattle.fl_change.specs.Performs.{Rests, OfAdded, WasTidiedAfter}

-- ---- in layout 2 without `config` there are no files of layout 1

no_away : {A : Type 0} (b : Bool) (o : Option A) → if b then read_of o else bad ≡ away → ⊥
no_away true None is = cc is
no_away true (Some a) is = cc is
no_away false o is = cc is

away_gone : {A : Type 0} (most : ℕ) (read : List ℕ → Option A) (spot : Spot) → read_file most read spot ≡ away → spot ≡ gone
away_gone most read gone is = refl
away_gone most read folder is = absurd (cc is)
away_gone most read (points text) is = absurd (cc is)
away_gone most read (holds id mode bytes) is = absurd (no_away _ (read bytes) is)

no_remotes : (spot : Spot) → remotes_at spot ≡ away → spot ≡ gone
unfolding remotes_at
no_remotes spot is = away_gone small_most _ spot is

no_pins : (spot : Spot) → pins_at spot ≡ away → spot ≡ gone
unfolding pins_at
no_pins spot is = away_gone small_most _ spot is

one_not : {k k' : Setup} → k.layout ≡ One → there k ≡ there k' → k'.layout ≡ Two → ⊥
one_not {k = k} {k' = k'} one is two = let same : k ≡ k' = cc is in let both : One ≡ Two = sym one ∙ ap (λ (z : Setup). z.layout) same ∙ two in cc both

both_away : (r : Seen (List RemoteRow)) (q : Seen (List (List ℕ))) (k : Setup) → layout_one r q ≡ there k → k.layout ≡ Two → (r ≡ away) × (q ≡ away)
both_away away away k is two = (refl, refl)
both_away away (there pins) k is two = absurd (one_not refl is two)
both_away (there rows) away k is two = absurd (one_not refl is two)
both_away (there rows) (there pins) k is two = absurd (one_not refl is two)
both_away bad q k is two = absurd (cc is)
both_away away bad k is two = absurd (cc is)
both_away (there rows) bad k is two = absurd (cc is)

old_gone : (c r q : Spot) (k : Setup) → settings_at c r q ≡ there k → k.layout ≡ Two → (c ≢ gone) ⊎ ((r ≡ gone) × (q ≡ gone))
old_gone gone r q k is two = let none = both_away (remotes_at r) (pins_at q) k is two in inr (no_remotes r none.0, no_pins q none.1)
old_gone folder r q k is two = inl (λ e. cc e)
old_gone (points text) r q k is two = inl (λ e. cc e)
old_gone (holds id mode bytes) r q k is two = inl (λ e. cc e)

-- ---- where such an operation works

replaces_small : (p : Elements) {u : View} {q : Elements} {e : Slot} → IsSmallPlace p → ((x : Elements) → Contains (folders_of p) x → IsSmallPlace x) → ReplacesName p u q e → IsSmallPlace q
replaces_small p small folders put = elim put [
  | inl at ↦ subst IsSmallPlace (sym at.0) small
  | inr more ↦ elim more [
    | inl made ↦ folders _ made.0
    | inr work ↦ is_work (subst (IsWithin tmp) (sym work.is) (inr (inl refl)))
  ]
]

in_work : (x : Elements) → Contains (repo ∷ tmp ∷ []) x → IsSmallPlace x
in_work x has = elim (in_cases repo (tmp ∷ []) x has) [ inl is ↦ is_repo is | inr more ↦ is_work (inl (in_one tmp x more)) ]

config_folders : (x : Elements) → Contains (folders_of config) x → IsSmallPlace x
config_folders x has = in_work x has

layer_folders : (name : List ℕ) (x : Elements) → Contains (folders_of (override_path name)) x → IsSmallPlace x
layer_folders name x has = elim (in_cases overrides_folder (repo ∷ tmp ∷ []) x has) [ inl is ↦ is_layer (inl is) | inr more ↦ in_work x more ]

on_config : {u : View} {q : Elements} {e : Slot} → ReplacesName config u q e → IsSmallPlace q
on_config put = replaces_small config (is_config refl) config_folders put

a_layer : (name : List ℕ) → IsSmallPlace (override_path name)
a_layer name = is_layer (inr (inl refl))

small_write : (write : Write) (u : View) (q : Elements) (e : Slot) → is_small write ≡ true → MayWrite write u q e → IsSmallPlace q
small_write sets u q e keeps put = on_config put
small_write (layers row) u q e keeps put = replaces_small (override_path row.name) (a_layer row.name) (layer_folders row.name) put
small_write (bares name) u q e keeps put = subst IsSmallPlace (sym put.0) (a_layer name)
small_write migrates u q e keeps put = absurd (false≢true keeps)
small_write (moves name commit) u q e keeps put = absurd (false≢true keeps)
small_write (leaves name) u q e keeps put = absurd (false≢true keeps)

small_effect : (s : State) (effect : Effect) (u : View) (q : Elements) (e : Slot) → keeps_refs effect ≡ true → ChangesName s effect u q e → IsSmallPlace q
small_effect s (brings name origin commit) u q e keeps put = absurd (false≢true keeps)
small_effect s (writes write) u q e keeps put = small_write write u q e keeps put

small_by : (s : State) (op : Op) (u : View) (q : Elements) (e : Slot) → keeps_commits op ≡ true → MayChange s op u q e → IsSmallPlace q
small_by s op u q e keeps put = small_effect s (effect_of op) u q e keeps put

two_write : (write : Write) → is_small write ≡ true → layout_before (writes write) ≡ Two
two_write sets keeps = refl
two_write (layers row) keeps = refl
two_write (bares name) keeps = refl
two_write migrates keeps = absurd (false≢true keeps)
two_write (moves name commit) keeps = refl
two_write (leaves name) keeps = refl

two_effect : (e : Effect) → keeps_refs e ≡ true → layout_before e ≡ Two
two_effect (brings name origin commit) keeps = refl
two_effect (writes write) keeps = two_write write keeps

layout_two : (s : State) (op : Op) → keeps_commits op ≡ true → May s op → s.layout ≡ Two
layout_two s op keeps may = may.layout ∙ two_effect (effect_of op) keeps

-- ---- what it leaves

pub small_rest : (s : State) (op : Op) {v w : View} → May s op → IsTree v → IsTree w → Rests s v → ChangesBy s op v w → keeps_commits op ≡ true → SettledButWork (shows w)
small_rest s op {v = v} {w = w} may tree next rests changes keeps =
    small_changes (shows v) (shows w) same (λ some. old_gone (shows v config) (shows v remotes_conf) (shows v pins_file) (setup_of s) shown.settings (layout_two s op keeps may)) ((work_apart (shows v)).0 rests.settled).0
  where
    shown : Shows (shows v) s
    shown = rests.opens.shown (shows v) (now_left v)

    same : (p : Elements) → (IsSmallPlace p → ⊥) → shows w p ≡ shows v p
    same p off = same_shows tree next changes.files p (elim (changes.names p) [ inl is ↦ is | inr put ↦ absurd (off (small_by s op v p (w.names p) keeps put)) ])

-- ---- tidying after it

pub work_is_enough : {E : Type 0} {G : Elements → Spot → Type 0} {W : Elements → Slot → Type 0} (op : Op) (s : State) (r : Result State E) (a b : Option Moments) → keeps_commits op ≡ true → ((q : Elements) (id : ℕ) → W q (file id) → ⊥) → IsTold a → Frame G W NoPath a b
    → OnOk r (AtEnd (λ u w. SettledButWork (shows u) → Settled (shows w)) a b) → OnOk r (AtEnd (WasTidiedAfter op s) a b)
work_is_enough {W = W} op s (Ok t) a b keeps off told frame end = ends_to (ends_both end (ends_frame told frame)) (λ u w q. record { settled = λ opens rest. q.0 (rest.kept keeps); shares = shared_empty q.1; creates = creates_frame W q.1 (λ p id below put. off p id put) })
work_is_enough op s (Err e) a b keeps off told frame end = end

-- and, where it adds a ref, that its file comes
pub file_is_enough : {E : Type 0} (op : Op) (name : Ref) (origin commit : List ℕ) (s : State) (r : Result State E) (a b : Option Moments) → op ≡ Install name origin commit
    → OnOk r (AtEnd (λ u w. Opens s u → SettledButRef name (shows u) → Settled (shows w)) a b) → OnOk r (AtEnd Lasts a b) → OnOk r (AtEnd (WasTidiedAfter op s) a b)
file_is_enough op name origin commit s (Ok t) a b is end lasts = ends_to (ends_both end lasts) (λ u w q. record {
  settled = λ opens rest. q.0 opens (subst (λ (o : Op). OfAdded o (λ n. SettledButRef n (shows u))) is rest.added);
  shares = q.1.shares;
  creates = q.1.creates;
})
file_is_enough op name origin commit s (Err e) a b is end lasts = end
