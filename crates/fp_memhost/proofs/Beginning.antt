-- A host that begins.
use Rattle.std.proofs.Common.{◌≡◌, ◌<◌, ◌≤◌, ◌+◌, ◌-◌, ◌^◌, ℕ, List, [], length, drop, min, Bool, Option, Some, None, refl, sym, ◌∙◌, ap, subst, arith}
use Rattle.std.specs.Prelude.{nat_le, if◌then◌else◌}
use Rattle.std.proofs.lemmas.List.{drop_all}
use Rattle.fp_host.specs.Paths.{Elements}
use Rattle.fp_host.specs.View.{View, Inode, IsTree}
use Rattle.fp_memhost.specs.declared.event.Noted.{Noted}
use Rattle.fp_memhost.specs.declared.mem.MemHost.{MemHost}
use Rattle.fp_memhost.specs.Images.{opened}
use Rattle.fp_memhost.specs.Replay.{view_now, view_after, moments_of, AreTrees, IsNumbered}
use Rattle.fp_memhost.specs.Stories.{told_of, story_of}
use Rattle.fp_memhost.specs.Story.{fails_at}
use Rattle.fp_memhost.specs.Made.{made_of}
use Rattle.fp_memhost.specs.Start.{Begins}
use Rattle.fp_memhost.specs.Appended.{appended_below}

pub no_steps : (v w : View) (log : List Noted) → log ≡ [] → w ≡ v → w ≡ view_now v log
no_steps v w log none is = is ∙ sym (ap (view_now v) none)

pub no_numbers : (log : List Noted) → log ≡ [] → IsNumbered 0 log
no_numbers log none = subst (IsNumbered 0) (sym none) (record { fits = refl; below = λ low. refl })

pub no_trees : (v : View) (log : List Noted) → log ≡ [] → IsTree v → ∥ AreTrees v log ∥₁
no_trees v log none tree = ∣ subst (AreTrees v) (sym none) (record { now = tree; after = λ n. tree }) ∣₁

pub begins : (v : View) (m : MemHost) → opened m.history.start ≡ v → m.history.log.items ≡ [] → m.history.calls ≡ 0 → m.failing.items ≡ [] → m.faults ≡ 0 → m.starved ≡ 0 → Begins v (story_of m) (Some (told_of m)) m.faults
begins v m start log calls failing faults starved = record {
  told = λ i. Some (moments_of (start i) (log i));
  faults = faults;
  calls = calls;
  after = λ i. if nat_le 0 (calls i) then Some (view_after (start i) (log i) 0) else None;
  fails = λ n. ap (λ (l : List (ℕ × Bool)). fails_at l n) failing;
  starved = starved;
  made = ap made_of log;
}

-- the bytes that were counted, once all events were
pub appended_end : (front : Elements) (files : ℕ → Option Inode) (log : List Noted) (count i : ℕ) → length log ≤ i → count < 2 ^ 64
    → min (count + appended_below front files (made_of (drop i log))) (2 ^ 64 - 1) ≡ min (appended_below front files (made_of log)) (2 ^ 64 - 1) → count ≡ min (appended_below front files (made_of log)) (2 ^ 64 - 1)
appended_end front files log count i le low so =
    let none : appended_below front files (made_of (drop i log)) ≡ 0 = ap (λ (l : List Noted). appended_below front files (made_of l)) (drop_all i log le) in
    omega (arith, so, none)
