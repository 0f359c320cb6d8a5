-- The frame of a function over a host: what it leaves alone at every moment, and what is known at
-- its end.
use Rattle.std.specs.Prelude.{◌≡◌, ◌⊎◌, ℕ, [], Option, Some, None, Contains}
use Rattle.fp_host.specs.Paths.{Elements, Slot, file}
use Rattle.fp_host.specs.View.{View, Inode}
use Rattle.fp_host.specs.Outcome.{Spot, Follows}
use Rattle.fp_host.specs.Moments.{Moments, Goes}

-- The file `id` is new since the view `old`, or a name of `A` referred to it then
abbrev pub ComesFrom : (Elements → Type 0) → View → ℕ → Type 0
ComesFrom A old id = (old.files id ≡ None) ⊎ ((p : Elements) × A p × (old.names p ≡ file id))

-- `new` is within a frame over `old`. `G` is what a crash may newly show at which path, `W` is the
-- entries that names may get, and `A` is the paths whose files may be given bytes. Each outcome of
-- `new` agrees with one outcome of `old` at every path, except where `G` allows what is there. Each
-- name has its old entry, or one that `W` allows. Each file of `old` keeps its mode and bytes,
-- except those that names of `A` referred to. A file that a name of `A` refers to now is new, or a
-- name of `A` referred to it before. Nothing is printed. Remembered entries stay remembered, and
-- `W` allows each newly remembered one. If `A` has no path, each new file is empty.
pub record Keeps (G : Elements → Spot → Type 0) (W : Elements → Slot → Type 0)
    (A : Elements → Type 0) (old new : View) : Type 0 where
  pub follows : Follows G old new
  pub names : (q : Elements) → (new.names q ≡ old.names q) ⊎ W q (new.names q)
  pub files : (id : ℕ) (f : Inode) → old.files id ≡ Some f
      → ((q : Elements) → A q → old.names q ≡ file id → ⊥) → new.files id ≡ Some f
  pub rows : (id : ℕ) → new.files id ≡ None → old.files id ≡ None
  pub held : (q : Elements) (id : ℕ) → A q → new.names q ≡ file id → ComesFrom A old id
  pub printed : new.printed ≡ old.printed
  pub stood : (x : Elements × Slot) → Contains old.stood x → Contains new.stood x
  pub puts : (x : Elements × Slot) → Contains new.stood x → Contains old.stood x ⊎ W x.0 x.1
  pub empty : ((q : Elements) → A q → ⊥) → (id : ℕ) (f : Inode) → old.files id ≡ None
      → new.files id ≡ Some f → f.bytes ≡ []

-- At each moment since `old`, the view is within the frame of `G`, `W` and `A`
pub record Frame (G : Elements → Spot → Type 0) (W : Elements → Slot → Type 0)
    (A : Elements → Type 0) (old new : Option Moments) : Type 0 where
  pub goes : Goes old new (Keeps G W A) (Keeps G W A)

-- On a host that reports its content, the present view of `new` relates by `Q` to that of `old`
pub record AtEnd (Q : View → View → Type 0) (old new : Option Moments) : Type 0 where
  pub goes : Goes old new (λ u w. Unit {0}) Q

-- Nothing changes at any moment, and `T` holds for the view at the end
pub record Observes (T : View → Type 0) (old new : Option Moments) : Type 0 where
  pub goes : Goes old new (λ u w. w ≡ u) (λ u w. (w ≡ u) × T u)

-- Nothing changes at any moment
abbrev pub Unchanged : Option Moments → Option Moments → Type 0
Unchanged old new = Observes (λ v. Unit {0}) old new

-- The empty set of paths
abbrev pub NoPath : Elements → Type 0
NoPath q = ⊥

-- The set with the path `p` alone
abbrev pub Only : Elements → Elements → Type 0
Only p q = q ≡ p

-- No name may get an entry
abbrev pub NoName : Elements → Slot → Type 0
NoName q e = ⊥

-- The name `p` may get any entry; no other name may get one
abbrev pub AnyHeld : Elements → Elements → Slot → Type 0
AnyHeld p q e = q ≡ p

-- A crash may newly show any node at the path `p`, and none elsewhere
abbrev pub AnyAt : Elements → Elements → Spot → Type 0
AnyAt p q spot = q ≡ p
