-- Taking the objects of an order one by one.
use Rattle.std.specs.Prelude.{◌≡◌, ◌≢◌, ◌⊎◌, ℕ, List, [], map, true, Option, Some, None}
use Rattle.fp_host.specs.Paths.{Elements}
use Rattle.fp_host.specs.View.{View}
use Rattle.fp_host.specs.Moments.{Moments}
use Rattle.fp_host.specs.Outcome.{shows}
use Rattle.fp_host.specs.Remote.{Holdings}
use Rattle.fp_name.specs.Hex.{is_digest}
use Rattle.fp_base.specs.declared.object.ObjKind.{ObjKind}
use Rattle.ost_model.specs.Objects.{Have, store}
use Rattle.ost_model.specs.Order.{In, order}
use Rattle.ost_walk.specs.Steps.{place_name}
use Rattle.ost_pull.specs.Work.{AreKept, Gathered}

-- The store has the object, or it is kept
pub record IsCovered (root : Elements) (kept : List (List ℕ × ObjKind)) (v : View)
    (o : List ℕ × ObjKind) : Type 0 where
  pub digits : is_digest o.0 ≡ true
  pub there : (store root (shows v) o.0 o.1 ≢ None) ⊎ In kept o

-- The directory `t` has these objects, each of which the store lacks
pub record AreTaken (root t : Elements) (url : List ℕ) (holds : Option Holdings)
    (kept : List (List ℕ × ObjKind)) (v : View) : Type 0 where
  pub are : AreKept t url holds kept v
  pub new : (o : List ℕ × ObjKind) → In kept o → store root (shows v) o.0 o.1 ≡ None

-- On a host that reports its content, the directory `t` has these objects, each of which the store
-- lacks
pub record AreTakenNow (root t : Elements) (url : List ℕ) (holds : Option Holdings)
    (kept : List (List ℕ × ObjKind)) (told : Option Moments) : Type 0 where
  pub are : (m : Moments) → told ≡ Some m → AreTaken root t url holds kept m.now

-- If the directory `t` had the objects of `before`, it has those of `after` now, and the object `o`
-- is among these or in the store. Each new file with bytes is at the path of an object in `t`.
pub record TakesOne (root t : Elements) (url : List ℕ) (holds : Option Holdings)
    (o : List ℕ × ObjKind) (before after : List (List ℕ × ObjKind)) (u w : View) : Type 0 where
  pub on : AreTaken root t url holds before u → AreTaken root t url holds after w
      × IsCovered root after w o
  pub gathers : Gathered t u w

-- If the directory `t` had the objects of `before`, it has those of `after` now, and each of
-- `objects` is among these or in the store. Each new file with bytes is at the path of an object in
-- `t`.
pub record TakesAll (root t : Elements) (url : List ℕ) (holds : Option Holdings)
    (objects before after : List (List ℕ × ObjKind)) (u w : View) : Type 0 where
  pub taken : AreTaken root t url holds before u → AreTaken root t url holds after w
  pub covered : AreTaken root t url holds before u → (o : List ℕ × ObjKind) → In objects o
      → IsCovered root after w o
  pub gathers : Gathered t u w

-- Each object of the list `after` is in the list `before`, or is one of `objects`
abbrev pub AddsAmong : List (List ℕ × ObjKind) → List (List ℕ × ObjKind)
    → List (List ℕ × ObjKind) → Type 0
AddsAmong objects before after = (o : List ℕ × ObjKind) → In after o → In before o ⊎ In objects o

-- Each object of the list `before` is in the list `after`
abbrev pub StaysNoted : List (List ℕ × ObjKind) → List (List ℕ × ObjKind) → Type 0
StaysNoted before after = (o : List ℕ × ObjKind) → In before o → In after o

-- Each object of the commit's order is in the store or among those kept, and each kept object is in
-- the order
pub record CoversOrder (root : Elements) (have : Have) (commit : List ℕ)
    (kept : List (List ℕ × ObjKind)) (v : View) : Type 0 where
  pub covered : (o : List ℕ × ObjKind) → In (map place_name (order have commit)) o
      → IsCovered root kept v o
  pub only : (o : List ℕ × ObjKind) → In kept o → In (map place_name (order have commit)) o

-- If the directory `t` had no objects before, each object of the commit's order is in the store or
-- kept, and each kept object is in the order
abbrev pub CoversFromNone : (root t : Elements) → List ℕ → Option Holdings → Have → List ℕ
    → List (List ℕ × ObjKind) → View → View → Type 0
CoversFromNone root t url holds have commit kept u w =
    AreTaken root t url holds [] u → CoversOrder root have commit kept w

-- If the directory `t` had the objects of `before`, which the store lacked, it has those of `after`
-- now, which the store lacks. Each new file with bytes is at the path of an object in `t`.
pub record StaysTaken (root t : Elements) (url : List ℕ) (holds : Option Holdings)
    (before after : List (List ℕ × ObjKind)) (u w : View) : Type 0 where
  pub on : AreTaken root t url holds before u → AreTaken root t url holds after w
  pub gathers : Gathered t u w
