-- A replacement over the moments.
use Rattle.std.proofs.Common.{◌≡◌, ℕ, List, Option, refl, sym, subst}
use Rattle.fp_host.specs.Paths.{Elements}
use Rattle.fp_host.specs.View.{View}
use Rattle.fp_host.specs.Moments.{Moments, Goes}
use Rattle.fp_host.specs.Frame.{Keeps, Frame, AtEnd, Unchanged, AnyAt, AnyHeld, Only, NoPath}
use Rattle.fp_host.proofs.Goes.{goes_on, begins}
use Rattle.fp_host.proofs.Framed.{IsTold}
use Rattle.fp_host.proofs.Ending.{goes_known}
use Rattle.fp_small.specs.Folders.{FoldersAt, DirsAt, AreFree, AreDirs}
use Rattle.fp_small.specs.Unsynced.{MakesNoFile}
use Rattle.fp_small.specs.Files.{MakesFile}
use Rattle.fp_small.specs.Stage.{IsReady, WasStaged}
use Rattle.fp_small.specs.Move.{Moves, CanMove}
use Rattle.fp_small.specs.Replace.{IsStaging, folders_of, Replaces, CanReplace}
use Rattle.fp_small.proofs.Unsynced.{none_on, none_same}
use Rattle.fp_small.proofs.Keeping.{made_after_none}
use Rattle.fp_small.proofs.Replacement.{still, with_folders, with_stage, with_move, can_move}

-- the place is known
pub record Placed (place : Elements) (u v : View) : Type 0 where
  pub same : v ≡ u
  pub staging : IsStaging u place

-- the folders are there
pub record Housed (p : Elements) (bytes : List ℕ) (place : Elements) (u v : View) : Type 0 where
  pub staging : IsStaging u place
  pub so_far : Replaces p bytes u v
  pub made : Keeps (FoldersAt (folders_of p)) (DirsAt (folders_of p)) NoPath u v
  pub none : MakesNoFile u v
  pub dirs : CanReplace p u → AreDirs (folders_of p) v

-- the new file is staged
pub record Written (p : Elements) (bytes : List ℕ) (place : Elements) (u v : View) : Type 0 where
  pub staging : IsStaging u place
  pub so_far : Replaces p bytes u v
  pub ready : IsReady place bytes v
  pub made : MakesFile place bytes u v
  pub can : CanReplace p u → CanMove place p v

module _ (p : Elements) (bytes : List ℕ) where
  pub looked : {a b : Option Moments} → IsTold a → Unchanged a b → Goes a b (Replaces p bytes) (Replaces p bytes)
  looked told quiet = begins told quiet.goes (λ u w t s. still p bytes s) (λ u w t s e. still p bytes s)

  pub placed : {a b : Option Moments} {place : Elements} → IsTold a → Unchanged a b → AtEnd (λ u w. IsStaging u place) a b → Goes a b (Replaces p bytes) (Placed place)
  placed told quiet tells = begins told (goes_known quiet.goes tells) (λ u w t s. still p bytes s) (λ u w t s e. record { same = s; staging = e.1 })

  -- the folders, done or not
  pub making : {a b c : Option Moments} {place : Elements} {folders : List Elements} → folders ≡ folders_of p → Goes a b (Replaces p bytes) (Placed place) → IsTold b → Frame (FoldersAt folders) (DirsAt folders) NoPath b c → Goes a c (Replaces p bytes) (Replaces p bytes)
  making is first told frame = goes_on told first frame.goes (λ u v w t r q s. from_start is q s) (λ u v w t r q s e. from_start is q s)
    where
      from_start : {folders : List Elements} {place : Elements} {u v w : View} → folders ≡ folders_of p → Placed place u v → Keeps (FoldersAt folders) (DirsAt folders) NoPath v w → Replaces p bytes u w
      from_start {folders = folders} {w = w} is q k = with_folders p bytes is (subst (λ (x : View). Keeps (FoldersAt folders) (DirsAt folders) NoPath x w) q.same k)

  pub housed : {a b c : Option Moments} {place : Elements} {folders : List Elements} → folders ≡ folders_of p → Goes a b (Replaces p bytes) (Placed place) → IsTold b → Frame (FoldersAt folders) (DirsAt folders) NoPath b c
      → AtEnd (λ u w. AreFree folders u → AreDirs folders w) b c → AtEnd MakesNoFile b c → Goes a c (Replaces p bytes) (Housed p bytes place)
  housed is first told frame tells none = goes_on told first (goes_known (goes_known frame.goes tells) none) (λ u v w t r q s. from_start is q s) (λ u v w t r q s e. record {
    staging = q.staging;
    so_far = from_start is q s;
    made = at_start is q s;
    none = none_on (none_same q.same) e.1;
    dirs = λ can. by_start is q e.0.1 can.folders;
  })
    where
      at_start : {folders : List Elements} {place : Elements} {u v w : View} → folders ≡ folders_of p → Placed place u v → Keeps (FoldersAt folders) (DirsAt folders) NoPath v w → Keeps (FoldersAt (folders_of p)) (DirsAt (folders_of p)) NoPath u w
      at_start {folders = folders} {u = u} {w = w} is q k = subst (λ (l : List Elements). Keeps (FoldersAt l) (DirsAt l) NoPath u w) is (subst (λ (x : View). Keeps (FoldersAt folders) (DirsAt folders) NoPath x w) q.same k)

      from_start : {folders : List Elements} {place : Elements} {u v w : View} → folders ≡ folders_of p → Placed place u v → Keeps (FoldersAt folders) (DirsAt folders) NoPath v w → Replaces p bytes u w
      from_start is q k = with_folders p bytes refl (at_start is q k)

      by_start : {folders : List Elements} {place : Elements} {u v w : View} → folders ≡ folders_of p → Placed place u v → (AreFree folders v → AreDirs folders w) → AreFree (folders_of p) u → AreDirs (folders_of p) w
      by_start {folders = folders} {u = u} {w = w} is q known free = subst (λ (l : List Elements). AreDirs l w) is (known (subst (λ (x : View). AreFree folders x) (sym q.same) (subst (λ (l : List Elements). AreFree l u) (sym is) free)))

  -- the new file, done or not
  pub staging : {a b c : Option Moments} {place : Elements} → Goes a b (Replaces p bytes) (Housed p bytes place) → IsTold b → Frame (AnyAt place) (AnyHeld place) (Only place) b c → Goes a c (Replaces p bytes) (Replaces p bytes)
  staging first told frame = goes_on told first frame.goes (λ u v w t r q s. with_stage p bytes q.staging q.so_far s) (λ u v w t r q s e. with_stage p bytes q.staging q.so_far s)

  pub written : {a b c : Option Moments} {place : Elements} → Goes a b (Replaces p bytes) (Housed p bytes place) → IsTold b → Frame (AnyAt place) (AnyHeld place) (Only place) b c → AtEnd (WasStaged place bytes) b c
      → AtEnd (MakesFile place bytes) b c → Goes a c (Replaces p bytes) (Written p bytes place)
  written {place = place} first told frame tells made = goes_on told first (goes_known (goes_known frame.goes tells) made) (λ u v w t r q s. with_stage p bytes q.staging q.so_far s) (λ u v w t r q s e. record {
    staging = q.staging;
    so_far = with_stage p bytes q.staging q.so_far s;
    ready = e.0.1.ready;
    made = made_after_none q.none e.1;
    can = λ can. can_move p place u can q.staging q.made (q.dirs can) t bytes s e.0.1;
  })

  pub moving : {a b c : Option Moments} {place : Elements} → Goes a b (Replaces p bytes) (Written p bytes place) → IsTold b → Goes b c (Moves place p) (Moves place p) → Goes a c (Replaces p bytes) (Replaces p bytes)
  moving first told moves = goes_on told first moves (λ u v w t r q s. with_move p bytes q.staging q.so_far q.ready s) (λ u v w t r q s e. with_move p bytes q.staging q.so_far q.ready s)
