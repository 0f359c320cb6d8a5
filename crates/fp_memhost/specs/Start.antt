-- The start of a fake host.
use Rattle.std.specs.Prelude.{◌≡◌, ℕ, List, [], ◌∷◌, false, Option, Some, None}
use Rattle.fp_host.specs.Paths.{Elements, Slot, absent, dir}
use Rattle.fp_host.specs.View.{View}
use Rattle.fp_host.specs.Moments.{Moments}
use Rattle.fp_memhost.specs.Story.{Story}

-- The entries of a tree in which only the root exists
abbrev pub root_alone : Elements → Slot
root_alone [] = dir
root_alone (x ∷ up) = absent

-- The empty view: only the root exists, there are no files and no earlier entries, nothing is
-- printed, and nothing is remembered.
abbrev pub empty_view : View
empty_view = record {
  names = root_alone;
  files = λ id. None;
  earlier = λ q. [];
  dirty = λ id. false;
  printed = [];
  stood = [];
}

-- The host reports this view as its only one, and no call was made.
pub record Begins (v : View) (story : Story) (moments : Option Moments) (count : ℕ) : Type 0 where
  pub told : moments ≡ Some (record { now = v; past = [] })
  pub faults : count ≡ 0
  pub calls : story.calls ≡ 0
  pub after : story.after 0 ≡ Some v
  pub fails : (n : ℕ) → story.fails n ≡ None
  pub starved : story.starved ≡ 0
  pub made : story.made ≡ []

-- `bytes` are all printed bytes of the host
pub record TellsPrinted (told : Option Moments) (bytes : List ℕ) : Type 0 where
  pub printed : (m : Moments) → told ≡ Some m → bytes ≡ m.now.printed
