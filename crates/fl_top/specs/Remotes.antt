-- The making of remotes by `export`: the names that may change, and the store that is left.
use Rattle.std.specs.Prelude.{◌≡◌, ◌++◌, ℕ, List, Option, Some, None}
use Rattle.fp_host.specs.Paths.{Elements, Slot, absent, dir}
use Rattle.fp_host.specs.View.{View}
use Rattle.fp_host.specs.Outcome.{Disk, Leaves}
use Rattle.fp_name.specs.Refs.{Ref}
use Rattle.ost_refs.specs.Places.{remotes}
use Rattle.ost_commit.specs.declared.built.Built.{Built}
use Rattle.ost_commit.specs.Objects.{have_of}
use Rattle.ost_description.specs.Commits.{IsDescribed}
use Rattle.ost_export.specs.Exports.{AreFit, IsOffered}
use Rattle.fl_lines.specs.Lines.{made_text}
use Rattle.fl_words.specs.declared.command.Command.{Command}
use Rattle.fl_make.specs.Making.{remote_store, MayMake, CanMake}
use Rattle.fl_words.specs.Words.{Work, work_of, making}

-- The entries that names may get by work that makes a remote; none by other work
abbrev pub MakesAs : Work → Elements → Slot → Type 0
MakesAs (making remote name) q e = MayMake remote name q e
MakesAs _ q e = ⊥

-- The entries that names may get because this command makes a remote
abbrev pub MakesBy : Command → Elements → Slot → Type 0
MakesBy command q e = MakesAs (work_of command) q e

-- The entries that names may get because these words make a remote
abbrev pub MakesFor : Option Command → Elements → Slot → Type 0
MakesFor None q e = ⊥
MakesFor (Some command) q e = MakesBy command q e

-- The remote offers the tree that the bytes describe, and the line of its commit was printed. If
-- each object's path in the remote's store was absent or had this object (so in a new store), each
-- crash leaves a store that offers the ref with this commit, which has no fault. If the remote
-- could be made and the store's `refs/remotes` was absent, it is a directory now.
pub record LeavesRemote (remote : List ℕ) (r : Ref) (bytes : List ℕ) (u w : View) : Type 0 where
  pub built : Built
  pub described_by : IsDescribed bytes r built
  pub printed : w.printed ≡ u.printed ++ made_text built.commit
  pub offered : AreFit (have_of built.objects) (remote_store remote) u → (disk : Disk)
      → Leaves w disk → IsOffered (have_of built.objects) (remote_store remote) r built.commit disk
  pub remotes_there : CanMake remote r u → u.names (remotes (remote_store remote)) ≡ absent
      → w.names (remotes (remote_store remote)) ≡ dir

-- The work made a remote of all that was left of the input; other work promises nothing here
abbrev pub MadeAs : Work → Option (List ℕ) → View → View → Type 0
MadeAs (making remote name) left u w =
    (bytes : List ℕ) → left ≡ Some bytes → LeavesRemote remote name bytes u w
MadeAs _ left u w = Unit {0}

-- This command made a remote of all that was left of the input, if it makes one
abbrev pub MadeBy : Command → Option (List ℕ) → View → View → Type 0
MadeBy command left u w = MadeAs (work_of command) left u w

-- These words made a remote of all that was left of the input, if they make one
abbrev pub MadeFor : Option Command → Option (List ℕ) → View → View → Type 0
MadeFor None left u w = Unit {0}
MadeFor (Some command) left u w = MadeBy command left u w
