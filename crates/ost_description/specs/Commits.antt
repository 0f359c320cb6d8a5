-- Commits of descriptions.
use Rattle.std.specs.Prelude.{◌≡◌, ℕ, List, Result, Ok, Err}
use Rattle.fp_name.specs.Refs.{Ref}
use Rattle.ost_commit.specs.declared.built.Built.{Built}
use Rattle.ost_commit.specs.Built.{BuiltCommit}
use Rattle.ost_commit.specs.Rows.{says}
use Rattle.ost_commit.specs.Tables.{Collide}
use Rattle.ost_commit.specs.Sizes.{IsTooLarge}
use Rattle.ost_description.specs.declared.description.Description.{Description}
use Rattle.ost_description.specs.declared.description.DescriptionError.{DescriptionError}
use Rattle.ost_description.specs.declared.description.DescriptionError.TheVariants as error
use Rattle.ost_description.specs.Descriptions.{described}

-- The bytes describe a tree, and `built` is its commit, bound to the ref
pub record IsDescribed (bytes : List ℕ) (r : Ref) (built : Built) : Type 0 where
  pub description : Description
  pub reads : described bytes ≡ Ok description
  pub commit : BuiltCommit description.rows r description.subject description.timestamp built

-- A description was read
pub record IsRead (read : Result Description ℕ) : Type 0 where
  pub description : Description
  pub is : read ≡ Ok description

-- A description was read, and its commit, bound to the ref, is too large
pub record IsReadTooLarge (r : Ref) (read : Result Description ℕ) : Type 0 where
  pub description : Description
  pub is : read ≡ Ok description
  pub large : IsTooLarge description.rows (says description.rows) r description.subject
      description.timestamp

-- Holds if making the commit of what was read may fail with this error
abbrev pub IsFaultOf : Ref → Result Description ℕ → DescriptionError → Type 0
IsFaultOf r read (error.Record number) = read ≡ Err number
IsFaultOf r read error.Collision = IsRead read × Collide
IsFaultOf r read error.TooLarge = IsReadTooLarge r read
IsFaultOf r read error.NoMemory = Unit {0}

-- Holds if making the commit of a description in bytes may fail with this error
abbrev pub IsDescriptionFault : Ref → List ℕ → DescriptionError → Type 0
IsDescriptionFault r bytes e = IsFaultOf r (described bytes) e

-- Holds if reading a description may fail with this error
abbrev pub IsReadFault : List ℕ → DescriptionError → Type 0
IsReadFault bytes (error.Record number) = described bytes ≡ Err number
IsReadFault bytes error.Collision = ⊥
IsReadFault bytes error.TooLarge = ⊥
IsReadFault bytes error.NoMemory = Unit {0}
