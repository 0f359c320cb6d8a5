-- The file `metadata` in the directory of a deployed commit.
use Rattle.std.specs.Prelude.{◌≡◌, ◌++◌, ℕ, List, Option, Some, None}
use Rattle.fp_host.specs.Paths.{Elements}
use Rattle.fp_host.specs.Moments.{Moments}
use Rattle.fp_host.specs.Outcome.{Spot, gone, folder, holds, points, Disk, shows}
use Rattle.fp_name.specs.Refs.{Ref}
use Rattle.fp_small.specs.declared.loading.Loaded.{Loaded}
use Rattle.fp_small.specs.declared.loading.Loaded.TheVariants as loaded
use Rattle.ost_model.specs.declared.limits.TheConstants.{MOST_METADATA_FILE_BYTES}
use Rattle.ost_model.specs.Objects.{Have}
use Rattle.ost_model.specs.Standing.{metadata_name}
use Rattle.ost_store.specs.Reads.{if_within}
use Rattle.dep_states.specs.Names.{commit_dir}
use Rattle.fl_installed.specs.Files.{metadata_file}

-- The bytes of the file `metadata` by ref and commit; none if there is no such file
abbrev pub DeployedFiles : Type 0
DeployedFiles = Ref → List ℕ → Option (List ℕ)

-- The bytes of a file of at most 1 MiB; none for a longer file and for any other node
abbrev pub short_file : Spot → Option (List ℕ)
short_file gone = None
short_file folder = None
short_file (points text) = None
short_file (holds id mode bytes) = if_within MOST_METADATA_FILE_BYTES bytes

-- The path of the file `metadata` in the directory of a ref's commit
abbrev pub metadata_path : Ref → List ℕ → Elements
metadata_path name commit = metadata_name ++ commit_dir name commit

-- The files `metadata` on a disk
abbrev pub deployed_files : Disk → DeployedFiles
deployed_files disk name commit = short_file (disk (metadata_path name commit))

-- The files `metadata` in a store, whether or not their commits are deployed
abbrev pub stored_files : Have → DeployedFiles
stored_files have name commit = metadata_file have commit

-- The host reports its content, and has these files `metadata`
pub record Deploys (told : Option Moments) (files : DeployedFiles) : Type 0 where
  pub moments : Moments
  pub told_is : told ≡ Some moments
  pub is : files ≡ deployed_files (shows moments.now)

-- The loaded bytes; none if the path wasn't a file of at most the maximum length
abbrev pub bytes_loaded : Loaded → Option (List ℕ)
bytes_loaded (loaded.Bytes bytes) = Some bytes
bytes_loaded loaded.Absent = None
bytes_loaded (loaded.TooLong size) = None
bytes_loaded loaded.NotFile = None
