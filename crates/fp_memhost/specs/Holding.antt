-- The content of fake remotes, and their calls that fail.
use Rattle.std.specs.Prelude.{◌≡◌, ◌≢◌, ◌↔◌, ◌+◌, ◌-◌, ◌^◌, ℕ, Bool, true, List, [], leb, min, Result, IsErrOf, if◌then◌else◌}
use Rattle.std.specs.Str.{bytes_eq}
use Rattle.fp_host.specs.Paths.{Elements, path_eq}
use Rattle.fp_host.specs.Remote.{Held, nothing, directory, contents, target, Holdings}
use Rattle.fp_host.specs.declared.limits.TheConstants.{PERMISSION_BITS}
use Rattle.fp_host.specs.declared.remotes.RemoteError.{RemoteError}
use Rattle.fp_host.specs.declared.remotes.RemoteError.TheVariants.{Failed}
use Rattle.fp_memhost.specs.declared.remotes.MemNode.{MemNode}
use Rattle.fp_memhost.specs.declared.remotes.MemNode.TheVariants.{File, Link}
use Rattle.fp_memhost.specs.Folders.{is_above}

-- The content of a path at which this node was put
abbrev pub node_held : MemNode → Held
node_held (File mode bytes) = contents mode bytes
node_held (Link text) = target text

-- Tests whether the mode of a node is at most 0o7777; true for a symlink
abbrev pub node_bits : MemNode → Bool
node_bits (File mode bytes) = leb mode PERMISSION_BITS
node_bits (Link text) = true

-- The content after a node is put at a path of a URL: the path's ancestors are directories
abbrev pub put_held : Holdings → List ℕ → Elements → Held → Holdings
put_held held url p node u q = if bytes_eq u url
    then (if path_eq q p then node else (if is_above q p then directory else held u q))
    else held u q

-- The path is neither a file nor a symlink
abbrev pub IsOpen : Held → Type 0
IsOpen nothing = Unit {0}
IsOpen directory = Unit {0}
IsOpen (contents mode bytes) = ⊥
IsOpen (target text) = ⊥

-- The node can be put at the path: the path is neither the root nor a directory, no file or symlink
-- is an ancestor of it, and the mode is at most 0o7777
pub record CanPut (held : Elements → Held) (p : Elements) (node : MemNode) : Type 0 where
  pub no_root : p ≢ []
  pub no_folder : held p ≢ directory
  pub open_above : (q : Elements) → is_above q p ≡ true → IsOpen (held q)
  pub bits : node_bits node ≡ true

-- The record that fake remotes keep of their calls
pub record Keeping : Type 0 where
  -- The number of calls so far, at most 2^64 - 1
  pub calls : ℕ
  -- Whether the call with this number, counted from 0, fails
  pub fails : ℕ → Bool

-- One call is counted, and its result is `Failed` exactly if its number is listed
pub record Numbers {T : Type 0} (old new : Keeping) (result : Result T RemoteError) : Type 0 where
  pub calls : new.calls ≡ min (old.calls + 1) (2 ^ 64 - 1)
  pub fails : (n : ℕ) → new.fails n ≡ old.fails n
  pub failed : IsErrOf result Failed ↔ (old.fails old.calls ≡ true)
