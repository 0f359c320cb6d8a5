-- The calls that change nothing: what their results report of a view.
use Rattle.std.specs.Prelude.{◌≡◌, ◌≢◌, ◌↔◌, ◌≤◌, ◌-◌, ◌&&◌, ℕ, Bool, true, List, [], ◌∷◌, length, take, drop, min, Some, Result, Ok, Err, Contains}
use Rattle.std.specs.List.{list_all}
use Rattle.std.specs.Ordering.{is_lt, nat_cmp}
use Rattle.std.specs.Cmp.Lexicographic.{slice_cmp}
use Rattle.fp_host.specs.Paths.{Elements, Slot, absent, dir, file, link, is_element}
use Rattle.fp_host.specs.View.{View, Inode}
use Rattle.fp_host.specs.Calls.{IsFile}
use Rattle.fp_host.specs.declared.limits.TheConstants.{PERMISSION_BITS}
use Rattle.fp_host.specs.declared.host.HostError.{HostError}
use Rattle.fp_host.specs.declared.host.HostError.TheVariants.{Failed, Clash, NoMemory}
use Rattle.fp_host.specs.declared.host.Stat.{Stat}
use Rattle.fp_host.specs.declared.host.Stat.TheVariants.{Absent, Dir, File as StatFile, Link}

-- `s` is the status of the entry: of a file, the id, the mode and the length in bytes
abbrev pub IsStat : View → Slot → Stat → Type 0
IsStat v absent s = s ≡ Absent
IsStat v dir s = s ≡ Dir
IsStat v (link text) s = s ≡ Link
IsStat v (file id) s =
    (f : Inode) × (v.files id ≡ Some f) × (s ≡ StatFile id f.mode (length f.bytes))

-- `Ok` is returned only if the condition `can` holds, with a value that satisfies `told`, and
-- `Clash` only if `can` doesn't hold
abbrev pub Reads : {T : Type 0} → Type 0 → (T → Type 0) → Result T HostError → Type 0
Reads can told (Ok t) = can × told t
Reads can told (Err Clash) = can → ⊥
Reads can told (Err Failed) = Unit {0}
Reads can told (Err NoMemory) = Unit {0}

-- A call of `stat`: nothing changes, and the result is the path's status
pub record StatOf (p : Elements) (result : Result Stat HostError) (v w : View) : Type 0 where
  pub same : w ≡ v
  pub tells : Reads (Unit {0}) (λ s. IsStat v (v.names p) s) result

-- Tests whether a name is less, by its bytes, than the first name of a list, if there is one
abbrev pub comes_first : List ℕ → List (List ℕ) → Bool
comes_first x [] = true
comes_first x (y ∷ ys) = is_lt (slice_cmp nat_cmp x y)

-- Tests whether names ascend strictly by their bytes
abbrev pub is_ascending : List (List ℕ) → Bool
is_ascending [] = true
is_ascending (x ∷ xs) = comes_first x xs && is_ascending xs

-- Names as every host lists them: each may be an element of a path, and they ascend by their bytes
pub record AreNames (xs : List (List ℕ)) : Type 0 where
  pub each : list_all is_element xs ≡ true
  pub ascending : is_ascending xs ≡ true

-- The mode of a status is at most 0o7777
abbrev pub HasBits : Stat → Type 0
HasBits Absent = Unit {0}
HasBits Dir = Unit {0}
HasBits Link = Unit {0}
HasBits (StatFile id mode size) = mode ≤ PERMISSION_BITS

-- A call of `list`: nothing changes, and the result is the names directly in the directory
pub record ListOf (p : Elements) (result : Result (List (List ℕ)) HostError) (v w : View) : Type 0
  where
    pub same : w ≡ v
    pub tells : Reads (v.names p ≡ dir) (λ xs. (x : List ℕ)
        → Contains xs x ↔ (v.names (x ∷ p) ≢ absent)) result

-- The first `n` bytes of the buffer are those of the entry's file from the offset `at` on, as many
-- as fit or are left
abbrev pub IsRead : View → Slot → ℕ → List ℕ → ℕ → Type 0
IsRead v absent at into n = ⊥
IsRead v dir at into n = ⊥
IsRead v (link text) at into n = ⊥
IsRead v (file id) at into n = (f : Inode) × (v.files id ≡ Some f)
    × (n ≡ min (length into) (length f.bytes - at)) × (take n into ≡ take n (drop at f.bytes))

-- A call of `read_at`: nothing changes, and the bytes of the path's file were read into the buffer
pub record ReadOf (p : Elements) (at : ℕ) (into : List ℕ) (result : Result ℕ HostError)
    (v w : View) : Type 0 where
  pub same : w ≡ v
  pub tells : Reads (IsFile (v.names p)) (λ n. IsRead v (v.names p) at into n) result

-- A call of `read_link`: nothing changes, and the result is the text of the path's symlink
pub record LinkOf (p : Elements) (result : Result (List ℕ) HostError) (v w : View) : Type 0 where
  pub same : w ≡ v
  pub tells : Reads ((text : List ℕ) × (v.names p ≡ link text))
      (λ text. v.names p ≡ link text) result
