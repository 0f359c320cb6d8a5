-- The parts of the state, as they are read.
use Rattle.std.specs.Prelude.{◌≡◌, ◌⊎◌, ℕ, List, [], map, Bool, true, false, Option, Some, None, String, string_bytes, Contains, if◌then◌else◌}
use Rattle.std.specs.List.{AllByRecursion}
use Rattle.std.specs.Map.{values_of}
use Rattle.std.specs.String.{string_cmp}
use Rattle.std.specs.BTreeMap.{insert_entry}
use Rattle.fp_host.specs.Paths.{Elements, path_text}
use Rattle.fp_host.specs.Outcome.{Spot, Disk, gone, folder, holds, points}
use Rattle.fp_host.specs.Reads.{is_ascending}
use Rattle.fp_keyfile.specs.KeyFile.{file_of}
use Rattle.fp_name.specs.Refs.{Ref, is_ref, ref_of, ref_text}
use Rattle.fp_small.specs.Config.{IsSettings}
use Rattle.fp_small.specs.Old.{remotes_of, pins_of}
use Rattle.fp_small.specs.Order.{comes_before}
use Rattle.fp_small.specs.declared.loading.Loaded.{Loaded}
use Rattle.fp_small.specs.declared.loading.Loaded.TheVariants.{Bytes, Absent, TooLong, NotFile}
use Rattle.fp_small.specs.declared.state.Layout.TheVariants.{Two}
use Rattle.fp_small.specs.declared.state.RefRow.{RefRow}
use Rattle.fp_small.specs.declared.state.OverrideRow.{OverrideRow}
use Rattle.dep_states.specs.declared.setup.Setup.{Setup}
use Rattle.dep_states.specs.Names.{config, remotes_conf, pins_file, override_path, active, branch_dir}
use Rattle.fp_name.specs.Grammar.{is_override}
use Rattle.dep_states.specs.Shown.{Seen, away, bad, there, read_of, seen_of, setup, settings_seen, layout_one, ref_seen, row_seen, if_file, named_override, override_seen, at_name, ref_key, override_key}
use Rattle.dep_states.specs.Damaged.{Damages}
use Rattle.dep_states.specs.Small.{IsSetting}
use Rattle.dep_states.specs.After.{IsGoodRow, IsGoodLayer}
use Rattle.dep_open.specs.declared.part.Seen.{Seen as Found}
use Rattle.dep_open.specs.declared.part.Seen.TheVariants as found
use Rattle.dep_open.specs.declared.part.Part.{Part}

-- ---- loaded files

-- The result of reading one part, as the specifications have it
abbrev pub seen_in : {T : Type 0} → Found T → Seen T
seen_in found.Away = away
seen_in found.Bad = bad
seen_in (found.There t) = there t

-- Tests whether a loaded file is absent
abbrev pub is_away : Loaded → Bool
is_away Absent = true
is_away (Bytes bytes) = false
is_away (TooLong size) = false
is_away NotFile = false

-- The part that a loaded file gives, by what its bytes give
abbrev pub seen_as : {A : Type 0} → (List ℕ → Option A) → Loaded → Seen A
seen_as read Absent = away
seen_as read (Bytes bytes) = read_of (read bytes)
seen_as read (TooLong size) = bad
seen_as read NotFile = bad

-- The part that was found, or else this value
abbrev pub found_or : {A : Type 0} → Seen A → A → A
found_or away other = other
found_or bad other = other
found_or (there a) other = a

-- The row that a loaded override gives
abbrev pub override_loaded : List ℕ → Loaded → Seen OverrideRow
override_loaded name loaded =
    named_override name (seen_as (λ bytes. if_file (file_of bytes)) loaded)

-- The text of a symlink
abbrev pub text_seen : Spot → Seen (List ℕ)
text_seen gone = away
text_seen folder = bad
text_seen (holds id mode bytes) = bad
text_seen (points text) = there text

-- ---- the first damaged path

-- The first of two paths by the bytes of their texts
abbrev pub lesser : Option Elements → Option Elements → Option Elements
lesser None b = b
lesser (Some p) None = Some p
lesser (Some p) (Some q) = if comes_before (path_text q) (path_text p) then Some q else Some p

-- The first path by the bytes of its text that has the property `D`; none, if no path has it
abbrev pub IsLeast : (Elements → Type 0) → Option Elements → Type 0
IsLeast D None = (q : Elements) → D q → ⊥
IsLeast D (Some p) =
    D p × ((q : Elements) → D q → (q ≡ p) ⊎ (comes_before (path_text p) (path_text q) ≡ true))

-- The path is damaged, and one of the settings' files
abbrev pub BadSetting : Disk → Elements → Type 0
BadSetting disk q = Damages disk q × IsSetting q

-- The path is the `active` of a ref that can't be read
abbrev pub BadRef : Disk → Elements → Type 0
BadRef disk q = (name : Ref) × (ref_seen disk name ≡ bad) × (q ≡ active name)

-- The path is that of an override that can't be read
abbrev pub BadOverride : Disk → Elements → Type 0
BadOverride disk q = (name : List ℕ) × (override_seen disk name ≡ bad) × (q ≡ override_path name)

-- ---- the settings

-- The part that has this setup, or this path as damaged. The setup of an image is never absent.
abbrev pub IsSetUp : Seen Setup → Elements → Part Setup → Type 0
IsSetUp away p part = ⊥
IsSetUp bad p part = (part.damaged ≡ Some p) × (part.found ≡ setup Two [] [])
IsSetUp (there k) p part = (part.damaged ≡ None) × (part.found ≡ k)

-- The damaged path in layout 1: `pins` comes before `remotes.conf`
abbrev pub old_path : Seen (List (List ℕ)) → Elements
old_path bad = pins_file
old_path away = remotes_conf
old_path (there pins) = remotes_conf

-- The part that the loaded files of layout 1 give
abbrev pub IsSetUpOld : Loaded → Loaded → Part Setup → Type 0
IsSetUpOld pins remotes part = IsSetUp
    (layout_one (seen_as remotes_of remotes) (seen_as pins_of pins))
    (old_path (seen_as pins_of pins)) part

-- The settings of the part are valid
abbrev pub IsGoodSetup : Part Setup → Type 0
IsGoodSetup part = IsSettings part.found.settings

-- The part is the setup that the image gives, or its first damaged path
pub record SetsUp (disk : Disk) (part : Part Setup) : Type 0 where
  pub least : IsLeast (BadSetting disk) part.damaged
  pub is : part.damaged ≡ None → settings_seen disk ≡ there part.found

-- The part is the setup that the image gives, or its first damaged path, if there is no `config`
pub record SetsUpOld (disk : Disk) (part : Part Setup) : Type 0 where
  pub all : disk config ≡ gone → SetsUp disk part

-- ---- rows by their names

-- The entry's key is its row's name
abbrev pub IsKeyed : {Z T : Type 0} → (T → List ℕ) → String Z × T → Type 0
IsKeyed name e = string_bytes e.0 ≡ name e.1

-- The entries with the row added under this key
abbrev pub Puts : {Z T : Type 0} → List ℕ → T → List (String Z × T) → List (String Z × T) → Type 0
Puts {Z} key row es fs =
    (k : String Z) × (string_bytes k ≡ key) × (fs ≡ insert_entry string_cmp es k row)

-- The entries and the first damaged path, with what is at one path added: its row, or the path
-- itself if it can't be read
abbrev pub Adds : {Z T : Type 0} → List ℕ → Elements → Seen T → List (String Z × T)
    → Option Elements → List (String Z × T) → Option Elements → Type 0
Adds key path away es d fs e = (fs ≡ es) × (e ≡ d)
Adds key path bad es d fs e = (fs ≡ es) × (e ≡ lesser d (Some path))
Adds key path (there row) es d fs e = Puts key row es fs × (e ≡ d)

-- A row of this ref that a `deploy` can have, if there is one
abbrev pub IsRowOf : Ref → Seen RefRow → Type 0
IsRowOf name away = Unit {0}
IsRowOf name bad = Unit {0}
IsRowOf name (there row) = IsGoodRow row × (row.name ≡ name)

-- The entries are keyed by their refs, and a `deploy` can have each row
pub record HoldsGoodRows {Z : Type 0} (es : List (String Z × RefRow)) : Type 0 where
  pub keyed : AllByRecursion (IsKeyed ref_key) es
  pub each : AllByRecursion IsGoodRow (values_of es)

-- A step that keeps entries keyed and valid
abbrev pub KeepsGoodRows : {Z : Type 0} → List (String Z × RefRow)
    → List (String Z × RefRow) → Type 0
KeepsGoodRows es fs = HoldsGoodRows es → HoldsGoodRows fs

-- The row of this override that a key file can have, if there is one
abbrev pub IsLayerOf : List ℕ → Seen OverrideRow → Type 0
IsLayerOf name away = Unit {0}
IsLayerOf name bad = Unit {0}
IsLayerOf name (there row) = IsGoodLayer row × (row.name ≡ name)

-- The entries are keyed by their names, and a key file can have each override
pub record HoldsGoodLayers {Z : Type 0} (es : List (String Z × OverrideRow)) : Type 0 where
  pub keyed : AllByRecursion (IsKeyed override_key) es
  pub each : AllByRecursion IsGoodLayer (values_of es)

-- A step that keeps entries keyed and valid
abbrev pub KeepsGoodLayers : {Z : Type 0} → List (String Z × OverrideRow)
    → List (String Z × OverrideRow) → Type 0
KeepsGoodLayers es fs = HoldsGoodLayers es → HoldsGoodLayers fs

-- ---- the whole parts

-- The part is the refs that the image shows, and no others, if none is damaged; else its first
-- damaged path
pub record AreRefs (disk : Disk) (part : Part (List RefRow)) : Type 0 where
  pub least : IsLeast (BadRef disk) part.damaged
  pub refs : part.damaged ≡ None → (text : List ℕ)
      → row_seen disk (ref_of text) ≡ seen_of (at_name ref_key part.found text)

-- The part is the overrides that the image shows, and no others, if none is damaged; else its first
-- damaged path
pub record AreOverrides (disk : Disk) (part : Part (List OverrideRow)) : Type 0 where
  pub least : IsLeast (BadOverride disk) part.damaged
  pub overrides : part.damaged ≡ None → (name : List ℕ)
      → override_seen disk name ≡ seen_of (at_name override_key part.found name)

-- The rows ascend by their refs, and a `deploy` can have each
pub record AreGoodRows (rows : List RefRow) : Type 0 where
  pub each : AllByRecursion IsGoodRow rows
  pub ascend : is_ascending (map ref_key rows) ≡ true

-- The overrides ascend by their names, and a key file can have each
pub record AreGoodLayers (rows : List OverrideRow) : Type 0 where
  pub each : AllByRecursion IsGoodLayer rows
  pub ascend : is_ascending (map override_key rows) ≡ true

-- ---- one path or name

-- The entries and the first damaged path, with the ref of this branch directory added; unchanged if
-- the path isn't that of a ref
abbrev pub AddsRef : {Z : Type 0} → Disk → Elements → List (String Z × RefRow) → Option Elements
    → List (String Z × RefRow) → Option Elements → Type 0
AddsRef disk p es d fs e = ((ref_of (path_text p) ≡ None) × (fs ≡ es) × (e ≡ d))
    ⊎ ((name : Ref) × (p ≡ branch_dir name) × (is_ref name ≡ true)
    × Adds (ref_text name) (active name) (ref_seen disk name) es d fs e)

-- The entries and the first damaged path, with the override of this name added; unchanged if the
-- name isn't an override's
abbrev pub AddsOverride : {Z : Type 0} → Disk → List ℕ → List (String Z × OverrideRow)
    → Option Elements → List (String Z × OverrideRow) → Option Elements → Type 0
AddsOverride disk name es d fs e = ((is_override name ≡ false) × (fs ≡ es) × (e ≡ d))
    ⊎ ((is_override name ≡ true)
    × Adds name (override_path name) (override_seen disk name) es d fs e)

-- ---- the first paths or names of a list

-- The path is the `active` of a ref that can't be read and whose branch directory is among these
-- paths
abbrev pub BadRefAt : Disk → List Elements → Elements → Type 0
BadRefAt disk paths q = (name : Ref) × (is_ref name ≡ true) × Contains paths (branch_dir name)
    × (ref_seen disk name ≡ bad) × (q ≡ active name)

-- The entries and the first damaged path, gathered from the refs whose branch directories are among
-- these paths
pub record FindsRefs {Z : Type 0} (disk : Disk) (paths : List Elements)
    (es : List (String Z × RefRow)) (d : Option Elements) : Type 0 where
  pub keyed : AllByRecursion (IsKeyed ref_key) es
  pub has : (name : Ref) → is_ref name ≡ true → Contains paths (branch_dir name) → (row : RefRow)
      → ref_seen disk name ≡ there row → at_name ref_key (values_of es) (ref_text name) ≡ Some row
  pub only : (text : List ℕ) (row : RefRow) → at_name ref_key (values_of es) text ≡ Some row
      → row_seen disk (ref_of text) ≡ there row
  pub least : IsLeast (BadRefAt disk paths) d

-- The path is that of an override that can't be read and whose name is among these
abbrev pub BadOverrideAt : Disk → List (List ℕ) → Elements → Type 0
BadOverrideAt disk names q = (name : List ℕ) × (is_override name ≡ true) × Contains names name
    × (override_seen disk name ≡ bad) × (q ≡ override_path name)

-- The entries and the first damaged path, gathered from the overrides whose names are among these
pub record FindsOverrides {Z : Type 0} (disk : Disk) (names : List (List ℕ))
    (es : List (String Z × OverrideRow)) (d : Option Elements) : Type 0 where
  pub keyed : AllByRecursion (IsKeyed override_key) es
  pub has : (name : List ℕ) → is_override name ≡ true → Contains names name → (row : OverrideRow)
      → override_seen disk name ≡ there row → at_name override_key (values_of es) name ≡ Some row
  pub only : (name : List ℕ) (row : OverrideRow)
      → at_name override_key (values_of es) name ≡ Some row → override_seen disk name ≡ there row
  pub least : IsLeast (BadOverrideAt disk names) d
