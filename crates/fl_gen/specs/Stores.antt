-- Stores as an export makes them, from what they offer.
use Rattle.std.specs.Prelude.{◌≡◌, ℕ, Bool, true, leb, List, [], ◌∷◌, map, flat_map, if◌then◌else◌, Option, Some, None}
use Rattle.std.specs.List.{AllByRecursion, list_any}
use Rattle.fp_host.specs.Paths.{Elements, is_link_text, path_eq}
use Rattle.fp_host.specs.declared.limits.TheConstants.{PERMISSION_BITS}
use Rattle.fp_host.specs.Outcome.{Spot, gone, folder, holds, points, Disk}
use Rattle.fp_name.specs.Hex.{is_digest}
use Rattle.fp_name.specs.Refs.{Ref}
use Rattle.ost_model.specs.declared.object.Object.{Object}
use Rattle.ost_model.specs.declared.object.Object.TheVariants as objects
use Rattle.ost_model.specs.Objects.{object_path, object_at}
use Rattle.ost_model.specs.Order.{In}
use Rattle.ost_refs.specs.Files.{ref_bytes}
use Rattle.ost_commit.specs.declared.built.Built.{Built}
use Rattle.ost_commit.specs.declared.built.BuiltObject.{BuiltObject}
use Rattle.ost_commit.specs.Built.{BuiltCommit}
use Rattle.ost_commit.specs.Rows.{is_above}
use Rattle.ost_export.specs.Exports.{config_path, config_text, ref_path}
use Rattle.fl_gen.specs.declared.filling.TheConstants.{SUBJECT}
use Rattle.fl_gen.specs.Made.{Ware, file_mode}

-- ---- the entries of a store

-- A path, and the node of the file or link at it
abbrev pub Entry : Type 0
Entry = Elements × Spot

-- The node of the first entry for the path; None if there is none
abbrev pub entry_spot : List Entry → Elements → Option Spot
entry_spot [] q = None
entry_spot (e ∷ es) q = if path_eq q e.0 then Some e.1 else entry_spot es q

-- Tests whether some entry is below the path
abbrev pub has_below : List Entry → Elements → Bool
has_below es q = list_any (λ e. is_above q e.0) es

-- The node; without one, a directory if something is below it, or nothing
abbrev pub spot_by : Option Spot → Bool → Spot
spot_by (Some spot) below = spot
spot_by None below = if below then folder else gone

-- The disk with the entries, directories above them, and nothing else
abbrev pub disk_of : List Entry → Disk
disk_of es q = spot_by (entry_spot es q) (has_below es q)

-- Each entry is found at its path: two entries with the same path are equal
pub record AreSettled (es : List Entry) : Type 0 where
  pub each : (e : Entry) → In es e → entry_spot es e.0 ≡ Some e.1

-- ---- the entries for an offer

-- A ref, and the commit that is offered under it
pub record Offer : Type 0 where
  pub name : Ref
  pub built : Built

-- The node of a file with these bytes
abbrev pub file_spot : List ℕ → Spot
file_spot bytes = holds 0 file_mode bytes

-- The node of an object's file or link
abbrev pub object_spot : Object → Spot
object_spot (objects.Meta bytes) = file_spot bytes
object_spot (objects.File mode bytes) = holds 0 mode bytes
object_spot (objects.Link text) = points text

-- The file `config`
abbrev pub config_entry : Entry
config_entry = (config_path [], file_spot config_text)

-- The file of the ref, which contains the commit
abbrev pub ref_entry : Ref → List ℕ → Entry
ref_entry name commit = (ref_path [] name, file_spot (ref_bytes commit))

-- The object, at the path of its name
abbrev pub object_entry : BuiltObject → Entry
object_entry o = (object_path [] o.digest o.kind, object_spot o.object)

-- The ref of an offer, and the objects of its commit
abbrev pub offer_entries : Offer → List Entry
offer_entries o = ref_entry o.name o.built.commit ∷ map object_entry o.built.objects

-- The entries of a store: `config`, the refs, and the objects
abbrev pub store_entries : List Offer → List Entry
store_entries offers = config_entry ∷ flat_map offer_entries offers

-- ---- stores of refs with their trees

-- Tests whether the object's text is valid as a symlink's, if the object is a symlink
abbrev pub has_link_text : Object → Bool
has_link_text (objects.Meta bytes) = true
has_link_text (objects.File mode bytes) = true
has_link_text (objects.Link text) = is_link_text text

-- Tests whether the object's permission bits are within 0o7777, if the object is a file
abbrev pub object_bits : Object → Bool
object_bits (objects.Meta bytes) = true
object_bits (objects.File mode bytes) = leb mode PERMISSION_BITS
object_bits (objects.Link text) = true

-- The object reads back from its node
abbrev pub Reads : BuiltObject → Type 0
Reads o = object_at o.kind (object_spot o.object) ≡ Some o.object

-- The offer is the commit of the ref's tree, with the subject of all commits. The version is the
-- commit's timestamp.
pub record IsOfferOf (version : ℕ) (w : Ware) (o : Offer) : Type 0 where
  pub name : o.name ≡ w.name
  pub built : BuiltCommit w.rows w.name SUBJECT.now version o.built
  pub digits : is_digest o.built.commit ≡ true
  pub reads : AllByRecursion Reads o.built.objects

-- There is one offer for each ref and its tree, in order
abbrev pub AreOffersOf : ℕ → List Ware → List Offer → Type 0
AreOffersOf version [] [] = Unit {0}
AreOffersOf version [] (o ∷ os) = ⊥
AreOffersOf version (w ∷ ws) [] = ⊥
AreOffersOf version (w ∷ ws) (o ∷ os) = IsOfferOf version w o × AreOffersOf version ws os

-- The disk is a store that offers these refs, with the commits of their trees, and no others
pub record IsStoreOf (version : ℕ) (ws : List Ware) (disk : Disk) : Type 0 where
  pub offers : List Offer
  pub offered : AreOffersOf version ws offers
  pub settled : AreSettled (store_entries offers)
  pub shows : (q : Elements) → disk q ≡ disk_of (store_entries offers) q
