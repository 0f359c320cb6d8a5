-- What stands at a place already.
use Rattle.std.proofs.Common.{◌≡◌, ℕ, List, Bool, true, false, length, leb, Option, Some, None, Ok, refl, sym, ◌∙◌, ap, arith}
use Rattle.std.specs.Prelude.{◌&&◌, ◌==◌, if◌then◌else◌}
use Rattle.std.specs.Str.{bytes_eq}
use Rattle.std.proofs.lemmas.Bool.{and_parts}
use Rattle.std.proofs.lemmas.Bool.Decides.{nat_tests}
use Rattle.fp_base.proofs.Texts.{bytes_eq-true, bytes_eq-same}
use Rattle.fp_host.specs.Paths.{Elements, Slot, absent, dir, file, link}
use Rattle.fp_host.specs.View.{View, Inode, IsTree}
use Rattle.fp_host.specs.Outcome.{Spot, gone, folder, holds, points, holding, spot_of, shows}
use Rattle.fp_host.specs.Reads.{IsStat, StatOf, LinkOf}
use Rattle.fp_host.specs.declared.host.Stat.{Stat}
use Rattle.fp_host.specs.declared.host.Stat.TheVariants.{File as StatFile, Link}
use Rattle.fp_host.specs.Moments.{Makes}
use Rattle.fp_host.specs.Frame.{AtEnd}
use Rattle.fp_host.proofs.Framed.{IsTold}
use Rattle.fp_host.proofs.Goes.{begins, makes_goes}
use Rattle.fp_host.proofs.Settled.{at_tree}
use Rattle.fp_small.specs.Load.{loaded_of, Loads}
use Rattle.fp_small.specs.Move.{IsNew}
use Rattle.fp_small.specs.declared.loading.Loaded.{Loaded}
use Rattle.fp_small.specs.declared.loading.Loaded.TheVariants.{Bytes, TooLong}
use Rattle.fl_export.specs.declared.rows.ExportWhat.{ExportWhat}
use Rattle.fl_export.specs.declared.rows.ExportWhat.TheVariants as what
use Rattle.fl_export.specs.Placed.{IsExported, has_bits, has_bytes, is_text, is_link, is_exported}

-- ---- the test and what it tests

same_number : (m : ℕ) → (m == 420) ≡ true → m ≡ 420
same_number m h = grind (arith, nat_tests)

text_is : (bytes : List ℕ) (spot : Spot) → is_text bytes spot ≡ true → IsNew bytes spot
text_is bytes gone h = absurd (cc h)
text_is bytes folder h = absurd (cc h)
text_is bytes (points text) h = absurd (cc h)
text_is bytes (holds id mode found) h =
    let a = and_parts (mode == 420) (bytes_eq found bytes) h in
    (id, λ i. holds id (same_number mode a.0 i) (bytes_eq-true found bytes a.1 i))

text_back : (bytes : List ℕ) (spot : Spot) → IsNew bytes spot → is_text bytes spot ≡ true
text_back bytes spot new = ap (is_text bytes) new.1 ∙ bytes_eq-same bytes

link_is : (text : List ℕ) (spot : Spot) → is_link text spot ≡ true → spot ≡ points text
link_is text gone h = absurd (cc h)
link_is text folder h = absurd (cc h)
link_is text (holds id mode bytes) h = absurd (cc h)
link_is text (points found) h = ap points (bytes_eq-true found text h)

link_back : (text : List ℕ) (spot : Spot) → spot ≡ points text → is_link text spot ≡ true
link_back text spot is = ap (is_link text) is ∙ bytes_eq-same text

pub there_is : (w : ExportWhat) (spot : Spot) → is_exported w spot ≡ true → IsExported w spot
there_is (what.Text bytes) spot h = text_is bytes spot h
there_is (what.Link text) spot h = link_is text spot h

pub there_back : (w : ExportWhat) (spot : Spot) → IsExported w spot → is_exported w spot ≡ true
there_back (what.Text bytes) spot h = text_back bytes spot h
there_back (what.Link text) spot h = link_back text spot h

-- ---- what calls tell

-- what a call tells of a view that is a tree
pub tells_of : {a b : _} {S Q : View → View → Type 0} → IsTold a → Makes S a b → ((u w : View) → IsTree u → S u w → Q u w) → AtEnd Q a b
tells_of told call tells = record { goes = begins told (makes_goes call) (λ u w t s. tt) (λ u w t s q. tells u w t q) }

pub told_of : {a b : _} {S Q : View → View → Type 0} → IsTold a → AtEnd S a b → ((u w : View) → IsTree u → S u w → Q u w) → AtEnd Q a b
told_of told known tells = record { goes = begins told known.goes (λ u w t s. tt) (λ u w t s q. tells u w t q) }

module _ {v : View} (tree : IsTree v) (p : Elements) where
  shown : shows v p ≡ spot_of v.files (v.names p)
  shown = ap (spot_of v.files) (at_tree v tree p)

  bits_by : (id mode size : ℕ) (e : Slot) → v.names p ≡ e → IsStat v e (StatFile id mode size) → (mode == 420) ≡ has_bits (spot_of v.files e)
  bits_by id mode size absent at h = absurd (cc h)
  bits_by id mode size dir at h = absurd (cc h)
  bits_by id mode size (link text) at h = absurd (cc h)
  bits_by id mode size (file n) at h = by_file h.0 h.1 h.2
    where
      by_file : (f : Inode) → v.files n ≡ Some f → StatFile id mode size ≡ StatFile n f.mode (length f.bytes) → (mode == 420) ≡ has_bits (holding n (v.files n))
      by_file f some is = let same : mode ≡ f.mode = cc is in ap (λ (m : ℕ). m == 420) same ∙ sym (ap (λ (r : Option Inode). has_bits (holding n r)) some)

  pub bits_told : (id mode size : ℕ) {w : View} → StatOf p (Ok (StatFile id mode size)) v w → (mode == 420) ≡ has_bits (shows v p)
  bits_told id mode size s = bits_by id mode size (v.names p) refl s.tells.1 ∙ sym (ap has_bits shown)

  no_bits_by : (s : Stat) → ((id mode size : ℕ) → s ≡ StatFile id mode size → ⊥) → (e : Slot) → IsStat v e s → false ≡ has_bits (spot_of v.files e)
  no_bits_by s off absent h = refl
  no_bits_by s off dir h = refl
  no_bits_by s off (link text) h = refl
  no_bits_by s off (file n) h = absurd (off n h.0.mode (length h.0.bytes) h.2)

  pub no_bits_told : (s : Stat) {w : View} → ((id mode size : ℕ) → s ≡ StatFile id mode size → ⊥) → StatOf p (Ok s) v w → false ≡ has_bits (shows v p)
  no_bits_told s off stat = no_bits_by s off (v.names p) stat.tells.1 ∙ sym (ap has_bits shown)

  no_link_by : (text : List ℕ) (s : Stat) → (s ≡ Link → ⊥) → (e : Slot) (row : Option Inode) → IsStat v e s → false ≡ is_link text (spot_of v.files e)
  no_link_by text s off absent row h = refl
  no_link_by text s off dir row h = refl
  no_link_by text s off (link found) row h = absurd (off h)
  no_link_by text s off (file n) row h = by_row (v.files n)
    where
      by_row : (r : Option Inode) → false ≡ is_link text (holding n r)
      by_row None = refl
      by_row (Some f) = refl

  pub no_link_told : (text : List ℕ) (s : Stat) {w : View} → (s ≡ Link → ⊥) → StatOf p (Ok s) v w → false ≡ is_link text (shows v p)
  no_link_told text s off stat = no_link_by text s off (v.names p) None stat.tells.1 ∙ sym (ap (is_link text) shown)

  pub link_told : (text found : List ℕ) {w : View} → LinkOf p (Ok found) v w → bytes_eq found text ≡ is_link text (shows v p)
  link_told text found l = sym (ap (is_link text) (shown ∙ ap (spot_of v.files) l.tells.1))

-- ---- what was loaded

load_by : (bytes found : List ℕ) (spot : Spot) → Bytes found ≡ loaded_of (length bytes) spot → bytes_eq found bytes ≡ has_bytes bytes spot
load_by bytes found gone h = absurd (cc h)
load_by bytes found folder h = absurd (cc h)
load_by bytes found (points text) h = absurd (cc h)
load_by bytes found (holds id mode content) h = by_length (leb (length content) (length bytes)) h
  where
    by_length : (b : Bool) → Bytes found ≡ (if b then Bytes content else TooLong (length content)) → bytes_eq found bytes ≡ bytes_eq content bytes
    by_length true is = let same : found ≡ content = cc is in ap (λ l. bytes_eq l bytes) same
    by_length false is = absurd (cc is)

-- a file that is too long has other bytes
long_differs : (bytes content : List ℕ) → leb (length content) (length bytes) ≡ false → bytes_eq content bytes ≡ false
long_differs bytes content long = by_test (bytes_eq content bytes) refl
  where
    by_test : (b : Bool) → bytes_eq content bytes ≡ b → bytes_eq content bytes ≡ false
    by_test false is = is
    by_test true is = absurd (too_long (ap length (bytes_eq-true content bytes is)))
      where
        too_long : length content ≡ length bytes → ⊥
        too_long same = grind (arith, nat_tests)

unloaded_by : (bytes : List ℕ) (l : Loaded) (spot : Spot) → ((found : List ℕ) → l ≡ Bytes found → ⊥) → l ≡ loaded_of (length bytes) spot → false ≡ has_bytes bytes spot
unloaded_by bytes l gone off is = refl
unloaded_by bytes l folder off is = refl
unloaded_by bytes l (points text) off is = refl
unloaded_by bytes l (holds id mode content) off is = by_length (leb (length content) (length bytes)) refl
  where
    by_length : (b : Bool) → leb (length content) (length bytes) ≡ b → false ≡ bytes_eq content bytes
    by_length true short = absurd (off content (is ∙ ap (λ b. if b then Bytes content else TooLong (length content)) short))
    by_length false long = sym (long_differs bytes content long)

pub load_told : (p : Elements) (bytes found : List ℕ) {v : View} → Loads p (length bytes) v (Bytes found) → bytes_eq found bytes ≡ has_bytes bytes (shows v p)
load_told p bytes found {v = v} l = load_by bytes found (shows v p) l.is

pub unload_told : (p : Elements) (bytes : List ℕ) (l : Loaded) {v : View} → ((found : List ℕ) → l ≡ Bytes found → ⊥) → Loads p (length bytes) v l → false ≡ has_bytes bytes (shows v p)
unload_told p bytes l {v = v} off loads = unloaded_by bytes l (shows v p) off loads.is

pub text_told : (p : Elements) (bytes : List ℕ) (u v : View) (bits is : Bool) → bits ≡ true → bits ≡ has_bits (shows u p) → v ≡ u → is ≡ has_bytes bytes (shows v p) → is ≡ is_text bytes (shows u p)
text_told p bytes u v bits is so at same told = told ∙ ap (λ (x : View). has_bytes bytes (shows x p)) same ∙ ap (λ b. b && has_bytes bytes (shows u p)) (sym so ∙ at)
