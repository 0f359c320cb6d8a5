-- What stands at a name, and what a look at it tells.
use Rattle.std.proofs.Common.{refl, inl, None, Option, Some, inr, ◌≡◌, ◌⊎◌, List, ℕ, sym, subst, ◌≢◌, Ok, Err}
use Rattle.fp_host.specs.View.{Inode, View}
use Rattle.fp_host.specs.Calls.{grown, IsNoDir, IsLeaf, IsFile}
use Rattle.fp_host.specs.Paths.{Slot, absent, link, file, dir, Elements}
use Rattle.fp_host.specs.Reads.{IsStat, StatOf, LinkOf}
use Rattle.fp_host.specs.declared.host.Stat.TheVariants.{Link, File as StatFile}
use Rattle.fp_host.specs.declared.host.HostError.TheVariants.{Clash}
use Rattle.fp_host.specs.declared.host.HostError.{HostError}
use Rattle.fp_host.proofs.Cause.{clash_reads}

pub row_cases : (row : Option Inode) → (row ≡ None) ⊎ ((f : Inode) × (row ≡ Some f))
row_cases None = inl refl
row_cases (Some f) = inr (f, refl)

pub grown_none : (row : Option Inode) (bytes : List ℕ) → grown row bytes ≡ None → row ≡ None
grown_none None bytes is = refl
grown_none (Some f) bytes is = absurd (cc)

pub no_dir_absent : {e : Slot} → e ≡ absent → IsNoDir e
no_dir_absent is = subst IsNoDir (sym is) tt

pub no_dir_leaf : (e : Slot) → IsLeaf e → IsNoDir e
no_dir_leaf absent l = tt
no_dir_leaf dir l = absurd l
no_dir_leaf (file id) l = tt
no_dir_leaf (link text) l = tt

pub leaf_no_folder : (e : Slot) → IsLeaf e → e ≡ dir → ⊥
leaf_no_folder absent leaf is = leaf
leaf_no_folder dir leaf is = leaf
leaf_no_folder (file id) leaf is = cc is
leaf_no_folder (link text) leaf is = cc is

pub leaf_there : (e : Slot) → IsLeaf e → e ≢ absent
leaf_there absent leaf = λ none. leaf
leaf_there dir leaf = λ none. leaf
leaf_there (file id) leaf = λ none. cc none
leaf_there (link text) leaf = λ none. cc none

pub link_of : (v : View) (e : Slot) → IsStat v e Link → (text : List ℕ) × (e ≡ link text)
link_of v absent s = absurd (cc s)
link_of v dir s = absurd (cc s)
link_of v (link text) s = (text, refl)
link_of v (file id) s = absurd (cc s.2)

pub file_of : (v : View) (e : Slot) (id mode size : ℕ) → IsStat v e (StatFile id mode size) → IsFile e
file_of v absent id mode size s = absurd (cc s)
file_of v dir id mode size s = absurd (cc s)
file_of v (link text) id mode size s = absurd (cc s)
file_of v (file k) id mode size s = (k, refl)

pub stat_link : {p : Elements} {v w : View} → StatOf p (Ok Link) v w → (text : List ℕ) × (v.names p ≡ link text)
stat_link {p = p} {v = v} stat = link_of v (v.names p) stat.tells.1

pub clash_link : {p : Elements} {e : HostError} {v w : View} → LinkOf p (Err e) v w → e ≡ Clash → (text : List ℕ) × (v.names p ≡ link text) → ⊥
clash_link {p = p} {e = e} {v = v} step is can = clash_reads {T = List ℕ} ((text : List ℕ) × (v.names p ≡ link text)) (λ text. v.names p ≡ link text) e step.tells is can
