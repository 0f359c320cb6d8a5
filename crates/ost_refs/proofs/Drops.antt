-- Refs that are dropped, and read after a change.
use Rattle.std.proofs.Common.{◌≡◌, ℕ, List, Ok, ◌∙◌, ap, true}
use Rattle.fp_host.specs.Paths.{Elements, absent}
use Rattle.fp_host.specs.View.{View, IsTree}
use Rattle.fp_host.specs.Calls.{syncs, Step}
use Rattle.fp_host.specs.Outcome.{spot_of, shows}
use Rattle.fp_host.proofs.Settled.{settled_disk}
use Rattle.fp_host.proofs.Shown.{now_left}
use Rattle.fp_name.specs.Hex.{is_digest}
use Rattle.fp_small.specs.Replace.{WasReplaced}
use Rattle.fp_small.proofs.Staging.{synced}
use Rattle.ost_refs.specs.Files.{ref_bytes, ref_in}
use Rattle.ost_refs.specs.Changes.{WasDropped}
use Rattle.ost_refs.specs.declared.place.RefFile.TheVariants.{Digest, Absent}
use Rattle.ost_refs.proofs.Files.{written}

-- a sync leaves nothing at an absent name
pub dropped : {p : Elements} {v w : View} → IsTree w → v.names p ≡ absent → Step syncs (Ok tt) v w → WasDropped p w
dropped {p = p} {v = v} {w = w} tree none step =
    let name : w.names p ≡ absent = ap (λ (x : View). x.names p) step.how.1 ∙ none in
    record {
      name = name;
      gone = λ disk left. settled_disk w tree (synced step) disk left p ∙ ap (spot_of w.files) name;
      settled = synced step;
    }

pub read_written : (p : Elements) (d : List ℕ) (u w : View) → is_digest d ≡ true → WasReplaced p (ref_bytes d) u w → ref_in (shows w p) ≡ Digest d
read_written p d u w good was = let new = was.new.each (shows w) (now_left w) in ap ref_in new.1 ∙ written d good

pub read_dropped : (p : Elements) (w : View) → WasDropped p w → ref_in (shows w p) ≡ Absent
read_dropped p w was = ap ref_in (was.gone (shows w) (now_left w))
