-- Listing the refs of a store.
use Rattle.std.specs.Prelude.{◌≡◌, ◌↔◌, ◌⊎◌, ◌+◌, ℕ, List, length, map, true, Contains}
use Rattle.fp_host.specs.Paths.{Elements, IsAbove, path_text}
use Rattle.fp_host.specs.View.{View}
use Rattle.fp_host.specs.Calls.{IsFile}
use Rattle.fp_host.specs.Reads.{is_ascending}
use Rattle.ost_refs.specs.Places.{heads, remotes, place_path, is_place}
use Rattle.ost_refs.specs.declared.listing.TheConstants.{HEAD_DEPTH, REMOTE_DEPTH}
use Rattle.ost_refs.specs.declared.place.RefPlace.{RefPlace}

-- The texts of the places' paths
abbrev pub texts_of : Elements → List RefPlace → List (List ℕ)
texts_of root places = map (λ place. path_text (place_path root place)) places

-- The list has the places at which there is a file, in ascending order of the bytes of their paths
pub record ListsRefs (root : Elements) (v : View) (places : List RefPlace) : Type 0 where
  pub each : (place : RefPlace) → Contains places place
      ↔ ((is_place place ≡ true) × IsFile (v.names (place_path root place)))
  pub ascending : is_ascending (texts_of root places) ≡ true

-- Holds if the path has four elements below `refs/heads`, or five below `refs/remotes`
abbrev pub IsReached : Elements → Elements → Type 0
IsReached root q = (IsAbove (heads root) q × (length q ≡ length (heads root) + HEAD_DEPTH))
    ⊎ (IsAbove (remotes root) q × (length q ≡ length (remotes root) + REMOTE_DEPTH))

-- The listed places depend only on those paths with four elements below `refs/heads` or five below
-- `refs/remotes`: a view with the same entries at them has the same places
pub record ListsReached (root : Elements) (v : View) (places : List RefPlace) : Type 0 where
  pub same : (w : View) → ((q : Elements) → IsReached root q → w.names q ≡ v.names q)
      → ListsRefs root w places
