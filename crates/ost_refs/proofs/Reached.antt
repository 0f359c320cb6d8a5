-- How deep refs are looked for.
use Rattle.std.proofs.Common.{◌≡◌, inl, inr, ℕ, suc, ◌+◌, List, length, refl, sym, subst, arith}
use Rattle.fp_host.specs.Paths.{Elements}
use Rattle.fp_host.specs.View.{View}
use Rattle.fp_host.specs.Calls.{IsFile}
use Rattle.ost_refs.specs.Places.{heads, remotes, place_path}
use Rattle.ost_refs.specs.Lists.{ListsRefs, IsReached, ListsReached}
use Rattle.ost_refs.specs.declared.place.RefPlace.{RefPlace}
use Rattle.ost_refs.specs.declared.place.RefPlace.TheVariants.{Head, Remote}

four_more : (n : ℕ) → suc (suc (suc (suc n))) ≡ n + 4
four_more n = omega arith

five_more : (n : ℕ) → suc (suc (suc (suc (suc n)))) ≡ n + 5
five_more n = omega arith

-- the file of each place is
is_reached : (root : Elements) (place : RefPlace) → IsReached root (place_path root place)
is_reached root (Head r) = inl (inr (inr (inr (inl refl))), four_more (length (heads root)))
is_reached root (Remote origin r) = inr (inr (inr (inr (inr (inl refl)))), five_more (length (remotes root)))

pub reached : {v : View} (root : Elements) (places : List RefPlace) → ListsRefs root v places → ListsReached root v places
reached {v = v} root places lists = record {
  same = λ w agrees. record {
    each = λ place. (
      λ has. let is = (lists.each place).0 has in (is.0, subst IsFile (sym (agrees (place_path root place) (is_reached root place))) is.1),
      λ is. (lists.each place).1 (is.0, subst IsFile (agrees (place_path root place) (is_reached root place)) is.1),
    );
    ascending = lists.ascending;
  };
}
