-- What goes before a commit is brought spares what is shown.
use Rattle.std.proofs.Common.{◌≡◌, ◌≤◌, inl, inr, ℕ, List, Bool, true, false, Option, length, sym, ◌∙◌, subst}
use Rattle.fp_host.specs.Paths.{Elements}
use Rattle.fp_host.specs.View.{View, IsTree}
use Rattle.fp_host.specs.Outcome.{Spot, gone, Follows, shows}
use Rattle.fp_host.specs.Frame.{Keeps, Frame, NoPath}
use Rattle.fp_host.specs.Moments.{Moments}
use Rattle.fp_host.proofs.Framed.{IsTold, keeps_on, keeps_to}
use Rattle.fp_host.proofs.Goes.{begins, goes_on}
use Rattle.fp_host.proofs.Above.{above_rest}
use Rattle.fp_host.proofs.Shown.{now_left}
use Rattle.fp_name.specs.Hex.{is_digest}
use Rattle.fp_name.specs.Refs.{Ref}
use Rattle.fp_small.specs.Clear.{GoneBelow, GoneWithin, AbsentBelow, AbsentWithin, IsEmptied, IsCleared, CanEmpty, CanClear}
use Rattle.fp_small.specs.Places.{tmp}
use Rattle.fp_small.specs.declared.state.State.{State}
use Rattle.fp_small.proofs.Within.{within_rest}
use Rattle.dep_states.specs.Frames.{KeptIn, InDir}
use Rattle.dep_states.specs.Names.{commit_dir}
use Rattle.dep_states.specs.Sound.{Opens, Spares}
use Rattle.dep_states.specs.Zones.{IsFolderOrGone}
use Rattle.dep_states.proofs.Law.{frame_law}
use Rattle.dep_states.proofs.Sparing.{dir_spares}
use Rattle.dep_states.proofs.Switching.{none_in_tmp, permits_gone}
use Rattle.dep_states.proofs.Openings.{short_follows}
use Rattle.dep_switch.proofs.Spots.{gone_absent}
use Rattle.op_change.specs.Rooms.{RoomAt, RoomName, HasRoom, CanMakeRoom}

module _ (name : Ref) (commit : List ℕ) (kept : Bool) where
  room_goes : (q : Elements) (spot : Spot) → RoomAt tmp (commit_dir name commit) kept q spot → spot ≡ gone
  room_goes q spot (inl given) = given.1
  room_goes q spot (inr given) = given.1.1

  in_dir : (p : Elements) (spot : Spot) → GoneWithin (commit_dir name commit) p spot → length p ≤ 128 → InDir name commit p spot
  in_dir p spot given short = let below = within_rest (commit_dir name commit) p given.0 in
      record { rest = below.0; is = below.1; short = short; itself = λ e. subst IsFolderOrGone (sym given.1) tt }

  module _ {s : State} {v : View} (digits : is_digest commit ≡ true) (unkept : kept ≡ false → KeptIn s name commit → ⊥) (opens : Opens s v) where
    room_spares : Spares v (λ q spot. RoomAt tmp (commit_dir name commit) kept q spot × (length q ≤ 128))
    room_spares = record {
      avoids = λ disk left p spot fixed given. elim given.0 [
        | inl work ↦ let below = above_rest tmp p work.0 in none_in_tmp below.0 below.1 fixed
        | inr folder ↦ (dir_spares digits opens (unkept folder.0)).avoids disk left p spot fixed (in_dir p spot folder.1 given.1)
      ];
      permits = λ disk left p spot given. permits_gone p spot (room_goes p spot given.0);
    }

    pub room_opens : {w : View} → Follows (RoomAt tmp (commit_dir name commit) kept) v w → Opens s w
    room_opens follows = frame_law room_spares (short_follows {G = RoomAt tmp (commit_dir name commit) kept} room_goes opens follows) opens

-- ---- where there can be room

pub can_empty : {s : State} {v : View} (p : Elements) → IsTree v → Opens s v → CanEmpty p v
can_empty {v = v} p tree opens = record { short = λ q above. elim ((opens.sound (shows v) (now_left v)).kinds q).short [ inl none ↦ inl (gone_absent tree q none) | inr short ↦ inr short ] }

pub can_make_room : {s : State} {v : View} (name : Ref) (commit : List ℕ) (kept : Bool) → IsTree v → Opens s v → CanMakeRoom tmp (commit_dir name commit) kept v
can_make_room name commit kept tree opens = record {
  work = can_empty tmp tree opens;
  folder = λ unkept. record { no_root = λ e. cc e; below = can_empty (commit_dir name commit) tree opens };
}

-- ---- one after the other

still_short : {t p : Elements} {u v : View} → Keeps (GoneBelow t) (AbsentBelow t) NoPath u v → CanEmpty p u → CanEmpty p v
still_short keeps can = record {
  short = λ q above. elim (keeps.names q) [
    | inl same ↦ elim (can.short q above) [ inl none ↦ inl (same ∙ none) | inr short ↦ inr short ]
    | inr put ↦ inl put.1
  ];
}

pub can_clear_next : {t f : Elements} {kept : Bool} {u v : View} → kept ≡ false → Keeps (GoneBelow t) (AbsentBelow t) NoPath u v → CanMakeRoom t f kept u → CanClear f v
can_clear_next unkept keeps can = let folder = can.folder unkept in record { no_root = folder.no_root; below = still_short keeps folder.below }

pub room_made : {t f : Elements} {kept : Bool} {v w : View} → kept ≡ false → IsEmptied t v → Keeps (GoneWithin f) (AbsentWithin f) NoPath v w → IsCleared f w → HasRoom t f kept w
room_made unkept emptied keeps cleared = record {
  emptied = record { gone = λ q above. elim (keeps.names q) [ inl same ↦ same ∙ emptied.gone q above | inr put ↦ put.1 ] };
  cleared = λ is. cleared;
}

pub room_kept : {t f : Elements} {kept : Bool} {v : View} → kept ≡ true → IsEmptied t v → HasRoom t f kept v
room_kept {kept = kept} is emptied = record { emptied = emptied; cleared = λ off. cc (sym is ∙ off) }

-- ---- call by call

module _ (t f : Elements) (kept : Bool) where
  below_room : {u w : View} → Keeps (GoneBelow t) (AbsentBelow t) NoPath u w → Keeps (RoomAt t f kept) (RoomName t f kept) NoPath u w
  below_room keeps = keeps_to (λ q spot h. inl h) (λ q e h. inl h) (λ q b. b) (λ q id a h. a) keeps

  within_room : kept ≡ false → {u w : View} → Keeps (GoneWithin f) (AbsentWithin f) NoPath u w → Keeps (RoomAt t f kept) (RoomName t f kept) NoPath u w
  within_room is keeps = keeps_to (λ q spot h. inr (is, h)) (λ q e h. inr (is, h)) (λ q b. b) (λ q id a h. a) keeps

  pub room_below : {a b : Option Moments} → IsTold a → Frame (GoneBelow t) (AbsentBelow t) NoPath a b → Frame (RoomAt t f kept) (RoomName t f kept) NoPath a b
  room_below told frame = record { goes = begins told frame.goes (λ u w tree k. below_room k) (λ u w tree k e. below_room e) }

  pub room_both : kept ≡ false → {a b c : Option Moments} → IsTold a → IsTold b → Frame (GoneBelow t) (AbsentBelow t) NoPath a b → Frame (GoneWithin f) (AbsentWithin f) NoPath b c → Frame (RoomAt t f kept) (RoomName t f kept) NoPath a c
  room_both is told mid first second = record {
    goes = goes_on {Q = Keeps (RoomAt t f kept) (RoomName t f kept) NoPath} mid (room_below told first).goes second.goes (λ u v w tree r q s. keeps_on q (within_room is s)) (λ u v w tree r q s e. keeps_on q (within_room is e));
  }
