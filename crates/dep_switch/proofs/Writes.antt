-- A file that is written anew.
use Rattle.std.proofs.Common.{◌≡◌, ◌≢◌, ◌⊎◌, inl, inr, ℕ, List, [], ◌∷◌, ◌++◌, Option, Some, None, Result, Ok, refl, sym, ◌∙◌, ap, subst, Contains, ◌≤◌, arith}
use Rattle.std.proofs.lemmas.Bool.{cases_eq}
use Rattle.fp_host.specs.Paths.{Elements, Slot, absent, dir, file, link}
use Rattle.fp_host.specs.View.{View, Inode, IsTree}
use Rattle.fp_host.specs.Calls.{appends, creates, Step, Creates, CanCreate, HasFolder, IsFile, Went, grow, grown}
use Rattle.fp_host.specs.Outcome.{Spot, gone, Follows}
use Rattle.fp_host.specs.Frame.{Keeps, NoPath}
use Rattle.fp_host.specs.declared.host.HostError.{HostError}
use Rattle.fp_host.proofs.Follow.{follows_on, follows_to, follows_call, called, no_loop}
use Rattle.fp_host.proofs.Filed.{files_kept, empty_kept, put_call}
use Rattle.fp_host.proofs.Keep.{names_kept, printed_kept, stood_kept}
use Rattle.fp_host.proofs.Separate.{file_same}
use Rattle.fp_host.specs.Frame.{Frame, AtEnd}
use Rattle.fp_host.specs.Moments.{Moments, Goes, Makes}
use Rattle.fp_host.proofs.Ending.{ends_call, ends_frame, ends_on, goes_known}
use Rattle.fp_host.proofs.Framed.{IsTold, frame_start, frame_within, frame_create}
use Rattle.fp_host.proofs.Goes.{begins, goes_on, makes_goes}
use Rattle.fp_small.specs.Clear.{GoneAt, AbsentAt}
use Rattle.fp_small.specs.Files.{KeepsFiles}
use Rattle.fp_small.proofs.Keeping as keeping
use Rattle.fp_small.proofs.Staging.{Written, begun_create, written_append}
use Rattle.dep_states.specs.Zones.{IsFileOrGone}
use Rattle.dep_states.proofs.SharedAs.{shared_empty}
use Rattle.dep_switch.specs.Writing.{FileAt, FileName, WritesFile, HasFile, CanWrite}

-- what was done until the new file gets bytes
pub writes_keeps : {p : Elements} {u w : View} → Keeps (FileAt p) (FileName p) NoPath u w → WritesFile p u w
writes_keeps keeps = record { follows = keeps.follows; names = keeps.names; puts = keeps.puts; files = keeping.files_kept keeps; shares = shared_empty keeps; printed = keeps.printed }

pub gone_file : {p : Elements} (q : Elements) (spot : Spot) → GoneAt p q spot → FileAt p q spot
gone_file q spot h = (h.0, subst IsFileOrGone (sym h.1) tt)

pub absent_file : {p : Elements} (q : Elements) (e : Slot) → AbsentAt p q e → FileName p q e
absent_file q e h = (h.0, inl h.1)

-- the new file, and that it is new
pub record IsBegun (p : Elements) (u v : View) : Type 0 where
  pub written : Written p [] u v
  pub free : u.files written.id ≡ None

pub begun : {p : Elements} {G : Elements → Spot → Type 0} {W : Elements → Slot → Type 0} {u v w : View} → Keeps G W NoPath u v → Creates p 420 (Ok tt) v w → IsBegun p u w
begun {p = p} first step =
    let made = begun_create {t = p} step in
    record { written = record { id = made.written.id; name = made.written.name; stood = made.written.stood; row = made.written.row; dirty = made.written.dirty }; free = first.rows made.written.id made.free }

some_none : {A : Type 0} {a : A} {o : Option A} → o ≡ Some a → o ≡ None → ⊥
some_none some none = cc (sym some ∙ none)

same_id : {i j : ℕ} {e : Slot} → e ≡ file i → e ≡ file j → i ≡ j
same_id a b = cc (sym a ∙ b)

same_mode : {f g : Inode} → Some g ≡ Some f → f.mode ≡ g.mode
same_mode {f = f} {g = g} same = let is : g ≡ f = cc same in sym (ap (λ (x : Inode). x.mode) is)

-- what gets bytes keeps its mode
append_mode : {p : Elements} (bytes : List ℕ) {v w : View} (id : ℕ) (g f : Inode) → Went (appends p bytes) v w → v.names p ≡ file id → v.files id ≡ Some g → w.files id ≡ Some f → f.mode ≡ g.mode
append_mode {p = p} bytes {v = v} {w = w} id g f went at row some = elim went [
  | inl same ↦ same_mode (sym row ∙ sym (ap (λ (x : View). x.files id) same) ∙ some)
  | inr did ↦ elim did.1 [
    | inl is ↦ same_mode (sym row ∙ sym (ap (λ (x : View). x.files id) is) ∙ some)
    | inr is ↦
        let longer : w.files id ≡ Some (record { mode = g.mode; bytes = g.bytes ++ bytes }) =
        ap (λ (x : View). x.files id) is ∙ ap (λ (e : Slot). (grow e bytes v).files id) at ∙ file_same v.files id (grown (v.files id) bytes) id refl ∙ ap (λ (r : Option Inode). grown r bytes) row in
        same_mode {g = record { mode = g.mode; bytes = g.bytes ++ bytes }} (sym longer ∙ some)
  ]
]

-- it gets bytes
pub writes_append : {p : Elements} {bytes : List ℕ} {r : Result (Unit {0}) HostError} {u v w : View} → IsTree v → Keeps (FileAt p) (FileName p) NoPath u v → IsBegun p u v → Step (appends p bytes) r v w → WritesFile p u w
writes_append {p = p} {bytes = bytes} {u = u} {v = v} {w = w} tree first new step = record {
  follows = follows_on first.follows (follows_to (λ q spot none. absurd none) (follows_call tree (called step)));
  names = λ q. let same = names_kept (called step) q (λ none. none) in elim (first.names q) [
    | inl was ↦ inl (same ∙ was)
    | inr put ↦ inr (subst (FileName p q) (sym same) put)
  ];
  puts = λ x had. elim (put_call (called step) x had) [ inl before ↦ first.puts x before | inr none ↦ absurd none ];
  files = record {
    rows = λ id f some. let kept = first.files id f some (λ q none is. none) in
        files_kept (called step) id f kept (λ fills. some_none some (ap u.files (same_id fills new.written.name) ∙ new.free));
    stood = λ x had. stood_kept (called step) x (first.stood x had);
  };
  shares = record {
    each = λ id f none some. elim (cases_eq id new.written.id) [
      | inl is ↦ inr (p, (refl, append_mode bytes id (record { mode = 420; bytes = [] }) f (called step).went (subst (λ (i : ℕ). v.names p ≡ file i) (sym is) new.written.name) (ap v.files is ∙ new.written.row) some), stood_kept (called step) (p, file id) (subst (λ (i : ℕ). Contains v.stood (p, file i)) (sym is) new.written.stood))
      | inr off ↦ inl (other_empty id f none some (λ fills. off (same_id fills new.written.name)))
    ];
  };
  printed = printed_kept (called step) tt ∙ first.printed;
}
  where
    -- another file gets no bytes
    other_empty : (id : ℕ) (f : Inode) → u.files id ≡ None → w.files id ≡ Some f → (v.names p ≡ file id → ⊥) → f.bytes ≡ []
    other_empty id f none some off = by_row (v.files id) refl
      where
        by_row : (row : Option Inode) → v.files id ≡ row → f.bytes ≡ []
        by_row None new = empty_kept (called step) id f new some off
        by_row (Some g) old =
            let same : Some g ≡ Some f = sym (files_kept (called step) id g old off) ∙ some in
            let is : g ≡ f = cc same in
            ap (λ (x : Inode). x.bytes) (sym is) ∙ first.empty (λ q no. no) id g none old

pub has_file : {p : Elements} {bytes : List ℕ} {u w : View} → Written p bytes u w → HasFile p bytes w
has_file made = record { id = made.id; name = made.name; row = made.row }

pub file_written : {p : Elements} {bytes : List ℕ} {u v w : View} → IsBegun p u v → Step (appends p bytes) (Ok tt) v w → HasFile p bytes w
file_written new step = has_file (written_append new.written step)

-- ---- where it may be

folder_stays : {G : Elements → Spot → Type 0} {A : Elements → Type 0} (p : Elements) {u v : View} → Keeps G (AbsentAt p) A u v → HasFolder u p → HasFolder v p
folder_stays [] keeps above = above
folder_stays (x ∷ up) keeps above = elim (keeps.names up) [ inl same ↦ same ∙ above | inr put ↦ absurd (no_loop x up (sym put.0)) ]

pub can_create : {G : Elements → Spot → Type 0} {A : Elements → Type 0} {p : Elements} {u v : View} → Keeps G (AbsentAt p) A u v → v.names p ≡ absent → CanWrite p u → CanCreate p 420 v
can_create {p = p} keeps none can = (folder_stays p keeps can.above, none, mode)
  where
    mode : 420 ≤ 4095
    mode = omega arith

-- ---- call by call

pub taken : {p : Elements} {a b : Option Moments} → IsTold a → Frame (GoneAt p) (AbsentAt p) NoPath a b → Frame (FileAt p) (FileName p) NoPath a b
taken told frame = frame_within frame (frame_start told) told gone_file absent_file (λ q h. h) (λ q id h put. h)

pub created : {p : Elements} {r : Result (Unit {0}) HostError} {a b c : Option Moments} → IsTold b → Frame (FileAt p) (FileName p) NoPath a b → Makes (Creates p 420 r) b c → Frame (FileAt p) (FileName p) NoPath a c
created told frame call = frame_create call frame told (λ id bytes. (refl, tt)) (λ id. (refl, inr (id, refl)))

pub written_so_far : {p : Elements} {a b : Option Moments} → IsTold a → Frame (FileAt p) (FileName p) NoPath a b → Goes a b (WritesFile p) (WritesFile p)
written_so_far told frame = begins told frame.goes (λ u w t k. writes_keeps k) (λ u w t k e. writes_keeps e)

-- after the create
pub begun_end : {p : Elements} {a b c : Option Moments} → IsTold a → IsTold b → Frame (FileAt p) (FileName p) NoPath a b → Makes (Creates p 420 (Ok tt)) b c → AtEnd (IsBegun p) a c
begun_end told mid frame call = ends_on (ends_call mid call) (ends_frame told frame) mid (λ u v w tree k s. begun k s)

-- and after the append
pub appended : {p : Elements} {bytes : List ℕ} {r : Result (Unit {0}) HostError} {a c d : Option Moments} → IsTold a → IsTold c → Frame (FileAt p) (FileName p) NoPath a c → AtEnd (IsBegun p) a c → Makes (Step (appends p bytes) r) c d → Goes a d (WritesFile p) (WritesFile p)
appended told mid frame new call =
    goes_on mid (begins told (goes_known frame.goes new) (λ u w t k. writes_keeps k) (λ u w t k e. e)) (makes_goes call) (λ u v w tree r q s. writes_append tree q.0 q.1 s) (λ u v w tree r q s e. writes_append tree q.0 q.1 e)
