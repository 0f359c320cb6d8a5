-- Files and links of the remote that come to the work folder.
use Rattle.std.proofs.Common.{◌≡◌, inl, inr, ℕ, List, [], length, Bool, true, false, Option, Some, None, Result, Ok, Err, sym, ◌∙◌, ap, subst}
use Rattle.std.specs.Prelude.{if◌then◌else◌, IfOk, OnOk, IsErrOf}
use Rattle.std.specs.Result.{IsErrAnd}
use Rattle.std.proofs.lemmas.Result.{err_from_is_err_and}
use Rattle.fp_host.specs.Paths.{Elements, is_link_text, absent}
use Rattle.fp_host.specs.View.{View}
use Rattle.fp_host.specs.Moments.{Moments, Always}
use Rattle.fp_host.specs.Outcome.{Nothing}
use Rattle.fp_host.specs.Frame.{AtEnd, Frame, Keeps, Only, NoName}
use Rattle.fp_host.specs.Remote.{Held, nothing, directory, contents, target, Holdings, bytes_of}
use Rattle.fp_host.proofs.Framed.{IsTold, keeps_refl, keeps_on, keeps_to}
use Rattle.fp_host.proofs.Goes.{stays, begins, goes_on}
use Rattle.fp_host.proofs.Ending.{ends_on, ends_both, ends_frame, goes_known}
use Rattle.fp_base.specs.declared.object.ObjKind.TheVariants as kinds
use Rattle.fp_base.proofs.Options.{first_none}
use Rattle.ost_model.specs.declared.object.Object.{Object}
use Rattle.ost_model.specs.declared.object.Object.TheVariants as objects
use Rattle.ost_model.specs.Objects.{object_path, object_at, object_fault, name_fault, dir_mode_fault}
use Rattle.ost_model.specs.Remotes.{as_spot, remote_at}
use Rattle.fp_small.proofs.Keeping.{files_stay}
use Rattle.ost_store.specs.Stage.{Stages, WasStaged, CanStage}
use Rattle.ost_store.proofs.Staged.{gathers_piece}
use Rattle.ost_walk.specs.declared.ends.WalkEnd.{WalkEnd}
use Rattle.ost_walk.specs.declared.ends.WalkEnd.TheVariants as ends
use Rattle.ost_walk.specs.declared.ends.WalkFault.{WalkFault}
use Rattle.ost_walk.specs.Ends.{EndsBy, RefusesBy}
use Rattle.ost_head.specs.Contents.{IsWithinLimits, IsGoodLink}
use Rattle.ost_head.proofs.Checked.{RefusesFile, file_good, file_corrupt}
use Rattle.ost_head.specs.Brings.{Comes, IsBrought, IsCorruptAs, RemoteHasFile, JudgesRemote, CanBring}
use Rattle.ost_head.specs.Copies.{IsCopied, IsCopiedAnew, IsNewFile}

-- ---- what may come

pub come_refl : {t : Elements} {v : View} → Comes t v v
come_refl = record { keeps = keeps_refl; files = files_stay }

stages_come : {t : Elements} {object : Object} {u w : View} → Stages t object u w → Comes t u w
stages_come s = record {
  keeps = keeps_to
      (λ q spot h. elim h [ inl here ↦ inl here.0 | inr made ↦ inr made ])
      (λ q e h. elim h [ inl here ↦ inl here.0 | inr made ↦ inr made ])
      (λ q is. is)
      (λ q id is h. is)
      s.keeps;
  files = s.files;
}

pub comes_start : {t : Elements} {a : Option Moments} → IsTold a → Always (Comes t) a a
comes_start told = stays told (λ u. come_refl) (λ u tree. come_refl)

pub always_comes : {t : Elements} {object : Object} {a b : Option Moments} → IsTold a → Always (Stages t object) a b → Always (Comes t) a b
always_comes told stages = begins told stages (λ u w tree s. stages_come s) (λ u w tree s q. stages_come s)

-- ---- a file that is written

-- the file that grows is a new one
stages_piece : {t : Elements} {mode : ℕ} {u v w : View} (bytes : List ℕ) → Stages t (objects.File mode []) u v → u.names t ≡ absent → Keeps Nothing NoName (Only t) v w → Stages t (objects.File mode bytes) u w
stages_piece {t = t} {u = u} {v = v} bytes so_far free more = record {
  keeps = keeps_on so_far.keeps (keeps_to (λ q spot h. absurd h) (λ q e h. absurd h) (λ q h. h) (λ q id a h. absurd h) more);
  files = record { rows = λ id f some. more.files id f (so_far.files.rows id f some) (λ q at is. elim (so_far.keeps.held q id at is) [ inl none ↦ cc (some, none) | inr had ↦ cc (free, sym (ap u.names had.1) ∙ had.2) ]); stood = λ x had. more.stood x (so_far.files.stood x had) };
}

-- with other bytes of the file
with_bytes : {t : Elements} {mode : ℕ} {u w : View} (bytes : List ℕ) → Stages t (objects.File mode []) u w → Stages t (objects.File mode bytes) u w
with_bytes bytes s = record { keeps = s.keeps; files = s.files }

writing : {a b c : Option Moments} {t : Elements} {mode : ℕ} (bytes : List ℕ) → IsTold a → Always (Stages t (objects.File mode [])) a b → AtEnd (WasStaged t (objects.File mode [])) a b → IsTold b → Frame Nothing NoName (Only t) b c → Always (Stages t (objects.File mode bytes)) a c
writing {t = t} {mode = mode} bytes told first known between frame =
    goes_on between (goes_known (begins told first (λ u w tree s. with_bytes bytes s) (λ u w tree s e. s)) known) frame.goes (λ u v w tree s q more. stages_piece bytes q.0 q.1.free more) (λ u v w tree s q more end. stages_piece bytes q.0 q.1.free more)

-- ---- faults

pub named_of : (d : List ℕ) (object : Object) → object_fault d kinds.File (Some object) ≡ None → name_fault d kinds.File (Some object) ≡ None
named_of d object good = first_none (name_fault d kinds.File (Some object)) (dir_mode_fault kinds.File (Some object)) good

-- ---- the remote's file

pub held_bytes : (h : Held) (mode : ℕ) (bytes : List ℕ) → object_at kinds.File (as_spot h) ≡ Some (objects.File mode bytes) → bytes_of h ≡ bytes
held_bytes nothing mode bytes is = absurd (cc is)
held_bytes directory mode bytes is = absurd (cc is)
held_bytes (contents m b) mode bytes is = cc is
held_bytes (target text) mode bytes is = absurd (go (is_link_text text) is)
  where
    go : (b : Bool) → (if b then Some (objects.Link text) else None) ≡ Some (objects.File mode bytes) → ⊥
    go true e = cc e
    go false e = cc e

module _ {t p : Elements} {url d got : List ℕ} {holds : Option Holdings} {mode size : ℕ} {a c : Option Moments} (at : p ≡ object_path [] d kinds.File) (limits : IsWithinLimits mode size) (has : RemoteHasFile url holds d mode size)
    (copied : IsCopiedAnew t p url holds mode size a c got) where
  copied_there : (held : Holdings) → holds ≡ Some held → remote_at held url d kinds.File ≡ Some (objects.File mode copied.bytes)
  copied_there held is =
      let file = has.is held is in
      let h = held url (object_path [] d kinds.File) in
      let same : bytes_of h ≡ file.bytes = held_bytes h mode file.bytes file.is in
      let here : bytes_of (held url p) ≡ bytes_of h = ap (λ (q : Elements). bytes_of (held url q)) at in
      let long : length (bytes_of (held url p)) ≡ size = ap length (here ∙ same) ∙ sym file.long in
      file.is ∙ ap (λ (l : List ℕ). Some (objects.File mode l)) (sym (copied.whole held is long ∙ here ∙ same))

  copied_good : got ≡ d → object_fault d kinds.File (Some (objects.File mode copied.bytes)) ≡ None
  copied_good same = file_good d mode size copied.bytes copied.short limits got copied.digest_is same

  copied_bad : (end : WalkEnd) → RefusesBy (IsCorruptAs d got) end → RefusesFile d (Some (objects.File mode copied.bytes)) end
  copied_bad (ends.Refused w) bad = file_corrupt d mode size copied.bytes copied.short limits got (ends.Refused w) copied.digest_is bad.off (ap (λ (x : WalkFault). ends.Refused x) bad.is)
  copied_bad ends.HostFault bad = tt
  copied_bad ends.RemoteFault bad = tt
  copied_bad ends.NoMemory bad = tt

  pub copied_judged : (r : Result (Unit {0}) WalkEnd) → EndsBy (λ _. got ≡ d) (IsCorruptAs d got) r → (held : Holdings) → holds ≡ Some held → JudgesRemote held url d r
  copied_judged (Ok u) same held is = ap (object_fault d kinds.File) (copied_there held is) ∙ copied_good same
  copied_judged (Err end) bad held is = subst (λ (o : Option Object). RefusesFile d o end) (sym (copied_there held is)) (copied_bad end bad)

  pub copied_brought : (r : Result (Unit {0}) WalkEnd) → EndsBy (λ _. got ≡ d) (IsCorruptAs d got) r → OnOk r (IsBrought t url holds d a c)
  copied_brought (Ok u) same = record {
    object = objects.File mode copied.bytes;
    named = named_of d (objects.File mode copied.bytes) (copied_good same);
    there = record { is = λ held is. copied_there held is };
    stages = copied.stages;
    staged = copied.staged;
  }
  copied_brought (Err end) bad = tt

-- a file that is copied after it was made
pub copied_anew : {t : Elements} {mode : ℕ} {a b c : Option Moments} (p : Elements) (url : List ℕ) (holds : Option Holdings) (size : ℕ) (r : Result (List ℕ) WalkEnd) → IsTold a → IsTold b → Always (Stages t (objects.File mode [])) a b → AtEnd (WasStaged t (objects.File mode [])) a b
    → Frame Nothing NoName (Only t) b c → IfOk r (IsCopied t p url holds mode size b c) → IfOk r (IsCopiedAnew t p url holds mode size a c)
copied_anew p url holds size (Ok digest) told told' stages was frame copied = record {
  bytes = copied.bytes;
  short = copied.short;
  whole = copied.whole;
  stages = writing copied.bytes told stages was told' frame;
  staged = ends_on (ends_both copied.appended (ends_frame told' frame)) was told' (λ u v w tree q s. record { free = q.free; there = s.0.grown _ [] q.there; gathers = gathers_piece q.there q.gathers s.1 s.0.none });
  digest_is = copied.digest_is;
}
copied_anew p url holds size (Err end) told told' stages was frame copied = tt

-- at each moment of a copy
pub copy_comes : {t : Elements} {mode : ℕ} {a b c : Option Moments} → IsTold a → IsTold b → Always (Stages t (objects.File mode [])) a b → AtEnd (WasStaged t (objects.File mode [])) a b → Frame Nothing NoName (Only t) b c → Always (Comes t) a c
copy_comes told told' stages was frame = always_comes told (writing [] told stages was told' frame)

pub started_new : {t : Elements} {mode : ℕ} {u v : View} → WasStaged t (objects.File mode []) u v → IsNewFile t v
started_new {mode = mode} was = record { mode = mode; bytes = []; is = was.there }

pub can_start : {t : Elements} {mode size : ℕ} {u v : View} → IsWithinLimits mode size → v ≡ u → CanBring t u → CanStage t (objects.File mode []) v
can_start {t = t} {mode = mode} limits same can = subst (CanStage t (objects.File mode [])) (sym same) (record { keepable = limits.bits; free = can.free; folders = can.folders })

pub can_link : {t : Elements} {d text : List ℕ} {v : View} → IsGoodLink d text → CanBring t v → CanStage t (objects.Link text) v
can_link good can = record { keepable = good.may_be; free = can.free; folders = can.folders }

-- ---- the remote's link

pub link_brought : {t : Elements} {url d text : List ℕ} {holds : Option Holdings} {a b : Option Moments} → IsGoodLink d text → ((held : Holdings) → holds ≡ Some held → remote_at held url d kinds.File ≡ Some (objects.Link text))
    → Always (Stages t (objects.Link text)) a b → AtEnd (WasStaged t (objects.Link text)) a b → IsBrought t url holds d a b
link_brought {d = d} {text = text} good there stages staged = record {
  object = objects.Link text;
  named = named_of d (objects.Link text) good.good;
  there = record { is = λ held is. there held is };
  stages = stages;
  staged = staged;
}

-- ---- ends

-- the end of a `?` that stays what it is
pub same_end : {T U E : Type 0} (r : Result T E) (s : Result U E) (e x : E) → r ≡ Err e → IsErrAnd s (λ end. end ≡ e) → IsErrOf s x → IsErrOf r x
same_end {E = E} r s e x is err fault =
    let p = err_from_is_err_and s err in
    let q : p.0 ≡ x = cc (p.1, fault) in
    is ∙ ap (λ (y : E). Err y) (sym p.2 ∙ q)

-- where nothing was refused nothing is
pub unrefused : {T U : Type 0} (held : Holdings) (url d : List ℕ) (r : Result T WalkEnd) (s : Result U WalkEnd) (e : WalkEnd) → r ≡ Err e → IsErrAnd s (λ end. end ≡ e) → ((w : WalkFault) → IsErrOf r (ends.Refused w) → ⊥) → JudgesRemote held url d s
unrefused held url d r s e is err none =
    let p = err_from_is_err_and s err in
    subst (λ (x : _). JudgesRemote held url d x) (sym p.1) (by_end p.0 (is ∙ ap (λ (y : WalkEnd). Err y) (sym p.2)))
  where
    by_end : (end : WalkEnd) → r ≡ Err end → RefusesFile d (remote_at held url d kinds.File) end
    by_end (ends.Refused w) same = absurd (none w same)
    by_end ends.HostFault same = tt
    by_end ends.RemoteFault same = tt
    by_end ends.NoMemory same = tt
