-- What is kept of a commit's file `metadata`.
use Rattle.std.proofs.Common.{◌≡◌, ◌≤◌, ◌<◌, ◌*◌, ℕ, List, length, Bool, true, false, leb, Option, Some, None, Result, Ok, Err, refl, sym, ◌∙◌, ap, subst, arith}
use Rattle.std.specs.Option.{option_or}
use Rattle.std.specs.Prelude.{if◌then◌else◌}
use Rattle.std.proofs.lemmas.Bool.{le-leb, lt-leb, leb-true}
use Rattle.fp_base.specs.declared.object.ObjKind.TheVariants as kinds
use Rattle.fp_base.specs.declared.what.What.TheVariants as whats
use Rattle.fp_host.specs.Paths.{Elements}
use Rattle.fp_host.specs.Moments.{Moments}
use Rattle.fp_host.specs.Outcome.{shows}
use Rattle.fp_host.specs.Remote.{Held, Holdings, bytes_of}
use Rattle.fp_keyfile.specs.KeyFile.{file_of}
use Rattle.fp_name.specs.Refs.{Ref}
use Rattle.fp_small.specs.declared.refusal.Refusal.{Refusal}
use Rattle.fp_small.specs.declared.refusal.Refusal.TheVariants as refusals
use Rattle.ost_model.specs.declared.object.Object.{Object}
use Rattle.ost_model.specs.declared.object.Object.TheVariants as objects
use Rattle.ost_model.specs.Contents.{file_digest}
use Rattle.ost_model.specs.Objects.{Have, object_at, object_fault, store}
use Rattle.ost_model.specs.Remotes.{Supplies, as_spot, remote_at}
use Rattle.ost_walk.specs.declared.ends.ObjectFault.TheVariants as faults
use Rattle.ost_walk.specs.declared.ends.WalkEnd.{WalkEnd}
use Rattle.ost_walk.specs.declared.ends.WalkEnd.TheVariants as ends
use Rattle.ost_walk.specs.Ends.{RefusesBy, IsFaultOf, refusal}
use Rattle.ost_walk.specs.declared.pull_end.PullEnd.{PullEnd}
use Rattle.ost_walk.specs.PullEnds.{Answers}
use Rattle.ost_head.specs.declared.head.Head.{Head}
use Rattle.ost_head.specs.declared.metadata.Kept.{Kept}
use Rattle.ost_head.specs.declared.metadata.Kept.TheVariants as kept
use Rattle.ost_head.specs.Contents.{IsWithinLimits, IsGoodLink, IsGoodThere, ChecksIfThere}
use Rattle.ost_head.specs.Heads.{with_content, unless_refused, lines_refused}
use Rattle.ost_head.specs.Kept.{kept_of, IsKept, Keeps}
use Rattle.ost_head.specs.Objects.{IsFaultThere}
use Rattle.ost_head.specs.Stored.{IsFileOf}
use Rattle.ost_head.proofs.Brought.{held_bytes}
use Rattle.ost_head.proofs.Checked.{RefusesFile, file_good, file_corrupt, stored_corrupt}

-- ---- a content by its length

of_length : (bytes : List ℕ) (b : Bool) → leb (length bytes) (1024 * 1024) ≡ b → kept_of (Some bytes) ≡ (if b then kept.Bytes bytes else kept.Longer (length bytes))
of_length bytes b is = ap (λ (x : Bool). if x then kept.Bytes bytes else kept.Longer (length bytes)) is

short_kept : (bytes : List ℕ) → length bytes ≤ 1024 * 1024 → kept.Bytes bytes ≡ kept_of (Some bytes)
short_kept bytes short = sym (of_length bytes true (le-leb (length bytes) (1024 * 1024) short))

long_kept : (bytes : List ℕ) (size : ℕ) → size ≡ length bytes → 1024 * 1024 < size → kept.Longer size ≡ kept_of (Some bytes)
long_kept bytes size long more = ap (λ (n : ℕ). kept.Longer n) long ∙ sym (of_length bytes false (lt-leb (length bytes) (1024 * 1024) (omega (arith, long, more))))

-- ---- a file that is there

module _ (d : List ℕ) (mode size : ℕ) (there : Option Object) (file : IsFileOf mode size there) (limits : IsWithinLimits mode size) where
  kept_there : (k : Kept) (got : List ℕ) → got ≡ file_digest mode file.bytes → got ≡ d → k ≡ kept_of (Some file.bytes) → IsKept d there k
  kept_there k got is same kept_is = record { object = objects.File mode file.bytes; is = file.is; good = file_good d mode size file.bytes (omega (arith, file.long)) limits got is same; kept_is = kept_is }

  taken : (bytes got : List ℕ) → size ≤ 1024 * 1024 → bytes ≡ file.bytes → got ≡ file_digest mode bytes → got ≡ d → IsKept d there (kept.Bytes bytes)
  taken bytes got short whole is same =
      let long : size ≡ length file.bytes = file.long in
      kept_there (kept.Bytes bytes) got (is ∙ ap (file_digest mode) whole) same
      (ap (λ (b : List ℕ). kept.Bytes b) whole ∙ short_kept file.bytes (omega (arith, short, long)))

  longer : (got : List ℕ) → 1024 * 1024 < size → got ≡ file_digest mode file.bytes → got ≡ d → IsKept d there (kept.Longer size)
  longer got more is same = kept_there (kept.Longer size) got is same (long_kept file.bytes size file.long more)

  other : (got : List ℕ) (end : WalkEnd) → got ≡ file_digest mode file.bytes → (got ≡ d → ⊥) → end ≡ refusal d kinds.File (faults.Corrupt got) → RefusesFile d there end
  other got end is off ended = subst (λ (o : Option Object). RefusesFile d o end) (sym file.is) (file_corrupt d mode size file.bytes (omega (arith, file.long)) limits got end is off ended)

-- ---- a file of the store

module _ (d : List ℕ) (mode size : ℕ) (there : Option Object) (file : IsFileOf mode size there) where
  pub stored_taken : (bytes got : List ℕ) → IsWithinLimits mode size → size ≤ 1024 * 1024 → bytes ≡ file.bytes → got ≡ file_digest mode bytes → got ≡ d → IsKept d there (kept.Bytes bytes)
  stored_taken bytes got limits = taken d mode size there file limits bytes got

  pub stored_other : (bytes got : List ℕ) (end : WalkEnd) → IsWithinLimits mode size → bytes ≡ file.bytes → got ≡ file_digest mode bytes → (got ≡ d → ⊥) → end ≡ refusal d kinds.File (faults.Corrupt got) → RefusesBy (IsFaultThere d kinds.File there) end
  stored_other bytes got end limits whole is off ended = stored_corrupt d mode size there file got end limits (is ∙ ap (file_digest mode) whole) off ended

  pub stored_longer : (b : Bool) → 1024 * 1024 < size → ChecksIfThere d there (Ok b) → IsKept d there (kept.Longer size)
  stored_longer false more none = absurd (cc (none, file.is))
  stored_longer true more good =
      let same : objects.File mode file.bytes ≡ good.object = cc (sym file.is ∙ good.is) in
      record { object = objects.File mode file.bytes; is = file.is; good = ap (λ (o : Object). object_fault d kinds.File (Some o)) same ∙ good.good; kept_is = long_kept file.bytes size file.long more }

-- ---- a link

pub link_kept : (d text : List ℕ) (there : Option Object) → IsGoodLink d text → there ≡ Some (objects.Link text) → IsKept d there kept.Nothing
link_kept d text there good is = record { object = objects.Link text; is = is; good = good.good; kept_is = refl }

pub text_kept : (d text : List ℕ) (b : Bool) → ChecksIfThere d (Some (objects.Link text)) (Ok b) → IsKept d (Some (objects.Link text)) kept.Nothing
text_kept d text false none = absurd (cc none)
text_kept d text true good =
    let same : objects.Link text ≡ good.object = cc good.is in
    record { object = objects.Link text; is = refl; good = ap (λ (o : Object). object_fault d kinds.File (Some o)) same ∙ good.good; kept_is = refl }

-- ---- a file of the remote

module _ (d : List ℕ) (mode size : ℕ) (h : Held) (file : IsFileOf mode size (object_at kinds.File (as_spot h))) (limits : IsWithinLimits mode size) where
  whole : bytes_of h ≡ file.bytes
  whole = held_bytes h mode file.bytes file.is

  sized : length (bytes_of h) ≡ size
  sized = ap length whole ∙ sym file.long

  pub remote_taken : (bytes got : List ℕ) → size ≤ 1024 * 1024 → (length (bytes_of h) ≡ size → bytes ≡ bytes_of h) → got ≡ file_digest mode bytes → got ≡ d → IsKept d (object_at kinds.File (as_spot h)) (kept.Bytes bytes)
  remote_taken bytes got short came = taken d mode size (object_at kinds.File (as_spot h)) file limits bytes got short (came sized ∙ whole)

  pub remote_other : (bytes got : List ℕ) (end : WalkEnd) → (length (bytes_of h) ≡ size → bytes ≡ bytes_of h) → got ≡ file_digest mode bytes → (got ≡ d → ⊥) → end ≡ refusal d kinds.File (faults.Corrupt got) → RefusesFile d (object_at kinds.File (as_spot h)) end
  remote_other bytes got end came is = other d mode size (object_at kinds.File (as_spot h)) file limits got end (is ∙ ap (file_digest mode) (came sized ∙ whole))

  pub remote_longer : (got : List ℕ) → 1024 * 1024 < size → (length (bytes_of h) ≡ size → got ≡ file_digest mode (bytes_of h)) → got ≡ d → IsKept d (object_at kinds.File (as_spot h)) (kept.Longer size)
  remote_longer got more is = longer d mode size (object_at kinds.File (as_spot h)) file limits got more (is sized ∙ ap (file_digest mode) whole)

  pub remote_off : (got : List ℕ) (end : WalkEnd) → (length (bytes_of h) ≡ size → got ≡ file_digest mode (bytes_of h)) → (got ≡ d → ⊥) → end ≡ refusal d kinds.File (faults.Corrupt got) → RefusesFile d (object_at kinds.File (as_spot h)) end
  remote_off got end is = other d mode size (object_at kinds.File (as_spot h)) file limits got end (is sized ∙ ap (file_digest mode) whole)

-- ---- the store's, else the remote's

module _ {root : Elements} {url : List ℕ} {told : Option Moments} {holds : Option Holdings} {have : Have} (d : List ℕ) (s : Supplies root (Some url) told holds have) where
  supplied : have d kinds.File ≡ option_or (store root (shows s.moments.now) d kinds.File) (remote_at s.held url d kinds.File)
  supplied = ap (λ (h : Have). h d kinds.File) s.is

  pub store_keeps : (k : Kept) → ((m : Moments) → told ≡ Some m → IsKept d (store root (shows m.now) d kinds.File) k) → IsKept d (have d kinds.File) k
  store_keeps k tells =
      let is = tells s.moments s.told_is in
      record { object = is.object; is = supplied ∙ ap (λ (o : Option Object). option_or o (remote_at s.held url d kinds.File)) is.is; good = is.good; kept_is = is.kept_is }

  pub remote_keeps : (r : Result Kept WalkEnd) → ((m : Moments) → told ≡ Some m → store root (shows m.now) d kinds.File ≡ None) → ((held : Holdings) → holds ≡ Some held → Keeps d (remote_at held url d kinds.File) r) → Keeps d (have d kinds.File) r
  remote_keeps r none tells =
      subst (λ (o : Option Object). Keeps d o r) (sym (supplied ∙ ap (λ (o : Option Object). option_or o (remote_at s.held url d kinds.File)) (none s.moments s.told_is))) (tells s.held s.holdings_are)

  pub store_refuses : (end : WalkEnd) → ((m : Moments) → told ≡ Some m → RefusesBy (IsFaultThere d kinds.File (store root (shows m.now) d kinds.File)) end) → RefusesFile d (have d kinds.File) end
  store_refuses (ends.Refused w) tells =
      let there = tells s.moments s.told_is in
      let same : have d kinds.File ≡ Some there.object = supplied ∙ ap (λ (o : Option Object). option_or o (remote_at s.held url d kinds.File)) there.is in
      subst (λ (o : Option Object). IsFaultOf d kinds.File (object_fault d kinds.File o) w) (sym same) there.fault
  store_refuses ends.HostFault tells = tt
  store_refuses ends.RemoteFault tells = tt
  store_refuses ends.NoMemory tells = tt

-- ---- the head

module _ (name : Ref) (commit : List ℕ) (time : ℕ) where
  -- the answer to a content by its length
  by_lines : (c : List ℕ) (b : Bool) → leb (length c) (1024 * 1024) ≡ b
      → with_content name commit time (Some c) ≡ unless_refused (if b then lines_refused name (file_of c) else Some (refusals.Limit whats.MetadataFile (length c))) (Ok (record { commit = commit; timestamp = time; metadata = c }))
  by_lines c b is = ap (λ (x : Bool). unless_refused {A = Head} (if x then lines_refused name (file_of c) else Some (refusals.Limit whats.MetadataFile (length c))) (Ok (record { commit = commit; timestamp = time; metadata = c }))) is

  pub lines_answer : (c : List ℕ) (f : Option Refusal) → length c ≤ 1024 * 1024 → f ≡ lines_refused name (file_of c) → with_content name commit time (Some c) ≡ unless_refused f (Ok (record { commit = commit; timestamp = time; metadata = c }))
  lines_answer c f short is = by_lines c true (le-leb (length c) (1024 * 1024) short) ∙ ap (λ (x : Option Refusal). unless_refused {A = Head} x (Ok (record { commit = commit; timestamp = time; metadata = c }))) (sym is)

  pub bytes_answer : (content : Option (List ℕ)) (bytes : List ℕ) (r : Result Head PullEnd) → kept.Bytes bytes ≡ kept_of content → (length bytes ≤ 1024 * 1024 → Answers r (with_content name commit time (Some bytes))) → Answers r (with_content name commit time content)
  bytes_answer None bytes r is answers = absurd (cc is)
  bytes_answer (Some c) bytes r is answers = by_length (leb (length c) (1024 * 1024)) refl
    where
      by_length : (b : Bool) → leb (length c) (1024 * 1024) ≡ b → Answers r (with_content name commit time (Some c))
      by_length false off = absurd (cc (is ∙ of_length c false off))
      by_length true on =
          let same : bytes ≡ c = cc (is ∙ of_length c true on) in
          subst (λ (x : List ℕ). Answers r (with_content name commit time (Some x))) same (answers (leb-true (length bytes) (1024 * 1024) (ap (λ (x : List ℕ). leb (length x) (1024 * 1024)) same ∙ on)))

  pub longer_answer : (content : Option (List ℕ)) (size : ℕ) → kept.Longer size ≡ kept_of content → with_content name commit time content ≡ Err (refusals.Limit whats.MetadataFile size)
  longer_answer None size is = absurd (cc is)
  longer_answer (Some c) size is = by_length (leb (length c) (1024 * 1024)) refl
    where
      by_length : (b : Bool) → leb (length c) (1024 * 1024) ≡ b → with_content name commit time (Some c) ≡ Err (refusals.Limit whats.MetadataFile size)
      by_length true on = absurd (cc (is ∙ of_length c true on))
      by_length false off =
          let same : size ≡ length c = cc (is ∙ of_length c false off) in
          by_lines c false off ∙ ap (λ (n : ℕ). Err (refusals.Limit whats.MetadataFile n)) (sym same)

  pub nothing_answer : (content : Option (List ℕ)) → kept.Nothing ≡ kept_of content → with_content name commit time content ≡ with_content name commit time None
  nothing_answer None is = refl
  nothing_answer (Some c) is = absurd (by_length (leb (length c) (1024 * 1024)) refl)
    where
      by_length : (b : Bool) → leb (length c) (1024 * 1024) ≡ b → ⊥
      by_length true on = cc (is ∙ of_length c true on)
      by_length false off = cc (is ∙ of_length c false off)
