-- What the calls of the host in memory ensure.
use Rattle.std.proofs.Common.{◌≡◌, ◌≢◌, ◌↔◌, inl, inr, ℕ, ◌-◌, ◌^◌, ◌<◌, ◌≤◌, ◌&&◌, List, [], ◌∷◌, ◌++◌, Bool, true, false, not, leb, Option, Some, None, Ok, Err, IsTrue, refl, sym, ◌∙◌, ap, subst, arith}
use Rattle.std.specs.Prelude.{Result, IsErrOf, IfSome}
use Rattle.std.specs.List.{list_all}
use Rattle.std.proofs.lemmas.Bool.{false≢true, le-leb, cond-true}
use Rattle.std.proofs.lemmas.List.{reverse-append, append-nil, append_assoc}
use Rattle.fp_host.specs.Paths.{Elements}
use Rattle.fp_host.specs.View.{View, IsTree}
use Rattle.fp_memhost.specs.Told.{law}
use Rattle.fp_host.specs.Calls.{Change, makes_dir, creates, appends, links, makes_link, renames, unlinks, removes_dir, syncs, says, Can, Step, StepOf, HalfDone, done}
use Rattle.fp_host.specs.Moments.{Moments, views, Makes, Rose, HasCause}
use Rattle.fp_host.specs.declared.host.HostError.{HostError}
use Rattle.fp_host.specs.declared.host.HostError.TheVariants.{Failed, Clash, NoMemory}
use Rattle.fp_host.proofs.Goes.{adds, adds_none}
use Rattle.fp_memhost.specs.declared.event.Event.{Event}
use Rattle.fp_memhost.specs.declared.event.Event.TheVariants.{MakeDir, Create, Append, Link, Symlink, Rename, Unlink, RemoveDir, Sync, Say}
use Rattle.fp_memhost.specs.declared.event.Noted.{Noted}
use Rattle.fp_memhost.specs.declared.mem.MemHost.{MemHost}
use Rattle.fp_memhost.specs.declared.scene.Scene.{Scene}
use Rattle.fp_memhost.specs.Images.{opened}
use Rattle.fp_memhost.specs.Scenes.{seen}
use Rattle.fp_memhost.specs.Replay.{change_of, is_sync, stepped, view_of, view_after, is_before, past_of, moments_of}
use Rattle.fp_memhost.specs.Story.{fails_at}
use Rattle.fp_memhost.specs.Plays.{bumped, done_by, Counts, Answers, Looked, IsStarved, Played}
use Rattle.fp_memhost.specs.Story.{FailsAs, Obeys, Ends, Records, AddsNone}
use Rattle.fp_memhost.specs.Stories.{told_of, story_of}
use Rattle.fp_memhost.specs.Made.{made_of, made_by}
use Rattle.fp_memhost.proofs.Logging.{after_old, after_all, all_more, all_later}

-- the event of a call
abbrev pub note_of : MemHost → Event → Noted
note_of old e = record { call = old.history.calls; is_done = done_by (fails_at old.failing.items old.history.calls) e; event = e }

-- the moments after a call
told_same : (old new : MemHost) → Counts old new → new.history.log.items ≡ old.history.log.items → told_of new ≡ told_of old
told_same old new counts log = λ i. moments_of (opened (counts.start i)) (log i)

told_more : (old new : MemHost) (e : Noted) → Counts old new → new.history.log.items ≡ old.history.log.items ++ e ∷ [] → told_of new ≡ record { now = stepped e (told_of old).now; past = views (told_of old) }
told_more old new e counts log =
    (λ i. moments_of (opened (counts.start i)) (log i))
    ∙ (λ i. record { now = view_of (opened old.history.start) (reverse-append old.history.log.items (e ∷ []) i); past = past_of (opened old.history.start) (reverse-append old.history.log.items (e ∷ []) i) })

pub goes_same : {S : View → View → Type 0} (old new : MemHost) → Counts old new → new.history.log.items ≡ old.history.log.items → S (told_of old).now (told_of old).now → Makes S (Some (told_of old)) (Some (told_of new))
goes_same {S = S} old new counts log s = subst (λ (m : Moments). Makes S (Some (told_of old)) (Some m)) (sym (told_same old new counts log)) (adds_none (told_of old) s)

pub goes_more : {S : View → View → Type 0} (old new : MemHost) (e : Noted) → Counts old new → new.history.log.items ≡ old.history.log.items ++ e ∷ [] → S (told_of old).now (stepped e (told_of old).now) → Makes S (Some (told_of old)) (Some (told_of new))
goes_more {S = S} old new e counts log s = subst (λ (m : Moments). Makes S (Some (told_of old)) (Some m)) (sym (told_more old new e counts log)) (adds (told_of old) (stepped e (told_of old).now) s)

-- how a call that is to fail leaves the view
module _ (n : ℕ) (v : View) where
  pub fails_as : (e : Event) (late : Bool) → Can (change_of e) v → FailsAs (change_of e) late v (stepped (record { call = n; is_done = late && not (is_sync e); event = e }) v)
  fails_as (MakeDir p) true can = inl (can, refl)
  fails_as (MakeDir p) false can = inl (can, refl)
  fails_as (Create p mode id) true can = inl (can, refl)
  fails_as (Create p mode id) false can = inl (can, refl)
  fails_as (Append p bytes) true can = inl (can, refl)
  fails_as (Append p bytes) false can = inl (can, refl)
  fails_as (Link from to) true can = inl (can, refl)
  fails_as (Link from to) false can = inl (can, refl)
  fails_as (Symlink text p) true can = inl (can, refl)
  fails_as (Symlink text p) false can = inl (can, refl)
  fails_as (Rename from to) true can = inl (can, refl)
  fails_as (Rename from to) false can = inl (can, refl)
  fails_as (Unlink p) true can = inl (can, refl)
  fails_as (Unlink p) false can = inl (can, refl)
  fails_as (RemoveDir p) true can = inl (can, refl)
  fails_as (RemoveDir p) false can = inl (can, refl)
  fails_as Sync true can = refl
  fails_as Sync false can = refl
  fails_as (Say piece) true can = inl (can, refl)
  fails_as (Say piece) false can = inl (can, refl)

  pub half_done : (e : Event) (late : Bool) → Can (change_of e) v → HalfDone (change_of e) v (stepped (record { call = n; is_done = late && not (is_sync e); event = e }) v)
  half_done (MakeDir p) true can = (can, inr refl)
  half_done (MakeDir p) false can = (can, inl refl)
  half_done (Create p mode id) true can = (can, inr refl)
  half_done (Create p mode id) false can = (can, inl refl)
  half_done (Append p bytes) true can = (can, inr refl)
  half_done (Append p bytes) false can = (can, inl refl)
  half_done (Link from to) true can = (can, inr refl)
  half_done (Link from to) false can = (can, inl refl)
  half_done (Symlink text p) true can = (can, inr refl)
  half_done (Symlink text p) false can = (can, inl refl)
  half_done (Rename from to) true can = (can, inr refl)
  half_done (Rename from to) false can = (can, inl refl)
  half_done (Unlink p) true can = (can, inr refl)
  half_done (Unlink p) false can = (can, inl refl)
  half_done (RemoveDir p) true can = (can, inr refl)
  half_done (RemoveDir p) false can = (can, inl refl)
  half_done Sync true can = refl
  half_done Sync false can = refl
  half_done (Say piece) true can = (can, inr refl)
  half_done (Say piece) false can = (can, inl refl)

-- a call that fails for its condition changes nothing
fails_still : (change : Change) (late : Bool) (v : View) → (Can change v → ⊥) → FailsAs change late v v
fails_still (makes_dir p) late v bad = inr (bad, refl)
fails_still (creates p mode id) late v bad = inr (bad, refl)
fails_still (appends p bytes) late v bad = inr (bad, refl)
fails_still (links from to) late v bad = inr (bad, refl)
fails_still (makes_link text p) late v bad = inr (bad, refl)
fails_still (renames from to) late v bad = inr (bad, refl)
fails_still (unlinks p) late v bad = inr (bad, refl)
fails_still (removes_dir p) late v bad = inr (bad, refl)
fails_still syncs late v bad = refl
fails_still (says piece) late v bad = inr (bad, refl)

-- one call, as it may end
step_refused : (change : Change) (o : Option Bool) (r : Result (Unit {0}) HostError) (f g : ℕ) (v : View) → Answers o (Err Clash) r f g → (Can change v → ⊥) → Step change r v v
step_refused change None r f g v a bad = record { how = subst (λ (x : Result (Unit {0}) HostError). StepOf change x v v) (sym a.0) (bad, refl) }
step_refused change (Some late) r f g v a bad = record { how = subst (λ (x : Result (Unit {0}) HostError). StepOf change x v v) (sym a.0) (inl refl) }

step_failed : (change : Change) (r : Result (Unit {0}) HostError) (v : View) → r ≡ Err Failed → Step change r v v
step_failed change r v is = record { how = subst (λ (x : Result (Unit {0}) HostError). StepOf change x v v) (sym is) (inl refl) }

step_noted : (e : Event) (n : ℕ) (o : Option Bool) (r : Result (Unit {0}) HostError) (f g : ℕ) (v : View) → Answers o (Ok tt) r f g → Can (change_of e) v → Step (change_of e) r v (stepped (record { call = n; is_done = done_by o e; event = e }) v)
step_noted e n None r f g v a can = record { how = subst (λ (x : Result (Unit {0}) HostError). StepOf (change_of e) x v (done (change_of e) v)) (sym a.0) (can, refl) }
step_noted e n (Some late) r f g v a can = let w = stepped (record { call = n; is_done = late && not (is_sync e); event = e }) v in record { how = subst (λ (x : Result (Unit {0}) HostError). StepOf (change_of e) x v w) (sym a.0) (inr (half_done n v e late can)) }

-- what a played call ensures, of any change that its event makes
module _ (old new : MemHost) (r : Result (Unit {0}) HostError) (change : Change) where
  pub step_of : (can : Bool) (event : Option Event) → Played can event old new r → (IsTrue can ↔ Can change (seen old.history.scene)) → IfSome event (λ e. change_of e ≡ change) → Makes (Step change r) (Some (told_of old)) (Some (told_of new))
  step_of false event played judged is =
      let looked = played.how in
      goes_same old new looked.counts looked.log (step_refused change (fails_at old.failing.items old.history.calls) r old.faults new.faults (told_of old).now looked.answers (λ c. false≢true (judged.1 (subst (Can change) (sym old.history.agrees) c))))
  step_of true None played judged is = let starved = played.how in goes_same old new starved.counts starved.log (step_failed change r (told_of old).now starved.failed)
  step_of true (Some e) played judged is = elim played.how [
    | inl starved ↦ goes_same old new starved.counts starved.log (step_failed change r (told_of old).now starved.failed)
    | inr noted ↦
        let can = subst (λ (c : Change). Can c (told_of old).now) (sym is) (subst (Can change) old.history.agrees (judged.0 refl)) in
        let w = stepped (note_of old e) (told_of old).now in
        goes_more old new (note_of old e) noted.counts noted.log (subst (λ (c : Change). Step c r (told_of old).now w) is (step_noted e old.history.calls (fails_at old.failing.items old.history.calls) r old.faults new.faults (told_of old).now noted.answers can))
  ]

rose_by : (a b : ℕ) → b ≡ bumped a → Rose a b
rose_by a b is = omega arith

-- the cause of an answer
cause_failed : {T : Type 0} (told : Option Moments) (a b : ℕ) (r : Result T HostError) → told ≢ None → b ≡ bumped a → a ≤ b → HasCause told a b r
cause_failed told a b r tells is le = record { later = le; failed = λ e. rose_by a b is; clash = λ none e. absurd (tells none) }

cause_other : {T : Type 0} (told : Option Moments) (a b : ℕ) (r : Result T HostError) → told ≢ None → b ≡ a → (IsErrOf r Failed → ⊥) → HasCause told a b r
cause_other told a b r tells is ne = record { later = omega arith; failed = λ e. absurd (ne e); clash = λ none e. absurd (tells none) }

pub cause_of : {T : Type 0} (old new : MemHost) (o : Option Bool) (answer r : Result T HostError) → Answers o answer r old.faults new.faults → (IsErrOf answer Failed → ⊥) → HasCause (Some (told_of old)) old.faults new.faults r
cause_of old new None answer r a ne = cause_other (Some (told_of old)) old.faults new.faults r (λ none. cc none) a.1 (λ e. ne (sym a.0 ∙ e))
cause_of old new (Some late) answer r a ne = cause_failed (Some (told_of old)) old.faults new.faults r (λ none. cc none) a.1 a.2

pub ok_no : {T : Type 0} (t : T) (r : Result T HostError) → r ≡ Ok t → r ≡ Err Failed → ⊥
ok_no t r is e = cc

pub clash_no : {T : Type 0} (r : Result T HostError) → r ≡ Err Clash → r ≡ Err Failed → ⊥
clash_no r is e = cc

pub cause_played : (old new : MemHost) (r : Result (Unit {0}) HostError) (can : Bool) (event : Option Event) → Played can event old new r → HasCause (Some (told_of old)) old.faults new.faults r
cause_played old new r false event played = cause_of old new _ (Err Clash) r played.how.answers (clash_no (Err Clash) refl)
cause_played old new r true None played = cause_failed (Some (told_of old)) old.faults new.faults r (λ none. cc none) played.how.faults played.how.later
cause_played old new r true (Some e) played = elim played.how [
  | inl starved ↦ cause_failed (Some (told_of old)) old.faults new.faults r (λ none. cc none) starved.faults starved.later
  | inr noted ↦ cause_of old new _ (Ok tt) r noted.answers (ok_no tt (Ok tt) refl)
]

-- it never wants memory
memory_of : {T : Type 0} (o : Option Bool) (answer r : Result T HostError) (f g : ℕ) → Answers o answer r f g → (answer ≡ Err NoMemory → ⊥) → r ≡ Err NoMemory → ⊥
memory_of None answer r f g a ne e = ne (sym a.0 ∙ e)
memory_of (Some late) answer r f g a ne e = cc (sym a.0 ∙ e)

pub memory_played : (old new : MemHost) (r : Result (Unit {0}) HostError) (can : Bool) (event : Option Event) → Played can event old new r → r ≡ Err NoMemory → ⊥
memory_played old new r false event played e = memory_of (fails_at old.failing.items old.history.calls) (Err Clash) r old.faults new.faults played.how.answers (λ x. cc x) e
memory_played old new r true None played e = cc (sym played.how.failed ∙ e)
memory_played old new r true (Some event) played e = elim played.how [
  | inl starved ↦ cc (sym starved.failed ∙ e)
  | inr noted ↦ memory_of (fails_at old.failing.items old.history.calls) (Ok tt) r old.faults new.faults noted.answers (λ x. cc x) e
]

-- what is kept of a call
pub now_same : (old new : MemHost) → Counts old new → new.history.log.items ≡ old.history.log.items → (told_of new).now ≡ (told_of old).now
now_same old new counts log = ap (λ (m : Moments). m.now) (told_same old new counts log)

pub now_after : (old new : MemHost) (e : Noted) → Counts old new → new.history.log.items ≡ old.history.log.items ++ e ∷ [] → (told_of new).now ≡ stepped e (told_of old).now
now_after old new e counts log = ap (λ (m : Moments). m.now) (told_more old new e counts log)

after_is : (m : MemHost) (n : ℕ) → n ≤ m.history.calls → (story_of m).after n ≡ Some (view_after (opened m.history.start) m.history.log.items n)
after_is m n le = cond-true (leb n m.history.calls) _ None (le-leb n m.history.calls le)

kept_by : (old new : MemHost) (n : ℕ) → Counts old new → n ≤ old.history.calls → view_after (opened new.history.start) new.history.log.items n ≡ view_after (opened old.history.start) old.history.log.items n → (story_of new).after n ≡ (story_of old).after n
kept_by old new n counts le same = after_is new n (omega (arith, counts.later)) ∙ ap (λ (x : View). Some x) same ∙ sym (after_is old n le)

kept_same : (old new : MemHost) (n : ℕ) → Counts old new → new.history.log.items ≡ old.history.log.items → n ≤ old.history.calls → (story_of new).after n ≡ (story_of old).after n
kept_same old new n counts log le = kept_by old new n counts le (λ i. view_after (opened (counts.start i)) (log i) n)

pub kept_more : (old new : MemHost) (e : Noted) (n : ℕ) → Counts old new → new.history.log.items ≡ old.history.log.items ++ e ∷ [] → e.call ≡ old.history.calls → n ≤ old.history.calls → (story_of new).after n ≡ (story_of old).after n
kept_more old new e n counts log number le = kept_by old new n counts le ((λ i. view_after (opened (counts.start i)) (log i) n) ∙ after_old (opened old.history.start) old.history.log.items e n (omega arith))

pub last_by : (old new : MemHost) → list_all (is_before new.history.calls) new.history.log.items ≡ true → (story_of new).after new.history.calls ≡ Some (told_of new).now
last_by old new all = after_is new new.history.calls (omega arith) ∙ ap (λ (x : View). Some x) (after_all (opened new.history.start) new.history.log.items new.history.calls all)

all_same : (old new : MemHost) → Counts old new → new.history.log.items ≡ old.history.log.items → old.history.calls < 2 ^ 64 - 1 → list_all (is_before new.history.calls) new.history.log.items ≡ true
all_same old new counts log low = subst (λ (l : List Noted). list_all (is_before new.history.calls) l ≡ true) (sym log) (all_later old.history.log.items old.history.calls new.history.calls counts.later (old.history.numbered.below low))

pub all_noted : (old new : MemHost) (e : Noted) → Counts old new → new.history.log.items ≡ old.history.log.items ++ e ∷ [] → e.call ≡ old.history.calls → old.history.calls < 2 ^ 64 - 1 → list_all (is_before new.history.calls) new.history.log.items ≡ true
all_noted old new e counts log number low =
    subst (λ (l : List Noted). list_all (is_before new.history.calls) l ≡ true) (sym log)
    (all_more old.history.log.items e new.history.calls (all_later old.history.log.items old.history.calls new.history.calls counts.later (old.history.numbered.below low)) (omega (arith, counts.calls)))

pub made-append : (log : List Noted) (e : Noted) → made_of (log ++ e ∷ []) ≡ made_of log ++ made_by e.event
made-append [] e = append-nil (made_by e.event)
made-append (x ∷ log) e = ap (λ (l : List (Elements × ℕ)). made_by x.event ++ l) (made-append log e) ∙ sym (append_assoc (made_by x.event) (made_of log) (made_by e.event))

-- whether a change creates a file
abbrev pub is_creation : Change → Bool
is_creation (creates p mode id) = true
is_creation (makes_dir p) = false
is_creation (appends p bytes) = false
is_creation (links from to) = false
is_creation (makes_link text p) = false
is_creation (renames from to) = false
is_creation (unlinks p) = false
is_creation (removes_dir p) = false
is_creation syncs = false
is_creation (says piece) = false

made_nothing : (e : Event) → is_creation (change_of e) ≡ false → made_by e ≡ []
made_nothing (Create p mode id) no' = absurd (false≢true (sym no'))
made_nothing (MakeDir p) no' = refl
made_nothing (Append p bytes) no' = refl
made_nothing (Link from to) no' = refl
made_nothing (Symlink text p) no' = refl
made_nothing (Rename from to) no' = refl
made_nothing (Unlink p) no' = refl
made_nothing (RemoveDir p) no' = refl
made_nothing Sync no' = refl
made_nothing (Say piece) no' = refl

-- a call that changes nothing
module _ {T : Type 0} (fails : Bool → View → View → Type 0) (old new : MemHost) (r : Result T HostError) (counts : Counts old new) (log : new.history.log.items ≡ old.history.log.items) where
  pub records_same : Ends fails (story_of old) (story_of new) r (told_of old).now (told_of old).now → Records fails AddsNone (story_of old) (story_of new) (told_of old) (told_of new) r
  records_same ends = record {
    calls = counts.calls;
    kept = λ n le. kept_same old new n counts log le;
    listed = λ n. ap (λ l. fails_at l n) counts.failing;
    last = λ low. last_by old new (all_same old new counts log low);
    ends = subst (Ends fails (story_of old) (story_of new) r (told_of old).now) (sym (now_same old new counts log)) ends;
    made = ap made_of log;
  }

obeys_look : {T : Type 0} (fails : Bool → View → View → Type 0) (o : Option Bool) (answer r : Result T HostError) (f g : ℕ) (v : View) → Answers o answer r f g → (answer ≡ Err Failed → ⊥) → ((late : Bool) → fails late v v) → Obeys o fails r v v
obeys_look fails None answer r f g v a ne still = λ e. ne (sym a.0 ∙ e)
obeys_look fails (Some late) answer r f g v a ne still = (a.0, still late)

pub records_looked : {T : Type 0} (fails : Bool → View → View → Type 0) (old new : MemHost) (answer r : Result T HostError) → Looked answer old new r → (answer ≡ Err Failed → ⊥) → ((late : Bool) → fails late (told_of old).now (told_of old).now) → Records fails AddsNone (story_of old) (story_of new) (told_of old) (told_of new) r
records_looked fails old new answer r looked ne still =
    records_same fails old new r looked.counts looked.log (inl (obeys_look fails (fails_at old.failing.items old.history.calls) answer r old.faults new.faults (told_of old).now looked.answers ne still, looked.starved))

pub records_starved : (fails : Bool → View → View → Type 0) (old new : MemHost) (r : Result (Unit {0}) HostError) → IsStarved old new r → Records fails AddsNone (story_of old) (story_of new) (told_of old) (told_of new) r
records_starved fails old new r starved = records_same fails old new r starved.counts starved.log (inr (starved.failed, refl, starved.starved))

pub obeys_noted : (e : Event) (n : ℕ) (o : Option Bool) (r : Result (Unit {0}) HostError) (f g : ℕ) (v : View) → Answers o (Ok tt) r f g → Can (change_of e) v → Obeys o (FailsAs (change_of e)) r v (stepped (record { call = n; is_done = done_by o e; event = e }) v)
obeys_noted e n None r f g v a can = λ is. ok_no tt r a.0 is
obeys_noted e n (Some late) r f g v a can = (a.0, fails_as n v e late can)

-- what a played call records, of any change that its event makes and that creates no file
pub records_of : (old new : MemHost) (r : Result (Unit {0}) HostError) (change : Change) → is_creation change ≡ false → (can : Bool) (event : Option Event) → Played can event old new r → (IsTrue can ↔ Can change (seen old.history.scene)) → IfSome event (λ e. change_of e ≡ change) → Records (FailsAs change) AddsNone (story_of old) (story_of new) (told_of old) (told_of new) r
records_of old new r change plain false event played judged is =
    records_looked (FailsAs change) old new (Err Clash) r played.how (clash_no (Err Clash) refl) (λ late. fails_still change late (told_of old).now (λ c. false≢true (judged.1 (subst (Can change) (sym old.history.agrees) c))))
records_of old new r change plain true None played judged is = records_starved (FailsAs change) old new r played.how
records_of old new r change plain true (Some e) played judged is = elim played.how [
  | inl starved ↦ records_starved (FailsAs change) old new r starved
  | inr noted ↦
      let v = (told_of old).now in
      let o = fails_at old.failing.items old.history.calls in
      let can = subst (λ (c : Change). Can c v) (sym is) (subst (Can change) old.history.agrees (judged.0 refl)) in
      let now = now_after old new (note_of old e) noted.counts noted.log in
      let obeys = subst (λ (c : Change). Obeys o (FailsAs c) r v (stepped (note_of old e) v)) is (obeys_noted e old.history.calls o r old.faults new.faults v noted.answers can) in
      record {
        calls = noted.counts.calls;
        kept = λ n le. kept_more old new (note_of old e) n noted.counts noted.log refl le;
        listed = λ n. ap (λ l. fails_at l n) noted.counts.failing;
        last = λ low. last_by old new (all_noted old new (note_of old e) noted.counts noted.log refl low);
        ends = inl (subst (Obeys o (FailsAs change) r v) (sym now) obeys, noted.starved);
        made = ap made_of noted.log ∙ made-append old.history.log.items (note_of old e) ∙ ap (λ (l : List (Elements × ℕ)). made_of old.history.log.items ++ l) (made_nothing e (ap is_creation is ∙ plain)) ∙ append-nil (made_of old.history.log.items);
      }
]

-- a call that reads
looked_by : {T : Type 0} (R : Result T HostError → Type 0) (o : Option Bool) (answer r : Result T HostError) (f g : ℕ) → Answers o answer r f g → R answer → R (Err Failed) → R r
looked_by R None answer r f g a told failed = subst R (sym a.0) told
looked_by R (Some late) answer r f g a told failed = subst R (sym a.0) failed

pub looked_either : {T : Type 0} (R : Result T HostError → Type 0) (old new : MemHost) (answer r : Result T HostError) → Looked answer old new r → R answer → R (Err Failed) → R r
looked_either R old new answer r looked told failed = looked_by R (fails_at old.failing.items old.history.calls) answer r old.faults new.faults looked.answers told failed

pub reads_go : {T : Type 0} (S : Result T HostError → View → View → Type 0) (old new : MemHost) (answer r : Result T HostError) → Looked answer old new r → S answer (seen old.history.scene) (seen old.history.scene)
    → S (Err Failed) (seen old.history.scene) (seen old.history.scene) → Makes (S r) (Some (told_of old)) (Some (told_of new))
reads_go S old new answer r looked told failed =
    goes_same old new looked.counts looked.log (subst (λ (v : View). S r v v) old.history.agrees (looked_either (λ x. S x (seen old.history.scene) (seen old.history.scene)) old new answer r looked told failed))

pub cause_looked : {T : Type 0} (old new : MemHost) (answer r : Result T HostError) → Looked answer old new r → (answer ≡ Err Failed → ⊥) → HasCause (Some (told_of old)) old.faults new.faults r
cause_looked old new answer r looked ne = cause_of old new (fails_at old.failing.items old.history.calls) answer r looked.answers ne

pub memory_looked : {T : Type 0} (old new : MemHost) (answer r : Result T HostError) → Looked answer old new r → (answer ≡ Err NoMemory → ⊥) → r ≡ Err NoMemory → ⊥
memory_looked old new answer r looked ne e = memory_of (fails_at old.failing.items old.history.calls) answer r old.faults new.faults looked.answers ne e

-- the present view is a tree
pub scene_tree : (m : MemHost) → IsTree (seen m.history.scene)
scene_tree m = subst IsTree (sym m.history.agrees) (law m (told_of m) refl)

-- a condition that was judged on the present scene
pub judged : (P : Scene → Type 0) (s t : Scene) (can : Bool) → s ≡ t → (IsTrue can ↔ P s) → IsTrue can ↔ P t
judged P s t can same tells = subst (λ (x : Scene). IsTrue can ↔ P x) same tells

-- what is known of the view before serves the call
pub makes_known : {a b : Option Moments} {P : View → Type 0} {S T : View → View → Type 0} → ((m : Moments) → a ≡ Some m → P m.now) → Makes S a b → ((u w : View) → P u → S u w → T u w) → Makes T a b
makes_known known call step = record {
  untold = call.untold;
  told = λ m e. let one = call.told m e in (one.0, one.1, one.2, step m.now one.0.now (known m e) one.3);
}
