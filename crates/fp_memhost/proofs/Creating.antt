-- What `create` ensures, whose file has an id of the host's own choice.
use Rattle.std.proofs.Common.{◌≡◌, ◌↔◌, inl, inr, ℕ, List, [], ◌∷◌, ◌++◌, Bool, true, false, cond, Option, Some, None, Ok, Err, IsTrue, refl, sym, ◌∙◌, ap, subst}
use Rattle.std.specs.Prelude.{Result, IfSome}
use Rattle.std.proofs.lemmas.Bool.{false≢true}
use Rattle.fp_host.specs.Paths.{Elements}
use Rattle.fp_host.specs.View.{View}
use Rattle.fp_host.specs.Calls.{Change, creates, Can, CanCreate, StepOf, Creates, CreatesOf, done, half}
use Rattle.fp_host.specs.Moments.{Moments, Makes}
use Rattle.fp_host.specs.declared.host.HostError.{HostError}
use Rattle.fp_host.specs.declared.host.HostError.TheVariants.{Failed, Clash, NoMemory}
use Rattle.fp_host.proofs.Separate.{file_same}
use Rattle.fp_memhost.specs.declared.event.Event.{Event}
use Rattle.fp_memhost.specs.declared.event.Event.TheVariants.{MakeDir, Create, Append, Link, Symlink, Rename, Unlink, RemoveDir, Sync, Say}
use Rattle.fp_memhost.specs.declared.mem.MemHost.{MemHost}
use Rattle.fp_memhost.specs.Scenes.{seen}
use Rattle.fp_memhost.specs.Replay.{change_of, stepped}
use Rattle.fp_memhost.specs.Story.{fails_at}
use Rattle.fp_memhost.specs.Plays.{Played}
use Rattle.fp_memhost.specs.Story.{Story, FailsAs, FailsToCreate, Obeys, Records, AddsNone, AddsAt}
use Rattle.fp_memhost.specs.Stories.{told_of, story_of}
use Rattle.fp_memhost.specs.Made.{made_of, made_by}
use Rattle.fp_memhost.proofs.Calling.{makes_known, step_of, note_of, now_same, now_after, kept_more, last_by, all_noted, made-append, obeys_noted, records_looked, records_starved, clash_no}

creates_by : (p : Elements) (mode id : ℕ) (r : Result (Unit {0}) HostError) (v w : View) → v.files id ≡ None → StepOf (creates p mode id) r v w → CreatesOf p mode r v w
creates_by p mode id (Ok u) v w fresh how = (id, how)
creates_by p mode id (Err Failed) v w fresh how = (id, how)
creates_by p mode id (Err Clash) v w fresh how = (λ can. how.0 (can, fresh), how.1)
creates_by p mode id (Err NoMemory) v w fresh how = how

module _ (old new : MemHost) (r : Result (Unit {0}) HostError) (p : Elements) (mode id : ℕ) (fresh : (seen old.history.scene).files id ≡ None) where
  fresh_now : (told_of old).now.files id ≡ None
  fresh_now = ap (λ (v : View). v.files id) (sym old.history.agrees) ∙ fresh

  with_id : (can : Bool) → (IsTrue can ↔ CanCreate p mode (seen old.history.scene)) → IsTrue can ↔ Can (creates p mode id) (seen old.history.scene)
  with_id can tells = (λ t. (tells.0 t, fresh), λ c. tells.1 c.0)

  pub creates_go : (can : Bool) (event : Option Event) → Played can event old new r → (IsTrue can ↔ CanCreate p mode (seen old.history.scene)) → IfSome event (λ e. change_of e ≡ creates p mode id)
      → Makes (Creates p mode r) (Some (told_of old)) (Some (told_of new))
  creates_go can event played tells is =
      makes_known (λ (m : Moments) e. let same : told_of old ≡ m = cc e in subst (λ (k : Moments). k.now.files id ≡ None) same fresh_now) (step_of old new r (creates p mode id) can event played (with_id can tells) is)
      (λ u w known step. record { how = creates_by p mode id r u w known step.how })

made_one : (e : Event) (p : Elements) (mode id : ℕ) → change_of e ≡ creates p mode id → made_by e ≡ (p, id) ∷ []
made_one (Create q m i) p mode id is = let a : q ≡ p = cc is in let b : i ≡ id = cc is in (λ j. (a j, b j) ∷ [])
made_one (MakeDir q) p mode id is = absurd (cc is)
made_one (Append q bytes) p mode id is = absurd (cc is)
made_one (Link from to) p mode id is = absurd (cc is)
made_one (Symlink text q) p mode id is = absurd (cc is)
made_one (Rename from to) p mode id is = absurd (cc is)
made_one (Unlink q) p mode id is = absurd (cc is)
made_one (RemoveDir q) p mode id is = absurd (cc is)
made_one Sync p mode id is = absurd (cc is)
made_one (Say piece) p mode id is = absurd (cc is)

-- a file is there, empty, however the call ended
file_made : (p : Elements) (mode id : ℕ) (b : Bool) (v : View) → (cond b (done (creates p mode id) v) (half (creates p mode id) v)).files id ≡ Some (record { mode = mode; bytes = [] })
file_made p mode id true v = file_same v.files id (Some (record { mode = mode; bytes = [] })) id refl
file_made p mode id false v = file_same v.files id (Some (record { mode = mode; bytes = [] })) id refl

fails_create : (p : Elements) (mode id : ℕ) (o : Option Bool) (r : Result (Unit {0}) HostError) (v w : View) → Can (creates p mode id) v → Obeys o (FailsAs (creates p mode id)) r v w → Obeys o (FailsToCreate p mode) r v w
fails_create p mode id None r v w can obeys = obeys
fails_create p mode id (Some late) r v w can obeys = (obeys.0, elim obeys.1 [ inl done' ↦ inl (id, done'.0, done'.1) | inr bad ↦ absurd (bad.0 can) ])

-- with nothing created
to_create : {old new : Story} {before after : Moments} {r : Result (Unit {0}) HostError} (p : Elements) (mode : ℕ) → after.now ≡ before.now → Records (FailsToCreate p mode) AddsNone old new before after r → Records (FailsToCreate p mode) (AddsAt p mode) old new before after r
to_create p mode same records = record { calls = records.calls; kept = records.kept; listed = records.listed; last = records.last; ends = records.ends; made = inl (records.made, same) }

module _ (old new : MemHost) (r : Result (Unit {0}) HostError) (p : Elements) (mode id : ℕ) (fresh : (seen old.history.scene).files id ≡ None) where
  pub records_create : (can : Bool) (event : Option Event) → Played can event old new r → (IsTrue can ↔ CanCreate p mode (seen old.history.scene)) → IfSome event (λ e. change_of e ≡ creates p mode id)
      → Records (FailsToCreate p mode) (AddsAt p mode) (story_of old) (story_of new) (told_of old) (told_of new) r
  records_create false event played tells is =
      to_create p mode (now_same old new played.how.counts played.how.log)
      (records_looked (FailsToCreate p mode) old new (Err Clash) r played.how (clash_no (Err Clash) refl) (λ late. inr (λ c. false≢true (tells.1 (subst (CanCreate p mode) (sym old.history.agrees) c)), refl)))
  records_create true None played tells is = to_create p mode (now_same old new played.how.counts played.how.log) (records_starved (FailsToCreate p mode) old new r played.how)
  records_create true (Some e) played tells is = elim played.how [
    | inl starved ↦ to_create p mode (now_same old new starved.counts starved.log) (records_starved (FailsToCreate p mode) old new r starved)
    | inr noted ↦
        let v = (told_of old).now in
        let o = fails_at old.failing.items old.history.calls in
        let can = subst (Can (creates p mode id)) old.history.agrees (tells.0 refl, fresh) in
        let can_e = subst (λ (c : Change). Can c v) (sym is) can in
        let now = now_after old new (note_of old e) noted.counts noted.log in
        let obeys = subst (λ (c : Change). Obeys o (FailsAs c) r v (stepped (note_of old e) v)) is (obeys_noted e old.history.calls o r old.faults new.faults v noted.answers can_e) in
        let made = subst (λ (c : Change). (cond (note_of old e).is_done (done c v) (half c v)).files id ≡ Some (record { mode = mode; bytes = [] })) (sym is) (file_made p mode id (note_of old e).is_done v) in
        record {
          calls = noted.counts.calls;
          kept = λ n le. kept_more old new (note_of old e) n noted.counts noted.log refl le;
          listed = λ n. ap (λ l. fails_at l n) noted.counts.failing;
          last = λ low. last_by old new (all_noted old new (note_of old e) noted.counts noted.log refl low);
          ends = inl (subst (Obeys o (FailsToCreate p mode) r v) (sym now) (fails_create p mode id o r v (stepped (note_of old e) v) can obeys), noted.starved);
          made = inr (
            id,
            ap made_of noted.log ∙ made-append old.history.log.items (note_of old e) ∙ ap (λ (l : List (Elements × ℕ)). made_of old.history.log.items ++ l) (made_one e p mode id is),
            can.1,
            ap (λ (w : View). w.files id) now ∙ made,
          );
        }
  ]
