-- Files that are new and have bytes come to a name of a kind.
use Rattle.std.proofs.Common.{◌≡◌, ◌≢◌, inl, inr, ℕ, List, [], ◌∷◌, ◌++◌, Option, Some, None, refl, sym, ◌∙◌, ap, subst, Contains, arith}
use Rattle.std.proofs.lemmas.List.Elements.{Contains-push, Contains-push_cases, Contains-append_left}
use Rattle.fp_host.specs.Paths.{Elements, Slot, absent, file}
use Rattle.fp_host.specs.View.{View, Inode}
use Rattle.fp_host.specs.Outcome.{Spot}
use Rattle.fp_host.specs.Frame.{Keeps, NoPath, Only}
use Rattle.fp_host.specs.Calls.{CanCreate, creates, appends, renames, syncs, done, put, grow, grown}
use Rattle.fp_host.proofs.Separate.{set_same, set_other, file_same}
use Rattle.fp_host.proofs.Keep.{grow_stood}
use Rattle.fp_host.proofs.Slots.{row_cases}
use Rattle.fp_small.specs.Files.{KeepsFiles, SameFiles, MakesFile}
use Rattle.fp_small.specs.Unsynced.{MakesNoFile}
use Rattle.fp_small.specs.Shares.{Shares}
use Rattle.fp_small.proofs.Keeping.{made_moved}
use Rattle.fp_small.proofs.Bare.{file_made}

-- where no file was made
pub shares_none : {L : Elements → Type 0} {u w : View} → ((id : ℕ) → u.files id ≡ None → w.files id ≡ None) → Shares L u w
shares_none none = record { each = λ id f new some. absurd (cc (none id new, some)) }

pub shares_refl : {L : Elements → Type 0} {v : View} → Shares L v v
shares_refl = shares_none (λ id none. none)

pub shares_start : {L : Elements → Type 0} {v w : View} → w ≡ v → Shares L v w
shares_start {L = L} {v = v} same = subst (Shares L v) (sym same) shares_refl

pub shares_same : {L : Elements → Type 0} {v w : View} → SameFiles v w → Shares L v w
shares_same same = shares_none (λ id none. same.rows id ∙ none)

pub shares_unmade : {L : Elements → Type 0} {v w : View} → MakesNoFile v w → Shares L v w
shares_unmade made = shares_none made.none

-- a frame that gives bytes to no file
pub shares_empty : {L : Elements → Type 0} {G : Elements → Spot → Type 0} {W : Elements → Slot → Type 0} {v w : View} → Keeps G W NoPath v w → Shares L v w
shares_empty keeps = record { each = λ id f new some. inl (keeps.empty (λ q no. no) id f new some) }

-- one step after another, where the second gives bytes to no file that was there
pub shares_on : {L : Elements → Type 0} {u v w : View} → Shares L u v → Shares L v w → KeepsFiles v w → Shares L u w
shares_on {L = L} {v = v} {w = w} first second keeps = record {
  each = λ id f new some. elim (row_cases (v.files id)) [
    | inl none ↦ second.each id f none some
    | inr old ↦
        let same : Some old.0 ≡ Some f = sym (keeps.rows id old.0 old.1) ∙ some in
        let is : old.0 ≡ f = cc same in
        elim (first.each id old.0 new old.1) [
          | inl empty ↦ inl (ap (λ (g : Inode). g.bytes) (sym is) ∙ empty)
          | inr put ↦ inr (put.0, put.1, keeps.stood (put.0, file id) put.2)
        ]
  ];
}

-- names of a wider kind
pub shares_to : {L M : Elements → Type 0} {u w : View} → ((q : Elements) → L q → M q) → Shares L u w → Shares M u w
shares_to wider first = record { each = λ id f new some. elim (first.each id f new some) [ inl empty ↦ inl empty | inr put ↦ inr (put.0, wider put.0 put.1, put.2) ] }

-- the one file that was made was put there
pub shares_made : {L : Elements → Type 0} {p : Elements} {bytes : List ℕ} {u w : View} → L p → MakesFile p bytes u w → Shares L u w
shares_made {p = p} {w = w} at made = record { each = λ id f new some. inr (p, at, subst (λ (i : ℕ). Contains w.stood (p, file i)) (sym (made.only id f new some)) made.stood) }

-- ---- a file that is created and written

none_in : (l : List (Elements × Slot)) (x : Elements × Slot) → l ≡ [] → Contains l x → ⊥
none_in l x is had = absurd (omega (arith, (subst (λ (k : List (Elements × Slot)). Contains k x) is had).1))

pub shares_renamed : (v : View) (p q : Elements) (bytes : List ℕ) (id : ℕ) → CanCreate p 420 v → v.files id ≡ None → p ≢ q
    → Shares (Only q) v (done (renames p q) (done syncs (done (appends p bytes) (done (creates p 420 id) v))))
shares_renamed v p q bytes id can free apart =
    let s = done syncs (done (appends p bytes) (done (creates p 420 id) v)) in
    let stays : (x : Elements × Slot) → Contains s.stood x → Contains (done (renames p q) s).stood x =
    λ x had. Contains-append_left (s.stood ++ (q, s.names p) ∷ []) ((p, absent) ∷ []) x (Contains-append_left s.stood ((q, s.names p) ∷ []) x had) in
    let moved : (done (renames p q) s).names q ≡ s.names p = set_other (put q (s.names p) s).names p absent q (λ e. apart (sym e)) ∙ set_same s.names q (s.names p) q refl in
    let told : Contains (done (renames p q) s).stood (q, s.names p) = Contains-append_left (s.stood ++ (q, s.names p) ∷ []) ((p, absent) ∷ []) (q, s.names p) (Contains-push s.stood (q, s.names p)) in
    shares_made refl (made_moved (file_made v p bytes id can free) moved told (record { rows = λ i. refl; stood = stays }))

pub shares_left : (v : View) (p q : Elements) (bytes : List ℕ) (id : ℕ) → CanCreate p 420 v → v.files id ≡ None → v.stood ≡ [] → p ≢ q
    → Shares (Only q) v (done (appends p bytes) (done (creates p 420 id) v)) → bytes ≡ []
shares_left v p q bytes id can free none apart shares =
    let made = done (creates p 420 id) v in
    let new : Inode = record { mode = 420; bytes = [] } in
    let row : made.files id ≡ Some new = file_same v.files id (Some new) id refl in
    let some : (grow (made.names p) bytes made).files id ≡ Some (record { mode = 420; bytes = bytes }) =
    ap (λ (e : Slot). (grow e bytes made).files id) (set_same v.names p (file id) p refl) ∙ file_same made.files id (grown (made.files id) bytes) id refl ∙ ap (λ (r : Option Inode). grown r bytes) row in
    elim (shares.each id (record { mode = 420; bytes = bytes }) free some) [
      | inl empty ↦ empty
      | inr told ↦
          let had : Contains (v.stood ++ (p, file id) ∷ []) (told.0, file id) = subst (λ (l : List (Elements × Slot)). Contains l (told.0, file id)) (grow_stood (made.names p) bytes made) told.2 in
          elim (Contains-push_cases v.stood (p, file id) (told.0, file id) had) [
            | inl old ↦ absurd (none_in v.stood (told.0, file id) none old)
            | inr is ↦ absurd (apart (ap (λ (x : Elements × Slot). x.0) is ∙ told.1))
          ]
    ]
