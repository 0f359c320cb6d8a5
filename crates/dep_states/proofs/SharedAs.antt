-- Files that are new and have bytes come to where they last.
use Rattle.std.proofs.Common.{◌≡◌, inl, inr, ℕ, List, [], Some, None, refl, sym, ◌∙◌, ap, subst, Contains}
use Rattle.fp_host.specs.Paths.{Elements, Slot, file}
use Rattle.fp_host.specs.View.{View, Inode}
use Rattle.fp_host.specs.Outcome.{Spot}
use Rattle.fp_host.specs.Frame.{Keeps, NoPath}
use Rattle.fp_host.proofs.Slots.{row_cases}
use Rattle.fp_small.specs.Files.{KeepsFiles, SameFiles, MakesFile}
use Rattle.fp_small.specs.Shares.{Shares}
use Rattle.dep_states.specs.Lasting.{Says, SharesAs}

-- where no file was made
pub shared_none : {L : Elements → Inode → Type 0} {u w : View} → ((id : ℕ) → u.files id ≡ None → w.files id ≡ None) → SharesAs L u w
shared_none none = record { each = λ id f new some. absurd (cc (none id new, some)) }

pub shared_refl : {L : Elements → Inode → Type 0} {v : View} → SharesAs L v v
shared_refl = shared_none (λ id none. none)

pub shared_start : {L : Elements → Inode → Type 0} {v w : View} → w ≡ v → SharesAs L v w
shared_start {L = L} {v = v} same = subst (SharesAs L v) (sym same) shared_refl

pub shared_same : {L : Elements → Inode → Type 0} {v w : View} → SameFiles v w → SharesAs L v w
shared_same same = shared_none (λ id none. same.rows id ∙ none)

-- a frame that gives bytes to no file
pub shared_empty : {L : Elements → Inode → Type 0} {G : Elements → Spot → Type 0} {W : Elements → Slot → Type 0} {v w : View} → Keeps G W NoPath v w → SharesAs L v w
shared_empty keeps = record { each = λ id f new some. inl (keeps.empty (λ q no. no) id f new some) }

-- one step after another, where the second leaves each file that was there as it was
pub shared_on : {L : Elements → Inode → Type 0} {u v w : View} → SharesAs L u v → SharesAs L v w → KeepsFiles v w → SharesAs L u w
shared_on {L = L} {v = v} {w = w} first second keeps = record {
  each = λ id f new some. elim (row_cases (v.files id)) [
    | inl none ↦ second.each id f none some
    | inr old ↦
        let same : Some old.0 ≡ Some f = sym (keeps.rows id old.0 old.1) ∙ some in
        let is : old.0 ≡ f = cc same in
        elim (first.each id old.0 new old.1) [
          | inl empty ↦ inl (ap (λ (g : Inode). g.bytes) (sym is) ∙ empty)
          | inr put ↦ inr (put.0, subst (L put.0) is put.1, keeps.stood (put.0, file id) put.2)
        ]
  ];
}

-- where more lasts
pub shared_to : {L M : Elements → Inode → Type 0} {u w : View} → ((q : Elements) (f : Inode) → L q f → M q f) → SharesAs L u w → SharesAs M u w
shared_to wider first = record { each = λ id f new some. elim (first.each id f new some) [ inl empty ↦ inl empty | inr put ↦ inr (put.0, wider put.0 f put.1, put.2) ] }

-- where each file may be at such names
pub shared_by : {L : Elements → Type 0} {M : Elements → Inode → Type 0} {u w : View} → ((q : Elements) (f : Inode) → L q → M q f) → Shares L u w → SharesAs M u w
shared_by wider first = record { each = λ id f new some. elim (first.each id f new some) [ inl empty ↦ inl empty | inr put ↦ inr (put.0, wider put.0 f put.1, put.2) ] }

-- the one file that was made was put there, with its bytes
pub shared_made : {L : Elements → Inode → Type 0} {p : Elements} {bytes : List ℕ} {u w : View} → ((f : Inode) → Says bytes f → L p f) → MakesFile p bytes u w → SharesAs L u w
shared_made {p = p} {w = w} at made = record {
  each = λ id f new some.
      let here : id ≡ made.id = made.only id f new some in
      let same : Some f ≡ Some _ = sym some ∙ ap w.files here ∙ made.row in
      inr (p, at f (cc same), subst (λ (i : ℕ). Contains w.stood (p, file i)) (sym here) made.stood);
}
