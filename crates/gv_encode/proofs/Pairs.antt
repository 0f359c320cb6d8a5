-- The ends of a tuple's members, and what stands after them.
use Rattle.std.proofs.Common.{◌≡◌, ℕ, ◌+◌, ◌-◌, ◌≤◌, Bool, true, false, List, [], ◌∷◌, ◌++◌, length, reverse, Option, Some, None, Result, refl, sym, ap, ◌∙◌, subst, arith, append_assoc, append-nil, length-append, eqb}
use Rattle.std.proofs.lemmas.Bool.{eq-eqb, eqb-true}
use Rattle.gv_value.specs.declared.limits.TheConstants.{MOST_BYTES}
use Rattle.gv_value.specs.Bytes.{zeros}
use Rattle.gv_value.specs.Framing.{Part, ends, parts_of, is_none_left, put_offset, written, tuple_body, tuple_offsets}
use Rattle.gv_value.specs.Layout.{align_of, size_of, padding}
use Rattle.gv_value.specs.Plans.{plan_shapes}
use Rattle.gv_value.specs.Shape.{Shape, Shapes, no_shapes, shape}
use Rattle.gv_value.specs.Spelled.{two_shapes}
use Rattle.gv_value.specs.Spelling.{tuple_bytes, just_bytes}
use Rattle.gv_value.specs.declared.plan.Plan.{Plan}
use Rattle.gv_encode.specs.declared.error.EncodeError.{EncodeError}
use Rattle.gv_encode.specs.Encoded.{IsAdded, Fails, Adds, closing}
use Rattle.gv_encode.proofs.Closings.{tuple-closed}
use Rattle.gv_encode.proofs.Placed.{Placing, placing-none, placing-more, placing-fails, placing-ends, put-first}
use Rattle.gv_encode.proofs.Steps.{adds-then, adds-same, fails-front}

-- the end of every element is noted
pub push-noted : (noted : List ℕ) (x end : ℕ) (es : List ℕ) → x ≡ end → (noted ++ x ∷ []) ++ es ≡ noted ++ (end ∷ es)
push-noted noted x end es e = append_assoc noted (x ∷ []) es ∙ ap (λ (n : ℕ). noted ++ (n ∷ es)) e

-- the end of a member is noted if it is written
pub put-noted : (noted noted' : List ℕ) (t : Shape) (ts : Shapes) (last : Bool) (end : ℕ) (es : List ℕ) → noted' ≡ noted ++ put_offset (size_of t) last end [] → last ≡ is_none_left ts →
    noted' ++ written ts es ≡ noted ++ written (shape t ts) (end ∷ es)
put-noted noted noted' t ts last end es e l =
    ap (λ (xs : List ℕ). xs ++ written ts es) e ∙ append_assoc noted (put_offset (size_of t) last end []) (written ts es)
    ∙ ap (λ (xs : List ℕ). noted ++ xs) (put-first (size_of t) last end (written ts es)) ∙ ap (λ (b : Bool). noted ++ put_offset (size_of t) b end (written ts es)) l

-- nothing is noted of the last member
pub last-noted : (noted : List ℕ) (t : Shape) (end : ℕ) (es : List ℕ) → noted ++ [] ≡ noted ++ written (shape t no_shapes) (end ∷ es)
last-noted noted t end es = ap (λ (xs : List ℕ). noted ++ xs) (by (size_of t))
  where
    by : (o : Option ℕ) → [] ≡ put_offset o true end []
    by None = refl
    by (Some n) = refl

pub none-left : (ps : List Plan) (i n : ℕ) → i + length ps ≡ n → eqb i n ≡ is_none_left (plan_shapes ps)
none-left [] i n e = eq-eqb i n (omega (arith, e))
none-left (p ∷ ps) i n e = by (eqb i n) refl
  where
    by : (b : Bool) → eqb i n ≡ b → b ≡ false
    by false is = refl
    by true is = absurd (omega (arith, e, eqb-true i n is))

-- a tuple whose members are there, and what was added after them
pub closed : {X : Type 0} (r : Result X EncodeError) (before out after : List ℕ) (o : Option ℕ) (ts : Shapes) (children : List (List ℕ)) (noted : List ℕ) (used : ℕ) →
    IsAdded before out (tuple_body ts children) → noted ≡ written ts (ends [] (parts_of ts children)) → used ≡ length out - length before →
    Adds r out after (closing o used (reverse noted)) → Adds r before after (tuple_bytes o ts children)
closed r before out after o ts children noted used add is u closing-added =
    let body = tuple_body ts children in
    let used-is : used ≡ length body = omega (arith, ap length add.added, length-append before body) in
    let same : closing o used (reverse noted) ≡ closing o (length body) (tuple_offsets ts children) =
    ap (λ (n : ℕ). closing o n (reverse noted)) used-is ∙ ap (λ (xs : List ℕ). closing o (length body) (reverse xs)) is in
    adds-same r before after _ (tuple_bytes o ts children) (sym (tuple-closed o ts children))
    (adds-then r before out after body (closing o (length body) (tuple_offsets ts children)) add (adds-same r out after _ _ same closing-added))

pub closed-fails : (e : EncodeError) (before : List ℕ) (o : Option ℕ) (ts : Shapes) (children : List (List ℕ)) → Fails e before (tuple_body ts children) → Fails e before (tuple_bytes o ts children)
closed-fails e before o ts children f =
    subst (λ (xs : List ℕ). Fails e before xs) (sym (tuple-closed o ts children))
    (fails-front e before (tuple_body ts children) (closing o (length (tuple_body ts children)) (tuple_offsets ts children)) f)

pub just-fails : (e : EncodeError) (before : List ℕ) (o : Option ℕ) (child : List ℕ) → Fails e before child → Fails e before (just_bytes o child)
just-fails e before (Some size) child f = f
just-fails e before None child f = fails-front e before child (0 ∷ []) f

-- ---- a key and a value

abbrev pub entry_parts : Shape → Shape → List ℕ → List ℕ → List Part
entry_parts k v a b = (align_of k, a) ∷ (align_of v, b) ∷ []

abbrev pub entry_noted : Shape → Shape → List ℕ → List ℕ → List ℕ
entry_noted k v a b = written (two_shapes k v) (ends [] (entry_parts k v a b))

module _ (before : List ℕ) (k v : Shape) (a b : List ℕ) (short : length before ≤ MOST_BYTES) (used : ℕ) (none : used ≡ length before - length before) where
  pub key-fails : (e : EncodeError) (o : Option ℕ) → Fails e before (zeros (padding used (align_of k)) ++ a) → Fails e before (tuple_bytes o (two_shapes k v) (a ∷ b ∷ []))
  key-fails e o f =
      let parts = entry_parts k v a b in
      closed-fails e before o (two_shapes k v) (a ∷ b ∷ [])
      (placing-fails e before parts (entry_noted k v a b) before (align_of k) a ((align_of v, b) ∷ []) (written (two_shapes k v)) [] used (placing-none before parts (written (two_shapes k v)) short) none f)

  module _ (mid : List ℕ) (add : IsAdded before mid (zeros (padding used (align_of k)) ++ a)) (end : ℕ) (n : end ≡ length mid - length before) (noted : List ℕ) (is : noted ≡ put_offset (size_of k) false end []) where
    key-placed : Placing before (entry_parts k v a b) (entry_noted k v a b) mid ((align_of v, b) ∷ []) (written (shape v no_shapes)) noted
    key-placed =
        let parts = entry_parts k v a b in
        placing-more before parts (entry_noted k v a b) before (align_of k) a ((align_of v, b) ∷ []) (written (two_shapes k v)) [] mid (written (shape v no_shapes)) noted used end
        (placing-none before parts (written (two_shapes k v)) short) none n add (λ es. put-noted [] noted k (shape v no_shapes) false end es is refl)

    pub value-fails : (e : EncodeError) (o : Option ℕ) (here : ℕ) → here ≡ length mid - length before → Fails e mid (zeros (padding here (align_of v)) ++ b) → Fails e before (tuple_bytes o (two_shapes k v) (a ∷ b ∷ []))
    value-fails e o here h f =
        closed-fails e before o (two_shapes k v) (a ∷ b ∷ [])
        (placing-fails e before (entry_parts k v a b) (entry_noted k v a b) mid (align_of v) b [] (written (shape v no_shapes)) noted here key-placed h f)

    pub entry-closed : {X : Type 0} (r : Result X EncodeError) (out after : List ℕ) (o : Option ℕ) (here last whole : ℕ) → here ≡ length mid - length before → last ≡ length out - length before → whole ≡ length out - length before →
        IsAdded mid out (zeros (padding here (align_of v)) ++ b) → Adds r out after (closing o whole (reverse noted)) → Adds r before after (tuple_bytes o (two_shapes k v) (a ∷ b ∷ []))
    entry-closed r out after o here last whole h l w value closing-added =
        let parts = entry_parts k v a b in
        let placed = placing-more before parts (entry_noted k v a b) mid (align_of v) b [] (written (shape v no_shapes)) noted out (written no_shapes) noted here last
        key-placed h l value (λ es. last-noted noted v last es) in
        let ended = placing-ends before parts (entry_noted k v a b) out (written no_shapes) noted placed in
        closed r before out after o (two_shapes k v) (a ∷ b ∷ []) noted whole ended.is (sym (append-nil noted) ∙ ended.noted_is) w closing-added
