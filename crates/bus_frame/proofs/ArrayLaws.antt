-- A field array that is read is fields in a row; the first fault is the first.
use Rattle.std.proofs.Common.{◌≡◌, ℕ, zero, suc, ◌+◌, ◌-◌, ◌<◌, ◌≤◌, Bool, true, false, cond, eqb, List, [], ◌∷◌, ◌++◌, length, Option, Some, None, Result, Ok, Err, refl, sym, ap, subst, ◌∙◌, append_assoc, inl, inr, arith}
use Rattle.std.specs.Prelude.{◌⊎◌, ◌≢◌}
use Rattle.std.proofs.lemmas.Bool.{eqb-true, eqb-false, eq-eqb, ne_eqb, cases_Bool, false≢true}
use Rattle.std.proofs.lemmas.List.{length-append, append-nil, nil_from_length}
use Rattle.fp_base.specs.declared.frame_rule.FrameRule.{FrameRule}
use Rattle.fp_base.specs.declared.frame_rule.FrameRule.TheVariants.{Fields}
use Rattle.bus_frame.specs.Places.{Place}
use Rattle.bus_frame.specs.Fields.{Known, Field, or_rule, ◌>=>◌, field_at, add_field, fields_at}
use Rattle.bus_frame.specs.Writing.{zeros}
use Rattle.bus_frame.specs.Grammar.{IsField, AreFields}
use Rattle.bus_frame.specs.Frame.{field_fault, AreFine}
use Rattle.bus_frame.proofs.Taking.{place, Takes}
use Rattle.bus_frame.proofs.Spelled.{IsBytes, Takes-bytes}
use Rattle.bus_frame.proofs.FieldLaws.{field_takes, field_again}
use Rattle.bus_frame.proofs.KnownLaws.{Tied, Added, added}
use Rattle.bus_frame.proofs.ValueAgain.{at_yes, at_no}

-- all fields are fine
pub record AllFine (little : Bool) (before : List Field) (p : Place) (k : Known) : Type 0 where
  pub fields : List Field
  pub spelled : AreFields little p.at fields p.rest
  pub fine : AreFine before fields
  pub tied : Tied k (before ++ fields)

-- why reading stops after fine fields
abbrev pub Why : Bool → (before : List Field) → (at : ℕ) → List ℕ → FrameRule → Type 0
Why little before at y rule =
    ((y ≢ []) × ((f : Field) (u v : List ℕ) → y ≡ u ++ v → IsField little at f u → ⊥) × (rule ≡ Fields))
    ⊎ ((f : Field) × (u : List ℕ) × (v : List ℕ) × (y ≡ u ++ v) × IsField little at f u × (field_fault before f ≡ Some rule))

pub record Stops (little : Bool) (before : List Field) (p : Place) (rule : FrameRule) : Type 0 where
  pub fields : List Field
  pub front : List ℕ
  pub rest : List ℕ
  pub parts : p.rest ≡ front ++ rest
  pub spelled : AreFields little p.at fields front
  pub fine : AreFine before fields
  pub why : Why little (before ++ fields) (p.at + length front) rest rule

abbrev pub Outcome : Bool → List Field → Place → Result Known FrameRule → Type 0
Outcome little before p (Ok k) = AllFine little before p k
Outcome little before p (Err rule) = Stops little before p rule

field_some : (little : Bool) (at : ℕ) (f : Field) (x : List ℕ) → IsField little at f x → 0 < length x
field_some little at f x is =
    omega (arith, ap (λ (l : List ℕ). length l) is.spelled, length-append (zeros 8 at ++ f.code ∷ is.text) is.value, length-append (zeros 8 at) (f.code ∷ is.text))

ended : (little : Bool) (before : List Field) (p : Place) (k : Known) → length p.rest ≡ 0 → Tied k before → AllFine little before p k
ended little before p k len t = record {
  fields = [];
  spelled = nil_from_length p.rest len;
  fine = tt;
  tied = subst (λ (fs : List Field). Tied k fs) (sym (append-nil before)) t;
}

-- one field before others
more_fine : (little : Bool) (before : List Field) (p q : Place) (k : Known) (f : Field) (x : List ℕ) → Takes p x q → IsField little p.at f x → field_fault before f ≡ None → AllFine little (before ++ f ∷ []) q k → AllFine little before p k
more_fine little before p q k f x t is fine others = record {
  fields = f ∷ others.fields;
  spelled = (x, q.rest, t.parts, is, subst (λ (n : ℕ). AreFields little n others.fields q.rest) t.at others.spelled);
  fine = (fine, others.fine);
  tied = subst (λ (fs : List Field). Tied k fs) (append_assoc before (f ∷ []) others.fields) others.tied;
}

more_stops : (little : Bool) (before : List Field) (p q : Place) (rule : FrameRule) (f : Field) (x : List ℕ) → Takes p x q → IsField little p.at f x → field_fault before f ≡ None → Stops little (before ++ f ∷ []) q rule → Stops little before p rule
more_stops little before p q rule f x t is fine others = record {
  fields = f ∷ others.fields;
  front = x ++ others.front;
  rest = others.rest;
  parts = t.parts ∙ ap (λ (l : List ℕ). x ++ l) others.parts ∙ sym (append_assoc x others.front others.rest);
  spelled = (x, others.front, refl, is, subst (λ (n : ℕ). AreFields little n others.fields others.front) t.at others.spelled);
  fine = (fine, others.fine);
  why =
      subst (λ (n : ℕ). Why little (before ++ f ∷ others.fields) n others.rest rule) (omega (arith, t.at, length-append x others.front))
      (subst (λ (fs : List Field). Why little fs (q.at + length others.front) others.rest rule) (append_assoc before (f ∷ []) others.fields) others.why);
}

more : (little : Bool) (before : List Field) (p q : Place) (r : Result Known FrameRule) (f : Field) (x : List ℕ) → Takes p x q → IsField little p.at f x → field_fault before f ≡ None → Outcome little (before ++ f ∷ []) q r → Outcome little before p r
more little before p q (Ok k) f x t is fine o = more_fine little before p q k f x t is fine o
more little before p q (Err rule) f x t is fine o = more_stops little before p q rule f x t is fine o

-- what holds of shorter arrays
abbrev Shorter : Bool → ℕ → Type 0
Shorter little n = (k : Known) (before : List Field) (p : Place) → IsBytes p.rest → length p.rest ≤ n → Tied k before → Outcome little before p (fields_at little n k p)

stop_here : (little : Bool) (k : Known) (before : List Field) (p : Place) (rule : FrameRule) → Why little before p.at p.rest rule → Stops little before p rule
stop_here little k before p rule why = record {
  fields = [];
  front = [];
  rest = p.rest;
  parts = refl;
  spelled = refl;
  fine = tt;
  why =
      subst (λ (n : ℕ). Why little (before ++ []) n p.rest rule) (omega arith)
      (subst (λ (fs : List Field). Why little fs p.at p.rest rule) (sym (append-nil before)) why);
}

with_field : (little : Bool) (n : ℕ) (k : Known) (before : List Field) (p : Place) (f : Field) (q : Place) (x : List ℕ) → Shorter little n → IsBytes p.rest → length p.rest ≤ suc n → Takes p x q → IsField little p.at f x
    → (o : Option FrameRule) → field_fault before f ≡ o → Added k before f o → Outcome little before p (add_field k f >=> λ m. fields_at little n m q)
unfolding Added
with_field little n k before p f q x ih fits le t is None fault add =
    let fits_q = (Takes-bytes p q x fits t).1 in
    let some = field_some little p.at f x is in
    let less : length q.rest ≤ n = omega (arith, le, some, ap (λ (l : List ℕ). length l) t.parts, length-append x q.rest) in
    let o = ih add.0 (before ++ f ∷ []) q fits_q less add.2 in
    subst (λ (r : Result Known FrameRule). Outcome little before p (r >=> λ m. fields_at little n m q)) (sym add.1) (more little before p q (fields_at little n add.0 q) f x t is fault o)
with_field little n k before p f q x ih fits le t is (Some rule) fault add =
    subst (λ (r : Result Known FrameRule). Outcome little before p (r >=> λ m. fields_at little n m q)) (sym add)
    (stop_here little k before p rule (inr (f, x, q.rest, t.parts, is, fault)))

at_field : (little : Bool) (n : ℕ) (k : Known) (before : List Field) (p : Place) → Shorter little n → IsBytes p.rest → length p.rest ≤ suc n → Tied k before → eqb (length p.rest) 0 ≡ false
    → (o : Option (Field × Place)) → field_at little p ≡ o → Outcome little before p (or_rule Fields o >=> λ f. add_field k f.0 >=> λ m. fields_at little n m f.1)
at_field little n k before p ih fits le t some None e =
    let none = λ (f : Field) (u v : List ℕ) (parts : p.rest ≡ u ++ v) (is : IsField little p.at f u). no_some f (place (p.at + length u) v) (sym e ∙ field_again little p f u v parts is) in
    let some_left = λ (nothing : p.rest ≡ []). eqb-false (length p.rest) 0 some (ap (λ (l : List ℕ). length l) nothing) in
    stop_here little k before p Fields (inl (some_left, none, refl))
  where
    no_some : (f : Field) (q : Place) → ◌≡◌ {A = Option (Field × Place)} None (Some (f, q)) → ⊥
    no_some f q h = cc
at_field little n k before p ih fits le t some (Some r) e =
    let x = field_takes little p r.0 r.1 fits e in
    with_field little n k before p r.0 r.1 x.0 ih fits le x.1 x.2 (field_fault before r.0) refl (added k before r.0 t)

at_end : (little : Bool) (n : ℕ) (k : Known) (before : List Field) (p : Place) → Shorter little n → IsBytes p.rest → length p.rest ≤ suc n → Tied k before
    → (b : Bool) → eqb (length p.rest) 0 ≡ b → Outcome little before p (cond b (Ok k) (or_rule Fields (field_at little p) >=> λ f. add_field k f.0 >=> λ m. fields_at little n m f.1))
at_end little n k before p ih fits le t true e = ended little before p k (eqb-true _ _ e) t
at_end little n k before p ih fits le t false e = at_field little n k before p ih fits le t e (field_at little p) refl

pub fields_take : (little : Bool) (n : ℕ) → Shorter little n
unfolding fields_at
fields_take little zero k before p fits le t =
    let len : length p.rest ≡ 0 = omega (arith, le) in
    subst (λ (b : Bool). Outcome little before p (cond b (Ok k) (Err Fields))) (sym (eq-eqb (length p.rest) 0 len)) (ended little before p k len t)
fields_take little (suc n) k before p fits le t = at_end little n k before p (fields_take little n) fits le t (eqb (length p.rest) 0) refl

-- ---- fine fields are read

read_field : (little : Bool) (n : ℕ) (k more_known : Known) (p q : Place) (f : Field) → eqb (length p.rest) 0 ≡ false → field_at little p ≡ Some (f, q) → add_field k f ≡ Ok more_known → fields_at little (suc n) k p ≡ fields_at little n more_known q
unfolding fields_at
read_field little n k more_known p q f some read add =
    at_no (eqb (length p.rest) 0) (Ok k) (or_rule Fields (field_at little p) >=> λ r. add_field k r.0 >=> λ m. fields_at little n m r.1) some
    ∙ ap (λ (o : Option (Field × Place)). or_rule Fields o >=> λ r. add_field k r.0 >=> λ m. fields_at little n m r.1) read
    ∙ ap (λ (o : Result Known FrameRule). o >=> λ m. fields_at little n m q) add

break_field : (little : Bool) (n : ℕ) (k : Known) (p q : Place) (f : Field) (rule : FrameRule) → eqb (length p.rest) 0 ≡ false → field_at little p ≡ Some (f, q) → add_field k f ≡ Err rule → fields_at little (suc n) k p ≡ Err rule
unfolding fields_at
break_field little n k p q f rule some read add =
    at_no (eqb (length p.rest) 0) (Ok k) (or_rule Fields (field_at little p) >=> λ r. add_field k r.0 >=> λ m. fields_at little n m r.1) some
    ∙ ap (λ (o : Option (Field × Place)). or_rule Fields o >=> λ r. add_field k r.0 >=> λ m. fields_at little n m r.1) read
    ∙ ap (λ (o : Result Known FrameRule). o >=> λ m. fields_at little n m q) add

no_field : (little : Bool) (n : ℕ) (k : Known) (p : Place) → eqb (length p.rest) 0 ≡ false → field_at little p ≡ None → fields_at little n k p ≡ Err Fields
unfolding fields_at
no_field little zero k p some read = at_no (eqb (length p.rest) 0) (Ok k) (Err Fields) some
no_field little (suc n) k p some read =
    at_no (eqb (length p.rest) 0) (Ok k) (or_rule Fields (field_at little p) >=> λ r. add_field k r.0 >=> λ m. fields_at little n m r.1) some
    ∙ ap (λ (o : Option (Field × Place)). or_rule Fields o >=> λ r. add_field k r.0 >=> λ m. fields_at little n m r.1) read

done : (little : Bool) (n : ℕ) (k : Known) (p : Place) → p.rest ≡ [] → fields_at little n k p ≡ Ok k
unfolding fields_at
done little zero k p nothing = at_yes (eqb (length p.rest) 0) (Ok k) (Err Fields) (eq-eqb (length p.rest) 0 (ap (λ (l : List ℕ). length l) nothing))
done little (suc n) k p nothing = at_yes (eqb (length p.rest) 0) (Ok k) (or_rule Fields (field_at little p) >=> λ r. add_field k r.0 >=> λ m. fields_at little n m r.1) (eq-eqb (length p.rest) 0 (ap (λ (l : List ℕ). length l) nothing))

-- what comes of a field that is fine
fine_added : (k : Known) (before : List Field) (f : Field) → Tied k before → field_fault before f ≡ None → (m : Known) × (add_field k f ≡ Ok m) × Tied m (before ++ f ∷ [])
unfolding Added
fine_added k before f t fine = subst (λ (o : Option FrameRule). Added k before f o) fine (added k before f t)

broken_added : (k : Known) (before : List Field) (f : Field) (rule : FrameRule) → Tied k before → field_fault before f ≡ Some rule → add_field k f ≡ Err rule
unfolding Added
broken_added k before f rule t broken = subst (λ (o : Option FrameRule). Added k before f o) broken (added k before f t)

some_bytes : (x rest : List ℕ) (p : Place) → p.rest ≡ x ++ rest → 0 < length x → eqb (length p.rest) 0 ≡ false
some_bytes x rest p parts some = ne_eqb (length p.rest) 0 (λ e. omega (arith, ap (λ (l : List ℕ). length l) parts, length-append x rest))

-- fields at the front are read, and then the rest
pub fields_front : (little : Bool) (fs : List Field) (n : ℕ) (k : Known) (before : List Field) (p : Place) (x rest : List ℕ) → p.rest ≡ x ++ rest → AreFields little p.at fs x → AreFine before fs → Tied k before → length p.rest ≤ n
    → (m : Known) × (left : ℕ) × (fields_at little n k p ≡ fields_at little left m (place (p.at + length x) rest)) × Tied m (before ++ fs) × (length rest ≤ left)
fields_front little [] n k before p x rest parts spelled fine t le =
    let rest_is : p.rest ≡ rest = parts ∙ ap (λ (l : List ℕ). l ++ rest) spelled in
    let place_is : p ≡ place (p.at + length x) rest = ap (λ (l : List ℕ). place p.at l) rest_is ∙ ap (λ (a : ℕ). place a rest) (omega (arith, ap (λ (l : List ℕ). length l) spelled)) in
    (k, n, ap (λ (q : Place). fields_at little n k q) place_is, subst (λ (l : List Field). Tied k l) (sym (append-nil before)) t, omega (arith, le, ap (λ (l : List ℕ). length l) rest_is))
fields_front little (f ∷ fs) zero k before p x rest parts spelled fine t le =
    let some = field_some little p.at f spelled.0 spelled.3 in
    absurd (omega (arith, le, some, ap (λ (l : List ℕ). length l) parts, length-append x rest, ap (λ (l : List ℕ). length l) spelled.2, length-append spelled.0 spelled.1))
fields_front little (f ∷ fs) (suc n) k before p x rest parts spelled fine t le =
    let u = spelled.0 in
    let y = spelled.1 in
    let some = field_some little p.at f u spelled.3 in
    let grouped : p.rest ≡ u ++ (y ++ rest) = parts ∙ ap (λ (l : List ℕ). l ++ rest) spelled.2 ∙ append_assoc u y rest in
    let q = place (p.at + length u) (y ++ rest) in
    let read = field_again little p f u (y ++ rest) grouped spelled.3 in
    let add = fine_added k before f t fine.0 in
    let first = read_field little n k add.0 p q f (some_bytes u (y ++ rest) p grouped some) read add.1 in
    let less : length (y ++ rest) ≤ n = omega (arith, le, some, ap (λ (l : List ℕ). length l) grouped, length-append u (y ++ rest)) in
    let others = fields_front little fs n add.0 (before ++ f ∷ []) q y rest refl spelled.4 fine.1 add.2 less in
    let place_is : place (q.at + length y) rest ≡ place (p.at + length x) rest = ap (λ (a : ℕ). place a rest) (omega (arith, ap (λ (l : List ℕ). length l) spelled.2, length-append u y)) in (
      others.0,
      others.1,
      first ∙ others.2 ∙ ap (λ (r : Place). fields_at little others.1 others.0 r) place_is,
      subst (λ (l : List Field). Tied others.0 l) (append_assoc before (f ∷ []) fs) others.3,
      others.4,
    )

pub fields_again : (little : Bool) (fs : List Field) (n : ℕ) (k : Known) (before : List Field) (p : Place) → AreFields little p.at fs p.rest → AreFine before fs → Tied k before → length p.rest ≤ n
    → (m : Known) × (fields_at little n k p ≡ Ok m) × Tied m (before ++ fs)
fields_again little fs n k before p spelled fine t le =
    let front = fields_front little fs n k before p p.rest [] (sym (append-nil p.rest)) spelled fine t le in
    (front.0, front.2 ∙ done little front.1 front.0 (place (p.at + length p.rest) []) refl, front.3)

pub fields_stop : (little : Bool) (fs : List Field) (n : ℕ) (k : Known) (before : List Field) (p : Place) (x rest : List ℕ) (rule : FrameRule) → IsBytes p.rest → p.rest ≡ x ++ rest → AreFields little p.at fs x → AreFine before fs → Tied k before → length p.rest ≤ n
    → Why little (before ++ fs) (p.at + length x) rest rule → fields_at little n k p ≡ Err rule
fields_stop little fs n k before p x rest rule fits parts spelled fine t le why =
    let front = fields_front little fs n k before p x rest parts spelled fine t le in
    front.2 ∙ stops front.1 front.0 (place (p.at + length x) rest) (before ++ fs) front.3 front.4 (Takes-bytes p (place (p.at + length x) rest) x fits (record { at = refl; parts = parts })).1 why
  where
    no_read : (q : Place) → IsBytes q.rest → ((f : Field) (u v : List ℕ) → q.rest ≡ u ++ v → IsField little q.at f u → ⊥) → (o : Option (Field × Place)) → field_at little q ≡ o → o ≡ None
    no_read q fits_q none None e = refl
    no_read q fits_q none (Some r) e = let x' = field_takes little q r.0 r.1 fits_q e in absurd (none r.0 x'.0 r.1.rest x'.1.parts x'.2)

    stops : (left : ℕ) (m : Known) (q : Place) (done_fields : List Field) → Tied m done_fields → length q.rest ≤ left → IsBytes q.rest → Why little done_fields q.at q.rest rule → fields_at little left m q ≡ Err rule
    stops left m q done_fields tied enough fits_q (inl w) =
        let some : eqb (length q.rest) 0 ≡ false = ne_eqb (length q.rest) 0 (λ e. w.0 (nil_from_length q.rest e)) in
        no_field little left m q some (no_read q fits_q w.1 (field_at little q) refl) ∙ ap (λ (r : FrameRule). Err r) (sym w.2)
    stops zero m q done_fields tied enough fits_q (inr w) =
        let some = field_some little q.at w.0 w.1 w.4 in
        absurd (omega (arith, enough, some, ap (λ (l : List ℕ). length l) w.3, length-append w.1 w.2))
    stops (suc left) m q done_fields tied enough fits_q (inr w) =
        let some = field_some little q.at w.0 w.1 w.4 in
        break_field little left m q (place (q.at + length w.1) w.2) w.0 rule (some_bytes w.1 w.2 q w.3 some) (field_again little q w.0 w.1 w.2 w.3 w.4) (broken_added m done_fields w.0 rule tied w.5)
