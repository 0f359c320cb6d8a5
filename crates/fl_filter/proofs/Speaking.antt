-- Lines that are printed one after another.
use Rattle.std.proofs.Common.{◌≡◌, inl, inr, ℕ, ◌+◌, ◌<◌, List, [], ◌∷◌, ◌++◌, map, length, take, drop, get_or, Option, Result, Ok, Err, IsErr, IsErrAnd, refl, sym, ap, subst, ◌∙◌, append_assoc}
use Rattle.std.specs.List.{concat}
use Rattle.std.proofs.lemmas.List.{append-nil, take-append-drop, take_more, drop_more, map-append}
use Rattle.std.proofs.lemmas.List.Folds.{concat-append}
use Rattle.fp_host.specs.View.{View}
use Rattle.fp_host.specs.Calls.{says, done, Step, Called}
use Rattle.fp_host.specs.Causes.{end_of}
use Rattle.fp_host.specs.Moments.{Moments, Makes, Goes}
use Rattle.fp_host.specs.declared.host.HostError.{HostError}
use Rattle.fp_host.specs.declared.host.HostError.TheVariants as error
use Rattle.fp_host.specs.declared.host.HostEnd.{HostEnd}
use Rattle.fp_host.specs.declared.host.HostEnd.TheVariants as host
use Rattle.fp_host.proofs.Follow.{called}
use Rattle.fp_host.proofs.Framed.{IsTold}
use Rattle.fp_host.proofs.Goes.{stays, begins, goes_on, makes_goes, ends as goes_ends}
use Rattle.fp_small.specs.declared.refusal.Refusal.{Refusal}
use Rattle.bus_proxy.specs.declared.out.Out.{Out}
use Rattle.fl_filter.specs.declared.end.FilterEnd.{FilterEnd}
use Rattle.fl_filter.specs.declared.end.FilterEnd.TheVariants as ends
use Rattle.fl_filter.specs.Filtered.{Filtered, out_text}
use Rattle.fl_filter.specs.Printed.{end_of as end_of_host, with_lines, PrintsFirst, PrintedAll, IsRefusedBy, Printed}

-- ---- views

with_none : (v : View) → v ≡ with_lines [] v
with_none v = λ i. record v { printed = sym (append-nil v.printed) i }

with_more : (a b : List (List ℕ)) (v : View) → with_lines b (with_lines a v) ≡ with_lines (a ++ b) v
with_more a b v = λ i. record v { printed = (append_assoc v.printed (concat a) (concat b) ∙ ap (λ (l : List ℕ). v.printed ++ l) (sym (concat-append a b))) i }

pub first_none : (lines : List (List ℕ)) (v : View) → PrintsFirst lines v v
first_none lines v = record { said = []; left = lines; first = refl; is = with_none v }

pub first_same : (lines : List (List ℕ)) (v w : View) → w ≡ v → PrintsFirst lines v w
first_same lines v w same = subst (PrintsFirst lines v) (sym same) (first_none lines v)

pub first_all : (lines : List (List ℕ)) (v w : View) → w ≡ with_lines lines v → PrintsFirst lines v w
first_all lines v w is = record { said = lines; left = []; first = sym (append-nil lines); is = is }

-- these lines were printed, and of those that come next the first
pub first_on : (lines said next left : List (List ℕ)) (u v w : View) → lines ≡ said ++ (next ++ left) → v ≡ with_lines said u → PrintsFirst next v w → PrintsFirst lines u w
first_on lines said next left u v w parts before p = record {
  said = said ++ p.said;
  left = p.left ++ left;
  first = parts ∙ ap (λ (l : List (List ℕ)). said ++ (l ++ left)) p.first ∙ ap (λ (l : List (List ℕ)). said ++ l) (append_assoc p.said p.left left) ∙ sym (append_assoc said p.said (p.left ++ left));
  is = p.is ∙ ap (with_lines p.said) before ∙ with_more said p.said u;
}

pub all_on : (said next : List (List ℕ)) (u v w : View) → v ≡ with_lines said u → w ≡ with_lines next v → w ≡ with_lines (said ++ next) u
all_on said next u v w before is = is ∙ ap (with_lines next) before ∙ with_more said next u

-- ---- one line

with_one : (text : List ℕ) (v : View) → done (says text) v ≡ with_lines (text ∷ []) v
with_one text v = λ i. record v { printed = v.printed ++ sym (append-nil text) i }

one_called : (text : List ℕ) (v w : View) → Called (says text) v w → PrintsFirst (text ∷ []) v w
one_called text v w call = elim call.went [
  | inl same ↦ first_same (text ∷ []) v w same
  | inr went ↦ elim went.1 [
    | inl half ↦ first_same (text ∷ []) v w half
    | inr all ↦ first_all (text ∷ []) v w (all ∙ with_one text v)
  ]
]

one_step : (text piece : List ℕ) (r : Result (Unit {0}) HostError) (v w : View) → piece ≡ text → Step (says piece) r v w → PrintsFirst (text ∷ []) v w
one_step text piece r v w same step = one_called text v w (called (subst (λ (t : List ℕ). Step (says t) r v w) same step))

one_err : (text : List ℕ) (e : HostError) (r : Result (Unit {0}) HostEnd) (v w : View) → IsErr r → IsErrAnd r (λ end. end ≡ end_of e) → Step (says text) (Err e) v w → PrintedAll (text ∷ []) r v w
one_err text e (Ok u) v w err is step = absurd (cc err)
one_err text e (Err host.Fault) v w err is step = tt
one_err text error.Failed (Err host.NoMemory) v w err is step = cc is
one_err text error.Clash (Err host.NoMemory) v w err is step = cc is
one_err text error.NoMemory (Err host.NoMemory) v w err is step = absurd step.how

pub not_said : {a b : Option Moments} (text piece : List ℕ) (e : HostError) (r : Result (Unit {0}) HostEnd) → IsTold a → piece ≡ text → Makes (Step (says piece) (Err e)) a b → IsErr r → IsErrAnd r (λ end. end ≡ end_of e)
    → Goes a b (PrintsFirst (text ∷ [])) (PrintedAll (text ∷ []) r)
not_said text piece e r told same call err is =
    begins told (makes_goes call) (λ u w t s. one_step text piece (Err e) u w same s)
    (λ u w t s q. one_err text e r u w err is (subst (λ (l : List ℕ). Step (says l) (Err e) u w) same q))

pub was_said : {a b : Option Moments} (text piece : List ℕ) → IsTold a → piece ≡ text → Makes (Step (says piece) (Ok tt)) a b → Goes a b (PrintsFirst (text ∷ [])) (PrintedAll (text ∷ []) (Ok tt))
was_said text piece told same call =
    begins told (makes_goes call) (λ u w t s. one_step text piece (Ok tt) u w same s)
    (λ u w t s q. (subst (λ (l : List ℕ). Step (says l) (Ok tt) u w) same q).how.1 ∙ with_one text u)

-- ---- several

-- of the lines these were printed, the first ones
abbrev pub Far : List (List ℕ) → List (List ℕ) → Option Moments → Option Moments → Type 0
Far lines said a b = Goes a b (PrintsFirst lines) (λ u w. w ≡ with_lines said u)

pub far_none : {a : Option Moments} (lines : List (List ℕ)) → IsTold a → Far lines [] a a
far_none lines told = stays told (λ u. first_none lines u) (λ u t. with_none u)

-- the next lines, as far as it goes
pub far_ends : {a b c : Option Moments} (lines said next left : List (List ℕ)) (e : HostEnd) → IsTold b → lines ≡ said ++ (next ++ left)
    → Far lines said a b → Goes b c (PrintsFirst next) (PrintedAll next (Err e)) → Goes a c (PrintsFirst lines) (PrintedAll lines (Err e))
far_ends lines said next left e told parts first second =
    goes_on told first second (λ u v w t a q s. first_on lines said next left u v w parts q s) (λ u v w t a q s k. end e u v w q s)
  where
    end : (e : HostEnd) → (u v w : View) → v ≡ with_lines said u → PrintsFirst next v w → PrintedAll lines (Err e) u w
    end host.Fault u v w q s = tt
    end host.NoMemory u v w q s = first_on lines said next left u v w parts q s

pub far_on : {a b c : Option Moments} (lines said next left : List (List ℕ)) → IsTold b → lines ≡ said ++ (next ++ left)
    → Far lines said a b → Goes b c (PrintsFirst next) (PrintedAll next (Ok tt)) → Far lines (said ++ next) a c
far_on lines said next left told parts first second =
    goes_on told first second (λ u v w t a q s. first_on lines said next left u v w parts q s) (λ u v w t a q s k. all_on said next u v w q k)

-- ---- the lines of messages

pub parts_at : (all : List Out) (i : ℕ) (item : Out) → i < length all → item ≡ get_or all i item → map out_text all ≡ map out_text (take i all) ++ ((out_text item ∷ []) ++ map out_text (drop (i + 1) all))
parts_at all i item lt is =
    ap (map out_text) (sym (take-append-drop i all) ∙ ap (λ (l : List Out). take i all ++ l) (drop_more all i item lt ∙ ap (λ (x : Out). x ∷ drop (i + 1) all) (sym is)))
    ∙ map-append out_text (take i all) (item ∷ drop (i + 1) all)

pub taken_at : (all : List Out) (i : ℕ) (item : Out) → i < length all → item ≡ get_or all i item → map out_text (take (i + 1) all) ≡ map out_text (take i all) ++ (out_text item ∷ [])
taken_at all i item lt is =
    ap (map out_text) (take_more all i item lt ∙ ap (λ (x : Out). take i all ++ x ∷ []) (sym is)) ∙ map-append out_text (take i all) (item ∷ [])

-- ---- the end

pub by_err : {T E : Type 0} (P : Result T E → Type 0) (r : Result T E) (e : E) → IsErrAnd r (λ x. x ≡ e) → P (Err e) → P r
by_err P (Ok t) e is h = absurd is
by_err P (Err x) e is h = subst (λ y. P (Err y)) (sym is) h

pub no_memory : {a : Option Moments} (f : Filtered) → IsTold a → Goes a a (PrintsFirst f.lines) (Printed f (Err ends.NoMemory))
no_memory f told = stays told (λ u. first_none f.lines u) (λ u t. first_none f.lines u)

pub not_all : {a b : Option Moments} (f : Filtered) (lines : List (List ℕ)) (e : HostEnd) → lines ≡ f.lines → Goes a b (PrintsFirst lines) (PrintedAll lines (Err e)) → Goes a b (PrintsFirst f.lines) (Printed f (Err (end_of_host e)))
not_all {a = a} {b = b} f lines host.Fault same goes = subst (λ (l : List (List ℕ)). Goes a b (PrintsFirst l) (λ u w. Unit {0})) same goes
not_all {a = a} {b = b} f lines host.NoMemory same goes = subst (λ (l : List (List ℕ)). Goes a b (PrintsFirst l) (PrintsFirst l)) same goes

pub all_printed : {a b : Option Moments} (f : Filtered) (lines : List (List ℕ)) (refusal : Option Refusal) (r : Result (Unit {0}) FilterEnd) → lines ≡ f.lines → refusal ≡ f.refusal → IsRefusedBy refusal r
    → Goes a b (PrintsFirst lines) (PrintedAll lines (Ok tt)) → Goes a b (PrintsFirst f.lines) (Printed f r)
all_printed {a = a} {b = b} f lines refusal r same ending refused goes =
    goes_ends (subst (λ (l : List (List ℕ)). Goes a b (PrintsFirst l) (λ u w. w ≡ with_lines l u)) same goes) (λ u w is. by r refused u w is)
  where
    by : (r : Result (Unit {0}) FilterEnd) → IsRefusedBy refusal r → (u w : View) → w ≡ with_lines f.lines u → Printed f r u w
    by (Ok t) none u w is = (sym ending ∙ none, is)
    by (Err (ends.Refused x)) some u w is = (sym ending ∙ some, is)
    by (Err ends.Fault) never u w is = absurd never
    by (Err ends.NoMemory) never u w is = absurd never
