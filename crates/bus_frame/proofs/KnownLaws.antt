-- What is known of the fields so far, and the first rule that one more field breaks.
use Rattle.std.proofs.Common.{◌≡◌, ℕ, zero, suc, ◌+◌, ◌-◌, ◌<◌, ◌≤◌, Bool, true, false, not, cond, eqb, ltb, List, [], ◌∷◌, ◌++◌, length, Option, Some, None, Result, Ok, Err, refl, sym, ap, subst, ◌∙◌, append_assoc, inl, inr, arith}
use Rattle.std.specs.Option.{option_or}
use Rattle.std.specs.Prelude.{◌&&◌, ◌||◌, ◌⊎◌, option_map, is_some, MatchOption}
use Rattle.std.proofs.lemmas.Bool.{cases_eq, eqb-true, eqb-false, eq-eqb, ne_eqb, ltb-true, ltb-false, lt-ltb, le-ltb, cases_Bool, cases_lt, false≢true}
use Rattle.std.proofs.lemmas.List.{length-append, append-nil}
use Rattle.fp_base.specs.declared.frame_rule.FrameRule.{FrameRule}
use Rattle.fp_base.specs.declared.frame_rule.FrameRule.TheVariants.{Code, Double, Kind, Value}
use Rattle.fp_base.proofs.Options.{none_if_not_some, or_alone}
use Rattle.bus_frame.specs.declared.header.Header.{Header}
use Rattle.bus_frame.specs.declared.fixed.Fixed.{Fixed}
use Rattle.bus_frame.specs.declared.known.Grammar.{Grammar}
use Rattle.bus_frame.specs.declared.known.Grammar.TheVariants as grammar
use Rattle.bus_frame.specs.Fields.{Content, word, number, other, Field, Known, none_known, good_text, word_in, number_in, once, ◌>=>◌, add_field}
use Rattle.bus_frame.specs.Reading.{header_of}
use Rattle.bus_frame.specs.Frame.{given, word_type, known_grammar, is_kind, is_good, field_fault, header_says}
use Rattle.bus_frame.proofs.ValueAgain.{at_yes, at_no}

-- what is known of the field with a code
abbrev pub known_says : Known → ℕ → Option Content
known_says k code =
    cond (eqb code 1) (option_map (word 111) k.path)
    (cond (eqb code 2) (option_map (word 115) k.interface)
    (cond (eqb code 3) (option_map (word 115) k.member)
    (cond (eqb code 4) (option_map (word 115) k.error_name)
    (cond (eqb code 5) (option_map number k.reply_serial)
    (cond (eqb code 6) (option_map (word 115) k.destination)
    (cond (eqb code 7) (option_map (word 115) k.sender)
    (cond (eqb code 8) (option_map (word 103) k.signature)
    (cond (eqb code 9) (option_map number k.unix_fds)
    None))))))))

-- what is known is what the fields say
pub record Tied (k : Known) (fields : List Field) : Type 0 where
  pub says : (code : ℕ) → 1 ≤ code → code ≤ 9 → known_says k code ≡ given code fields

none_both : (b : Bool) (x : Option Content) → x ≡ None → cond b None x ≡ None
none_both true x e = refl
none_both false x e = e

none_said : (code : ℕ) → known_says none_known code ≡ None
none_said code =
    none_both (eqb code 1) _ (none_both (eqb code 2) _ (none_both (eqb code 3) _ (none_both (eqb code 4) _ (none_both (eqb code 5) _ (none_both (eqb code 6) _ (none_both (eqb code 7) _ (none_both (eqb code 8) _ (none_both (eqb code 9) None refl))))))))

pub tied_none : Tied none_known []
tied_none = record { says = λ code low high. none_said code }

-- ---- one slot

abbrev text_of : Content → List ℕ
text_of (word code text) = text
text_of (number n) = []
text_of other = []

abbrev number_of : Content → ℕ
number_of (word code text) = 0
number_of (number n) = n
number_of other = 0

abbrev word_kind : ℕ → Content → Bool
word_kind type (word code text) = eqb code type
word_kind type (number n) = false
word_kind type other = false

abbrev word_good : Grammar → Content → Bool
word_good g (word code text) = good_text g text
word_good g (number n) = false
word_good g other = false

abbrev number_kind : Content → Bool
number_kind (word code text) = false
number_kind (number n) = true
number_kind other = false

abbrev number_good : Bool → Content → Bool
number_good zero_too (word code text) = false
number_good zero_too (number n) = zero_too || not (eqb n 0)
number_good zero_too other = false

-- what a slot does with a field: the rules in order, and else the known fields with it
abbrev judged : Bool → Bool → Bool → Known → Result Known FrameRule
judged double kind good k = cond double (Err Double) (cond (not kind) (Err Kind) (cond (not good) (Err Value) (Ok k)))

word_tests : (text : List ℕ) (put : Option (List ℕ) → Known) (a b : Bool) → (once None (cond a (cond b (Ok text) (Err Value)) (Err Kind)) >=> λ x. Ok (put x)) ≡ judged false a b (put (Some text))
word_tests text put true true = refl
word_tests text put true false = refl
word_tests text put false b = refl

word_slot : (before : Option (List ℕ)) (type : ℕ) (g : Grammar) (put : Option (List ℕ) → Known) (c : Content)
    → (once before (word_in type (good_text g) c) >=> λ x. Ok (put x)) ≡ judged (is_some (option_map (word type) before)) (word_kind type c) (word_good g c) (put (Some (text_of c)))
word_slot (Some b) type g put c = refl
word_slot None type g put (word code text) = word_tests text put (eqb code type) (good_text g text)
word_slot None type g put (number n) = refl
word_slot None type g put other = refl

number_tests : (n : ℕ) (put : Option ℕ → Known) (b : Bool) → (once None (cond b (Ok n) (Err Value)) >=> λ x. Ok (put x)) ≡ judged false true b (put (Some n))
number_tests n put true = refl
number_tests n put false = refl

number_slot : (before : Option ℕ) (zero_too : Bool) (put : Option ℕ → Known) (c : Content)
    → (once before (number_in zero_too c) >=> λ x. Ok (put x)) ≡ judged (is_some (option_map number before)) (number_kind c) (number_good zero_too c) (put (Some (number_of c)))
number_slot (Some b) zero_too put c = refl
number_slot None zero_too put (word code text) = refl
number_slot None zero_too put (number n) = number_tests n put (zero_too || not (eqb n 0))
number_slot None zero_too put other = refl

-- the known fields with one more
abbrev put : Known → ℕ → Content → Known
put k code c =
    cond (eqb code 1) (record k { path = Some (text_of c) })
    (cond (eqb code 2) (record k { interface = Some (text_of c) })
    (cond (eqb code 3) (record k { member = Some (text_of c) })
    (cond (eqb code 4) (record k { error_name = Some (text_of c) })
    (cond (eqb code 5) (record k { reply_serial = Some (number_of c) })
    (cond (eqb code 6) (record k { destination = Some (text_of c) })
    (cond (eqb code 7) (record k { sender = Some (text_of c) })
    (cond (eqb code 8) (record k { signature = Some (text_of c) })
    (record k { unix_fds = Some (number_of c) }))))))))

-- the rules at a known code are those of the relation
record Slot (k : Known) (code : ℕ) (c : Content) : Type 0 where
  judges : add_field k (record { code = code; content = c }) ≡ judged (is_some (known_says k code)) (is_kind code c) (is_good code c) (put k code c)

slot_1 : (k : Known) (c : Content) → Slot k 1 c
unfolding add_field
slot_1 k (word code text) = record { judges = word_slot k.path 111 grammar.Path (λ x. record k { path = x }) (word code text) }
slot_1 k (number n) = record { judges = word_slot k.path 111 grammar.Path (λ x. record k { path = x }) (number n) }
slot_1 k other = record { judges = word_slot k.path 111 grammar.Path (λ x. record k { path = x }) other }

slot_2 : (k : Known) (c : Content) → Slot k 2 c
unfolding add_field
slot_2 k (word code text) = record { judges = word_slot k.interface 115 grammar.Interface (λ x. record k { interface = x }) (word code text) }
slot_2 k (number n) = record { judges = word_slot k.interface 115 grammar.Interface (λ x. record k { interface = x }) (number n) }
slot_2 k other = record { judges = word_slot k.interface 115 grammar.Interface (λ x. record k { interface = x }) other }

slot_3 : (k : Known) (c : Content) → Slot k 3 c
unfolding add_field
slot_3 k (word code text) = record { judges = word_slot k.member 115 grammar.Member (λ x. record k { member = x }) (word code text) }
slot_3 k (number n) = record { judges = word_slot k.member 115 grammar.Member (λ x. record k { member = x }) (number n) }
slot_3 k other = record { judges = word_slot k.member 115 grammar.Member (λ x. record k { member = x }) other }

slot_4 : (k : Known) (c : Content) → Slot k 4 c
unfolding add_field
slot_4 k (word code text) = record { judges = word_slot k.error_name 115 grammar.Interface (λ x. record k { error_name = x }) (word code text) }
slot_4 k (number n) = record { judges = word_slot k.error_name 115 grammar.Interface (λ x. record k { error_name = x }) (number n) }
slot_4 k other = record { judges = word_slot k.error_name 115 grammar.Interface (λ x. record k { error_name = x }) other }

slot_5 : (k : Known) (c : Content) → Slot k 5 c
unfolding add_field
slot_5 k (word code text) = record { judges = number_slot k.reply_serial false (λ x. record k { reply_serial = x }) (word code text) }
slot_5 k (number n) = record { judges = number_slot k.reply_serial false (λ x. record k { reply_serial = x }) (number n) }
slot_5 k other = record { judges = number_slot k.reply_serial false (λ x. record k { reply_serial = x }) other }

slot_6 : (k : Known) (c : Content) → Slot k 6 c
unfolding add_field
slot_6 k (word code text) = record { judges = word_slot k.destination 115 grammar.Bus (λ x. record k { destination = x }) (word code text) }
slot_6 k (number n) = record { judges = word_slot k.destination 115 grammar.Bus (λ x. record k { destination = x }) (number n) }
slot_6 k other = record { judges = word_slot k.destination 115 grammar.Bus (λ x. record k { destination = x }) other }

slot_7 : (k : Known) (c : Content) → Slot k 7 c
unfolding add_field
slot_7 k (word code text) = record { judges = word_slot k.sender 115 grammar.Bus (λ x. record k { sender = x }) (word code text) }
slot_7 k (number n) = record { judges = word_slot k.sender 115 grammar.Bus (λ x. record k { sender = x }) (number n) }
slot_7 k other = record { judges = word_slot k.sender 115 grammar.Bus (λ x. record k { sender = x }) other }

slot_8 : (k : Known) (c : Content) → Slot k 8 c
unfolding add_field
slot_8 k (word code text) = record { judges = word_slot k.signature 103 grammar.Signature (λ x. record k { signature = x }) (word code text) }
slot_8 k (number n) = record { judges = word_slot k.signature 103 grammar.Signature (λ x. record k { signature = x }) (number n) }
slot_8 k other = record { judges = word_slot k.signature 103 grammar.Signature (λ x. record k { signature = x }) other }

slot_9 : (k : Known) (c : Content) → Slot k 9 c
unfolding add_field
slot_9 k (word code text) = record { judges = number_slot k.unix_fds true (λ x. record k { unix_fds = x }) (word code text) }
slot_9 k (number n) = record { judges = number_slot k.unix_fds true (λ x. record k { unix_fds = x }) (number n) }
slot_9 k other = record { judges = number_slot k.unix_fds true (λ x. record k { unix_fds = x }) other }

slot : (k : Known) (code : ℕ) (c : Content) → 1 ≤ code → code ≤ 9 → Slot k code c
slot k zero c low high = absurd (omega arith)
slot k (suc zero) c low high = slot_1 k c
slot k (suc (suc zero)) c low high = slot_2 k c
slot k (suc (suc (suc zero))) c low high = slot_3 k c
slot k (suc (suc (suc (suc zero)))) c low high = slot_4 k c
slot k (suc (suc (suc (suc (suc zero))))) c low high = slot_5 k c
slot k (suc (suc (suc (suc (suc (suc zero)))))) c low high = slot_6 k c
slot k (suc (suc (suc (suc (suc (suc (suc zero))))))) c low high = slot_7 k c
slot k (suc (suc (suc (suc (suc (suc (suc (suc zero)))))))) c low high = slot_8 k c
slot k (suc (suc (suc (suc (suc (suc (suc (suc (suc zero))))))))) c low high = slot_9 k c
slot k (suc (suc (suc (suc (suc (suc (suc (suc (suc (suc code)))))))))) c low high = absurd (omega arith)

-- a field of another code changes nothing
above : (k : Known) (f : Field) → 9 < f.code → add_field k f ≡ Ok k
unfolding add_field
above k f lt =
    let apart = λ (n : ℕ) (le : n ≤ 9). ne_eqb f.code n (λ e. omega arith) in
    let e0 = apart 0 (omega arith) in
    let e1 = apart 1 (omega arith) in
    let e2 = apart 2 (omega arith) in
    let e3 = apart 3 (omega arith) in
    let e4 = apart 4 (omega arith) in
    let e5 = apart 5 (omega arith) in
    let e6 = apart 6 (omega arith) in
    let e7 = apart 7 (omega arith) in
    let e8 = apart 8 (omega arith) in
    let e9 = apart 9 (omega arith) in
    rw (e0, e1, e2, e3, e4, e5, e6, e7, e8, e9) refl

-- a content of a kind is made of its text or number again
word_again : (type : ℕ) (c : Content) → word_kind type c ≡ true → Some (word type (text_of c)) ≡ Some c
word_again type (word code text) kind = ap (λ (t : ℕ). Some (word t text)) (sym (eqb-true code type kind))
word_again type (number n) kind = absurd (false≢true kind)
word_again type other kind = absurd (false≢true kind)

number_again : (c : Content) → number_kind c ≡ true → Some (number (number_of c)) ≡ Some c
number_again (word code text) kind = absurd (false≢true kind)
number_again (number n) kind = refl
number_again other kind = absurd (false≢true kind)

-- what is put at a code is said there, and elsewhere what was said before
combined : (f g : ℕ → Option Content) (i : ℕ) (c : Content) → g i ≡ Some c → ((o : ℕ) → eqb o i ≡ false → g o ≡ f o) → (o : ℕ) → g o ≡ cond (eqb i o) (Some c) (f o)
combined f g i c here away o =
    elim (cases_eq o i) [
      | inl e ↦ ap g e ∙ here ∙ sym (at_yes (eqb i o) (Some c) (f o) (eq-eqb i o (sym e)))
      | inr ne ↦ away o (ne_eqb o i ne) ∙ sym (at_no (eqb i o) (Some c) (f o) (ne_eqb i o (λ e. ne (sym e))))
    ]

kind_1 : (c : Content) → is_kind 1 c ≡ word_kind 111 c
kind_1 (word code text) = refl
kind_1 (number n) = refl
kind_1 other = refl

kind_2 : (c : Content) → is_kind 2 c ≡ word_kind 115 c
kind_2 (word code text) = refl
kind_2 (number n) = refl
kind_2 other = refl

kind_3 : (c : Content) → is_kind 3 c ≡ word_kind 115 c
kind_3 (word code text) = refl
kind_3 (number n) = refl
kind_3 other = refl

kind_4 : (c : Content) → is_kind 4 c ≡ word_kind 115 c
kind_4 (word code text) = refl
kind_4 (number n) = refl
kind_4 other = refl

kind_5 : (c : Content) → is_kind 5 c ≡ number_kind c
kind_5 (word code text) = refl
kind_5 (number n) = refl
kind_5 other = refl

kind_6 : (c : Content) → is_kind 6 c ≡ word_kind 115 c
kind_6 (word code text) = refl
kind_6 (number n) = refl
kind_6 other = refl

kind_7 : (c : Content) → is_kind 7 c ≡ word_kind 115 c
kind_7 (word code text) = refl
kind_7 (number n) = refl
kind_7 other = refl

kind_8 : (c : Content) → is_kind 8 c ≡ word_kind 103 c
kind_8 (word code text) = refl
kind_8 (number n) = refl
kind_8 other = refl

kind_9 : (c : Content) → is_kind 9 c ≡ number_kind c
kind_9 (word code text) = refl
kind_9 (number n) = refl
kind_9 other = refl

-- what is put is said, and nothing else changes
PutSaid : Known → ℕ → Content → Type 0
PutSaid k code c = is_kind code c ≡ true → (o : ℕ) → known_says (put k code c) o ≡ cond (eqb code o) (Some c) (known_says k o)

put_1 : (k : Known) (c : Content) → PutSaid k 1 c
unfolding PutSaid
put_1 k c kind o = combined (known_says k) (known_says (put k 1 c)) 1 c (word_again 111 c (sym (kind_1 c) ∙ kind)) (λ o e. rw e refl) o

put_2 : (k : Known) (c : Content) → PutSaid k 2 c
unfolding PutSaid
put_2 k c kind o = combined (known_says k) (known_says (put k 2 c)) 2 c (word_again 115 c (sym (kind_2 c) ∙ kind)) (λ o e. rw e refl) o

put_3 : (k : Known) (c : Content) → PutSaid k 3 c
unfolding PutSaid
put_3 k c kind o = combined (known_says k) (known_says (put k 3 c)) 3 c (word_again 115 c (sym (kind_3 c) ∙ kind)) (λ o e. rw e refl) o

put_4 : (k : Known) (c : Content) → PutSaid k 4 c
unfolding PutSaid
put_4 k c kind o = combined (known_says k) (known_says (put k 4 c)) 4 c (word_again 115 c (sym (kind_4 c) ∙ kind)) (λ o e. rw e refl) o

put_5 : (k : Known) (c : Content) → PutSaid k 5 c
unfolding PutSaid
put_5 k c kind o = combined (known_says k) (known_says (put k 5 c)) 5 c (number_again c (sym (kind_5 c) ∙ kind)) (λ o e. rw e refl) o

put_6 : (k : Known) (c : Content) → PutSaid k 6 c
unfolding PutSaid
put_6 k c kind o = combined (known_says k) (known_says (put k 6 c)) 6 c (word_again 115 c (sym (kind_6 c) ∙ kind)) (λ o e. rw e refl) o

put_7 : (k : Known) (c : Content) → PutSaid k 7 c
unfolding PutSaid
put_7 k c kind o = combined (known_says k) (known_says (put k 7 c)) 7 c (word_again 115 c (sym (kind_7 c) ∙ kind)) (λ o e. rw e refl) o

put_8 : (k : Known) (c : Content) → PutSaid k 8 c
unfolding PutSaid
put_8 k c kind o = combined (known_says k) (known_says (put k 8 c)) 8 c (word_again 103 c (sym (kind_8 c) ∙ kind)) (λ o e. rw e refl) o

put_9 : (k : Known) (c : Content) → PutSaid k 9 c
unfolding PutSaid
put_9 k c kind o = combined (known_says k) (known_says (put k 9 c)) 9 c (number_again c (sym (kind_9 c) ∙ kind)) (λ o e. rw e refl) o

put_said : (k : Known) (code : ℕ) (c : Content) → 1 ≤ code → code ≤ 9 → PutSaid k code c
put_said k zero c low high = absurd (omega arith)
put_said k (suc zero) c low high = put_1 k c
put_said k (suc (suc zero)) c low high = put_2 k c
put_said k (suc (suc (suc zero))) c low high = put_3 k c
put_said k (suc (suc (suc (suc zero)))) c low high = put_4 k c
put_said k (suc (suc (suc (suc (suc zero))))) c low high = put_5 k c
put_said k (suc (suc (suc (suc (suc (suc zero)))))) c low high = put_6 k c
put_said k (suc (suc (suc (suc (suc (suc (suc zero))))))) c low high = put_7 k c
put_said k (suc (suc (suc (suc (suc (suc (suc (suc zero)))))))) c low high = put_8 k c
put_said k (suc (suc (suc (suc (suc (suc (suc (suc (suc zero))))))))) c low high = put_9 k c
put_said k (suc (suc (suc (suc (suc (suc (suc (suc (suc (suc code)))))))))) c low high = absurd (omega arith)

-- ---- one field more

given-push : (code : ℕ) (before : List Field) (f : Field) → given code (before ++ f ∷ []) ≡ option_or (given code before) (cond (eqb f.code code) (Some f.content) None)
given-push code [] f = refl
given-push code (g ∷ before) f = by_test (eqb g.code code) (given-push code before f)
  where
    by_test : (b : Bool) → given code (before ++ f ∷ []) ≡ option_or (given code before) (cond (eqb f.code code) (Some f.content) None)
        → cond b (Some g.content) (given code (before ++ f ∷ [])) ≡ option_or (cond b (Some g.content) (given code before)) (cond (eqb f.code code) (Some f.content) None)
    by_test true ih = refl
    by_test false ih = ih

-- a field of another code leaves what is known tied
tied_above : (k : Known) (before : List Field) (f : Field) → Tied k before → 9 < f.code → Tied k (before ++ f ∷ [])
tied_above k before f t lt = record {
  says = λ code low high.
      let apart : eqb f.code code ≡ false = ne_eqb f.code code (λ e. omega arith) in
      t.says code low high ∙ sym (given-push code before f ∙ ap (λ (b : Bool). option_or (given code before) (cond b (Some f.content) None)) apart ∙ or_alone (given code before));
}

tied_put : (k : Known) (before : List Field) (f : Field) → Tied k before → 1 ≤ f.code → f.code ≤ 9 → given f.code before ≡ None → is_kind f.code f.content ≡ true → Tied (put k f.code f.content) (before ++ f ∷ [])
unfolding PutSaid
tied_put k before f t low high absent kind = record {
  says = λ o o_low o_high.
      put_said k f.code f.content low high kind o
      ∙ elim (cases_eq f.code o) [
        | inl e ↦
            let test = eq-eqb f.code o e in
            at_yes (eqb f.code o) (Some f.content) (known_says k o) test
            ∙ sym (given-push o before f ∙ ap (λ (b : Bool). option_or (given o before) (cond b (Some f.content) None)) test ∙ ap (λ (r : Option Content). option_or r (Some f.content)) (ap (λ (c : ℕ). given c before) (sym e) ∙ absent))
        | inr ne ↦
            let test = ne_eqb f.code o ne in
            at_no (eqb f.code o) (Some f.content) (known_says k o) test ∙ t.says o o_low o_high
            ∙ sym (given-push o before f ∙ ap (λ (b : Bool). option_or (given o before) (cond b (Some f.content) None)) test ∙ or_alone (given o before))
      ];
}

-- the rule that is broken, or the known fields with one more
unfoldable pub Added : Known → List Field → Field → Option FrameRule → Type 0
Added k before f None = (more : Known) × (add_field k f ≡ Ok more) × Tied more (before ++ f ∷ [])
Added k before f (Some rule) = add_field k f ≡ Err rule

added_known : (k : Known) (before : List Field) (f : Field) → Tied k before → 1 ≤ f.code → f.code ≤ 9
    → Added k before f (cond (is_some (given f.code before)) (Some Double) (cond (not (is_kind f.code f.content)) (Some Kind) (cond (not (is_good f.code f.content)) (Some Value) None)))
unfolding Added
added_known k before f t low high =
    let read = (slot k f.code f.content low high).judges ∙ ap (λ (r : Option Content). judged (is_some r) (is_kind f.code f.content) (is_good f.code f.content) (put k f.code f.content)) (t.says f.code low high) in
    by_tests (is_some (given f.code before)) (is_kind f.code f.content) (is_good f.code f.content) refl refl read
  where
    by_tests : (double kind good : Bool) → is_some (given f.code before) ≡ double → is_kind f.code f.content ≡ kind → add_field k f ≡ judged double kind good (put k f.code f.content)
        → Added k before f (cond double (Some Double) (cond (not kind) (Some Kind) (cond (not good) (Some Value) None)))
    by_tests true kind good d h read = read
    by_tests false false good d h read = read
    by_tests false true false d h read = read
    by_tests false true true d h read = (put k f.code f.content, read, tied_put k before f t low high (none_if_not_some (given f.code before) d) h)

pub added : (k : Known) (before : List Field) (f : Field) → Tied k before → Added k before f (field_fault before f)
unfolding add_field Added
added k before f t = by_zero (eqb f.code 0) refl
  where
    remainder_zero : Option FrameRule
    remainder_zero = cond (ltb 9 f.code) None (cond (is_some (given f.code before)) (Some Double) (cond (not (is_kind f.code f.content)) (Some Kind) (cond (not (is_good f.code f.content)) (Some Value) None)))

    by_above : (b : Bool) → ltb 9 f.code ≡ b → 1 ≤ f.code → Added k before f (cond b None (cond (is_some (given f.code before)) (Some Double) (cond (not (is_kind f.code f.content)) (Some Kind) (cond (not (is_good f.code f.content)) (Some Value) None))))
    by_above true e low = let lt = ltb-true 9 f.code e in (k, above k f lt, tied_above k before f t lt)
    by_above false e low = added_known k before f t low (ltb-false 9 f.code e)

    by_zero : (b : Bool) → eqb f.code 0 ≡ b → Added k before f (cond b (Some Code) (cond (ltb 9 f.code) None (cond (is_some (given f.code before)) (Some Double) (cond (not (is_kind f.code f.content)) (Some Kind) (cond (not (is_good f.code f.content)) (Some Value) None)))))
    by_zero true e = rw e refl
    by_zero false e = let ne = eqb-false f.code 0 e in by_above (ltb 9 f.code) refl (omega arith)
