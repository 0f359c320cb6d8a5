-- The first offer among several.
use Rattle.std.proofs.Common.{◌≡◌, ◌≤◌, ◌+◌, ℕ, List, [], ◌∷◌, ◌++◌, drop, Bool, true, false, Option, Some, None, Result, Ok, Err, refl, sym, ◌∙◌, ap, subst, arith}
use Rattle.std.specs.Prelude.{cond, filter, is_some, IfOk, IfSome, IsErrOf, if◌then◌else◌}
use Rattle.std.specs.Option.{option_or}
use Rattle.fp_host.specs.Remote.{Holdings}
use Rattle.fp_name.specs.Refs.{Ref}
use Rattle.fp_small.specs.declared.refusal.Refusal.{Refusal}
use Rattle.fp_small.specs.declared.state.RemoteRow.{RemoteRow}
use Rattle.fp_host.proofs.Cause.{Rose-later}
use Rattle.fp_host.specs.Moments.{Rose}
use Rattle.ost_walk.specs.declared.pull_end.PullEnd.{PullEnd}
use Rattle.ost_walk.specs.declared.pull_end.PullEnd.TheVariants as ends
use Rattle.ost_walk.specs.PullEnds.{NoFault, RefusesBy, Tells}
use Rattle.ost_refs.specs.Offers.{offered}
use Rattle.fl_plan.specs.Answers.{Asks}
use Rattle.fl_plan.specs.Offers.{first_of, is_in_turn, offer_of, offer_if, offer_with, unless_declined, declined}
use Rattle.fl_plan.specs.declared.offer.Offer.{Offer}

-- ---- lists

module _ {A B : Type 0} (f : A → Option B) where
  -- those that a test leaves out give nothing
  pub each_in_turn : (test : A → Bool) (xs : List A) → first_of (λ x. if test x then f x else None) xs ≡ first_of f (filter test xs)
  each_in_turn test [] = refl
  each_in_turn test (x ∷ xs) = ap (λ o. option_or (if test x then f x else None) o) (each_in_turn test xs) ∙ go (test x) (filter test xs)
    where
      go : (b : Bool) (ys : List A) → option_or (if b then f x else None) (first_of f ys) ≡ first_of f (cond b (x ∷ ys) ys)
      go true ys = refl
      go false ys = refl

  or_again : (a b c : Option B) → option_or a (option_or b c) ≡ option_or (option_or a b) c
  or_again None b c = refl
  or_again (Some x) b c = refl

  -- one list after another
  pub first_append : (xs ys : List A) → first_of f (xs ++ ys) ≡ option_or (first_of f xs) (first_of f ys)
  first_append [] ys = refl
  first_append (x ∷ xs) ys = ap (option_or (f x)) (first_append xs ys) ∙ or_again (f x) (first_of f xs) (first_of f ys)

-- ---- one question

module _ (held : Holdings) (row : RemoteRow) (name : Ref) where
  pub offer_known : (commit : List ℕ) → offered held row name ≡ Ok commit → Some (offer_with row name commit) ≡ offer_of held row name
  offer_known commit is = ap (unless_declined row name) (sym is)

  none_known : (refusal : Refusal) → offered held row name ≡ Err refusal → None ≡ offer_of held row name
  none_known refusal is = ap (unless_declined row name) (sym is)

  pub offer_declined : (end : PullEnd) → RefusesBy (λ r. offered held row name ≡ Err r) end → Tells (λ o. o ≡ offer_of held row name) (declined end)
  offer_declined (ends.Refused r) is = none_known r is
  offer_declined ends.HostFault is = tt
  offer_declined ends.RemoteFault is = tt
  offer_declined ends.NoMemory is = tt

pub declined_host : (end : PullEnd) → (end ≡ ends.HostFault → ⊥) → IsErrOf (declined end) ends.HostFault → ⊥
declined_host (ends.Refused r) none is = absurd (cc is)
declined_host ends.HostFault none is = none refl
declined_host ends.RemoteFault none is = absurd (cc is)
declined_host ends.NoMemory none is = absurd (cc is)

pub declined_remote : (end : PullEnd) → IsErrOf (declined end) ends.RemoteFault → end ≡ ends.RemoteFault
declined_remote (ends.Refused r) is = absurd (cc is)
declined_remote ends.HostFault is = absurd (cc is)
declined_remote ends.RemoteFault is = refl
declined_remote ends.NoMemory is = absurd (cc is)

-- ---- several questions

some_first : (found a rest : Option Offer) → is_some found ≡ true → found ≡ a → found ≡ option_or a rest
some_first (Some o) a rest some is = ap (λ z. option_or z rest) is
some_first None a rest some is = absurd (cc some)

none_first : (found a rest : Option Offer) → is_some found ≡ false → found ≡ a → option_or a rest ≡ rest
none_first (Some o) a rest none is = absurd (cc none)
none_first None a rest none is = ap (λ z. option_or z rest) (sym is)

-- the same by another name
pub asks_same : {A : Type 0} {answer : Holdings → A} {result : Result A PullEnd} {old new : Option Holdings} {before now : ℕ} (whole : Holdings → A)
    → ((held : Holdings) → whole held ≡ answer held) → Asks answer result old new before now → Asks whole result old new before now
asks_same {result = result} whole same asks = record {
  same = asks.same;
  tells = λ held is. subst (λ a. Tells (λ x. x ≡ a) result) (sym (same held)) (asks.tells held is);
  host = asks.host;
  remote = asks.remote;
}

module _ {A : Type 0} (f : Holdings → A → Option Offer) (xs : List A) where
  abbrev whole : Holdings → Option Offer
  whole held = first_of (f held) xs

  module _ {old : Option Holdings} (i : ℕ) (rest : (held : Holdings) → old ≡ Some held → whole held ≡ first_of (f held) (drop i xs)) where
    known : (x : A) → drop i xs ≡ x ∷ drop (i + 1) xs → (held : Holdings) → old ≡ Some held → whole held ≡ option_or (f held x) (first_of (f held) (drop (i + 1) xs))
    known x here held is = rest held is ∙ ap (first_of (f held)) here

    -- none was found
    pub asks_none : {mid : Option Holdings} {before between : ℕ} → mid ≡ old → before ≤ between → drop i xs ≡ [] → Asks whole (Ok None) old mid before between
    asks_none same later none = record {
      same = same;
      tells = λ held is. sym (rest held is ∙ ap (first_of (f held)) none);
      host = λ e. absurd (cc e);
      remote = record { later = later; rose = λ e. absurd (cc e) };
    }

    module _ {mid new : Option Holdings} {before between now : ℕ} (same : mid ≡ old) (later : before ≤ between) (x : A) (here : drop i xs ≡ x ∷ drop (i + 1) xs) where
      -- one of them was found
      pub asks_found : (found : Option Offer) → Asks (λ held. f held x) (Ok found) mid new between now → is_some found ≡ true → Asks whole (Ok found) old new before now
      asks_found found asks some = record {
        same = asks.same ∙ same;
        tells = λ held is. some_first found (f held x) (first_of (f held) (drop (i + 1) xs)) some (asks.tells held (same ∙ is)) ∙ sym (known x here held is);
        host = λ e. absurd (cc e);
        remote = record { later = omega (arith, later, asks.remote.later); rose = λ e. absurd (cc e) };
      }

      -- a fault
      pub asks_failed : (end : PullEnd) → Asks (λ held. f held x) (Err end) mid new between now → Asks whole (Err end) old new before now
      asks_failed end asks = record {
        same = asks.same ∙ same;
        tells = λ held is. asks.tells held (same ∙ is);
        host = asks.host;
        remote = record { later = omega (arith, later, asks.remote.later); rose = λ e. Rose-later _ _ _ later (asks.remote.rose e) };
      }

    -- it wasn't this one
    pub asks_next : {mid new : Option Holdings} {between now : ℕ} → mid ≡ old → (x : A) → drop i xs ≡ x ∷ drop (i + 1) xs
        → (found : Option Offer) → Asks (λ held. f held x) (Ok found) mid new between now → is_some found ≡ false
        → (held : Holdings) → old ≡ Some held → whole held ≡ first_of (f held) (drop (i + 1) xs)
    asks_next same x here found asks none held is = known x here held is ∙ none_first found (f held x) (first_of (f held) (drop (i + 1) xs)) none (asks.tells held (same ∙ is))

-- the questions of two lists, one after the other
module _ {A : Type 0} (f : Holdings → A → Option Offer) (xs ys : List A) where
  abbrev both : Holdings → Option Offer
  both held = first_of (f held) (xs ++ ys)

  module _ {old mid : Option Holdings} {before between : ℕ} where
    pub both_first : (found : Option Offer) → Asks (λ held. first_of (f held) xs) (Ok found) old mid before between → is_some found ≡ true → Asks both (Ok found) old mid before between
    both_first found asks some = record {
      same = asks.same;
      tells = λ held is. some_first found (first_of (f held) xs) (first_of (f held) ys) some (asks.tells held is) ∙ sym (first_append (f held) xs ys);
      host = λ e. absurd (cc e);
      remote = record { later = asks.remote.later; rose = λ e. absurd (cc e) };
    }

    pub both_failed : (end : PullEnd) → Asks (λ held. first_of (f held) xs) (Err end) old mid before between → Asks both (Err end) old mid before between
    both_failed end asks = record { same = asks.same; tells = asks.tells; host = asks.host; remote = asks.remote }

    pub both_second : {new : Option Holdings} {now : ℕ} (found : Option Offer) (result : Result (Option Offer) PullEnd) → Asks (λ held. first_of (f held) xs) (Ok found) old mid before between → is_some found ≡ false
        → Asks (λ held. first_of (f held) ys) result mid new between now → Asks both result old new before now
    both_second found result first none second = record {
      same = second.same ∙ first.same;
      tells = λ held is. subst (λ o. Tells (λ a. a ≡ o) result) (sym (first_append (f held) xs ys ∙ none_first found (first_of (f held) xs) (first_of (f held) ys) none (first.tells held is))) (second.tells held (first.same ∙ is));
      host = second.host;
      remote = record { later = omega (arith, first.remote.later, second.remote.later); rose = λ e. Rose-later _ _ _ first.remote.later (second.remote.rose e) };
    }

-- ---- one question, asked

module _ (row : RemoteRow) (name : Ref) {old new : Option Holdings} {before now : ℕ} (same : new ≡ old) where
  pub ask_taken : (commit : List ℕ) (result : Result (Option Offer) PullEnd) → Tells (λ o. o ≡ Some (offer_with row name commit)) result → NoFault result
      → ((held : Holdings) → old ≡ Some held → offered held row name ≡ Ok commit) → before ≤ now → Asks (λ held. offer_of held row name) result old new before now
  ask_taken commit result taken none tells later = record {
    same = same;
    tells = λ held holds. subst (λ o. Tells (λ x. x ≡ o) result) (offer_known held row name commit (tells held holds)) taken;
    host = none.host;
    remote = record { later = later; rose = λ e. absurd (none.remote e) };
  }

  pub ask_declined : (end : PullEnd) → ((held : Holdings) → old ≡ Some held → RefusesBy (λ r. offered held row name ≡ Err r) end) → (end ≡ ends.HostFault → ⊥) → before ≤ now → (end ≡ ends.RemoteFault → Rose before now)
      → (result : Result (Option Offer) PullEnd) → result ≡ declined end → Asks (λ held. offer_of held row name) result old new before now
  ask_declined end tells host later rose result is = record {
    same = same;
    tells = λ held holds. subst (Tells (λ o. o ≡ offer_of held row name)) (sym is) (offer_declined held row name end (tells held holds));
    host = λ e. declined_host end host (sym is ∙ e);
    remote = record { later = later; rose = λ e. rose (declined_remote end (sym is ∙ e)) };
  }

-- a refusal is no offer
pub declined_good : (P : Offer → Type 0) (end : PullEnd) (result : Result (Option Offer) PullEnd) → result ≡ declined end → IfOk result (λ found. IfSome found P)
declined_good P end result is = subst (λ (r : Result (Option Offer) PullEnd). IfOk r (λ found. IfSome found P)) (sym is) (go end)
  where
    go : (e : PullEnd) → IfOk (declined e) (λ found. IfSome found P)
    go (ends.Refused r) = tt
    go ends.HostFault = tt
    go ends.RemoteFault = tt
    go ends.NoMemory = tt

-- a remote that may be in turn
module _ (own : List ℕ) (others : Bool) (name : Ref) (row : RemoteRow) where
  turn_offer : (b : Bool) (held : Holdings) → is_in_turn own others row ≡ b → offer_if held own others name row ≡ (if b then offer_of held row name else None)
  turn_offer b held is = ap (λ (t : Bool). if t then offer_of held row name else None) is

  pub turn_asked : {old new : Option Holdings} {before now : ℕ} {result : Result (Option Offer) PullEnd} → is_in_turn own others row ≡ true
      → Asks (λ held. offer_of held row name) result old new before now → Asks (λ held. offer_if held own others name row) result old new before now
  turn_asked is asks = asks_same (λ held. offer_if held own others name row) (λ held. turn_offer true held is) asks

  pub turn_skipped : {old : Option Holdings} {before : ℕ} → is_in_turn own others row ≡ false → Asks (λ held. offer_if held own others name row) (Ok None) old old before before
  turn_skipped is = record {
    same = refl;
    tells = λ held holds. sym (turn_offer false held is);
    host = λ e. absurd (cc e);
    remote = record { later = omega arith; rose = λ e. absurd (cc e) };
  }
