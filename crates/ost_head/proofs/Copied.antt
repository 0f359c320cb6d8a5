-- Files of a remote that are copied piece by piece.
use Rattle.std.proofs.Common.{◌≡◌, ◌≤◌, ◌+◌, ◌++◌, ℕ, List, [], length, take, Option, Some, None, refl, sym, ◌∙◌, ap, subst, arith, append_assoc, append-nil, length-append}
use Rattle.sha2.specs.declared.Sha256.{Sha256}
use Rattle.fp_host.specs.Paths.{Elements}
use Rattle.fp_host.specs.View.{View}
use Rattle.fp_host.specs.Moments.{Moments}
use Rattle.fp_host.specs.Frame.{AtEnd}
use Rattle.fp_host.specs.Remote.{Holdings, bytes_of, CameFrom}
use Rattle.fp_host.proofs.Framed.{IsTold}
use Rattle.fp_host.proofs.Ending.{ends_start, ends_to, ends_on}
use Rattle.ost_store.specs.Stage.{IsOpen}
use Rattle.ost_head.specs.Pieces.{TakesIn}
use Rattle.ost_head.proofs.Pieces.{takes_none, takes_on, next_bytes, whole_taken}
use Rattle.ost_content.specs.Taken.{HasTaken}
use Rattle.ost_model.specs.Contents.{file_digest}
use Rattle.ost_head.specs.Copies.{Appends, IsNewFile, CopiesFile, IsCopied}

appends_none : {t : Elements} {u w : View} → w ≡ u → Appends t [] u w
appends_none {t = t} {u = u} {w = w} same = record {
  none = λ id none. subst (λ (x : View). x.files id ≡ None) (sym same) none;
  grown = λ mode had is. subst (λ (l : List ℕ). IsOpen t mode l w) (sym (append-nil had)) (subst (IsOpen t mode had) (sym same) is);
}

appends_on : {t : Elements} {xs ys : List ℕ} {u v w : View} → Appends t xs u v → Appends t ys v w → Appends t (xs ++ ys) u w
appends_on {t = t} {xs = xs} {ys = ys} {w = w} first second = record {
  none = λ id none. second.none id (first.none id none);
  grown = λ mode had is. subst (λ (l : List ℕ). IsOpen t mode l w) (append_assoc had xs ys) (second.grown mode (had ++ xs) (first.grown mode had is));
}

pub still_new : {t : Elements} {bytes : List ℕ} {u w : View} → Appends t bytes u w → IsNewFile t u → IsNewFile t w
still_new {bytes = bytes} more was = record { mode = was.mode; bytes = was.bytes ++ bytes; is = more.grown was.mode was.bytes was.is }

-- this number of bytes of the remote's file was copied
pub record HasCopied (t p : Elements) (url : List ℕ) (holds : Option Holdings) (many : ℕ) (before after : Sha256) (a b : Option Moments) : Type 0 where
  pub bytes : List ℕ
  pub long : length bytes ≡ many
  pub first : (held : Holdings) → holds ≡ Some held → bytes ≡ take many (bytes_of (held url p))
  pub appended : AtEnd (Appends t bytes) a b
  pub hashed : TakesIn bytes before after

pub none_copied : {t p : Elements} {url : List ℕ} {holds : Option Holdings} {h : Sha256} {a : Option Moments} → IsTold a → HasCopied t p url holds 0 h h a a
none_copied told = record {
  bytes = [];
  long = refl;
  first = λ held is. refl;
  appended = ends_to (ends_start told) (λ u w same. appends_none same);
  hashed = takes_none;
}

module _ {t p : Elements} {url : List ℕ} {holds : Option Holdings} {at : ℕ} {h i : Sha256} {a b : Option Moments} (so_far : HasCopied t p url holds at h i a b) where
  pub copied_on : {j : Sha256} {c : Option Moments} (n : ℕ) (into : List ℕ) → IsTold b → length (take n into) ≡ n → ((held : Holdings) → holds ≡ Some held → CameFrom (bytes_of (held url p)) at into n) → AtEnd (Appends t (take n into)) b c → TakesIn (take n into) i j
      → HasCopied t p url holds (at + n) h j a c
  copied_on n into told long came more hashed = record {
    bytes = so_far.bytes ++ take n into;
    long = omega (arith, length-append so_far.bytes (take n into), so_far.long, long);
    first = λ held is. ap (λ (l : List ℕ). l ++ take n into) (so_far.first held is) ∙ sym (next_bytes (bytes_of (held url p)) into at n (came held is));
    appended = ends_on more so_far.appended told (λ u v w tree q s. appends_on q s);
    hashed = takes_on so_far.hashed hashed;
  }

  pub all_copied : (size : ℕ) → at ≤ size → ((held : Holdings) → holds ≡ Some held → length (bytes_of (held url p)) ≡ size → length (bytes_of (held url p)) ≡ at) → CopiesFile t p url holds size h i a b
  all_copied size low ends = record {
    bytes = so_far.bytes;
    short = omega (arith, so_far.long, low);
    whole = λ held is long. so_far.first held is ∙ whole_taken (bytes_of (held url p)) at (ends held is long);
    appended = so_far.appended;
    hashed = so_far.hashed;
  }

-- the digest of what was copied
pub copied_digest : {t p : Elements} {url : List ℕ} {holds : Option Holdings} {size : ℕ} {h i : Sha256} {a b : Option Moments} (mode : ℕ) (digest : List ℕ) → CopiesFile t p url holds size h i a b → HasTaken h mode []
    → ((m : ℕ) (bytes : List ℕ) → HasTaken i m bytes → digest ≡ file_digest m bytes) → IsCopied t p url holds mode size a b digest
copied_digest mode digest copied begun ends = record {
  bytes = copied.bytes;
  short = copied.short;
  whole = copied.whole;
  appended = copied.appended;
  digest_is = ends mode copied.bytes (copied.hashed.more mode [] begun);
}
