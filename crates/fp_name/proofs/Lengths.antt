-- How long names are.
use Rattle.std.specs.List.{list_all}
use Rattle.std.proofs.Common.{leb, List, length, ℕ, true, ◌≡◌, ◌≤◌, arith, ap, eqb, ◌∙◌, ◌*◌}
use Rattle.std.proofs.lemmas.Bool.{and_parts, leb-true, eqb-true}
use Rattle.fp_name.specs.Grammar.{is_id, is_arch, is_branch, is_remote_name}
use Rattle.fp_name.specs.declared.kind.RefKind.TheVariants.{Runtime, App}
use Rattle.fp_name.specs.Kinds.{kind_word}
use Rattle.fp_name.specs.declared.kind.RefKind.{RefKind}
use Rattle.fp_name.specs.Hex.{is_byte, hex, is_digest}
use Rattle.fp_name.proofs.HexTexts.{length-hex}

pub id_short : (text : List ℕ) → is_id text ≡ true → length text ≤ 255
unfolding is_id
id_short text h = leb-true (length text) 255 (and_parts (leb (length text) 255) _ h).0

pub arch_short : (text : List ℕ) → is_arch text ≡ true → length text ≤ 255
unfolding is_arch
arch_short text h = leb-true (length text) 255 (and_parts (leb (length text) 255) _ h).0

pub branch_short : (text : List ℕ) → is_branch text ≡ true → length text ≤ 255
unfolding is_branch
branch_short text h = leb-true (length text) 255 (and_parts (leb (length text) 255) _ h).0

pub word_short : (kind : RefKind) → length (kind_word kind) ≤ 7
word_short App = omega arith
word_short Runtime = omega arith

pub remote_short : (text : List ℕ) → is_remote_name text ≡ true → length text ≤ 64
unfolding is_remote_name
remote_short text h = leb-true (length text) 64 (and_parts (leb (length text) 64) _ h).0

pub digest_long : (d : List ℕ) → is_digest d ≡ true → length (hex d) ≡ 64
digest_long d good =
    let long : length d ≡ 32 = eqb-true (length d) 32 (and_parts (eqb (length d) 32) (list_all is_byte d) good).0 in
    length-hex d ∙ ap (λ n. 2 * n) long
