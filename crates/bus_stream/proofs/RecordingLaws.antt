-- Lines one after another.
use Rattle.std.proofs.Common.{◌≡◌, ◌==◌, ℕ, ◌+◌, ◌<◌, Bool, true, false, List, [], ◌∷◌, ◌++◌, length, drop, Some, None, Ok, Err, Result, Option, refl, sym, ap, ◌∙◌, arith, cond}
use Rattle.std.specs.Prelude.{if◌then◌else◌, ◌||◌}
use Rattle.std.specs.Str.{bytes_eq}
use Rattle.std.specs.List.{list_any, slice_split, position_or_len}
use Rattle.std.proofs.lemmas.List.Folds.{list_any-append}
use Rattle.std.specs.Cmp.Lexicographic.{nat_list_eq_equiv}
use Rattle.std.proofs.lemmas.List.Splits.{slice_split_none, slice_split_first, length-slice_split}
use Rattle.bus_stream.specs.declared.recording.Recording.{Recording}
use Rattle.fp_base.specs.Parts.{parts_at}
use Rattle.fp_base.proofs.Lines.{is_end, found, missed, none_ends}
use Rattle.bus_stream.specs.declared.recording.Draft.{Draft}
use Rattle.bus_stream.specs.Recordings.{or_bad, with_line, with_lines, said, Knows, Took}

lines_cons : (number : ℕ) (r : Recording) (line : List ℕ) (lines : List (List ℕ)) → 0 < length lines → with_lines number r (line ∷ lines) ≡ or_bad number (with_line r line) (λ s. with_lines (number + 1) s lines)
lines_cons number r line [] l = absurd (omega arith)
lines_cons number r line (next ∷ lines) l = refl

pub lines_step : (number : ℕ) (r : Recording) (bytes line remainder : List ℕ) → parts_at 10 bytes ≡ Some (line, remainder)
    → with_lines number r (slice_split (λ b. b == 10) bytes) ≡ or_bad number (with_line r line) (λ s. with_lines (number + 1) s (slice_split (λ b. b == 10) remainder))
lines_step number r bytes line remainder e =
    let f = found bytes line remainder e in
    ap (with_lines number r) (slice_split_first is_end bytes 0 f.0)
    ∙ lines_cons number r _ _ (omega (arith, length-slice_split is_end (drop (position_or_len is_end bytes + 1) bytes)))
    ∙ (λ i. or_bad number (with_line r (f.1 i)) (λ s. with_lines (number + 1) s (slice_split (λ b. b == 10) (f.2 i))))

lines_end : (number : ℕ) (r : Recording) (bytes : List ℕ) (b : Bool) → parts_at 10 bytes ≡ None → (length bytes == 0) ≡ b → with_lines number r (slice_split (λ b. b == 10) bytes) ≡ (if b then Ok r else Err number)
lines_end number r bytes b e l = ap (with_lines number r) (slice_split_none is_end bytes (none_ends bytes (missed bytes e))) ∙ ap (λ (d : Bool). if d then Ok r else Err number) l

pub nothing_left : (number : ℕ) (r : Recording) (bytes : List ℕ) → parts_at 10 bytes ≡ None → (length bytes == 0) ≡ true → with_lines number r (slice_split (λ b. b == 10) bytes) ≡ Ok r
nothing_left number r bytes e l = lines_end number r bytes true e l

pub no_newline : (number : ℕ) (r : Recording) (bytes : List ℕ) → parts_at 10 bytes ≡ None → (length bytes == 0) ≡ false → with_lines number r (slice_split (λ b. b == 10) bytes) ≡ Err number
no_newline number r bytes e l = lines_end number r bytes false e l

after_good : {A : Type 0} (number : ℕ) (o : Option Recording) (new : Draft) (next : Recording → Result A ℕ) → Took true new o → Knows new × (or_bad number o next ≡ next (said new))
after_good number (Some r) new next t = (t.2, ap next (sym t.1))
after_good number None new next t = absurd cc

after_bad : {A : Type 0} (number : ℕ) (o : Option Recording) (new : Draft) (next : Recording → Result A ℕ) → Took false new o → or_bad number o next ≡ Err number
after_bad number (Some r) new next t = absurd cc
after_bad number None new next t = refl

pub good_line : (number : ℕ) (old new : Draft) (bytes line remainder : List ℕ) → parts_at 10 bytes ≡ Some (line, remainder) → Took true new (with_line (said old) line)
    → Knows new × (with_lines number (said old) (slice_split (λ b. b == 10) bytes) ≡ with_lines (number + 1) (said new) (slice_split (λ b. b == 10) remainder))
good_line number old new bytes line remainder e t =
    let good = after_good number (with_line (said old) line) new (λ s. with_lines (number + 1) s (slice_split is_end remainder)) t in
    (good.0, lines_step number (said old) bytes line remainder e ∙ good.1)

pub bad_line : (number : ℕ) (old new : Draft) (bytes line remainder : List ℕ) → parts_at 10 bytes ≡ Some (line, remainder) → Took false new (with_line (said old) line)
    → with_lines number (said old) (slice_split (λ b. b == 10) bytes) ≡ Err number
bad_line number old new bytes line remainder e t =
    lines_step number (said old) bytes line remainder e ∙ after_bad number (with_line (said old) line) new (λ s. with_lines (number + 1) s (slice_split is_end remainder)) t

one_more : (w b : Bool) → cond w true b ≡ (b || (w || false))
one_more true true = refl
one_more true false = refl
one_more false true = refl
one_more false false = refl

-- the names that are owned, with one more
pub known_more : (name q owner : List ℕ) (owners : List (List ℕ × List ℕ)) (before now : Bool) → before ≡ list_any (λ o. bytes_eq q o.0) owners → now ≡ cond (bytes_eq name q) true before
    → now ≡ list_any (λ o. bytes_eq q o.0) (owners ++ (name, owner) ∷ [])
known_more name q owner owners before now b n =
    let owns : List ℕ × List ℕ → Bool = λ o. bytes_eq q o.0 in
    n ∙ ap (λ v. cond (bytes_eq name q) true v) b ∙ one_more (bytes_eq name q) (list_any owns owners) ∙ ap (λ w. list_any owns owners || (w || false)) (nat_list_eq_equiv.symm name q)
    ∙ sym (list_any-append owns owners ((name, owner) ∷ []))
