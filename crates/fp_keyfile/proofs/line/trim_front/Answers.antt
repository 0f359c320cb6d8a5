use Rattle.std.proofs.Common.{◌∙◌, sym, refl}
use Rattle.std.proofs.lemmas.Str.{IsCharBoundary-start, IsCharBoundary-after_ascii}
use Rattle.fp_keyfile.specs.Grammar.{is_blank}
use Rattle.fp_keyfile.proofs.Texts
use Rattle.fp_keyfile.proofs.line.trim_front.Goals as goal

pub loop-start-init : goal.loop-start-init
loop-start-init c = record { boundary = IsCharBoundary-start c.as_bytes-bytes.result.now c.as_bytes-bytes.ensures.utf8; rest = refl }

pub loop-start-preserved : goal.loop-start-preserved
loop-start-preserved c =
    let bytes = c.as_bytes-bytes.result.now in
    let start = c.loop-start.start in
    let blank = sym c.is_blank.ensures ∙ c.if-is_blank.true in
    record {
      boundary = IsCharBoundary-after_ascii bytes start c.as_bytes-bytes.ensures.utf8 c.loop-start-test.true (Texts.ascii_blank.below _ blank);
      rest = Texts.trimmed_front-drop is_blank bytes start c.loop-start-test.true blank ∙ c.loop-start.invariant.rest;
    }
