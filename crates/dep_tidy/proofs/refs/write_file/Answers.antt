use Rattle.std.proofs.Common.{◌≡◌, ◌∷◌, [], ◌∙◌, sym, subst}
use Rattle.std.proofs.lemmas.Bool.{false≢true}
use Rattle.std.proofs.lemmas.Result.{on_ok_weaker}
use Rattle.fp_host.specs.View.{View}
use Rattle.fp_host.proofs.Goes.{begins, goes_on, stays}
use Rattle.fp_host.proofs.Ending.{ends_on, ends_both, ends_goes, ends_looks, ends_to, fault_caused, goes_known}
use Rattle.fp_small.specs.Places.{repo}
use Rattle.ost_refs.specs.Changes.{CanWrite}
use Rattle.ost_refs.specs.declared.place.RefPlace.TheVariants.{Remote}
use Rattle.dep_tidy.specs.Steps.{Writes, WroteFile}
use Rattle.dep_tidy.proofs.RefFiles.{reads_file, writes_same, writes_start, writes_file, wrote_file, found_file, replaces_from}
use Rattle.dep_tidy.proofs.refs.write_file.Goals as goal

pub returns-in_err-place-clause-any_moment : goal.returns-in_err-place-clause-any_moment
returns-in_err-place-clause-any_moment g c = stays (g.met.H.Host.is_tree c.args.host.now) (λ u. writes_start) (λ u t. writes_start)

pub returns-in_err-file-clause-any_moment : goal.returns-in_err-file-clause-any_moment
returns-in_err-file-clause-any_moment g c = begins (g.met.H.Host.is_tree c.args.host.now) c.read_ref.ensures.unchanged.goes (λ u w t same. writes_same c.args.row.now same) (λ u w t same q. writes_same c.args.row.now same)

pub returns-then-says-clause-any_moment : goal.returns-then-says-clause-any_moment
returns-then-says-clause-any_moment g c = begins (g.met.H.Host.is_tree c.args.host.now) c.read_ref.ensures.unchanged.goes (λ u w t same. writes_same c.args.row.now same) (λ u w t same q. writes_same c.args.row.now same)

pub returns-then-says-clause-on_success : goal.returns-then-says-clause-on_success
returns-then-says-clause-on_success g c =
    let t = g.met.H.Host.is_tree in
    let row = c.args.row.now in
    ends_to (ends_both (ends_looks (t c.args.host.now) c.read_ref.ensures.unchanged) c.in_ok-file.ensures.tells) (λ u w q.
    found_file row q.0.0 (sym (reads_file row c.requires.root c.in_ok-place.ensures.place q.1) ∙ c.says.ensures.0 c.if-says.true))

pub returns : goal.returns
returns g c =
    let t = g.met.H.Host.is_tree in
    let row = c.args.row.now in
    let looked = goes_known (begins {R' = Writes (row ∷ [])} {Q' = λ u w. w ≡ u} (t c.args.host.now) c.read_ref.ensures.unchanged.goes (λ u w t same. writes_same row same) (λ u w t same q. q.0)) c.in_ok-file.ensures.tells in
    record {
      any_moment = goes_on (t c.read_ref.new.host) looked c.write_ref.ensures.any_moment
          (λ u v w tree r q s. writes_file row c.requires.root c.in_ok-place.ensures.place (λ is. false≢true (sym c.if-says.false ∙ c.says.ensures.1 (reads_file row c.requires.root c.in_ok-place.ensures.place q.1 ∙ is))) (replaces_from q.0 s)) (λ u v w tree r q s e. writes_file row c.requires.root c.in_ok-place.ensures.place (λ is. false≢true (sym c.if-says.false ∙ c.says.ensures.1 (reads_file row c.requires.root c.in_ok-place.ensures.place q.1 ∙ is))) (replaces_from q.0 e));
      on_success = on_ok_weaker c.write_ref.result (λ done. ends_on (ends_both (ends_goes (t c.read_ref.new.host) c.write_ref.ensures.any_moment) done) (ends_looks (t c.args.host.now) c.read_ref.ensures.unchanged) (t c.read_ref.new.host)
          (λ u v w tree same q. subst (λ (x : View). WroteFile row x w) same.0 (wrote_file row c.requires.root c.in_ok-place.ensures.place c.place_of.ensures.remote c.place_of.ensures.good c.place_of.ensures.digits q.0 q.1))) c.write_ref.ensures.on_success;
      fault_has_cause = fault_caused (CanWrite repo (Remote row.origin row.name)) (CanWrite c.args.root.now c.in_ok-place.place) _ _ _ _ _ (t c.args.host.now) c.read_ref.ensures.fault_has_cause.later (ends_looks (t c.args.host.now) c.read_ref.ensures.unchanged) c.write_ref.ensures.fault_has_cause (λ e. e)
          (λ u v tree same can. subst (λ (x : View). CanWrite c.args.root.now c.in_ok-place.place x) (sym same.0) (subst (λ r. CanWrite r c.in_ok-place.place u) (sym c.requires.root) (subst (λ p. CanWrite repo p u) (sym c.in_ok-place.ensures.place) can)));
    }
