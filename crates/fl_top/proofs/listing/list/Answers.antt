use Rattle.std.proofs.Common.{rules, ◌≡◌, ℕ, List, Ok, sym, subst}
use Rattle.fl_top.specs.Answer.{listing_answer}
use Rattle.fl_top.specs.Told.{files_at}
use Rattle.fl_top.proofs.Stored.{has_files}
use Rattle.fl_top.proofs.Listed.{TellsOver, goes_not_read, goes_not_listed, goes_not_told, goes_told}
use Rattle.fl_top.proofs.listing.list.Goals as goal

pub returns-in_err-state-clause-any_moment : goal.returns-in_err-state-clause-any_moment
returns-in_err-state-clause-any_moment g c = goes_not_read (listing_answer (files_at (g.H.Host.moments c.args.host.now)) c.args.listing) c.in_err-state.field-0.0 c.from_residual.result (g.met.H.Host.is_tree c.args.host.now) c.read_state.ensures.unchanged c.in_err-state.ensures.tells c.from_residual.ensures.1

pub returns-in_err-text-clause-any_moment : goal.returns-in_err-text-clause-any_moment
returns-in_err-text-clause-any_moment g c =
    let t = g.met.H.Host.is_tree in
    goes_not_listed (files_at (g.H.Host.moments c.args.host.now)) c.args.listing c.in_ok-state.state c.in_err-text.field-0.0 c.from_residual-in_err-text.result (t c.args.host.now) (has_files (g.H.Host.moments c.args.host.now)) (t c.read_state.new.host) c.read_state.ensures.unchanged c.in_ok-state.ensures.tells c.listed_text.ensures.unchanged c.in_err-text.ensures.tells c.from_residual-in_err-text.ensures.1

pub returns-in_err-say-clause-any_moment : goal.returns-in_err-say-clause-any_moment
returns-in_err-say-clause-any_moment g c =
    let t = g.met.H.Host.is_tree in
    let said : c.as_bytes.result.now ≡ c.in_ok-text.text = search rules in
    goes_not_told (files_at (g.H.Host.moments c.args.host.now)) c.args.listing c.in_ok-state.state _ c.in_err-say.field-0.0 c.from_residual-in_err-say.result (has_files (g.H.Host.moments c.args.host.now)) (t c.read_state.new.host) (t c.listed_text.new.host) c.read_state.ensures.unchanged c.in_ok-state.ensures.tells c.listed_text.ensures.unchanged
    (subst (λ (l : List ℕ). TellsOver c.args.listing c.in_ok-state.state (g.H.Host.moments c.read_state.new.host) (Ok l)) (sym said) c.in_ok-text.ensures.tells) c.in_err-say.ensures.step c.from_residual-in_err-say.ensures.1

pub returns-clause-any_moment : goal.returns-clause-any_moment
returns-clause-any_moment g c =
    let t = g.met.H.Host.is_tree in
    let said : c.as_bytes.result.now ≡ c.in_ok-text.text = search rules in
    goes_told (files_at (g.H.Host.moments c.args.host.now)) c.args.listing c.in_ok-state.state _ (has_files (g.H.Host.moments c.args.host.now)) (t c.read_state.new.host) (t c.listed_text.new.host) c.read_state.ensures.unchanged c.in_ok-state.ensures.tells c.listed_text.ensures.unchanged
    (subst (λ (l : List ℕ). TellsOver c.args.listing c.in_ok-state.state (g.H.Host.moments c.read_state.new.host) (Ok l)) (sym said) c.in_ok-text.ensures.tells) c.in_ok-say.ensures.step
