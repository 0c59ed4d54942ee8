use Rattle.std.specs.Prelude.{◌≡◌, refl, [], ◌∷◌, ◌++◌}
use Rattle.std.proofs.Common.{arith}
use Rattle.std.proofs.lemmas.Grind.{common_steps}
use Rattle.std.proofs.lemmas.Result.{err_from_is_err_and}
use Rattle.lido_base.specs.Reading.{nothing}
use Rattle.lido_lexer.specs.declared.sign.Sign.TheVariants as sign
use Rattle.lido_lexer.specs.declared.token.TokenKind.TheVariants as kind
use Rattle.lido_syntax.specs.declared.spec.Element.TheVariants as element
use Rattle.lido_reader.specs.Items.{AreChoices, IsFurtherListed, is_bar, is_bar_kind}
use Rattle.lido_computations.proofs.PhrasesLemmas.{leads_self, sees_finds}
use Rattle.lido_reader.proofs.PartsLemmas.{finish, go_on, stuck_at, read_whole, repeat_finish, repeat_found, repeat_stuck, repeat_ends, seen_goes, unseen_stops}
use Rattle.lido_reader.proofs.RightSidesLemmas.{bar_steps, bar_only}
use Rattle.lido_reader.proofs.right_sides.choices.Goals as goal

pub returns-in_err-first-clause-reads : goal.returns-in_err-first-clause-reads
returns-in_err-first-clause-reads c = let p = err_from_is_err_and c.from_residual.result c.from_residual.ensures.1 in rw (p.1, p.2)
    (stuck_at c.args.end (leads_self AreChoices is_bar c.args.tokens.now) (λ name. repeat_finish bar_steps (element.Symbol name ∷ [])) c.in_err-first.field-0.0 c.in_err-first.ensures.reads)

pub loop-behind_bar-init : goal.loop-behind_bar-init
loop-behind_bar-init c = record {
  leads = let items : c.in_ok-all.all.items ≡ element.Symbol c.in_ok-first.first ∷ [] = grind (arith, common_steps) in
      rw items (go_on (leads_self AreChoices is_bar c.args.tokens.now) c.in_ok-first.ensures.reads);
  shorter = c.in_ok-first.ensures.shorter;
}

pub returns-in_err-more-clause-reads : goal.returns-in_err-more-clause-reads
returns-in_err-more-clause-reads c = let p = err_from_is_err_and c.from_residual-in_err-more.result c.from_residual-in_err-more.ensures.1 in rw (p.1, p.2)
    (let bar = sees_finds (kind.Sign sign.Bar) nothing c.loop-behind_bar.rest.now c.in-Some.behind_bar.now c.in-Some.field-0-0 c.in-Some.ensures.seen in
    let further = go_on (leads_self (IsFurtherListed c.loop-behind_bar.all.items) nothing c.loop-behind_bar.rest.now) bar in
    repeat_stuck bar_steps c.args.end
    (seen_goes (kind.Sign sign.Bar) is_bar_kind refl c.loop-behind_bar.rest.now c.in-Some.behind_bar.now c.in-Some.field-0-0 c.in-Some.ensures.seen)
    c.loop-behind_bar.invariant.leads c.in_err-more.field-0.0
    (stuck_at c.args.end further (λ name. finish) c.in_err-more.field-0.0 c.in_err-more.ensures.reads))

pub loop-behind_bar-preserved : goal.loop-behind_bar-preserved
loop-behind_bar-preserved c = record {
  leads = let bar = sees_finds (kind.Sign sign.Bar) nothing c.loop-behind_bar.rest.now c.in-Some.behind_bar.now c.in-Some.field-0-0 c.in-Some.ensures.seen in
      let further = go_on (leads_self (IsFurtherListed c.loop-behind_bar.all.items) nothing c.loop-behind_bar.rest.now) bar in
      let items : c.push.new.self.items ≡ c.loop-behind_bar.all.items ++ element.Symbol c.in_ok-more.more ∷ [] = c.in_ok-push.ensures.items in
      rw items (repeat_found bar_steps
      (seen_goes (kind.Sign sign.Bar) is_bar_kind refl c.loop-behind_bar.rest.now c.in-Some.behind_bar.now c.in-Some.field-0-0 c.in-Some.ensures.seen)
      c.loop-behind_bar.invariant.leads (read_whole (go_on further c.in_ok-more.ensures.reads)));
  shorter = grind (arith, common_steps);
}

pub returns-clause-reads : goal.returns-clause-reads
returns-clause-reads c = repeat_ends bar_steps (unseen_stops (kind.Sign sign.Bar) is_bar_kind bar_only c.loop-behind_bar.rest.now c.in_default.ensures.seen) c.loop-behind_bar.invariant.leads
