use Rattle.std.proofs.Common.{ℕ, List, sym, subst, arith}
use Rattle.lido_lexer.proofs.PartsLemmas.{LeadsOn, leads_start, leads_more, leads_end, leads_nowhere}
use Rattle.lido_lexer.proofs.quoted.parts_front.Goals as goal

pub loop-byte-init : goal.loop-byte-init
loop-byte-init c = record {
  leads = subst (λ (l : List ℕ). LeadsOn c.args.inner.now l c.args.inner.now) (sym c.new-text.ensures.items) (leads_start c.args.inner.now);
  bound = omega arith;
}

pub loop-byte-preserved : goal.loop-byte-preserved
loop-byte-preserved c = record {
  leads = subst (λ (l : List ℕ). LeadsOn c.args.inner.now l c.in-Some.rest.now) (sym c.in_ok-push.ensures.items) (leads_more c.loop-byte.invariant.leads c.in-Some.ensures.some);
  bound = omega (arith, c.in-Some.ensures.shorter, c.loop-byte.invariant.bound);
}

pub returns-in-Some-behind_quote-clause-some : goal.returns-in-Some-behind_quote-clause-some
returns-in-Some-behind_quote-clause-some c = leads_end c.loop-byte.invariant.leads c.in-Some-behind_quote.ensures.some

pub returns-clause-none : goal.returns-clause-none
returns-clause-none c = leads_nowhere c.loop-byte.invariant.leads c.in-None.ensures.none c.in_default.ensures.none
