use Rattle.std.proofs.lemmas.Result.{err_from_is_err_and}
use Rattle.lido_base.proofs.ReadingLemmas.{leads_on}
use Rattle.lido_computations.specs.Phrases.{Then}
use Rattle.lido_computations.specs.Places.{IsIndex}
use Rattle.lido_computations.proofs.PhrasesLemmas.{past, ends, never, refused_first, leads_self, done_completable}
use Rattle.lido_computations.specs.Parts.{IsIndexed, follows}
use Rattle.lido_computations.proofs.ExpressionsLemmas.{indexed_stops, indexed_completable, dot_leads, bare_finds}
use Rattle.lido_computations.proofs.expressions.indexed.Goals as goal

pub returns-in_err-i-clause-reads : goal.returns-in_err-i-clause-reads
returns-in_err-i-clause-reads c =
    let p = err_from_is_err_and c.from_residual.result c.from_residual.ensures.1 in rw (p.1, p.2) (λ texts.
    let l0 = leads_self (Then IsIndex (λ i. IsIndexed texts c.args.counts c.args.word i)) follows c.args.tokens.now in
    refused_first _ _ _ _ _ _ (indexed_stops texts c.args.counts c.args.word) _ _ _ l0 (λ a. indexed_completable texts c.args.counts c.args.word a) _ c.in_err-i.ensures.reads)

pub returns-in_default-clause-reads : goal.returns-in_default-clause-reads
returns-in_default-clause-reads c =
    λ texts.
    let l0 = leads_self (Then IsIndex (λ i. IsIndexed texts c.args.counts c.args.word i)) follows c.args.tokens.now in
    let l1 = past _ _ _ _ _ _ (indexed_stops texts c.args.counts c.args.word) _ _ _ _ l0 c.in_ok-i.ensures.reads in
    l1.finds _ _ (bare_finds texts c.args.counts c.args.word c.in_ok-i.i _ c.in_default.ensures.seen)

pub returns-in_err-tree-clause-reads : goal.returns-in_err-tree-clause-reads
returns-in_err-tree-clause-reads c =
    let p = err_from_is_err_and c.from_residual-in_err-tree.result c.from_residual-in_err-tree.ensures.1 in rw (p.1, p.2) (λ texts.
    let l0 = leads_self (Then IsIndex (λ i. IsIndexed texts c.args.counts c.args.word i)) follows c.args.tokens.now in
    let l1 = past _ _ _ _ _ _ (indexed_stops texts c.args.counts c.args.word) _ _ _ _ l0 c.in_ok-i.ensures.reads in
    let l2 = leads_on _ _ _ _ _ _ _ _ _ (dot_leads texts c.args.counts c.args.word c.in_ok-i.i _ _ _ c.in-Some.ensures.seen) l1 in
    refused_first _ _ _ _ _ _ (never _ _) _ _ _ l2 (λ a. done_completable _) _ c.in_err-tree.ensures.reads)

pub returns-clause-reads : goal.returns-clause-reads
returns-clause-reads c =
    λ texts.
    let l0 = leads_self (Then IsIndex (λ i. IsIndexed texts c.args.counts c.args.word i)) follows c.args.tokens.now in
    let l1 = past _ _ _ _ _ _ (indexed_stops texts c.args.counts c.args.word) _ _ _ _ l0 c.in_ok-i.ensures.reads in
    let l2 = leads_on _ _ _ _ _ _ _ _ _ (dot_leads texts c.args.counts c.args.word c.in_ok-i.i _ _ _ c.in-Some.ensures.seen) l1 in
    let l3 = past _ _ _ _ _ _ (never _ _) _ _ _ _ l2 c.in_ok-tree.ensures.reads in
    ends _ _ _ _ _ _ l3
