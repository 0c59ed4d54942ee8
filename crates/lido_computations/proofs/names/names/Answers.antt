use Rattle.std.specs.Prelude.{◌≡◌, [], ◌∷◌, ◌++◌}
use Rattle.std.proofs.Common.{arith}
use Rattle.std.proofs.lemmas.Grind.{common_steps}
use Rattle.std.proofs.lemmas.Result.{err_from_is_err_and}
use Rattle.lido_base.proofs.ReadingLemmas.{leads_on}
use Rattle.lido_base.specs.Reading.{nothing}
use Rattle.lido_computations.specs.Phrases.{AreMore, AreSeparated, IsName, is_comma}
use Rattle.lido_computations.proofs.PhrasesLemmas.{list_leads, list_fails, more_leads, more_fails, more_ends, refused_by, plain_apart, comma_is_comma, plain_wider}
use Rattle.lido_computations.proofs.names.names.Goals as goal

pub returns-in_err-first-clause-reads : goal.returns-in_err-first-clause-reads
returns-in_err-first-clause-reads c = let p = err_from_is_err_and c.from_residual.result c.from_residual.ensures.1 in rw (p.1, p.2)
    (refused_by IsName (AreSeparated IsName) nothing is_comma c.args.end c.args.tokens.now c.args.tokens.now
    (list_fails IsName nothing is_comma plain_apart comma_is_comma (plain_wider is_comma) c.args.tokens.now) c.in_err-first.field-0.0 c.in_err-first.ensures.reads)

pub loop-more-init : goal.loop-more-init
loop-more-init c = record {
  leads = let items : c.in_ok-found.found.items ≡ c.in_ok-first.first ∷ [] = grind (arith, common_steps) in
      rw items (list_leads IsName nothing is_comma plain_apart comma_is_comma (plain_wider is_comma) c.args.tokens.now c.in_ok-first.rest.now c.in_ok-first.first c.in_ok-first.ensures.reads);
  shorter = c.in_ok-first.ensures.shorter;
}

pub returns-in_err-next-clause-reads : goal.returns-in_err-next-clause-reads
returns-in_err-next-clause-reads c = let p = err_from_is_err_and c.from_residual-in_err-next.result c.from_residual-in_err-next.ensures.1 in rw (p.1, p.2)
    (refused_by IsName (AreSeparated IsName) nothing is_comma c.args.end c.in-Some.more.now c.args.tokens.now
    (λ bad f. c.loop-more.invariant.leads.refuses bad (more_fails IsName nothing is_comma plain_apart comma_is_comma (plain_wider is_comma) c.loop-more.found.items c.loop-more.rest.now c.in-Some.more.now bad c.in-Some.field-0-0 c.in-Some.ensures.seen f))
    c.in_err-next.field-0.0 c.in_err-next.ensures.reads)

pub loop-more-preserved : goal.loop-more-preserved
loop-more-preserved c = record {
  leads = let items : c.push.new.self.items ≡ c.loop-more.found.items ++ c.in_ok-next.next ∷ [] = grind (arith, common_steps) in
      rw items (leads_on (AreMore IsName (c.loop-more.found.items ++ c.in_ok-next.next ∷ [])) (AreMore IsName c.loop-more.found.items) (AreSeparated IsName) is_comma is_comma is_comma c.args.tokens.now c.loop-more.rest.now c.in_ok-next.left.now
      (more_leads IsName nothing is_comma plain_apart comma_is_comma (plain_wider is_comma) c.loop-more.found.items c.loop-more.rest.now c.in-Some.more.now c.in_ok-next.left.now c.in-Some.field-0-0 c.in_ok-next.next c.in-Some.ensures.seen c.in_ok-next.ensures.reads) c.loop-more.invariant.leads);
  shorter = grind (arith, common_steps);
}

pub returns-clause-reads : goal.returns-clause-reads
returns-clause-reads c = c.loop-more.invariant.leads.finds c.loop-more.found.items c.loop-more.rest.now
    (more_ends IsName nothing is_comma plain_apart comma_is_comma (plain_wider is_comma) c.loop-more.found.items c.loop-more.rest.now c.in_default.ensures.seen)
