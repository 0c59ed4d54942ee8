use Rattle.std.specs.Prelude.{◌≡◌, [], ◌∷◌, ◌++◌}
use Rattle.std.proofs.Common.{arith}
use Rattle.std.proofs.lemmas.Grind.{common_steps}
use Rattle.std.proofs.lemmas.Result.{err_from_is_err_and}
use Rattle.lido_base.proofs.ReadingLemmas.{leads_on}
use Rattle.lido_base.specs.Reading.{nothing}
use Rattle.lido_computations.specs.Phrases.{AreMore, IsName, is_comma}
use Rattle.lido_computations.proofs.PhrasesLemmas.{leads_self, more_leads, more_fails, more_ends, refused_by, plain_apart, comma_is_comma, plain_wider}
use Rattle.lido_reader.proofs.symbols.further_names.Goals as goal

pub loop-behind_comma-init : goal.loop-behind_comma-init
loop-behind_comma-init c = let items : c.in_ok-all.all.items ≡ c.args.first ∷ [] = grind (arith, common_steps) in record {
  leads = rw items (leads_self (AreMore IsName (c.args.first ∷ [])) is_comma c.args.tokens.now);
  no_longer = omega arith;
}

pub returns-in_err-more-clause-reads : goal.returns-in_err-more-clause-reads
returns-in_err-more-clause-reads c = let p = err_from_is_err_and c.from_residual-in_err-more.result c.from_residual-in_err-more.ensures.1 in rw (p.1, p.2)
    (refused_by IsName (AreMore IsName (c.args.first ∷ [])) nothing is_comma c.args.end c.in-Some.behind_comma.now c.args.tokens.now
    (λ bad f. c.loop-behind_comma.invariant.leads.refuses bad
    (more_fails IsName nothing is_comma plain_apart comma_is_comma (plain_wider is_comma) c.loop-behind_comma.all.items c.loop-behind_comma.rest.now c.in-Some.behind_comma.now bad c.in-Some.field-0-0 c.in-Some.ensures.seen f))
    c.in_err-more.field-0.0 c.in_err-more.ensures.reads)

pub loop-behind_comma-preserved : goal.loop-behind_comma-preserved
loop-behind_comma-preserved c = record {
  leads = let items : c.push.new.self.items ≡ c.loop-behind_comma.all.items ++ c.in_ok-more.more ∷ [] = c.in_ok-push.ensures.items in
      rw items (leads_on (AreMore IsName (c.loop-behind_comma.all.items ++ c.in_ok-more.more ∷ [])) (AreMore IsName c.loop-behind_comma.all.items) (AreMore IsName (c.args.first ∷ [])) is_comma is_comma is_comma c.args.tokens.now c.loop-behind_comma.rest.now c.in_ok-more.behind.now
      (more_leads IsName nothing is_comma plain_apart comma_is_comma (plain_wider is_comma) c.loop-behind_comma.all.items c.loop-behind_comma.rest.now c.in-Some.behind_comma.now c.in_ok-more.behind.now c.in-Some.field-0-0 c.in_ok-more.more c.in-Some.ensures.seen c.in_ok-more.ensures.reads)
      c.loop-behind_comma.invariant.leads);
  no_longer = grind (arith, common_steps);
}

pub returns-clause-reads : goal.returns-clause-reads
returns-clause-reads c = c.loop-behind_comma.invariant.leads.finds c.loop-behind_comma.all.items c.loop-behind_comma.rest.now
    (more_ends IsName nothing is_comma plain_apart comma_is_comma (plain_wider is_comma) c.loop-behind_comma.all.items c.loop-behind_comma.rest.now c.in_default.ensures.seen)
