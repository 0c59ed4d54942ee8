use Rattle.std.specs.Prelude.{◌≡◌, refl, List, ◌++◌}
use Rattle.std.proofs.Common.{arith}
use Rattle.std.proofs.lemmas.Grind.{common_steps}
use Rattle.std.proofs.lemmas.Result.{err_from_is_err_and}
use Rattle.lido_base.specs.Reading.{nothing}
use Rattle.lido_lexer.specs.declared.sign.Sign.TheVariants as sign
use Rattle.lido_lexer.specs.declared.token.TokenKind.TheVariants as kind
use Rattle.lido_syntax.specs.declared.spec.Decl.{Decl}
use Rattle.lido_computations.specs.Phrases.{is_comma_kind}
use Rattle.lido_reader.specs.Items.{is_side}
use Rattle.lido_computations.proofs.PhrasesLemmas.{sees_finds}
use Rattle.lido_reader.proofs.PartsLemmas.{finish, go_on, go_past, stuck_in, read_whole, done_stops, repeat_stops, repeat_finish, repeat_found, repeat_stuck, repeat_ends, seen_goes, unseen_stops}
use Rattle.lido_reader.proofs.DeclarationsLemmas.{decls_begin, decl_steps, further_begins, comma_only}
use Rattle.lido_reader.proofs.declarations.decls.Goals as goal

pub returns-in_err-all-clause-reads : goal.returns-in_err-all-clause-reads
returns-in_err-all-clause-reads c = let p = err_from_is_err_and c.from_residual.result c.from_residual.ensures.1 in rw (p.1, p.2)
    (stuck_in c.args.end (repeat_stops decl_steps) (decls_begin c.args.tokens.now) (repeat_finish decl_steps) c.in_err-all.field-0.0 c.in_err-all.ensures.reads)

pub loop-behind_comma-init : goal.loop-behind_comma-init
loop-behind_comma-init c = record {
  leads = go_past (repeat_stops decl_steps) (decls_begin c.args.tokens.now) c.in_ok-all.ensures.reads;
  shorter = c.in_ok-all.ensures.shorter;
}

pub returns-in_err-more-clause-reads : goal.returns-in_err-more-clause-reads
returns-in_err-more-clause-reads c = let p = err_from_is_err_and c.from_residual-in_err-more.result c.from_residual-in_err-more.ensures.1 in rw (p.1, p.2)
    (let comma = sees_finds (kind.Sign sign.Comma) nothing c.loop-behind_comma.rest.now c.in-Some.behind_comma.now c.in-Some.field-0-0 c.in-Some.ensures.seen in
    let further = go_on (further_begins c.loop-behind_comma.all.items c.loop-behind_comma.rest.now) comma in
    repeat_stuck decl_steps c.args.end
    (seen_goes (kind.Sign sign.Comma) is_comma_kind refl c.loop-behind_comma.rest.now c.in-Some.behind_comma.now c.in-Some.field-0-0 c.in-Some.ensures.seen)
    c.loop-behind_comma.invariant.leads c.in_err-more.field-0.0
    (stuck_in c.args.end (done_stops is_side (λ (more : List Decl). c.loop-behind_comma.all.items ++ more)) further (λ more. finish) c.in_err-more.field-0.0 c.in_err-more.ensures.reads))

pub loop-behind_comma-preserved : goal.loop-behind_comma-preserved
loop-behind_comma-preserved c = record {
  leads = let comma = sees_finds (kind.Sign sign.Comma) nothing c.loop-behind_comma.rest.now c.in-Some.behind_comma.now c.in-Some.field-0-0 c.in-Some.ensures.seen in
      let further = go_on (further_begins c.loop-behind_comma.all.items c.loop-behind_comma.rest.now) comma in
      let items : c.append.new.self.items ≡ c.loop-behind_comma.all.items ++ c.in_ok-more.more.items = c.in_ok-append.ensures.items in
      rw items (repeat_found decl_steps
      (seen_goes (kind.Sign sign.Comma) is_comma_kind refl c.loop-behind_comma.rest.now c.in-Some.behind_comma.now c.in-Some.field-0-0 c.in-Some.ensures.seen)
      c.loop-behind_comma.invariant.leads
      (read_whole (go_past (done_stops is_side (λ (more : List Decl). c.loop-behind_comma.all.items ++ more)) further c.in_ok-more.ensures.reads)));
  shorter = grind (arith, common_steps);
}

pub returns-clause-reads : goal.returns-clause-reads
returns-clause-reads c = repeat_ends decl_steps (unseen_stops (kind.Sign sign.Comma) is_comma_kind comma_only c.loop-behind_comma.rest.now c.in_default.ensures.seen) c.loop-behind_comma.invariant.leads
