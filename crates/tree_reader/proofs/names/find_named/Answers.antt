use Rattle.std.proofs.Common.{sym, ◌∙◌, ap, subst, arith, None, ℕ, List}
use Rattle.std.specs.Option.{option_flatten}
use Rattle.lido_lexer.specs.Lexing.{Gains}
use Rattle.lido_lexer.proofs.Reading.{gains_more}
use Rattle.lido_lexer.proofs.TablesLemmas.{interned_one}
use Rattle.tree_reader.proofs.Naming.{gains_text, named_first, flat_is, found_inside}
use Rattle.tree_reader.proofs.names.find_named.Goals as goal

pub returns-in-Ok-clause-found : goal.returns-in-Ok-clause-found
returns-in-Ok-clause-found c = λ texts gains size.
    let all = gains_more gains (subst (λ (l : List (List ℕ)). Gains c.args.strings.now l) (sym c.in-Ok.ensures.texts) (gains_text c.args.strings.now c.args.name.now)) in
    c.flatten.ensures ∙ ap option_flatten c.copied.ensures ∙ flat_is c.get.result ∙ c.get.ensures.lookup.4 (omega arith) None
    ∙ named_first texts c.intern.new.self all c.in-Ok.ensures.distinct c.in-Ok.id.0 c.args.name.now c.in-Ok.ensures.id c.args.flat.now.symbols c.args.flat.now.rules c.args.flat.now.shapes c.args.flat.now.root c.args.names.now c.requires size

pub returns-in-Ok-clause-inside : goal.returns-in-Ok-clause-inside
returns-in-Ok-clause-inside c = found_inside c.args.flat.now.rules c.args.flat.now.shapes c.args.names.now c.in-Ok.id.0 c.flatten.result c.requires
    (c.flatten.ensures ∙ ap option_flatten c.copied.ensures ∙ flat_is c.get.result ∙ c.get.ensures.lookup.4 (omega arith) None)

pub returns-in-Ok-clause-table : goal.returns-in-Ok-clause-table
returns-in-Ok-clause-table c = c.in-Ok.ensures.texts ∙ sym (interned_one c.args.strings.now c.args.name.now)
