use Rattle.std.proofs.Common.{sym, ◌∙◌, refl, subst, ℕ, List, []}
use Rattle.std.proofs.Common.{length}
use Rattle.lido_base.specs.declared.value.ValueType.TheVariants as type
use Rattle.tree_reader.specs.Asking.{asked}
use Rattle.lido_lexer.specs.Lexing.{Gains}
use Rattle.tree_reader.proofs.Naming.{gains_text}
use Rattle.tree_reader.proofs.Written.{written_text, stopped_text, written_grown, fails_if, ok_of, err_of}
use Rattle.lido_lexer.proofs.TablesLemmas.{interned_one}
use Rattle.tree_reader.specs.declared.part.Part.TheVariants as part
use Rattle.tree_reader.proofs.TablesOfParts.{read_at}
use Rattle.tree_reader.proofs.writer.write_text.Goals as goal

pub returns-in-Ok-clause-goes : goal.returns-in-Ok-clause-goes
returns-in-Ok-clause-goes c = ok_of c.add_leaf.result c.add_leaf.ensures.grown c.add_leaf.ensures.added c.add_leaf.ensures.tree c.add_leaf.ensures.taken
    (λ now is added tree taken names most outer more answer written.
    written_text (asked c.args.flat.now.symbols c.args.flat.now.rules c.args.flat.now.shapes c.args.flat.now.root names) (length c.args.flat.now.shapes) most c.args.parent outer more answer c.intern.new.self c.args.tree.now c.add_leaf.new.tree c.args.at c.args.text.now c.in-Ok.id now is (taken names)
    added tree c.in-Ok.ensures.id (written_grown (subst (λ (l : List (List ℕ)). Gains c.args.strings.now l) (sym c.in-Ok.ensures.texts) (gains_text c.args.strings.now c.args.text.now)) written))

pub returns-in-Ok-clause-refused : goal.returns-in-Ok-clause-refused
returns-in-Ok-clause-refused c = err_of c.add_leaf.result [] c.add_leaf.ensures.refused
    (λ e refused names most outer more answer written. fails_if ((asked c.args.flat.now.symbols c.args.flat.now.rules c.args.flat.now.shapes c.args.flat.now.root names).takes_value c.args.parent.shape c.args.parent.has type.Str) c.args.at e (refused names)
    (λ fails. stopped_text (asked c.args.flat.now.symbols c.args.flat.now.rules c.args.flat.now.shapes c.args.flat.now.root names) (length c.args.flat.now.shapes) most c.args.parent outer more answer c.args.strings.now c.args.tree.now c.args.at c.args.text.now fails written))

pub returns-in-Ok-clause-count : goal.returns-in-Ok-clause-count
returns-in-Ok-clause-count c = c.add_leaf.ensures.count

pub returns-in-Ok-clause-read : goal.returns-in-Ok-clause-read
returns-in-Ok-clause-read c = read_at c.args.strings.now c.intern.new.self (length c.args.tree.now) c.args.at (part.Str c.args.at c.args.text.now) c.add_leaf.result refl
    (c.in-Ok.ensures.texts ∙ sym (interned_one c.args.strings.now c.args.text.now)) c.add_leaf.ensures.place
