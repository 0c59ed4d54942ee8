use Rattle.std.proofs.Common.{ℕ, List, ◌<◌, length, sym, ◌∙◌, ap, arith}
use Rattle.std.proofs.lemmas.Grind.{common_steps}
use Rattle.std.proofs.lemmas.List.{map_more}
use Rattle.std.specs.Borrow.{Bor}
use Rattle.lido_lexer.proofs.Reading.{gains_none, gains_more}
use Rattle.lido_lexer.specs.Tables.{interned}
use Rattle.lido_lexer.proofs.TablesLemmas.{interned_none}
use Rattle.lido_reader.proofs.AddedLemmas.{interned_more, gains_this}
use Rattle.lido_reader.proofs.known_words.intern_all.Goals as goal

pub loop-name-init : goal.loop-name-init
loop-name-init c = record { table = sym (interned_none c.args.strings.now); kept = gains_none c.args.strings.now }

pub loop-name-preserved : goal.loop-name-preserved
loop-name-preserved c =
    let within : c.loop-name.name-index < length c.args.names.now = grind (arith, common_steps) in record {
      table = interned_more c.args.strings.now c.loop-name.strings c.intern.new.self _ _ c.loop-name.invariant.table c.in_ok-intern.ensures.texts
          ∙ ap (interned c.args.strings.now) (sym (map_more (λ (name : Bor (List ℕ)). name.now) c.args.names.now c.loop-name.name-index _ within));
      kept = gains_more c.loop-name.invariant.kept (gains_this c.loop-name.strings c.intern.new.self _ c.in_ok-intern.ensures.texts);
    }
