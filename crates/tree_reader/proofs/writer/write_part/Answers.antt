use Rattle.std.proofs.Common.{sym, ◌∙◌, ap, ℕ, ℤ, List, refl, arith, length}
use Rattle.std.proofs.Common.{rules}
use Rattle.std.specs.Int.{w64}
use Rattle.std.proofs.lemmas.Int.{to_z-of_z}
use Rattle.tree_reader.specs.declared.part.Part.TheVariants as part
use Rattle.tree_reader.proofs.Written.{part_is, err_of}
use Rattle.tree_reader.proofs.IntsLemmas.{has_int, on_ok}
use Rattle.lido_lexer.proofs.TablesLemmas.{interned_none}
use Rattle.tree_reader.specs.Tables.{begins}
use Rattle.tree_reader.proofs.TablesOfParts.{ok_read, err_read, told_at, end_read}
use Rattle.tree_reader.proofs.writer.write_part.Goals as goal

pub returns-in-Err-clause-refused : goal.returns-in-Err-clause-refused
returns-in-Err-clause-refused c = λ texts gains size most more answer written.
    c.in-Err.ensures.refused texts gains size most more answer (part_is (c.in-Begin.is ∙ ap (λ (l : List ℕ). part.Begin c.in-Begin.at c.in-Begin.name_at l c.in-Begin.coordinates) (sym c.as_slice.ensures)) written)

pub returns-in-Err-write_int-clause-refused : goal.returns-in-Err-write_int-clause-refused
returns-in-Err-write_int-clause-refused c = λ texts gains size most more answer written.
    c.in-Err-write_int.ensures.refused texts c.args.strings.now most c.args.outer.now more answer (part_is (c.in-Int.is ∙ ap (λ (z : ℤ). part.Int c.in-Int.at z) (sym (to_z-of_z w64 c.in-Int.value (search rules)))) written)

pub returns-in-Err-write_text-clause-refused : goal.returns-in-Err-write_text-clause-refused
returns-in-Err-write_text-clause-refused c = λ texts gains size most more answer written.
    c.in-Err-write_text.ensures.refused texts most c.args.outer.now more answer (part_is (c.in-Str.is ∙ ap (λ (l : List ℕ). part.Str c.in-Str.at l) (sym c.as_slice-in-Str.ensures)) written)

pub returns-in-End-clause-refused : goal.returns-in-End-clause-refused
returns-in-End-clause-refused c = err_of c.write_end.result 0 (λ (n : ℕ). c.write_end.ensures.refused)
    (λ e refused texts gains size most more answer written. refused 0 texts c.args.strings.now c.args.tree.now most more answer (part_is c.in-End.is written))

pub returns-in-Ok-clause-int : goal.returns-in-Ok-clause-int
returns-in-Ok-clause-int c = has_int c.in-Begin.is tt

pub returns-in-Ok-write_int-clause-int : goal.returns-in-Ok-write_int-clause-int
returns-in-Ok-write_int-clause-int c = has_int c.in-Int.is (search rules)

pub returns-in-Ok-write_text-clause-int : goal.returns-in-Ok-write_text-clause-int
returns-in-Ok-write_text-clause-int c = has_int c.in-Str.is tt

pub returns-in-End-clause-int : goal.returns-in-End-clause-int
returns-in-End-clause-int c = on_ok c.write_end.result (has_int c.in-End.is tt)

pub returns-in-Ok-clause-read : goal.returns-in-Ok-clause-read
returns-in-Ok-clause-read c = ok_read c.args.strings.now c.write_node.new.strings c.args.part.now (part.Begin c.in-Begin.at c.in-Begin.name_at c.as_slice.result.now c.in-Begin.coordinates) (c.in-Begin.is ∙ ap (λ (l : List ℕ). part.Begin c.in-Begin.at c.in-Begin.name_at l c.in-Begin.coordinates) (sym c.as_slice.ensures)) c.in-Ok.ensures.read

pub returns-in-Err-clause-read : goal.returns-in-Err-clause-read
returns-in-Err-clause-read c = err_read c.args.strings.now c.write_node.new.strings (length c.args.tree.now) c.in-Err.e c.args.part.now (part.Begin c.in-Begin.at c.in-Begin.name_at c.as_slice.result.now c.in-Begin.coordinates) (c.in-Begin.is ∙ ap (λ (l : List ℕ). part.Begin c.in-Begin.at c.in-Begin.name_at l c.in-Begin.coordinates) (sym c.as_slice.ensures)) c.in-Err.ensures.read

pub returns-in-Ok-write_int-clause-read : goal.returns-in-Ok-write_int-clause-read
returns-in-Ok-write_int-clause-read c = ok_read c.args.strings.now c.args.strings.now c.args.part.now _ c.in-Int.is (sym (interned_none c.args.strings.now))

pub returns-in-Err-write_int-clause-read : goal.returns-in-Err-write_int-clause-read
returns-in-Err-write_int-clause-read c = err_read c.args.strings.now c.args.strings.now (length c.args.tree.now) c.in-Err-write_int.e c.args.part.now _ c.in-Int.is
    (told_at c.args.strings.now c.args.strings.now (length c.args.tree.now) c.in-Int.at c.in-Err-write_int.e _ refl (sym (interned_none c.args.strings.now)) c.in-Err-write_int.ensures.place)

pub returns-in-Ok-write_text-clause-read : goal.returns-in-Ok-write_text-clause-read
returns-in-Ok-write_text-clause-read c = ok_read c.args.strings.now c.write_text.new.strings c.args.part.now (part.Str c.in-Str.at c.as_slice-in-Str.result.now) (c.in-Str.is ∙ ap (λ (l : List ℕ). part.Str c.in-Str.at l) (sym c.as_slice-in-Str.ensures)) c.in-Ok-write_text.ensures.read

pub returns-in-Err-write_text-clause-read : goal.returns-in-Err-write_text-clause-read
returns-in-Err-write_text-clause-read c = err_read c.args.strings.now c.write_text.new.strings (length c.args.tree.now) c.in-Err-write_text.e c.args.part.now (part.Str c.in-Str.at c.as_slice-in-Str.result.now) (c.in-Str.is ∙ ap (λ (l : List ℕ). part.Str c.in-Str.at l) (sym c.as_slice-in-Str.ensures)) c.in-Err-write_text.ensures.read

pub returns-in-End-clause-read : goal.returns-in-End-clause-read
returns-in-End-clause-read c = end_read c.args.strings.now (length c.args.tree.now) c.in-End.at c.args.part.now c.write_end.result c.in-End.is c.write_end.ensures.place

pub returns-in-Ok-clause-count : goal.returns-in-Ok-clause-count
returns-in-Ok-clause-count c = omega (arith, ap begins c.in-Begin.is, c.in-Ok.ensures.count)

pub returns-in-Ok-write_int-clause-count : goal.returns-in-Ok-write_int-clause-count
returns-in-Ok-write_int-clause-count c = omega (arith, ap begins c.in-Int.is, c.write_int.ensures.count)

pub returns-in-Ok-write_text-clause-count : goal.returns-in-Ok-write_text-clause-count
returns-in-Ok-write_text-clause-count c = omega (arith, ap begins c.in-Str.is, c.write_text.ensures.count)

pub returns-in-End-clause-count : goal.returns-in-End-clause-count
returns-in-End-clause-count c = on_ok c.write_end.result (omega (arith, ap begins c.in-End.is))
