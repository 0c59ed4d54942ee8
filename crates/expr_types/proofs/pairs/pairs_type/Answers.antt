use Rattle.std.specs.Prelude.{get_or}
use Rattle.std.proofs.Common.{sym, ap, ◌∙◌}
use Rattle.std.proofs.lemmas.Option.{slice_get-get_or}
use Rattle.lido_syntax.specs.declared.fault.SpecFault.TheVariants as fault
use Rattle.lido_syntax.specs.declared.spec.Pair.{Pair}
use Rattle.lido_syntax.specs.Attributes.{Has, HasType}
use Rattle.expr_types.specs.Scopes.{spec_of}
use Rattle.expr_types.proofs.ScopeLemmas.{lacks, tells, pair-types}
use Rattle.expr_types.proofs.pairs.pairs_type.Goals as goal

abbrev none : Pair
none = record { sym = record { at = 0; id = record { 0 = 0 } }; attr = record { at = 0; id = record { 0 = 0 } } }

pub unreachable-requires : goal.unreachable-requires
unreachable-requires c =
    let first = get_or c.args.pairs.now 0 none in
    let spec = spec_of c.args.scope.now in
    lacks (Has spec first.sym.id.0 first.attr.id.0) (λ ty. HasType spec first.sym.id.0 first.attr.id.0 ty) _ (sym c.attribute.ensures ∙ c.in-None.is) (c.requires.scope.types.attribute first.sym.id.0 first.attr.id.0) (c.requires.pairs.1 0 none c.requires.pairs.0)

pub returns-in-Some-first_unlike-clause-err : goal.returns-in-Some-first_unlike-clause-err
returns-in-Some-first_unlike-clause-err c = λ sets.
    let first = get_or c.args.pairs.now 0 none in
    let spec = spec_of c.args.scope.now in
    let unlike = c.in-Some-first_unlike.ensures.some in
    record {
      first = first;
      is_first = slice_get-get_or c.args.pairs.now 0 none c.requires.pairs.0;
      ty = c.in-Some.ty;
      its = tells (Has spec first.sym.id.0 first.attr.id.0 → ⊥) (λ ty. HasType spec first.sym.id.0 first.attr.id.0 ty) _ c.in-Some.ty (sym c.attribute.ensures ∙ c.in-Some.is) (c.requires.scope.types.attribute first.sym.id.0 first.attr.id.0);
      front = unlike.front;
      other = unlike.other;
      back = unlike.back;
      split = unlike.split;
      alike = λ k d less. unlike.alike k d less sets;
      unlike = unlike.unlike sets;
      fault = ap (λ at. fault.TypeMismatch at) (sym unlike.place);
    }

pub returns-in-None-first_unlike-clause-ok : goal.returns-in-None-first_unlike-clause-ok
returns-in-None-first_unlike-clause-ok c = λ sets.
    pair-types (spec_of c.args.scope.now) sets c.args.pairs.now c.in-Some.ty c.requires.pairs.0 (λ k d less. c.in-None-first_unlike.ensures.none k d less sets)
