use Rattle.std.specs.Prelude.{◌+◌, ◌++◌, IsTrue, take, drop, get_or, All, refl}
use Rattle.std.proofs.Common.{subst, sym, ap, ◌∙◌}
use Rattle.std.proofs.lemmas.List.{take_more, take_all, drop_more, take-append-drop}
use Rattle.std.proofs.lemmas.List.Elements.{All-push}
use Rattle.lido_syntax.specs.declared.spec.Pair.{Pair}
use Rattle.expr_types.specs.Scopes.{spec_of}
use Rattle.expr_types.specs.Pairs.{IsAlike}
use Rattle.expr_types.proofs.pairs.first_unlike.Goals as goal

abbrev none : Pair
none = record { sym = record { at = 0; id = record { 0 = 0 } }; attr = record { at = 0; id = record { 0 = 0 } } }

pub is_alike-requires-clause-pair : goal.is_alike-requires-clause-pair
is_alike-requires-clause-pair c = c.requires.pairs c.loop-pair.pair-index none c.loop-pair-test.true

pub returns-then-not-is_alike-clause-some : goal.returns-then-not-is_alike-clause-some
returns-then-not-is_alike-clause-some c =
    let i = c.loop-pair.pair-index in
    let pairs = c.args.pairs.now in
    record {
      front = take i pairs;
      other = get_or pairs i none;
      back = drop (i + 1) pairs;
      split = sym (take-append-drop i pairs) ∙ ap (λ rest. take i pairs ++ rest) (drop_more pairs i none c.loop-pair-test.true);
      alike = c.loop-pair.invariant;
      unlike = λ sets. c.is_alike.ensures.no c.if-not-is_alike.true sets;
      place = refl;
    }

pub loop-pair-preserved : goal.loop-pair-preserved
loop-pair-preserved c =
    let i = c.loop-pair.pair-index in
    let pairs = c.args.pairs.now in
    let alike = IsAlike (spec_of c.args.scope.now) c.args.ty in
    subst (All alike) (sym (take_more pairs i none c.loop-pair-test.true))
    (All-push alike (take i pairs) (get_or pairs i none) c.loop-pair.invariant (λ sets. c.is_alike.ensures.yes (subst IsTrue (sym c.if-not-is_alike.false) refl) sets))

pub returns-clause-none : goal.returns-clause-none
returns-clause-none c =
    subst (All (IsAlike (spec_of c.args.scope.now) c.args.ty)) (take_all c.loop-pair.pair-index c.args.pairs.now c.loop-pair-test.false) c.loop-pair.invariant
