use Rattle.std.proofs.Common.{refl, sym, subst, arith, List, ℕ}
use Rattle.flat_grammar.specs.declared.plan.VisitClass.{VisitClass}
use Rattle.flat_grammar.specs.Partition.{AreAllVisits}
use Rattle.partitions.specs.Peeling.{AreRows}
use Rattle.partitions.specs.Symbols.{AreAllLaterRows}
use Rattle.partitions.proofs.SymbolsLemmas.{rows-of, parts-push, all-visits, all-later, all-last}
use Rattle.partitions.proofs.symbols.partition_symbols.Goals as goal

pub partition_symbol-requires : goal.partition_symbol-requires
partition_symbol-requires c = subst (λ (rows : List ℕ). AreRows c.args.flat.now.symbols c.args.flat.now.rules (record { 0 = c.loop-x.x }) rows) (sym c.rows_of.ensures)
    (rows-of c.args.flat.now.symbols c.args.flat.now.rules c.args.deps.now.ids (record { 0 = c.loop-x.x }) c.requires)

pub loop-x-preserved : goal.loop-x-preserved
loop-x-preserved c = parts-push c.args.flat.now.symbols c.args.flat.now.rules c.loop-x.x c.loop-x.visits.items c.push.new.self.items c.loop-x.later.items c.push-in-loop-x.new.self.items (record { 0 = c.loop-x.x })
    c.in_ok-parts.parts.visits c.in_ok-parts.parts.later c.loop-x.invariant refl c.in_ok-push.ensures.items c.in_ok-push-2.ensures.items c.in_ok-parts.ensures.visits c.in_ok-parts.ensures.later c.in_ok-parts.ensures.last

pub returns-clause-visits : goal.returns-clause-visits
returns-clause-visits c = λ peeled. subst (λ (visits : List (List VisitClass)). AreAllVisits c.args.flat.now.symbols c.args.flat.now.rules visits) (sym c.from_vec.ensures)
    (all-visits c.args.flat.now.symbols c.args.flat.now.rules c.loop-x.x c.loop-x.visits.items c.loop-x.later.items c.loop-x.invariant (omega (arith, c.len-x-end.ensures)) peeled)

pub returns-clause-later : goal.returns-clause-later
returns-clause-later c = subst (λ (later : List (List ℕ)). AreAllLaterRows c.args.flat.now.symbols c.args.flat.now.rules later) (sym c.from_vec-2.ensures)
    (all-later c.args.flat.now.symbols c.args.flat.now.rules c.loop-x.x c.loop-x.visits.items c.loop-x.later.items c.loop-x.invariant (omega (arith, c.len-x-end.ensures)))

pub returns-clause-last : goal.returns-clause-last
returns-clause-last c = all-last c.args.flat.now.symbols c.args.flat.now.rules c.loop-x.x c.loop-x.visits.items c.loop-x.later.items c.loop-x.invariant (omega (arith, c.len-x-end.ensures))
