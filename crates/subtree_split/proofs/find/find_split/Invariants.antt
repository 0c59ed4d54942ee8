use Rattle.std.proofs.Common.{◌<◌}
use Rattle.lido_base.specs.declared.ids.SymId.{SymId as Symbol}
use Rattle.subtree_split.specs.Named.{IsNonterminalNamed}
use Rattle.subtree_split.proofs.find.find_split.Given as goal

-- no symbol so far is a nonterminal of this name
abbrev pub invariant-loop-k : goal.invariant-loop-k
invariant-loop-k l = (s : Symbol) → s.0 < l.k → IsNonterminalNamed l.flat.symbols l.flat.rules l.flat.shapes l.strings l.name s → ⊥
