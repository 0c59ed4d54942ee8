use Rattle.std.proofs.Common.{◌∙◌, sym, ap, true≢false}
use Rattle.symbol_inherit.specs.Entries.{attrs_of}
use Rattle.symbol_inherit.proofs.ClashLemmas.{other-none, is-nonterminal, its-name, all-kinds}
use Rattle.symbol_inherit.proofs.clashes.row_clash.Goals as goal

pub returns-then-not-is_nonterminal : goal.returns-then-not-is_nonterminal
returns-then-not-is_nonterminal c = λ env t T s known numbers at row chains.
    other-none env t c.args.symbols.now known T c.args.x s at c.args.row.now row (λ e. true≢false (sym (c.is_nonterminal.ensures.1 e) ∙ c.if-not-is_nonterminal.true))

pub returns-in-Some : goal.returns-in-Some
returns-in-Some c = λ env t T s known numbers at row chains. (
  c.in-Some.ensures env t T s known numbers at (is-nonterminal env t c.args.symbols.now known T c.args.x s at c.args.row.now row (c.is_nonterminal.ensures.0 c.if-not-is_nonterminal.false))
      (ap attrs_of row ∙ sym c.as_slice-attrs.ensures) chains,
  its-name env t c.args.symbols.now known T c.args.x s at c.args.row.now row,
)

pub returns-in-None : goal.returns-in-None
returns-in-None c = λ env t T s known numbers at row chains.
    all-kinds env t c.args.symbols.now known T c.args.x s at
    (c.in-None.ensures env t T s known numbers at (is-nonterminal env t c.args.symbols.now known T c.args.x s at c.args.row.now row (c.is_nonterminal.ensures.0 c.if-not-is_nonterminal.false))
    (ap attrs_of row ∙ sym c.as_slice-attrs.ensures) chains)
