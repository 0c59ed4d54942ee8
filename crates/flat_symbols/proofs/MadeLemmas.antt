-- Attributes that are made at ids below one number are made at ids below a smaller one.
use Rattle.std.proofs.Common.{ℕ, ◌≤◌, List, [], ◌∷◌, arith}
use Rattle.std.specs.List.{AllZip}
use Rattle.lido_base.specs.Environment.{Environment}
use Rattle.flat_grammar.specs.declared.flat.FlatAttr.{FlatAttr}
use Rattle.flat_grammar.specs.declared.flat.FlatSymbol.{FlatSymbol}
use Rattle.rule_tables.specs.declared.table.SymbolRow.{SymbolRow}
use Rattle.flat_slots.specs.declared.slot.Slot.{Slot}
use Rattle.flat_slots.specs.declared.slot.Slot.TheVariants.{Written, Inc, Con, Front, Behind, Msg, Out}
use Rattle.flat_symbols.specs.declared.attributes.Added.{Added}
use Rattle.flat_symbols.specs.Attributes.{IsBelow, IsAddedAttr, IsMade}
use Rattle.flat_symbols.specs.Rows.{IsSymbolOf}

below-more : (m n : ℕ) (s : Slot) → m ≤ n → IsBelow m s → IsBelow n s
below-more m n (Front c) h b = omega (arith, h, b)
below-more m n (Behind c) h b = omega (arith, h, b)
below-more m n (Written a) h b = b
below-more m n (Inc i) h b = b
below-more m n (Con k) h b = b
below-more m n (Msg j) h b = b
below-more m n Out h b = b

module _ (env : Environment) (m n : ℕ) (h : m ≤ n) (added : Added) (attrs : List FlatAttr) where
  one-below : (s : Slot) (attr : FlatAttr) → IsAddedAttr env n added s attr → IsAddedAttr env m added s attr
  one-below s attr is = record { name = λ b. is.name (below-more m n s h b); kind = is.kind; ty = is.ty; written = is.written; message = is.message }

  pub made-below : (s : Slot) (attr : FlatAttr) → IsMade env n added attrs s attr → IsMade env m added attrs s attr
  made-below (Written a) attr is = is
  made-below (Inc i) attr is = one-below (Inc i) attr is
  made-below (Con k) attr is = one-below (Con k) attr is
  made-below (Front c) attr is = one-below (Front c) attr is
  made-below (Behind c) attr is = one-below (Behind c) attr is
  made-below (Msg j) attr is = one-below (Msg j) attr is
  made-below Out attr is = one-below Out attr is

  pub all-below : (slots : List Slot) (made : List FlatAttr) → AllZip (IsMade env n added attrs) slots made → AllZip (IsMade env m added attrs) slots made
  all-below [] [] all = all
  all-below [] (a ∷ made) all = absurd all
  all-below (s ∷ slots) [] all = absurd all
  all-below (s ∷ slots) (a ∷ made) all = (made-below s a all.0, all-below slots made all.1)

pub symbol-below : (env : Environment) (m n : ℕ) → m ≤ n → (added : Added) (row : SymbolRow) (slots : List Slot) (symbol : FlatSymbol)
    → IsSymbolOf env n added row slots symbol → IsSymbolOf env m added row slots symbol
symbol-below env m n h added row slots symbol is = record
    { name = is.name; terminal = is.terminal; attrs = all-below env m n h added row.attrs slots symbol.attrs is.attrs }
