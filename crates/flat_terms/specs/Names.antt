-- What the tables of a plain rule have for a name.
use Rattle.std.specs.Prelude.{ℕ, nat_eq, Option, option_map, unwrap_or}
use Rattle.std.specs.HashMap as table
use Rattle.lido_syntax.specs.Computation.{Holder, by_rule, by_symbol}
use Rattle.numbered_computations.specs.declared.table.Holder.{Holder as Body}
use Rattle.numbered_computations.specs.declared.table.Holder.TheVariants as body
use Rattle.rule_tables.specs.Slots.{Front, Behind}
use Rattle.rule_tables.specs.Shares.{Term, Read, Copied}
use Rattle.flat_terms.specs.declared.sets.Sets.{Sets}
use Rattle.flat_terms.specs.declared.tails.Tail.{Tail}
use Rattle.flat_terms.specs.declared.tails.Tail.TheVariants as tail
use Rattle.flat_terms.specs.declared.tails.Tails.{Tails}

-- the number of the set of the INCLUDING at that place
unfoldable pub set_in : Sets → ℕ → ℕ
set_in sets at = unwrap_or (table.get nat_eq sets.numbers at) 0

-- whose body a computation stands in
abbrev pub holder_as : Body → Holder
holder_as body.Rule = by_rule
holder_as body.Symbol = by_symbol

-- what the chain has behind the last child
abbrev pub tail_as : ℕ → Tail → Term
tail_as c (tail.Child j) = Read j (Behind c)
tail_as c tail.Front = Read 0 (Front c)
tail_as c (tail.Start held) = Copied (holder_as held.holder) held.comp.now

unfoldable pub tail_in : Tails → ℕ → Option Term
tail_in tails c = option_map (tail_as c) (table.get nat_eq tails.tails c)
