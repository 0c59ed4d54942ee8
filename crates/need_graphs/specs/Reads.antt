-- The leaves that read a chain.
use Rattle.std.specs.Prelude.{ℕ, Bool, true, false, not, ◌&&◌, nat_eq}
use Rattle.lido_syntax.specs.declared.spec.Expr.{Expr, Read}
use Rattle.lido_syntax.specs.declared.spec.Place.{Place}
use Rattle.lido_syntax.specs.declared.spec.Place.TheVariants as place
use Rattle.lido_syntax.specs.Production.{name_of}

abbrev pub is_tail_place : Place → Bool
is_tail_place place.Tail = true
is_tail_place _ = false

-- the leaf reads the chain, which starts in the rule or not
abbrev pub reads : ℕ → Bool → Expr → Bool
reads c starts (Read at p a) = nat_eq (name_of a) c && not (is_tail_place p && starts)
reads c starts _ = false
