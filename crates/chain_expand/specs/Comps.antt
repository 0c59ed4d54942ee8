-- The computations of what chains have in the plain rules, as their walks give them.
use Rattle.std.specs.Prelude.{ℕ, suc, List, [], ◌++◌, flat_map, filter_map, Option, None, option_map, slice_get, unwrap_or}
use Rattle.lido_base.specs.declared.ids.SymId.{SymId}
use Rattle.flat_grammar.specs.declared.flat.FlatRule.{FlatRule}
use Rattle.lido_symbols.specs.Numbers.{enumerated}
use Rattle.rule_tables.specs.declared.extra.ExtraComp.{ExtraComp}
use Rattle.rule_tables.specs.declared.extra.Slot.TheVariants as named
use Rattle.rule_tables.specs.declared.extra.Term.{Term}
use Rattle.rule_tables.specs.declared.extra.Term.TheVariants as given
use Rattle.chain_expand.specs.declared.walk.Source.{Source}
use Rattle.chain_expand.specs.declared.walk.Source.TheVariants as source
use Rattle.chain_expand.specs.declared.walk.Walk.{Walk}

-- what comes from there, in the chain that is declared at the place
abbrev pub term_of : ℕ → Source → Term
term_of i (source.Written n) = given.Copied n
term_of i source.Front = given.Read (record { occ = 0; slot = named.Front i })
term_of i (source.Child j) = given.Read (record { occ = j; slot = named.Behind i })

-- from where comes what that child has in front, if it needs the chain
abbrev pub front_in : Walk → ℕ → Option Source
front_in walk j = unwrap_or (slice_get walk.fronts j) None

-- the computation at the left side of the rule of that number, and at a child, of a chain by its place and its walk
abbrev pub behind_comp : ℕ → ℕ × Walk → Option ExtraComp
behind_comp k x = option_map (λ (s : Source). record { rule = record { 0 = k }; occ = 0; slot = named.Behind x.0; value = term_of x.0 s }) x.1.behind

abbrev pub front_comp : ℕ → ℕ → ℕ × Walk → Option ExtraComp
front_comp k j x = option_map (λ (s : Source). record { rule = record { 0 = k }; occ = suc j; slot = named.Front x.0; value = term_of x.0 s }) (front_in x.1 j)

abbrev pub behind_comps : ℕ → List Walk → List ExtraComp
behind_comps k walks = filter_map (behind_comp k) (enumerated 0 walks)

abbrev pub front_comps : ℕ → List Walk → ℕ → List ExtraComp
front_comps k walks j = filter_map (front_comp k j) (enumerated 0 walks)

-- those of a plain rule, and of all
abbrev pub rule_comps : List Walk → ℕ × FlatRule → List ExtraComp
rule_comps walks x = behind_comps x.0 walks ++ flat_map (λ (y : ℕ × SymId). front_comps x.0 walks y.0) (enumerated 0 x.1.right)

abbrev pub walks_at : List (List Walk) → ℕ → List Walk
walks_at walks k = unwrap_or (slice_get walks k) []

abbrev pub all_comps : List (List Walk) → List FlatRule → List ExtraComp
all_comps walks plain = flat_map (λ (x : ℕ × FlatRule). rule_comps (walks_at walks x.0) x) (enumerated 0 plain)
