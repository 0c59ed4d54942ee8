-- The computations that use a chain, as the tables hold them.
use Rattle.std.specs.Prelude.{◌≡◌, ℕ, ◌↔◌, Bool, true, false, ◌||◌, nat_eq, IsTrue, if◌then◌else◌, List, [], ◌∷◌, ◌++◌, map, flat_map, filter, filter_map, Option, None, slice_get, unwrap_or, Contains}
use Rattle.std.specs.HashSet as bag
use Rattle.std.specs.List.{list_any}
use Rattle.lido_base.specs.declared.ids.SymId.{SymId}
use Rattle.lido_syntax.specs.declared.spec.Spec.{Spec}
use Rattle.lido_syntax.specs.declared.spec.Comp.{Comp}
use Rattle.lido_syntax.specs.declared.spec.Typed1.{Typed1}
use Rattle.lido_syntax.specs.declared.spec.RuleItem.{RuleItem}
use Rattle.lido_syntax.specs.declared.spec.SymbolItem.{SymbolItem}
use Rattle.lido_syntax.specs.Parts.{leaves_of}
use Rattle.lido_symbols.specs.Numbers.{enumerated}
use Rattle.lido_symbols.specs.Uses.{computations}
use Rattle.flat_grammar.specs.declared.flat.FlatRule.{FlatRule}
use Rattle.rule_tables.specs.declared.forced.Force.{Force as Entry}
use Rattle.rule_tables.specs.declared.forced.Goal.{Goal}
use Rattle.rule_tables.specs.declared.forced.Goal.TheVariants as goal
use Rattle.need_graphs.specs.declared.numbers.Numbers.{Numbers}
use Rattle.need_graphs.specs.declared.readers.Readers.{Readers}
use Rattle.need_graphs.specs.Reads.{reads}
use Rattle.need_graphs.specs.Starts.{is_called, starts}

-- whether the number is in the set
unfoldable pub has : Numbers → ℕ → Bool
has numbers n = bag.contains nat_eq numbers.ids n

-- the numbers of a body's computations that read the chain, which starts in their rule or not
abbrev pub readers_of : ℕ → Bool → List Comp → List ℕ
readers_of c starts body = map (λ (k : Comp). k.number) (filter (λ (k : Comp). list_any (reads c starts) (leaves_of k)) body)

-- those of the text
abbrev pub text_readers : Spec → ℕ → Bool → List ℕ
text_readers spec c starts = flat_map (λ (r : RuleItem). readers_of c starts r.body) spec.rules ++ flat_map (λ (item : SymbolItem). readers_of c starts item.body) spec.symbols

-- The sets of those that read the chain where it doesn't start in their rule, and where it does.
pub record AreReaders (spec : Spec) (c : ℕ) (readers : Readers) : Type 0 where
  pub any : (n : ℕ) → IsTrue (has readers.any n) ↔ Contains (text_readers spec c false) n
  pub own : (n : ℕ) → IsTrue (has readers.own n) ↔ Contains (text_readers spec c true) n

-- the computation of this number reads the chain, which starts in its rule or not
abbrev pub reads_by : Readers → Bool → ℕ → Bool
reads_by readers starts n = if starts then has readers.own n else has readers.any n

-- the goal is what is behind the left side in the chain
abbrev pub is_behind : List Typed1 → ℕ → Goal → Bool
is_behind chains c (goal.Behind i) = is_called chains c i
is_behind chains c _ = false

-- the symbol at an occurrence
abbrev pub symbol_in : FlatRule → ℕ → Option ℕ
symbol_in rule k = slice_get (rule.left.0 ∷ map (λ (s : SymId). s.0) rule.right) k

-- the symbol of the context of a computation, if it uses the chain
abbrev pub user_by : List Typed1 → ℕ → Readers → Bool → FlatRule → Entry → Option ℕ
user_by chains c readers starts rule e = if is_behind chains c e.goal || reads_by readers starts e.number then symbol_in rule e.context else None

-- what is in force in the rule of that number
abbrev pub entries_at : List (List Entry) → ℕ → List Entry
entries_at comps i = unwrap_or (slice_get comps i) []

-- the symbols that use the chain in a plain rule, and in all
abbrev pub rule_users : List Typed1 → ℕ → Readers → FlatRule → List Entry → List ℕ
rule_users chains c readers rule es = filter_map (user_by chains c readers (list_any (starts chains c) es) rule) es

abbrev pub all_users : List Typed1 → ℕ → Readers → List FlatRule → List (List Entry) → List ℕ
all_users chains c readers plain comps = flat_map (λ (x : ℕ × FlatRule). rule_users chains c readers x.1 (entries_at comps x.0)) (enumerated 0 plain)

-- numbers tell the computations of the text from each other
abbrev pub TellComputations : Spec → Type 0
TellComputations spec = (k l : Comp) → Contains (computations spec) k → Contains (computations spec) l → k.number ≡ l.number → k ≡ l
