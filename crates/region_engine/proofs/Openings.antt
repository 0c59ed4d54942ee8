-- A region at its opening.
use Rattle.std.specs.Prelude.{flat_map, sum_by, vec_capacity, ◌==◌, if◌then◌else◌}
use Rattle.std.proofs.lemmas.List.Sums.{sum_by-append, sum_by-cons}
use Rattle.std.proofs.lemmas.List.Elements.{filter-append}
use Rattle.std.proofs.Common.{◌≡◌, ◌≤◌, ℕ, Bool, true, false, List, [], ◌∷◌, length, drop, refl, arith, ap, sym, ◌∙◌, subst}
use Rattle.lido_base.proofs.Lists.{contains-nil}
use Rattle.lido_base.specs.Tree.{contains}
use Rattle.flat_grammar.specs.WholeOrder.{Instance}
use Rattle.core_machine.specs.Machine.{Item, eval_of, put_of, own}
use Rattle.core_machine.specs.Core.{Task, IsTask, home, instances_in_order, items_for, machine}
use Rattle.core_machine.specs.Cursors.{left, IsCursor}
use Rattle.core_machine.specs.Runs.{cells_in, cost_in}
use Rattle.core_machine.proofs.RoomLemmas.{enough}
use Rattle.region_engine.specs.declared.marks.Mark.TheVariants.{Missing, Evaluated}
use Rattle.region_engine.specs.declared.region.Region.{Region}
use Rattle.region_engine.specs.Behind.{list, cost_of, keys_at, keys_since, words_of}
use Rattle.region_engine.specs.Kept.{AreEmpty, AreSized, IsBehind}
use Rattle.region_engine.specs.Steps.{IsEmptyBench}
use Rattle.region_engine.specs.Notebooks.{HasNotebook}
use Rattle.region_engine.specs.Regions.{IsDesk, IsRegionOf}

module _ (j : Task) (r : ℕ) where
  -- what the region takes of the items of an instance
  abbrev both : Instance → Bool → List (Item Instance)
  both i own = if own then eval_of i ∷ (if own then put_of i ∷ [] else []) else (if own then put_of i ∷ [] else [])

  abbrev one : Instance → Bool → List (Item Instance)
  one i own = if own then eval_of i ∷ [] else []

  -- the items of a region need no more text cells than its instances
  cost-own : (l : List Instance) → sum_by (cost_of j r) (own (machine j) r (flat_map (items_for j) l)) ≤ sum_by (cost_in j r) l
  cost-own [] = omega arith
  cost-own (i ∷ l) =
      let rest = cost-own l in
      let a = ap (sum_by (cost_of j r)) (filter-append (λ z. home j z.makes == r) (items_for j i) (flat_map (items_for j) l)) in
      let b = sum_by-append (cost_of j r) (own (machine j) r (items_for j i)) (own (machine j) r (flat_map (items_for j) l)) in
      let c : sum_by (cost_of j r) (own (machine j) r (items_for j i)) ≤ cost_in j r i = cases (contains i.0 j.nodes) in
      let d = sum_by-cons (cost_in j r) i l in
      omega (arith, rest, a, b, c, d)
    where
      here : (split own : Bool) → sum_by (cost_of j r) (if split then both i own else one i own) ≤ cost_in j r i
      here true true = let a = sum_by-cons (cost_of j r) (eval_of i) (put_of i ∷ []) in let b = sum_by-cons (cost_of j r) (put_of i) [] in omega (arith, a, b)
      here true false = omega arith
      here false true = let a = sum_by-cons (cost_of j r) (eval_of i) [] in omega (arith, a)
      here false false = omega arith

      cases : (split : Bool) → sum_by (cost_of j r) (own (machine j) r (if split then eval_of i ∷ put_of i ∷ [] else eval_of i ∷ [])) ≤ cost_in j r i
      cases true = here true (home j i == r)
      cases false = here false (home j i == r)

  module _ (task : IsTask j) (g : Region) where
    enough-space : sum_by (cost_of j r) (list j r) ≤ cells_in j r
    enough-space = let a = cost-own (instances_in_order j) in let b = enough j task r in omega (arith, a, b)

    pub opened : r ≤ length j.nodes → IsCursor j g.cursor → left j g.cursor ≡ list j r → g.count ≡ length (list j r) → g.position ≡ 0 → g.since ≡ 0
        → g.values.region ≡ r → AreSized j r g.values → AreEmpty g.values → IsEmptyBench j r g.bench → g.puts.items ≡ [] → length (keys_at j r g.count) ≤ vec_capacity g.puts
        → IsDesk j g.desk (if g.numbered then r ∷ [] else []) → g.desk.view.mine ≡ [] → HasNotebook j r g.notebook → IsRegionOf j r g
    opened is cursor whole count position since region sized empty bench puts room desk mine notebook = record {
      is_region = is;
      cursor = cursor;
      rest = whole ∙ ap (λ n. drop n (list j r)) (sym position);
      count = count;
      within = omega (arith, position);
      behind = subst (λ n. IsBehind j r n g.values g.bench.room) (sym position) (record {
        region = region;
        sized = sized;
        keeps = record {
          values = λ i m. absurd (contains-nil (eval_of i) m);
          marked = λ key m. absurd (m.2 (empty key m.0 m.1));
          evaluated = λ i m s. absurd (contains-nil (eval_of i) m);
          owned = λ i s e. let z : Evaluated ≡ Missing = empty _ Evaluated e in absurd (cc);
        };
        number = bench.number;
        deposits = bench.deposits;
        space = let a = enough-space in let b = bench.space in omega (arith, a, b);
      });
      puts = puts ∙ ap (keys_at j r) (sym position);
      puts_room = room;
      empty = bench.empty;
      stack = bench.stack;
      since = omega (arith, position, since);
      desk = desk;
      used = record {
        inputs = λ n i k low high e need far. absurd (omega (arith, high, position));
        puts = λ yes n i low high e. absurd (omega (arith, high, position));
        mine = mine ∙ nothing g.numbered ∙ (λ z. if g.numbered then words_of (keys_since j r (sym since z) (sym position z)) else []);
      };
      notebook = notebook;
    }
      where
        nothing : (b : Bool) → ◌≡◌ {A = List ℕ} [] (if b then words_of (keys_since j r 0 0) else [])
        nothing true = refl
        nothing false = refl
