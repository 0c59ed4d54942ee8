-- Chains that are declared again.
use Rattle.std.specs.Prelude.{Contains}
use Rattle.std.proofs.Common.{◌≡◌, ℕ, ◌<◌, inl, inr, List, Option, Some, None, refl, arith, sym, subst}
use Rattle.std.proofs.lemmas.List.Elements.{Contains-append_left, Contains-append_right, Contains-append_cases}
use Rattle.lido_syntax.specs.declared.spec.Spec.{Spec}
use Rattle.lido_syntax.specs.declared.spec.Name.{Name}
use Rattle.lido_syntax.specs.Production.{name_of}
use Rattle.lido_symbols.specs.Uses.{declared_names}
use Rattle.kind_clashes.specs.declared.firsts.Firsts.{Firsts}
use Rattle.kind_clashes.specs.Firsts.{first_of, AreFirsts, IsAt, IsBehind}
use Rattle.kind_clashes.specs.KindClash.{IsChainAgain, chain_names, behind_a_chain, behind_an_attribute}
use Rattle.kind_clashes.specs.Least.{IsFirst, Among, earlier_of}
use Rattle.kind_clashes.proofs.LeastLemmas.{first-same, first-join}

-- what has a first place is noted there, and not before
pub behind-to : {P : ℕ → ℕ → Type 0} {firsts : Firsts} (x : Name) → AreFirsts P firsts → IsBehind firsts x → (first : ℕ) × P (name_of x) first × (first < x.at)
behind-to x are (first, e, lt) = (first, ((are.each (name_of x)).some first e).there, lt)

pub to-behind : {P : ℕ → ℕ → Type 0} {firsts : Firsts} (x : Name) (at : ℕ) → AreFirsts P firsts → P (name_of x) at → at < x.at → IsBehind firsts x
to-behind {P} {firsts} x at are p lt = go (first_of firsts (name_of x)) refl
  where
    go : (o : Option ℕ) → first_of firsts (name_of x) ≡ o → IsBehind firsts x
    go None e = absurd ((are.each (name_of x)).none e at p)
    go (Some first) e = let le = ((are.each (name_of x)).some first e).least at p in (first, e, omega (arith, le, lt))

-- the names in a list, and the one that is looked up
abbrev pub Named : List Name → ℕ → ℕ → Type 0
Named xs id = Among (λ (x : Name). IsAt x id) xs

abbrev pub Behind : Firsts → List Name → ℕ → Type 0
Behind firsts = Among (λ (x : Name) at. IsBehind firsts x × (at ≡ x.at))

pub behind-pair : {firsts : Firsts} {xs ys : List Name} {at : ℕ} → AreFirsts (Named xs) firsts → Behind firsts ys at
    → (x y : Name) × Contains xs x × Contains ys y × (name_of x ≡ name_of y) × (x.at < y.at) × (at ≡ y.at)
behind-pair are h = let (first, n, lt) = behind-to h.item are h.is.0 in let spot = n.is.1 in (n.item, h.item, n.among, h.among, n.is.0, omega (arith, lt, spot), h.is.1)

pub pair-behind : {firsts : Firsts} {xs ys : List Name} {at : ℕ} (x y : Name) → AreFirsts (Named xs) firsts → Contains xs x → Contains ys y → name_of x ≡ name_of y → x.at < y.at → at ≡ y.at → Behind firsts ys at
pair-behind x y are mx my same lt e = record { item = y; among = my; is = (to-behind y x.at are (record { item = x; among = mx; is = (same, refl) }) lt, e) }

pub chain-again : (spec : Spec) (chains declared : List Name) (of_chains of_declared : Firsts) (a b d r s : Option ℕ) → chains ≡ chain_names spec → declared ≡ declared_names spec
    → AreFirsts (Named chains) of_chains → AreFirsts (Named declared) of_declared → s ≡ earlier_of a b → r ≡ earlier_of s d
    → IsFirst (Behind of_chains chains) a → IsFirst (Behind of_chains declared) b → IsFirst (Behind of_declared chains) d → IsFirst (IsChainAgain spec) r
chain-again spec chains declared of_chains of_declared a b d r s ec ed are_chains are_declared e f first second third = first-same
    (λ at h. elim h [
      | inl k ↦ elim k [
        | inl p ↦ (let (x, y, mx, my, same, lt, spot) = behind-pair are_chains p in
            behind_a_chain x y (in_chains x mx) (Contains-append_left (chain_names spec) (declared_names spec) y (in_chains y my)) same lt spot)
        | inr p ↦ (let (x, y, mx, my, same, lt, spot) = behind-pair are_chains p in
            behind_a_chain x y (in_chains x mx) (Contains-append_right (chain_names spec) (declared_names spec) y (in_declared y my)) same lt spot)
      ]
      | inr p ↦ (let (x, y, mx, my, same, lt, spot) = behind-pair are_declared p in behind_an_attribute x y (in_declared x mx) (in_chains y my) same lt spot)
    ])
    (λ at h. elim h [
      | behind_a_chain x y mx my same lt spot ↦ elim (Contains-append_cases (chain_names spec) (declared_names spec) y my) [
        | inl k ↦ inl (inl (pair-behind x y are_chains (of_chain x mx) (of_chain y k) same lt spot))
        | inr k ↦ inl (inr (pair-behind x y are_chains (of_chain x mx) (of_declaration y k) same lt spot))
      ]
      | behind_an_attribute x y mx my same lt spot ↦ inr (pair-behind x y are_declared (of_declaration x mx) (of_chain y my) same lt spot)
    ])
    (first-join f (first-join e first second) third)
  where
    in_chains : (x : Name) → Contains chains x → Contains (chain_names spec) x
    in_chains x m = subst (λ (xs : List Name). Contains xs x) ec m

    of_chain : (x : Name) → Contains (chain_names spec) x → Contains chains x
    of_chain x m = subst (λ (xs : List Name). Contains xs x) (sym ec) m

    in_declared : (x : Name) → Contains declared x → Contains (declared_names spec) x
    in_declared x m = subst (λ (xs : List Name). Contains xs x) ed m

    of_declaration : (x : Name) → Contains (declared_names spec) x → Contains declared x
    of_declaration x m = subst (λ (xs : List Name). Contains xs x) (sym ed) m
