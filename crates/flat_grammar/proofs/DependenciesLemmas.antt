-- The induced dependencies are the least relations that feed each other, and grow with the rules.
use Rattle.std.specs.Prelude.{List, Contains}
use Rattle.lido_base.specs.declared.ids.SymId.{SymId}
use Rattle.lido_base.specs.declared.ids.AttrId.{AttrId}
use Rattle.flat_grammar.specs.declared.flat.Occ.{Occ}
use Rattle.flat_grammar.specs.declared.flat.FlatRule.{FlatRule}
use Rattle.flat_grammar.specs.Dependencies.{IDP, IDS, Joins, direct, induced, edge, further, joined, IsClosed}

module _ (rules : List FlatRule) (P : FlatRule → Occ → Occ → Type 0) (S : SymId → AttrId → AttrId → Type 0) (closed : IsClosed rules P S) where
  mutual
    pub IDP-least : {r : FlatRule} {u v : Occ} → Contains rules r → IDP rules r u v → P r u v
    IDP-least among (direct e) = closed.direct_edges _ _ _ among e
    IDP-least among (induced same at e) = closed.induced_edges _ _ _ _ among same at (IDS-least e)

    pub Joins-least : {r : FlatRule} {u v : Occ} → Contains rules r → Joins rules r u v → P r u v
    Joins-least among (edge e) = IDP-least among e
    Joins-least among (further e more) = closed.transitive _ _ _ _ among (IDP-least among e) (Joins-least among more)

    pub IDS-least : {x : SymId} {a b : AttrId} → IDS rules x a b → S x a b
    IDS-least (joined among path same at) = closed.projected _ _ _ _ among (Joins-least among path) same at

module _ (rules more : List FlatRule) (kept : (r : FlatRule) → Contains rules r → Contains more r) where
  mutual
    pub IDP-grows : {r : FlatRule} {u v : Occ} → IDP rules r u v → IDP more r u v
    IDP-grows (direct e) = direct e
    IDP-grows (induced same at e) = induced same at (IDS-grows e)

    pub Joins-grows : {r : FlatRule} {u v : Occ} → Joins rules r u v → Joins more r u v
    Joins-grows (edge e) = edge (IDP-grows e)
    Joins-grows (further e rest) = further (IDP-grows e) (Joins-grows rest)

    pub IDS-grows : {x : SymId} {a b : AttrId} → IDS rules x a b → IDS more x a b
    IDS-grows (joined among path same at) = joined (kept _ among) (Joins-grows path) same at
