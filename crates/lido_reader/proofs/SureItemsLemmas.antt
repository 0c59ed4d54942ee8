-- Items and whole specifications: two at the same tokens are the same.
use Rattle.std.proofs.Common.{◌≡◌, ℕ, ◌+◌, ◌⊎◌, inl, inr, Bool, true, false, ◌||◌, Option, Some, None, List, [], ◌∷◌, ◌++◌, length, refl, sym, ap}
use Rattle.lido_base.specs.Reading.{SameHead, GoesOn, nothing}
use Rattle.lido_base.specs.Texts.{IsDistinctTexts}
use Rattle.lido_base.specs.declared.ids.StrId.{StrId}
use Rattle.lido_base.specs.declared.kinds.Kind.{Kind}
use Rattle.lido_base.specs.declared.kinds.Kind.TheVariants as side
use Rattle.lido_base.specs.declared.value.ValueType.{ValueType}
use Rattle.lido_lexer.specs.Seen.{token, Signs, Keys}
use Rattle.lido_lexer.specs.declared.keyword.Keyword.TheVariants as key
use Rattle.lido_lexer.specs.declared.sign.Sign.TheVariants as sign
use Rattle.lido_lexer.specs.declared.token.Token.{Token}
use Rattle.lido_lexer.specs.declared.token.TokenKind.TheVariants as kind
use Rattle.lido_syntax.specs.declared.spec.Name.{Name}
use Rattle.lido_syntax.specs.declared.spec.Comp.{Comp}
use Rattle.lido_syntax.specs.declared.spec.Decl.{Decl}
use Rattle.lido_syntax.specs.declared.spec.Element.{Element}
use Rattle.lido_syntax.specs.declared.spec.Element.TheVariants as element
use Rattle.lido_syntax.specs.declared.spec.SymbolItem.{SymbolItem}
use Rattle.lido_syntax.specs.declared.spec.Spec.{Spec}
use Rattle.lido_computations.specs.Phrases.{Done, Then, IsName, word, is_comma}
use Rattle.lido_computations.specs.Computations.{continues_computation}
use Rattle.lido_computations.specs.Messages.{IsComputationIn}
use Rattle.lido_computations.specs.declared.owners.Owner.{Owner}
use Rattle.lido_computations.specs.declared.owners.Owner.TheVariants as owner
use Rattle.lido_reader.specs.Items as grammar
use Rattle.lido_reader.specs.Items.{Repeats, IsTerminalType, AreNames, IsSide, is_side, is_side_kind, declared, IsDecl, IsFurtherDecl, AreDecls, continues_decls, IsAttr, IsTerm, IsChain, IsElement, IsFurtherElement, is_element, is_element_kind, IsFurtherListed, AreChoices, is_bar, is_bar_kind, IsRight, continues_right, called_in, is_word, AreInherited, continues_inherited, IsSymbolHead, IsRuleName, IsDeclaring, is_not_end, is_not_end_kind, IsFurtherComputation, AreComputations, IsBody, IsComputing, IsAbout, IsSymbol, IsRule, begins_item, no_items, IsRuleItem, IsSymbolItem, IsAttrItem, IsTermItem, IsChainItem, IsFurtherItem, IsSpec}
use Rattle.lido_reader.specs.Specification.{IsSpecOf, words_in}
use Rattle.lido_reader.proofs.PartsLemmas.{Steps, done_stops, done_stops_wide, repeat_stops, seen_goes}
use Rattle.lido_reader.proofs.DeclarationsLemmas.{colon_stops, semicolon_stops, decl_steps}
use Rattle.lido_reader.proofs.RightSidesLemmas.{element_steps, bar_steps, element_continues, bar_continues}
use Rattle.lido_reader.proofs.NamesOfRulesLemmas.{colon_names}
use Rattle.lido_reader.proofs.BodiesLemmas.{computation_steps, semicolon_computations, end_stops, body_stops}
use Rattle.lido_reader.proofs.SymbolsLemmas.{inherits_goes, comma_continues, declaring_goes, computing_apart, inherited_stops}
use Rattle.lido_reader.proofs.ItemsLemmas.{head_apart, rule_from, attr_from, term_from, chain_from, symbol_from, item_steps}
use Rattle.lido_reader.proofs.SureLemmas.{Rests, IsOnly, IsSure, sure_of, done_sure, then_sure, lead_sure, wide_sure, wider_by, only_by, optional_sure, sees_sure, sees_same, sees_apart, name_same, name_sure, type_same, type_sure, plain_more_sure, plain_separated_sure, repeats_sure}
use Rattle.lido_reader.proofs.SureMessagesLemmas.{computation_in_sure}

-- ---- declarations

terminal_type_same : (ts us vs : List Token) (x y : ValueType) → IsTerminalType ts x us → IsTerminalType ts y vs → (y ≡ x) × (vs ≡ us)
terminal_type_same ts us vs x y (grammar.terminal_type p h) (grammar.terminal_type q g) = type_same ts us vs x y p q

names_sure : IsSure AreNames is_comma
names_sure = plain_separated_sure name_sure

unsaid_only : (ts : List Token) → Rests is_side ts → (y : Option Kind) (vs : List Token) → IsSide ts y vs → (y ≡ None) × (vs ≡ ts)
unsaid_only ts r y vs grammar.unsaid = (refl, refl)
unsaid_only ts r y vs (grammar.synt {word = w} s) = absurd (r (seen_goes (kind.Key key.Synt) is_side_kind refl ts vs w s))
unsaid_only ts r y vs (grammar.inh {word = w} s) = absurd (r (seen_goes (kind.Key key.Inh) is_side_kind refl ts vs w s))

synt_only : (ts us : List Token) (t : Token) → Keys key.Synt ts t us → (y : Option Kind) (vs : List Token) → IsSide ts y vs → Rests is_side vs → (y ≡ Some side.Synthesized) × (vs ≡ us)
synt_only ts us t s y vs grammar.unsaid r = absurd (r (seen_goes (kind.Key key.Synt) is_side_kind refl ts us t s))
synt_only ts us t s y vs (grammar.synt {word = w} n) r = (refl, (sees_same (kind.Key key.Synt) ts us vs t w s n).1)
synt_only ts us t s y vs (grammar.inh {word = w} n) r = absurd (sees_apart (kind.Key key.Synt) (kind.Key key.Inh) ts us vs t w (λ d. cc) s n)

inh_only : (ts us : List Token) (t : Token) → Keys key.Inh ts t us → (y : Option Kind) (vs : List Token) → IsSide ts y vs → Rests is_side vs → (y ≡ Some side.Inherited) × (vs ≡ us)
inh_only ts us t s y vs grammar.unsaid r = absurd (r (seen_goes (kind.Key key.Inh) is_side_kind refl ts us t s))
inh_only ts us t s y vs (grammar.inh {word = w} n) r = (refl, (sees_same (kind.Key key.Inh) ts us vs t w s n).1)
inh_only ts us t s y vs (grammar.synt {word = w} n) r = absurd (sees_apart (kind.Key key.Inh) (kind.Key key.Synt) ts us vs t w (λ d. cc) s n)

side_at : (ts : List Token) (x : Option Kind) (us : List Token) → IsSide ts x us → IsOnly IsSide is_side ts x us
side_at ts x us grammar.unsaid = record { phrase = grammar.unsaid; only = λ r y vs m q. unsaid_only ts r y vs m }
side_at ts x us (grammar.synt {word = w} s) = record { phrase = grammar.synt s; only = λ r y vs m q. synt_only ts us w s y vs m q }
side_at ts x us (grammar.inh {word = w} s) = record { phrase = grammar.inh s; only = λ r y vs m q. inh_only ts us w s y vs m q }

decl_sure : IsSure IsDecl is_side
decl_sure = then_sure (colon_stops _ is_side) names_sure (λ names. lead_sure sees_sure (λ colon. lead_sure type_sure (λ type. then_sure (done_stops is_side (λ k. declared names type k)) (record { sure = side_at }) (λ k. done_sure _))))

further_decl_sure : (found : List Decl) → IsSure (IsFurtherDecl found) is_side
further_decl_sure found = lead_sure sees_sure (λ comma. then_sure (done_stops is_side (λ (more : List Decl). found ++ more)) decl_sure (λ more. done_sure _))

decls_sure : IsSure AreDecls continues_decls
decls_sure = then_sure (repeat_stops decl_steps) decl_sure (λ d. repeats_sure decl_steps further_decl_sure d)

attr_sure : {c : Token → Bool} → IsSure IsAttr c
attr_sure {c = c} = lead_sure sees_sure (λ word. then_sure (semicolon_stops _ c) decls_sure (λ all. lead_sure sees_sure (λ semicolon. done_sure all)))

term_sure : {c : Token → Bool} → IsSure IsTerm c
term_sure {c = c} = lead_sure sees_sure (λ word. then_sure (colon_stops _ c) names_sure (λ names. lead_sure sees_sure (λ colon. lead_sure (sure_of terminal_type_same) (λ type. lead_sure sees_sure (λ semicolon. done_sure _)))))

chain_sure : {c : Token → Bool} → IsSure IsChain c
chain_sure {c = c} = lead_sure sees_sure (λ word. then_sure (colon_stops _ c) names_sure (λ names. lead_sure sees_sure (λ colon. lead_sure type_sure (λ type. lead_sure sees_sure (λ semicolon. done_sure _)))))

-- ---- right sides

element_same : (ts us vs : List Token) (x y : Element) → IsElement ts x us → IsElement ts y vs → (y ≡ x) × (vs ≡ us)
element_same ts us vs x y (grammar.symbol {name = n} p) (grammar.symbol {name = m} q) = let (e, b) = name_same ts us vs n m p q in (ap (λ (z : Name). element.Symbol z) e, b)
element_same ts us vs x y (grammar.symbol (word e)) (grammar.literal (token d)) = cc
element_same ts us vs x y (grammar.literal (token e)) (grammar.symbol (word d)) = cc
element_same ts us vs x y (grammar.literal {id = id} (token e)) (grammar.literal {id = other} (token d)) = let same : other ≡ id = cc in (ap (λ (k : StrId). element.Literal k) same, refl)

further_element_sure : (found : List Element) → IsSure (IsFurtherElement found) nothing
further_element_sure found = lead_sure (sure_of element_same) (λ e. done_sure _)

further_listed_sure : (found : List Element) → IsSure (IsFurtherListed found) nothing
further_listed_sure found = lead_sure sees_sure (λ bar. lead_sure name_sure (λ name. done_sure _))

choices_sure : IsSure AreChoices is_bar
choices_sure = lead_sure name_sure (λ name. repeats_sure bar_steps further_listed_sure (element.Symbol name ∷ []))

abbrev Production : List Token → Bool × List Element → List Token → Type 0
Production = Then (Signs sign.Produces) (λ produces. Then (Repeats IsFurtherElement []) (λ all. Done (false, all)))

production_sure : IsSure Production continues_right
production_sure = lead_sure sees_sure (λ produces. then_sure (done_stops_wide is_element continues_right element_continues (λ (all : List Element). (false, all))) (repeats_sure element_steps further_element_sure []) (λ all. done_sure _))

abbrev Listof : List Token → Bool × List Element → List Token → Type 0
Listof = Then (Keys key.Listof) (λ word. Then AreChoices (λ all. Done (true, all)))

listof_sure : IsSure Listof continues_right
listof_sure = lead_sure sees_sure (λ word. then_sure (done_stops_wide is_bar continues_right bar_continues (λ (all : List Element). (true, all))) choices_sure (λ all. done_sure _))

to_production : (ts us : List Token) (x : Bool × List Element) → Production ts x us → (y : Bool × List Element) (vs : List Token) → IsRight ts y vs → Rests continues_right vs → Production ts y vs
to_production ts us x p y vs (grammar.production q) r = q
to_production ts us x p y vs (grammar.listof q) r = absurd (sees_apart (kind.Sign sign.Produces) (kind.Key key.Listof) ts p.between q.between p.value q.value (λ d. cc) p.first q.first)

to_listof : (ts us : List Token) (x : Bool × List Element) → Listof ts x us → (y : Bool × List Element) (vs : List Token) → IsRight ts y vs → Rests continues_right vs → Listof ts y vs
to_listof ts us x p y vs (grammar.production q) r = absurd (sees_apart (kind.Sign sign.Produces) (kind.Key key.Listof) ts q.between p.between q.value p.value (λ d. cc) q.first p.first)
to_listof ts us x p y vs (grammar.listof q) r = q

right_at : (ts : List Token) (x : Bool × List Element) (us : List Token) → IsRight ts x us → IsOnly IsRight continues_right ts x us
right_at ts x us (grammar.production p) = only_by (grammar.production p) (to_production ts us x p) (production_sure.sure ts x us p)
right_at ts x us (grammar.listof p) = only_by (grammar.listof p) (to_listof ts us x p) (listof_sure.sure ts x us p)

-- ---- how symbols and rules begin

inherited_sure : IsSure AreInherited continues_inherited
inherited_sure = optional_sure [] (λ ts y us p. inherits_goes ts p.between p.value p.first) (lead_sure sees_sure (λ word. wide_sure (wider_by is_comma continues_inherited comma_continues) names_sure))

abbrev Class : List Token → ℕ × Bool → List Token → Type 0
Class = Then (Keys key.Class) (λ word. Then (Keys key.Symbol) (λ symbol. Done (word.from, true)))

class_sure : IsSure Class nothing
class_sure = lead_sure sees_sure (λ word. lead_sure sees_sure (λ symbol. done_sure _))

abbrev Plain : List Token → ℕ × Bool → List Token → Type 0
Plain = Then (Keys key.Symbol) (λ symbol. Done (symbol.from, false))

plain_sure : IsSure Plain nothing
plain_sure = lead_sure sees_sure (λ symbol. done_sure _)

to_class : (ts us : List Token) (x : ℕ × Bool) → Class ts x us → (y : ℕ × Bool) (vs : List Token) → IsSymbolHead ts y vs → Rests nothing vs → Class ts y vs
to_class ts us x p y vs (grammar.class q) r = q
to_class ts us x p y vs (grammar.plain q) r = absurd (sees_apart (kind.Key key.Class) (kind.Key key.Symbol) ts p.between q.between p.value q.value (λ d. cc) p.first q.first)

to_plain : (ts us : List Token) (x : ℕ × Bool) → Plain ts x us → (y : ℕ × Bool) (vs : List Token) → IsSymbolHead ts y vs → Rests nothing vs → Plain ts y vs
to_plain ts us x p y vs (grammar.class q) r = absurd (sees_apart (kind.Key key.Class) (kind.Key key.Symbol) ts q.between p.between q.value p.value (λ d. cc) q.first p.first)
to_plain ts us x p y vs (grammar.plain q) r = q

head_at : (ts : List Token) (x : ℕ × Bool) (us : List Token) → IsSymbolHead ts x us → IsOnly IsSymbolHead nothing ts x us
head_at ts x us (grammar.class p) = only_by (grammar.class p) (to_class ts us x p) (class_sure.sure ts x us p)
head_at ts x us (grammar.plain p) = only_by (grammar.plain p) (to_plain ts us x p) (plain_sure.sure ts x us p)

name_goes : (ts us : List Token) (n : Name) → IsName ts n us → GoesOn is_word ts
name_goes ts us n (word e) = rw e refl

rule_name_sure : (called : ℕ → StrId) (k at : ℕ) → IsSure (IsRuleName called k at) is_word
rule_name_sure called k at = optional_sure (record { at = at; id = called k }) (λ ts y us p. name_goes ts p.between p.value p.first) (lead_sure name_sure (λ name. done_sure _))

declaring_sure : (head : ℕ × Bool) (first : Name) (n : ℕ) → IsSure (IsDeclaring head first n) nothing
declaring_sure head first n = then_sure (colon_stops _ nothing) (plain_more_sure name_sure (first ∷ [])) (λ names. lead_sure sees_sure (λ colon. then_sure (semicolon_stops _ nothing) decls_sure (λ all. lead_sure sees_sure (λ semicolon. done_sure _))))

-- ---- items

same_head : (ts : List Token) → SameHead ts ts
same_head [] = tt
same_head (t ∷ ts) = refl

resting : {A : Type 0} (us : List Token) → A ⊎ GoesOn nothing us → Rests nothing us → A
resting us (inl a) r = a
resting us (inr g) r = absurd (r g)

module _ (One : ℕ → List Token → Comp × ℕ → List Token → Type 0) (steps : Steps (IsFurtherComputation One) is_not_end nothing is_not_end) (one : (n : ℕ) → IsSure (One n) continues_computation) where
  further_computation_sure : (found : List Comp × ℕ) → IsSure (IsFurtherComputation One found) nothing
  further_computation_sure found = then_sure (semicolon_computations _ nothing) (one found.1) (λ comp. lead_sure sees_sure (λ semicolon. done_sure _))

  computations_sure : (n : ℕ) → IsSure (AreComputations One n) is_not_end
  computations_sure n = optional_sure ([], n) (λ ts y us p. seen_goes (kind.Key key.Compute) is_not_end_kind refl ts p.between p.value p.first) (lead_sure sees_sure (λ word. repeats_sure steps further_computation_sure ([], n)))

  body_sure : {c : Token → Bool} (n : ℕ) → IsSure (IsBody One n) c
  body_sure {c = c} n = then_sure (end_stops _ c) (computations_sure n) (λ all. lead_sure sees_sure (λ word. lead_sure sees_sure (λ semicolon. done_sure all)))

  computing_sure : (head : ℕ × Bool) (first : Name) (n : ℕ) → IsSure (IsComputing One head first n) nothing
  computing_sure head first n = then_sure (inherited_stops One n _ nothing) inherited_sure (λ inherited. lead_sure (body_sure n) (λ all. done_sure _))

  module _ (head : ℕ × Bool) (first : Name) (n : ℕ) where
    to_declaring : (ts us : List Token) (x : SymbolItem × ℕ) → IsDeclaring head first n ts x us → (y : SymbolItem × ℕ) (vs : List Token) → IsAbout One head first n ts y vs → Rests nothing vs → IsDeclaring head first n ts y vs
    to_declaring ts us x p y vs (grammar.declaring q) r = q
    to_declaring ts us x p y vs (grammar.computing q) r = absurd (computing_apart One head first n ts q.between q.rest.between q.value q.rest.value q.first q.rest.first (declaring_goes head first n ts us x p))

    to_computing : (ts us : List Token) (x : SymbolItem × ℕ) → IsComputing One head first n ts x us → (y : SymbolItem × ℕ) (vs : List Token) → IsAbout One head first n ts y vs → Rests nothing vs → IsComputing One head first n ts y vs
    to_computing ts us x p y vs (grammar.declaring q) r = absurd (computing_apart One head first n ts p.between p.rest.between p.value p.rest.value p.first p.rest.first (declaring_goes head first n ts vs y q))
    to_computing ts us x p y vs (grammar.computing q) r = q

    about_at : (ts : List Token) (x : SymbolItem × ℕ) (us : List Token) → IsAbout One head first n ts x us → IsOnly (IsAbout One head first n) nothing ts x us
    about_at ts x us (grammar.declaring p) = only_by (grammar.declaring p) (to_declaring ts us x p) ((declaring_sure head first n).sure ts x us p)
    about_at ts x us (grammar.computing p) = only_by (grammar.computing p) (to_computing ts us x p) ((computing_sure head first n).sure ts x us p)

  symbol_sure : (n : ℕ) → IsSure (IsSymbol One n) nothing
  symbol_sure n = lead_sure (record { sure = head_at }) (λ head. lead_sure name_sure (λ first. record { sure = about_at head first n }))

module _ (One : Owner → ℕ → List Token → Comp × ℕ → List Token → Type 0) (steps : (o : Owner) → Steps (IsFurtherComputation (One o)) is_not_end nothing is_not_end)
    (one : (o : Owner) (n : ℕ) → IsSure (One o n) continues_computation) (called : ℕ → StrId) where
  rule_sure : (k n : ℕ) → IsSure (IsRule called One k n) nothing
  rule_sure k n = lead_sure sees_sure (λ word. then_sure (colon_names _ nothing) (rule_name_sure called k word.from) (λ name. lead_sure sees_sure (λ colon. lead_sure name_sure (λ left.
      then_sure (body_stops (One owner.Rule) n (λ what. is_element_kind what || is_bar_kind what) refl refl _ nothing) (record { sure = right_at }) (λ right. lead_sure (body_sure (One owner.Rule) (steps owner.Rule) (one owner.Rule) n) (λ all. done_sure _))))))

  module _ (found : Spec × ℕ) where
    rule_item_sure : IsSure (IsRuleItem called One found) nothing
    rule_item_sure = lead_sure (rule_sure (length found.0.rules + 1) found.1) (λ item. done_sure _)

    symbol_item_sure : IsSure (IsSymbolItem called One found) nothing
    symbol_item_sure = lead_sure (symbol_sure (One owner.Symbol) (steps owner.Symbol) (one owner.Symbol) found.1) (λ item. done_sure _)

    attr_item_sure : IsSure (IsAttrItem found) nothing
    attr_item_sure = lead_sure attr_sure (λ all. done_sure _)

    term_item_sure : IsSure (IsTermItem found) nothing
    term_item_sure = lead_sure term_sure (λ all. done_sure _)

    chain_item_sure : IsSure (IsChainItem found) nothing
    chain_item_sure = lead_sure chain_sure (λ all. done_sure _)

    -- the other items begin with other words
    to_symbol : (ts us : List Token) (x : Spec × ℕ) → IsSymbolItem called One found ts x us → (y : Spec × ℕ) (vs : List Token) → IsFurtherItem called One found ts y vs → Rests nothing vs → IsSymbolItem called One found ts y vs
    to_symbol ts us x p y vs m r =
        let h = p.first.first in let ms = p.first.between in let head = p.first.value in
        resting vs (symbol_from called One found ts (λ t us n. head_apart key.Rule (λ e. cc) (λ e. cc) ts us ts ms t head n (same_head ts) h) (λ t us n. head_apart key.Attr (λ e. cc) (λ e. cc) ts us ts ms t head n (same_head ts) h)
        (λ t us n. head_apart key.Term (λ e. cc) (λ e. cc) ts us ts ms t head n (same_head ts) h) (λ t us n. head_apart key.Chain (λ e. cc) (λ e. cc) ts us ts ms t head n (same_head ts) h) ts vs y (same_head ts) m) r

    item_at : (ts : List Token) (x : Spec × ℕ) (us : List Token) → IsFurtherItem called One found ts x us → IsOnly (IsFurtherItem called One found) nothing ts x us
    item_at ts x us (grammar.rule p) = only_by (grammar.rule p) (λ y vs m r. resting vs (rule_from called One found ts p.first.between p.first.value p.first.first ts vs y (same_head ts) m) r) (rule_item_sure.sure ts x us p)
    item_at ts x us (grammar.attr p) = only_by (grammar.attr p) (λ y vs m r. resting vs (attr_from called One found ts p.first.between p.first.value p.first.first ts vs y (same_head ts) m) r) (attr_item_sure.sure ts x us p)
    item_at ts x us (grammar.term p) = only_by (grammar.term p) (λ y vs m r. resting vs (term_from called One found ts p.first.between p.first.value p.first.first ts vs y (same_head ts) m) r) (term_item_sure.sure ts x us p)
    item_at ts x us (grammar.chain p) = only_by (grammar.chain p) (λ y vs m r. resting vs (chain_from called One found ts p.first.between p.first.value p.first.first ts vs y (same_head ts) m) r) (chain_item_sure.sure ts x us p)
    item_at ts x us (grammar.symbol p) = only_by (grammar.symbol p) (to_symbol ts us x p) (symbol_item_sure.sure ts x us p)

  spec_sure : IsSure (IsSpec called One) begins_item
  spec_sure = then_sure (done_stops begins_item (λ (found : Spec × ℕ). found.0)) (repeats_sure (item_steps called One) (λ found. record { sure = item_at found }) (no_items, 0)) (λ found. done_sure found.0)

-- a list of tokens derives one specification at most
pub one_spec : (texts : List (List ℕ)) → IsDistinctTexts texts → (tokens : List Token) (first second : Spec) → IsSpecOf texts tokens first → IsSpecOf texts tokens second → first ≡ second
one_spec texts distinct tokens first second p q =
    sym (((spec_sure (IsComputationIn (words_in texts) texts) (computation_steps (words_in texts) texts) (computation_in_sure (words_in texts) texts distinct) (called_in texts)).sure tokens first [] p).only (λ g. g) second [] q (λ g. g)).0
