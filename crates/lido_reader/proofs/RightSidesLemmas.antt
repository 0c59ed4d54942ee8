-- The parts of right sides.
use Rattle.std.specs.Prelude.{◌≡◌, ◌⊎◌, Bool, true, false, IsTrue, List, [], ◌∷◌, refl}
use Rattle.std.proofs.Common.{sym, ap, subst, inl}
use Rattle.lido_base.specs.Reading.{SameHead, GoesOn, Finds, Leads, nothing}
use Rattle.lido_base.specs.declared.ids.StrId.{StrId}
use Rattle.lido_lexer.specs.Seen.{token, Signs, Keys}
use Rattle.lido_lexer.specs.declared.keyword.Keyword.TheVariants as key
use Rattle.lido_lexer.specs.declared.sign.Sign.TheVariants as sign
use Rattle.lido_lexer.specs.declared.token.Token.{Token}
use Rattle.lido_lexer.specs.declared.token.TokenKind.{TokenKind}
use Rattle.lido_lexer.specs.declared.token.TokenKind.TheVariants as kind
use Rattle.lido_syntax.specs.declared.spec.Element.{Element}
use Rattle.lido_syntax.specs.declared.spec.Element.TheVariants as element
use Rattle.lido_computations.specs.Phrases.{Done, Then, word}
use Rattle.lido_reader.specs.Items.{Repeats, IsElement, symbol, literal, IsFurtherElement, IsFurtherListed, AreChoices, IsRight, production, listof, is_element, is_element_kind, is_bar, is_bar_kind, continues_right}
use Rattle.lido_computations.proofs.PhrasesLemmas.{Completable, name_completable, one_finds, IsSaidByHead, IsNeverEmpty, chosen, sees_said, sees_some, sees_completable}
use Rattle.lido_reader.proofs.PartsLemmas.{then_finish, finish, Starts, Steps, repeat_finish, or_left, or_right, seen_goes, seen_apart, unseen_head}

-- ---- elements

element_said : IsSaidByHead IsElement
element_said t us vs x (symbol (word e)) = (refl, (λ ws. symbol (word e)))
element_said t us vs x (literal (token e)) = (refl, (λ ws. literal (token e)))

element_some : IsNeverEmpty IsElement
element_some vs x (symbol n) = elim n [ ]
element_some vs x (literal n) = elim n [ ]

element_same : (t : Token) (us vs ws : List Token) (x y : Element) → IsElement (t ∷ us) x vs → IsElement (t ∷ us) y ws → y ≡ x
element_same t us vs ws x y (symbol (word {id = id} e)) (symbol (word {id = other} d)) = let same : other ≡ id = cc in ap (λ (k : StrId). element.Symbol (record { at = t.from; id = k })) same
element_same t us vs ws x y (symbol (word e)) (literal (token d)) = cc
element_same t us vs ws x y (literal (token e)) (symbol (word d)) = cc
element_same t us vs ws x y (literal {id = id} (token e)) (literal {id = other} (token d)) = let same : other ≡ id = cc in ap (λ (k : StrId). element.Literal k) same

pub element_finds : (ts us : List Token) (x : Element) → IsElement ts x us → Finds IsElement nothing ts x us
element_finds ts us x p = one_finds IsElement nothing element_said element_some element_same ts us x p

pub element_word : (ts us : List Token) (t : Token) (id : StrId) → ts ≡ t ∷ us → t.what ≡ kind.Word id → IsElement ts (element.Symbol (record { at = t.from; id = id })) us
element_word ts us t id e d = subst (λ z. IsElement z (element.Symbol (record { at = t.from; id = id })) us) (sym e) (symbol (word d))

pub element_literal : (ts us : List Token) (t : Token) (id : StrId) → ts ≡ t ∷ us → t.what ≡ kind.Literal id → IsElement ts (element.Literal id) us
element_literal ts us t id e d = subst (λ z. IsElement z (element.Literal id) us) (sym e) (literal (token d))

no_element_at : (t : Token) (us vs : List Token) (x : Element) → ((id : StrId) → t.what ≡ kind.Word id → ⊥) → ((id : StrId) → t.what ≡ kind.Literal id → ⊥) → IsElement (t ∷ us) x vs → ⊥
no_element_at t us vs x a b (symbol (word {id = id} d)) = a id d
no_element_at t us vs x a b (literal {id = id} (token d)) = b id d

pub no_element : (ts us : List Token) (t : Token) → ts ≡ t ∷ us → ((id : StrId) → t.what ≡ kind.Word id → ⊥) → ((id : StrId) → t.what ≡ kind.Literal id → ⊥) → (x : Element) (vs : List Token) → IsElement ts x vs → ⊥
no_element ts us t e a b x vs p = no_element_at t us vs x a b (subst (λ z. IsElement z x vs) e p)

pub element_goes : (ts us : List Token) (x : Element) → IsElement ts x us → GoesOn is_element ts
element_goes ts us x (symbol (word e)) = rw e refl
element_goes ts us x (literal (token e)) = rw e refl

is_element-only : (t : Token) (us : List Token) (k : TokenKind) → t.what ≡ k → IsTrue (is_element_kind k) → (x : Element) × IsElement (t ∷ us) x us
is_element-only t us (kind.Word id) e h = (element.Symbol (record { at = t.from; id = id }), symbol (word e))
is_element-only t us (kind.Literal id) e h = (element.Literal id, literal (token e))
is_element-only t us _ e h = cc

pub no_element_stops : (ts : List Token) → ((x : Element) (us : List Token) → IsElement ts x us → ⊥) → GoesOn is_element ts → ⊥
no_element_stops [] none h = h
no_element_stops (t ∷ ts) none h = let p = is_element-only t ts t.what refl h in none p.0 ts p.1

element_starting : Starts is_element IsFurtherElement
element_starting y z ts us p = element_goes ts p.between p.value p.first

pub element_steps : Steps IsFurtherElement is_element nothing is_element
element_steps = record { starting = element_starting; continues = λ t h. h; apart = λ t h g. cc; wider = λ t g. cc }

-- ---- choices

bar_starting : Starts is_bar IsFurtherListed
bar_starting y z ts us p = seen_goes (kind.Sign sign.Bar) is_bar_kind refl ts p.between p.value p.first

pub bar_steps : Steps IsFurtherListed is_bar nothing is_bar
bar_steps = record { starting = bar_starting; continues = λ t h. h; apart = λ t h g. cc; wider = λ t g. cc }

pub bar_only : (k : TokenKind) → IsTrue (is_bar_kind k) → k ≡ kind.Sign sign.Bar
bar_only (kind.Sign sign.Bar) h = refl
bar_only (kind.Sign _) h = cc
bar_only _ h = cc

pub choices_completable : Completable AreChoices
choices_completable = then_finish name_completable (λ name. repeat_finish bar_steps (element.Symbol name ∷ []))

-- ---- right sides

pub element_continues : (t : Token) → IsTrue (is_element t) → IsTrue (continues_right t)
element_continues t h = or_left (is_element_kind t.what) (is_bar_kind t.what) h

pub bar_continues : (t : Token) → IsTrue (is_bar t) → IsTrue (continues_right t)
bar_continues t h = or_right (is_element_kind t.what) (is_bar_kind t.what) h

abbrev Production : List Token → Bool × List Element → List Token → Type 0
Production = Then (Signs sign.Produces) (λ produces. Then (Repeats IsFurtherElement []) (λ all. Done (false, all)))

abbrev Listof : List Token → Bool × List Element → List Token → Type 0
Listof = Then (Keys key.Listof) (λ word. Then AreChoices (λ all. Done (true, all)))

production_from : (ts us : List Token) (t : Token) → Signs sign.Produces ts t us → (ws vs : List Token) (x : Bool × List Element) → SameHead ts ws → IsRight ws x vs → Production ws x vs ⊎ GoesOn continues_right vs
production_from ts us t n ws vs x s (production p) = inl p
production_from ts us t n ws vs x s (listof p) = absurd (seen_apart (kind.Sign sign.Produces) (kind.Key key.Listof) (λ e. cc) ts us ws p.between t p.value n s p.first)

pub production_leads : (ts us : List Token) (t : Token) → Signs sign.Produces ts t us → Leads Production continues_right ts IsRight continues_right ts
production_leads ts us t n = chosen Production IsRight continues_right ts (λ us vs x p. production p) (production_from ts us t n)

listof_from : (ts : List Token) → ((t : Token) (us : List Token) → Signs sign.Produces ts t us → ⊥) → (ws vs : List Token) (x : Bool × List Element) → SameHead ts ws → IsRight ws x vs → Listof ws x vs ⊎ GoesOn continues_right vs
listof_from ts none ws vs x s (listof p) = inl p
listof_from ts none ws vs x s (production p) = absurd (unseen_head (Signs sign.Produces) (sees_said (kind.Sign sign.Produces)) (sees_some (kind.Sign sign.Produces)) ts ws none s p.value p.between p.first)

pub listof_leads : (ts : List Token) → ((t : Token) (us : List Token) → Signs sign.Produces ts t us → ⊥) → Leads Listof continues_right ts IsRight continues_right ts
listof_leads ts none = chosen Listof IsRight continues_right ts (λ us vs x p. listof p) (listof_from ts none)

pub right_completable : Completable IsRight
right_completable = let p : Completable Production = then_finish (sees_completable (kind.Sign sign.Produces)) (λ produces. then_finish (repeat_finish element_steps []) (λ all. finish)) in
    let (more, x, whole) = p in (more, x, (λ vs. production (whole vs)))
