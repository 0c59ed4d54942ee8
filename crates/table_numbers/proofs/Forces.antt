-- What is in force in a plain rule, as a list of computations, by the entries that the tables hold of it.
use Rattle.std.specs.Prelude.{Contains, ◌↔◌, slice_get}
use Rattle.std.specs.List.{AllZip}
use Rattle.std.proofs.Common.{◌≡◌, ℕ, zero, suc, inl, inr, List, [], ◌∷◌, refl, ap, sym, subst, ◌∙◌}
use Rattle.std.proofs.lemmas.Option.{same_Some}
use Rattle.lido_base.proofs.Lists.{contains-nil, contains-cons, contains-here, contains-later, place-contains}
use Rattle.lido_base.specs.declared.ids.AttrId.{AttrId}
use Rattle.flat_grammar.specs.declared.flat.FlatAttr.{FlatAttr}
use Rattle.lido_syntax.specs.declared.spec.Comp.{Comp}
use Rattle.lido_syntax.specs.declared.spec.RuleItem.{RuleItem}
use Rattle.lido_syntax.specs.declared.spec.SymbolItem.{SymbolItem}
use Rattle.lido_syntax.specs.declared.spec.Typed1.{Typed1}
use Rattle.lido_syntax.specs.Computation.{Goal, Synthesized, Inherited, Start, Behind, Output, Message, Holder, IsGoalAt}
use Rattle.rule_tables.specs.declared.table.Tables.{Tables as Rows}
use Rattle.rule_tables.specs.declared.table.SymbolRow.{SymbolRow}
use Rattle.rule_tables.specs.declared.forced.Force.{Force as Entry}
use Rattle.rule_tables.specs.declared.forced.Goal.TheVariants as goal
use Rattle.rule_tables.specs.declared.forced.Goal.{Goal as Aim}
use Rattle.rule_tables.specs.PlainRules.{PlainRule}
use Rattle.rule_tables.specs.Forced.{Force, IsForced, AreForced}
use Rattle.rule_tables.specs.ForcedOf.{IsAttributeAt, IsChainAt, IsGoalAs, IsEntryOf, AreEntriesOf}
use Rattle.need_graphs.specs.Users.{TellComputations}
use Rattle.flat_laws.proofs.ForcedLemmas.{Stands, in_rule, in_symbol, in_class, stands, computation-of, goal-at}

module _ (t : Rows) (tell : TellComputations t.spec) (apart : (c : Comp) (r : RuleItem) (item : SymbolItem) → Contains t.spec.rules r → Contains r.body c → Contains t.spec.symbols item → Contains item.body c → ⊥) where
  -- one attribute of a row has one name, and one place one chain
  attribute-same : (x : ℕ) (id : AttrId) (a b : ℕ) → IsAttributeAt t x id a → IsAttributeAt t x id b → a ≡ b
  attribute-same x id a b (row, attr, at, there, is) (other, second, at', there', is') =
      let same : other ≡ row = same_Some other row (sym at' ∙ at) in
      let one : attr ≡ second = same_Some attr second (sym there ∙ ap (λ (z : SymbolRow). slice_get z.attrs id.0) (sym same) ∙ there') in
      sym is ∙ ap (λ (z : FlatAttr). z.name.0) one ∙ is'

  chain-same : (i c d : ℕ) → IsChainAt t i c → IsChainAt t i d → c ≡ d
  chain-same i c d (x, at, is) (y, at', is') = sym is ∙ ap (λ (z : Typed1). z.name.id.0) (same_Some x y (sym at ∙ at')) ∙ is'

  -- what an entry's goal says, case by case
  data Shape (x : ℕ) : Aim → Goal → Type 0 where
    of_synthesized : {id : AttrId} {a : ℕ} → IsAttributeAt t x id a → Shape x (goal.Attr id) (Synthesized a)
    of_inherited : {id : AttrId} {a : ℕ} → IsAttributeAt t x id a → Shape x (goal.Attr id) (Inherited a)
    of_start : {i c : ℕ} → IsChainAt t i c → Shape x (goal.Start i) (Start c)
    of_behind : {i c : ℕ} → IsChainAt t i c → Shape x (goal.Behind i) (Behind c)
    of_out : Shape x goal.Out Output
    of_message : {j m : ℕ} → j ≡ m → Shape x (goal.Message j) (Message m)

  shape : (x : ℕ) (g : Aim) (a : Goal) → IsGoalAs t x g a → Shape x g a
  shape x (goal.Attr id) (Synthesized a) h = of_synthesized h
  shape x (goal.Attr id) (Inherited a) h = of_inherited h
  shape x (goal.Attr id) (Start c) h = absurd h
  shape x (goal.Attr id) (Behind c) h = absurd h
  shape x (goal.Attr id) Output h = absurd h
  shape x (goal.Attr id) (Message m) h = absurd h
  shape x (goal.Start i) (Synthesized a) h = absurd h
  shape x (goal.Start i) (Inherited a) h = absurd h
  shape x (goal.Start i) (Start c) h = of_start h
  shape x (goal.Start i) (Behind c) h = absurd h
  shape x (goal.Start i) Output h = absurd h
  shape x (goal.Start i) (Message m) h = absurd h
  shape x (goal.Behind i) (Synthesized a) h = absurd h
  shape x (goal.Behind i) (Inherited a) h = absurd h
  shape x (goal.Behind i) (Start c) h = absurd h
  shape x (goal.Behind i) (Behind c) h = of_behind h
  shape x (goal.Behind i) Output h = absurd h
  shape x (goal.Behind i) (Message m) h = absurd h
  shape x goal.Out (Synthesized a) h = absurd h
  shape x goal.Out (Inherited a) h = absurd h
  shape x goal.Out (Start c) h = absurd h
  shape x goal.Out (Behind c) h = absurd h
  shape x goal.Out Output h = of_out
  shape x goal.Out (Message m) h = absurd h
  shape x (goal.Message j) (Synthesized a) h = absurd h
  shape x (goal.Message j) (Inherited a) h = absurd h
  shape x (goal.Message j) (Start c) h = absurd h
  shape x (goal.Message j) (Behind c) h = absurd h
  shape x (goal.Message j) Output h = absurd h
  shape x (goal.Message j) (Message m) h = of_message h

  -- what an entry stands for at one occurrence is one
  shapes-same : (x o : ℕ) (g : Aim) (a b : Goal) → Shape x g a → Shape x g b → IsGoalAt o a → IsGoalAt o b → a ≡ b
  shapes-same x o _ _ _ (of_synthesized h) (of_synthesized k) i j = ap Synthesized (attribute-same x _ _ _ h k)
  shapes-same x o _ _ _ (of_inherited h) (of_inherited k) i j = ap Inherited (attribute-same x _ _ _ h k)
  shapes-same x zero _ _ _ (of_synthesized h) (of_inherited k) i j = absurd j
  shapes-same x (suc o) _ _ _ (of_synthesized h) (of_inherited k) i j = absurd i
  shapes-same x zero _ _ _ (of_inherited h) (of_synthesized k) i j = absurd i
  shapes-same x (suc o) _ _ _ (of_inherited h) (of_synthesized k) i j = absurd j
  shapes-same x o _ _ _ (of_start h) (of_start k) i j = ap Start (chain-same _ _ _ h k)
  shapes-same x o _ _ _ (of_behind h) (of_behind k) i j = ap Behind (chain-same _ _ _ h k)
  shapes-same x o _ _ _ of_out of_out i j = refl
  shapes-same x o _ _ _ (of_message h) (of_message k) i j = ap Message (sym h ∙ k)

  goal-same : (x o : ℕ) (g : Aim) (a b : Goal) → IsGoalAs t x g a → IsGoalAs t x g b → IsGoalAt o a → IsGoalAt o b → a ≡ b
  goal-same x o g a b h k = shapes-same x o g a b (shape x g a h) (shape x g b k)

  -- a computation stands in a rule, or in a symbol's body
  holder-same : (r q : RuleItem) (s u : ℕ) (c : Comp) (h k : Holder) → Contains t.spec.rules r → Contains t.spec.rules q → Stands t.spec r s c h → Stands t.spec q u c k → h ≡ k
  holder-same r q s u c _ _ m n (in_rule a) (in_rule b) = refl
  holder-same r q s u c _ _ m n (in_rule a) (in_symbol (item, mi, e, mc)) = absurd (apart c r item m a mi mc)
  holder-same r q s u c _ _ m n (in_rule a) (in_class class heir (item, mi, e, mc)) = absurd (apart c r item m a mi mc)
  holder-same r q s u c _ _ m n (in_symbol (item, mi, e, mc)) (in_rule b) = absurd (apart c q item n b mi mc)
  holder-same r q s u c _ _ m n (in_class class heir (item, mi, e, mc)) (in_rule b) = absurd (apart c q item n b mi mc)
  holder-same r q s u c _ _ m n (in_symbol a) (in_symbol b) = refl
  holder-same r q s u c _ _ m n (in_symbol a) (in_class class heir b) = refl
  holder-same r q s u c _ _ m n (in_class class heir a) (in_symbol b) = refl
  holder-same r q s u c _ _ m n (in_class class heir a) (in_class other heir' b) = refl

  module _ (p : PlainRule) where
    -- an entry stands for one computation in force
    force-same : (e : Entry) (f g : Force) → IsForced t.spec p f → IsForced t.spec p g → IsEntryOf t p e f → IsEntryOf t p e g → f ≡ g
    force-same e f g (r, s, of_r, at, force) (q, u, of_q, there, other) of_f of_g =
        let m = place-contains t.spec.rules p.rule r of_r in
        let n = place-contains t.spec.rules p.rule q of_q in
        let a = stands t.spec r f.occ s f.goal f.holder f.comp force in
        let b = stands t.spec q g.occ u g.goal g.holder g.comp other in
        let occs : f.occ ≡ g.occ = sym of_f.occ ∙ of_g.occ in
        let symbols : of_g.symbol ≡ of_f.symbol = same_Some of_g.symbol of_f.symbol (sym of_g.at ∙ of_f.at) in
        let comps : f.comp ≡ g.comp = tell f.comp g.comp (computation-of t.spec r m s f.comp f.holder a) (computation-of t.spec q n u g.comp g.holder b) (sym of_f.number ∙ of_g.number) in
        let goals : f.goal ≡ g.goal = goal-same of_f.symbol f.occ e.goal f.goal g.goal of_f.goal (subst (λ x. IsGoalAs t x e.goal g.goal) symbols of_g.goal)
        (goal-at t.spec r f.occ s f.goal f.holder f.comp force) (subst (λ o. IsGoalAt o g.goal) (sym occs) (goal-at t.spec q g.occ u g.goal g.holder g.comp other)) in
        let holders : f.holder ≡ g.holder = holder-same r q s u f.comp f.holder g.holder m n a (subst (λ c. Stands t.spec q u c g.holder) (sym comps) b) in
        λ i. record { occ = occs i; goal = goals i; holder = holders i; comp = comps i }

    -- for each entry what it stands for
    record Chosen (es : List Entry) : Type 0 where
      forces : List Force
      sound : (f : Force) → Contains forces f → IsForced t.spec p f
      for_each : (e : Entry) → Contains es e → (f : Force) × Contains forces f × IsEntryOf t p e f

    chosen : (es : List Entry) → ((e : Entry) → Contains es e → (f : Force) × IsForced t.spec p f × IsEntryOf t p e f) → Chosen es
    chosen [] each = record { forces = []; sound = λ f m. absurd (contains-nil f m); for_each = λ e m. absurd (contains-nil e m) }
    chosen (e ∷ es) each =
        let (f, forced, of) = each e (contains-here e es) in
        let rest = chosen es (λ d m. each d (contains-later e d es m)) in
        record {
          forces = f ∷ rest.forces;
          sound = λ g m. elim (contains-cons f g rest.forces m) [ inl is ↦ subst (IsForced t.spec p) is forced | inr k ↦ rest.sound g k ];
          for_each = λ d m. elim (contains-cons e d es m) [
            | inl is ↦ (f, contains-here f rest.forces, subst (λ z. IsEntryOf t p z f) is of)
            | inr k ↦ (let (g, there, its) = rest.for_each d k in (g, contains-later f g rest.forces there, its))
          ];
        }

    forces-of : (es : List Entry) → AreEntriesOf t p es → (fs : List Force) × ((f : Force) → Contains fs f ↔ IsForced t.spec p f)
    forces-of es are =
        let all = chosen es are.each in (
          all.forces,
          λ f. (
            all.sound f,
            λ forced. (let (e, m, of) = are.all f forced in
                let (g, there, its) = all.for_each e m in
                subst (Contains all.forces) (force-same e g f (all.sound g there) forced its of) there),
          ),
        )

  -- for all plain rules
  pub all-forces : (ps : List PlainRule) (ess : List (List Entry)) → AllZip (AreEntriesOf t) ps ess → (fss : List (List Force)) × AreForced t.spec ps fss
  all-forces [] [] all = ([], tt)
  all-forces [] (es ∷ ess) all = absurd all
  all-forces (p ∷ ps) [] all = absurd all
  all-forces (p ∷ ps) (es ∷ ess) all =
      let (fs, here) = forces-of p es all.0 in
      let (fss, later) = all-forces ps ess all.1 in
      (fs ∷ fss, (here, later))
