-- Tables of texts that have all known words, and what is added to them.
use Rattle.std.specs.Prelude.{◌≡◌, ℕ, ◌+◌, Bool, true, false, not, if◌then◌else◌, List, [], ◌∷◌, ◌++◌, Result, Ok, Err, OnOk, refl}
use Rattle.std.proofs.Common.{sym, ap, subst, ◌∙◌, ◌||◌}
use Rattle.std.specs.List.{list_any, IsDistinct, AllByRecursion}
use Rattle.std.specs.Str.{bytes_eq}
use Rattle.std.proofs.lemmas.Slice.Eq.{bytes_eq-Decides}
use Rattle.lido_base.specs.Reading.{Finds, nothing}
use Rattle.lido_base.specs.Texts.{with_text, IsDistinctTexts}
use Rattle.lido_base.proofs.TextsLemmas.{interned_distinct}
use Rattle.lido_lexer.specs.Lexing.{Gains}
use Rattle.lido_lexer.specs.Seen.{Sees, token, Keys}
use Rattle.lido_lexer.specs.declared.keyword.Keyword.TheVariants as key
use Rattle.lido_lexer.specs.declared.token.Token.{Token}
use Rattle.lido_lexer.specs.declared.token.TokenKind.{TokenKind}
use Rattle.lido_lexer.specs.declared.token.TokenKind.TheVariants as kind
use Rattle.lido_lexer.proofs.Reading.{gains_none, gains_more}
use Rattle.lido_syntax.specs.declared.spec.Name.{Name}
use Rattle.lido_computations.specs.Phrases.{IsName, word}
use Rattle.lido_reader.specs.Items.{is_word, is_word_kind, rule_text}
use Rattle.lido_reader.specs.Specification.{IsLater}
use Rattle.lido_lexer.proofs.TablesLemmas.{interned_none, interned_one, interned_append}
use Rattle.lido_lexer.specs.Tables.{interned}
use Rattle.lido_computations.specs.Functions.{known_words, IsAmong, HasAll, Keeps}
use Rattle.lido_reader.specs.Added.{is_rule, is_rule_kind, lacks_name, called_names, first_names, rule_names, Adds, AddsSome, Owes}
use Rattle.lido_reader.proofs.TextsLemmas.{gains_text}

-- ---- what is added

pub interned_gains : (texts added : List (List ℕ)) → Gains texts (interned texts added)
unfolding interned
interned_gains texts [] = gains_none texts
interned_gains texts (text ∷ added) = gains_more (gains_text texts text) (interned_gains (with_text texts text) added)

-- ---- texts that stand among others

or_left : (a b : Bool) → a ≡ true → (a || b) ≡ true
or_left true b e = refl
or_left false b e = cc

or_right : (a b : Bool) → b ≡ true → (a || b) ≡ true
or_right true b e = refl
or_right false b e = e

among_more : (texts added : List (List ℕ)) (t : List ℕ) → IsAmong texts t → IsAmong (texts ++ added) t
among_more [] added t h = cc
among_more (x ∷ texts) added t h = by (bytes_eq t x) refl h (among_more texts added t)
  where
    by : (b : Bool) → bytes_eq t x ≡ b → (b || list_any (bytes_eq t) texts) ≡ true → (IsAmong texts t → IsAmong (texts ++ added) t) → (bytes_eq t x || list_any (bytes_eq t) (texts ++ added)) ≡ true
    by true e g later = or_left (bytes_eq t x) _ e
    by false e g later = or_right (bytes_eq t x) _ (later g)

-- what stands among some texts stands among more
pub among_gained : (old new : List (List ℕ)) (t : List ℕ) → Gains old new → IsAmong old t → IsAmong new t
among_gained old new t g h = subst (λ z. IsAmong z t) (sym g.behind) (among_more old g.added t h)

same_among : (t : List ℕ) → bytes_eq t t ≡ true
same_among t = (bytes_eq-Decides t t).1 refl

among_last : (texts : List (List ℕ)) (t : List ℕ) → IsAmong (texts ++ t ∷ []) t
among_last [] t = or_left (bytes_eq t t) false (same_among t)
among_last (x ∷ texts) t = or_right (bytes_eq t x) _ (among_last texts t)

with_text_has : (texts : List (List ℕ)) (t : List ℕ) → IsAmong (with_text texts t) t
with_text_has texts t = by (list_any (bytes_eq t) texts) refl
  where
    by : (b : Bool) → list_any (bytes_eq t) texts ≡ b → IsAmong (if b then texts else (texts ++ t ∷ [])) t
    by true e = e
    by false e = among_last texts t

interned_among : (texts added : List (List ℕ)) (name : List ℕ) → IsAmong added name → IsAmong (interned texts added) name
unfolding interned
interned_among texts [] name h = cc
interned_among texts (x ∷ added) name h = by (bytes_eq name x) refl h (interned_among (with_text texts x) added name)
  where
    by : (b : Bool) → bytes_eq name x ≡ b → (b || list_any (bytes_eq name) added) ≡ true → (IsAmong added name → IsAmong (interned (with_text texts x) added) name) → IsAmong (interned (with_text texts x) added) name
    by true e g later = among_gained (with_text texts x) _ name (interned_gains (with_text texts x) added) (subst (λ z. IsAmong (with_text texts x) z) (sym ((bytes_eq-Decides name x).0 e)) (with_text_has texts x))
    by false e g later = later g

-- what is added stands among the texts
pub interned_has : (texts added : List (List ℕ)) → HasAll added (interned texts added)
interned_has texts added = record { each = interned_among texts added }

pub has_all_gained : {names old new : List (List ℕ)} → Gains old new → HasAll names old → HasAll names new
has_all_gained {names} {old} {new} g h = record { each = λ name n. among_gained old new name g (h.each name n) }

-- ---- the names of rules

-- a token that is no RULE adds nothing
pub other_names : (k : ℕ) (t : Token) (ts : List Token) → is_rule t ≡ false → rule_names k (t ∷ ts) ≡ rule_names k ts
unfolding rule_names
other_names k t ts e = rw e refl

-- RULE adds what its rule is called
pub names_of_rule : (k : ℕ) (t : Token) (ts : List Token) → is_rule t ≡ true → rule_names k (t ∷ ts) ≡ called_names k ts ++ rule_names (k + 1) ts
unfolding rule_names
names_of_rule k t ts e = rw e refl

pub first_of_rule : (k : ℕ) (t : Token) (ts : List Token) → is_rule t ≡ true → first_names k (t ∷ ts) ≡ called_names k ts
unfolding first_names
first_of_rule k t ts e = rw e refl

pub first_of_other : (k : ℕ) (t : Token) (ts : List Token) → is_rule t ≡ false → first_names k (t ∷ ts) ≡ []
unfolding first_names
first_of_other k t ts e = rw e refl

-- what the first token adds comes first
pub first_then : (k : ℕ) (ts : List Token) → (more : List (List ℕ)) × (rule_names k ts ≡ first_names k ts ++ more)
unfolding rule_names first_names
first_then k [] = ([], refl)
first_then k (t ∷ ts) = by (is_rule t)
  where
    by : (b : Bool) → (more : List (List ℕ)) × ((if b then (called_names k ts ++ rule_names (k + 1) ts) else rule_names k ts) ≡ (if b then called_names k ts else []) ++ more)
    by true = (rule_names (k + 1) ts, refl)
    by false = (rule_names k ts, refl)

is_rule_of : (t : Token) → (is_rule_kind t.what ≡ true → t.what ≡ kind.Key key.Rule)
is_rule_of t e = by t.what e
  where
    by : (what : TokenKind) → is_rule_kind what ≡ true → what ≡ kind.Key key.Rule
    by (kind.Key key.Rule) e = refl
    by (kind.Key _) e = cc
    by _ e = cc

-- where no RULE comes next, the first token adds nothing
pub first_none : (k : ℕ) (ts : List Token) → ((t : Token) (us : List Token) → Keys key.Rule ts t us → ⊥) → first_names k ts ≡ []
unfolding first_names
first_none k [] none = refl
first_none k (t ∷ ts) none = by (is_rule t) refl
  where
    by : (b : Bool) → is_rule t ≡ b → (if b then called_names k ts else []) ≡ []
    by true e = absurd (none t ts (token (is_rule_of t e)))
    by false e = refl

seen_first : (what : TokenKind) (ts us : List Token) (t : Token) → Sees what ts t us → (ts ≡ t ∷ us) × (t.what ≡ what)
seen_first what ts us t (token e) = (refl, e)

-- behind a RULE
pub first_behind : (k : ℕ) (ts us : List Token) (t : Token) → Finds (Keys key.Rule) nothing ts t us → first_names k ts ≡ called_names k us
first_behind k ts us t f =
    let (begins, is) = seen_first (kind.Key key.Rule) ts us t (subst (λ z. Keys key.Rule z t us) (sym f.parts) (f.phrase us)) in
    ap (first_names k) begins ∙ first_of_rule k t us (ap is_rule_kind is)

name_next : (ts us : List Token) (n : Name) → IsName ts n us → lacks_name ts ≡ false
name_next ts us n (word e) = rw e refl

pub called_named : (k : ℕ) (ts us : List Token) (n : Name) → IsName ts n us → called_names k ts ≡ []
called_named k ts us n p = rw (name_next ts us n p) refl

word_of : (what : TokenKind) → is_word_kind what ≡ true → (id : _) × (what ≡ kind.Word id)
word_of (kind.Word id) e = (id, refl)
word_of _ e = cc

pub no_name_next : (ts : List Token) → ((n : Name) (us : List Token) → IsName ts n us → ⊥) → lacks_name ts ≡ true
no_name_next [] none = refl
no_name_next (t ∷ ts) none = by (is_word t) refl
  where
    by : (b : Bool) → is_word t ≡ b → not b ≡ true
    by true e = let (id, is) = word_of t.what e in absurd (none _ _ (word is))
    by false e = refl

pub called_unnamed : (k : ℕ) (ts : List Token) → ((n : Name) (us : List Token) → IsName ts n us → ⊥) → called_names k ts ≡ rule_text k ∷ []
called_unnamed k ts none = rw (no_name_next ts none) refl

-- ---- what readers of rules and items add

pub on_ok : {X F : Type 0} {P : Type 0} (r : Result X F) → P → OnOk r P
on_ok (Ok x) p = p
on_ok (Err e) p = tt

pub some_of_same : {names old new : List (List ℕ)} → new ≡ old → AddsSome names old new
some_of_same {names} {old} {new} e = record { gains = λ h. subst (λ z. Gains z (interned old names)) (sym e) (interned_gains old names) }

pub some_of_all : {names old new : List (List ℕ)} → Adds names old new → AddsSome names old new
some_of_all {names} {old} {new} a = record { gains = λ h. subst (Gains new) (a.table h) (gains_none new) }

pub adds_then_keeps : {names old mid new : List (List ℕ)} → mid ≡ interned old names → Keeps mid new → Adds names old new
adds_then_keeps {names} {old} {mid} {new} e k = record { table = λ h. k.same (subst (HasAll known_words) (sym e) (has_all_gained (interned_gains old names) h)) ∙ e }

pub adds_these : {names old new : List (List ℕ)} → new ≡ interned old names → Adds names old new
adds_these e = record { table = λ h. e }

-- where nothing is to be added and nothing was
pub adds_nothing : {names old new : List (List ℕ)} → names ≡ [] → Keeps old new → Adds names old new
adds_nothing {names} {old} {new} e k = record { table = λ h. k.same h ∙ sym (interned_none old) ∙ ap (interned old) (sym e) }

pub owes_first : {ts us : List Token} {k j : ℕ} {old mid new : List (List ℕ)} → Owes 1 ts old k us mid → Gains old mid → (vs : List Token) → rule_names k us ≡ first_names k us ++ rule_names j vs
    → Adds (first_names k us) mid new → Owes 1 ts old j vs new
owes_first {ts} {us} {k} {j} {old} {mid} {new} o g vs e a = record { table = λ h. o.table h ∙ ap (interned mid) e ∙ interned_append mid (first_names k us) (rule_names j vs) ∙ ap (λ z. interned z (rule_names j vs)) (sym (a.table (has_all_gained g h))) }

pub owes_some : {ts us : List Token} {k : ℕ} {old mid new : List (List ℕ)} → Owes 1 ts old k us mid → Gains old mid → AddsSome (first_names k us) mid new → AddsSome (rule_names 1 ts) old new
owes_some {ts} {us} {k} {old} {mid} {new} o g a = record {
  gains = λ h.
      let (more, e) = first_then k us in
      let later : Gains new (interned (interned mid (first_names k us)) more) = gains_more (a.gains (has_all_gained g h)) (interned_gains _ more) in
      subst (Gains new) (sym (o.table h ∙ ap (interned mid) e ∙ interned_append mid (first_names k us) more)) later;
}

pub owes_rest : {ts us : List Token} {k : ℕ} {old new : List (List ℕ)} → Owes 1 ts old k us new → AddsSome (rule_names 1 ts) old new
owes_rest {ts} {us} {k} {old} {new} o = record { gains = λ h. subst (Gains new) (sym (o.table h)) (interned_gains new (rule_names k us)) }

pub owes_nothing : {ts us : List Token} {k : ℕ} {old new : List (List ℕ)} → Owes 1 ts old k us new → us ≡ [] → Adds (rule_names 1 ts) old new
unfolding rule_names
owes_nothing {ts} {us} {k} {old} {new} o e = record { table = λ h. sym (o.table h ∙ ap (λ z. interned new (rule_names k z)) e ∙ interned_none new) }

-- a rule's name behind its RULE
pub rule_table : (k : ℕ) (ts us : List Token) (t : Token) (old new : List (List ℕ)) → Finds (Keys key.Rule) nothing ts t us → new ≡ interned old (called_names k us) → new ≡ interned old (first_names k ts)
rule_table k ts us t old new f e = e ∙ ap (interned old) (sym (first_behind k ts us t f))

-- ---- no text stands twice

all_front : {X : Type 0} (P : X → Type 0) (xs ys : List X) → AllByRecursion P (xs ++ ys) → AllByRecursion P xs
all_front P [] ys h = tt
all_front P (x ∷ xs) ys h = (h.0, all_front P xs ys h.1)

distinct_front : (xs ys : List (List ℕ)) → IsDistinctTexts (xs ++ ys) → IsDistinctTexts xs
unfolding IsDistinct
distinct_front [] ys d = tt
distinct_front (x ∷ xs) ys d = (all_front (λ y. bytes_eq x y ≡ false) xs ys d.0, distinct_front xs ys d.1)

pub itself : {texts : List (List ℕ)} → IsDistinctTexts texts → IsLater texts texts
itself {texts} d = record { gains = gains_none texts; distinct = d }

pub later_at : {names old new : List (List ℕ)} → Gains old new → IsDistinctTexts new → AddsSome names old new → HasAll known_words old → IsLater new (interned old names)
later_at {names} {old} {new} g d a h = record { gains = a.gains h; distinct = interned_distinct old names (distinct_front old g.added (subst IsDistinctTexts g.behind d)) }

-- ---- texts that are made one behind the other

pub interned_more : (old mid new names : List (List ℕ)) (t : List ℕ) → mid ≡ interned old names → new ≡ with_text mid t → new ≡ interned old (names ++ t ∷ [])
interned_more old mid new names t a b = b ∙ ap (λ z. with_text z t) a ∙ sym (interned_one (interned old names) t) ∙ sym (interned_append old names (t ∷ []))

pub gains_this : (mid new : List (List ℕ)) (t : List ℕ) → new ≡ with_text mid t → Gains mid new
gains_this mid new t e = subst (Gains mid) (sym e) (gains_text mid t)

pub has_added : {X F : Type 0} (names old new : List (List ℕ)) (r : Result X F) → OnOk r (new ≡ interned old names) → OnOk r (HasAll names new)
has_added names old new (Ok x) e = subst (HasAll names) (sym e) (interned_has old names)
has_added names old new (Err f) e = tt

-- ---- where no text was added before

pub kept_some : {names old new : List (List ℕ)} → Keeps old new → AddsSome names old new
kept_some {names} {old} {new} k = record { gains = λ h. subst (λ z. Gains z (interned old names)) (sym (k.same h)) (interned_gains old names) }

pub kept_then_some : {names old mid new : List (List ℕ)} → Keeps old mid → AddsSome names mid new → AddsSome names old new
kept_then_some {names} {old} {mid} {new} k a = record { gains = λ h. subst (λ z. Gains new (interned z names)) (k.same h) (a.gains (subst (HasAll known_words) (sym (k.same h)) h)) }

pub kept_then_owes : {ts us : List Token} {i j : ℕ} {old mid new : List (List ℕ)} → Keeps old mid → Owes i ts mid j us new → Owes i ts old j us new
kept_then_owes {ts} {us} {i} {j} {old} {mid} {new} k o = record { table = λ h. ap (λ z. interned z (rule_names i ts)) (sym (k.same h)) ∙ o.table (subst (HasAll known_words) (sym (k.same h)) h) }
