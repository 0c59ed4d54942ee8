-- A word has one form at most: the first byte tells it.
use Rattle.std.proofs.Common.{◌≡◌, ℕ, Bool, true, false, cond, List, [], ◌∷◌, length, drop, take, nat_eq, nat_le, if◌then◌else◌, is_some, codes, get_or, bytes_eq, Some, None, ap, sym, ◌∙◌, refl, arith, eqb, inl, inr, ⊎_elim, ◌⊎◌, ◌≤◌}
use Rattle.std.specs.Char.{is_ascii_digit}
use Rattle.std.specs.List.{starts_with}
use Rattle.std.specs.Cmp.Lexicographic.{pointwise}
use Rattle.std.proofs.lemmas.Bool.{and_parts, eqb-true, leb-true, ne_eqb, false≢true}
use Rattle.std.proofs.lemmas.Slice.Eq.{bytes_eq-Decides}
use Rattle.job_text.specs.declared.forms.Verb.TheVariants.{Check, Order, Run, Big}
use Rattle.job_text.specs.declared.forms.Form.{Form}
use Rattle.job_text.specs.declared.forms.Form.TheVariants.{First, Count, Workers, Split, Min, Patience}
use Rattle.job_text.specs.Forms.{verb_of, key, is_number, is_value, has_form}

-- the form that a word with this first byte may have
lead : ℕ → Form
lead b = cond (eqb 119 b) Workers (cond (eqb 115 b) Split (cond (eqb 109 b) Min (cond (eqb 112 b) Patience (cond (is_ascii_digit b) Count First))))

front : (k : ℕ) (ks w : List ℕ) → pointwise nat_eq (k ∷ ks) w ≡ true → k ≡ get_or w 0 0
front k ks [] h = absurd (false≢true h)
front k ks (b ∷ w) h = eqb-true k b (and_parts _ _ h).0

-- a word that begins with a key begins with the key's first byte
key_front : (k : ℕ) (ks w : List ℕ) → starts_with nat_eq w (k ∷ ks) ≡ true → k ≡ get_or w 0 0
key_front k ks [] h = absurd (false≢true h)
key_front k ks (b ∷ w) h = front k ks (take (length (k ∷ ks)) (b ∷ w)) h ∙ refl

key_part : (form : Form) (w : List ℕ) → has_form form w ≡ true → starts_with nat_eq w (key form) ≡ true
unfolding has_form
key_part form w h = (and_parts (starts_with nat_eq w (key form)) (is_value form (drop (length (key form)) w)) h).0

value_part : (form : Form) (w : List ℕ) → has_form form w ≡ true → is_value form (drop (length (key form)) w) ≡ true
unfolding has_form
value_part form w h = (and_parts (starts_with nat_eq w (key form)) (is_value form (drop (length (key form)) w)) h).1

digit_front : (w : List ℕ) → is_number w ≡ true → is_ascii_digit (get_or w 0 0) ≡ true
unfolding is_number
digit_front [] h = absurd (false≢true h)
digit_front (b ∷ w) h = (and_parts _ _ (and_parts _ _ h).1).0

digit_lead : (b : ℕ) → is_ascii_digit b ≡ true → lead b ≡ Count
unfolding lead
digit_lead b h =
    let high : b ≤ 57 = leb-true b 57 (and_parts (nat_le 48 b) (nat_le b 57) h).1 in
    let w : eqb 119 b ≡ false = ne_eqb 119 b (λ e. omega arith) in
    let s : eqb 115 b ≡ false = ne_eqb 115 b (λ e. omega arith) in
    let m : eqb 109 b ≡ false = ne_eqb 109 b (λ e. omega arith) in
    let p : eqb 112 b ≡ false = ne_eqb 112 b (λ e. omega arith) in
    rw (w, s, m, p, h)

one_of_four : (a b c d : Bool) → is_some (if a then Some Check else if b then Some Order else if c then Some Run else if d then Some Big else None) ≡ true
    → (a ≡ true) ⊎ ((b ≡ true) ⊎ ((c ≡ true) ⊎ (d ≡ true)))
one_of_four true b c d h = inl refl
one_of_four false true c d h = inr (inl refl)
one_of_four false false true d h = inr (inr (inl refl))
one_of_four false false false true h = inr (inr (inr refl))
one_of_four false false false false h = absurd (false≢true h)

same_front : (w v : List ℕ) → bytes_eq w v ≡ true → get_or w 0 0 ≡ get_or v 0 0
same_front w v h = ap (λ (l : List ℕ). get_or l 0 0) ((bytes_eq-Decides w v).0 h)

verb_lead : (w : List ℕ) → is_some (verb_of w) ≡ true → lead (get_or w 0 0) ≡ First
unfolding lead verb_of
verb_lead w h =
    ⊎_elim (λ e. ap lead (same_front w (codes "check") e))
    (⊎_elim (λ e. ap lead (same_front w (codes "order") e)) (⊎_elim (λ e. ap lead (same_front w (codes "run") e)) (λ e. ap lead (same_front w (codes "big") e))))
    (one_of_four (bytes_eq w (codes "check")) (bytes_eq w (codes "order")) (bytes_eq w (codes "run")) (bytes_eq w (codes "big")) h)

form_lead : (form : Form) (w : List ℕ) → has_form form w ≡ true → lead (get_or w 0 0) ≡ form
unfolding lead
form_lead First w h = verb_lead w (value_part First w h)
form_lead Count w h = digit_lead (get_or w 0 0) (digit_front w (value_part Count w h))
form_lead Workers w h = let e : get_or w 0 0 ≡ 119 = sym (key_front 119 (codes "orkers=") w (key_part Workers w h)) in ap lead e
form_lead Split w h = let e : get_or w 0 0 ≡ 115 = sym (key_front 115 (codes "plit=") w (key_part Split w h)) in ap lead e
form_lead Min w h = let e : get_or w 0 0 ≡ 109 = sym (key_front 109 (codes "in=") w (key_part Min w h)) in ap lead e
form_lead Patience w h = let e : get_or w 0 0 ≡ 112 = sym (key_front 112 (codes "atience=") w (key_part Patience w h)) in ap lead e

pub one_form : (f g : Form) (w : List ℕ) → has_form f w ≡ true → has_form g w ≡ true → f ≡ g
one_form f g w hf hg = sym (form_lead f w hf) ∙ form_lead g w hg
