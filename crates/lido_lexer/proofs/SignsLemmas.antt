-- The sign in front.
use Rattle.std.proofs.Common.{◌≡◌, ℕ, ◌≤◌, Bool, true, false, cond, nat_eq, nat_le, ◌&&◌, List, [], ◌∷◌, ◌++◌, length, drop, Option, Some, find, refl, ap, sym, ◌∙◌, true≢false, ◌⊎◌, inl, inr, arith}
use Rattle.std.specs.List.{starts_with, list_all}
use Rattle.std.proofs.lemmas.Slice.Eq.{starts_is}
use Rattle.std.proofs.lemmas.List.{length-append}
use Rattle.std.proofs.lemmas.Bool.Decides.{Decides-eqb, nat_tests}
use Rattle.lido_lexer.specs.declared.sign.Sign.{Sign}
use Rattle.lido_lexer.specs.declared.sign.Sign.TheVariants.{Produces, Arrow, AndAnd, OrOr, EqEq, NotEq, LessEq, GreaterEq, Colon, Semicolon, Comma, Dot, ParenOpen, ParenClose, BracketOpen, BracketClose, BraceOpen, BraceClose, Equal, Plus, Minus, Star, Slash, Percent, Bang, Less, Greater, Bar, Dollar}
use Rattle.lido_lexer.specs.Signs.{sign_spelling, sign_of, signs}

chosen : {X : Type 0} (test : X → Bool) (b : Bool) (x y : X) (more : Option X) → test x ≡ b → (more ≡ Some y → test y ≡ true) → cond b (Some x) more ≡ Some y → test y ≡ true
chosen test true x y more passes later is = cc
chosen test false x y more passes later is = later is

-- what is found passes the test
find_passes : {X : Type 0} (test : X → Bool) (xs : List X) (y : X) → find test xs ≡ Some y → test y ≡ true
find_passes test [] y is = cc
find_passes test (x ∷ xs) y is = chosen test (test x) x y (find test xs) refl (find_passes test xs y) is

-- the sign in front is followed by what stands behind its bytes
pub sign_stands : (bytes : List ℕ) (sign : Sign) → sign_of bytes ≡ Some sign → bytes ≡ sign_spelling sign ++ drop (length (sign_spelling sign)) bytes
unfolding sign_of
sign_stands bytes sign is =
    (starts_is Decides-eqb bytes (sign_spelling sign) (starts_with nat_eq bytes (sign_spelling sign)) refl).0
    (find_passes (λ (s : Sign). starts_with nat_eq bytes (sign_spelling s)) signs sign is)

pub sign_within : (bytes : List ℕ) (sign : Sign) → sign_of bytes ≡ Some sign → length (sign_spelling sign) ≤ length bytes
sign_within bytes sign is = omega (arith, ap length (sign_stands bytes sign is), length-append (sign_spelling sign) (drop (length (sign_spelling sign)) bytes))

-- ---- the longest sign

pub sign_back : (sign : Sign) → sign_of (sign_spelling sign) ≡ Some sign
unfolding sign_of
sign_back Produces = refl
sign_back Arrow = refl
sign_back AndAnd = refl
sign_back OrOr = refl
sign_back EqEq = refl
sign_back NotEq = refl
sign_back LessEq = refl
sign_back GreaterEq = refl
sign_back Colon = refl
sign_back Semicolon = refl
sign_back Comma = refl
sign_back Dot = refl
sign_back ParenOpen = refl
sign_back ParenClose = refl
sign_back BracketOpen = refl
sign_back BracketClose = refl
sign_back BraceOpen = refl
sign_back BraceClose = refl
sign_back Equal = refl
sign_back Plus = refl
sign_back Minus = refl
sign_back Star = refl
sign_back Slash = refl
sign_back Percent = refl
sign_back Bang = refl
sign_back Less = refl
sign_back Greater = refl
sign_back Bar = refl
sign_back Dollar = refl

abbrev IsIn : Sign → List Sign → Type 0
IsIn sign [] = ⊥
IsIn sign (x ∷ xs) = (x ≡ sign) ⊎ IsIn sign xs

found_by : (b : Bool) (x sign : Sign) (more : Option Sign) (xs : List Sign) → (more ≡ Some sign → IsIn sign xs) → cond b (Some x) more ≡ Some sign → (x ≡ sign) ⊎ IsIn sign xs
found_by true x sign more xs later is = inl (cc)
found_by false x sign more xs later is = inr (later is)

found_in : (test : Sign → Bool) (xs : List Sign) (sign : Sign) → find test xs ≡ Some sign → IsIn sign xs
found_in test [] sign is = cc
found_in test (x ∷ xs) sign is = found_by (test x) x sign (find test xs) xs (found_in test xs sign) is

sign_in : (sign : Sign) → IsIn sign signs
unfolding sign_of
sign_in sign = found_in (λ (s : Sign). starts_with nat_eq (sign_spelling sign) (sign_spelling s)) signs sign (sign_back sign)

abbrev within : ℕ → Sign → Bool
within n sign = nat_le (length (sign_spelling sign)) n

-- no sign is shorter than a later one
abbrev falls : List Sign → Bool
falls [] = true
falls (x ∷ xs) = list_all (within (length (sign_spelling x))) xs && falls xs

signs_fall : falls signs ≡ true
signs_fall = refl

left_of : (a b : Bool) → (a && b) ≡ true → a ≡ true
left_of true b is = refl
left_of false b is = is

right_of : (a b : Bool) → (a && b) ≡ true → b ≡ true
right_of true b is = is
right_of false b is = absurd (true≢false (sym is))

at_most : (n : ℕ) (sign : Sign) → within n sign ≡ true → length (sign_spelling sign) ≤ n
at_most n sign test = grind (arith, nat_tests)

later_within : (n : ℕ) (xs : List Sign) (sign : Sign) → list_all (within n) xs ≡ true → IsIn sign xs → length (sign_spelling sign) ≤ n
later_within n [] sign all there = absurd there
later_within n (x ∷ xs) sign all (inl is) = at_most n sign (ap (within n) (sym is) ∙ left_of (within n x) (list_all (within n) xs) all)
later_within n (x ∷ xs) sign all (inr there) = later_within n xs sign (right_of (within n x) (list_all (within n) xs) all) there

longest_by : (b : Bool) (test : Sign → Bool) (x : Sign) (xs : List Sign) (taken other : Sign) → test x ≡ b → test other ≡ true
    → (find test xs ≡ Some taken → IsIn other xs → length (sign_spelling other) ≤ length (sign_spelling taken))
    → list_all (within (length (sign_spelling x))) xs ≡ true → cond b (Some x) (find test xs) ≡ Some taken → (x ≡ other) ⊎ IsIn other xs
    → length (sign_spelling other) ≤ length (sign_spelling taken)
longest_by true test x xs taken other tests passes later all is (inl same) =
    let e : other ≡ taken = sym same ∙ (let w : Some x ≡ Some taken = is in cc) in
    omega (arith, ap (λ (s : Sign). length (sign_spelling s)) e)
longest_by true test x xs taken other tests passes later all is (inr there) =
    let e : x ≡ taken = (let w : Some x ≡ Some taken = is in cc) in
    omega (arith, later_within (length (sign_spelling x)) xs other all there, ap (λ (s : Sign). length (sign_spelling s)) e)
longest_by false test x xs taken other tests passes later all is (inl same) = absurd (true≢false (sym passes ∙ ap test (sym same) ∙ tests))
longest_by false test x xs taken other tests passes later all is (inr there) = later is there

longest_in : (test : Sign → Bool) (xs : List Sign) (taken other : Sign) → falls xs ≡ true → test other ≡ true → find test xs ≡ Some taken → IsIn other xs
    → length (sign_spelling other) ≤ length (sign_spelling taken)
longest_in test [] taken other sorted passes is there = absurd there
longest_in test (x ∷ xs) taken other sorted passes is there =
    longest_by (test x) test x xs taken other refl passes
    (longest_in test xs taken other (right_of (list_all (within (length (sign_spelling x))) xs) (falls xs) sorted) passes)
    (left_of (list_all (within (length (sign_spelling x))) xs) (falls xs) sorted) is there

pub longest_taken : (bytes rest : List ℕ) (taken other : Sign) → sign_of bytes ≡ Some taken → bytes ≡ sign_spelling other ++ rest
    → length (sign_spelling other) ≤ length (sign_spelling taken)
unfolding sign_of
longest_taken bytes rest taken other is front =
    longest_in (λ (s : Sign). starts_with nat_eq bytes (sign_spelling s)) signs taken other signs_fall
    ((starts_is Decides-eqb bytes (sign_spelling other) (starts_with nat_eq bytes (sign_spelling other)) refl).1 rest front) is (sign_in other)
