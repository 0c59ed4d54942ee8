use Rattle.std.proofs.Common.{◌≡◌, ◌∙◌, ◌<◌, ◌++◌, ◌∷◌, [], ◌+◌, List, ℕ, length, sym, ap, subst, arith, length-append}
use Rattle.string_librarian.specs.declared.printing.Pending.{Pending}
use Rattle.string_librarian.specs.Rooms.{all_cells}
use Rattle.string_librarian.specs.Printing.{advanced, all_steps, AreLeft, IsLine}
use Rattle.string_librarian.proofs.PrintingLemmas.{split, ended, printed_part, entered, line_fits}
use Rattle.string_librarian.proofs.ShownLemmas.{fewer_ended, fewer_printed, fewer_entered}
use Rattle.string_librarian.proofs.library.Library.step.Goals as goal

less_at : (f : List Pending → ℕ) (a b x y : List Pending) → a ≡ x → b ≡ y → f x < f y → f a < f b
less_at f a b x y p q h = omega (arith, ap f p, ap f q)

long : (ps : List Pending) (p q : Pending) → length ((ps ++ p ∷ []) ++ q ∷ []) ≡ length ps + 2
long ps p q = omega (arith, length-append (ps ++ p ∷ []) (q ∷ []), length-append ps (p ∷ []))

pub returns-in-End-clause-text : goal.returns-in-End-clause-text
returns-in-End-clause-text c = λ texts bytes line left.
    let old : c.args.pending.now.items ≡ c.pop.new.self.items ++ c.in-Some.top ∷ [] = c.in-Some.ensures.items in
    let k = ended c.args.self.now c.args.patterns.now.list texts c.pop.new.self.items c.in-Some.top bytes
    (subst (λ l. IsLine c.args.self.now c.args.patterns.now.list texts l) old line)
    (subst (λ l. AreLeft c.args.self.now c.args.patterns.now.list texts l bytes) old left)
    (λ b l. c.in-End.ensures.shows texts b l) in
    (k.rest, k.parts, k.left, k.line)

pub returns-in-End-clause-smaller : goal.returns-in-End-clause-smaller
returns-in-End-clause-smaller c =
    let old : c.args.pending.now.items ≡ c.pop.new.self.items ++ c.in-Some.top ∷ [] = c.in-Some.ensures.items in
    let fewer = fewer_ended c.args.self.now c.args.patterns.now.list [] (all_cells c.args.self.now) c.pop.new.self.items c.in-Some.top in
    omega (arith, fewer, ap (λ l. all_steps c.args.self.now c.args.patterns.now.list (all_cells c.args.self.now) l) old)

pub returns-in-Print-clause-text : goal.returns-in-Print-clause-text
returns-in-Print-clause-text c = λ texts bytes line left.
    let old : c.args.pending.now.items ≡ c.pop.new.self.items ++ c.in-Some.top ∷ [] = c.in-Some.ensures.items in
    let new : c.push_reserved.new.self.items ≡ c.pop.new.self.items ++ advanced c.in-Some.top ∷ []
    = c.push_reserved.ensures.items ∙ ap (λ p. c.pop.new.self.items ++ p ∷ []) c.advanced.ensures in
    let k = printed_part c.args.self.now c.args.patterns.now.list texts c.pop.new.self.items c.in-Some.top c.in-Print.output bytes
    (subst (λ l. IsLine c.args.self.now c.args.patterns.now.list texts l) old line)
    (subst (λ l. AreLeft c.args.self.now c.args.patterns.now.list texts l bytes) old left)
    (λ b l. c.in-Print.ensures.shows texts b l) in (
      k.rest,
      k.parts,
      subst (λ l. AreLeft c.args.self.now c.args.patterns.now.list texts l k.rest) (sym new) k.left,
      subst (λ l. IsLine c.args.self.now c.args.patterns.now.list texts l) (sym new) k.line,
    )

pub returns-in-Print-clause-smaller : goal.returns-in-Print-clause-smaller
returns-in-Print-clause-smaller c =
    let old : c.args.pending.now.items ≡ c.pop.new.self.items ++ c.in-Some.top ∷ [] = c.in-Some.ensures.items in
    let new : c.push_reserved.new.self.items ≡ c.pop.new.self.items ++ advanced c.in-Some.top ∷ []
    = c.push_reserved.ensures.items ∙ ap (λ p. c.pop.new.self.items ++ p ∷ []) c.advanced.ensures in
    let r = c.requires.ready in
    let s = split c.args.self.now c.args.patterns.now.list r.0 c.pop.new.self.items c.in-Some.top r.1
    (subst (λ l. AreLeft c.args.self.now c.args.patterns.now.list r.0 l r.1) old r.3) in
    less_at (λ l. all_steps c.args.self.now c.args.patterns.now.list (all_cells c.args.self.now) l) _ _ _ _ new old
    (fewer_printed c.args.self.now c.args.patterns.now.list r.0 (all_cells c.args.self.now) c.pop.new.self.items c.in-Some.top
    (c.in-Print.ensures.shows r.0 s.front s.last).3)

pub push_reserved-requires-in-Enter-2 : goal.push_reserved-requires-in-Enter-2
push_reserved-requires-in-Enter-2 c =
    let old : c.args.pending.now.items ≡ c.pop.new.self.items ++ c.in-Some.top ∷ [] = c.in-Some.ensures.items in
    let r = c.requires.ready in
    let k = entered c.args.self.now c.args.patterns.now.list r.0 c.pop.new.self.items c.in-Some.top c.begun.result c.in-Enter.desc r.1
    (subst (λ l. IsLine c.args.self.now c.args.patterns.now.list r.0 l) old r.2)
    (subst (λ l. AreLeft c.args.self.now c.args.patterns.now.list r.0 l r.1) old r.3)
    c.begun.ensures.desc (λ b l. c.in-Enter.ensures.shows r.0 b l) (λ b d h. c.begun.ensures.left r.0 b d h) in
    let fits = line_fits c.args.self.now c.args.patterns.now.list r.0 _ k.line in
    let size = long c.pop.new.self.items (advanced c.in-Some.top) c.begun.result in
    let room = c.requires.room in
    omega (arith, fits, size, room, c.pop.ensures.capacity, c.push_reserved-in-Enter.ensures.capacity, c.push_reserved-in-Enter.ensures.len)

pub returns-in-Enter-clause-text : goal.returns-in-Enter-clause-text
returns-in-Enter-clause-text c = λ texts bytes line left.
    let old : c.args.pending.now.items ≡ c.pop.new.self.items ++ c.in-Some.top ∷ [] = c.in-Some.ensures.items in
    let first : c.push_reserved-in-Enter.new.self.items ≡ c.pop.new.self.items ++ advanced c.in-Some.top ∷ []
    = c.push_reserved-in-Enter.ensures.items ∙ ap (λ p. c.pop.new.self.items ++ p ∷ []) c.advanced-in-Enter.ensures in
    let new : c.push_reserved-in-Enter-2.new.self.items ≡ (c.pop.new.self.items ++ advanced c.in-Some.top ∷ []) ++ c.begun.result ∷ []
    = c.push_reserved-in-Enter-2.ensures.items ∙ ap (λ l. l ++ c.begun.result ∷ []) first in
    let k = entered c.args.self.now c.args.patterns.now.list texts c.pop.new.self.items c.in-Some.top c.begun.result c.in-Enter.desc bytes
    (subst (λ l. IsLine c.args.self.now c.args.patterns.now.list texts l) old line)
    (subst (λ l. AreLeft c.args.self.now c.args.patterns.now.list texts l bytes) old left)
    c.begun.ensures.desc (λ b l. c.in-Enter.ensures.shows texts b l) (λ b d h. c.begun.ensures.left texts b d h) in (
      k.rest,
      k.parts,
      subst (λ l. AreLeft c.args.self.now c.args.patterns.now.list texts l k.rest) (sym new) k.left,
      subst (λ l. IsLine c.args.self.now c.args.patterns.now.list texts l) (sym new) k.line,
    )

pub returns-in-Enter-clause-smaller : goal.returns-in-Enter-clause-smaller
returns-in-Enter-clause-smaller c =
    let old : c.args.pending.now.items ≡ c.pop.new.self.items ++ c.in-Some.top ∷ [] = c.in-Some.ensures.items in
    let first : c.push_reserved-in-Enter.new.self.items ≡ c.pop.new.self.items ++ advanced c.in-Some.top ∷ []
    = c.push_reserved-in-Enter.ensures.items ∙ ap (λ p. c.pop.new.self.items ++ p ∷ []) c.advanced-in-Enter.ensures in
    let new : c.push_reserved-in-Enter-2.new.self.items ≡ (c.pop.new.self.items ++ advanced c.in-Some.top ∷ []) ++ c.begun.result ∷ []
    = c.push_reserved-in-Enter-2.ensures.items ∙ ap (λ l. l ++ c.begun.result ∷ []) first in
    let r = c.requires.ready in
    let below = subst (λ l. AreLeft c.args.self.now c.args.patterns.now.list r.0 l r.1) old r.3 in
    let s = split c.args.self.now c.args.patterns.now.list r.0 c.pop.new.self.items c.in-Some.top r.1 below in
    let k = entered c.args.self.now c.args.patterns.now.list r.0 c.pop.new.self.items c.in-Some.top c.begun.result c.in-Enter.desc r.1
    (subst (λ l. IsLine c.args.self.now c.args.patterns.now.list r.0 l) old r.2) below
    c.begun.ensures.desc (λ b l. c.in-Enter.ensures.shows r.0 b l) (λ b d h. c.begun.ensures.left r.0 b d h) in
    let fits = line_fits c.args.self.now c.args.patterns.now.list r.0 _ k.line in
    let size = long c.pop.new.self.items (advanced c.in-Some.top) c.begun.result in
    less_at (λ l. all_steps c.args.self.now c.args.patterns.now.list (all_cells c.args.self.now) l) _ _ _ _ new old
    (fewer_entered c.args.self.now c.args.patterns.now.list r.0 (all_cells c.args.self.now) c.pop.new.self.items c.in-Some.top c.begun.result c.in-Enter.desc
    (omega (arith, fits, size)) c.begun.ensures.desc c.begun.ensures.next (c.in-Enter.ensures.shows r.0 s.front s.last).7)
