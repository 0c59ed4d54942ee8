use Rattle.boundary_table.specs.Desk.{Held, Missed}
use Rattle.boundary_table.specs.Codes.{code}
use Rattle.boundary_table.proofs.Gets.{missed_first, missed_second, found, got}
use Rattle.std.proofs.Common.{subst, ◌≡◌, ◌≢◌, ◌<◌, ◌*◌, ◌+◌, length, arith, sym, ◌∙◌, ap}
use Rattle.boundary_table.proofs.Lists.{code_nonzero}
use Rattle.boundary_table.proofs.Steps.{loads}
use Rattle.boundary_table.proofs.desk.Boundary.get.Goals as goal

pub load-first-requires : goal.load-first-requires
load-first-requires c =
    let contents = ap (λ h. h.view.contents) c.desk.view_is in
    let table = ap (λ h. h.table) c.desk.view_is ∙ (c.requires.table ∙ sym c.self.view_is) in
    let words = ap (λ t. t.words) table in
    let room : c.args.key < length c.desk.inside.seat.me.0.contents = rw contents c.requires.key in
    (table, omega arith, loads _ _ _ _ _ c.desk.invariant.0 (omega arith))

pub load-second-requires : goal.load-second-requires
load-second-requires c =
    let contents = ap (λ h. h.view.contents) c.desk.view_is in
    let table = ap (λ h. h.table) c.desk.view_is ∙ (c.requires.table ∙ sym c.self.view_is) in
    let words = ap (λ t. t.words) table in
    let room : c.args.key < length c.desk.inside.seat.me.0.contents = rw contents c.requires.key in
    let after = c.load-first.ensures.2.0 in
    (c.load-first.ensures.0 ∙ table, omega arith, loads _ _ _ _ _ (ap (λ m. m.0.stage) after ∙ c.desk.invariant.0) (omega arith))

pub returns-then-first-eq0-clause-not_yet : goal.returns-then-first-eq0-clause-not_yet
returns-then-first-eq0-clause-not_yet c =
    let v = c.desk.inside.seat.me.0 in
    let contents = ap (λ h. h.view.contents) c.desk.view_is in
    let room : c.args.key < length v.contents = rw contents c.requires.key in
    let told = c.load-first.ensures.2 in
    let D : Held → Type 0 = λ h. Missed h (record { table = c.load-first.new.seat.table_id; view = c.load-first.new.seat.me.0 }) c.args.key in
    subst D c.desk.view_is
    (missed_first _ _ v c.load-first.new.seat.me.0 c.args.key c.load-first.result (ap (λ m. m.0) told.0) c.if-first-eq0.true told.2 (code_nonzero v.contents (2 * c.args.key) (omega arith)))

pub returns-then-second-eq0-clause-not_yet : goal.returns-then-second-eq0-clause-not_yet
returns-then-second-eq0-clause-not_yet c =
    let v = c.desk.inside.seat.me.0 in
    let u = c.load-first.new.seat.me.0 in
    let contents = ap (λ h. h.view.contents) c.desk.view_is in
    let told = c.load-second.ensures.2 in
    let before = c.load-first.ensures.2 in
    let same = ap (λ m. m.0.contents) before.0 in
    let room : c.args.key < length v.contents = rw contents c.requires.key in
    let set : code u.contents (2 * c.args.key + 1) ≢ 0 = rw same (code_nonzero v.contents (2 * c.args.key + 1) (omega arith)) in
    let D : Held → Type 0 = λ h. Missed h (record { table = c.load-second.new.seat.table_id; view = c.load-second.new.seat.me.0 }) c.args.key in
    subst D c.desk.view_is
    (missed_second _ _ v u c.load-second.new.seat.me.0 c.args.key c.load-first.result c.load-second.result (ap (λ m. m.0) before.0) (ap (λ m. m.0) told.0) c.if-second-eq0.true told.2 set)

pub returns-clause-value : goal.returns-clause-value
returns-clause-value c =
    let v = c.desk.inside.seat.me.0 in
    let contents = ap (λ h. h.view.contents) c.desk.view_is in
    let room : c.args.key < length v.contents = rw contents c.requires.key in
    let before = c.load-first.ensures.2 in
    let told = c.load-second.ensures.2 in
    let same = ap (λ m. m.0.contents) before.0 in
    let first = found c.load-first.result _ c.if-first-eq0.false before.1 in
    let second : c.load-second.result ≡ code v.contents (2 * c.args.key + 1) = rw (← same) (found c.load-second.result _ c.if-second-eq0.false told.1) in
    let here = got v.contents c.args.key c.load-first.result c.load-second.result c.decode.result room c.desk.invariant.2.1 first second c.decode.ensures in
    rw (← contents) here
