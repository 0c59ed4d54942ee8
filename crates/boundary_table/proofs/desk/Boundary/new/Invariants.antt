use Rattle.std.proofs.Common.{◌≡◌, ◌+◌, vec_len, All}
use Rattle.boundary_table.specs.Desk.{desk_of}
use Rattle.boundary_table.proofs.desk.Boundary.new.Given as goal

-- each call picks the contents that it was given
abbrev pub ghosts-open : goal.ghosts-open
ghosts-open g a = record { chosen = g.C.Contents.contents a.of.now; owners = g.C.Contents.owners a.of.now }

abbrev pub invariant-loop : goal.invariant-loop
invariant-loop g l =
    (l.desk ≡ desk_of l.boundary-inside.table.shared.table_id (g.C.Contents.contents l.fn.of) (g.C.Contents.owners l.fn.of))
    × (vec_len l.all + 1 ≡ l.counter)
    × All (λ d. d ≡ desk_of l.boundary-inside.table.shared.table_id (g.C.Contents.contents l.fn.of) (g.C.Contents.owners l.fn.of)) l.all.items
