-- The exit status of each status.
use Rattle.std.specs.Prelude.{ℕ}
use Rattle.order_report.specs.declared.status.Status.{Status}
use Rattle.order_report.specs.declared.status.Status.TheVariants as status

-- The exit status that the program ends with.
abbrev pub exit_of : Status → ℕ
exit_of status.Done = 0
exit_of (status.Words index kind) = 1
exit_of status.ReadFault = 2
exit_of (status.WriteFault sink written) = 3
exit_of status.InputTooLong = 4
exit_of status.NoPtg = 5
exit_of status.NoTree = 6
exit_of (status.Spec fault) = 7
exit_of status.Memory = 12
exit_of status.FirstPathOnly = 13
