use Rattle.std.proofs.Common.{All, ◌≡◌, ◌<◌, ℕ, false, length, map, take, get_or}
use Rattle.ptg_patterns.specs.declared.written.Written.{Written}
use Rattle.ptg_patterns.specs.Clashes.{IsMixed, CantStand, is_used}
use Rattle.ptg_patterns.specs.First.{HasNoClash}
use Rattle.ptg_patterns.specs.Meaning.{points, pattern_of}
use Rattle.ptg_patterns.proofs.patterns.patterns.Given as goal

abbrev pub invariant-loop-one : goal.invariant-loop-one
invariant-loop-one l = record {
  used : (id : ℕ) → id < length l.strings → get_or l.used.items id false ≡ is_used (take l.one-index l.written) (record { 0 = id });
  size : length l.used.items ≡ length l.strings;
  found : l.found.items ≡ map pattern_of (take l.one-index l.written);
  agree : All (λ (w : Written). HasNoClash IsMixed (points w.items)) (take l.one-index l.written);
  stand : HasNoClash (CantStand l.strings) (take l.one-index l.written);
}
