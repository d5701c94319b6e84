-- No more bodies are counted than a window holds.
use Rattle.std.proofs.Common.{ℕ, ◌≤◌, List, length, take, drop, arith}
use Rattle.std.proofs.lemmas.List.{length-drop, length-map, length-take}
use Rattle.lookahead.specs.Counts.{roles_in}
use Rattle.lookahead.specs.declared.held.Held.{Held}

pub held_few : (held : List Held) → length held ≤ 64 → length (roles_in held) ≤ 64
held_few held few = simp length-map few

pub behind_few : (held : List Held) (place : ℕ) → length held ≤ 64 → length (roles_in (drop 1 (take place held))) ≤ 64
behind_few held place few = simp (length-map, length-drop, length-take) (omega arith)
