use Rattle.std.proofs.Common.{◌≡◌, ℕ, List, [], take, drop}
use Rattle.std.specs.BTreeSet.{contains_text}
use Rattle.unit_sources.specs.Exported.{has_outer, no_exports, put_all}
use Rattle.unit_sources.proofs.exporting.given_all.Given as goal

abbrev pub invariant-loop-place : goal.invariant-loop-place
invariant-loop-place l = record {
  given : put_all l.names l.exports (take l.place l.specs) l.place (drop l.place l.specs) ≡ put_all l.names no_exports [] 0 l.specs;
  seen : (s : List ℕ) → contains_text l.seen s ≡ has_outer (take l.place l.specs) s;
}
