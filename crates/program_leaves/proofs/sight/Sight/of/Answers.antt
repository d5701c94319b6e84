use Rattle.std.specs.Prelude.{◌||◌}
use Rattle.std.proofs.Common.{◌≡◌, List, map, sym, refl, ap, ◌∙◌, subst, arith}
use Rattle.scheme_model.specs.ProgramArrows.{program_leaves, program_keywords, program_names, any, leaf_at}
use Rattle.program_leaves.specs.declared.sight.LocalNo.{LocalNo}
use Rattle.program_leaves.specs.declared.sight.PlacedLeaf.{PlacedLeaf}
use Rattle.program_leaves.specs.declared.sight.PlacedTarget.{PlacedTarget}
use Rattle.program_leaves.specs.Placed.{local_in, PlacedSeen, placed_of, use_of, units_seen, units_met, AreAllSeen, IsUseOf, place_in}
use Rattle.program_leaves.specs.Sights.{all_names, name_at, use_at}
use Rattle.program_leaves.proofs.PlacedLaws.{units_leaves, units_seen_are}
use Rattle.program_leaves.proofs.ToldLaws.{tells_as, units_told, names_told}
use Rattle.program_leaves.proofs.LocalLaws.{local_law}
use Rattle.program_leaves.proofs.GivenLaws.{units_law}
use Rattle.program_leaves.proofs.LiveLaws.{live_law}
use Rattle.program_leaves.proofs.sight.Sight.of.Goals as goal

pub live_in-requires : goal.live_in-requires
live_in-requires c =
    let w = c.args.work.now in
    let seen = units_seen_are w c.args.program.now.units c.requires in
    let told : map placed_of c.as_slice-2.result.now ≡ units_seen 0 c.args.program.now.units = ap (λ (ls : List PlacedLeaf). map placed_of ls) c.as_slice-2.ensures.value ∙ c.in_ok-leaves.ensures in
    (seen.0, subst (λ (xs : List PlacedSeen). AreAllSeen w xs seen.0) (sym told) seen.1)

pub returns-clause-seen : goal.returns-clause-seen
returns-clause-seen c =
    let w = c.args.work.now in
    let seen = units_seen_are w c.args.program.now.units c.requires in
    (seen.0, subst (λ (xs : List PlacedSeen). AreAllSeen w xs seen.0) (sym c.in_ok-leaves.ensures) seen.1)

pub returns-clause-program : goal.returns-clause-program
returns-clause-program c = λ text uris all p h.
    let w = c.args.work.now in
    let units = c.args.program.now.units in
    let ls = program_leaves p.units in
    let seen = units_leaves w text uris all p 0 units p.units h in
    let leaves_are = subst (λ (xs : List PlacedSeen). AreAllSeen w xs ls) (sym c.in_ok-leaves.ensures) seen in
    let met_are = tells_as (IsUseOf w) (units_met 0 units) (map use_of c.in_ok-met.met.items) (program_keywords p.units) c.in_ok-met.ensures (units_told w text uris all p 0 units p.units h) in
    let names_are = names_told w text uris all p 0 units p.units h in
    let told : map placed_of c.as_slice-2.result.now ≡ map placed_of c.in_ok-leaves.leaves.items = ap (λ (xs : List PlacedLeaf). map placed_of xs) c.as_slice-2.ensures.value in
    let met : map use_of c.as_slice-3.result.now ≡ map use_of c.in_ok-met.met.items = ap (λ (xs : List PlacedTarget). map use_of xs) c.as_slice-3.ensures.value in
    record {
      leaves_are = leaves_are;
      met_are = met_are;
      locals_are = λ u f n.
          let k : LocalNo = record { at = record { unit = u; form = f }; count = n } in
          ap place_in (c.in_ok-locals.ensures k ∙ ap (λ (xs : List PlacedLeaf). local_in (map placed_of xs) k) c.as_slice.ensures.value) ∙ local_law w (map placed_of c.in_ok-leaves.leaves.items) ls k leaves_are;
      definitions_are = λ u n i at.
          c.in_ok-definitions.ensures (record { unit = u; ident = n }) ∙ units_law w c.told_apart.ensures.idents text uris all p 0 u n i units p.units h (omega arith) refl at;
      live_are = λ o.
          c.in_ok-live.ensures ls (subst (λ (xs : List PlacedSeen). AreAllSeen w xs ls) (sym told) leaves_are) o
          ∙ (λ j. (any (leaf_at o) ls || any (use_at o) (met j)) || any (name_at o) (all_names units))
          ∙ live_law w o ls (map use_of c.in_ok-met.met.items) (program_keywords p.units) (all_names units) (program_names all p p.units) met_are names_are;
    }
