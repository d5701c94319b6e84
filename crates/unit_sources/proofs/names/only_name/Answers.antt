use Rattle.std.proofs.Common.{◌≡◌, ℕ, ◌<◌, List, [], ◌∷◌, length, Err, ap, arith}
use Rattle.std.proofs.lemmas.Bool.Decides.{nat_tests}
use Rattle.scheme_model.specs.declared.Occ.{Occ}
use Rattle.scheme_model.specs.ExpansionFaults.{BadForm}
use Rattle.scheme_model.specs.Trees.{Tail}
use Rattle.datum_reader.specs.declared.datum.Datum as code
use Rattle.datum_reader.specs.Forms.{place}
use Rattle.datum_reader.specs.Looks.{trees_at}
use Rattle.unit_sources.specs.PartsRead.{only_name}
use Rattle.unit_sources.proofs.names.only_name.Goals as goal

only_long : (place : ℕ → Occ) (ds : List code.Datum) (d : code.Datum) (es : List code.Datum) (end : Tail (List ℕ)) → ds ≡ d ∷ es → 0 < length es → only_name (trees_at place ds) end ≡ Err BadForm
only_long place ds d [] end is h = absurd (omega arith)
only_long place ds d (e ∷ es) end is h = ap (λ (xs : List code.Datum). only_name (trees_at place xs) end) is

pub returns-then-not-is_empty : goal.returns-then-not-is_empty
returns-then-not-is_empty c = λ end dotted.
    let some : 0 < length c.in-Parts.rest.now = grind (arith, nat_tests) in
    only_long (place c.args.home) c.args.parts.now c.in-Parts.first.now c.in-Parts.rest.now end c.in-Parts.ensures some
