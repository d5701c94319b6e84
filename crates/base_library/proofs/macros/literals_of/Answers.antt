use Rattle.std.proofs.Common.{List, ℕ, [], map, take, Bor, arith}
use Rattle.datum_reader.proofs.Growing.{names_on}
use Rattle.base_library.specs.Sketched.{IsNamed}
use Rattle.base_library.proofs.MacroLaws.{named_kept, each_more}
use Rattle.base_library.proofs.macros.literals_of.Goals as goal

pub loop-name-preserved : goal.loop-name-preserved
loop-name-preserved c =
    let l = c.loop-name in
    let names = c.args.names.now in
    let new = c.literal.new.symbols in
    let id = c.in_ok-id.ensures in (
      names_on c.args.symbols.now l.symbols new l.invariant.0 id.keeps,
      each_more (IsNamed new) (λ (s : Bor (List ℕ)). s.now) names l.name-index (record { ref_ptr = (0, 0); now = [] }) (omega arith) l.ids c.push.new.self c.in_ok-id.id c.in_ok-push.ensures.ok
          (named_kept l.symbols new id.keeps l.ids (map (λ (s : Bor (List ℕ)). s.now) (take l.name-index names)) l.invariant.1) id.id,
    )
