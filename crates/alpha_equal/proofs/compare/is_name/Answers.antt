use Rattle.std.proofs.Common.{◌≡◌, sym, ap, ◌∙◌, subst}
use Rattle.std.specs.Str.{bytes_eq}
use Rattle.rename_model.specs.Walks as walk
use Rattle.rename_model.specs.Walks.{node_number}
use Rattle.rename_model.specs.SameProgram.{seen_code}
use Rattle.alpha_equal.specs.declared.points.Seen.{Seen}
use Rattle.alpha_equal.specs.Points.{node_as, IsSeen}
use Rattle.alpha_equal.proofs.CompareLaws.{name_same}
use Rattle.alpha_equal.proofs.compare.is_name.Goals as goal

pub returns-then-number : goal.returns-then-number
returns-then-number c = λ unit form text s is seen.
    let names = c.args.work.now.symbols in
    let other = subst (λ (x : Seen). IsSeen names unit form x s) c.in-Name.is seen in
    let kinds : node_number (node_as c.args.kind) ≡ node_number (node_as c.in-Name.other) = sym c.number.ensures ∙ c.if-number.true ∙ c.number-in-Name.ensures in
    name_same names c.told_apart.ensures.symbols (node_number (node_as c.args.kind)) (node_number (node_as c.in-Name.other)) c.args.symbol c.in-Name.second text other.0 is other.1
    kinds
    ∙ ap (λ (x : walk.Seen). bytes_eq (seen_code (walk.OfName (node_as c.args.kind) text)) (seen_code x)) (sym other.2)
