use Rattle.std.proofs.Common.{[], ◌∷◌, ap, ◌∙◌, refl}
use Rattle.std.specs.Option.{option_map}
use Rattle.scheme_model.specs.Ident.{symbol_of}
use Rattle.rename_model.specs.Walks.{AtQuoted, OfNode, OfName, ShowsSymbol, IsSymbol, node, point}
use Rattle.program_leaves.proofs.AddLaws.{adds_one, adds_both}
use Rattle.alpha_equal.specs.Points.{IsPoint}
use Rattle.alpha_equal.proofs.MeaningLaws.{within}
use Rattle.program_differences.proofs.forms.add_symbol.Goals as goal

pub strip-symbol-requires : goal.strip-symbol-requires
strip-symbol-requires c = within c.args.work.now.symbols.idents c.args.ident c.requires.0 c.requires.1

pub returns : goal.returns
returns c = λ unit form i at.
    let names = c.args.work.now.symbols in
    let P = IsPoint names unit form in
    let told = c.strip-symbol.ensures ∙ ap (option_map symbol_of) at in
    let s = symbol_of i in
    let it = point AtQuoted (OfName IsSymbol s) c.args.occ (ShowsSymbol s) in
    adds_both P c.args.points.now.items c.add_shape.new.points.items c.push.new.self.items (node IsSymbol ∷ []) (it ∷ []) (c.in_ok-add_shape.ensures names unit form (OfNode IsSymbol) refl)
    (adds_one P c.add_shape.new.points.items c.push.new.self.items _ it c.in_ok-push.ensures.items (record { told = record { spot = refl; place = refl; shown = (s, told, refl) }; seen = (s, told, refl) }))
