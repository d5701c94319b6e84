use Rattle.std.proofs.Common.{◌++◌, List, [], ◌∷◌, Bool, sym, ap, ◌∙◌}
use Rattle.std.specs.Prelude.{if◌then◌else◌}
use Rattle.std.proofs.lemmas.List.{append-nil}
use Rattle.scheme_model.specs.declared.Occ.{Occ}
use Rattle.arrow_index.proofs.BinderLaws.{itself_is}
use Rattle.arrow_index.proofs.binders.add_itself.Goals as goal

pub returns-then-is_among : goal.returns-then-is_among
returns-then-is_among c =
    let o = c.args.occ in
    let is = itself_is c.args.places.now o ∙ ap (λ (b : Bool). if b then o ∷ [] else []) (sym c.is_among.ensures ∙ c.if-is_among.true) in
    c.in_ok-push.ensures.items ∙ ap (λ (q : List Occ). c.args.binders.now.items ++ q) (sym is)

pub returns : goal.returns
returns c =
    let o = c.args.occ in
    let is = itself_is c.args.places.now o ∙ ap (λ (b : Bool). if b then o ∷ [] else []) (sym c.is_among.ensures ∙ c.if-is_among.false) in
    sym (append-nil c.args.binders.now.items) ∙ ap (λ (q : List Occ). c.args.binders.now.items ++ q) (sym is)
