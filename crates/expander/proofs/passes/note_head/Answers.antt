use Rattle.std.proofs.Common.{true, refl}
use Rattle.scheme_model.specs.Meaning.{is_keyword}
use Rattle.scheme_model.specs.Order.{LookedUp}
use Rattle.unit_scopes.specs.declared.asked.Note.TheVariants as notes
use Rattle.expander.proofs.PassLaws.{one_noted}
use Rattle.expander.proofs.passes.note_head.Goals as goal

pub returns : goal.returns
returns c = λ ls s fs n h ns stands placed is head found.
    one_noted c.args.work.now ls c.args.asked.now c.push.new.self (notes.LookedUp (record { scope = c.args.spot.scope; ident = c.args.name.ident }) true c.is_keyword.result) (LookedUp (record { frames = fs; ident = n.name }) true (is_keyword h)) ns
    c.in_ok-push.ensures.notes (c.in_ok-push.ensures.stands found.asks) ((placed.at, is.0), refl, c.is_keyword.ensures h head) found
