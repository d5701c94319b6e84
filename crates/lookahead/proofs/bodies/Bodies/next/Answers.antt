use Rattle.std.proofs.Common.{List, ℕ, Option, Some, sym, ap, ◌∙◌, subst}
use Rattle.std.specs.Vec.Iter.{into_iter_items}
use Rattle.lsp_framing.specs.Taken.{contents}
use Rattle.lookahead.specs.Looked.{Gives, Looked, left_in}
use Rattle.lookahead.proofs.Groups.{gives_first}
use Rattle.lookahead.proofs.bodies.Bodies.next.Goals as goal

pub returns-in_ok-next-in-Some : goal.returns-in_ok-next-in-Some
returns-in_ok-next-in-Some c =
    let rest = contents (into_iter_items c.refill.new.rest) in
    let before = contents (into_iter_items c.self.inside.rest) in
    let all = c.in_ok-refill-in-Some.ensures.all ∙ ap (λ (window : Option (List (List ℕ))). left_in window before) (sym c.in-Some.is) ∙ c.self.view_is in
    subst (λ (bodies : List Looked). Gives bodies c.in_ok-next-in-Some.field-0 (left_in (Some c.next.new.self) rest)) all
    (gives_first c.refill.new.window c.next.new.self rest c.in_ok-next-in-Some.field-0 c.in_ok-refill-in-Some.ensures.few c.in_ok-refill-in-Some.ensures.none c.in_ok-next-in-Some.ensures.oldest)
