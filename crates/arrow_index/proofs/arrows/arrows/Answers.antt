use Rattle.arrow_index.proofs.arrows.arrows.Goals as goal

pub arrows_seen-requires : goal.arrows_seen-requires
arrows_seen-requires c = c.in_ok-sight.ensures.seen

pub returns : goal.returns
returns c = λ text uris all p h. c.in_ok-arrows_seen.ensures text uris all p h (c.in_ok-sight.ensures.program text uris all p h)
