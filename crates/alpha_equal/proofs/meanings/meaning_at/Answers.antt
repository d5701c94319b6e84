use Rattle.std.proofs.Common.{refl}
use Rattle.alpha_equal.proofs.meanings.meaning_at.Goals as goal

pub returns : goal.returns
returns c = λ table unit form m knows is. record {
  told = record { spot = refl; place = refl; shown = (m, is, refl) };
  seen = c.seen_of-seen.ensures table unit form m knows is;
}
