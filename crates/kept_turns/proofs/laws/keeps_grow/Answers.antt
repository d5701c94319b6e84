use Rattle.std.specs.Prelude.{Some, None}
use Rattle.std.proofs.Common.{refl}
use Rattle.kept_forms.specs.Carried.{kept_form}
use Rattle.kept_turns.proofs.NextTurn.{first_ready, second_ready}
use Rattle.kept_turns.proofs.GrowingKept.{aside_more}
use Rattle.kept_turns.proofs.GrowingRests.{rest_more, lefts_more}
use Rattle.kept_turns.proofs.laws.keeps_grow.Goals as goal

pub returns : goal.returns
returns c = record {
  first = λ way known ys zs x s h. first_ready way known ys zs x s h;
  second = λ way known xs s h. second_ready way known xs s h;
  aside = λ way turns known ys zs n k s alone behind old turn. aside_more way turns known ys n zs s None (Some (kept_form k None)) alone refl behind old turn;
  rest = λ way turns known ys zs n k c s aside alone old fits turn. rest_more way turns known n k c zs ys s aside alone fits old turn;
  lefts = λ way turns known ys zs n k c s aside. lefts_more way turns known n k c zs ys s aside;
  forgetting = λ turns v t k parts. refl;
}
